-- A replay from fragments for C: what is said of a line as a number, and what is written of it.
use Rattle.std.specs.Prelude.{ℕ, cond, List, [], ◌∷◌, ltb, Some, None, Ok, Err}
use Rattle.refusal.specs.Reason.{number}
use Rattle.host.specs.Host.{answer_words}
use Rattle.replay_text.specs.Reply.{Reply}
use Rattle.replay_text.specs.Feeding.{ClosedStep}

-- 1 where a line is answered, 0 where none is, and else the call's refusal.
abbrev pub reply_number : Reply → ℕ
reply_number (Ok (Some a)) = 1
reply_number (Ok None) = 0
reply_number (Err reason) = number reason

-- The answer's words where a line is answered; else what was there stays.
abbrev pub reply_words : Reply → List ℕ → List ℕ
reply_words (Ok (Some a)) before = answer_words a
reply_words (Ok None) before = before
reply_words (Err reason) before = before

-- The totals, unless the closing is refused: then what was there stays.
abbrev pub totals_unless_refused : ClosedStep → List ℕ → List ℕ
totals_unless_refused step before =
    cond (ltb 1 (reply_number step.reply)) before
    (step.totals.messages ∷ step.totals.bytes ∷ step.totals.completed ∷ [])
