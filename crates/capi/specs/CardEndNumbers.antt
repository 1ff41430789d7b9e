-- A card for C: a number that is handed back only where a step is not refused, and parts of buffers as numbers.
use Rattle.std.specs.Prelude.{ℕ, cond, List, [], ◌∷◌, eqb}
use Rattle.card_send.specs.declared.show.Part.{Part}
use Rattle.card_send.specs.Choices.{Choice}

-- Where a step is refused, what was there stays.
abbrev pub unless_refused : ℕ → ℕ → ℕ → ℕ
unless_refused refusal number before = cond (eqb refusal 0) number before

-- Where a part starts in its buffer, and how long it is.
abbrev pub part_numbers : Part → List ℕ
part_numbers p = p.offset ∷ p.len ∷ []

-- The same behind 1 for the lent acknowledgement and 0 for the slots.
abbrev pub choice_numbers : Choice → List ℕ
choice_numbers c = cond c.lent 1 0 ∷ part_numbers c.part
