-- On every card that a run reaches, a step finishes what the rules' sentence says of the card as it stands, and the
-- marks are that sentence. Assumes nothing.
use Prim.Native.Nat.{ℕ, ◌+◌, ◌<◌}
use native.Mathlib.Decide.{dec_lt}
use native.Mathlib.Omega.{arith}
use mathlib.Core.Path.{◌≡◌, refl, sym, ap, ◌∙◌}
use mathlib.Core.Bool.{Bool, true, false, true≢false, ◌&&◌, ◌||◌}
use borrow.Author.Tests.{lt-ltb, le-ltb}
use lib.Dec.{ltb}
use Rattle.bitmap.specs.Marks.{mark, marks_of}
use Rattle.bitmap.proofs.Marks.{mark-marks_of, marks_of-lt, mark-ext}
use Rattle.card.specs.Window.{acknowledging}
use Rattle.card.specs.declared.Sending.{Sending}
use Rattle.card.specs.Sendings.{opened, sending_at, all_added, passing, finishing}
use Rattle.card.specs.Finished.{is_released, lies_released, is_finished, finishing_by}
use Rattle.card.specs.declared.Card.{Card}
use Rattle.card.specs.Card.{acknowledged}
use Rattle.card.specs.Reachable.{Reachable}
use Rattle.card.proofs.Keeping.{near-unreleased, finished-now}
use Rattle.card.proofs.Cases.{stale, stale-differs}

same-marks : (n : ℕ) (p q : ℕ → Bool) → ((i : ℕ) → p i ≡ q i) → marks_of n p ≡ marks_of n q
same-marks n p q e =
    mark-ext n (marks_of n p) (marks_of n q) (marks_of-lt n p) (marks_of-lt n q)
    (λ i h. mark-marks_of n p i h ∙ e i ∙ sym (mark-marks_of n q i h))

-- A step that reads acknowledgements asks only for the frames that it releases. What it finishes is what the rules'
-- sentence says of the window that it leaves.
pub by_state : (c : Card) (start count : ℕ) → Reachable c
    → (acknowledged c start count).sendings ≡ finishing_by (acknowledging c.window start count) c.sendings
unfolding acknowledged finishing finishing_by
by_state c start count r =
    ap (passing c.sendings)
    (same-marks 32 _ _
    (finished-now c.sendings c.window c.limit start count r.sendings r.window r.settled))

-- The marks of a reachable card, and so of the card after its opening and after every step, are the rules' sentence.
pub marks-are : (c : Card) → Reachable c → (i : ℕ)
    → mark c.sendings.finished i ≡ is_finished c.window c.sendings i
unfolding is_finished lies_released
marks-are c r i =
    go (dec_lt i (opened c.sendings)) (mark c.sendings.finished i) refl (all_added e) refl
  where
    e : Sending
    e = sending_at c.sendings (c.sendings.lowest.0 + i)

    go : Dec (i < opened c.sendings) → (m : Bool) → mark c.sendings.finished i ≡ m → (a : Bool) → all_added e ≡ a
        → m ≡ (ltb i (opened c.sendings) && (m || (a && is_released c.window e.frame.0)))
    go (no l) m x a y =
        rw (le-ltb i (opened c.sendings) (omega arith))
        (sym x ∙ r.sendings.unopened-clear i (omega arith))
    go (yes l) true x a y = rw (lt-ltb i (opened c.sendings) l)
    go (yes l) false x false y = rw (lt-ltb i (opened c.sendings) l)
    go (yes l) false x true y =
        rw (
          lt-ltb i (opened c.sendings) l,
          near-unreleased c.window e.frame.0 (r.settled.full-waits i l x y),
        )

-- No run reaches the card of Cases.antt of which the sentence holds and which has no mark.
pub stale-unreached : Reachable stale → ⊥
stale-unreached r = true≢false (sym (marks-are stale r 0 ∙ stale-differs.0) ∙ stale-differs.1)
