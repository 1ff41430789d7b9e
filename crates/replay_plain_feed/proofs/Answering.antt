-- What the plain host says of a line is what the first host says of it, with the pair that the plain one stands for.
-- An opened plain pair stands for a fresh one. Assumes nothing but the lengths of a plain pair's arrays.
use mathlib.Core.Path.{◌≡◌, refl, sym, ap, ◌∙◌}
use mathlib.Core.List.{List}
use Prim.Native.Nat.{ℕ}
use borrow.Author.Tests.{eq-eqb, ne_eqb}
use lib.ListN.{take}
use Rattle.std.proofs.Common.{Option, Result, Ok, Err}
use Rattle.refusal.specs.declared.Reason.{Reason}
use Rattle.refusal.specs.declared.Reason.TheVariants.{ReplayClosed}
use Rattle.host.specs.declared.Answer.{Answer}
use Rattle.replay_text.specs.declared.line.Totals.{Totals}
use Rattle.replay_text.proofs.place.Steps.{closing}
use Rattle.bitmap.specs.Marks.{marks_of}
use Rattle.hexadecimal.specs.declared.line.Line.{Line}
use Rattle.host.specs.Host.{Received, fresh, unchanged, refused}
use Rattle.host_plain.specs.declared.PlainPair.{PlainPair}
use Rattle.host_plain.specs.declared.PlainStepped.{PlainStepped}
use Rattle.host_plain.specs.Plain as plain
use Rattle.host_equal.specs.Described.{TypedPlain, word_of, pair_of_plain}
use Rattle.host_equal.proofs.Equality.{received_of_plain, receive-commutes}
use Rattle.replay_text.specs.Report.{line_refusal, answered_line}

module _ (q : PlainPair) (line : Line) (frame memory : List ℕ) (number : ℕ) (n : number ≡ line_refusal line) where
  abbrev pub Says : PlainStepped → List ℕ → Type 0
  Says r left =
      (r.answer ≡ (answered_line (pair_of_plain q) line frame memory).answer)
      × ((pair_of_plain r.pair ≡ (answered_line (pair_of_plain q) line frame memory).pair)
      × (left ≡ (answered_line (pair_of_plain q) line frame memory).memory))

  -- a line that is no frame
  pub refused-line : (number ≡ 0 → ⊥) → Says (record { pair = q; answer = refused number 0 }) memory
  unfolding answered_line
  refused-line h =
      let e : answered_line (pair_of_plain q) line frame memory
      ≡ unchanged (pair_of_plain q) memory (refused number 0) =
      rw (← n, ne_eqb number 0 h) in (
        sym (ap (λ (r : Received). r.answer) e),
        (sym (ap (λ (r : Received). r.pair) e), sym (ap (λ (r : Received). r.memory) e)),
      )

  -- a line that is one
  pub received-line : number ≡ 0 → TypedPlain q → (f : List ℕ) → f ≡ take line.len frame
      → (r : PlainStepped) → r ≡ plain.stepped_of (plain.receive_of q f memory)
      → (left : List ℕ) → left ≡ (plain.receive_of q f memory).memory
      → Says r left
  unfolding answered_line
  received-line z typed f f-is r r-is left left_is =
      let e : answered_line (pair_of_plain q) line frame memory ≡ received_of_plain (plain.receive_of q f memory) =
      rw (← n, eq-eqb number 0 z, ← f-is) (receive-commutes q typed f memory) in (
        ap (λ (s : PlainStepped). s.answer) r-is ∙ sym (ap (λ (x : Received). x.answer) e),
        (
          ap (λ (s : PlainStepped). pair_of_plain s.pair) r-is ∙ sym (ap (λ (x : Received). x.pair) e),
          left_is ∙ sym (ap (λ (x : Received). x.memory) e),
        ),
      )

pub opened-fresh : pair_of_plain (plain.opened_of 1 2).pair ≡ fresh 1 2
unfolding pair_of_plain word_of marks_of plain.opened_of plain.fresh fresh
opened-fresh = refl

-- a closing that is refused was so before its answer was joined to it
pub closing-refused : (answer : Option Answer) (end : Result Totals Reason) → closing answer end ≡ Err ReplayClosed
    → end ≡ Err ReplayClosed
closing-refused answer (Ok totals) e = let none : ⊥ = cc in absurd none
closing-refused answer (Err reason) e = let r : reason ≡ ReplayClosed = cc in rw r
