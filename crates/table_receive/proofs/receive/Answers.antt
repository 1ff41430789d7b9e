-- `table_receive::receive`: the table's own refusals, then the host's receiving on the parts of the words and of the
-- memory.
-- Assumes nothing.
use Prim.Native.Nat.{◌+◌, ◌-◌}
use native.Mathlib.Omega.{arith}
use mathlib.Core.Path.{refl, sym, ◌∙◌}
use Rattle.refusal.proofs.Numbers.{number-positive}
use Rattle.table_words.specs.TableWords.{pair_at}
use Rattle.table_receive.proofs.Placing.{stays, arrived}
use Rattle.table_receive.proofs.receive.Goals as goal

pub returns-in-Err : goal.returns-in-Err
returns-in-Err c =
    let a = c.args in (
      λ l. stays a.words.now a.f.now a.memory.now _ _ c.in-Err.ensures.refusal
          (λ z. omega (arith, number-positive c.in-Err.reason, z))
          (c.refusing-in-Err.ensures ∙ rw c.number-in-Err.ensures refl),
      λ n. absurd (n c.if-words-ne-TABLE_WORDS.false),
      λ q. refl,
    )

pub returns-in-Ok : goal.returns-in-Ok
returns-in-Ok c =
    let a = c.args in
    let r = c.in-Ok.field-0 in
    arrived a.words.now a.f.now a.memory.now r.place r.first r.size c.in-Ok.ensures.reached
    (sym c.in-Ok.ensures.refusal) (pair_at r.place + 67 - pair_at r.place)
    (r.first + r.size - r.first) (omega arith) (omega arith) c.if-words-ne-TABLE_WORDS.false _ _ _
    c.receive_in_place.auto.words c.receive_in_place.auto.memory c.receive_in_place.ensures
