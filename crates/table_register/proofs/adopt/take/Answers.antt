-- `table_register::adopt::take`: not registered, or the pair's words copied.
-- Assumes nothing.
use Prim.Native.Nat.{◌+◌, ◌-◌}
use native.Mathlib.Omega.{arith}
use mathlib.Core.Path.{refl}
use Rattle.table_words.specs.TableWords.{pair_at}
use Rattle.table_register.proofs.adopt.Adopting.{both_right, takes_out, take_none, take-unknown, taken}
use Rattle.table_register.proofs.adopt.take.Goals as goal

pub returns-then-source-eq0 : goal.returns-then-source-eq0
returns-then-source-eq0 c =
    let a = c.args in
    takes_out _ _ _ _ _ (λ p q. (take_none a.words.now a.source c.if-source-eq0.true, λ z. absurd (omega arith)))
    (both_right a.words.now a.pair.now c.if-words-ne-TABLE_WORDS.false c.if-pair-ne-WORDS.false) (λ n. refl)

pub returns-in_default : goal.returns-in_default
returns-in_default c =
    let a = c.args in
    takes_out _ _ _ _ _ (λ p q. (
      take-unknown a.words.now a.source c.if-source-eq0.false _ refl c.in_default.ensures.none,
      λ z. absurd (omega arith),
    ))
    (both_right a.words.now a.pair.now c.if-words-ne-TABLE_WORDS.false c.if-pair-ne-WORDS.false)
    (λ n. refl)

pub returns : goal.returns
returns c =
    let a = c.args in
    let k = c.in-Some.k in
    let t = taken a.words.now a.source c.if-source-eq0.false k c.in-Some.ensures.some.0 _
    (pair_at k + 67 - pair_at k) c.in-Some.ensures.some.1 (omega arith) c.copy_from_slice.ensures.after in
    takes_out _ _ _ _ _ (λ p q. (t.0, λ z. t.1))
    (both_right a.words.now a.pair.now c.if-words-ne-TABLE_WORDS.false c.if-pair-ne-WORDS.false)
    (λ n. absurd (n refl))
