-- `table_register::put_place`: three words, and the pair's words lent to opening.
-- Assumes nothing.
use Prim.Native.Nat.{◌+◌, ◌-◌}
use native.Mathlib.Omega.{arith}
use mathlib.Core.Path.{refl, ◌∙◌}
use Rattle.table_words.specs.TableWords.{pair_at}
use Rattle.table_register.proofs.Changing.{placed}
use Rattle.table_register.proofs.put_place.Goals as goal

pub returns : goal.returns
returns c =
    let a = c.args in
    placed a.words.now a.k c.from.result a.card.first a.card.size c.requires.0 c.requires.1 (omega (arith, c.from.ensures))
    (pair_at a.k + 67 - pair_at a.k) (omega arith) _ _ c.open_in_place.auto.w
    (λ l. (c.open_in_place.ensures.0 l).0)
    ∙ rw c.from.ensures refl
