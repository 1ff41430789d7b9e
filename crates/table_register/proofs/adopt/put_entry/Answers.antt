-- `table_register::adopt::put_entry`: three words, and the pair's words copied.
-- Assumes nothing.
use Prim.Native.Nat.{◌+◌, ◌-◌}
use native.Mathlib.Omega.{arith}
use mathlib.Core.Path.{refl, ◌∙◌, ap}
use Rattle.host_words.specs.Words.{pair_of}
use Rattle.table_words.specs.TableWords.{pair_at}
use Rattle.table_register.proofs.Changing.{placed}
use Rattle.table_register.proofs.adopt.put_entry.Goals as goal

pub returns : goal.returns
returns c =
    let a = c.args in
    placed a.words.now a.k c.from.result a.card.first a.card.size c.requires.0 c.requires.1 (omega (arith, c.from.ensures))
    (pair_at a.k + 67 - pair_at a.k) (omega arith) _ _ c.copy_from_slice.ensures.len
    (λ l. ap pair_of c.copy_from_slice.ensures.after)
    ∙ rw c.from.ensures refl
