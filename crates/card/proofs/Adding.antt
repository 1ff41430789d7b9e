-- What it means that a transaction takes a message.
-- Assumes nothing.
use mathlib.Core.Path.{◌≡◌}
use mathlib.Core.Bool.{true, and-eq-true_iff}
use Prim.Native.Nat.{ℕ, zero, suc, ◌+◌, ◌<◌}
use native.Mathlib.Omega.{arith}
use borrow.Author.Tests.{ltb-true, ne_eqb}
use Rattle.seq.specs.Ring.{trans_space, in_range}
use Rattle.wire.specs.Format.{needed}
use Rattle.card.specs.declared.Sendings.{Sendings}
use Rattle.card.specs.Sendings.{opened, sending_at, takes}

needed-fits : (count : ℕ) → count < 65536 → needed count < 65536
unfolding needed
needed-fits zero h = omega arith
needed-fits (suc n) h = rw (ne_eqb (suc n) 0 (omega arith)) h

-- it is opened, and more messages of it are to be added
module _ (s : Sendings) (t : ℕ) (e : takes s t ≡ true) where
  pub takes-opened : in_range trans_space s.lowest.0 (opened s) t ≡ true
  unfolding takes
  takes-opened = ((and-eq-true_iff (in_range trans_space s.lowest.0 (opened s) t) _).0 e).0

  pub takes-lacks : (sending_at s t).added < needed (sending_at s t).count
  unfolding takes
  takes-lacks = ltb-true _ _ ((and-eq-true_iff (in_range trans_space s.lowest.0 (opened s) t) _).0 e).1

  -- so that one message more fits the field
  pub takes-room : (sending_at s t).count < 65536 → (sending_at s t).added + 1 < 65536
  takes-room h = omega (arith, takes-lacks, needed-fits (sending_at s t).count h)
