-- The pairs of every table that typed calls leave are as the host's own rules leave them. Assumes nothing.
use Prim.Native.Nat.{ℕ, ◌^◌, ◌<◌}
use mathlib.Core.List.{List, [], ◌∷◌}
use lib.ListN.{take}
use Rattle.table.specs.Table.{open_table}
use Rattle.table.specs.Reachable.{PairsReachable}
use Rattle.table.specs.Calls.{
  Call,
  registers,
  adopts,
  removes,
  comes,
  Site,
  open_site,
  lent_length,
  site_step_for,
  site_after_for,
  TypedCall,
  TypedCalls,
  site_step,
  site_after,
}
use Rattle.table.proofs.Reachable.{register-pairs, remove-pairs, receive-pairs, open-pairs}
use Rattle.table.proofs.Adopting.{adopt-pairs}
use Rattle.table.proofs.Calls.{call-own}

call-pairs : (w : Site) (x : Call) → w.table.own < 2 ^ 16 → TypedCall x → PairsReachable w.table
    → PairsReachable (site_step w x).table
unfolding site_step_for
call-pairs w (registers s first size lent) h ty r =
    register-pairs w.table r s first size (lent_length w lent) h ty
call-pairs w (adopts p first size lent) h ty r = adopt-pairs w.table r p ty first size (lent_length w lent)
call-pairs w (removes s) h ty r = remove-pairs w.table r s
call-pairs w (comes f lent) h ty r = receive-pairs w.table r f (take lent w.memory) ty

calls-pairs : (w : Site) (xs : List Call) → w.table.own < 2 ^ 16 → TypedCalls xs → PairsReachable w.table
    → PairsReachable (site_after w xs).table
unfolding site_after_for
calls-pairs w [] h ty r = r
calls-pairs w (x ∷ xs) h ty r =
    calls-pairs (site_step w x) xs (rw (call-own w x) h) ty.1 (call-pairs w x h ty.0 r)

-- from the opening on
pub pairs-after : (own : ℕ) (memory : List ℕ) (xs : List Call) → own < 2 ^ 16 → TypedCalls xs
    → PairsReachable (site_after (open_site own memory) xs).table
unfolding open_table
pairs-after own memory xs h ty = calls-pairs (open_site own memory) xs h ty (open-pairs own)
