-- Bytes in no region never change. Assumes nothing.
use Prim.Native.Nat.{ℕ, suc, ◌+◌, ◌≤◌, ◌<◌}
use native.Mathlib.Decide.{ℕ_discrete, dec_lt, dec_le}
use native.Mathlib.Omega.{arith}
use mathlib.Core.Path.{◌≡◌, refl, ◌∙◌, ap}
use mathlib.Core.Logic.{◌⊎◌, inl, inr}
use mathlib.Core.List.{List, [], ◌∷◌}
use lib.ListN.{length, get_or, set}
use lib.Seq.{sets, get_or-set_other}
use Rattle.wire.specs.Reading.{source}
use Rattle.table.specs.Table.{Entry, place_of, entry_of}
use Rattle.table.specs.Reachable.{place}
use Rattle.table.specs.Calls.{
  Call,
  registers,
  adopts,
  removes,
  comes,
  Site,
  open_site,
  site_step,
  site_after,
  site_step_for,
  site_after_for,
}
use Rattle.table.specs.Isolation.{Within, NeverWithin, OutsideStays}
use Rattle.table.proofs.Calls.{at_pair, refusal_of, refused-memory, reached-memory, pair-length}

-- stores elsewhere leave a byte as it is
pub sets-elsewhere : (x b : ℕ) (vs m : List ℕ) → (x < b) ⊎ (b + length vs ≤ x)
    → get_or (sets m b vs) x 0 ≡ get_or m x 0
sets-elsewhere x b [] m h = refl
sets-elsewhere x b (v ∷ vs) m (inl h) =
    sets-elsewhere x (suc b) vs (set m b v) (inl (omega arith)) ∙ get_or-set_other m b x v 0 (λ q. omega arith)
sets-elsewhere x b (v ∷ vs) m (inr h) =
    sets-elsewhere x (suc b) vs (set m b v) (inr (omega arith)) ∙ get_or-set_other m b x v 0 (λ q. omega arith)

aside : (x a k : ℕ) → ((a ≤ x) × (x < a + k) → ⊥) → (x < a) ⊎ (a + k ≤ x)
aside x a k n = go (dec_lt x a) (dec_le (a + k) x)
  where
    go : Dec (x < a) → Dec (a + k ≤ x) → (x < a) ⊎ (a + k ≤ x)
    go (yes h) e = inl h
    go (no h) (yes e) = inr e
    go (no h) (no e) = absurd (n (omega arith, omega arith))

one-call : (x : ℕ) (w : Site) (c : Call) → ((k : ℕ) → Within x (place w.table k) → ⊥)
    → get_or (site_step w c).memory x 0 ≡ get_or w.memory x 0
unfolding site_step_for
one-call x w (registers r first size lent) n = refl
one-call x w (adopts p first size lent) n = refl
one-call x w (removes r) n = refl
one-call x w (comes f lent) n = go (ℕ_discrete (refusal_of w f lent) 0)
  where
    e : Entry
    e = entry_of w.table (source f)

    go : Dec (refusal_of w f lent ≡ 0) → get_or (site_step w (comes f lent)).memory x 0 ≡ get_or w.memory x 0
    go (no z) = ap (λ (m : List ℕ). get_or m x 0) (refused-memory w f lent z)
    go (yes z) =
        ap (λ (m : List ℕ). get_or m x 0) (reached-memory w f lent z)
        ∙ sets-elsewhere x e.first (at_pair w f).memory w.memory
        (rw (pair-length w f lent z) (aside x e.first e.size (n (place_of w.table.entries (source f)))))

all-calls : (x : ℕ) (w : Site) (xs : List Call) → NeverWithin x w xs
    → get_or (site_after w xs).memory x 0 ≡ get_or w.memory x 0
unfolding site_after_for
all-calls x w [] n = refl
all-calls x w (c ∷ cs) n = all-calls x (site_step w c) cs n.1 ∙ one-call x w c n.0

pub outside-stays : OutsideStays
outside-stays own x m xs n = all-calls x (open_site own m) xs n
