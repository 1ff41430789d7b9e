-- Why isolation has its premises: for each a pair of lists at the rules' table that meets all the others, where the
-- conclusion is false. Assumes nothing.
use Prim.Native.Nat.{ℕ}
use native.Mathlib.Omega.{arith}
use mathlib.Core.Path.{◌≡◌, refl, ap}
use mathlib.Core.Bool.{false}
use mathlib.Core.List.{List, [], ◌∷◌}
use lib.ListN.{get_or, replicate}
use Rattle.table.specs.Table.{region}
use Rattle.table.specs.Calls.{
  Call,
  registers,
  removes,
  comes,
  Site,
  open_site,
  site_step,
  site_after,
  Told,
  refusing,
  answering,
  told_to,
  keeps_registered,
}
use Rattle.table.specs.Isolation.{Agree, Gives}
use Rattle.table.proofs.Worked.{number_of, frame}
use Rattle.table.proofs.Wrong.{wrongly}

-- ---- answers

number_at : ℕ → List Told → ℕ
number_at k l = number (get_or l k (refusing 0))
  where
    number : Told → ℕ
    number (refusing r) = r
    number (answering a) = number_of a

-- The same list over memories of two lengths: the registering is refused at the shorter one.
registers_one : List Call
registers_one = registers 2 0 40 40 ∷ []

one-length : Agree 2 registers_one registers_one
    × (told_to 2 (open_site 1 (replicate 40 0)) registers_one ≡ told_to 2 (open_site 1 (replicate 39 0)) registers_one → ⊥)
unfolding wrongly registers_one number_at
one-length = (
  refl,
  λ q.
      let z : ◌≡◌ {A = ℕ} 0 31 = ap (number_at 0) q in
      omega arith,
)

-- Two lists that differ only in the length lent with the card's frame, which gets 31 where that is too short.
abbrev lending : ℕ → List Call
lending lent = registers 2 0 20 40 ∷ comes (frame 2 4 0) lent ∷ []

lengths-lent : told_to 2 (open_site 1 (replicate 40 0)) (lending 40)
    ≡ told_to 2 (open_site 1 (replicate 40 0)) (lending 19) → ⊥
unfolding wrongly number_at
lengths-lent q =
    let z : ◌≡◌ {A = ℕ} 0 31 = ap (number_at 1) q in
    omega arith

-- ---- bytes

-- Card 3 is registered with bytes 0 to 19 of 40.
abbrev start : Site
start = open_site 1 (replicate 40 0)

abbrev three : Call
three = registers 3 0 20 40

-- Card 3 is removed, and card 4 gets its region: card 4's frame writes there.
over_region : List Call → List Call
over_region xs = removes 3 ∷ registers 4 0 20 40 ∷ xs

until-removal : Gives 3 0 20 start three
    × Agree 3 (over_region (comes (frame 4 4 0) 40 ∷ [])) (over_region [])
    × (keeps_registered 3 (over_region (comes (frame 4 4 0) 40 ∷ [])) ≡ false)
    × (region 0 20 (site_after (site_step start three) (over_region (comes (frame 4 4 0) 40 ∷ []))).memory
    ≡ region 0 20 (site_after (site_step start three) (over_region [])).memory → ⊥)
unfolding wrongly over_region
until-removal = (
  (refl, refl, refl, refl),
  refl,
  refl,
  λ q.
      let z : ◌≡◌ {A = ℕ} 170 0 = ap (λ (l : List ℕ). get_or l 0 0) q in
      omega arith,
)

-- Card 4 has the bytes behind card 3's region: they do not stay.
beside : List Call → List Call
beside xs = registers 4 20 20 40 ∷ xs

its-region-only : Gives 3 0 20 start three
    × Agree 3 (beside (comes (frame 4 4 0) 40 ∷ [])) (beside [])
    × (region 0 21 (site_after (site_step start three) (beside (comes (frame 4 4 0) 40 ∷ []))).memory
    ≡ region 0 21 (site_after (site_step start three) (beside [])).memory → ⊥)
unfolding wrongly beside
its-region-only = (
  (refl, refl, refl, refl),
  refl,
  λ q.
      let z : ◌≡◌ {A = ℕ} 170 0 = ap (λ (l : List ℕ). get_or l 20 0) q in
      omega arith,
)

-- The two memories differ in the region at the registering, and so they do after it.
equal-at-first : region 0 20 (site_step (open_site 1 (1 ∷ replicate 39 0)) three).memory
    ≡ region 0 20 (site_step start three).memory → ⊥
unfolding wrongly
equal-at-first q =
    let z : ◌≡◌ {A = ℕ} 1 0 = ap (λ (l : List ℕ). get_or l 0 0) q in
    omega arith

-- ---- bytes in no region

-- Byte 0 is in no region at the opening; card 3 gets it, and writes there.
never-within : get_or (site_after start (three ∷ comes (frame 3 4 0) 40 ∷ [])).memory 0 0
    ≡ get_or (replicate 40 0) 0 0 → ⊥
unfolding wrongly
never-within q =
    let z : ◌≡◌ {A = ℕ} 170 0 = q in
    omega arith
