-- What isolation shuts out: for each wrong table two lists that agree for a card, after which the card's answers or its
-- region's bytes differ; or a byte in no region that changes. Assumes nothing.
use Prim.Native.Nat.{ℕ, zero, suc}
use native.Mathlib.Omega.{arith}
use mathlib.Core.Path.{◌≡◌, refl, ap}
use mathlib.Core.List.{List, [], ◌∷◌}
use lib.ListN.{get_or, replicate}
use Rattle.host.specs.declared.Answer.{Answer}
use Rattle.host.specs.declared.Answer.TheVariants.{Accepted, Again, NoMessages, Refused}
use Rattle.host.specs.Host.{fresh}
use Rattle.table.specs.Table.{Entry, no_entry}
use Rattle.table.specs.TableEnd.{specified_table}
use Rattle.table.specs.Calls.{
  Call,
  registers,
  comes,
  Told,
  refusing,
  answering,
  told_to_for,
  is_removal,
  keeps_registered,
}
use Rattle.table.specs.Isolation.{purge, IsolatedFor, Within, OutsideStaysFor}
use Rattle.table.specs.WrongTables.{
  with_registering,
  with_receiving,
  received_by,
  unless_refused,
  shares_pair,
  lends_one_more,
  counts_from_start,
  registered_as,
  judges_first_byte,
}
use Rattle.table.proofs.Worked.{computed, frame}

abbrev memory : List ℕ
memory = replicate 40 0

-- One name that unfolds what the lists below run through.
unfoldable pub wrongly : Unit {0}
unfolding computed told_to_for is_removal keeps_registered purge received_by unless_refused registered_as
wrongly = tt

-- ---- answers

-- Accepted is 1, again 2, anything else 3.
kind_of : Answer → ℕ
kind_of (Accepted n sums run) = 1
kind_of (Again n run) = 2
kind_of NoMessages = 3
kind_of (Refused r) = 3

kind : Told → ℕ
kind (refusing r) = 0
kind (answering a) = kind_of a

-- Card 2 has bytes 0 to 19, card 3 the other 20.
abbrev both : List Call → List Call
both xs = registers 2 0 20 40 ∷ registers 3 20 20 40 ∷ xs

-- Card 3's frame 0 is accepted, but answered "again" where card 2's frame 0 came before.
not-shares_pair : IsolatedFor (with_receiving shares_pair) → ⊥
unfolding wrongly shares_pair kind kind_of
not-shares_pair d =
    let z : ◌≡◌ {A = ℕ} 2 1 =
    ap (λ (l : List Told). kind (get_or l 2 (refusing 0)))
    (d.0 1 3 memory memory (both (comes (frame 2 4 0) 40 ∷ comes (frame 3 4 0) 40 ∷ []))
    (both (comes (frame 3 4 0) 40 ∷ [])) refl refl) in
    omega arith

-- ---- bytes

-- Card 2's data ends one past its region: byte 20, the first of card 3's.
not-lends_one_more : IsolatedFor (with_receiving lends_one_more) → ⊥
unfolding wrongly lends_one_more
not-lends_one_more d =
    let z : ◌≡◌ {A = ℕ} 187 0 =
    ap (λ (l : List ℕ). get_or l 0 0)
    (d.1 1 3 20 20 memory memory (registers 2 0 20 40 ∷ []) (registers 2 0 20 40 ∷ [])
    (comes (frame 2 4 19) 40 ∷ []) [] (registers 3 20 20 40) refl refl refl (refl, refl, refl, refl) refl refl) in
    omega arith

-- Card 3's data is written at byte 0, the first of card 2's.
not-counts_from_start : IsolatedFor (with_receiving counts_from_start) → ⊥
unfolding wrongly counts_from_start
not-counts_from_start d =
    let z : ◌≡◌ {A = ℕ} 170 0 =
    ap (λ (l : List ℕ). get_or l 0 0)
    (d.1 1 2 0 20 memory memory [] [] (registers 3 20 20 40 ∷ comes (frame 3 4 0) 40 ∷ [])
    (registers 3 20 20 40 ∷ []) (registers 2 0 20 40) refl refl refl (refl, refl, refl, refl) refl refl) in
    omega arith

-- Card 2 has bytes 10 to 29, and card 3 is given bytes 0 to 19, since byte 0 is no one's: card 2 writes byte 10.
not-judges_first_byte : IsolatedFor (with_registering judges_first_byte specified_table.removing) → ⊥
unfolding wrongly judges_first_byte
not-judges_first_byte d =
    let z : ◌≡◌ {A = ℕ} 170 0 =
    ap (λ (l : List ℕ). get_or l 10 0)
    (d.1 1 3 0 20 memory memory (registers 2 10 20 40 ∷ []) (registers 2 10 20 40 ∷ [])
    (comes (frame 2 4 0) 40 ∷ []) [] (registers 3 0 20 40) refl refl refl (refl, refl, refl, refl) refl refl) in
    omega arith

-- ---- bytes in no region

none-there : (x n k : ℕ) → Within x (get_or (replicate n no_entry) k no_entry) → ⊥
none-there x zero k h = omega (arith, h.1)
none-there x (suc n) zero h = omega (arith, h.1)
none-there x (suc n) (suc k) h = none-there x n k h

-- The only card has bytes 0 to 19, and byte 20 is written.
not-outside : OutsideStaysFor (with_receiving lends_one_more) → ⊥
unfolding wrongly lends_one_more
not-outside d =
    let z : ◌≡◌ {A = ℕ} 187 0 =
    d 1 20 memory (registers 2 0 20 40 ∷ comes (frame 2 4 19) 40 ∷ []) (λ k. none-there 20 16 k, (one, tt)) in
    omega arith
  where
    card : Entry
    card = record { source = 2; first = 0; size = 20; pair = fresh 1 2 }

    one : (k : ℕ) → Within 20 (get_or (card ∷ replicate 15 no_entry) k no_entry) → ⊥
    one zero h = omega (arith, h.1)
    one (suc k) h = none-there 20 15 k h
