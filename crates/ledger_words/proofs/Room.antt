-- Where there is room, no reading has a fault. Assumes nothing.
use Rattle.std.proofs.Common.{◌≡◌, ℕ, suc, ◌+◌, ◌*◌, ◌%◌, ◌<◌, ◌≤◌, Bool, true, false, cond, eqb, ltb, List, [], ◌∷◌, length, get_or, set, sym, refl, ◌∙◌, mod-eq_of_lt, arith, get_or-set_other, get_or-set_same, le-ltb, lt-ltb, eqb-true, le-leb}
use native.Mathlib.Decide.{dec_le, dec_lt}
use borrow.Author.Tests.{lt-leb, eqb-false}
use lib.Bits.{bit_or, or_add_and, and_le_l, and_le_r}
use lib.Seq.{set_out}
use Rattle.ledger.specs.Ledger.{Ledger, Reading, subscribers, counter_space, most, total_of}
use Rattle.ledger.specs.Ledger.{charge, entered, entered_all}
use Rattle.ledger_words.specs.Room.{or_subscribers, or_totals, room_for, half, readings_most}
use Rattle.ledger.proofs.Steps.{charge-lt, no-fault, goes_on, none_left}

-- ---- low totals

-- Every subscriber is known, and its total is below the bound.
unfoldable low_totals : ℕ → List ℕ → List Reading → Bool
low_totals bound totals [] = true
low_totals bound totals (r ∷ rs) =
    cond (ltb r.subscriber subscribers)
    (cond (ltb (get_or totals r.subscriber 0) bound) (low_totals bound totals rs) false)
    false

module _ (bound : ℕ) (totals : List ℕ) (r : Reading) (rs : List Reading) where
  low-on : r.subscriber < subscribers → get_or totals r.subscriber 0 < bound
      → low_totals bound totals (r ∷ rs) ≡ low_totals bound totals rs
  unfolding low_totals
  low-on h k = rw (lt-ltb _ _ h, lt-ltb _ _ k)

  not_known : subscribers ≤ r.subscriber → low_totals bound totals (r ∷ rs) ≡ false
  unfolding low_totals
  not_known h = rw (le-ltb _ _ h)

  not_low : r.subscriber < subscribers → bound ≤ get_or totals r.subscriber 0
      → low_totals bound totals (r ∷ rs) ≡ false
  unfolding low_totals
  not_low h k = rw (lt-ltb _ _ h, le-ltb _ _ k)

  low_first : low_totals bound totals (r ∷ rs) ≡ true
      → (r.subscriber < subscribers) × (get_or totals r.subscriber 0 < bound) × (low_totals bound totals rs ≡ true)
  low_first e = go (dec_lt r.subscriber subscribers) (dec_lt (get_or totals r.subscriber 0) bound)
    where
      never : false ≡ true → ⊥
      never q = let z : ◌≡◌ {A = ℕ} 0 1 = cc in omega arith

      go : Dec (r.subscriber < subscribers) → Dec (get_or totals r.subscriber 0 < bound)
          → (r.subscriber < subscribers) × (get_or totals r.subscriber 0 < bound) × (low_totals bound totals rs ≡ true)
      go (yes h) (yes k) = (h, k, sym (low-on h k) ∙ e)
      go (no h) k = absurd (never (sym (not_known (omega arith)) ∙ e))
      go (yes h) (no k) = absurd (never (sym (not_low h (omega arith)) ∙ e))

-- A charge moves the bound by what it can be at most.
low-more : (bound d : ℕ) (totals : List ℕ) (s t : ℕ) (rs : List Reading) → t < bound + d
    → low_totals bound totals rs ≡ true
    → low_totals (bound + d) (set totals s t) rs ≡ true
unfolding low_totals
low-more bound d totals s t [] h e = refl
low-more bound d totals s t (r ∷ rs) h e =
    let f = low_first bound totals r rs e in
    low-on (bound + d) (set totals s t) r rs f.0
    (at_most (dec_lt s (length totals)) (eqb r.subscriber s) refl f.1)
    ∙ low-more bound d totals s t rs h f.2
  where
    at_most : Dec (s < length totals) → (x : Bool) → eqb r.subscriber s ≡ x → get_or totals r.subscriber 0 < bound
        → get_or (set totals s t) r.subscriber 0 < bound + d
    at_most (yes l) true q k = rw (eqb-true r.subscriber s q, get_or-set_same totals s t 0 l) h
    at_most (no l) x q k = rw (set_out totals s t (omega arith)) (omega arith)
    at_most (yes l) false q k =
        rw (get_or-set_other totals s r.subscriber t 0 (eqb-false _ _ q)) (omega arith)

-- ---- no fault

module _ (bound : ℕ) (l : Ledger) (r : Reading) (rs : List Reading) where
  summary-moves : l.summary < bound → (entered l r).summary < bound + counter_space
  unfolding entered
  summary-moves h = omega (arith, charge-lt l r)

  totals-move : total_of l r.subscriber < bound → low_totals bound l.totals rs ≡ true
      → low_totals (bound + counter_space) (entered l r).totals rs ≡ true
  unfolding entered
  totals-move h e =
      low-more bound counter_space l.totals r.subscriber (total_of l r.subscriber + charge l r) rs
      (omega (arith, charge-lt l r)) e

no-fault-in : (bound : ℕ) (l : Ledger) (rs : List Reading) → bound + length rs * counter_space ≤ suc most
    → l.summary < bound → low_totals bound l.totals rs ≡ true → (entered_all l rs).refusal ≡ 0
no-fault-in bound l [] h k e = rw (none_left l)
no-fault-in bound l (r ∷ rs) h k e =
    let f = low_first bound l.totals r rs e in
    let c = charge-lt l r in
    let n = no-fault l r (record { known = f.0; total = omega (arith, f.1, c); sum = omega (arith, c) }) in
    rw (goes_on l r rs n)
    (no-fault-in (bound + counter_space) (entered l r) rs (omega arith) (summary-moves bound l r rs k)
    (totals-move bound l r rs f.1 f.2))

-- ---- numbers or-ed

or_left : (a b : ℕ) → a ≤ bit_or a b
or_left a b = omega (arith, or_add_and a b, and_le_r a b)

or_right : (a b : ℕ) → b ≤ bit_or a b
or_right a b = omega (arith, or_add_and a b, and_le_l a b)

or_from : (any : ℕ) (rs : List Reading) → any ≤ or_subscribers any rs
unfolding or_subscribers
or_from any [] = omega arith
or_from any (r ∷ rs) = omega (arith, or_left any r.subscriber, or_from (bit_or any r.subscriber) rs)

totals-from : (l : Ledger) (high : ℕ) (rs : List Reading) → high ≤ or_totals l high rs
unfolding or_totals
totals-from l high [] = omega arith
totals-from l high (r ∷ rs) =
    let t = total_of l (r.subscriber % subscribers) in
    omega (arith, or_left high t, totals-from l (bit_or high t) rs)

low-by-or : (l : Ledger) (any high bound : ℕ) (rs : List Reading) → or_subscribers any rs < subscribers
    → or_totals l high rs < bound
    → low_totals bound l.totals rs ≡ true
unfolding or_subscribers or_totals low_totals
low-by-or l any high bound [] h k = refl
low-by-or l any high bound (r ∷ rs) h k =
    let s = r.subscriber in
    let t = total_of l (s % subscribers) in
    let p : s < subscribers = omega (arith, or_right any s, or_from (bit_or any s) rs) in
    let q : total_of l (s % subscribers) < bound = omega (arith, or_right high t, totals-from l (bit_or high t) rs) in
    let e : s % subscribers ≡ s = mod-eq_of_lt p in
    let m : total_of l s < bound = rw e at q in
    low-on bound l.totals r rs p m ∙ low-by-or l (bit_or any s) (bit_or high t) bound rs h k

-- ---- room

pub room-no-fault : (l : Ledger) (rs : List Reading) → room_for l rs ≡ true → (entered_all l rs).refusal ≡ 0
unfolding room_for
room-no-fault l rs e =
    go (dec_le (length rs) readings_most) (dec_lt l.summary half) (dec_lt (or_subscribers 0 rs) subscribers)
    (dec_lt (or_totals l 0 rs) half)
  where
    never : false ≡ true → ⊥
    never q = let z : ◌≡◌ {A = ℕ} 0 1 = cc in omega arith

    go : Dec (length rs ≤ readings_most) → Dec (l.summary < half) → Dec (or_subscribers 0 rs < subscribers)
        → Dec (or_totals l 0 rs < half) → (entered_all l rs).refusal ≡ 0
    go (yes h) (yes k) (yes m) (yes t) = no-fault-in half l rs (omega arith) k (low-by-or l 0 0 half rs m t)
    go (no h) k m t = absurd (never (rw (lt-leb (length rs) readings_most (omega arith)) at e))
    go (yes h) (no k) m t =
        absurd (never (rw (le-leb _ _ h, le-ltb l.summary half (omega arith)) at e))
    go (yes h) (yes k) (no m) t =
        absurd (never (rw (le-leb _ _ h, lt-ltb _ _ k, le-leb subscribers (or_subscribers 0 rs) (omega arith)) at e))
    go (yes h) (yes k) (yes m) (no t) =
        absurd
        (never
        (rw (
          le-leb _ _ h,
          lt-ltb _ _ k,
          lt-leb subscribers (or_subscribers 0 rs) m,
          le-ltb (or_totals l 0 rs) half (omega arith),
        ) at e))
