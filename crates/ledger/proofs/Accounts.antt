-- What the totals and the summary come to over readings and over a history of blocks: total-is-true and
-- summary-is-differences. Assumes nothing.
use Prim.Native.Nat.{ℕ, zero, suc, ◌+◌, ◌-◌, ◌%◌, ◌≤◌, ◌<◌}
use native.Mathlib.Nat.{add-zero, zero-add}
use native.Mathlib.Decide.{dec_lt}
use native.Mathlib.Omega.{arith}
use mathlib.Core.Path.{◌≡◌, refl, sym, ap, ◌∙◌}
use mathlib.Core.Logic.{◌≢◌}
use mathlib.Core.Bool.{Bool, true, false, cond}
use mathlib.Core.List.{List, [], ◌∷◌, ◌++◌, map}
use borrow.Author.Tests.{eqb-true, eqb-false}
use lib.Dec.{eqb}
use lib.ListN.{get_or, replicate, length-replicate}
use lib.Seq.{get_or-set_same, get_or-set_other}
use Rattle.seq.specs.Ring.{distance}
use Rattle.seq.proofs.Ring.{distance-ahead}
use Rattle.ledger.specs.Ledger.{Ledger, Reading, Outcome, subscribers, counter_space}
use Rattle.ledger.specs.Ledger.{seen_of, counter_of, total_of, empty}
use Rattle.ledger.specs.Ledger.{charge, entered, entered_all, taken, readings_of}
use Rattle.ledger.specs.History.{after, accepted, counters_of, differences_from, differences, sum_below}
use Rattle.ledger.specs.History.{last_of, bytes_passed, InStepFrom, InStep, TrueCounts}
use Rattle.ledger.proofs.Steps.{Sized, sized-entered, clear}
use Rattle.ledger.proofs.Steps.{goes_on, first-clear, none_left, all_append}
use Rattle.ledger.proofs.Steps.{accepted-block, refused-block}

-- ---- a total over readings, from any ledger

-- The differences of a subscriber's further counters, the first of them from the last counter where there was one.
unfoldable pub further : Ledger → ℕ → List ℕ → ℕ
further l s cs = cond (seen_of l s) (differences_from (counter_of l s) cs) (differences cs)

further-none : (l : Ledger) (s : ℕ) → further l s [] ≡ 0
unfolding further differences_from differences
further-none l s = go (seen_of l s)
  where
    go : (x : Bool) → ◌≡◌ {A = ℕ} (cond x 0 0) 0
    go true = refl
    go false = refl

own-reading : (l : Ledger) (r : Reading) (cs : List ℕ) → Sized l → r.subscriber < subscribers
    → total_of (entered l r) r.subscriber + further (entered l r) r.subscriber cs
    ≡ total_of l r.subscriber + further l r.subscriber (r.counter ∷ cs)
unfolding further entered charge differences differences_from
own-reading l r cs z h =
    let s = r.subscriber in
    let t = get_or-set_same l.totals s (total_of l s + charge l r) 0 (omega (arith, z.totals)) in
    let b = get_or-set_same l.seen s true false (omega (arith, z.seen)) in
    let c = get_or-set_same l.counters s r.counter 0 (omega (arith, z.counters)) in
    rw (t, b, c) (go (seen_of l s))
  where
    go : (x : Bool)
        → total_of l r.subscriber + cond x (distance counter_space (counter_of l r.subscriber) r.counter) 0
        + differences_from r.counter cs
        ≡ total_of l r.subscriber
        + cond x (distance counter_space (counter_of l r.subscriber) r.counter + differences_from r.counter cs)
        (differences_from r.counter cs)
    go true = omega arith
    go false = omega arith

other-reading : (l : Ledger) (r : Reading) (s : ℕ) (cs : List ℕ) → s ≢ r.subscriber
    → total_of (entered l r) s + further (entered l r) s cs ≡ total_of l s + further l s cs
unfolding further entered
other-reading l r s cs h =
    rw (
      get_or-set_other l.totals r.subscriber s (total_of l r.subscriber + charge l r) 0 h,
      get_or-set_other l.seen r.subscriber s true false h,
      get_or-set_other l.counters r.subscriber s r.counter 0 h,
    )

pub one-reading : (l : Ledger) (r : Reading) (rs : List Reading) (s : ℕ) → Sized l → r.subscriber < subscribers
    → total_of (entered l r) s + further (entered l r) s (counters_of s rs)
    ≡ total_of l s + further l s (counters_of s (r ∷ rs))
unfolding counters_of
one-reading l r rs s z h = go (eqb r.subscriber s) refl
  where
    go : (x : Bool) → eqb r.subscriber s ≡ x
        → total_of (entered l r) s + further (entered l r) s (counters_of s rs)
        ≡ total_of l s + further l s (cond x (r.counter ∷ counters_of s rs) (counters_of s rs))
    go true e = rw (← eqb-true r.subscriber s e) (own-reading l r (counters_of r.subscriber rs) z h)
    go false e = other-reading l r s (counters_of s rs) (λ q. eqb-false r.subscriber s e (sym q))

pub total-after : (l : Ledger) (rs : List Reading) (s : ℕ) → Sized l → (entered_all l rs).refusal ≡ 0
    → total_of (entered_all l rs).ledger s ≡ total_of l s + further l s (counters_of s rs)
unfolding counters_of
total-after l [] s z e = rw (none_left l, further-none l s) (sym (add-zero (total_of l s)))
total-after l (r ∷ rs) s z e =
    let f = first-clear l r rs e in
    let g = goes_on l r rs f in
    rw g (total-after (entered l r) rs s (sized-entered l r z) (rw g at e))
    ∙ one-reading l r rs s z (clear l r f).known

-- ---- the summary is the sum of the totals

pub sum_same : (n : ℕ) (f g : ℕ → ℕ) → ((i : ℕ) → i < n → f i ≡ g i) → sum_below n f ≡ sum_below n g
unfolding sum_below
sum_same zero f g h = refl
sum_same (suc n) f g h = rw (sum_same n f g (λ i l. h i (omega arith)), h n (omega arith))

-- d more at one place, d more in the sum
sum_more : (n : ℕ) (f g : ℕ → ℕ) (k d : ℕ) → g k ≡ f k + d → ((i : ℕ) → i ≢ k → g i ≡ f i) → k < n
    → sum_below n g ≡ sum_below n f + d
unfolding sum_below
sum_more zero f g k d e h l = absurd (omega arith)
sum_more (suc n) f g k d e h l = go (λ p. sum_more n f g k d e h p) (dec_lt k n)
  where
    go : (k < n → sum_below n g ≡ sum_below n f + d) → Dec (k < n) → sum_below n g + g n ≡ sum_below n f + f n + d
    go ih (yes p) = omega (arith, ih p, h n (λ q. omega (arith, q)))
    go ih (no p) =
        let q : k ≡ n = omega arith in
        let a = sum_same n g f (λ i j. h i (λ w. omega (arith, w))) in
        omega (arith, a, rw q at e)

-- The summary is the sum of all totals.
abbrev pub Balanced : Ledger → Type 0
Balanced l = l.summary ≡ sum_below subscribers (total_of l)

pub balanced-entered : (l : Ledger) (r : Reading) → Sized l → r.subscriber < subscribers → Balanced l
    → Balanced (entered l r)
unfolding entered
balanced-entered l r z h b =
    let s = r.subscriber in
    ap (λ (n : ℕ). n + charge l r) b
    ∙ sym (sum_more subscribers (total_of l) (total_of (entered l r)) s (charge l r)
    (get_or-set_same l.totals s (total_of l s + charge l r) 0 (omega (arith, z.totals)))
    (λ i n. get_or-set_other l.totals s i (total_of l s + charge l r) 0 n) h)

pub balanced-all : (l : Ledger) (rs : List Reading) → Sized l → Balanced l → (entered_all l rs).refusal ≡ 0
    → Balanced (entered_all l rs).ledger
balanced-all l [] z b e = rw (none_left l) b
balanced-all l (r ∷ rs) z b e =
    let f = first-clear l r rs e in
    let g = goes_on l r rs f in
    let b₁ = balanced-entered l r z (clear l r f).known b in
    rw g (balanced-all (entered l r) rs (sized-entered l r z) b₁ (rw g at e))

-- ---- a history of blocks

-- The accepted readings of a history, entered one after another, have no fault and leave what its blocks leave.
pub history : (l : Ledger) (bs : List (List ℕ))
    → entered_all l (accepted l bs) ≡ record { refusal = 0; ledger = after l bs }
unfolding accepted after
history l [] = none_left l
history l (b ∷ bs) = go (eqb (taken l b).refusal 0) refl (history (taken l b).ledger bs)
  where
    m : Ledger
    m = (taken l b).ledger

    go : (x : Bool) → eqb (taken l b).refusal 0 ≡ x
        → entered_all m (accepted m bs) ≡ record { refusal = 0; ledger = after m bs }
        → entered_all l (cond x (readings_of b ++ accepted m bs) (accepted m bs))
        ≡ record { refusal = 0; ledger = after m bs }
    go true e ih =
        let z = eqb-true (taken l b).refusal 0 e in
        let t = accepted-block l b z in
        all_append l (readings_of b) (accepted m bs) (rw t at z) ∙ rw (← t) ih
    go false e ih =
        let n = eqb-false (taken l b).refusal 0 e in
        ap (λ (k : Ledger). entered_all k (accepted m bs)) (sym (refused-block l b n)) ∙ ih

-- ---- the claims, over any history from an empty ledger

get_d_replicate {ℓ} : {A : Type ℓ} (n : ℕ) (x : A) (i : ℕ) → get_or (replicate n x) i x ≡ x
get_d_replicate zero x i = refl
get_d_replicate (suc n) x zero = refl
get_d_replicate (suc n) x (suc i) = get_d_replicate n x i

pub empty-sized : Sized empty
unfolding empty
empty-sized = record {
  seen = length-replicate subscribers false;
  counters = length-replicate {A = ℕ} subscribers 0;
  totals = length-replicate {A = ℕ} subscribers 0;
}

pub empty-total : (s : ℕ) → total_of empty s ≡ 0
unfolding empty
empty-total s = get_d_replicate subscribers 0 s

pub empty-seen : (s : ℕ) → seen_of empty s ≡ false
unfolding empty
empty-seen s = get_d_replicate subscribers false s

empty-summary : empty.summary ≡ 0
unfolding empty
empty-summary = refl

sum-zero : (n : ℕ) (f : ℕ → ℕ) → ((i : ℕ) → f i ≡ 0) → sum_below n f ≡ 0
unfolding sum_below
sum-zero zero f h = refl
sum-zero (suc n) f h = omega (arith, sum-zero n f h, h n)

pub empty-balanced : Balanced empty
empty-balanced = empty-summary ∙ sym (sum-zero subscribers (total_of empty) empty-total)

module _ (bs : List (List ℕ)) where
  no-refusal : (entered_all empty (accepted empty bs)).refusal ≡ 0
  no-refusal = ap (λ (o : Outcome). o.refusal) (history empty bs)

  ledger-is : (entered_all empty (accepted empty bs)).ledger ≡ after empty bs
  ledger-is = ap (λ (o : Outcome). o.ledger) (history empty bs)

  -- Each total is the sum of the differences of its subscriber's counters in the accepted blocks.
  pub total-is-differences : (s : ℕ) → total_of (after empty bs) s ≡ differences (counters_of s (accepted empty bs))
  unfolding further
  total-is-differences s =
      let t = total-after empty (accepted empty bs) s empty-sized no-refusal in
      rw (ledger-is, empty-total s, empty-seen s, zero-add) at t

  -- The summary is the sum of all totals.
  pub summary-is-totals : (after empty bs).summary ≡ sum_below subscribers (total_of (after empty bs))
  summary-is-totals = rw (← ledger-is) (balanced-all empty (accepted empty bs) empty-sized empty-balanced no-refusal)

  -- The summary is the sum, over all subscribers, of the differences of their counters in the accepted blocks.
  pub summary-is-differences :
      (after empty bs).summary ≡ sum_below subscribers (λ (s : ℕ). differences (counters_of s (accepted empty bs)))
  summary-is-differences =
      summary-is-totals
      ∙ sum_same subscribers (total_of (after empty bs)) (λ (s : ℕ). differences (counters_of s (accepted empty bs)))
      (λ s h. total-is-differences s)

-- ---- true counts

low : (t : ℕ) (ts : List ℕ) → InStepFrom t ts → t ≤ last_of t ts
unfolding InStepFrom last_of
low t [] i = omega arith
low t (u ∷ us) i = omega (arith, i.0, low u us i.2)

passed-from : (t : ℕ) (ts : List ℕ) → InStepFrom t ts
    → differences_from (t % counter_space) (map (λ (u : ℕ). u % counter_space) ts) ≡ last_of t ts - t
unfolding InStepFrom last_of differences_from
passed-from t [] i = omega arith
passed-from t (u ∷ us) i =
    let a = distance-ahead counter_space (omega arith) t u i.0 (omega (arith, i.1)) in
    omega (arith, a, passed-from u us i.2, low u us i.2, i.0)

pub passed : (ts : List ℕ) → InStep ts → differences (map (λ (u : ℕ). u % counter_space) ts) ≡ bytes_passed ts
unfolding InStep differences bytes_passed
passed [] i = refl
passed (t ∷ ts) i = passed-from t ts i

-- Under the premises on true counts, a total is the bytes that truly passed between the subscriber's first accepted
-- reading and its last.
pub total-is-true : (bs : List (List ℕ)) (s : ℕ) (counts : List ℕ) → TrueCounts s (accepted empty bs) counts
    → total_of (after empty bs) s ≡ bytes_passed counts
total-is-true bs s counts t = total-is-differences bs s ∙ rw t.read (passed counts t.in_step)
