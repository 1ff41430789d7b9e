-- The ledger that words hold, subscriber by subscriber: read, and after its words are stored anew. Assumes nothing.
use Rattle.std.proofs.Common.{◌≡◌, ℕ, zero, suc, ◌+◌, ◌*◌, ◌%◌, ◌<◌, true, false, cond, leb, ◌≢◌, List, length, get_or, replicate, set, sym, refl, ap, ◌∙◌, arith, length-set, get_or-set_other, get_or-set_same, le-leb}
use Rattle.seq.specs.Ring.{distance}
use Rattle.words.proofs.Listed.{listed_at, listed_same, listed-set, listed-all}
use Rattle.ledger.specs.Ledger.{Ledger, ledger_of, subscribers, counter_space, reading_of, seen_of, counter_of, total_of}
use Rattle.ledger.specs.Ledger.{empty, charge, fault, entered}
use Rattle.ledger.proofs.Steps.{clear}
use Rattle.ledger_words.specs.LedgerWords.{ledger_words, total_in, counter_in, read_in, accounts_in, ledger_in}

-- ---- read

module _ (w : List ℕ) (n s : ℕ) (h : s < subscribers) where
  pub seen_at : seen_of (accounts_in w n) s ≡ read_in w s
  unfolding accounts_in
  seen_at = listed_at (read_in w) false subscribers 0 s h ∙ ap (read_in w) (omega arith)

  pub counter_at : counter_of (accounts_in w n) s ≡ counter_in w s
  unfolding accounts_in
  counter_at = listed_at (counter_in w) 0 subscribers 0 s h ∙ ap (counter_in w) (omega arith)

  pub total-at : total_of (accounts_in w n) s ≡ total_in w s
  unfolding accounts_in
  total-at = listed_at (total_in w) 0 subscribers 0 s h ∙ ap (total_in w) (omega arith)

  -- what the code computes is the charge
  pub charge-in : (c d : ℕ) → d ≡ cond (read_in w s) (distance counter_space (counter_in w s) c) 0
      → d ≡ charge (accounts_in w n) (reading_of s c)
  unfolding charge
  charge-in c d e = rw (seen_at, counter_at) e

pub sum-beside : (w : List ℕ) (n : ℕ) → (accounts_in w n).summary ≡ n
unfolding accounts_in
sum-beside w n = refl

module _ (w : List ℕ) where
  pub held-beside : accounts_in w (get_or w 2048 0) ≡ ledger_in w
  unfolding ledger_in
  held-beside = refl

  pub held-sum : (ledger_in w).summary ≡ get_or w 2048 0
  held-sum = ap (λ (l : Ledger). l.summary) (sym held-beside) ∙ sum-beside w (get_or w 2048 0)

  pub held-total : (s : ℕ) → s < subscribers → total_of (ledger_in w) s ≡ total_in w s
  held-total s h = ap (λ (l : Ledger). total_of l s) (sym held-beside) ∙ total-at w (get_or w 2048 0) s h

-- ---- the two words of a reading without a fault

module _ (w : List ℕ) (n s c : ℕ) (e : fault (accounts_in w n) (reading_of s c) ≡ 0) where
  pub first_word : 2 * s < ledger_words
  first_word = omega (arith, (clear _ _ e).known)

  pub second_word : 2 * s + 1 < ledger_words
  second_word = omega (arith, (clear _ _ e).known)

-- ---- a subscriber's two words stored anew

module _ (w : List ℕ) (n s t c : ℕ) (h : s < subscribers) (l : length w ≡ ledger_words) (fits : c < counter_space) where
  abbrev one : List ℕ
  one = set w (2 * s) t

  abbrev two : List ℕ
  two = set one (2 * s + 1) (counter_space + c)

  total-there : total_in two s ≡ t
  total-there =
      get_or-set_other one (2 * s + 1) (2 * s) (counter_space + c) 0 (λ z. omega arith)
      ∙ get_or-set_same w (2 * s) t 0 (omega arith)

  kept_there : get_or two (2 * s + 1) 0 ≡ counter_space + c
  kept_there = get_or-set_same one (2 * s + 1) (counter_space + c) 0 (omega (arith, length-set w (2 * s) t))

  total-other : (j : ℕ) → j ≢ s → total_in two j ≡ total_in w j
  total-other j ne =
      get_or-set_other one (2 * s + 1) (2 * j) (counter_space + c) 0 (λ z. omega arith)
      ∙ get_or-set_other w (2 * s) (2 * j) t 0 (λ z. ne (omega arith))

  kept-other : (j : ℕ) → j ≢ s → get_or two (2 * j + 1) 0 ≡ get_or w (2 * j + 1) 0
  kept-other j ne =
      get_or-set_other one (2 * s + 1) (2 * j + 1) (counter_space + c) 0 (λ z. ne (omega arith))
      ∙ get_or-set_other w (2 * s) (2 * j + 1) t 0 (λ z. omega arith)

  read-there : read_in two s ≡ true
  read-there = rw kept_there (le-leb counter_space (counter_space + c) (omega arith))

  counter-there : counter_in two s ≡ c
  counter-there = rw kept_there (omega arith)

  pub stored : (m : ℕ) → accounts_in two m
      ≡ ledger_of (set (accounts_in w n).seen s true) (set (accounts_in w n).counters s c)
      (set (accounts_in w n).totals s t) m
  unfolding accounts_in
  stored m =
      rw (
        listed-set (read_in w) (read_in two) true subscribers s h read-there
            (λ j k ne. ap (leb counter_space) (kept-other j ne)),
        listed-set (counter_in w) (counter_in two) c subscribers s h counter-there
            (λ j k ne. ap (λ (x : ℕ). x % counter_space) (kept-other j ne)),
        listed-set (total_in w) (total_in two) t subscribers s h total-there (λ j k ne. total-other j ne),
      )

-- what the code stores is the reading entered
pub entered-in : (w : List ℕ) (n s c d : ℕ) → s < subscribers → length w ≡ ledger_words → c < counter_space
    → d ≡ charge (accounts_in w n) (reading_of s c)
    → accounts_in (set (set w (2 * s) (get_or w (2 * s) 0 + d)) (2 * s + 1) (counter_space + c)) (n + d)
    ≡ entered (accounts_in w n) (reading_of s c)
unfolding entered
entered-in w n s c d h l fits e =
    let t : total_in w s ≡ total_of (accounts_in w n) s = sym (total-at w n s h) in
    stored w n s (get_or w (2 * s) 0 + d) c h l fits (n + d) ∙ rw (t, e, sum-beside w n)

-- ---- the sum, and no reading yet

pub sum-stored : (w : List ℕ) (n : ℕ) → length w ≡ ledger_words → ledger_in (set w 2048 n) ≡ accounts_in w n
unfolding accounts_in ledger_in
sum-stored w n l =
    rw (
      get_or-set_same w 2048 n 0 (omega arith),
      listed_same (read_in w) (read_in (set w 2048 n)) subscribers 0
          (λ j a b. ap (leb counter_space) (get_or-set_other w 2048 (2 * j + 1) n 0 (λ z. omega arith))),
      listed_same (counter_in w) (counter_in (set w 2048 n)) subscribers 0
          (λ j a b. ap (λ (x : ℕ). x % counter_space) (get_or-set_other w 2048 (2 * j + 1) n 0 (λ z. omega arith))),
      listed_same (total_in w) (total_in (set w 2048 n)) subscribers 0
          (λ j a b. get_or-set_other w 2048 (2 * j) n 0 (λ z. omega arith)),
    )

all-zero : (w : List ℕ) → ((i : ℕ) → get_or w i 0 ≡ 0) → ledger_in w ≡ empty
unfolding accounts_in ledger_in empty
all-zero w h =
    rw (
      h 2048,
      listed-all (read_in w) false subscribers 0 (λ j. ap (leb counter_space) (h (2 * j + 1))),
      listed-all (counter_in w) 0 subscribers 0 (λ j. ap (λ (x : ℕ). x % counter_space) (h (2 * j + 1))),
      listed-all (total_in w) 0 subscribers 0 (λ j. h (2 * j)),
    )

pub zeroed : (n : ℕ) → ledger_in (replicate {A = ℕ} n 0) ≡ empty
zeroed n = all-zero (replicate {A = ℕ} n 0) (each n)
  where
    each : (n i : ℕ) → get_or {A = ℕ} (replicate n 0) i 0 ≡ 0
    each zero i = refl
    each (suc n) zero = refl
    each (suc n) (suc i) = each n i
