-- Words stored, and the card that they are then.
-- Assumes nothing.
use mathlib.Core.Path.{◌≡◌, refl, ◌∙◌, ap}
use mathlib.Core.Logic.{◌≢◌}
use mathlib.Core.List.{List, [], ◌∷◌}
use Prim.Native.Nat.{ℕ, zero, suc, ◌+◌, ◌*◌, ◌/◌, ◌%◌, ◌≤◌, ◌<◌}
use native.Mathlib.Nat.{not-suc-le-zero, add-zero}
use native.Mathlib.Decide.{ℕ_discrete}
use native.Mathlib.Omega.{arith}
use lib.ListN.{length, get_or, set, length-set}
use lib.Seq.{sets, get_or-set_same, get_or-set_other}
use Rattle.words.specs.Words.{with_quarter, listed}
use Rattle.words.proofs.Words.{Quartered, Halved, part_same, part-other}
use Rattle.words.proofs.Listed.{listed_same, listed-set}
use Rattle.card.specs.declared.Sending.{Sending}
use Rattle.card_words.specs.declared.Head.{Head}
use Rattle.card_words.specs.Words.{size_in, sending_by, sending_in, card_of, with_head, with_size, with_sending}

-- ---- a run of stores

pub run-other : (vs w : List ℕ) (i k : ℕ) → i + length vs ≤ k → get_or (sets w i vs) k 0 ≡ get_or w k 0
run-other [] w i k h = refl
run-other (v ∷ vs) w i k h =
    run-other vs (set w i v) (suc i) k (omega arith) ∙ get_or-set_other w i k v 0 (λ e. omega arith)

before-run : (vs w : List ℕ) (i k : ℕ) → k < i → get_or (sets w i vs) k 0 ≡ get_or w k 0
before-run [] w i k h = refl
before-run (v ∷ vs) w i k h =
    before-run vs (set w i v) (suc i) k (omega arith) ∙ get_or-set_other w i k v 0 (λ e. omega arith)

in-run : (vs w : List ℕ) (i j : ℕ) → j < length vs → i + length vs ≤ length w
    → get_or (sets w i vs) (i + j) 0 ≡ get_or vs j 0
in-run [] w i j h l = absurd (not-suc-le-zero h)
in-run (v ∷ vs) w i zero h l =
    let z : i + 0 ≡ i = add-zero i in
    ap (λ (k : ℕ). get_or (sets (set w i v) (suc i) vs) k 0) z
    ∙ before-run vs (set w i v) (suc i) i (omega arith)
    ∙ get_or-set_same w i v 0 (omega arith)
in-run (v ∷ vs) w i (suc j) h l =
    let z : i + suc j ≡ suc i + j = omega arith in
    ap (λ (k : ℕ). get_or (sets (set w i v) (suc i) vs) k 0) z
    ∙ in-run vs (set w i v) (suc i) j (omega arith) (omega (arith, length-set w i v))

-- words that are alike past the sizes hold the same table of transactions
same-table : (w left : List ℕ) → ((k : ℕ) → 21 ≤ k → get_or left k 0 ≡ get_or w k 0)
    → listed (sending_in left) 0 32 ≡ listed (sending_in w) 0 32
same-table w left same =
    listed_same (sending_in w) (sending_in left) 32 0
    (λ k l m. rw (same (21 + 2 * k) (omega arith), same (22 + 2 * k) (omega arith)))

-- ---- the length of a sealed frame

module _ (w : List ℕ) (n v : ℕ) (long : length w ≡ 85) (fits : v < 65536) where
  abbrev at : ℕ
  at = 5 + n % 64 / 4

  abbrev resized : List ℕ
  resized = set w at (with_quarter (get_or w at 0) (n % 64 % 4) v)

  size-here : size_in resized (n % 64) ≡ v
  size-here =
      rw (get_or-set_same w at (with_quarter (get_or w at 0) (n % 64 % 4) v) 0 (omega arith))
      (part_same 16 4 (get_or w at 0) (n % 64 % 4) v (omega arith) fits)

  size-there : (k : ℕ) → k ≢ n % 64 → size_in resized k ≡ size_in w k
  size-there k ne = go (ℕ_discrete (5 + k / 4) at)
    where
      go : Dec (5 + k / 4 ≡ at) → size_in resized k ≡ size_in w k
      go (no q) = rw (get_or-set_other w at (5 + k / 4) (with_quarter (get_or w at 0) (n % 64 % 4) v) 0 q)
      go (yes q) =
          let other : k % 4 ≢ n % 64 % 4 = λ e. ne (omega arith) in
          rw (q, get_or-set_same w at (with_quarter (get_or w at 0) (n % 64 % 4) v) 0 (omega arith))
          (part-other 16 4 (get_or w at 0) (n % 64 % 4) v (k % 4) (omega arith) fits other)

  head-there : (k : ℕ) → k < 5 → get_or resized k 0 ≡ get_or w k 0
  head-there k h = get_or-set_other w at k _ 0 (λ e. omega arith)

  entry-there : (k : ℕ) → 21 ≤ k → get_or resized k 0 ≡ get_or w k 0
  entry-there k h = get_or-set_other w at k _ 0 (λ e. omega arith)

  pub resized-card : card_of resized ≡ with_size (card_of w) n v
  unfolding card_of
  resized-card =
      let sizes : listed (size_in resized) 0 64 ≡ set (listed (size_in w) 0 64) (n % 64) v =
      listed-set (size_in w) (size_in resized) v 64 (n % 64) (omega arith) size-here (λ k l ne. size-there k ne) in
      rw (
        sizes,
        same-table w resized entry-there,
        head-there 0 (omega arith),
        head-there 1 (omega arith),
        head-there 2 (omega arith),
        head-there 3 (omega arith),
        head-there 4 (omega arith),
      )

-- ---- a transaction

pub sending-by : (a b : ℕ) (e : Sending) → Halved a e.address e.value
    → Quartered b e.count e.added e.frame.0 0
    → sending_by a b ≡ e
sending-by a b e h q = rw (h.first, h.second, q.first, q.second, q.third)

module _ (w : List ℕ) (t a b : ℕ) (long : length w ≡ 85) where
  abbrev entry : ℕ
  entry = t % 32

  abbrev entered : List ℕ
  entered = set (set w (21 + 2 * entry) a) (22 + 2 * entry) b

  first-here : get_or entered (21 + 2 * entry) 0 ≡ a
  first-here =
      get_or-set_other (set w (21 + 2 * entry) a) (22 + 2 * entry) (21 + 2 * entry) b 0 (λ q. omega arith)
      ∙ get_or-set_same w (21 + 2 * entry) a 0 (omega arith)

  second-here : get_or entered (22 + 2 * entry) 0 ≡ b
  second-here =
      get_or-set_same (set w (21 + 2 * entry) a) (22 + 2 * entry) b 0 (omega (arith, length-set w (21 + 2 * entry) a))

  elsewhere : (k : ℕ) → k ≢ 21 + 2 * entry → k ≢ 22 + 2 * entry → get_or entered k 0 ≡ get_or w k 0
  elsewhere k p q =
      get_or-set_other (set w (21 + 2 * entry) a) (22 + 2 * entry) k b 0 q ∙ get_or-set_other w (21 + 2 * entry) k a 0 p

  below : (k : ℕ) → k < 21 → get_or entered k 0 ≡ get_or w k 0
  below k h = elsewhere k (λ e. omega arith) (λ e. omega arith)

  pub entered-card : (e : Sending) → sending_by a b ≡ e → card_of entered ≡ with_sending (card_of w) t e
  unfolding card_of
  entered-card e is =
      let here : sending_in entered entry ≡ e = rw (first-here, second-here) is in
      let there : (k : ℕ) → k < 32 → k ≢ entry → sending_in entered k ≡ sending_in w k = λ k l ne.
      rw (
        elsewhere (21 + 2 * k) (λ q. ne (omega arith)) (λ q. omega arith),
        elsewhere (22 + 2 * k) (λ q. omega arith) (λ q. ne (omega arith)),
      ) in
      let sizes : listed (size_in entered) 0 64 ≡ listed (size_in w) 0 64 =
      listed_same (size_in w) (size_in entered) 64 0 (λ k l m. rw (below (5 + k / 4) (omega arith))) in
      let table : listed (sending_in entered) 0 32 ≡ set (listed (sending_in w) 0 32) entry e =
      listed-set (sending_in w) (sending_in entered) e 32 entry (omega arith) here there in
      rw (
        sizes,
        table,
        below 0 (omega arith),
        below 1 (omega arith),
        below 2 (omega arith),
        below 3 (omega arith),
        below 4 (omega arith),
      )

-- ---- the head

module _ (w : List ℕ) (h : Head) (ids frames numbers fin : ℕ) (long : length w ≡ 85)
    (i : Quartered ids h.own h.peer h.limit h.used)
    (f : Quartered frames h.last h.next.0 h.base.0 0)
    (n : Halved numbers h.upcoming.0 h.lowest.0) (d : Halved fin h.finished 0) where
  abbrev stored : List ℕ
  stored = ids ∷ frames ∷ h.acked ∷ numbers ∷ fin ∷ []

  abbrev headed : List ℕ
  headed = sets w 0 stored

  at-word : (j : ℕ) → j < 5 → get_or headed j 0 ≡ get_or stored j 0
  at-word j l =
      let z : 0 + j ≡ j = omega arith in
      rw z at (in-run stored w 0 j l (omega arith))

  past_head : (k : ℕ) → 5 ≤ k → get_or headed k 0 ≡ get_or w k 0
  past_head k l = run-other stored w 0 k l

  pub headed-card : card_of headed ≡ with_head (card_of w) h
  unfolding card_of
  headed-card =
      let sizes : listed (size_in headed) 0 64 ≡ listed (size_in w) 0 64 =
      listed_same (size_in w) (size_in headed) 64 0 (λ k l m. rw (past_head (5 + k / 4) (omega arith))) in
      rw (
        sizes,
        same-table w headed (λ k l. past_head k (omega arith)),
        at-word 0 (omega arith),
        at-word 1 (omega arith),
        at-word 2 (omega arith),
        at-word 3 (omega arith),
        at-word 4 (omega arith),
        i.first,
        i.second,
        i.third,
        i.fourth,
        f.first,
        f.second,
        f.third,
        n.first,
        n.second,
        d.first,
      )
