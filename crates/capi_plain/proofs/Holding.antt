-- The words of a state hold that state, where its numbers fit their fields. They do in any words, after an opening, and
-- after a frame of bytes: so from one call to the next nothing of the state is lost. Assumes nothing else.
use mathlib.Core.Path.{◌≡◌, refl, sym, ◌∙◌}
use mathlib.Core.Bool.{Bool, true, false, cond, not}
use mathlib.Core.List.{List, [], ◌∷◌}
use Prim.Native.Nat.{ℕ, zero, suc, ◌+◌, ◌-◌, ◌*◌, ◌/◌, ◌%◌, ◌≤◌, ◌<◌}
use native.Mathlib.Decide.{dec_lt}
use native.Mathlib.Nat.{mod-eq_of_lt}
use native.Mathlib.Omega.{arith}
use borrow.Author.Tests.{lt-ltb, le-ltb}
use lib.Dec.{eqb}
use lib.ListN.{length, get_or}
use lib.Seq.{ext_get_or}
use Rattle.octets.specs.Octets.{Bytes}
use Rattle.host.specs.declared.Open.{Open}
use Rattle.host.specs.Host.{took_effect}
use Rattle.host_plain.specs.declared.PlainPair.{PlainPair}
use Rattle.host_plain.specs.Plain.{free, opened_of}
use Rattle.host_plain.proofs.Fitting.{EntryFits, Fitting, free-fits, opened-fits, receive-fits}
use Rattle.host_plain.proofs.Receiving.{unmoved}
use Rattle.host_equal.specs.Described.{list_of}
use Rattle.host_equal.proofs.Windows.{length-list_of, get_or-list_of}
use Rattle.capi_plain.specs.Words.{
  word,
  marks_from,
  entry_at,
  table_of,
  plain_of,
  head_word,
  entry_word,
  word_at,
  words_of,
  received,
  left_words,
}

word-is : (q : PlainPair) (i : ℕ) → i < 228 → word (words_of q) i ≡ word_at q i
unfolding words_of
word-is q i h = get_or-list_of 228 (word_at q) 0 i h

-- a mark's word is 1 or 0
read_back : (b : Bool) → not (eqb (cond b 1 0) 0) ≡ b
read_back true = refl
read_back false = refl

-- the words of marks and entries
accepted-word : (q : PlainPair) (i : ℕ) → i < 64
    → word (words_of q) (4 + i) ≡ cond (get_or q.frames.accepted i false) 1 0
unfolding word_at
accepted-word q i h =
    let e : 4 + i - 4 ≡ i = omega arith in
    word-is q (4 + i) (omega arith) ∙ rw (le-ltb (4 + i) 4 (omega arith), lt-ltb (4 + i) 68 (omega arith), e)

closed-word : (q : PlainPair) (i : ℕ) → i < 32
    → word (words_of q) (68 + i) ≡ cond (get_or q.transactions.closed i false) 1 0
unfolding word_at
closed-word q i h =
    let e : 68 + i - 68 ≡ i = omega arith in
    word-is q (68 + i) (omega arith)
    ∙ rw (
      le-ltb (68 + i) 4 (omega arith),
      le-ltb (68 + i) 68 (omega arith),
      lt-ltb (68 + i) 100 (omega arith),
      e,
    )

table-word : (q : PlainPair) (i n j : ℕ) → i < 32 → j < 4 → n ≡ 100 + 4 * i + j
    → word (words_of q) n ≡ entry_word (get_or q.transactions.table i free) j
unfolding word_at
table-word q i n j h l n-is =
    let e : (n - 100) / 4 ≡ i = omega (arith, n-is) in
    let d : (n - 100) % 4 ≡ j = omega (arith, n-is) in
    word-is q n (omega (arith, n-is))
    ∙ rw (
      le-ltb n 4 (omega (arith, n-is)),
      le-ltb n 68 (omega (arith, n-is)),
      le-ltb n 100 (omega (arith, n-is)),
      e,
      d,
    )

marks-back : (marks : List Bool) (n : ℕ) (f : ℕ → Bool) → length marks ≡ n
    → ((i : ℕ) → i < n → f i ≡ get_or marks i false) → list_of n f ≡ marks
marks-back marks n f len each =
    ext_get_or false (list_of n f) marks (length-list_of n f ∙ sym len)
    (λ i h.
    let near : i < n = omega (arith, h, length-list_of n f) in
    get_or-list_of n f false i near ∙ each i near)

module _ (q : PlainPair) (k : Fitting q) where
  accepted-back : marks_from 4 64 (words_of q) ≡ q.frames.accepted
  unfolding marks_from
  accepted-back =
      marks-back q.frames.accepted 64 _ k.frames-fit.accepted-are
      (λ i h. rw (accepted-word q i h) (read_back (get_or q.frames.accepted i false)))

  closed-back : marks_from 68 32 (words_of q) ≡ q.transactions.closed
  unfolding marks_from
  closed-back =
      marks-back q.transactions.closed 32 _ k.transactions-fit.closed-are
      (λ i h. rw (closed-word q i h) (read_back (get_or q.transactions.closed i false)))

  entry-back : (i : ℕ) → i < 32 → entry_at (words_of q) i ≡ get_or q.transactions.table i free
  unfolding entry_at entry_word
  entry-back i h =
      rw (
        table-word q i (100 + 4 * i) 0 h (omega arith) (omega arith),
        table-word q i (100 + 4 * i + 1) 1 h (omega arith) refl,
        table-word q i (100 + 4 * i + 2) 2 h (omega arith) refl,
        table-word q i (100 + 4 * i + 3) 3 h (omega arith) refl,
        mod-eq_of_lt (k.transactions-fit.each i).address-fits,
        mod-eq_of_lt (k.transactions-fit.each i).value-fits,
        mod-eq_of_lt (k.transactions-fit.each i).count_fits,
        mod-eq_of_lt (k.transactions-fit.each i).received-fits,
      )

  table-back : table_of (words_of q) ≡ q.transactions.table
  unfolding table_of
  table-back =
      ext_get_or free (list_of 32 (entry_at (words_of q))) q.transactions.table
      (length-list_of 32 (entry_at (words_of q)) ∙ sym k.transactions-fit.entries)
      (λ i h.
      let near : i < 32 = omega (arith, h, length-list_of 32 (entry_at (words_of q))) in
      get_or-list_of 32 (entry_at (words_of q)) free i near ∙ entry-back i near)

  head-back : (i : ℕ) → i < 4 → word (words_of q) i ≡ head_word q i
  unfolding word_at
  head-back i h = word-is q i (omega arith) ∙ rw (lt-ltb i 4 h)

  pub words-hold : plain_of (words_of q) ≡ q
  unfolding plain_of head_word
  words-hold =
      rw (
        accepted-back,
        closed-back,
        table-back,
        head-back 0 (omega arith),
        head-back 1 (omega arith),
        head-back 2 (omega arith),
        head-back 3 (omega arith),
        mod-eq_of_lt k.own-fits,
        mod-eq_of_lt k.peer-fits,
        mod-eq_of_lt k.frames-fit.next_fits,
        mod-eq_of_lt k.transactions-fit.lowest-fits,
      )

-- ---- any words hold a state that fits

past_end : (l : List Open) (k : ℕ) → length l ≤ k → get_or l k free ≡ free
past_end [] k h = refl
past_end (o ∷ l) zero h = absurd (omega arith)
past_end (o ∷ l) (suc k) h = past_end l k (omega arith)

entry-fits : (w : List ℕ) (i : ℕ) → EntryFits (entry_at w i)
unfolding entry_at
entry-fits w i =
    record {
      address-fits = omega arith;
      value-fits = omega arith;
      count_fits = omega arith;
      received-fits = omega arith;
    }

table_fits : (w : List ℕ) (k : ℕ) → EntryFits (get_or (table_of w) k free)
unfolding table_of
table_fits w k = go (dec_lt k 32)
  where
    go : Dec (k < 32) → EntryFits (get_or (list_of 32 (entry_at w)) k free)
    go (yes h) = rw (get_or-list_of 32 (entry_at w) free k h) (entry-fits w k)
    go (no h) =
        rw (past_end (list_of 32 (entry_at w)) k (omega (arith, length-list_of 32 (entry_at w)))) free-fits

pub words-fit : (w : List ℕ) → Fitting (plain_of w)
unfolding plain_of marks_from table_of
words-fit w =
    record {
      own-fits = omega arith;
      peer-fits = omega arith;
      frames-fit = record { next_fits = omega arith; accepted-are = length-list_of 64 _ };
      transactions-fit = record {
        lowest-fits = omega arith;
        closed-are = length-list_of 32 _;
        entries = length-list_of 32 (entry_at w);
        each = table_fits w;
      };
    }

-- ---- what a call leaves in words is what it leaves of the state

pub opened-held : (own peer : ℕ) → own < 65536 → peer < 65536
    → plain_of (words_of (opened_of own peer).pair) ≡ (opened_of own peer).pair
opened-held own peer h k = words-hold (opened_of own peer).pair (opened-fits own peer h k)

pub received-held : (w f memory : List ℕ) → Bytes f
    → plain_of (left_words w (received w f memory)) ≡ (received w f memory).pair
received-held w f memory b = go (took_effect (received w f memory).answer) refl
  where
    go : (x : Bool) → took_effect (received w f memory).answer ≡ x
        → plain_of (cond x (words_of (received w f memory).pair) w) ≡ (received w f memory).pair
    go true e = words-hold (received w f memory).pair (receive-fits (plain_of w) (words-fit w) memory f b)
    go false e = sym (unmoved (plain_of w) f memory e)
