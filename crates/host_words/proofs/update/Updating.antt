-- Words stored and read again: what a pair is after an entry, or what stands before the table, was set in its words.
-- Assumes nothing.
use mathlib.Core.Path.{◌≡◌, ◌∙◌}
use mathlib.Core.Logic.{◌≢◌}
use mathlib.Core.List.{List}
use Prim.Native.Nat.{ℕ, ◌+◌, ◌*◌, ◌≤◌, ◌<◌}
use native.Mathlib.Omega.{arith}
use lib.ListN.{length, get_or, set, length-set}
use lib.Seq.{get_or-set_same, get_or-set_other}
use Rattle.words.specs.Words.{of_quarters, of_halves, listed}
use Rattle.words.proofs.Words.{quartered, halved}
use Rattle.words.proofs.Listed.{listed_same, listed-set}
use Rattle.host.specs.declared.Open.{Open}
use Rattle.host_words.specs.declared.Head.{Head}
use Rattle.host_words.specs.Words.{entry_in, entry_of, pair_of, head_part, joined}
use Rattle.host_words.specs.Updating.{with_entry, with_head, HoldsEntry}

-- ---- the two words of an entry

open-same : (o : Open) → o.address < 4294967296 → o.value < 4294967296 → o.count < 65536 → o.received < 65536
    → entry_in (of_halves o.address o.value) (of_quarters o.count o.received 0 0) ≡ o
open-same o a b c d =
    let h = halved o.address o.value a b in
    let q = quartered o.count o.received 0 0 c d (omega arith) (omega arith) in
    rw (h.first, h.second, q.first, q.second)

-- ---- an entry set

module _ (w : List ℕ) (s : ℕ) (o : Open) (l : length w ≡ 67) (h : s < 32) where
  abbrev terms : ℕ
  terms = of_halves o.address o.value

  abbrev counts : ℕ
  counts = of_quarters o.count o.received 0 0

  abbrev stored : List ℕ
  stored = set (set w (3 + 2 * s) terms) (4 + 2 * s) counts

  its-terms : get_or stored (3 + 2 * s) 0 ≡ terms
  its-terms =
      get_or-set_other (set w (3 + 2 * s) terms) (4 + 2 * s) (3 + 2 * s) counts 0 (λ q. omega (arith, q))
      ∙ get_or-set_same w (3 + 2 * s) terms 0 (omega (arith, l, h))

  its-counts : get_or stored (4 + 2 * s) 0 ≡ counts
  its-counts =
      get_or-set_same (set w (3 + 2 * s) terms) (4 + 2 * s) counts 0
      (omega (arith, l, h, length-set w (3 + 2 * s) terms))

  other_word : (j : ℕ) → j ≢ 3 + 2 * s → j ≢ 4 + 2 * s → get_or stored j 0 ≡ get_or w j 0
  other_word j a b =
      get_or-set_other (set w (3 + 2 * s) terms) (4 + 2 * s) j counts 0 b ∙ get_or-set_other w (3 + 2 * s) j terms 0 a

  module _ (its : entry_in terms counts ≡ o) where
    table-set : listed (entry_of stored) 0 32 ≡ set (listed (entry_of w) 0 32) s o
    table-set =
        listed-set (entry_of w) (entry_of stored) o 32 s h (rw (its-terms, its-counts) its)
        (λ j lt ne. rw (
          other_word (3 + 2 * j) (λ q. ne (omega (arith, q))) (λ q. omega (arith, q)),
          other_word (4 + 2 * j) (λ q. omega (arith, q)) (λ q. ne (omega (arith, q))),
        ))

    entry_set : pair_of stored ≡ joined (head_part (pair_of w)) (set (pair_of w).table s o)
    unfolding pair_of
    entry_set =
        rw (
          table-set,
          other_word 0 (λ q. omega (arith, q)) (λ q. omega (arith, q)),
          other_word 1 (λ q. omega (arith, q)) (λ q. omega (arith, q)),
          other_word 2 (λ q. omega (arith, q)) (λ q. omega (arith, q)),
        )

pub holds-entry : (w : List ℕ) (s : ℕ) (o : Open) → s < 32 → o.address < 4294967296 → o.value < 4294967296
    → o.count < 65536 → o.received < 65536 → HoldsEntry w (with_entry w s o) s o
unfolding with_entry
holds-entry w s o h a b c d l = entry_set w s o l h (open-same o a b c d)

-- ---- what stands before the table set

module _ (w : List ℕ) (h : Head) (l : length w ≡ 67) (own-fits : h.own < 65536) (peer-fits : h.peer < 65536)
    (next_fits : h.next.0 < 65536) (lowest-fits : h.lowest.0 < 4294967296)
    (closed-fits : h.closed < 4294967296) where
  abbrev ids : ℕ
  ids = of_quarters h.own h.peer h.next.0 0

  abbrev window : ℕ
  window = of_halves h.lowest.0 h.closed

  abbrev led : List ℕ
  led = set (set (set w 0 ids) 1 h.marks) 2 window

  in_table : (j : ℕ) → 3 ≤ j → get_or led j 0 ≡ get_or w j 0
  in_table j k =
      get_or-set_other (set (set w 0 ids) 1 h.marks) 2 j window 0 (λ q. omega (arith, q, k))
      ∙ get_or-set_other (set w 0 ids) 1 j h.marks 0 (λ q. omega (arith, q, k))
      ∙ get_or-set_other w 0 j ids 0 (λ q. omega (arith, q, k))

  table_stays : listed (entry_of led) 0 32 ≡ listed (entry_of w) 0 32
  table_stays =
      listed_same (entry_of w) (entry_of led) 32 0
      (λ j low lt. rw (in_table (3 + 2 * j) (omega arith), in_table (4 + 2 * j) (omega arith)))

  pub holds-head : pair_of (with_head w h) ≡ joined h (pair_of w).table
  unfolding pair_of with_head
  holds-head =
      let a : get_or led 0 0 ≡ ids =
      get_or-set_other (set (set w 0 ids) 1 h.marks) 2 0 window 0 (λ q. omega (arith, q))
      ∙ get_or-set_other (set w 0 ids) 1 0 h.marks 0 (λ q. omega (arith, q))
      ∙ get_or-set_same w 0 ids 0 (omega (arith, l)) in
      let b : get_or led 1 0 ≡ h.marks =
      get_or-set_other (set (set w 0 ids) 1 h.marks) 2 1 window 0 (λ q. omega (arith, q))
      ∙ get_or-set_same (set w 0 ids) 1 h.marks 0 (omega (arith, l, length-set w 0 ids)) in
      let c : get_or led 2 0 ≡ window =
      get_or-set_same (set (set w 0 ids) 1 h.marks) 2 window 0
      (omega (arith, l, length-set w 0 ids, length-set (set w 0 ids) 1 h.marks)) in
      let q = quartered h.own h.peer h.next.0 0 own-fits peer-fits next_fits (omega arith) in
      let k = halved h.lowest.0 h.closed lowest-fits closed-fits in
      rw (table_stays, a, b, c, q.first, q.second, q.third, k.first, k.second)
