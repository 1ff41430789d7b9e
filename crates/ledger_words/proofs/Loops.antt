-- The readings of a block, eight bytes each; and the invariants of the loops over them: the whole is what is left to
-- do, from the ledger as it is now. Assumes nothing.
use Rattle.std.proofs.Common.{◌≡◌, ℕ, zero, suc, ◌+◌, ◌-◌, ◌*◌, ◌/◌, ◌%◌, ◌<◌, ◌≤◌, Bool, false, cond, ltb, leb, ◌≢◌, List, [], ◌∷◌, length, get_or, take, drop, map, Result, Ok, Err, sym, refl, ap, ◌∙◌, arith, le-ltb, lt-ltb, le-leb}
use Rattle.std.proofs.lemmas.List.{drop_more, drop_all, length-map, take-take, drop-take}
use borrow.Author.Tests.{lt-leb}
use lib.Bits.{bit_or}
use lib.Seq.{drop-drop}
use Rattle.std.specs.Simd.{first_chunks}
use Rattle.octets.specs.Octets.{field}
use Rattle.ledger.specs.Ledger.{Ledger, Reading, Outcome, subscribers, total_of, reading_of, reading_at}
use Rattle.ledger.specs.Ledger.{readings_from, readings_of}
use Rattle.ledger.specs.Ledger.{fault, entered, entered_all}
use Rattle.ledger_words.specs.LedgerWords.{reading_in}
use Rattle.ledger_words.specs.Room.{or_subscribers, or_totals, room_for, half, readings_most}
use Rattle.ledger.proofs.Steps.{goes_on, stops, first-clear, none_left}

-- ---- the readings of a block

abbrev pub readings_in : List (List ℕ) → List Reading
readings_in block = map reading_in block

in-chunk : (xs : List ℕ) (at : ℕ) → (field (take 8 (drop at xs)) 0 4 ≡ field xs at 4) × (field (take 8 (drop at xs)) 4 4 ≡ field xs (at + 4) 4)
unfolding field
in-chunk xs at =
    let s = drop at xs in
    (rw (take-take 4 8 s (omega arith)), rw (drop-take 4 4 s, take-take 4 4 (drop 4 s) (omega arith), drop-drop 4 at xs))

chunk_read : (block : List ℕ) (k : ℕ) → reading_in (take 8 (drop (8 * k) block)) ≡ reading_at block k
unfolding reading_at
chunk_read block k = let e = in-chunk block (8 * k) in rw (e.0, e.1)

chunks_read : (n k : ℕ) (block : List ℕ) → readings_in (first_chunks 8 n (drop (8 * k) block)) ≡ readings_from n k block
unfolding readings_from
chunks_read zero k block = refl
chunks_read (suc n) k block =
    let on : 8 * k + 8 ≡ 8 * (k + 1) = omega arith in
    rw (chunk_read block k, drop-drop 8 (8 * k) block, on, chunks_read n (k + 1) block)

pub as_chunks_read : (block : List ℕ) → readings_in (first_chunks 8 (length block / 8) block) ≡ readings_of block
unfolding readings_of
as_chunks_read block = chunks_read (length block / 8) 0 block

-- ---- one reading after another

next : (block : List (List ℕ)) (k : ℕ) (d : List ℕ) → k < length block
    → readings_in (drop k block) ≡ reading_in (get_or block k d) ∷ readings_in (drop (k + 1) block)
next block k d h = ap readings_in (drop_more block k d h)

none-left : (block : List (List ℕ)) (k : ℕ) → length block ≤ k → readings_in (drop k block) ≡ []
none-left block k h = ap readings_in (drop_all k block h)

-- ---- looking for room

pub record Looked (l : Ledger) (block : List (List ℕ)) (any high k : ℕ) : Type 0 where
  pub subscribers_is : or_subscribers 0 (readings_in block) ≡ or_subscribers any (readings_in (drop k block))
  pub totals_is : or_totals l 0 (readings_in block) ≡ or_totals l high (readings_in (drop k block))

module _ (l : Ledger) (block : List (List ℕ)) where
  pub too_many : readings_most < length block → room_for l (readings_in block) ≡ false
  unfolding room_for
  too_many h = rw (lt-leb (length (readings_in block)) readings_most (omega (arith, length-map block reading_in)))

  pub sum-high : length block ≤ readings_most → half ≤ l.summary → room_for l (readings_in block) ≡ false
  unfolding room_for
  sum-high h k =
      rw (
        le-leb (length (readings_in block)) readings_most (omega (arith, length-map block reading_in)),
        le-ltb l.summary half k,
      )

  pub look-start : Looked l block 0 0 0
  look-start = record { subscribers_is = refl; totals_is = refl }

  module _ (few : length block ≤ readings_most) (low : l.summary < half) where
    few-and-low : room_for l (readings_in block)
        ≡ cond (leb subscribers (or_subscribers 0 (readings_in block))) false (ltb (or_totals l 0 (readings_in block)) half)
    unfolding room_for
    few-and-low =
        rw (
          le-leb (length (readings_in block)) readings_most (omega (arith, length-map block reading_in)),
          lt-ltb l.summary half low,
        )

    module _ {any high k : ℕ} (w : Looked l block any high k) (end : length block ≤ k) where
      any-is : or_subscribers 0 (readings_in block) ≡ any
      unfolding or_subscribers
      any-is = w.subscribers_is ∙ ap (or_subscribers any) (none-left block k end)

      high_is : or_totals l 0 (readings_in block) ≡ high
      unfolding or_totals
      high_is = w.totals_is ∙ ap (or_totals l high) (none-left block k end)

      pub look-unknown : subscribers ≤ any → false ≡ room_for l (readings_in block)
      look-unknown h = sym (few-and-low ∙ rw (any-is, le-leb subscribers any h))

      pub look-done : any < subscribers → ltb high half ≡ room_for l (readings_in block)
      look-done h = sym (few-and-low ∙ rw (any-is, lt-leb subscribers any h, high_is))

module _ {l : Ledger} {block : List (List ℕ)} {any high k : ℕ} (w : Looked l block any high k) where
  pub look-turn : (d : List ℕ) (r : Reading) (t : ℕ) → k < length block → r ≡ reading_in (get_or block k d)
      → t ≡ total_of l (r.subscriber % subscribers)
      → Looked l block (bit_or any r.subscriber) (bit_or high t) (k + 1)
  unfolding or_subscribers or_totals
  look-turn d r t h e f = record {
    subscribers_is = w.subscribers_is ∙ ap (or_subscribers any) (next block k d h) ∙ rw (← e);
    totals_is = w.totals_is ∙ ap (or_totals l high) (next block k d h) ∙ rw (← e, f);
  }

-- ---- entering

pub record Entering (l₀ : Ledger) (block : List (List ℕ)) (l : Ledger) (k : ℕ) : Type 0 where
  pub is : entered_all l₀ (readings_in block) ≡ entered_all l (readings_in (drop k block))

pub enter-start : (l : Ledger) (block : List (List ℕ)) → Entering l block l 0
enter-start l block = record { is = refl }

module _ {l₀ l : Ledger} {block : List (List ℕ)} {k : ℕ} (w : Entering l₀ block l k) where
  module _ (d : List ℕ) (r : Reading) (h : k < length block) (e : r ≡ reading_in (get_or block k d)) where
    entering-left : entered_all l₀ (readings_in block) ≡ entered_all l (r ∷ readings_in (drop (k + 1) block))
    entering-left = w.is ∙ ap (entered_all l) (next block k d h) ∙ rw (← e)

    pub enter-turn : (m : Ledger) → fault l r ≡ 0 → m ≡ entered l r → Entering l₀ block m (k + 1)
    enter-turn m z q = record {
      is =
          entering-left ∙ goes_on l r _ z
          ∙ ap (λ (x : Ledger). entered_all x (readings_in (drop (k + 1) block))) (sym q);
    }

    pub enter-stop : fault l r ≢ 0 → fault l r ≡ (entered_all l₀ (readings_in block)).refusal
    enter-stop z = sym (ap (λ (o : Outcome). o.refusal) (entering-left ∙ stops l r _ z))

    pub enter-clear : (entered_all l₀ (readings_in block)).refusal ≡ 0 → fault l r ≡ 0
    enter-clear z =
        first-clear l r (readings_in (drop (k + 1) block)) (sym (ap (λ (o : Outcome). o.refusal) entering-left) ∙ z)

  pub enter-done : length block ≤ k → entered_all l₀ (readings_in block) ≡ record { refusal = 0; ledger = l }
  enter-done h = w.is ∙ ap (entered_all l) (none-left block k h) ∙ none_left l
