-- The entries that a frame changed, beside the words: what is kept of them stands for the table as the messages so far
-- leave it. Assumes nothing.
use Rattle.std.proofs.Common.{◌≡◌, ℕ, ◌<◌, ◌≤◌, ◌≢◌, List, length, get_or, set, sym, ap, ◌∙◌, inl, true≢false, arith, length-set, get_or-set_other, get_or-set_same}
use native.Mathlib.Decide.{dec_le}
use Rattle.bitmap.specs.Marks.{mark, with_mark}
use Rattle.bitmap.proofs.Marks.{mark-same, mark-other, mark-of-zero}
use Rattle.host.specs.declared.Open.{Open}
use Rattle.host.specs.declared.Pair.{Pair}
use Rattle.host.specs.Terms.{free}
use Rattle.host_words.specs.Words.{entry_of, pair_of}
use Rattle.host_words.specs.Updating.{HoldsEntry}
use Rattle.host_words.proofs.Words.{entry_at, length-table}
use Rattle.host_receive.specs.Keeping.{Alike, StandsApart, StandsKept}

alike-to : (a b c : Open) → b ≡ c → Alike a b → Alike a c
alike-to a b c e x = rw (← e) x

-- at the start no entry is changed
pub apart-start : (w : List ℕ) → StandsApart 0 w (pair_of w).table
apart-start w = record { long = length-table w; unmarked = λ s h e. inl (entry_at w s h) }

pub kept-start : (kept w : List ℕ) → length kept ≡ 67 → StandsKept kept 0 w (pair_of w).table
kept-start kept w l =
    record { apart = apart-start w; enough = l; marked = λ s h e. absurd (true≢false (sym e ∙ mark-of-zero s)) }

-- ---- a message leaves its entry

module _ (table : List Open) (long : length table ≡ 32) (s : ℕ) (h : s < 32) (entry : Open) where
  abbrev new : List Open
  new = set table s entry

  here : (k : ℕ) → k ≡ s → get_or new k free ≡ entry
  here k q =
      ap (λ (n : ℕ). get_or new n free) q ∙ get_or-set_same table s entry free (omega (arith, h, long))

  elsewhere : (k : ℕ) → k ≢ s → get_or new k free ≡ get_or table k free
  elsewhere k ne = get_or-set_other table s k entry free ne

-- where it is or elsewhere
at-or-not : {A : Type 0} (k s : ℕ) → (k ≡ s → A) → (k ≢ s → A) → A
at-or-not {A} k s yes-at not_at = go (dec_le k s) (dec_le s k)
  where
    go : Dec (k ≤ s) → Dec (s ≤ k) → A
    go (no a) b = not_at (λ q. a (omega (arith, q)))
    go (yes a) (no b) = not_at (λ q. b (omega (arith, q)))
    go (yes a) (yes b) = yes-at (omega (arith, a, b))

module _ {changed : ℕ} {w : List ℕ} {table : List Open} (g : StandsApart changed w table) (s : ℕ) (h : s < 32)
    (entry : Open) where
  -- it is marked
  pub apart-marks : StandsApart (with_mark 32 changed s) w (set table s entry)
  apart-marks =
      record {
        long = length-set table s entry ∙ g.long;
        unmarked = λ k l m. at-or-not k s
            (λ q. absurd (true≢false (sym (mark-same 32 changed s h) ∙ ap (mark (with_mark 32 changed s)) (sym q) ∙ m)))
            (λ ne. rw (elsewhere table g.long s h entry k ne)
            (g.unmarked k l (sym (mark-other 32 changed s k ne) ∙ m)));
      }

-- it is marked and kept
pub kept-marks : {kept : List ℕ} {changed : ℕ} {w : List ℕ} {table : List Open} → StandsKept kept changed w table
    → (s : ℕ) → s < 32 → (entry : Open) (left : List ℕ) → HoldsEntry kept left s entry → length left ≡ length kept
    → StandsKept left (with_mark 32 changed s) w (set table s entry)
kept-marks {kept} {changed} {w} {table} g s h entry left p same =
    record {
      apart = apart-marks g.apart s h entry;
      enough = same ∙ g.enough;
      marked = λ k l m. at-or-not k s
          (λ q. inl (here table g.apart.long s h entry k q ∙ sym (ap (entry_of left) q ∙ its)))
          (λ ne. rw (elsewhere table g.apart.long s h entry k ne) (alike-to _ _ _ (sym (others k l ne))
          (g.marked k l (sym (mark-other 32 changed s k ne) ∙ m))));
    }
  where
    table_is : (pair_of left).table ≡ set (pair_of kept).table s entry
    table_is = ap (λ (x : Pair). x.table) (p g.enough)

    its : entry_of left s ≡ entry
    its =
        sym (entry_at left s h) ∙ ap (λ (t : List Open). get_or t s free) table_is
        ∙ get_or-set_same (pair_of kept).table s entry free (omega (arith, h, length-table kept))

    others : (k : ℕ) → k < 32 → k ≢ s → entry_of left k ≡ entry_of kept k
    others k l ne =
        sym (entry_at left k l) ∙ ap (λ (t : List Open). get_or t k free) table_is
        ∙ get_or-set_other (pair_of kept).table s k entry free ne ∙ entry_at kept k l
