-- The walk of the second pass, message by message, against its definition.
-- Assumes nothing.
use Rattle.std.proofs.Common.{◌≡◌, ℕ, zero, suc, ◌+◌, ◌-◌, ◌%◌, ◌<◌, ◌≤◌, Bool, List, length, get_or, set, sym, refl, ap, ◌∙◌, arith, le-leb}
use borrow.Author.Tests.{lt-leb}
use Rattle.wire.specs.declared.MessageHeader.{MessageHeader}
use Rattle.wire.specs.Format.{carrying, message_header, next_header}
use Rattle.wire.specs.Reading.{data_end, message_at}
use Rattle.std.specs.Prelude.{None}
use Rattle.wire_read.specs.Finding.{head_at, found_at, data_at}
use Rattle.wire_read.proofs.Finding.{IsWhole, is-past, data-whole}
use Rattle.host.specs.declared.Open.{Open}
use Rattle.host.specs.declared.Pair.{Pair}
use Rattle.host.specs.Terms.{free}
use Rattle.host.specs.Transactions.{fills, left_in}
use Rattle.host.specs.Host.{effect}
use Rattle.host.proofs.Receiving.{length-effect}
use Rattle.host_words.specs.declared.Head.{Head}
use Rattle.host_words.specs.Words.{entry_of, pair_of, head_part, joined}
use Rattle.host_words.proofs.Words.{entry_at}
use Rattle.host_receive.specs.Applying.{Applied, applied_from, TakesEffect}

-- ---- one step of the definition

module _ (f : List ℕ) (at n : ℕ) (table : List Open) (memory : List ℕ) where
  pub applied-past : length f < data_end f at
      → applied_from n f at table memory ≡ record { table = table; memory = memory }
  unfolding applied_from
  applied-past h = go n
    where
      go : (n : ℕ) → applied_from n f at table memory ≡ record { table = table; memory = memory }
      go zero = refl
      go (suc n) = rw (lt-leb (data_end f at) (length f) h)

  abbrev pub its-entry : Open
  its-entry = get_or table ((message_at f at).trans % 32) free

  pub applied-more : data_end f at ≤ length f → applied_from (suc n) f at table memory
      ≡ applied_from n f (next_header (data_end f at))
      (set table ((message_at f at).trans % 32) (left_in its-entry (message_header (message_at f at))))
      (effect memory (message_at f at) (fills its-entry (message_header (message_at f at))))
  unfolding applied_from
  applied-more h = rw (le-leb (data_end f at) (length f) h)

-- ---- a message as its header and its data as a part of the frame

module _ {f : List ℕ} {at : ℕ} {h : MessageHeader} {len : ℕ} {more : Bool} {next : ℕ}
    (x : IsWhole f at h len more next) where
  head-is : h ≡ message_header (message_at f at)
  unfolding message_header message_at head_at
  head-is = x.header_is

  carrying-is : carrying h (data_at f at) ≡ message_at f at
  unfolding carrying message_header message_at head_at
  carrying-is = rw (x.header_is, ← data-whole f at x.inside-frame)

-- ---- where the walk stands: i messages took effect, and what is left to do from here makes the whole

pub record Applying (w₀ f memory₀ : List ℕ) (n : ℕ) (w memory : List ℕ) (at i : ℕ) : Type 0 where
  pub long : length w₀ ≡ 67
  pub same-words : length w ≡ length w₀
  pub same_memory : length memory ≡ length memory₀
  pub low : i ≤ n
  pub head : head_part (pair_of w) ≡ head_part (pair_of w₀)
  pub is : applied_from n f 10 (pair_of w₀).table memory₀ ≡ applied_from (n - i) f at (pair_of w).table memory

pub applying-start : (w f memory : List ℕ) (n : ℕ) → length w ≡ 67 → Applying w f memory n w memory 10 0
applying-start w f memory n l =
    let z : n ≡ n - 0 = omega arith in
    record {
      long = l;
      same-words = refl;
      same_memory = refl;
      low = omega arith;
      head = refl;
      is = ap (λ (k : ℕ). applied_from k f 10 (pair_of w).table memory) z;
    }

module _ {w₀ f memory₀ : List ℕ} {n : ℕ} {w memory : List ℕ} {at i : ℕ}
    (g : Applying w₀ f memory₀ n w memory at i) where
  abbrev whole : Applied
  whole = applied_from n f 10 (pair_of w₀).table memory₀

  ended : whole ≡ record { table = (pair_of w).table; memory = memory }
      → (pair_of w ≡ joined (head_part (pair_of w₀)) whole.table) × (memory ≡ whole.memory)
  ended e = (
    ap (λ (x : Head). joined x (pair_of w).table) g.head
        ∙ ap (λ (a : Applied). joined (head_part (pair_of w₀)) a.table) (sym e),
    ap (λ (a : Applied). a.memory) (sym e),
  )

  pub applying-past : found_at f at ≡ None
      → (pair_of w ≡ joined (head_part (pair_of w₀)) whole.table) × (memory ≡ whole.memory)
  applying-past e = ended (g.is ∙ applied-past f at (n - i) (pair_of w).table memory (is-past f at e))

  pub applying-done : n ≤ i → (pair_of w ≡ joined (head_part (pair_of w₀)) whole.table) × (memory ≡ whole.memory)
  unfolding applied_from
  applying-done l =
      let z : n - i ≡ 0 = omega (arith, g.low) in
      ended (g.is ∙ ap (λ (k : ℕ). applied_from k f at (pair_of w).table memory) z)

  module _ {h : MessageHeader} {len : ℕ} {more : Bool} {next : ℕ} (x : IsWhole f at h len more next) where
    abbrev s : ℕ
    s = h.trans.0 % 32

    -- one step, by what a message leaves of its entry and of memory
    stepped : (k : ℕ) (table left-table : List Open) (memory-left : List ℕ) (o : Open) → o ≡ get_or table s free
        → left-table ≡ set table s (left_in o h) → memory-left ≡ effect memory (carrying h (data_at f at)) (fills o h)
        → applied_from (suc k) f at table memory ≡ applied_from k f next left-table memory-left
    unfolding message_header
    stepped k table left-table memory-left o o_is t m =
        applied-more f at k table memory x.inside-frame
        ∙ rw (t, m, o_is, carrying-is x, x.next-is, head-is x)

    pub applying-turn : (left memory-left : List ℕ) → i < n → length left ≡ length w
        → TakesEffect w memory h (data_at f at) left memory-left → Applying w₀ f memory₀ n left memory-left next (i + 1)
    applying-turn left memory-left l same t =
        let pair_is = t.0 (g.same-words ∙ g.long) in
        let one_left : n - i ≡ suc (n - (i + 1)) = omega arith in
        record {
          long = g.long;
          same-words = same ∙ g.same-words;
          same_memory =
              ap length t.1 ∙ length-effect memory (carrying h (data_at f at)) (fills (entry_of w s) h)
              ∙ g.same_memory;
          low = omega arith;
          head = rw pair_is g.head;
          is =
              g.is
              ∙ ap (λ (k : ℕ). applied_from k f at (pair_of w).table memory) one_left
              ∙ stepped (n - (i + 1)) (pair_of w).table (pair_of left).table memory-left (entry_of w s)
              (sym (entry_at w s (omega arith))) (ap (λ (p : Pair). p.table) pair_is) t.1;
        }
