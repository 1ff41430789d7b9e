-- What receiving a frame whose header is in order comes to, case by case.
-- Assumes nothing.
use Rattle.std.proofs.Common.{◌≡◌, ℕ, ◌^◌, ◌<◌, ◌≤◌, true, false, ◌≢◌, ◌⊎◌, List, length, sym, refl, ap, ◌∙◌, ⊎_elim, zero-add, arith, le-ltb, lt-ltb, le-leb}
use mathlib.Core.Option.{Option, none, some}
use native.Mathlib.Decide.{dec_le}
use borrow.Author.Tests.{lt-leb}
use Rattle.seq.specs.Ring.{distance, frame_space}
use Rattle.bitmap.specs.Marks.{mark}
use Rattle.wire.specs.declared.FrameHeader.{FrameHeader}
use Rattle.wire.specs.Format.{Message}
use Rattle.wire.specs.Reading.{flags, addressed, heading_of, refusal_of, messages_from, or_passes_end}
use Rattle.wire.proofs.Reading.{Framed, heading-stops, heading-stands, read_none, read-messages}
use Rattle.wire_read.specs.Finding.{header_of}
use Rattle.host.specs.declared.Pair.{Pair}
use Rattle.host.specs.declared.Answer.{Answer}
use Rattle.host.specs.declared.Answer.TheVariants.{Accepted, Again, NoMessages}
use Rattle.host.specs.Host.{
  Received,
  unchanged,
  refused,
  accepting,
  concluded,
  run_from,
  after_frame,
  transactions_of,
  tally_of,
  take_all,
  by_number,
  receive_of,
}
use Rattle.host.proofs.Receiving.{
  reading,
  received-bad,
  received-empty,
  received-good,
  by-number-behind,
  by-number-ahead,
  by-number-again,
  by-number-new,
}
use Rattle.host.specs.Transactions.{Transactions}
use Rattle.host_receive.proofs.run.Counting.{at-behind, at-window, after-accepting}
use Rattle.host_words.specs.Words.{head_part, joined}
use Rattle.host_receive.specs.Validating.{Validation, none_yet, validated_from, validated_of}
use Rattle.host_receive.proofs.validate.Walk.{validated-short}
use Rattle.host_receive.specs.Applying.{applied_from}
use Rattle.host_receive.specs.Refusing.{refused_with, number_answered}
use Rattle.host_receive.specs.Numbering.{accepted_head, run_of_accepted}
use Rattle.host_receive.specs.Receiving.{Awaited}
use Rattle.host_receive.proofs.Passes.{tally_of_both, taken-all, not-taken-all, validated-cut}

-- nothing changed, in its three parts
pub stays : (p : Pair) (f memory : List ℕ) (a : Answer) → receive_of p f memory ≡ unchanged p memory a
    → (p ≡ (receive_of p f memory).pair) × (memory ≡ (receive_of p f memory).memory) × (a ≡ (receive_of p f memory).answer)
stays p f memory a e = (
  sym (ap (λ (r : Received). r.pair) e),
  sym (ap (λ (r : Received). r.memory) e),
  sym (ap (λ (r : Received). r.answer) e),
)

-- a frame with messages that passed the checks of its heading
pub awaited : (p : Pair) (f : List ℕ) → Framed (addressed p.own p.peer f) f
    → (head : FrameHeader) → head ≡ header_of f → head.flags ≢ 0
    → (d : ℕ) → d ≡ distance frame_space p.next.0 head.number.0 → p.next.0 < frame_space → p.marks < 2 ^ 64
    → Awaited p f head.number.0 d
unfolding header_of
awaited p f h head e ne d d-is next_fits marks-fit =
    let flags-are = ap (λ (h : FrameHeader). h.flags) e in
    record {
      least = h.least;
      most = h.most;
      mine = h.right;
      flag = omega (arith, h.flag, flags-are, ne);
      num-is = ap (λ (h : FrameHeader). h.number.0) e;
      d-is = d-is;
      next_fits = next_fits;
      marks-fit = marks-fit;
    }

-- its refusals, and none of them, by the IDs that were read in the words
module _ (p : Pair) (f : List ℕ) (own peer r : ℕ) (own_is : own ≡ p.own) (peer-is : peer ≡ p.peer)
    (r-is : r ≡ heading_of (addressed own peer f) f) where
  r-of : r ≡ heading_of (addressed p.own p.peer f) f
  r-of = r-is ∙ rw (own_is, peer-is)

  pub refused-heading : (memory : List ℕ) → r ≢ 0 → receive_of p f memory ≡ unchanged p memory (refused r 0)
  refused-heading memory ne = received-bad p f memory r (heading-stops _ f r r-of ne)

  pub framed : r ≡ 0 → Framed (addressed p.own p.peer f) f
  framed e = heading-stands _ f r r-of e

-- no messages
pub none-there : (p : Pair) (f memory : List ℕ) → Framed (addressed p.own p.peer f) f
    → (head : FrameHeader) → head ≡ header_of f → head.flags ≡ 0 → receive_of p f memory ≡ unchanged p memory NoMessages
unfolding header_of
none-there p f memory h head e z =
    let y : flags f ≡ 0 = sym (ap (λ (h : FrameHeader). h.flags) e) ∙ z in
    received-empty p f memory (read_none _ f h.least h.most h.right y) y

module _ (p : Pair) (f memory : List ℕ) (num d : ℕ) (w : Awaited p f num d) where
  awaited-read : reading p f memory ≡ or_passes_end (messages_from (length f) f 10)
  awaited-read = read-messages (addressed p.own p.peer f) f w.least w.most w.mine w.flag

  -- its layout is bad
  awaited-cut : messages_from (length f) f 10 ≡ none
      → (refusal_of (reading p f memory) ≡ 5) × (receive_of p f memory ≡ unchanged p memory (refused 5 0))
  awaited-cut e =
      let q = awaited-read ∙ ap or_passes_end e in
      (ap refusal_of q, received-bad p f memory 5 q)

  -- it has messages
  awaited-some : (ms : List Message) → messages_from (length f) f 10 ≡ some ms
      → (refusal_of (reading p f memory) ≡ 0) × (receive_of p f memory ≡ by_number p memory num ms)
  awaited-some ms e =
      let q = awaited-read ∙ ap or_passes_end e in (
        ap refusal_of q,
        received-good p f memory ms q (λ z. omega (arith, z, w.flag))
            ∙ ap (λ (n : ℕ). by_number p memory n ms) (sym w.num-is),
      )

  -- behind, ahead or accepted already: the layout's refusal, or by where the number lies; nothing is touched
  pub answered-by-number : (64 ≤ d) ⊎ (mark p.marks d ≡ true)
      → receive_of p f memory ≡ unchanged p memory (number_answered p.own p.peer f num p.marks d)
  unfolding number_answered
  answered-by-number old = cut (messages_from (length f) f 10) refl
    where
      due : Answer
      due = number_answered p.own p.peer f num p.marks d

      Settled : Type 0
      Settled = receive_of p f memory ≡ unchanged p memory due

      settled : (a : Answer) → receive_of p f memory ≡ unchanged p memory a → due ≡ a → Settled
      settled a e s = e ∙ ap (unchanged p memory) (sym s)

      repeated : ℕ → Answer
      repeated run = Again (record { 0 = num }) run

      lies : (ms : List Message) → messages_from (length f) f 10 ≡ some ms → Dec (32768 ≤ d) → Dec (64 ≤ d) → Settled
      lies ms e (yes h) _ =
          settled (repeated (run_from p num)) ((awaited-some ms e).1 ∙ by-number-behind p memory num d ms w.d-is h)
          (rw ((awaited-some ms e).0, le-leb 32768 d h) (ap repeated (at-behind p num d w.d-is h)))
      lies ms e (no h) (yes k) =
          settled (refused 6 0)
          ((awaited-some ms e).1 ∙ by-number-ahead p memory num d ms w.d-is k (omega (arith, h)))
          (rw ((awaited-some ms e).0, lt-leb 32768 d (omega (arith, h)), le-ltb d 64 k))
      lies ms e (no h) (no k) =
          let m = ⊎_elim (λ far. absurd (omega (arith, far, k))) (λ m. m) old in
          settled (repeated (run_from p num))
          ((awaited-some ms e).1 ∙ by-number-again p memory num d ms w.d-is (omega (arith, k)) m)
          (rw ((awaited-some ms e).0, lt-leb 32768 d (omega (arith, h)), lt-ltb d 64 (omega (arith, k)))
          (ap repeated (at-window p num d w.d-is (omega (arith, k)) w.marks-fit)))

      cut : (r : Option (List Message)) → messages_from (length f) f 10 ≡ r → Settled
      cut none e = settled (refused 5 0) (awaited-cut e).1 (rw (awaited-cut e).0)
      cut (some ms) e = lies ms e (dec_le 32768 d) (dec_le 64 d)

  -- a new number: its messages taken in, or refused
  module _ (new : d < 64) (clear : mark p.marks d ≡ false) where
    abbrev found : Validation
    found = validated_from (length f) f (length memory) 10 (none_yet (transactions_of p))

    -- both passes, where the messages are these
    received-new : (ms : List Message) → messages_from (length f) f 10 ≡ some ms
        → receive_of p f memory ≡ concluded p memory num (take_all (tally_of p memory) 0 ms)
    received-new ms e = (awaited-some ms e).1 ∙ by-number-new p memory num d ms w.d-is new clear

    refused-new : (ms : List Message) → messages_from (length f) f 10 ≡ some ms → found.refusal ≢ 0
        → receive_of p f memory ≡ unchanged p memory (refused found.refusal found.messages)
    refused-new ms e ne =
        received-new ms e
        ∙ ap (concluded p memory num)
        (not-taken-all f (length memory) (length f) 10 (none_yet (transactions_of p)) memory ms refl e ne)

    -- what both passes leave
    abbrev pub effected : Validation → Received
    effected v = record {
      pair = joined (accepted_head (head_part p) num v.lowest v.closed)
          (applied_from v.messages f 10 p.table memory).table;
      memory = (applied_from v.messages f 10 p.table memory).memory;
      answer = Accepted (record { 0 = num })
          (record { messages = v.messages; bytes = v.bytes; completed = v.completed })
          (run_of_accepted (head_part p) num);
    }

    -- the run is counted before the window moves
    run-same : (t : Transactions) → run_from (after_frame p num t) num ≡ run_of_accepted (head_part p) num
    unfolding run_of_accepted
    run-same t = rw (← w.d-is) (sym (after-accepting p num d w.d-is t new w.next_fits w.marks-fit))

    taken-new : (ms : List Message) → messages_from (length f) f 10 ≡ some ms → found.refusal ≡ 0
        → receive_of p f memory ≡ effected found
    unfolding accepting after_frame accepted_head
    taken-new ms e ok =
        let t = taken-all f (length memory) (length f) 10 (none_yet (transactions_of p)) memory ms refl e ok in
        let n : length ms ≡ found.messages = sym (t.counted ∙ zero-add (length ms)) in
        received-new ms e ∙ ap (concluded p memory num) t.is
        ∙ ap (λ (k : ℕ). accepting p num (tally_of_both found (applied_from k f 10 p.table memory))) n
        ∙ ap with_run (run-same (tally_of_both found (applied_from found.messages f 10 p.table memory)).transactions)
      where
        with_run : ℕ → Received
        with_run run = record {
          pair = (effected found).pair;
          memory = (effected found).memory;
          answer = Accepted (record { 0 = num })
              (record { messages = found.messages; bytes = found.bytes; completed = found.completed }) run;
        }

    module _ (v : Validation) (right : v ≡ validated_of f (transactions_of p) (length memory)) where
      v-is : v ≡ found
      v-is = right ∙ validated-short f (transactions_of p) (length memory) w.most

      pub new-refused : v.refusal ≢ 0
          → receive_of p f memory ≡ unchanged p memory (refused_with p.own p.peer f v.refusal v.messages)
      unfolding refused_with
      new-refused ne = rw v-is (go (messages_from (length f) f 10) refl)
        where
          go : (r : Option (List Message)) → messages_from (length f) f 10 ≡ r
              → receive_of p f memory
              ≡ unchanged p memory (refused_with p.own p.peer f found.refusal found.messages)
          go none e =
              let c = awaited-cut e in
              rw c.0 c.1
          go (some ms) e = rw (awaited-some ms e).0 (refused-new ms e (rw v-is at ne))

      pub new-taken : v.refusal ≡ 0 → receive_of p f memory ≡ effected v
      new-taken ok = rw v-is (go (messages_from (length f) f 10) refl)
        where
          go : (r : Option (List Message)) → messages_from (length f) f 10 ≡ r → receive_of p f memory ≡ effected found
          go none e =
              absurd (validated-cut f (length memory) (length f) 10 (none_yet (transactions_of p)) e (rw v-is at ok))
          go (some ms) e = taken-new ms e (rw v-is at ok)
