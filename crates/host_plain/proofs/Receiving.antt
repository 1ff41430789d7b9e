-- What receiving a frame comes to, case by case in the order of the rules.
-- Assumes nothing.
use Rattle.std.proofs.Common.{◌≡◌, ℕ, zero, suc, ◌+◌, ◌-◌, ◌<◌, ◌≤◌, Bool, true, false, cond, eqb, leb, ◌≢◌, List, length, sym, refl, ap, ◌∙◌, true≢false, arith, eq-eqb, ne_eqb, le-leb}
use Rattle.std.proofs.Common.{Result, Ok, Err, OnErr}
use mathlib.Core.Option.{some}
use borrow.Author.Tests.{lt-leb}
use Rattle.seq.specs.declared.FrameNo.{FrameNo}
use Rattle.seq.specs.Ring.{advance, frame_space}
use Rattle.wire.specs.declared.FrameHeader.{FrameHeader}
use Rattle.wire.specs.Format.{Message}
use Rattle.wire.specs.Reading.{number, flags, addressed, Read, bad, good, read_frame, refusal_of, messages_from}
use Rattle.wire.proofs.Reading.{Readable}
use Rattle.wire_read.specs.Finding.{header_of}
use Rattle.host.specs.declared.Refusal.{Refusal}
use Rattle.host.specs.declared.Answer.{Answer}
use Rattle.host.specs.declared.Answer.TheVariants.{Accepted, Again, NoMessages, Refused}
use Rattle.host.specs.Host.{took_effect}
use Rattle.host_plain.specs.declared.PlainFrames.{PlainFrames}
use Rattle.host_plain.specs.declared.PlainTransactions.{PlainTransactions}
use Rattle.host_plain.specs.declared.PlainPair.{PlainPair}
use Rattle.host_plain.specs.declared.PlainStepped.{PlainStepped}
use Rattle.host_plain.specs.declared.Outcome.{Outcome}
use Rattle.host_plain.specs.Plain.{past_next, is_settled, run_from, accepting, Taken, all_taken, refused_at, take_all, no_sums, Received, unchanged, refusing, concluded, by_number, answered, receive_of, stepped_of}
use Rattle.host_plain.specs.Passes.{ended, TakesAll, TakesAllOrNone, TakesFrame}
use Rattle.host_plain.proofs.Passes.{tally}

-- ---- frame numbers

-- the loop that counts a run: what is left of it starts at the number reached
pub record Counting (s : PlainFrames) (first num run : ℕ) : Type 0 where
  pub within : run ≤ 255
  pub whole : run_from 255 s first ≡ run + run_from (255 - run) s num

pub counting-start : (s : PlainFrames) (first : ℕ) → Counting s first first 0
counting-start s first = record { within = omega arith; whole = omega arith }

module _ {s : PlainFrames} {first num run : ℕ} (k : Counting s first num run) where
  pub counting-stops : is_settled s num ≡ false → run ≡ run_from 255 s first
  unfolding run_from
  counting-stops e = go (255 - run) k.whole
    where
      go : (n : ℕ) → run_from 255 s first ≡ run + run_from n s num → run ≡ run_from 255 s first
      go zero w = omega (arith, w)
      go (suc n) w = let z : run_from 255 s first ≡ run + 0 = w ∙ rw e in omega (arith, z)

  pub counting-full : 255 ≤ run → 255 ≡ run_from 255 s first
  unfolding run_from
  counting-full h = go (255 - run) (omega (arith, k.within)) k.whole
    where
      go : (n : ℕ) → n ≡ 0 → run_from 255 s first ≡ run + run_from n s num → 255 ≡ run_from 255 s first
      go zero z w = omega (arith, w, k.within)
      go (suc n) z w = absurd (omega (arith, z))

  pub counting-on : run < 255 → is_settled s num ≡ true → (next : FrameNo) → next.0 ≡ advance frame_space num 1
      → Counting s first next.0 (run + 1)
  unfolding run_from
  counting-on h e next n-is =
      record {
        within = omega arith;
        whole = go (255 - run) (255 - (run + 1)) (omega arith) k.whole;
      }
    where
      go : (n m : ℕ) → n ≡ suc m → run_from 255 s first ≡ run + run_from n s num
          → run_from 255 s first ≡ run + 1 + run_from m s next.0
      go zero m z w = absurd (omega (arith, z))
      go (suc n) m z w =
          let q : n ≡ m = omega (arith, z) in
          let l : run_from 255 s first ≡ run + suc (run_from n s next.0) = w ∙ rw (e, n-is) in
          rw (← q) (omega (arith, l))

-- ---- a frame

module _ (p : PlainPair) (f memory : List ℕ) where
  abbrev pub reading : Read
  reading = read_frame (addressed p.own p.peer f) f

  pub received-refused : (r : ℕ) → r ≡ refusal_of reading → r ≢ 0
      → receive_of p f memory ≡ unchanged p memory (refusing r 0)
  unfolding receive_of
  received-refused r e ne = go reading e
    where
      go : (x : Read) → r ≡ refusal_of x → answered p f memory x ≡ unchanged p memory (refusing r 0)
      go (bad k) q = rw (← q)
      go (good ms) q = absurd (ne q)

  -- a frame that can be read
  module _ (can : Readable (addressed p.own p.peer f) f) (head : FrameHeader) (head-is : head ≡ header_of f) where
    flags-are : head.flags ≡ flags f
    unfolding header_of
    flags-are = ap (λ (h : FrameHeader). h.flags) head-is

    number_is : head.number ≡ record { 0 = number f }
    unfolding header_of
    number_is = ap (λ (h : FrameHeader). h.number) head-is

    pub received_none : head.flags ≡ 0 → receive_of p f memory ≡ unchanged p memory NoMessages
    unfolding receive_of
    received_none z =
        let e : flags f ≡ 0 = sym flags-are ∙ z in
        ap (answered p f memory) (can.none_read e) ∙ rw (eq-eqb (flags f) 0 e)

    -- with messages
    module _ (ne : head.flags ≢ 0) where
      received-some : (ms : List Message) × (messages_from (length f) f 10 ≡ some ms)
          × (receive_of p f memory ≡ by_number p memory head.number.0 ms)
      unfolding receive_of
      received-some =
          let one : flags f ≡ 1 = omega (arith, can.flag, flags-are, ne) in
          let s = can.some_read one in
          let z : flags f ≢ 0 = λ e. ne (flags-are ∙ e) in (
            s.0,
            s.1,
            ap (answered p f memory) s.2 ∙ rw (ne_eqb (flags f) 0 z)
                (ap (λ (n : FrameNo). by_number p memory n.0 s.0) (sym number_is)),
          )

      module _ (known : Bool) (Known-is : known ≡ is_settled p.frames head.number.0) where
        pub received-again : known ≡ true
            → receive_of p f memory
            ≡ unchanged p memory (Again head.number (run_from 255 p.frames head.number.0))
        unfolding by_number
        received-again e = received-some.2 ∙ rw (← Known-is, e)

        -- not received yet, d past next
        module _ (new : known ≡ false) (d : ℕ) (d-is : d ≡ past_next p.frames head.number.0) where
          pub received-ahead : 64 ≤ d → receive_of p f memory ≡ unchanged p memory (refusing 6 0)
          unfolding by_number
          received-ahead h = received-some.2 ∙ rw (← Known-is, new, ← d-is, le-leb 64 d h)

          pub received-taken : d < 64 → (r : PlainStepped) (left : List ℕ)
              → TakesFrame p f memory head.number.0 r left
              → (r ≡ stepped_of (receive_of p f memory)) × (left ≡ (receive_of p f memory).memory)
          unfolding by_number
          received-taken h r left took =
              let e : receive_of p f memory
              ≡ concluded p memory head.number.0
              (take_all (tally p.transactions memory no_sums) received-some.0)
              = received-some.2 ∙ rw (← Known-is, new, ← d-is, lt-leb 64 d h) in
              let t = took received-some.0 received-some.1 in
              (t.0 ∙ sym (ap stepped_of e), t.1 ∙ sym (ap (λ (r : Received). r.memory) e))

-- ---- a frame that is taken in: all its messages were written, or none

module _ (p : PlainPair) (f memory : List ℕ) (num : ℕ) (left : List ℕ) where
  pub stopped : (e : Refusal) → TakesAllOrNone p.transactions f memory (Err e) left
      → TakesFrame p f memory num (record { pair = p; answer = Refused e }) left
  stopped e whole ms q =
      let k = whole.outcome-is ms q in
      (rw k.0, k.1 ∙ rw k.0)

  pub took : (o : Outcome) → TakesAllOrNone p.transactions f memory (Ok o) left
      → (frames : PlainFrames) → frames ≡ accepting p.frames num → (n : FrameNo) → n.0 ≡ num
      → (run : ℕ) → run ≡ run_from 255 frames num
      → TakesFrame p f memory num
      (record {
        pair = record { own = p.own; peer = p.peer; frames = frames; transactions = o.transactions };
        answer = Accepted n o.sums run;
      }) left
  took o whole frames frames-are n n-is run run_is ms q =
      let k = whole.outcome-is ms q in
      (rw (k.0, run_is, frames-are, ← n-is), rw k.0)

-- ---- gone through without writing, and then again with it

module _ {t : PlainTransactions} {f memory : List ℕ} where
  pub stopped-first : {e : Refusal} {left : List ℕ} → TakesAll t f memory false (Err e) left
      → TakesAllOrNone t f memory (Err e) left
  stopped-first first = record { outcome-is = λ ms q. (first.outcome-is ms q, first.memory-is) }

  pub taken-then : {o : Outcome} {left left' : List ℕ} {r : Result Outcome Refusal} → TakesAll t f memory false (Ok o) left
      → TakesAll t f left true r left'
      → TakesAllOrNone t f memory r left'
  taken-then {o} {left} {left'} {r} first second = record { outcome-is = λ ms q. go r second ms q }
    where
      go : (r : Result Outcome Refusal) → TakesAll t f left true r left' → (ms : List Message)
          → messages_from (length f) f 10 ≡ some ms
          → (take_all (tally t memory no_sums) ms ≡ ended r left') × OnErr r (left' ≡ memory)
      go (Ok o') second ms q = (
        ap (λ (m : List ℕ). take_all (tally t m no_sums) ms) (sym first.memory-is)
            ∙ second.outcome-is ms q
            ∙ rw second.memory-is,
        tt,
      )
      go (Err e) second ms q =
          let both : all_taken (tally o.transactions first.stored o.sums) ≡ refused_at e.number e.place
          = sym (first.outcome-is ms q)
          ∙ ap (λ (m : List ℕ). take_all (tally t m no_sums) ms) (sym first.memory-is)
          ∙ second.outcome-is ms q in
          absurd cc

-- ---- a frame that is not accepted leaves the pair as it was

module _ (p : PlainPair) (f memory : List ℕ) where
  abbrev Unmoved : Received → Type 0
  Unmoved r = took_effect r.answer ≡ false → r.pair ≡ p

  concluded-unmoved : (num : ℕ) (x : Taken) → Unmoved (concluded p memory num x)
  concluded-unmoved num (all_taken t) e = absurd (true≢false e)
  concluded-unmoved num (refused_at r place) e = refl

  by-number-unmoved : (num : ℕ) (ms : List Message) → Unmoved (by_number p memory num ms)
  unfolding by_number
  by-number-unmoved num ms = go (is_settled p.frames num) (leb 64 (past_next p.frames num))
    where
      taken : Taken
      taken = take_all (tally p.transactions memory no_sums) ms

      again : Answer
      again = Again (record { 0 = num }) (run_from 255 p.frames num)

      go : (a b : Bool)
          → Unmoved (cond a (unchanged p memory again) (cond b (unchanged p memory (refusing 6 0))
          (concluded p memory num taken)))
      go true b e = refl
      go false true e = refl
      go false false e = concluded-unmoved num taken e

  pub unmoved : took_effect (receive_of p f memory).answer ≡ false → (receive_of p f memory).pair ≡ p
  unfolding receive_of
  unmoved = go (read_frame (addressed p.own p.peer f) f)
    where
      go : (x : Read) → Unmoved (answered p f memory x)
      go (bad r) e = refl
      go (good ms) e = by (eqb (flags f) 0) e
        where
          by : (b : Bool) → Unmoved (cond b (unchanged p memory NoMessages) (by_number p memory (number f) ms))
          by true e = refl
          by false e = by-number-unmoved (number f) ms e
