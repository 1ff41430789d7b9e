-- Going through a frame's messages, message by message, against the definitions.
-- Assumes nothing.
use Rattle.std.proofs.Common.{◌≡◌, ℕ, zero, suc, ◌+◌, ◌*◌, ◌<◌, ◌≤◌, Bool, true, false, cond, ◌≢◌, List, ◌∷◌, length, sym, refl, ap, ◌∙◌, arith, eq-eqb, ne_eqb, le-leb}
use Rattle.std.proofs.Common.{None, Result, Ok, Err}
use mathlib.Core.Option.{none, some}
use Rattle.octets.specs.Octets.{little, written}
use Rattle.octets.proofs.Octets.{length-written}
use Rattle.wire.specs.declared.MessageHeader.{MessageHeader}
use Rattle.wire.specs.Format.{Message, message_header, carrying}
use Rattle.wire.specs.Reading.{data_end, message_at, messages_from}
use Rattle.wire.proofs.Reading.{Headed, headed, unread}
use Rattle.wire_read.specs.Finding.{head_at, found_at, data_at}
use Rattle.wire_read.proofs.Finding.{IsWhole, is-past, step_past}
use Rattle.host.specs.declared.Refusal.{Refusal}
use Rattle.host.specs.declared.Sums.{Sums}
use Rattle.host_plain.specs.declared.PlainTransactions.{PlainTransactions}
use Rattle.host_plain.specs.declared.Outcome.{Outcome}
use Rattle.host_plain.specs.Plain.{
  entry_of,
  message_refusal,
  completes,
  after,
  effect,
  counted,
  Tally,
  take_in,
  Taken,
  all_taken,
  refused_at,
  take_all,
  no_sums,
}
use Rattle.host_plain.specs.Passes.{ended, TakesAll}

-- ---- memory

pub length-effect : (memory : List ℕ) (m : Message) (done : Bool) → length (effect memory m done) ≡ length memory
unfolding effect
length-effect memory m true =
    length-written (written memory m.data_address m.bytes) m.completion_address (little 4 m.completion_value)
    ∙ length-written memory m.data_address m.bytes
length-effect memory m false = length-written memory m.data_address m.bytes

-- ---- one step of the definition

abbrev pub tally : PlainTransactions → List ℕ → Sums → Tally
tally t memory sums = record { transactions = t; memory = memory; sums = sums }

module _ (t : PlainTransactions) (memory : List ℕ) (sums : Sums) (m : Message) (ms : List Message) (r : ℕ)
    (r-is : r ≡ message_refusal t (message_header m) (length m.bytes) (length memory)) where
  pub take-stops : r ≢ 0 → take_all (tally t memory sums) (m ∷ ms) ≡ refused_at r sums.messages
  unfolding take_all
  take-stops ne = rw (← r-is, ne_eqb r 0 ne)

  pub take-goes : r ≡ 0 → take_all (tally t memory sums) (m ∷ ms) ≡ take_all (take_in (tally t memory sums) m) ms
  unfolding take_all
  take-goes z = rw (← r-is, eq-eqb r 0 z)

-- ---- bounds that hold whatever the messages are

pub record Steady (f : List ℕ) (at : ℕ) (sums : Sums) : Type 0 where
  pub short : length f ≤ 9000
  pub spaced : 10 + 24 * sums.messages ≤ at
  pub near : at < length f + 18
  pub bytes_low : sums.bytes ≤ at
  pub completed-low : sums.completed ≤ sums.messages

pub steady-start : (f : List ℕ) → length f ≤ 9000 → Steady f 10 no_sums
steady-start f h =
    record { short = h; spaced = omega arith; near = omega arith; bytes_low = omega arith; completed-low = omega arith }

pub steady-turn : {f : List ℕ} {at : ℕ} {sums : Sums} {h : MessageHeader} {len : ℕ} {more : Bool} {next : ℕ}
    → Steady f at sums → IsWhole f at h len more next → (done : Bool) → Steady f next (counted sums len done)
unfolding counted
steady-turn {f} {at} {sums} {h} {len} {more} {next} s w done =
    record {
      short = s.short;
      spaced = omega (arith, s.spaced, w.next-beyond);
      near = omega (arith, w.next-within);
      bytes_low = omega (arith, s.bytes_low, w.next-beyond);
      completed-low = low done;
    }
  where
    low : (b : Bool) → sums.completed + cond b 1 0 ≤ sums.messages + 1
    low true = omega (arith, s.completed-low)
    low false = omega (arith, s.completed-low)

-- ---- where the walk stands

-- what is left to do from here is the whole: the messages `rest`, read from the offset on
pub record Left (f : List ℕ) (at : ℕ) (whole : Taken) (now : Tally) : Type 0 where
  pub turns : ℕ
  pub rest : List Message
  pub read : messages_from turns f at ≡ some rest
  pub is : whole ≡ take_all now rest

-- `stored` is the memory as the messages so far leave it; memory is that only where they are written
pub record Going (f m₀ : List ℕ) (writing : Bool) (t₀ : PlainTransactions) (memory : List ℕ) (t : PlainTransactions)
    (sums : Sums)
    (at : ℕ) : Type 0 where
  pub stored : List ℕ
  pub same_length : length stored ≡ length m₀
  pub memory-is : memory ≡ cond writing stored m₀
  pub left : (ms : List Message) → messages_from (length f) f 10 ≡ some ms
      → Left f at (take_all (tally t₀ m₀ no_sums) ms) (tally t stored sums)

pub going_start : (f m₀ : List ℕ) (writing : Bool) (t₀ : PlainTransactions) → Going f m₀ writing t₀ m₀ t₀ no_sums 10
going_start f m₀ writing t₀ =
    record {
      stored = m₀;
      same_length = refl;
      memory-is = go writing;
      left = λ ms e. record { turns = length f; rest = ms; read = e; is = refl };
    }
  where
    go : (b : Bool) → m₀ ≡ cond b m₀ m₀
    go true = refl
    go false = refl

module _ {f m₀ : List ℕ} {writing : Bool} {t₀ : PlainTransactions} {memory : List ℕ} {t : PlainTransactions}
    {sums : Sums} {at : ℕ}
    (g : Going f m₀ writing t₀ memory t sums at) where
  pub memory-length : length memory ≡ length m₀
  memory-length = ap length g.memory-is ∙ go writing
    where
      go : (b : Bool) → length (cond b g.stored m₀) ≡ length m₀
      go true = g.same_length
      go false = refl

  -- no message is there: the frame is not readable
  pub going-past : (r : Result Outcome Refusal) → found_at f at ≡ None → TakesAll t₀ f m₀ writing r memory
  going-past r e =
      record {
        stored = g.stored;
        outcome-is = λ ms q. never ms (g.left ms q);
        memory-is = g.memory-is;
      }
    where
      never : (ms : List Message) → Left f at (take_all (tally t₀ m₀ no_sums) ms) (tally t g.stored sums)
          → take_all (tally t₀ m₀ no_sums) ms ≡ ended r g.stored
      never ms l =
          let q : none ≡ some l.rest = sym (step_past f at l.turns (is-past f at e)) ∙ l.read in
          let z : ◌≡◌ {A = ℕ} 0 1 = cc in
          absurd (omega arith)

  -- a message was found, and judged as code does it
  module _ {h : MessageHeader} {len : ℕ} {more : Bool} {next : ℕ} (w : IsWhole f at h len more next) (r : ℕ)
      (r-is : r ≡ message_refusal t h len (length memory)) where
    abbrev m : Message
    m = message_at f at

    head-is : h ≡ message_header m
    unfolding head_at
    head-is = w.header_is

    its-refusal : r ≡ message_refusal t (message_header m) (length m.bytes) (length g.stored)
    its-refusal = r-is ∙ rw (head-is, memory-length, ← g.same_length, ← w.bytes-are)

    front : {whole : Taken} {now : Tally} (l : Left f at whole now) → (n : ℕ) × Headed f at n l.rest
    front l = go l.turns l.read
      where
        go : (n : ℕ) → messages_from n f at ≡ some l.rest → (n : ℕ) × Headed f at n l.rest
        go zero q = absurd (unread f at l.rest q)
        go (suc n) q = (n, headed f n at l.rest q)

    pub going-stops : r ≢ 0 → TakesAll t₀ f m₀ writing (Err (record { number = r; place = sums.messages })) memory
    going-stops ne =
        record {
          stored = g.stored;
          outcome-is = λ ms q. stops ms (g.left ms q);
          memory-is = g.memory-is;
        }
      where
        stops : (ms : List Message) → Left f at (take_all (tally t₀ m₀ no_sums) ms) (tally t g.stored sums)
            → take_all (tally t₀ m₀ no_sums) ms
            ≡ refused_at r sums.messages
        stops ms l =
            let k = (front l).1 in
            l.is
            ∙ ap (take_all (tally t g.stored sums)) k.is
            ∙ take-stops t g.stored sums m k.rest r its-refusal ne

    -- it is not refused: what is written, and the state after it
    module _ (ok : r ≡ 0) (done : Bool) (done-is : done ≡ completes (entry_of t h) h) {memory' : List ℕ}
        (memory'-is : memory' ≡ cond writing (effect memory (carrying h (data_at f at)) done) memory) where
      carried : carrying h (data_at f at) ≡ m
      unfolding carrying head_at message_header data_at
      carried = rw (w.header_is, le-leb (data_end f at) (length f) w.inside-frame)

      stored' : List ℕ
      stored' = effect g.stored m done

      length' : length stored' ≡ length m₀
      unfolding stored'
      length' = length-effect g.stored m done ∙ g.same_length

      wrote : memory' ≡ cond writing stored' m₀
      unfolding stored'
      wrote = memory'-is ∙ rw carried (go writing g.memory-is)
        where
          go : (b : Bool) → memory ≡ cond b g.stored m₀
              → cond b (effect memory m done) memory ≡ cond b (effect g.stored m done) m₀
          go true e = ap (λ (x : List ℕ). effect x m done) e
          go false e = e

      took : take_in (tally t g.stored sums) m ≡ tally (after t h) stored' (counted sums len done)
      unfolding take_in stored'
      took = rw (← head-is, ← done-is, w.bytes-are)

      goes : (rest : List Message)
          → take_all (tally t g.stored sums) (m ∷ rest)
          ≡ take_all (tally (after t h) stored' (counted sums len done)) rest
      goes rest =
          take-goes t g.stored sums m rest r its-refusal ok ∙ ap (λ (y : Tally). take_all y rest) took

      pub going-ends : more ≡ false
          → TakesAll t₀ f m₀ writing
          (Ok (record { transactions = after t h; sums = counted sums len done })) memory'
      unfolding take_all
      going-ends z =
          record {
            stored = stored';
            outcome-is = λ ms q. ends ms (g.left ms q);
            memory-is = wrote;
          }
        where
          ends : (ms : List Message) → Left f at (take_all (tally t₀ m₀ no_sums) ms) (tally t g.stored sums)
              → take_all (tally t₀ m₀ no_sums) ms
              ≡ all_taken (tally (after t h) stored' (counted sums len done))
          ends ms l =
              let k = (front l).1 in
              l.is
              ∙ ap (take_all (tally t g.stored sums)) k.is
              ∙ goes k.rest
              ∙ ap (take_all (tally (after t h) stored' (counted sums len done))) (k.last (sym w.more-is ∙ z))

      pub going_on : more ≡ true → Going f m₀ writing t₀ memory' (after t h) (counted sums len done) next
      going_on z =
          record {
            stored = stored';
            same_length = length';
            memory-is = wrote;
            left = λ ms q. on ms (g.left ms q);
          }
        where
          on : (ms : List Message) → Left f at (take_all (tally t₀ m₀ no_sums) ms) (tally t g.stored sums)
              → Left f next (take_all (tally t₀ m₀ no_sums) ms) (tally (after t h) stored' (counted sums len done))
          on ms l =
              let k = (front l).1 in
              record {
                turns = (front l).0;
                rest = k.rest;
                read = ap (messages_from (front l).0 f) w.next-is ∙ k.more (sym w.more-is ∙ z);
                is = l.is ∙ ap (take_all (tally t g.stored sums)) k.is ∙ goes k.rest;
              }
