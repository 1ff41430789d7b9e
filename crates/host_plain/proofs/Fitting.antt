-- What the fields' types say of a plain pair: its numbers fit their fields, and its arrays have their lengths. Opening
-- hands back such a pair, and receiving a frame of bytes leaves one.
use Rattle.std.proofs.Common.{◌≡◌, ℕ, zero, suc, ◌%◌, ◌<◌, ◌≤◌, Bool, true, false, cond, ◌||◌, eqb, ltb, leb, ◌≢◌, List, [], ◌∷◌, length, get_or, set, replicate, refl, ◌∙◌, arith, length-set, get_or-set_other, get_or-set_same}
use mathlib.Core.Option.{Option, none, some}
use native.Mathlib.Decide.{dec_le}
use Rattle.seq.specs.Ring.{advance, frame_space, trans_space}
use Rattle.octets.specs.Octets.{Bytes}
use Rattle.wire.specs.Format.{Message, message_header}
use Rattle.wire.specs.Reading.{
  number,
  flags,
  addressed,
  messages_from,
  Read,
  bad,
  good,
  or_passes_end,
  heading_of,
  read_frame,
}
use Rattle.wire.proofs.RoundTrip.{Fits, AllFit, messages-fit}
use Rattle.host.specs.declared.Open.{Open}
use Rattle.host.specs.declared.Answer.{Answer}
use Rattle.host.specs.declared.Answer.TheVariants.{Again, NoMessages}
use Rattle.host_plain.specs.declared.PlainFrames.{PlainFrames}
use Rattle.host_plain.specs.declared.PlainTransactions.{PlainTransactions}
use Rattle.host_plain.specs.declared.PlainPair.{PlainPair}
use Rattle.host_plain.specs.Plain.{
  free,
  fresh,
  opened_with,
  opened_of,
  leading_set,
  moved_by,
  past_next,
  is_settled,
  run_from,
  accepting,
  away,
  entry_of,
  message_refusal,
  completes,
  closed_by,
  keeping,
  after,
  Tally,
  take_in,
  Taken,
  all_taken,
  refused_at,
  take_all,
  no_sums,
  unchanged,
  refusing,
  concluded,
  by_number,
  answered,
  receive_of,
}
use Rattle.host_plain.proofs.Marks.{length_moved, set-le}

pub record EntryFits (o : Open) : Type 0 where
  pub address-fits : o.address < trans_space
  pub value-fits : o.value < trans_space
  pub count_fits : o.count < frame_space
  pub received-fits : o.received < frame_space

pub record FramesFit (s : PlainFrames) : Type 0 where
  pub next_fits : s.next.0 < frame_space
  pub accepted-are : length s.accepted ≡ 64

pub record TransactionsFit (t : PlainTransactions) : Type 0 where
  pub lowest-fits : t.lowest.0 < trans_space
  pub closed-are : length t.closed ≡ 32
  pub entries : length t.table ≡ 32
  pub each : (k : ℕ) → EntryFits (get_or t.table k free)

pub record Fitting (q : PlainPair) : Type 0 where
  pub own-fits : q.own < frame_space
  pub peer-fits : q.peer < frame_space
  pub frames-fit : FramesFit q.frames
  pub transactions-fit : TransactionsFit q.transactions

-- ---- parts

pub free-fits : EntryFits free
free-fits = record {
  address-fits = omega arith;
  value-fits = omega arith;
  count_fits = omega arith;
  received-fits = omega arith;
}

-- one entry set
each_set : (table : List Open) (i : ℕ) (o : Open) → i < length table → EntryFits o
    → ((k : ℕ) → EntryFits (get_or table k free)) → (k : ℕ) → EntryFits (get_or (set table i o) k free)
each_set table i o l fits all k = go (dec_le k i) (dec_le i k)
  where
    other : k ≢ i → EntryFits (get_or (set table i o) k free)
    other ne = rw (get_or-set_other table i k o free ne) (all k)

    go : Dec (k ≤ i) → Dec (i ≤ k) → EntryFits (get_or (set table i o) k free)
    go (no h) q = other (λ e. h (omega arith))
    go (yes h) (no q) = other (λ e. q (omega arith))
    go (yes h) (yes q) =
        let e : k ≡ i = omega arith in
        rw (e, get_or-set_same table i o free l) fits

-- a window keeps its length where a mark is set and it moves past the set ones
window-length : (marks : List Bool) (i n : ℕ) → length marks ≡ n
    → length (moved_by (leading_set (set marks i true)) (set marks i true)) ≡ n
window-length marks i n e =
    length_moved (leading_set (set marks i true)) (set marks i true) (set-le (set marks i true))
    ∙ length-set marks i true
    ∙ e

-- ---- opening

free-at : (n k : ℕ) → get_or (replicate n free) k free ≡ free
free-at zero k = refl
free-at (suc n) zero = refl
free-at (suc n) (suc k) = free-at n k

fresh-fits : (own peer : ℕ) → own < frame_space → peer < frame_space → Fitting (fresh own peer)
unfolding fresh
fresh-fits own peer h k =
    record {
      own-fits = h;
      peer-fits = k;
      frames-fit = record { next_fits = omega arith; accepted-are = refl };
      transactions-fit = record {
        lowest-fits = omega arith;
        closed-are = refl;
        entries = refl;
        each = λ j. rw (free-at 32 j) free-fits;
      };
    }

pub opened-fits : (own peer : ℕ) → own < frame_space → peer < frame_space → Fitting (opened_of own peer).pair
unfolding opened_of
opened-fits own peer h k = go (eqb own 0 || eqb peer 0)
  where
    go : (b : Bool) → Fitting (cond b (opened_with 0 0 13) (opened_with own peer 0)).pair
    go true = fresh-fits 0 0 (omega arith) (omega arith)
    go false = fresh-fits own peer h k

-- ---- one message, and all of a frame

module _ (t : PlainTransactions) (s : TransactionsFit t) (m : Message) (f : Fits m) where
  in_table : m.trans % 32 < length t.table
  in_table = omega (arith, s.entries)

  closing-fits : TransactionsFit (closed_by t (message_header m))
  unfolding closed_by message_header advance
  closing-fits =
      record {
        lowest-fits = omega arith;
        closed-are = window-length t.closed (away t (message_header m)) 32 s.closed-are;
        entries = length-set t.table (m.trans % 32) free ∙ s.entries;
        each = each_set t.table (m.trans % 32) free in_table free-fits s.each;
      }

  keeping-fits : TransactionsFit (keeping t (message_header m))
  unfolding keeping message_header
  keeping-fits =
      record {
        lowest-fits = s.lowest-fits;
        closed-are = s.closed-are;
        entries = length-set t.table (m.trans % 32) _ ∙ s.entries;
        each = each_set t.table (m.trans % 32) _ in_table
            (record {
              address-fits = f.address-fits;
              value-fits = f.value-fits;
              count_fits = f.count_fits;
              received-fits = omega arith;
            })
            s.each;
      }

  after-fits : TransactionsFit (after t (message_header m))
  unfolding after
  after-fits = go (completes (entry_of t (message_header m)) (message_header m))
    where
      go : (b : Bool) → TransactionsFit (cond b (closed_by t (message_header m)) (keeping t (message_header m)))
      go true = closing-fits
      go false = keeping-fits

TakenFits : Taken → Type 0
TakenFits (all_taken t) = TransactionsFit t.transactions
TakenFits (refused_at r place) = Unit {0}

taken-fits : (t : Tally) (ms : List Message) → TransactionsFit t.transactions → AllFit ms → TakenFits (take_all t ms)
unfolding take_all take_in TakenFits
taken-fits t [] s f = s
taken-fits t (m ∷ ms) s f = go (eqb r 0) (taken-fits (take_in t m) ms (after-fits t.transactions s m f.0) f.1)
  where
    r : ℕ
    r = message_refusal t.transactions (message_header m) (length m.bytes) (length t.memory)

    go : (b : Bool) → TakenFits (take_all (take_in t m) ms)
        → TakenFits (cond b (take_all (take_in t m) ms) (refused_at r t.sums.messages))
    go true fits = fits
    go false fits = tt

-- ---- receiving

-- the messages of a frame of bytes fit their fields
read_fits : (ids : Bool) (f : List ℕ) (ms : List Message) → Bytes f → read_frame ids f ≡ good ms → AllFit ms
unfolding read_frame
read_fits ids f ms b = headed (ltb 0 (heading_of ids f)) (eqb (flags f) 0)
  where
    never : (r : ℕ) → bad r ≡ good ms → AllFit ms
    never r e = let z : ◌≡◌ {A = ℕ} 0 1 = cc in absurd (omega arith)

    found : (o : Option (List Message)) → messages_from (length f) f 10 ≡ o → or_passes_end o ≡ good ms → AllFit ms
    found none z e = never 5 e
    found (some xs) z e =
        let q : xs ≡ ms = cc in
        rw (← q) (messages-fit (length f) f 10 xs b z)

    headed : (x y : Bool)
        → cond x (bad (heading_of ids f)) (cond y (good []) (or_passes_end (messages_from (length f) f 10))) ≡ good ms
        → AllFit ms
    headed true y e = never (heading_of ids f) e
    headed false true e =
        let q : [] ≡ ms = cc in
        rw (← q) tt
    headed false false e = found (messages_from (length f) f 10) refl e

module _ (p : PlainPair) (s : Fitting p) (memory : List ℕ) where
  concluded-fits : (num : ℕ) (x : Taken) → TakenFits x → Fitting (concluded p memory num x).pair
  unfolding accepting advance TakenFits
  concluded-fits num (all_taken t) fits =
      record {
        own-fits = s.own-fits;
        peer-fits = s.peer-fits;
        frames-fit = record {
          next_fits = omega arith;
          accepted-are = window-length p.frames.accepted (past_next p.frames num) 64
              s.frames-fit.accepted-are;
        };
        transactions-fit = fits;
      }
  concluded-fits num (refused_at r place) fits = s

  by-number-fits : (num : ℕ) (ms : List Message) → AllFit ms → Fitting (by_number p memory num ms).pair
  unfolding by_number
  by-number-fits num ms f = go (is_settled p.frames num) (leb 64 (past_next p.frames num))
    where
      taken : Taken
      taken = take_all (record { transactions = p.transactions; memory = memory; sums = no_sums }) ms

      again : Answer
      again = Again (record { 0 = num }) (run_from 255 p.frames num)

      go : (a b : Bool)
          → Fitting (cond a (unchanged p memory again) (cond b (unchanged p memory (refusing 6 0))
          (concluded p memory num taken))).pair
      go true b = s
      go false true = s
      go false false = concluded-fits num taken (taken-fits _ ms s.transactions-fit f)

  pub receive-fits : (f : List ℕ) → Bytes f → Fitting (receive_of p f memory).pair
  unfolding receive_of
  receive-fits f b = go (read_frame (addressed p.own p.peer f) f) refl
    where
      go : (x : Read) → read_frame (addressed p.own p.peer f) f ≡ x → Fitting (answered p f memory x).pair
      go (bad r) e = s
      go (good ms) e = by (eqb (flags f) 0)
        where
          by : (x : Bool)
              → Fitting (cond x (unchanged p memory NoMessages) (by_number p memory (number f) ms)).pair
          by true = s
          by false = by-number-fits (number f) ms (read_fits _ f ms b e)
