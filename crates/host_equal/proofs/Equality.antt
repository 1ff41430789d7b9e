-- From equal descriptions both hosts give the same answers with their runs, the same memory and equal descriptions, on
-- every sequence of frames. Assumes nothing but the sizes of words and arrays that the fields' types give.
use mathlib.Core.Path.{◌≡◌, refl, sym, ap, ◌∙◌}
use mathlib.Core.Bool.{Bool, true, false, cond, ◌||◌}
use mathlib.Core.List.{List, [], ◌∷◌}
use Prim.Native.Nat.{ℕ, ◌^◌, ◌<◌}
use native.Mathlib.Omega.{arith}
use borrow.Author.Tests.{leb-false}
use lib.Dec.{eqb, leb}
use lib.ListN.{replicate}
use Rattle.seq.specs.Ring.{distance, frame_space}
use Rattle.bitmap.specs.Marks.{mark, with_mark}
use Rattle.bitmap.proofs.Marks.{with_mark-lt, moved-lt, marks_of-lt}
use Rattle.wire.specs.Format.{Message}
use Rattle.wire.specs.Reading.{number, flags, addressed, Read, bad, good, read_frame}
use Rattle.host.specs.declared.Pair.{Pair}
use Rattle.host.specs.declared.Answer.{Answer}
use Rattle.host.specs.declared.Answer.TheVariants.{Accepted, Again, NoMessages, Refused}
use Rattle.host.specs.Host.{
  fresh,
  refused_opening,
  opened_of,
  Tally,
  Taken,
  fine,
  wrong,
  take_all,
  Received,
  unchanged,
  settled,
  after_frame,
  accepting,
  concluded,
  transactions_of,
  tally_of,
  by_number,
  answered,
  receive_of,
  acknowledgement_from,
  acknowledgement_of,
}
use Rattle.host_plain.specs.declared.PlainPair.{PlainPair}
use Rattle.host_plain.specs.Plain as plain
use Rattle.host_plain.proofs.Marks.{clear_at}
use Rattle.host_equal.specs.Described.{
  Described,
  from_lowest,
  describe,
  describe_plain,
  Typed,
  TypedPlain,
  word_of,
  pair_of_plain,
}
use Rattle.host_equal.specs.Sequences.{and_before, after, after_first, after_plain}
use Rattle.host_equal.proofs.Windows.{length-list_of, bits, bits-clear, word-of-bits, bits-of-word, same-table}
use Rattle.host_equal.proofs.Messages.{plain_of, plain_taken, take_same, take-fits}
use Rattle.host_equal.proofs.Numbers.{frames_of, past-next-is, settled_same, run-same, accepting-same}

-- ---- the plain pair that has the description of a pair

unfoldable pub plain_pair : Pair → PlainPair
plain_pair p = record {
  own = p.own;
  peer = p.peer;
  frames = frames_of p;
  transactions = plain_of (transactions_of p);
}

described-alike : (p : Pair) → describe p ≡ describe_plain (plain_pair p)
unfolding describe describe_plain plain_pair plain_of frames_of
described-alike p = refl

-- and there is no other
pub plain-is : (p : Pair) (q : PlainPair) → Typed p → TypedPlain q → describe p ≡ describe_plain q → q ≡ plain_pair p
unfolding describe describe_plain plain_pair plain_of frames_of
plain-is p q k l e = rw (same-own, same-peer, same_next, same-accepted, same-lowest, same-closed, tables)
  where
    same-own : q.own ≡ p.own
    same-own = sym (ap (λ (d : Described). d.own) e)

    same-peer : q.peer ≡ p.peer
    same-peer = sym (ap (λ (d : Described). d.peer) e)

    same_next : q.frames.next.0 ≡ p.next.0
    same_next = sym (ap (λ (d : Described). d.next) e)

    same-accepted : q.frames.accepted ≡ bits 64 p.marks
    same-accepted = sym (ap (λ (d : Described). d.accepted) e)

    same-lowest : q.transactions.lowest.0 ≡ p.lowest.0
    same-lowest = sym (ap (λ (d : Described). d.lowest) e)

    same-closed : q.transactions.closed ≡ bits 32 p.closed
    same-closed = sym (ap (λ (d : Described). d.closed) e)

    tables : q.transactions.table ≡ p.table
    tables =
        same-table p.lowest.0 q.transactions.table p.table l.entries k.entries
        (ap (λ (n : ℕ). from_lowest n q.transactions.table) (sym same-lowest)
        ∙ sym (ap (λ (d : Described). d.underway) e))

-- ---- one frame

pub record Fits (p : Pair) : Type 0 where
  pub marks-fit : p.marks < 2 ^ 64
  pub closed-fit : p.closed < 2 ^ 32

fits : (p : Pair) → Typed p → Fits p
fits p k = record { marks-fit = k.marks-fit; closed-fit = k.closed-fit }

abbrev plain_received : Received → plain.Received
plain_received r = record { pair = plain_pair r.pair; memory = r.memory; answer = r.answer }

module _ (p : Pair) (k : Fits p) (memory : List ℕ) where
  -- a frame in the window
  module _ (num : ℕ) (near : distance frame_space p.next.0 num < 64) where
    abbrev d : ℕ
    d = distance frame_space p.next.0 num

    marked-fits : (t : Tally) → (after_frame p num t.transactions).marks < 2 ^ 64
    unfolding after_frame
    marked-fits t = moved-lt 64 (with_mark 64 p.marks d) (with_mark-lt 64 p.marks d k.marks-fit)

    left-same : (t : Tally)
        → record {
          pair = record {
            own = p.own;
            peer = p.peer;
            frames = frames_of (after_frame p num t.transactions);
            transactions = plain_of t.transactions;
          };
          memory = t.memory;
          answer = (accepting p num t).answer;
        } ≡ plain_received (accepting p num t)
    unfolding accepting after_frame plain_pair
    left-same t = refl

    concluded-same : (x : Taken)
        → plain.concluded (plain_pair p) memory num (plain_taken x) ≡ plain_received (concluded p memory num x)
    unfolding accepting plain_pair
    concluded-same (fine t) =
        rw (
          accepting-same p k.marks-fit num t.transactions near,
          run-same (after_frame p num t.transactions) (marked-fits t) num,
        ) (left-same t)
    concluded-same (wrong r place) = refl

    concluded-fits : (ms : List Message) (x : Taken) → take_all (tally_of p memory) 0 ms ≡ x
        → Fits (concluded p memory num x).pair
    unfolding accepting after_frame
    concluded-fits ms (fine t) e =
        record { marks-fit = marked-fits t; closed-fit = take-fits (tally_of p memory) 0 ms t k.closed-fit e }
    concluded-fits ms (wrong r place) e = k

  by-number-same : (num : ℕ) (ms : List Message)
      → (plain.by_number (plain_pair p) memory num ms ≡ plain_received (by_number p memory num ms))
      × Fits (by_number p memory num ms).pair
  unfolding plain.by_number by_number plain_pair
  by-number-same num ms = go (settled p num) refl (leb 64 (distance frame_space p.next.0 num)) refl
    where
      Goal : Type 0
      Goal = (plain.by_number (plain_pair p) memory num ms ≡ plain_received (by_number p memory num ms))
          × Fits (by_number p memory num ms).pair

      known : plain.is_settled (frames_of p) num ≡ settled p num
      known = settled_same p k.marks-fit num

      go : (a : Bool) → settled p num ≡ a → (b : Bool) → leb 64 (distance frame_space p.next.0 num) ≡ b → Goal
      go true x b y = (rw (known, x, run-same p k.marks-fit num), rw x k)
      go false x true y = (rw (known, x, past-next-is p num, y), rw (x, y) k)
      go false x false y =
          let near = leb-false 64 (distance frame_space p.next.0 num) y in (
            rw (known, x, past-next-is p num, y, take_same (tally_of p memory) 0 ms k.closed-fit refl)
                (concluded-same num near (take_all (tally_of p memory) 0 ms)),
            rw (x, y) (concluded-fits num near ms (take_all (tally_of p memory) 0 ms) refl),
          )

  -- the same answer, the same memory, and the pair that has the first host's description
  pub receive-same : (f : List ℕ)
      → (plain.receive_of (plain_pair p) f memory ≡ plain_received (receive_of p f memory))
      × Fits (receive_of p f memory).pair
  unfolding plain.receive_of receive_of plain_pair
  receive-same f = go (read_frame (addressed p.own p.peer f) f)
    where
      go : (x : Read) → (plain.answered (plain_pair p) f memory x ≡ plain_received (answered p f memory x))
          × Fits (answered p f memory x).pair
      go (bad r) = (refl, k)
      go (good ms) = by (eqb (flags f) 0) (by-number-same (number f) ms)
        where
          by : (b : Bool)
              → (plain.by_number (plain_pair p) memory (number f) ms ≡ plain_received (by_number p memory (number f) ms))
              × Fits (by_number p memory (number f) ms).pair
              → (cond b (plain.unchanged (plain_pair p) memory NoMessages)
              (plain.by_number (plain_pair p) memory (number f) ms)
              ≡ plain_received (cond b (unchanged p memory NoMessages) (by_number p memory (number f) ms)))
              × Fits (cond b (unchanged p memory NoMessages) (by_number p memory (number f) ms)).pair
          by true e = (refl, k)
          by false e = e

-- ---- there and back: what a plain pair stands for

pub plain_back : (q : PlainPair) → TypedPlain q → plain_pair (pair_of_plain q) ≡ q
unfolding plain_pair pair_of_plain plain_of frames_of
plain_back q l =
    let accepted : bits 64 (pair_of_plain q).marks ≡ q.frames.accepted
    = bits-of-word 64 q.frames.accepted l.accepted-are in
    let closed : bits 32 (pair_of_plain q).closed ≡ q.transactions.closed
    = bits-of-word 32 q.transactions.closed l.closed-are in
    rw (accepted, closed)

pair-back : (p : Pair) → Fits p → pair_of_plain (plain_pair p) ≡ p
unfolding plain_pair pair_of_plain plain_of frames_of
pair-back p k = rw (word-of-bits 64 p.marks k.marks-fit, word-of-bits 32 p.closed k.closed-fit)

-- A description has all of a pair: two pairs that are described alike are one.
pub one-described : (p r : Pair) → Typed p → Typed r → describe p ≡ describe r → p ≡ r
unfolding plain_pair plain_of frames_of
one-described p r k l e =
    sym (pair-back p (fits p k))
    ∙ ap pair_of_plain (sym (plain-is p (plain_pair r) k typed (e ∙ described-alike r)))
    ∙ pair-back r (fits r l)
  where
    typed : TypedPlain (plain_pair r)
    typed = record {
      accepted-are = length-list_of 64 (mark r.marks);
      closed-are = length-list_of 32 (mark r.closed);
      entries = l.entries;
    }

abbrev pub received_of_plain : plain.Received → Received
received_of_plain r = record { pair = pair_of_plain r.pair; memory = r.memory; answer = r.answer }

plain_fits : (q : PlainPair) → Fits (pair_of_plain q)
unfolding pair_of_plain word_of
plain_fits q = record { marks-fit = marks_of-lt 64 _; closed-fit = marks_of-lt 32 _ }

-- A plain host's step is the first host's on the pair that it stands for: the same pair after it, memory and answer.
pub receive-commutes : (q : PlainPair) → TypedPlain q → (f memory : List ℕ)
    → receive_of (pair_of_plain q) f memory ≡ received_of_plain (plain.receive_of q f memory)
receive-commutes q l f memory =
    sym
    (ap (λ (q : PlainPair). received_of_plain (plain.receive_of q f memory)) (sym (plain_back q l))
    ∙ ap received_of_plain same.0
    ∙ rw (pair-back (receive_of (pair_of_plain q) f memory).pair same.1))
  where
    same : (plain.receive_of (plain_pair (pair_of_plain q)) f memory ≡ plain_received (receive_of (pair_of_plain q) f memory))
        × Fits (receive_of (pair_of_plain q) f memory).pair
    same = receive-same (pair_of_plain q) (plain_fits q) memory f

-- ---- a sequence of frames

sequences-same : (fs : List (List ℕ)) (p : Pair) (memory : List ℕ) → Fits p
    → after_first p memory fs ≡ after_plain (plain_pair p) memory fs
unfolding after
sequences-same [] p memory k = rw (described-alike p)
sequences-same (f ∷ fs) p memory k =
    let s = receive-same p k memory f in
    let r : Received = receive_of p f memory in
    rw s.0 (ap (and_before r.answer) (sequences-same fs r.pair r.memory s.1))

-- From any two pairs with equal descriptions, on any sequence of frames and any memory: the same answers with their
-- runs in the same order, the same memory, and equal descriptions.
pub same-sequences : (p : Pair) (q : PlainPair) → Typed p → TypedPlain q → describe p ≡ describe_plain q
    → (memory : List ℕ) (fs : List (List ℕ)) → after_first p memory fs ≡ after_plain q memory fs
same-sequences p q k l e memory fs =
    sequences-same fs p memory (fits p k)
    ∙ ap (λ (q : PlainPair). after_plain q memory fs) (sym (plain-is p q k l e))

-- The same of one frame, part by part.
pub same_step : (p : Pair) (q : PlainPair) → Typed p → TypedPlain q → describe p ≡ describe_plain q
    → (f memory : List ℕ)
    → ((receive_of p f memory).answer ≡ (plain.receive_of q f memory).answer)
    × (((receive_of p f memory).memory ≡ (plain.receive_of q f memory).memory)
    × (describe (receive_of p f memory).pair ≡ describe_plain (plain.receive_of q f memory).pair))
same_step p q k l e f memory =
    rw (plain-is p q k l e, (receive-same p (fits p k) memory f).0)
    (refl, (refl, described-alike (receive_of p f memory).pair))

-- ---- acknowledgements

-- From equal descriptions both hosts acknowledge any answer alike: whether it is due, and every byte.
pub same-acknowledgements : (p : Pair) (q : PlainPair) → describe p ≡ describe_plain q → (a : Answer) (num : ℕ)
    → acknowledgement_of p a num ≡ plain.acknowledgement_of q a num
unfolding acknowledgement_from describe describe_plain
same-acknowledgements p q e a num = go a
  where
    same-own : p.own ≡ q.own
    same-own = ap (λ (d : Described). d.own) e

    same-peer : p.peer ≡ q.peer
    same-peer = ap (λ (d : Described). d.peer) e

    go : (a : Answer) → acknowledgement_of p a num ≡ plain.acknowledgement_of q a num
    go (Accepted n sums run) = rw (same-own, same-peer)
    go (Again n run) = rw (same-own, same-peer)
    go NoMessages = refl
    go (Refused r) = refl

-- ---- openings

fresh-same : (own peer : ℕ) → describe (fresh own peer) ≡ describe_plain (plain.fresh own peer)
unfolding fresh plain.fresh describe describe_plain
fresh-same own peer =
    rw (bits-clear 64 (replicate 64 false) refl (clear_at 64), bits-clear 32 (replicate 32 false) refl (clear_at 32))

-- Both openings are refused or neither is, with the same refusal, and what they hand back has one description.
pub same-openings : (own peer : ℕ)
    → (describe (opened_of own peer).pair ≡ describe_plain (plain.opened_of own peer).pair)
    × ((opened_of own peer).refusal ≡ (plain.opened_of own peer).refusal)
unfolding opened_of plain.opened_of
same-openings own peer = go (eqb own 0 || eqb peer 0)
  where
    go : (b : Bool)
        → (describe
        (cond b refused_opening (record { pair = fresh own peer; refusal = record { number = 0; place = 0 } })).pair
        ≡ describe_plain
        (cond b (plain.opened_with 0 0 13)
        (record { pair = plain.fresh own peer; refusal = record { number = 0; place = 0 } })).pair)
        × ((cond b refused_opening (record { pair = fresh own peer; refusal = record { number = 0; place = 0 } })).refusal
        ≡ (cond b (plain.opened_with 0 0 13)
        (record { pair = plain.fresh own peer; refusal = record { number = 0; place = 0 } })).refusal)
    go true = (fresh-same 0 0, refl)
    go false = (fresh-same own peer, refl)

pub opened-typed : (own peer : ℕ) → Typed (opened_of own peer).pair × TypedPlain (plain.opened_of own peer).pair
unfolding opened_of plain.opened_of fresh plain.fresh
opened-typed own peer = go (eqb own 0 || eqb peer 0)
  where
    typed : (own peer : ℕ) → Typed (fresh own peer)
    typed own peer = record { marks-fit = omega arith; closed-fit = omega arith; entries = refl }

    typed-plain : (own peer : ℕ) → TypedPlain (plain.fresh own peer)
    typed-plain own peer = record { accepted-are = refl; closed-are = refl; entries = refl }

    go : (b : Bool)
        → Typed (cond b refused_opening
        (record { pair = fresh own peer; refusal = record { number = 0; place = 0 } })).pair
        × TypedPlain
        (cond b (plain.opened_with 0 0 13)
        (record { pair = plain.fresh own peer; refusal = record { number = 0; place = 0 } })).pair
    go true = (typed 0 0, typed-plain 0 0)
    go false = (typed own peer, typed-plain own peer)

-- So from an opening on, refused or not, the two hosts can't be told apart.
pub same-from-opening : (own peer : ℕ) (memory : List ℕ) (fs : List (List ℕ))
    → after_first (opened_of own peer).pair memory fs ≡ after_plain (plain.opened_of own peer).pair memory fs
same-from-opening own peer memory fs =
    let k = opened-typed own peer in
    same-sequences (opened_of own peer).pair (plain.opened_of own peer).pair k.0 k.1
    (same-openings own peer).0 memory fs
