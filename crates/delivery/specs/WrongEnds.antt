-- Wrong ends: hosts and cards with one fault each, among them the buyer's older host. Nothing of this needs to be
-- believed: the files of proofs/Wrong show that none of them meets demand 3, but for the card that adds nothing.
use Rattle.std.specs.Prelude.{ℕ, suc, ◌%◌, Bool, cond, ◌||◌, ◌&&◌, List, [], ◌∷◌, eqb, leb, ltb, get_or, take, drop, Option, Some, None}
use Rattle.std.proofs.lemmas.List.Edits.{sets}
use Rattle.seq.specs.Ring.{distance, advance, frame_space, trans_space}
use Rattle.bitmap.specs.Marks.{mark, leading}
use Rattle.octets.specs.Octets.{field, little}
use Rattle.wire.specs.Format.{Message}
use Rattle.wire.specs.Reading.{number, flags, ack_start, addressed, Read, bad, good, read_frame}
use Rattle.wire.specs.Writing.{ack_frame}
use Rattle.host.specs.Terms.{free}
use Rattle.host.specs.declared.Pair.{Pair}
use Rattle.host.specs.declared.Answer.{Answer}
use Rattle.host.specs.declared.Answer.TheVariants.{Accepted, Again, NoMessages, Refused}
use Rattle.host.specs.declared.Sums.{Sums}
use Rattle.host.specs.Host.{
  Received,
  unchanged,
  refused,
  again,
  run_from,
  tally_of,
  take_all,
  concluded,
  opened_of,
  receive_of,
  range_of,
}
use Rattle.card.specs.declared.Card.{Card}
use Rattle.delivery.specs.System.{
  CardResult,
  Implementation,
  handed_over,
  specified_card,
  specified_host,
}
use Rattle.delivery.specs.Demand3.{says_accepted}

-- ---- the rules' ends but for some steps

abbrev pub Receiving : Type 0
Receiving = Pair → List ℕ → List ℕ → Received

abbrev pub Acknowledging : Type 0
Acknowledging = Pair → Answer → ℕ → Option (List ℕ)

-- Another receiving at the host, another acknowledging, another step of the card.
abbrev pub host_with : Receiving → Acknowledging → Implementation
host_with receiving acknowledging = record {
  card_end = specified_card;
  host_end = record { host_opening = opened_of; receiving = receiving; acknowledging = acknowledging };
}

abbrev pub with_host : Receiving → Implementation
with_host r = host_with r specified_host.acknowledging

abbrev pub with_acknowledging : Acknowledging → Implementation
with_acknowledging a = host_with receive_of a

abbrev pub card_with : (ℕ → ℕ → ℕ → List ℕ → CardResult) → (Card → List ℕ → ℕ → ℕ → ℕ → CardResult)
    → (Card → List ℕ → ℕ → ℕ → List ℕ → CardResult) → (Card → List ℕ → CardResult)
    → (Card → List ℕ → List ℕ → CardResult) → (Card → List ℕ → ℕ → CardResult) → Implementation
card_with card_opening opening adding sealing reading showing = record {
  card_end = record {
    card_opening = card_opening;
    opening = opening;
    adding = adding;
    sealing = sealing;
    reading = reading;
    showing = showing;
    choosing = specified_card.choosing;
  };
  host_end = specified_host;
}

abbrev pub with_card_opening : (ℕ → ℕ → ℕ → List ℕ → CardResult) → Implementation
with_card_opening f =
    card_with f specified_card.opening specified_card.adding specified_card.sealing specified_card.reading
    specified_card.showing

abbrev pub with_opening : (Card → List ℕ → ℕ → ℕ → ℕ → CardResult) → Implementation
with_opening f =
    card_with specified_card.card_opening f specified_card.adding specified_card.sealing specified_card.reading
    specified_card.showing

abbrev pub with_adding : (Card → List ℕ → ℕ → ℕ → List ℕ → CardResult) → Implementation
with_adding f =
    card_with specified_card.card_opening specified_card.opening f specified_card.sealing specified_card.reading
    specified_card.showing

abbrev pub with_sealing : (Card → List ℕ → CardResult) → Implementation
with_sealing f =
    card_with specified_card.card_opening specified_card.opening specified_card.adding f specified_card.reading
    specified_card.showing

abbrev pub with_reading : (Card → List ℕ → List ℕ → CardResult) → Implementation
with_reading f =
    card_with specified_card.card_opening specified_card.opening specified_card.adding specified_card.sealing f
    specified_card.showing

abbrev pub with_showing : (Card → List ℕ → ℕ → CardResult) → Implementation
with_showing f =
    card_with specified_card.card_opening specified_card.opening specified_card.adding specified_card.sealing
    specified_card.reading f

-- ---- hosts that answer or write at will

unfoldable pub refuses_all : Receiving
refuses_all h f m = unchanged h m (refused 1 0)

unfoldable pub again_to_all : Receiving
again_to_all h f m = again h m (number f)

-- Answers as the rules say, but only its first frame is written.
unfoldable pub writes_first : Receiving
writes_first h f m =
    let r = receive_of h f m in
    record { pair = r.pair; memory = cond (eqb h.next.0 0 && eqb h.marks 0) r.memory m; answer = r.answer }

-- Takes its first frame, and merely acknowledges the rest.
unfoldable pub acknowledges_rest : Receiving
acknowledges_rest h f m =
    cond (eqb h.next.0 0 && eqb h.marks 0) (receive_of h f m) (again h m (number f))

-- Reports other numbers of messages, bytes and completed transactions than an accepted frame's.
unfoldable pub reporting : (Sums → Sums) → Answer → Answer
reporting f (Accepted n s run) = Accepted n (f s) run
reporting f (Again n run) = Again n run
reporting f NoMessages = NoMessages
reporting f (Refused r) = Refused r

-- Takes every frame as the rules say, and makes up the numbers that it reports, from all that it knows.
unfoldable pub invents : (Pair → List ℕ → List ℕ → Sums → Sums) → Receiving
invents f h s m =
    let r = receive_of h s m in
    record { pair = r.pair; memory = r.memory; answer = reporting (f h s m) r.answer }

-- ---- hosts with one fault

-- The last of the transaction window's 32 numbers is refused.
unfoldable pub window_short : Receiving
window_short h f m =
    cond (ltb (distance trans_space h.lowest.0 (field f 10 4)) 31) (receive_of h f m) (unchanged h m (refused 7 0))

-- It does not remember which frames it took.
unfoldable pub forgets : Receiving
forgets h f m =
    let r = receive_of h f m in
    record {
      pair = record {
        own = h.own;
        peer = h.peer;
        next = h.next;
        marks = h.marks;
        lowest = r.pair.lowest;
        closed = r.pair.closed;
        table = r.pair.table;
      };
      memory = r.memory;
      answer = r.answer;
    }

-- With a frame received ahead, it takes the frame that fills the hole for an old copy: it answers "again" and throws it
-- away.
unfoldable pub takes_for_old : Receiving
takes_for_old h f m =
    cond (eqb h.marks 0) (receive_of h f m) (again h m (number f))

-- It writes the completion of its first message's transaction as soon as one message is left to come.
unfoldable pub completes_early : Receiving
completes_early h f m =
    let r = receive_of h f m in
    let o = get_or r.pair.table (field f 10 4 % 32) free in
    record {
      pair = r.pair;
      memory = cond (eqb (suc o.received) o.count) (sets r.memory o.address (little 4 o.value))
          r.memory;
      answer = r.answer;
    }

-- It leaves the four bytes at its first message's completion address as they were.
unfoldable pub never_completes : Receiving
never_completes h f m =
    let r = receive_of h f m in
    let at = field f 14 4 in
    record { pair = r.pair; memory = sets r.memory at (take 4 (drop at m)); answer = r.answer }

-- It acknowledges one number too many: the one after the run.
unfoldable pub acks_two : Acknowledging
acks_two p a num =
    let range = range_of a in
    cond (ltb 0 range.count) (Some (ack_frame p.peer p.own num range.start.0 (suc range.count))) None

-- Its answers carry another run: k says which, of the pair before the frame and after it, and of the frame's number.
unfoldable pub with_run : ℕ → Answer → Answer
with_run run (Accepted n s old) = Accepted n s run
with_run run (Again n old) = Again n run
with_run run NoMessages = NoMessages
with_run run (Refused r) = Refused r

unfoldable pub judges_run : (Pair → Pair → ℕ → ℕ) → Receiving
judges_run k h f m =
    let r = receive_of h f m in
    record { pair = r.pair; memory = r.memory; answer = with_run (k h r.pair (number f)) r.answer }

-- The frame alone; the run with one number too many; the run before the frame took effect; the accepted numbers in the
-- window, without those behind.
abbrev pub its_own_only : Receiving
its_own_only = judges_run (λ before after num. 1)

abbrev pub one_too_many : Receiving
one_too_many = judges_run (λ before after num. suc (run_from after num))

abbrev pub before_effect : Receiving
before_effect = judges_run (λ before after num. run_from before num)

unfoldable pub marks_from : Pair → ℕ → ℕ
marks_from p num =
    leading
    (λ i. let d = distance frame_space p.next.0 (advance frame_space num i) in ltb d 64 && mark p.marks d) 255

abbrev pub without_behind : Receiving
without_behind = judges_run (λ before after num. marks_from after num)

-- It does not acknowledge a frame that comes again.
unfoldable pub silent_on_again : Acknowledging
silent_on_again p (Again n run) num = specified_host.acknowledging p NoMessages num
silent_on_again p (Accepted n s run) num = specified_host.acknowledging p (Accepted n s run) num
silent_on_again p NoMessages num = specified_host.acknowledging p NoMessages num
silent_on_again p (Refused r) num = specified_host.acknowledging p (Refused r) num

-- ---- cards

-- It releases what it seals.
unfoldable pub releases_early : Card → List ℕ → CardResult
releases_early c s =
    let r = specified_card.sealing c s in
    let k = r.card in
    record {
      refusal = r.refusal;
      card = record {
        own = k.own;
        peer = k.peer;
        limit = k.limit;
        used = k.used;
        last = k.last;
        window = record {
          acked = k.window.acked;
          next = k.window.next;
          base = k.window.next;
          sizes = k.window.sizes;
        };
        sendings = k.sendings;
      };
      slots = r.slots;
      part = r.part;
    }

-- It reads acknowledgements and does nothing about them.
unfoldable pub ignores_acks : Card → List ℕ → List ℕ → CardResult
ignores_acks c s f = handed_over (specified_card.reading c s f).refusal c s []

-- Its opening takes its own ID for its peer's.
unfoldable pub swaps_ids : ℕ → ℕ → ℕ → List ℕ → CardResult
swaps_ids own peer limit slots = specified_card.card_opening peer own limit slots

-- It hands out what is in the slot of the frame after the one asked for.
unfoldable pub shows_other : Card → List ℕ → ℕ → CardResult
shows_other c s n = handed_over (specified_card.showing c s n).refusal c s (specified_card.showing c s (suc n)).part

-- It opens each transaction with one message more than it is asked for.
unfoldable pub opens_larger : Card → List ℕ → ℕ → ℕ → ℕ → CardResult
opens_larger c s count address value = specified_card.opening c s (suc count) address value

-- It refuses every message.
abbrev pub adds_nothing : Implementation
adds_nothing = with_adding (λ c slots t at bytes. handed_over 23 c slots [])

-- ---- wrapped numbers compared by plain less-than

-- Numbers as they stand, not by their distance on the ring.
unfoldable pub plainly_behind : ℕ → ℕ → Bool
plainly_behind num next = ltb num next

-- The older host: as the rules say (`by_number`), but for the test whether a frame is behind.
unfoldable pub numbered_plainly : Pair → List ℕ → ℕ → List Message → Received
numbered_plainly p memory num ms =
    let d = distance frame_space p.next.0 num in
    cond (plainly_behind num p.next.0 || (ltb d 64 && mark p.marks d)) (again p memory num)
    (cond (leb 64 d) (unchanged p memory (refused 6 0))
    (concluded p memory num (take_all (tally_of p memory) 0 ms)))

-- As the rules say (`answered`, `receive_of`), with that.
abbrev pub answered_plainly : Pair → List ℕ → List ℕ → Read → Received
answered_plainly p f memory (bad r) = unchanged p memory (refused r 0)
answered_plainly p f memory (good ms) =
    cond (eqb (flags f) 0) (unchanged p memory NoMessages) (numbered_plainly p memory (number f) ms)

unfoldable pub compares_plainly : Receiving
compares_plainly p f memory = answered_plainly p f memory (read_frame (addressed p.own p.peer f) f)

abbrev pub older : Implementation
older = with_host compares_plainly

-- A host that refuses with 7 a frame that the rules accept, where the number of its first message's transaction is
-- below that of the lowest one not complete.
abbrev pub first_transaction : Read → ℕ
first_transaction (bad r) = 0
first_transaction (good []) = 0
first_transaction (good (m ∷ ms)) = m.trans

unfoldable pub transactions_plainly : Receiving
transactions_plainly p f memory =
    let t = first_transaction (read_frame (addressed p.own p.peer f) f) in
    let r = receive_of p f memory in
    cond (says_accepted r.answer && plainly_behind t p.lowest.0) (unchanged p memory (refused 7 0)) r

-- A card that takes an acknowledgement for an old one where its first number is below that of the oldest frame not
-- released.
unfoldable pub reads_plainly : Card → List ℕ → List ℕ → CardResult
reads_plainly c s f =
    cond (plainly_behind (ack_start f) c.window.base.0)
    (handed_over (specified_card.reading c s f).refusal c s []) (specified_card.reading c s f)
