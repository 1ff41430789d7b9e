-- Two passes over a frame's messages, first validating all and then applying them, come to what taking them in one
-- after another does. Assumes nothing.
use Rattle.std.proofs.Common.{◌≡◌, ℕ, zero, suc, ◌+◌, ◌%◌, ◌≤◌, Bool, true, false, eqb, ◌≢◌, List, [], ◌∷◌, length, get_or, sym, refl, ap, ◌∙◌, add-one, arith, eq-eqb, ne_eqb, eqb-true}
use mathlib.Core.Option.{Option, none, some}
use native.Mathlib.Decide.{dec_le}
use borrow.Author.Tests.{eqb-false}
use Rattle.octets.specs.Octets.{field}
use Rattle.wire.specs.Format.{Message, message_header, next_header}
use Rattle.wire.specs.Reading.{follows, data_end, message_at, prepend, messages_from}
use Rattle.wire.proofs.Reading.{Headed, unread, headed}
use Rattle.wire_read.proofs.Finding.{step-last, step-more}
use Rattle.host.specs.declared.Open.{Open}
use Rattle.host.specs.declared.Verdict.{Verdict}
use Rattle.host.specs.Terms.{free}
use Rattle.host.specs.Transactions.{fills, left_in, closed_verdict, open_verdict, Transactions, verdict, after}
use Rattle.host.specs.Host.{effect, Tally, take_in, fine, wrong, take_all}
use Rattle.host.proofs.Judging.{closes, holds}
use Rattle.host.proofs.Receiving.{length-effect}
use Rattle.host_receive.specs.Validating.{Validation, Progress, onward, passed, validated_from}
use Rattle.host_receive.proofs.validate.Walk.{
  its-verdict,
  validated-past,
  validated-stops,
  validated-last,
  validated-more,
}
use Rattle.host_receive.specs.Applying.{Applied, applied_from}
use Rattle.host_receive.proofs.apply.Walk.{applied-more}

-- ---- what a message that is not refused does, by its entry

module _ (t : Transactions) (size : ℕ) (m : Message) (ok : (verdict t size m).refusal ≡ 0) where
  abbrev o : Open
  o = get_or t.table (m.trans % 32) free

  settled : ((verdict t size m).done ≡ fills o (message_header m))
      × ((verdict t size m).entry ≡ left_in o (message_header m))
  unfolding verdict closed_verdict open_verdict
  settled = go (fills o (message_header m)) refl
    where
      go : (b : Bool) → fills o (message_header m) ≡ b
          → ((verdict t size m).done ≡ fills o (message_header m))
          × ((verdict t size m).entry ≡ left_in o (message_header m))
      go true z =
          let e = closes t.lowest t.closed o (message_header m) (length m.bytes) size ok z in
          (rw (e, z), rw (e, z))
      go false z =
          let e = holds t.lowest t.closed o (message_header m) (length m.bytes) size ok z in
          (rw (e, z), rw (e, z))

-- ---- taking in, by what is judged

-- what the messages judged so far come to, with the memory that they leave
abbrev pub tally_by : Progress → List ℕ → Tally
tally_by g memory = record {
  transactions = g.transactions;
  memory = memory;
  messages = g.messages;
  bytes = g.bytes;
  completed = g.completed;
}

taken_in : (g : Progress) (memory : List ℕ) (m : Message) (v : Verdict)
    → take_in (tally_by g memory) m v ≡ tally_by (onward g m v) (effect memory m v.done)
unfolding take_in onward after
taken_in g memory m v = refl

module _ (size : ℕ) (g : Progress) (memory : List ℕ) (m : Message) (ms : List Message)
    (same : length memory ≡ size) where
  abbrev v : Verdict
  v = verdict g.transactions size m

  take-refused : v.refusal ≢ 0 → take_all (tally_by g memory) g.messages (m ∷ ms) ≡ wrong v.refusal g.messages
  unfolding take_all
  take-refused ne = rw (same, ne_eqb v.refusal 0 ne)

  take_on : v.refusal ≡ 0 → take_all (tally_by g memory) g.messages (m ∷ ms)
      ≡ take_all (tally_by (onward g m v) (effect memory m v.done)) (suc g.messages) ms
  unfolding take_all
  take_on ok =
      rw (same, eq-eqb v.refusal 0 ok)
      (ap (λ (y : Tally). take_all y (suc g.messages) ms) (taken_in g memory m v))

-- ---- a frame of which no message is refused

-- what both passes leave
abbrev pub tally_of_both : Validation → Applied → Tally
tally_of_both r a = record {
  transactions = record { lowest = r.lowest; closed = r.closed; table = a.table };
  memory = a.memory;
  messages = r.messages;
  bytes = r.bytes;
  completed = r.completed;
}

-- what validating its messages from an offset on comes to: r
pub record Taken (f : List ℕ) (at : ℕ) (g : Progress) (memory : List ℕ) (ms : List Message)
    (r : Validation) : Type 0 where
  pub counted : r.messages ≡ g.messages + length ms
  pub is : take_all (tally_by g memory) g.messages ms
      ≡ fine (tally_of_both r (applied_from (length ms) f at g.transactions.table memory))

module _ (f : List ℕ) (size at : ℕ) (g : Progress) (memory : List ℕ) (same : length memory ≡ size)
    (inside : data_end f at ≤ length f) (ok : (its-verdict f size at g).refusal ≡ 0) where
  abbrev m : Message
  m = message_at f at

  abbrev u : Verdict
  u = its-verdict f size at g

  abbrev next : Progress
  next = onward g m u

  -- the second pass does what the verdict says
  applied-on : (n : ℕ) → applied_from (suc n) f at g.transactions.table memory
      ≡ applied_from n f (next_header (data_end f at)) next.transactions.table (effect memory m u.done)
  unfolding onward after
  applied-on n =
      let s = settled g.transactions size m ok in
      applied-more f at n g.transactions.table memory inside ∙ rw (s.0, s.1)

  taken-last : Taken f at g memory (m ∷ []) (passed next)
  unfolding take_all applied_from onward
  taken-last =
      record {
        counted = omega arith;
        is =
            take_on size g memory m [] same ok
            ∙ ap (λ (a : Applied). fine (tally_of_both (passed next) a)) (sym (applied-on 0));
      }

  taken_more : (rest : List Message) (r : Validation)
      → Taken f (next_header (data_end f at)) next (effect memory m u.done) rest r → Taken f at g memory (m ∷ rest) r
  unfolding onward
  taken_more rest r t =
      record {
        counted = omega (arith, t.counted);
        is =
            take_on size g memory m rest same ok
            ∙ ap (λ (k : ℕ). take_all (tally_by next (effect memory m u.done)) k rest) (sym (add-one g.messages))
            ∙ t.is
            ∙ ap (λ (a : Applied). fine (tally_of_both r a)) (sym (applied-on (length rest)));
      }

taken_of : (f : List ℕ) (size n at : ℕ) (g : Progress) (memory : List ℕ) (ms : List Message) → length memory ≡ size
    → Headed f at n ms → (validated_from (suc n) f size at g).refusal ≡ 0
    → ((g' : Progress) (mem : List ℕ) (rest : List Message) → length mem ≡ size
    → messages_from n f (next_header (data_end f at)) ≡ some rest
    → (validated_from n f size (next_header (data_end f at)) g').refusal ≡ 0
    → Taken f (next_header (data_end f at)) g' mem rest (validated_from n f size (next_header (data_end f at)) g'))
    → Taken f at g memory ms (validated_from (suc n) f size at g)
taken_of f size n at g memory ms same h r ih =
    rw h.is (go (eqb w.refusal 0) refl (follows (field f (at + 23) 1)) refl)
  where
    w : Verdict
    w = its-verdict f size at g

    go : (a : Bool) → eqb w.refusal 0 ≡ a → (b : Bool) → follows (field f (at + 23) 1) ≡ b
        → Taken f at g memory (message_at f at ∷ h.rest) (validated_from (suc n) f size at g)
    go false y b z =
        let ne = eqb-false w.refusal 0 y in
        absurd (ne (sym (ap (λ (r : Validation). r.refusal) (validated-stops f size at g n h.inside ne)) ∙ r))
    go true y false z =
        let ok = eqb-true w.refusal 0 y in
        rw (validated-last f size at g n h.inside ok z, h.last z)
        (taken-last f size at g memory same h.inside ok)
    go true y true z =
        let ok = eqb-true w.refusal 0 y in
        let e = validated-more f size at g n h.inside ok z in
        rw e (taken_more f size at g memory same h.inside ok h.rest _
        (ih (onward g (message_at f at) w) (effect memory (message_at f at) w.done) h.rest
        (length-effect memory (message_at f at) w.done ∙ same) (h.more z)
        (sym (ap (λ (r : Validation). r.refusal) e) ∙ r)))

pub taken-all : (f : List ℕ) (size turns at : ℕ) (g : Progress) (memory : List ℕ) (ms : List Message)
    → length memory ≡ size
    → messages_from turns f at ≡ some ms → (validated_from turns f size at g).refusal ≡ 0
    → Taken f at g memory ms (validated_from turns f size at g)
taken-all f size zero at g memory ms same e r = absurd (unread f at ms e)
taken-all f size (suc n) at g memory ms same e r =
    taken_of f size n at g memory ms same (headed f n at ms e) r
    (λ g' mem rest s q z. taken-all f size n (next_header (data_end f at)) g' mem rest s q z)

-- ---- a frame of which one is

not-taken-of : (f : List ℕ) (size n at : ℕ) (g : Progress) (memory : List ℕ) (ms : List Message) → length memory ≡ size
    → Headed f at n ms → (validated_from (suc n) f size at g).refusal ≢ 0
    → ((g' : Progress) (mem : List ℕ) (rest : List Message) → length mem ≡ size
    → messages_from n f (next_header (data_end f at)) ≡ some rest
    → (validated_from n f size (next_header (data_end f at)) g').refusal ≢ 0
    → take_all (tally_by g' mem) g'.messages rest
    ≡ wrong (validated_from n f size (next_header (data_end f at)) g').refusal
    (validated_from n f size (next_header (data_end f at)) g').messages)
    → take_all (tally_by g memory) g.messages ms
    ≡ wrong (validated_from (suc n) f size at g).refusal (validated_from (suc n) f size at g).messages
unfolding onward
not-taken-of f size n at g memory ms same h ne ih =
    rw h.is (go (eqb w.refusal 0) refl (follows (field f (at + 23) 1)) refl)
  where
    w : Verdict
    w = its-verdict f size at g

    go : (a : Bool) → eqb w.refusal 0 ≡ a → (b : Bool) → follows (field f (at + 23) 1) ≡ b
        → take_all (tally_by g memory) g.messages (message_at f at ∷ h.rest)
        ≡ wrong (validated_from (suc n) f size at g).refusal (validated_from (suc n) f size at g).messages
    go false y b z =
        let no = eqb-false w.refusal 0 y in
        take-refused size g memory (message_at f at) h.rest same no
        ∙ rw (validated-stops f size at g n h.inside no)
    go true y false z =
        let e = validated-last f size at g n h.inside (eqb-true w.refusal 0 y) z in
        absurd (ne (ap (λ (r : Validation). r.refusal) e))
    go true y true z =
        let ok = eqb-true w.refusal 0 y in
        let e = validated-more f size at g n h.inside ok z in
        take_on size g memory (message_at f at) h.rest same ok
        ∙ rw (← add-one g.messages, e)
        (ih (onward g (message_at f at) w) (effect memory (message_at f at) w.done) h.rest
        (length-effect memory (message_at f at) w.done ∙ same) (h.more z)
        (λ q. ne (ap (λ (r : Validation). r.refusal) e ∙ q)))

pub not-taken-all : (f : List ℕ) (size turns at : ℕ) (g : Progress) (memory : List ℕ) (ms : List Message)
    → length memory ≡ size → messages_from turns f at ≡ some ms → (validated_from turns f size at g).refusal ≢ 0
    → take_all (tally_by g memory) g.messages ms
    ≡ wrong (validated_from turns f size at g).refusal (validated_from turns f size at g).messages
not-taken-all f size zero at g memory ms same e ne = absurd (unread f at ms e)
not-taken-all f size (suc n) at g memory ms same e ne =
    not-taken-of f size n at g memory ms same (headed f n at ms e) ne
    (λ g' mem rest s q z. not-taken-all f size n (next_header (data_end f at)) g' mem rest s q z)

-- ---- a frame whose layout is bad

cut_of : (f : List ℕ) (size n at : ℕ) (g : Progress) → messages_from (suc n) f at ≡ none
    → ((g' : Progress) → messages_from n f (next_header (data_end f at)) ≡ none
    → (validated_from n f size (next_header (data_end f at)) g').refusal ≢ 0)
    → (validated_from (suc n) f size at g).refusal ≢ 0
cut_of f size n at g e ih = past (dec_le (data_end f at) (length f))
  where
    w : Verdict
    w = its-verdict f size at g

    Refused : Type 0
    Refused = (validated_from (suc n) f size at g).refusal ≢ 0

    further : (p : Option (List Message)) → prepend (message_at f at) p ≡ none → p ≡ none
    further none q = refl
    further (some ms) q =
        let z : ◌≡◌ {A = ℕ} 0 1 = cc in
        absurd (omega arith)

    go : data_end f at ≤ length f → (a : Bool) → eqb w.refusal 0 ≡ a → (b : Bool) → follows (field f (at + 23) 1) ≡ b
        → Refused
    go inside false y b z =
        let no = eqb-false w.refusal 0 y in
        λ q. no (sym (ap (λ (r : Validation). r.refusal) (validated-stops f size at g n inside no)) ∙ q)
    go inside true y false z =
        let q : some (message_at f at ∷ []) ≡ none = sym (step-last f at n inside z) ∙ e in
        let z : ◌≡◌ {A = ℕ} 0 1 = cc in
        absurd (omega arith)
    go inside true y true z =
        let m = validated-more f size at g n inside (eqb-true w.refusal 0 y) z in
        λ q. ih (onward g (message_at f at) w) (further _ (sym (step-more f at n inside z) ∙ e))
        (sym (ap (λ (r : Validation). r.refusal) m) ∙ q)

    past : Dec (data_end f at ≤ length f) → Refused
    past (yes h) = go h (eqb w.refusal 0) refl (follows (field f (at + 23) 1)) refl
    past (no h) =
        let r = validated-past f size at g (suc n) (omega arith) in
        λ q. omega (arith, sym (ap (λ (r : Validation). r.refusal) r) ∙ q)

pub validated-cut : (f : List ℕ) (size turns at : ℕ) (g : Progress) → messages_from turns f at ≡ none
    → (validated_from turns f size at g).refusal ≢ 0
unfolding validated_from
validated-cut f size zero at g e = λ q. omega (arith, q)
validated-cut f size (suc n) at g e =
    cut_of f size n at g e (λ g' q. validated-cut f size n (next_header (data_end f at)) g' q)
