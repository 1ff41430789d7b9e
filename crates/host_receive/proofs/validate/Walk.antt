-- The walk of the first pass, message by message, against its definition.
-- Assumes nothing.
use Rattle.std.proofs.Common.{◌≡◌, ℕ, zero, suc, ◌+◌, ◌*◌, ◌%◌, ◌<◌, ◌≤◌, Bool, true, false, cond, not, ◌≢◌, List, length, get_or, set, sym, refl, ap, ◌∙◌, arith, le-ltb, lt-ltb, eq-eqb, ne_eqb, le-leb}
use borrow.Author.Tests.{lt-leb}
use Rattle.std.specs.Prelude.{Option, None, Some, Result, Ok, Err, IsErrAnd, MatchResult}
use Rattle.std.proofs.lemmas.Result.{err_from_is_err_and}
use mathlib.Core.Path.{subst}
use mir.Val.{bool_byte}
use Rattle.refusal.specs.Reason.{number}
use Rattle.host_receive.specs.declared.refuse.Refused.{Refused}
use Rattle.octets.specs.Octets.{field}
use Rattle.wire.specs.declared.MessageHeader.{MessageHeader}
use Rattle.wire.specs.Format.{message_header, next_header, frame_most}
use Rattle.wire.specs.Reading.{follows, data_end, message_at}
use Rattle.wire_read.specs.Finding.{head_at, found_at}
use Rattle.wire_read.proofs.Finding.{IsWhole, is-past}
use Rattle.host.specs.declared.Open.{Open}
use Rattle.host.specs.declared.Verdict.{Verdict}
use Rattle.host.specs.Terms.{free}
use Rattle.host.specs.Transactions.{Transactions, verdict_of, verdict, after}
use Rattle.host.specs.Host.{transactions_of}
use Rattle.host_words.specs.Words.{pair_of}
use Rattle.host_receive.specs.Validating.{
  Progress,
  Validation,
  none_yet,
  onward,
  refused_at,
  passed,
  validated_from,
  validated_of,
}
use Rattle.host_receive.specs.Keeping.{Alike}
use Rattle.host_receive.proofs.validate.Alike.{verdict-alike, done-free}

-- ---- a frame too long to be read

pub validated-long : (f : List ℕ) (t : Transactions) (size : ℕ) → frame_most < length f
    → refused_at 2 0 ≡ validated_of f t size
unfolding validated_of
validated-long f t size h = rw (lt-ltb frame_most (length f) h)

pub validated-short : (f : List ℕ) (t : Transactions) (size : ℕ) → length f ≤ frame_most
    → validated_of f t size ≡ validated_from (length f) f size 10 (none_yet t)
unfolding validated_of
validated-short f t size h = rw (le-ltb frame_most (length f) h)

-- ---- one step of the definition

module _ (f : List ℕ) (size at : ℕ) (g : Progress) where
  abbrev pub its-verdict : Verdict
  its-verdict = verdict g.transactions size (message_at f at)

  pub validated-past : (turns : ℕ) → length f < data_end f at
      → validated_from turns f size at g ≡ refused_at 5 g.messages
  unfolding validated_from
  validated-past zero h = refl
  validated-past (suc n) h = rw (lt-leb (data_end f at) (length f) h)

  module _ (n : ℕ) (inside : data_end f at ≤ length f) where
    pub validated-stops : its-verdict.refusal ≢ 0
        → validated_from (suc n) f size at g ≡ refused_at its-verdict.refusal g.messages
    unfolding validated_from
    validated-stops ne = rw (le-leb (data_end f at) (length f) inside, ne_eqb its-verdict.refusal 0 ne)

    pub validated-last : its-verdict.refusal ≡ 0 → follows (field f (at + 23) 1) ≡ false
        → validated_from (suc n) f size at g ≡ passed (onward g (message_at f at) its-verdict)
    unfolding validated_from
    validated-last ok z = rw (le-leb (data_end f at) (length f) inside, eq-eqb its-verdict.refusal 0 ok, z)

    pub validated-more : its-verdict.refusal ≡ 0 → follows (field f (at + 23) 1) ≡ true
        → validated_from (suc n) f size at g
        ≡ validated_from n f size (next_header (data_end f at)) (onward g (message_at f at) its-verdict)
    unfolding validated_from
    validated-more ok z = rw (le-leb (data_end f at) (length f) inside, eq-eqb its-verdict.refusal 0 ok, z)

-- ---- the header and the length that were read are the message's

module _ {f : List ℕ} {at : ℕ} {h : MessageHeader} {len : ℕ} {more : Bool} {next : ℕ}
    (x : IsWhole f at h len more next) where
  head-is : h ≡ message_header (message_at f at)
  unfolding message_header message_at head_at
  head-is = x.header_is

  number_is : h.trans.0 % 32 ≡ (message_at f at).trans % 32
  unfolding message_header
  number_is = ap (λ (h : MessageHeader). h.trans.0 % 32) head-is

  verdict-is : (t : Transactions) (size : ℕ)
      → verdict_of t.lowest t.closed (get_or t.table (h.trans.0 % 32) free) h len size
      ≡ verdict t size (message_at f at)
  unfolding verdict message_header
  verdict-is t size = rw (head-is, ← x.bytes-are)

  -- a turn is left for it
  turn-left : (turns : ℕ) → length f < at + turns → (n : ℕ) × (turns ≡ suc n)
  turn-left zero l = absurd (omega (arith, x.inside-frame, l))
  turn-left (suc n) l = (n, refl)

-- ---- bounds that hold whatever the messages are

pub record Steady (f : List ℕ) (at i b c : ℕ) : Type 0 where
  pub short : length f ≤ 9000
  pub spaced : 10 + 24 * i ≤ at
  pub near : at < length f + 18
  pub bytes_low : b ≤ at
  pub completed-low : c ≤ i

pub steady-start : (f : List ℕ) → length f ≤ 9000 → Steady f 10 0 0 0
steady-start f h =
    record { short = h; spaced = omega arith; near = omega arith; bytes_low = omega arith; completed-low = omega arith }

pub steady-turn : {f : List ℕ} {at i b c : ℕ} {h : MessageHeader} {len : ℕ} {more : Bool} {next : ℕ} → Steady f at i b c
    → IsWhole f at h len more next → (done : Bool) → Steady f next (i + 1) (b + len) (c + cond done 1 0)
steady-turn {f} {at} {i} {b} {c} {h} {len} {more} {next} s x done =
    record {
      short = s.short;
      spaced = omega (arith, s.spaced, x.next-beyond);
      near = omega (arith, x.next-within);
      bytes_low = omega (arith, s.bytes_low, x.next-beyond);
      completed-low = omega (arith, s.completed-low, at_most done);
    }
  where
    at_most : (b : Bool) → cond {A = ℕ} b 1 0 ≤ 1
    at_most true = omega arith
    at_most false = omega arith

-- ---- where the walk stands: what is left to do from here is the whole; `turns` are enough for it

abbrev pub standing : ℕ → ℕ → List Open → ℕ → ℕ → ℕ → Progress
standing lowest closed table messages bytes completed = record {
  transactions = record { lowest = lowest; closed = closed; table = table };
  messages = messages;
  bytes = bytes;
  completed = completed;
}

-- `stands` says that a table is as the messages so far leave it
pub record Walking (w f : List ℕ) (size : ℕ) (stands : List Open → Type 0)
    (lowest closed messages bytes completed at : ℕ) : Type 0 where
  pub table : List Open
  pub stood : stands table
  pub turns : ℕ
  pub enough : length f < at + turns
  pub is : validated_of f (transactions_of (pair_of w)) size
      ≡ validated_from turns f size at (standing lowest closed table messages bytes completed)

pub walking_start : (w f : List ℕ) (size : ℕ) (stands : List Open → Type 0) → stands (pair_of w).table
    → length f ≤ frame_most
    → Walking w f size stands (pair_of w).lowest.0 (pair_of w).closed 0 0 0 10
walking_start w f size stands stood h =
    record {
      table = (pair_of w).table;
      stood = stood;
      turns = length f;
      enough = omega arith;
      is = validated-short f (transactions_of (pair_of w)) size h;
    }

module _ {w f : List ℕ} {size : ℕ} {stands : List Open → Type 0} {lowest closed messages bytes completed at : ℕ}
    (g : Walking w f size stands lowest closed messages bytes completed at) where
  abbrev now-at : Progress
  now-at = standing lowest closed g.table messages bytes completed

  pub walking-past : found_at f at ≡ None → refused_at 5 messages ≡ validated_of f (transactions_of (pair_of w)) size
  walking-past e = sym (g.is ∙ validated-past f size at now-at g.turns (is-past f at e))

  -- a message was found, and judged as code does it
  module _ {h : MessageHeader} {len : ℕ} {more : Bool} {next : ℕ} (x : IsWhole f at h len more next) {o : Open}
      (shown : (table : List Open) → stands table → Alike (get_or table (h.trans.0 % 32) free) o) {v : Verdict}
      (v-is : v ≡ verdict_of lowest closed o h len size) where
    abbrev s : ℕ
    s = h.trans.0 % 32

    abbrev defined : Open
    defined = get_or g.table s free

    left : (n : ℕ) × (g.turns ≡ suc n)
    left = turn-left x g.turns g.enough

    one-turn : validated_of f (transactions_of (pair_of w)) size ≡ validated_from (suc left.0) f size at now-at
    one-turn = g.is ∙ ap (λ (k : ℕ). validated_from k f size at now-at) left.1

    alike : Alike defined o
    alike = shown g.table g.stood

    same : ((verdict_of lowest closed defined h len size).refusal ≡ (verdict_of lowest closed o h len size).refusal)
        × ((verdict_of lowest closed defined h len size).refusal ≡ 0
        → verdict_of lowest closed defined h len size ≡ verdict_of lowest closed o h len size)
    same = verdict-alike lowest closed h len size defined o alike

    its-is : verdict_of lowest closed defined h len size ≡ its-verdict f size at now-at
    its-is = verdict-is x now-at.transactions size

    refusal_is : v.refusal ≡ (its-verdict f size at now-at).refusal
    refusal_is =
        ap (λ (v : Verdict). v.refusal) v-is ∙ sym same.0 ∙ ap (λ (v : Verdict). v.refusal) its-is

    pub walking-stops : v.refusal ≢ 0
        → refused_at v.refusal messages ≡ validated_of f (transactions_of (pair_of w)) size
    walking-stops ne =
        ap (λ (n : ℕ). refused_at n messages) refusal_is
        ∙ sym (one-turn ∙ validated-stops f size at now-at left.0 x.inside-frame (λ z. ne (refusal_is ∙ z)))

    -- it is not refused: the sums and the state after it
    module _ (ok : v.refusal ≡ 0) where
      is-its : v ≡ its-verdict f size at now-at
      is-its =
          v-is
          ∙ sym (same.1 (ap (λ (v : Verdict). v.refusal) its-is ∙ sym refusal_is ∙ ok))
          ∙ its-is

      abbrev after-it : Progress
      after-it = standing v.lowest.0 v.closed (set g.table s v.entry) (messages + 1) (bytes + len)
          (completed + cond v.done 1 0)

      on-is : after-it ≡ onward now-at (message_at f at) (its-verdict f size at now-at)
      unfolding onward after
      on-is = rw (← is-its, number_is x, ← x.bytes-are)

      pub walking-ends : more ≡ false → passed after-it ≡ validated_of f (transactions_of (pair_of w)) size
      walking-ends z =
          ap passed on-is
          ∙ sym (one-turn
          ∙ validated-last f size at now-at left.0 x.inside-frame (sym refusal_is ∙ ok) (sym x.more-is ∙ z))

      pub walking_on : (stands' : List Open → Type 0) → more ≡ true
          → ((table : List Open) → stands table → Alike (get_or table s free) o → (v.done ≡ true → v.entry ≡ free)
          → stands' (set table s v.entry))
          → Walking w f size stands' v.lowest.0 v.closed (messages + 1) (bytes + len) (completed + cond v.done 1 0) next
      walking_on stands' z moves =
          record {
            table = set g.table s v.entry;
            stood = moves g.table g.stood alike
                (λ d. ap (λ (v : Verdict). v.entry) v-is
                ∙ done-free lowest closed h len size o (sym (ap (λ (v : Verdict). v.done) v-is) ∙ d));
            turns = left.0;
            enough = omega (arith, g.enough, x.next-beyond, left.1);
            is =
                one-turn
                ∙ validated-more f size at now-at left.0 x.inside-frame (sym refusal_is ∙ ok)
                (sym x.more-is ∙ z)
                ∙ rw (← on-is, ← x.next-is);
          }

-- ---- what code answers

-- a verdict whose error is given a place
pub ok-kept : {T E D : Type 0} (j : Result T E) {r : Result T D} (P : E → D → Type 0) {x : T}
    → MatchResult j (λ y. r ≡ Ok y) (λ e. IsErrAnd r (P e)) → r ≡ Ok x → j ≡ Ok x
ok-kept (Ok y) P h q = let z = sym h ∙ q in cc
ok-kept (Err e) {r} P h q =
    let p = err_from_is_err_and r h in
    let z = sym p.1 ∙ q in
    absurd cc

pub err-kept : {T E D : Type 0} (j : Result T E) {r : Result T D} (P : E → D → Type 0) {x : D}
    → MatchResult j (λ y. r ≡ Ok y) (λ e. IsErrAnd r (P e)) → r ≡ Err x → (e : E) × (j ≡ Err e) × P e x
err-kept (Ok y) P h q = let z = sym h ∙ q in absurd cc
err-kept (Err e) {r} P {x} h q =
    let p = err_from_is_err_and r h in
    let z = sym p.1 ∙ q in
    let y : p.0 ≡ x = cc in
    (e, refl, subst (P e) y p.2)

-- the refusal that stops the walk
pub told-as : {V : Validation} (o : Option Refused) (x r : Refused) → o ≡ Some x → o ≡ Some r
    → refused_at (number x.reason) x.place ≡ V → refused_at (number r.reason) r.place ≡ V
told-as o x r p q e =
    let z : x ≡ r = cc in
    rw z at e

pub byte-is : (b : Bool) → bool_byte b ≡ cond b 1 0
byte-is true = refl
byte-is false = refl

pub not_more : (b : Bool) → not b ≡ true → b ≡ false
not_more false e = refl
not_more true e = sym e

pub yet-more : (b : Bool) → not b ≡ false → b ≡ true
yet-more true e = refl
yet-more false e = sym e
