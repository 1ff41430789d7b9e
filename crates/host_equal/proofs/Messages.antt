-- One message, and all messages of a frame: the plain host's transactions stay those of the first host.
-- Assumes nothing.
use mathlib.Core.Path.{◌≡◌, refl, sym, ap, ◌∙◌}
use mathlib.Core.Bool.{Bool, true, false, cond, not, ◌&&◌, ◌||◌}
use mathlib.Core.List.{List, [], ◌∷◌}
use Prim.Native.Nat.{ℕ, zero, suc, ◌%◌, ◌^◌, ◌<◌}
use native.Mathlib.Numerals.{add-one}
use native.Mathlib.Omega.{arith}
use borrow.Author.Tests.{lt-ltb, eq-eqb, ne_eqb, eqb-true, eqb-false}
use lib.Dec.{eqb, leb, ltb}
use lib.ListN.{length, get_or, set}
use Rattle.seq.specs.Ring.{distance, trans_space}
use Rattle.bitmap.specs.Marks.{mark, with_mark}
use Rattle.bitmap.proofs.Marks.{with_mark-lt, moved-lt}
use Rattle.wire.specs.declared.MessageHeader.{MessageHeader}
use Rattle.wire.specs.Format.{Message, message_header, needed}
use Rattle.host.specs.declared.Open.{Open}
use Rattle.host.specs.Terms.{free, agrees, terms_refusal, address_refusal, first_of, message_refusal}
use Rattle.host.specs.declared.Verdict.{Verdict}
use Rattle.host.specs.Transactions.{
  fills,
  refused_verdict,
  closed_verdict,
  open_verdict,
  verdict_of,
  Transactions,
  verdict,
  after,
}
use Rattle.host.proofs.Judging.{in_window, closes, holds}
use Rattle.host.specs.Host.{effect, Tally, take_in, Taken, fine, wrong, take_all}
use Rattle.host_plain.specs.declared.PlainTransactions.{PlainTransactions}
use Rattle.host_plain.specs.Plain as plain
use Rattle.host_equal.proofs.Windows.{bits, bit_at, run-set, moved-set}

-- The plain host's transactions that are the first host's.
unfoldable pub plain_of : Transactions → PlainTransactions
plain_of t = record { lowest = record { 0 = t.lowest }; closed = bits 32 t.closed; table = t.table }

-- ---- one message

differs-is : (o : Open) (h : MessageHeader) → plain.differs o h ≡ not (agrees o h)
unfolding plain.differs agrees
differs-is o h =
    rw (some-received o.received)
    (go (eqb o.received 0) (eqb o.count h.count) (eqb o.address h.completion_address)
    (eqb o.value h.completion_value))
  where
    some-received : (n : ℕ) → ltb 0 n ≡ not (eqb n 0)
    some-received zero = refl
    some-received (suc n) = lt-ltb 0 (suc n) (omega arith) ∙ sym (rw (ne_eqb (suc n) 0 (λ e. omega (arith, e))))

    go : (z a b c : Bool) → not z && (not a || (not b || not c)) ≡ not (z || (a && (b && c)))
    go true a b c = refl
    go false false b c = refl
    go false true false c = refl
    go false true true false = refl
    go false true true true = refl

eqb-sym : (a b : ℕ) → eqb a b ≡ eqb b a
eqb-sym a b = go (eqb a b) refl
  where
    go : (x : Bool) → eqb a b ≡ x → x ≡ eqb b a
    go true z = sym (eq-eqb b a (sym (eqb-true a b z)))
    go false z = sym (ne_eqb b a (λ e. eqb-false a b z (sym e)))

completes-is : (o : Open) (h : MessageHeader) → plain.completes o h ≡ fills o h
unfolding plain.completes fills needed
completes-is o h = rw (add-one o.received) (eqb-sym (suc o.received) _)

module _ (t : Transactions) (fits : t.closed < 2 ^ 32) (h : MessageHeader) (len size : ℕ) where
  abbrev o : Open
  o = get_or t.table (h.trans.0 % 32) free

  abbrev d : ℕ
  d = distance trans_space t.lowest h.trans.0

  abbrev r : ℕ
  r = message_refusal d t.closed o h len size

  abbrev pub v : Verdict
  v = verdict_of t.lowest t.closed o h len size

  refusal_is : v.refusal ≡ r
  unfolding verdict_of refused_verdict closed_verdict open_verdict
  refusal_is = go (eqb r 0) refl (fills o h)
    where
      go : (b : Bool) → eqb r 0 ≡ b → (c : Bool)
          → (cond b (cond c (closed_verdict t.lowest t.closed d) (open_verdict t.lowest t.closed o h))
          (refused_verdict r t.lowest t.closed o)).refusal ≡ r
      go true z true = sym (eqb-true r 0 z)
      go true z false = sym (eqb-true r 0 z)
      go false z c = refl

  pub refusal-same : plain.message_refusal (plain_of t) h len size ≡ v.refusal
  unfolding plain.message_refusal terms_refusal address_refusal plain_of
  refusal-same =
      rw (refusal_is, bit_at 32 t.closed fits d, differs-is o h)
      (go (leb 32 d) (mark t.closed d) (not (agrees o h)) (eqb h.count 0 && ltb 0 len) _)
    where
      go : (a b c e : Bool) (rest : ℕ) → cond a 7 (cond b 8 (cond c 9 (cond e 10 rest)))
          ≡ first_of (cond a 7 (cond b 8 (cond c 9 (cond e 10 0)))) rest
      go true b c e rest = refl
      go false true c e rest = refl
      go false false true e rest = refl
      go false false false true rest = refl
      go false false false false rest = refl

  -- it is not refused
  module _ (ok : v.refusal ≡ 0) where
    window : (d < 32) × (mark t.closed d ≡ false)
    window = in_window t.lowest t.closed o h len size ok

    pub done-same : plain.completes (plain.entry_of (plain_of t) h) h ≡ v.done
    unfolding plain_of closed_verdict open_verdict
    done-same = completes-is o h ∙ go (fills o h) refl
      where
        go : (b : Bool) → fills o h ≡ b → fills o h ≡ v.done
        go true z = z ∙ sym (ap (λ (v : Verdict). v.done) (closes t.lowest t.closed o h len size ok z))
        go false z = z ∙ sym (ap (λ (v : Verdict). v.done) (holds t.lowest t.closed o h len size ok z))

    pub after_same : plain.after (plain_of t) h
        ≡ record {
          lowest = v.lowest;
          closed = bits 32 v.closed;
          table = set t.table (h.trans.0 % 32)
              v.entry;
        }
    unfolding plain.after plain.closed_by plain.keeping plain_of closed_verdict open_verdict
    after_same = go (fills o h) refl
      where
        go : (b : Bool) → fills o h ≡ b → plain.after (plain_of t) h
            ≡ record {
              lowest = v.lowest;
              closed = bits 32 v.closed;
              table = set t.table (h.trans.0 % 32)
                  v.entry;
            }
        go true z =
            rw (
              completes-is o h,
              z,
              closes t.lowest t.closed o h len size ok z,
              moved-set 32 t.closed d fits window.0,
              run-set 32 t.closed d fits window.0,
            )
        go false z = rw (completes-is o h, z, holds t.lowest t.closed o h len size ok z, add-one o.received)

    pub after-fits : v.closed < 2 ^ 32
    unfolding closed_verdict open_verdict
    after-fits = go (fills o h) refl
      where
        marked-fits : with_mark 32 t.closed d < 2 ^ 32
        marked-fits = with_mark-lt 32 t.closed d fits

        go : (b : Bool) → fills o h ≡ b → v.closed < 2 ^ 32
        go true z =
            rw (closes t.lowest t.closed o h len size ok z) (moved-lt 32 (with_mark 32 t.closed d) marked-fits)
        go false z = rw (holds t.lowest t.closed o h len size ok z) fits

-- ---- all messages of a frame

effect-same : (memory : List ℕ) (m : Message) (done : Bool) → plain.effect memory m done ≡ effect memory m done
unfolding plain.effect effect
effect-same memory m done = refl

abbrev pub plain_tally : Tally → plain.Tally
plain_tally t = record {
  transactions = plain_of t.transactions;
  memory = t.memory;
  sums = record { messages = t.messages; bytes = t.bytes; completed = t.completed };
}

abbrev pub plain_taken : Taken → plain.Taken
plain_taken (fine t) = plain.all_taken (plain_tally t)
plain_taken (wrong r place) = plain.refused_at r place

module _ (t : Tally) (fits : t.transactions.closed < 2 ^ 32) (m : Message) where
  abbrev w : Verdict
  w = verdict t.transactions (length t.memory) m

  verdict-same : plain.message_refusal (plain_of t.transactions) (message_header m) (length m.bytes)
      (length t.memory)
      ≡ w.refusal
  unfolding verdict message_header
  verdict-same = refusal-same t.transactions fits (message_header m) (length m.bytes) (length t.memory)

  module _ (ok : w.refusal ≡ 0) where
    take-in-same : plain.take_in (plain_tally t) m ≡ plain_tally (take_in t m w)
    unfolding plain.take_in take_in plain.counted after plain_of verdict message_header
    take-in-same =
        rw (
          done-same t.transactions fits (message_header m) (length m.bytes) (length t.memory) ok,
          after_same t.transactions fits (message_header m) (length m.bytes) (length t.memory) ok,
          effect-same t.memory m w.done,
        )

    take-in-fits : (take_in t m w).transactions.closed < 2 ^ 32
    unfolding take_in after verdict message_header
    take-in-fits = after-fits t.transactions fits (message_header m) (length m.bytes) (length t.memory) ok

pub take_same : (t : Tally) (place : ℕ) (ms : List Message) → t.transactions.closed < 2 ^ 32 → place ≡ t.messages
    → plain.take_all (plain_tally t) ms ≡ plain_taken (take_all t place ms)
unfolding plain.take_all take_all take_in
take_same t place [] fits e = refl
take_same t place (m ∷ ms) fits e =
    go (λ k q. take_same (take_in t m (w t fits m)) (suc place) ms k q) (eqb (w t fits m).refusal 0) refl
  where
    go : ((take_in t m (w t fits m)).transactions.closed < 2 ^ 32 → suc place ≡ (take_in t m (w t fits m)).messages
        → plain.take_all (plain_tally (take_in t m (w t fits m))) ms
        ≡ plain_taken (take_all (take_in t m (w t fits m)) (suc place) ms))
        → (b : Bool) → eqb (w t fits m).refusal 0 ≡ b
        → plain.take_all (plain_tally t) (m ∷ ms) ≡ plain_taken (take_all t place (m ∷ ms))
    go ih true z =
        let ok = eqb-true (w t fits m).refusal 0 z in
        rw (verdict-same t fits m, z, take-in-same t fits m ok) (ih (take-in-fits t fits m ok) (omega arith))
    go ih false z = rw (verdict-same t fits m, z, e)

-- the closed ones fit their word still
pub take-fits : (t : Tally) (place : ℕ) (ms : List Message) (u : Tally) → t.transactions.closed < 2 ^ 32
    → take_all t place ms ≡ fine u → u.transactions.closed < 2 ^ 32
unfolding take_all take_in
take-fits t place [] u fits e =
    let q : t ≡ u = cc in
    rw (← q) fits
take-fits t place (m ∷ ms) u fits e =
    go (λ k q. take-fits (take_in t m (w t fits m)) (suc place) ms u k q) (eqb (w t fits m).refusal 0) refl
  where
    go : ((take_in t m (w t fits m)).transactions.closed < 2 ^ 32 → take_all (take_in t m (w t fits m)) (suc place) ms
        ≡ fine u
        → u.transactions.closed < 2 ^ 32)
        → (b : Bool) → eqb (w t fits m).refusal 0 ≡ b → u.transactions.closed < 2 ^ 32
    go ih true z = ih (take-in-fits t fits m (eqb-true (w t fits m).refusal 0 z)) (rw z at e)
    go ih false z =
        let q : wrong (w t fits m).refusal place ≡ fine u = rw z at e in
        let n : ◌≡◌ {A = ℕ} 0 1 = cc in
        absurd (omega arith)
