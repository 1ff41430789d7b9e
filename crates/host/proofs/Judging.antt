-- The verdict on a message, case by case.
-- Assumes nothing.
use mathlib.Core.Path.{◌≡◌, refl, sym, ap, ◌∙◌}
use mathlib.Core.Logic.{◌≢◌, ◌⊎◌, inl, inr}
use mathlib.Core.Bool.{Bool, true, false, cond}
use Prim.Native.Nat.{ℕ, zero, suc, ◌<◌}
use native.Mathlib.Omega.{arith}
use borrow.Author.Tests.{eq-eqb, ne_eqb, eqb-true, eqb-false}
use lib.Dec.{eqb}
use Rattle.seq.specs.Ring.{distance, trans_space}
use Rattle.bitmap.specs.Marks.{mark}
use Rattle.wire.specs.declared.MessageHeader.{MessageHeader}
use Rattle.wire.specs.Format.{needed}
use Rattle.wire.proofs.Format.{needed-count}
use Rattle.host.specs.declared.Open.{Open}
use Rattle.host.specs.Terms.{agrees, message_refusal}
use Rattle.host.proofs.Passing.{message-pass}
use Rattle.host.specs.Transactions.{fills, refused_verdict, closed_verdict, open_verdict, verdict_of}

-- the three verdicts
module _ (lowest closed : ℕ) (o : Open) (h : MessageHeader) (len size d r : ℕ)
    (d-is : d ≡ distance trans_space lowest h.trans.0)
    (r-is : r ≡ message_refusal d closed o h len size) where
  opened : cond (eqb r 0) (cond (fills o h) (closed_verdict lowest closed d) (open_verdict lowest closed o h))
      (refused_verdict r lowest closed o)
      ≡ verdict_of lowest closed o h len size
  unfolding verdict_of
  opened = rw (r-is, d-is)

  pub is-refused : r ≢ 0 → refused_verdict r lowest closed o ≡ verdict_of lowest closed o h len size
  is-refused ne = sym (rw (ne_eqb r 0 ne)) ∙ opened

  pub is-closing : r ≡ 0 → fills o h ≡ true → closed_verdict lowest closed d ≡ verdict_of lowest closed o h len size
  is-closing e l = sym (rw (eq-eqb r 0 e, l)) ∙ opened

  pub is-holding : r ≡ 0 → fills o h ≡ false → open_verdict lowest closed o h ≡ verdict_of lowest closed o h len size
  is-holding e l = sym (rw (eq-eqb r 0 e, l)) ∙ opened

-- ---- a message that is not refused

-- one that does not fill its transaction, of which fewer were received than the count or none: with it, they still are
-- fewer
pub fills-left : (o : Open) (h : MessageHeader) → (o.received ≡ 0) ⊎ (o.received < h.count) → fills o h ≡ false
    → suc o.received < h.count
unfolding fills needed
fills-left o h fewer e = go h.count fewer (eqb-false (needed h.count) (suc o.received) e)
  where
    go : (n : ℕ) → (o.received ≡ 0) ⊎ (o.received < n) → needed n ≢ suc o.received → suc o.received < n
    go zero (inl z) ne = absurd (ne (ap suc (sym z)))
    go zero (inr l) ne = absurd (omega (arith, l))
    go (suc n) (inl z) ne =
        let k : suc n ≢ suc o.received = λ q. ne (needed-count (suc n) (omega arith) ∙ q) in
        omega (arith, z, k)
    go (suc n) (inr l) ne =
        let k : suc n ≢ suc o.received = λ q. ne (needed-count (suc n) (omega arith) ∙ q) in
        omega (arith, l, k)

-- its transaction is in the window and not closed, and is closed by it or held
module _ (lowest closed : ℕ) (o : Open) (h : MessageHeader) (len size : ℕ)
    (passes : (verdict_of lowest closed o h len size).refusal ≡ 0) where
  abbrev away : ℕ
  away = distance trans_space lowest h.trans.0

  abbrev none_of : ℕ
  none_of = message_refusal away closed o h len size

  passed : none_of ≡ 0
  unfolding verdict_of refused_verdict
  passed = go (eqb none_of 0) refl
    where
      go : (x : Bool) → eqb none_of 0 ≡ x → none_of ≡ 0
      go true z = eqb-true none_of 0 z
      go false z = rw z at passes

  pub in_window : (distance trans_space lowest h.trans.0 < 32)
      × (mark closed (distance trans_space lowest h.trans.0) ≡ false)
  in_window =
      let q = message-pass away closed o h len size passed in
      (q.0, q.1)

  pub agreeing : agrees o h ≡ true
  agreeing = (message-pass away closed o h len size passed).2

  pub closes : fills o h ≡ true
      → verdict_of lowest closed o h len size ≡ closed_verdict lowest closed (distance trans_space lowest h.trans.0)
  unfolding verdict_of
  closes e = rw (eq-eqb none_of 0 passed, e)

  pub holds : fills o h ≡ false → verdict_of lowest closed o h len size ≡ open_verdict lowest closed o h
  unfolding verdict_of
  holds e = rw (eq-eqb none_of 0 passed, e)
