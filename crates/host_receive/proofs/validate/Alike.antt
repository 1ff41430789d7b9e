-- Entries that a verdict does not tell apart: where nothing was received, what else an entry holds is not looked at.
-- Assumes nothing.
use Rattle.std.proofs.Common.{◌≡◌, ℕ, Bool, true, false, eqb, sym, refl, ap, inl, inr, arith}
use borrow.Author.Tests.{eqb-false}
use Rattle.seq.specs.Ring.{distance, trans_space}
use Rattle.wire.specs.declared.MessageHeader.{MessageHeader}
use Rattle.host.specs.declared.Open.{Open}
use Rattle.host.specs.declared.Verdict.{Verdict}
use Rattle.host.specs.Terms.{free, agrees, terms_refusal, message_refusal}
use Rattle.host_receive.specs.Keeping.{Alike}
use Rattle.host.specs.Transactions.{fills, refused_verdict, closed_verdict, open_verdict, verdict_of}

module _ (o p : Open) (h : MessageHeader) (a : o.received ≡ 0) (b : p.received ≡ 0) where
  agree-alike : agrees o h ≡ agrees p h
  unfolding agrees
  agree-alike = rw (a, b)

  fill-alike : fills o h ≡ fills p h
  unfolding fills
  fill-alike = rw (a, b)

  refuse-alike : (d closed len size : ℕ) → message_refusal d closed o h len size ≡ message_refusal d closed p h len size
  unfolding terms_refusal
  refuse-alike d closed len size = rw agree-alike

  hold-alike : (lowest closed : ℕ) → open_verdict lowest closed o h ≡ open_verdict lowest closed p h
  unfolding open_verdict
  hold-alike lowest closed = rw (a, b)

-- the same refusal, and where there is none the same verdict
module _ (lowest closed : ℕ) (h : MessageHeader) (len size : ℕ) where
  abbrev its : Open → Verdict
  its o = verdict_of lowest closed o h len size

  pub verdict-alike : (o p : Open) → Alike o p
      → ((its o).refusal ≡ (its p).refusal) × ((its o).refusal ≡ 0 → its o ≡ its p)
  unfolding verdict_of refused_verdict
  verdict-alike o p (inl e) = (ap (λ (x : Open). (its x).refusal) e, λ z. ap its e)
  verdict-alike o p (inr (a, b)) = go (eqb r 0) refl
    where
      d : ℕ
      d = distance trans_space lowest h.trans.0

      r : ℕ
      r = message_refusal d closed o h len size

      same : message_refusal d closed p h len size ≡ r
      same = sym (refuse-alike o p h a b d closed len size)

      go : (x : Bool) → eqb r 0 ≡ x → ((its o).refusal ≡ (its p).refusal) × ((its o).refusal ≡ 0 → its o ≡ its p)
      go true z =
          let e : its o ≡ its p = rw (same, z, fill-alike o p h a b, hold-alike o p h a b lowest closed) in
          (ap (λ (v : Verdict). v.refusal) e, λ q. e)
      go false z = (rw (same, z), λ q. absurd (eqb-false r 0 z (rw z at q)))

  -- one that completes its transaction leaves the entry free
  pub done-free : (o : Open) → (its o).done ≡ true → (its o).entry ≡ free
  unfolding verdict_of refused_verdict closed_verdict open_verdict
  done-free o e = go (eqb r 0) refl (fills o h) refl
    where
      d : ℕ
      d = distance trans_space lowest h.trans.0

      r : ℕ
      r = message_refusal d closed o h len size

      go : (x : Bool) → eqb r 0 ≡ x → (y : Bool) → fills o h ≡ y → (its o).entry ≡ free
      go true z true w = rw (z, w)
      go true z false w = let q : false ≡ true = rw (z, w) at e in let k : ◌≡◌ {A = ℕ} 0 1 = cc in absurd (omega arith)
      go false z y w = let q : false ≡ true = rw z at e in let k : ◌≡◌ {A = ℕ} 0 1 = cc in absurd (omega arith)
