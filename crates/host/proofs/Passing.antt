-- What holds of a message that is not refused: its transaction is in the window and not closed, and its header agrees
-- with what was said of it. Assumes nothing.
use mathlib.Core.Path.{◌≡◌, refl, sym}
use mathlib.Core.Logic.{◌≢◌}
use mathlib.Core.Bool.{Bool, true, false, true≢false}
use Prim.Native.Nat.{ℕ, ◌<◌}
use native.Mathlib.Omega.{arith}
use borrow.Author.Tests.{leb-false, ne_eqb, eqb-true}
use lib.Dec.{eqb, leb}
use Rattle.bitmap.specs.Marks.{mark}
use Rattle.wire.specs.declared.MessageHeader.{MessageHeader}
use Rattle.host.specs.declared.Open.{Open}
use Rattle.host.specs.Terms.{agrees, terms_refusal, address_refusal, first_of, message_refusal}

first-none : (a b : ℕ) → first_of a b ≡ 0 → a ≡ 0
first-none a b e = go (eqb a 0) refl
  where
    go : (x : Bool) → eqb a 0 ≡ x → a ≡ 0
    go true z = eqb-true a 0 z
    go false z = rw z at e

-- refusals 7, 8 and 9
terms-pass : (d closed : ℕ) (o : Open) (h : MessageHeader) (len : ℕ) → terms_refusal d closed o h len ≡ 0
    → (d < 32) × (mark closed d ≡ false) × (agrees o h ≡ true)
unfolding terms_refusal
terms-pass d closed o h len e = go (leb 32 d) refl (mark closed d) refl (agrees o h) refl
  where
    go : (a : Bool) → leb 32 d ≡ a → (b : Bool) → mark closed d ≡ b → (c : Bool) → agrees o h ≡ c
        → (d < 32) × (mark closed d ≡ false) × (agrees o h ≡ true)
    go true z b w c y =
        let q : ◌≡◌ {A = ℕ} 7 0 = rw z at e in
        absurd (omega arith)
    go false z true w c y =
        let q : ◌≡◌ {A = ℕ} 8 0 = rw (z, w) at e in
        absurd (omega arith)
    go false z false w false y =
        let q : ◌≡◌ {A = ℕ} 9 0 = rw (z, w, y) at e in
        absurd (omega arith)
    go false z false w true y = (leb-false 32 d z, w, y)

pub message-pass : (d closed : ℕ) (o : Open) (h : MessageHeader) (len size : ℕ)
    → message_refusal d closed o h len size ≡ 0
    → (d < 32) × (mark closed d ≡ false) × (agrees o h ≡ true)
message-pass d closed o h len size e =
    terms-pass d closed o h len (first-none (terms_refusal d closed o h len) (address_refusal size h len) e)

-- where some were received, the counts are one
pub agreed-count : (o : Open) (h : MessageHeader) → agrees o h ≡ true → o.received ≢ 0 → o.count ≡ h.count
unfolding agrees
agreed-count o h e ne = go (eqb o.count h.count) refl
  where
    go : (b : Bool) → eqb o.count h.count ≡ b → o.count ≡ h.count
    go true z = eqb-true o.count h.count z
    go false z = absurd (true≢false (sym (rw (ne_eqb o.received 0 ne, z) at e)))
