-- The bytes that the library lays out, the lowest first, are those of the definition.
-- Assumes nothing.
use mathlib.Core.Path.{◌≡◌, refl, sym, ap, ◌∙◌}
use Prim.Native.Nat.{ℕ, zero, suc, ◌/◌, ◌%◌, ◌^◌}
use native.Mathlib.Nat.{div-div-eq-div-mul, div-one, pow-suc}
use Rattle.std.specs.Int.{byte_at, bytes_low_first}
use Rattle.octets.specs.Octets.{little}

byte-is : (i n : ℕ) → byte_at i n ≡ n / 256 ^ i % 256
byte-is zero n = ap (λ (m : ℕ). m % 256) (sym (div-one n))
byte-is (suc i) n = refl

next-is : (i n : ℕ) → n / 256 ^ suc i ≡ n / 256 ^ i / 256
next-is i n = rw pow-suc (sym (div-div-eq-div-mul n (256 ^ i) 256))

low_first : (i k n : ℕ) → bytes_low_first i k n ≡ little k (n / 256 ^ i)
unfolding little
low_first i zero n = refl
low_first i (suc k) n = rw (byte-is i n, low_first (suc i) k n, next-is i n)

-- k bytes of a number, as `to_le_bytes` gives them.
pub le-little : (k n : ℕ) → bytes_low_first 0 k n ≡ little k n
le-little k n = low_first 0 k n ∙ ap (little k) (div-one n)
