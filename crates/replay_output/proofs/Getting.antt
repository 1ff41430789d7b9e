-- What a read's answer means, from a test and a count of it as the machine reads it back from its bits.
-- Assumes nothing.
use mathlib.Core.Path.{◌≡◌, refl, sym, ap, ◌∙◌}
use mathlib.Core.Bool.{true, false, true≢false}
use Prim.Native.Nat.{ℕ, ◌≤◌}
use native.Mathlib.Omega.{arith}
use borrow.Author.Tests.{le-ltb}
use lib.IntN.{ℤ, pos, negsuc}
use lib.Signed.{lt_z}
use mir.Syntax.{w64}
use mir.Val.{SFits, to_z, of_z}
use mir.ValLaws.{to_z-of_z}
use Rattle.std.proofs.Common.{Option, Some, None}
use Rattle.io.specs.Counts.{clamp_len}
use Rattle.replay_output.specs.Output.{got_of}

failed : (said : ℤ) (len : ℕ) → lt_z said (pos 0) ≡ true → ◌≡◌ {A = Option ℕ} None (got_of said len)
unfolding got_of
failed (pos k) len e = absurd (true≢false (sym e ∙ le-ltb k 0 (omega arith)))
failed (negsuc k) len e = refl

some : (said : ℤ) (len n : ℕ) → lt_z said (pos 0) ≡ false → n ≡ clamp_len said len
    → ◌≡◌ {A = Option ℕ} (Some n) (got_of said len)
unfolding got_of
some (pos k) len n e q = rw q
some (negsuc k) len n e q = absurd (true≢false e)

module _ (said : ℤ) (len : ℕ) (fits : SFits w64 said) where
  back : to_z w64 (of_z w64 said) ≡ said
  back = to_z-of_z w64 said fits

  pub got-failed : lt_z (to_z w64 (of_z w64 said)) (pos 0) ≡ true → ◌≡◌ {A = Option ℕ} None (got_of said len)
  got-failed e = failed said len (ap (λ (z : ℤ). lt_z z (pos 0)) (sym back) ∙ e)

  pub got-some : (n : ℕ) → lt_z (to_z w64 (of_z w64 said)) (pos 0) ≡ false
      → n ≡ clamp_len (to_z w64 (of_z w64 said)) len
      → ◌≡◌ {A = Option ℕ} (Some n) (got_of said len)
  got-some n e q =
      some said len n (ap (λ (z : ℤ). lt_z z (pos 0)) (sym back) ∙ e) (q ∙ ap (λ (z : ℤ). clamp_len z len) back)
