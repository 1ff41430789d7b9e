-- A sum that is formed only where it fits, with a reason where it does not. Assumes nothing.
use Rattle.std.proofs.Common.{◌≡◌, ℕ, Option, None, Some, Result, Ok, Err, sym}
use Rattle.std.specs.Option.{SomeIff, ok_or}

module _ (o : Option ℕ) (P : Type 0) (v : ℕ) where
  pub added : (x : ℕ) → SomeIff o P v → o ≡ Some x → P
  added x = go o
    where
      go : (p : Option ℕ) → SomeIff p P v → p ≡ Some x → P
      go None s e = absurd cc
      go (Some y) s e = s.0

  pub not-added : {E : Type 0} (e d : E) → SomeIff o P v → Err d ≡ ok_or o e → (¬ P) × (d ≡ e)
  not-added {E} e d = go o
    where
      go : (p : Option ℕ) → SomeIff p P v → ◌≡◌ {A = Result ℕ E} (Err d) (ok_or p e) → (¬ P) × (d ≡ e)
      go None s q = (s, cc)
      go (Some y) s q = absurd cc
