-- An array whose elements a closure gives, one for each index.
-- Assumes nothing.
use Rattle.std.proofs.Common.{◌≡◌, ℕ, zero, suc, ◌+◌, ◌≤◌, ◌<◌, List, get_or, sym, subst, ◌∙◌, arith, ext_get_or}
use native.Mathlib.Decide.{dec_le}
use Rattle.std.specs.Fn.{Called, Mut}
use Rattle.std.specs.Array.{IsFromFnResultFrom, IsFromFnResult}
use Rattle.host_equal.specs.Described.{list_of}
use Rattle.host_equal.proofs.Windows.{length-list_of, get_or-list_of}

-- where no call changes the closure, the array is the list of the values that the calls give
pub filled_same : {F A : Type 0} (g : Mut F (ℕ × Unit {0}) A) (d : A) (value : ℕ → A) (f : F) (n : ℕ)
    → ((i : ℕ) (y : A) (q : F) → i < n → Called g f (i, tt) y q → (y ≡ value i) × (q ≡ f))
    → (ys : List A) → IsFromFnResult g f ys n → ys ≡ list_of n value
filled_same {F} {A} g d value f n gives ys made =
    ext_get_or d ys (list_of n value) (made.long ∙ sym (length-list_of n value))
    (λ k lt.
    let near : k < n = omega (arith, lt, made.long) in
    each n 0 (omega arith) made.each k (omega arith) (omega (arith, near))
    ∙ sym (get_or-list_of n value d k near))
  where
    each : (m i : ℕ) → i + m ≤ n → IsFromFnResultFrom g f ys i m → (k : ℕ) → i ≤ k → k < i + m
        → get_or ys k d ≡ value k
    each zero i room r k low high = absurd (omega arith)
    each (suc m) i room r k low high =
        go (dec_le k i)
        (λ on. each m (i + 1) (omega arith) (subst (λ (p : F). IsFromFnResultFrom g p ys (i + 1) m) one.1 r.4) k on
        (omega arith))
      where
        one : (r.1 ≡ value i) × (r.0 ≡ f)
        one = gives i r.1 r.0 (omega arith) r.3

        go : Dec (k ≤ i) → (i + 1 ≤ k → get_or ys k d ≡ value k) → get_or ys k d ≡ value k
        go (yes here) later =
            let e : k ≡ i = omega arith in
            rw e (r.2.1 d ∙ one.0)
        go (no on) later = later (omega arith)
