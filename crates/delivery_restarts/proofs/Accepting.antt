-- Acceptances: only a receiving that answers "accepted" moves the host, and the book counts these. Assumes nothing.
use Prim.Native.Nat.{ℕ, ◌+◌}
use native.Mathlib.Omega.{arith}
use native.Mathlib.Nat.{zero-add}
use mathlib.Core.Path.{◌≡◌, refl, sym, ap, ◌∙◌}
use mathlib.Core.Bool.{Bool, true, false}
use mathlib.Core.List.{List, [], ◌∷◌, ◌++◌, map}
use lib.Dec.{eqb, leb}
use Rattle.seq.specs.Ring.{distance, frame_space}
use Rattle.wire.specs.Format.{Message}
use Rattle.wire.specs.Reading.{number, flags, addressed, Read, bad, good, read_frame}
use Rattle.host.specs.declared.Pair.{Pair}
use Rattle.host.specs.declared.Answer.{Answer}
use Rattle.host.specs.Host.{
  Received,
  Taken,
  fine,
  wrong,
  take_all,
  settled,
  accepting,
  concluded,
  tally_of,
  by_number,
  answered,
  receive_of,
}
use Rattle.delivery.specs.Book.{Expected, expect_accepted, expect_again, expect_no_effect}
use Rattle.delivery.specs.Demand3.{seen_as, numbered_as}
use Rattle.delivery.proofs.Book.Answers.{map_more}
use Rattle.delivery_restarts.specs.OverRestarts.{acceptances}

-- how many acceptances an answer is
abbrev pub acceptance : Answer → ℕ
acceptance a = acceptances (seen_as a ∷ [])

-- ---- the host

-- what was not accepted left pair and memory as they were
abbrev Unmoved : Pair → List ℕ → Received → Type 0
Unmoved p memory r = acceptance r.answer ≡ 0 → (r.pair ≡ p) × (r.memory ≡ memory)

by_number_lem : (p : Pair) (memory : List ℕ) (num : ℕ) (ms : List Message) → Unmoved p memory (by_number p memory num ms)
unfolding by_number accepting acceptances seen_as
by_number_lem p memory num ms =
    go (settled p num) refl (leb 64 (distance frame_space p.next.0 num)) refl
  where
    taken : (o : Taken) → Unmoved p memory (concluded p memory num o)
    taken (fine t) z = absurd (omega (arith, z))
    taken (wrong r place) z = (refl, refl)

    go : (x : Bool) → settled p num ≡ x → (y : Bool) → leb 64 (distance frame_space p.next.0 num) ≡ y
        → Unmoved p memory (by_number p memory num ms)
    go true e y k = rw e (λ z. (refl, refl))
    go false e true k = rw (e, k) (λ z. (refl, refl))
    go false e false k = rw (e, k) (taken (take_all (tally_of p memory) 0 ms))

pub unmoved : (p : Pair) (f memory : List ℕ) → Unmoved p memory (receive_of p f memory)
unfolding receive_of
unmoved p f memory = go (read_frame (addressed p.own p.peer f) f)
  where
    go : (r : Read) → Unmoved p memory (answered p f memory r)
    go (bad r) = λ z. (refl, refl)
    go (good ms) = flagged (eqb (flags f) 0) refl
      where
        flagged : (x : Bool) → eqb (flags f) 0 ≡ x → Unmoved p memory (answered p f memory (good ms))
        flagged true e = rw e (λ z. (refl, refl))
        flagged false e = rw e (by_number_lem p memory (number f) ms)

-- ---- the book

-- numbers instead of counts are as many
numbered : (rs : List Expected) → acceptances (map numbered_as rs) ≡ acceptances rs
unfolding acceptances numbered_as
numbered [] = refl
numbered (expect_accepted c sums run ∷ rs) = omega (arith, numbered rs)
numbered (expect_again c run ∷ rs) = omega (arith, numbered rs)
numbered (expect_no_effect ∷ rs) = omega (arith, numbered rs)

one_more : (rs : List Expected) (r : Expected)
    → acceptances (rs ++ (r ∷ [])) ≡ acceptances rs + acceptances (r ∷ [])
unfolding acceptances
one_more [] r = sym (zero-add _)
one_more (expect_accepted c sums run ∷ rs) r = omega (arith, one_more rs r)
one_more (expect_again c run ∷ rs) r = omega (arith, one_more rs r)
one_more (expect_no_effect ∷ rs) r = omega (arith, one_more rs r)

-- where the answers are those that the book expects, they are as many acceptances
pub accepted-in : (answers : List Answer) (rs : List Expected) → map seen_as answers ≡ map numbered_as rs
    → acceptances rs ≡ acceptances (map seen_as answers)
accepted-in answers rs q = sym (numbered rs) ∙ ap acceptances (sym q)

pub accepted-more : (answers : List Answer) (a : Answer)
    → acceptances (map seen_as (answers ++ (a ∷ []))) ≡ acceptances (map seen_as answers) + acceptance a
accepted-more answers a = ap acceptances (map_more seen_as answers a) ∙ one_more (map seen_as answers) (seen_as a)
