-- What the table answers to a card's frames, counted along a scene. Assumes nothing.
use Prim.Native.Nat.{ℕ, ◌+◌, ◌≤◌}
use native.Mathlib.Decide.{dec_le}
use native.Mathlib.Omega.{arith}
use mathlib.Core.Path.{◌≡◌, refl, sym, ◌∙◌}
use mathlib.Core.Logic.{◌⊎◌, inl, inr}
use mathlib.Core.Bool.{Bool, true, false, cond, and-eq-true_iff, true≢false}
use mathlib.Core.List.{List, [], ◌∷◌, ◌++◌}
use borrow.Author.Tests.{eq-eqb, le-leb, eqb-true, not-true}
use lib.Dec.{eqb}
use lib.ListN.{length, get_or}
use Rattle.wire.specs.Reading.{destination, source, addressed}
use Rattle.host.specs.declared.Sums.{Sums}
use Rattle.host.specs.declared.Answer.{Answer}
use Rattle.host.specs.declared.Answer.TheVariants.{Accepted, Again, NoMessages, Refused}
use Rattle.delivery.specs.System.{CardCall, System, run}
use Rattle.delivery.specs.Demand3.{sum_over}
use Rattle.delivery.proofs.Book.Answers.{summand, sum_more}
use Rattle.table.specs.Table.{entry_of}
use Rattle.table.specs.Adopting.{take_out}
use Rattle.table.specs.Calls.{Call, registers, adopts, removes, comes, Site, receiving, site_step, is_from, site_step_for}
use Rattle.delivery_table.specs.PerCard.{
  Scene,
  on_card,
  on_table,
  rehoused_site,
  leaves_alone,
  on_table_for,
  rehoused_site_for,
}
use Rattle.table.proofs.Hosting.{NoEffect}
use Rattle.delivery_table.specs.Bill.{answers_to}
use Rattle.delivery_table.proofs.Bill.{sum-if}
use Rattle.delivery_table.proofs.Passing.{passed-short}
use Rattle.delivery_table.proofs.Tied.{Tied, host-peer}

none-added : (g : Sums → ℕ) (x : Answer) → NoEffect x → summand g x ≡ 0
none-added g (Accepted n sums run) h = absurd h
none-added g (Again n run) h = absurd h
none-added g NoMessages h = refl
none-added g (Refused r) h = refl

-- one answer more
pub by_one : (g : Sums → ℕ) (xs : List Answer) (x : Answer) (b : Bool) (ys : List Answer) (n : ℕ)
    → summand g x ≡ cond b (summand g x) 0 → n ≡ sum_over g (xs ++ (x ∷ [])) + sum_over g ys
    → n ≡ sum_over g xs + sum_over g (cond b (x ∷ ys) ys)
by_one g xs x b ys n own e = omega (arith, e, sum_more g xs x, sum-if g b x ys, own)

pub on_card-keeps : (v : Scene) (x : CardCall)
    → ((on_card v x).scene.site ≡ v.site) × ((on_card v x).scene.answers ≡ v.answers)
unfolding on_card
on_card-keeps v x = (refl, refl)

pub on_table-does : (v : Scene) (j lent : ℕ)
    → ((on_table v j lent).scene.site ≡ site_step v.site (comes (get_or v.hand_outs j []) lent))
    × ((on_table v j lent).scene.answers
    ≡ v.answers ++ ((receiving v.site (get_or v.hand_outs j []) lent).answer ∷ []))
unfolding on_table_for
on_table-does v j lent = (refl, refl)

-- other calls than the card's frames
pub skipped : (s : ℕ) (w : Site) (c : Call) (xs : List Call) → leaves_alone s c ≡ true
    → answers_to (is_from s) w (c ∷ xs) ≡ answers_to (is_from s) (site_step w c) xs
unfolding answers_to leaves_alone
skipped s w (registers r first size lent) xs o = refl
skipped s w (adopts p first size lent) xs o = refl
skipped s w (removes r) xs o = refl
skipped s w (comes f lent) xs o = rw (not-true (is_from s f) o)

pub moved : (s : ℕ) (w : Site) (lent : ℕ)
    → site_step (site_step w (removes s))
    (adopts (take_out w.table s).pair (entry_of w.table s).first (entry_of w.table s).size lent)
    ≡ rehoused_site s w lent
unfolding site_step_for rehoused_site_for
moved s w lent = refl

module _ (s a k : ℕ) (v : Scene) (w : System) (t : Tied s a k v w) where
  -- what arrives and is not the card's adds nothing
  pub own_alone : (f : List ℕ) (lent : ℕ)
      → (addressed w.host.own w.host.peer f ≡ true) ⊎ (length f ≤ 10) → (g : Sums → ℕ)
      → summand g (receiving v.site f lent).answer
      ≡ cond (is_from s f) (summand g (receiving v.site f lent).answer) 0
  unfolding is_from addressed
  own_alone f lent p g = go (is_from s f) refl
    where
      short : (addressed w.host.own w.host.peer f ≡ true) ⊎ (length f ≤ 10) → is_from s f ≡ false
          → length f ≤ 10
      short (inr h) o = h
      short (inl q) o = by (dec_le 4 (length f))
        where
          both : (eqb (destination f) w.host.own ≡ true) × (eqb (source f) w.host.peer ≡ true)
          both = (and-eq-true_iff (eqb (destination f) w.host.own) (eqb (source f) w.host.peer)).0 q

          from : source f ≡ s
          from = eqb-true (source f) w.host.peer both.1 ∙ host-peer s a k v w t f lent

          by : Dec (4 ≤ length f) → length f ≤ 10
          by (no h) = omega arith
          by (yes h) =
              absurd (true≢false (sym (rw (le-leb 4 (length f) h, eq-eqb (source f) s from) refl) ∙ o))

      go : (b : Bool) → is_from s f ≡ b
          → summand g (receiving v.site f lent).answer
          ≡ cond b (summand g (receiving v.site f lent).answer) 0
      go true o = refl
      go false o =
          none-added g (receiving v.site f lent).answer (passed-short v.site f lent (short p o)).no-effect
