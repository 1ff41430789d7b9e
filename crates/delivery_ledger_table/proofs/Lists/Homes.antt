-- The list of TwoCards.antt with other counts at card 3: subscriber 9 is counted there, and 3 and 7 at card 2. Assumes
-- nothing.
use Prim.Native.Nat.{ℕ}
use mathlib.Core.Path.{◌≡◌, refl, subst}
use mathlib.Core.Bool.{Bool, true, false, cond}
use mathlib.Core.List.{List, [], ◌∷◌}
use borrow.Author.Tests.{eqb-true}
use lib.Dec.{T, eqb, lit≤, lit<}
use Rattle.table.specs.TableEnd.{specified_table}
use Rattle.ledger.specs.Ledger.{empty, total_of}
use Rattle.ledger.specs.History.{after, sum_below, bytes_passed, last_of, InStep, InStepFrom}
use Rattle.ledger.specs.Counted.{Counted, all_of, counts_of, true_bytes, AllKnown}
use Rattle.delivery_ledger.specs.Blocks.{blocks_sent, blocks_read}
use Rattle.delivery_ledger.proofs.Lists.Worked.{counted, first, second}
use Rattle.delivery_ledger_table.specs.OneCardEach.{
  told_by,
  AllAt,
  CountedAtHome,
  TakenByCard,
  ChargedByHome,
  ChargedAtHomeFor,
}
use Rattle.delivery_ledger_table.proofs.OneCardEach.{charged-at-home}
use Rattle.delivery_ledger_table.proofs.Lists.TwoCards.{
  setup,
  terms,
  acts,
  zeros,
  cards_of,
  delivers,
  met_by,
  among_cards,
}

abbrev ninth : List Counted
ninth = counted 9 100 ∷ counted 9 350 ∷ []

unfoldable told : List (List Counted)
told = first ∷ second ∷ ninth ∷ []

abbrev home : ℕ → ℕ
home s = cond (eqb 9 s) 3 2

met : T (delivers specified_table ninth)
unfolding among_cards
met = tt

abbrev Steps : ℕ → Type 0
Steps s = InStep (counts_of s (told_by (home s) (acts ninth) told))

-- Of subscribers 9, 7 and 3, and of any other.
in_step_lem : (s : ℕ) → Steps s
unfolding acts told told_by counts_of InStep InStepFrom
in_step_lem s = go (eqb 9 s) refl (eqb 7 s) refl (eqb 3 s) refl
  where
    go : (x : Bool) → eqb 9 s ≡ x → (y : Bool) → eqb 7 s ≡ y → (z : Bool) → eqb 3 s ≡ z → Steps s
    go true d y e z f = subst Steps (eqb-true 9 s d) (lit≤ tt, lit< tt, tt)
    go false d true e z f = subst Steps (eqb-true 7 s e) (lit≤ tt, lit< tt, tt)
    go false d false e true f = subst Steps (eqb-true 3 s f) tt
    go false d false e false f = rw (d, e, f) tt

by-card : TakenByCard home (acts ninth) told (cards_of specified_table)
unfolding acts told blocks_sent all_of AllKnown AllAt CountedAtHome told_by counts_of true_bytes sum_below bytes_passed last_of
by-card = record {
  ready_each = (met_by specified_table ninth met).ready_each;
  tells = refl;
  known = (lit< tt, (lit< tt, (lit< tt, (lit< tt, (lit< tt, tt)))));
  at_home = ((refl, (refl, tt)), ((refl, tt), ((refl, (refl, tt)), tt)));
  in_step = in_step_lem;
  fits = lit≤ tt;
}

charged : ChargedByHome home (acts ninth) told (blocks_read (cards_of specified_table) (acts ninth))
unfolding ChargedAtHomeFor
charged =
    charged-at-home 1 zeros setup terms (acts ninth) told home (met_by specified_table ninth met).feed by-card

-- From 4,294,967,000 to 4,294,967,496 at card 2, from 100 to 350 at card 3, and both.
seven-is-496 : total_of (after empty (blocks_read (cards_of specified_table) (acts ninth))) 7 ≡ 496
unfolding acts told told_by counts_of true_bytes bytes_passed last_of
seven-is-496 = charged.totals_are 7

nine-is-250 : total_of (after empty (blocks_read (cards_of specified_table) (acts ninth))) 9 ≡ 250
unfolding acts told told_by counts_of true_bytes bytes_passed last_of
nine-is-250 = charged.totals_are 9

sum-is-746 : (after empty (blocks_read (cards_of specified_table) (acts ninth))).summary ≡ 746
unfolding acts told told_by counts_of true_bytes sum_below bytes_passed last_of
sum-is-746 = charged.summary_is
