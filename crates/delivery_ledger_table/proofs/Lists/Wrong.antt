-- Why a taking names its card, and why the table has to keep the cards apart: a list and a table for which something
-- else is charged. Assumes nothing.
use Prim.Native.Nat.{ℕ}
use native.Mathlib.Omega.{arith}
use mathlib.Core.Path.{◌≡◌, refl}
use mathlib.Core.List.{List, [], ◌∷◌}
use lib.Dec.{T}
use Rattle.table.specs.TableEnd.{TableEnd, specified_table}
use Rattle.table.specs.WrongTables.{with_receiving, unless_refused, received_by, counts_from_start}
use Rattle.ledger.specs.Ledger.{empty, total_of}
use Rattle.ledger.specs.History.{after, bytes_passed, last_of}
use Rattle.ledger.specs.Counted.{counts_of, true_bytes}
use Rattle.delivery_ledger.specs.Blocks.{Act, takes, blocks_read}
use Rattle.delivery_ledger.proofs.Lists.Worked.{third, told, countable}
use Rattle.delivery_ledger.proofs.Lists.Wrong.{charging}
use Rattle.delivery_ledger_table.specs.Together.{CardsCall, ChargedTogetherFor}
use Rattle.delivery_ledger_table.proofs.Lists.TwoCards.{
  setup,
  terms,
  block_from,
  until_last,
  acts,
  zeros,
  cards_of,
  delivers,
  met_by,
  among_cards,
  sent,
}

-- What is charged to subscriber 7, of which 497 bytes were counted at both cards.
abbrev charged_to_seven : TableEnd → List (Act CardsCall) → ℕ
charged_to_seven e list = total_of (after empty (blocks_read (cards_of e) list)) 7

right : charged_to_seven specified_table (acts third) ≡ 497
unfolding among_cards charging
right = refl

-- ---- a block taken of another card

-- The third block, which card 3 sent, from card 2's region.
other_card : List (Act CardsCall)
other_card = until_last third (takes (block_from 2 0 0 third) ∷ [])

other-card-differs : charged_to_seven specified_table other_card ≡ 497 → ⊥
unfolding among_cards charging other_card
other-card-differs e = omega (arith, e)

-- ---- a table that does not keep the cards apart

-- It counts addresses from memory's first byte: card 3 writes into card 2's region, and nothing into its own.
abbrev mixed : TableEnd
mixed = with_receiving counts_from_start

mixed-met : T (delivers mixed third)
unfolding among_cards unless_refused received_by counts_from_start
mixed-met = tt

not-counts_from_start : ChargedTogetherFor mixed → ⊥
unfolding ChargedTogetherFor among_cards charging unless_refused received_by counts_from_start counts_of true_bytes bytes_passed
    last_of
not-counts_from_start c =
    let m = met_by mixed third mixed-met in
    let z = (c 1 zeros setup terms (acts third) told m.feed
    (record { ready_each = m.ready_each; tells = sent; countable = countable })).charges.totals_are 7 in
    omega (arith, z)
