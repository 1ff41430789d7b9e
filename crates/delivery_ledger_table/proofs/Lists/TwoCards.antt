-- A list with two cards of one table that feed one ledger: subscribers 3 and 7 are counted at card 2 first, then at
-- card 3. Card 3's block is a parameter of the list. Assumes nothing.
use Prim.Native.Nat.{ℕ}
use mathlib.Core.Path.{◌≡◌, refl}
use mathlib.Core.Bool.{Bool, ◌&&◌, cond, and-eq-true_iff}
use mathlib.Core.List.{List, [], ◌∷◌, map}
use lib.Dec.{T, eqb, lit<}
use lib.ListN.{replicate, take, drop}
use Rattle.delivery.specs.System.{open_call, add_call, seal_call, read_call, show_call}
use Rattle.delivery.proofs.Lists.Same.{T_true}
use Rattle.delivery.proofs.Lists.Check.{slots_of}
use Rattle.table.specs.TableEnd.{TableEnd, specified_table}
use Rattle.table.specs.Calls.{Call, registers}
use Rattle.ledger.specs.Ledger.{empty, total_of}
use Rattle.ledger.specs.History.{after, sum_below, bytes_passed, last_of}
use Rattle.ledger.specs.Counted.{Counted, block_of, all_of, counts_of, true_bytes, all_true_bytes, ChargedAsTold}
use Rattle.delivery_ledger.specs.Blocks.{
  Block,
  Act,
  does,
  takes,
  calls_of,
  Course,
  blocks_sent,
  blocks_read,
  ReadyEach,
  OfEachTaken,
}
use Rattle.delivery_ledger.proofs.Lists.Check.{ready_after, ready-each-by}
use Rattle.delivery_ledger.proofs.Lists.Worked.{first, second, third, told, countable}
use Rattle.delivery_ledger_table.specs.Together.{
  CardsCall,
  card_does,
  frame_comes,
  card_rehoused,
  table_does,
  cards_step,
  cards_after,
  list_of,
  Terms,
  list_from,
  cards_course,
  Feeds,
  ChargedTogetherFor,
}
use Rattle.delivery_ledger_table.proofs.Together.{charged-together}
use Rattle.delivery_ledger_table.proofs.Lists.Check.{keeps_to, keeps-by, at_table}

-- ---- the list

-- Card 2 has bytes 0 to 35, card 3 has 36 to 69.
pub setup : List Call
setup = registers 2 0 36 70 ∷ registers 3 36 34 70 ∷ []

abbrev pub of_two : Terms
of_two = record {
  limit = 50;
  slots = slots_of 50;
  first = 0;
  size = 36;
  lent = 70;
  earlier = [];
  later = registers 3 36 34 70 ∷ [];
}

abbrev pub of_three : Terms
of_three = record {
  limit = 50;
  slots = slots_of 50;
  first = 36;
  size = 34;
  lent = 70;
  earlier = registers 2 0 36 70 ∷ [];
  later = [];
}

abbrev pub terms : ℕ → Terms
terms s = cond (eqb s 2) of_two of_three

abbrev pub block_from : ℕ → ℕ → ℕ → List Counted → Block
block_from card trans at cs = record { card = card; trans = trans; at = at; bytes = block_of cs }

-- Up to the last taking; `last` is what card 3 tells.
abbrev pub until_last : List Counted → List (Act CardsCall) → List (Act CardsCall)
until_last last rest =
    -- card 2 sends the first block at byte 0 of its region, in two frames; card 3 the last at byte 0 of its own
    does (card_does 2 (open_call 2 24 1)) ∷ does (card_does 2 (add_call 0 6 (drop 6 (block_of first))))
    ∷ does (card_does 2 seal_call) ∷ does (card_does 3 (open_call 1 20 1))
    ∷ does (card_does 3 (add_call 0 0 (block_of last))) ∷ does (card_does 3 seal_call)
    ∷ does (card_does 2 (add_call 0 0 (take 6 (block_of first)))) ∷ does (card_does 2 seal_call)
    ∷ does (card_does 2 (show_call 0)) ∷ does (card_does 3 (show_call 0)) ∷ does (card_does 2 (show_call 1))
    -- card 3's frame arrives first; card 2's frames are reordered, and one is repeated
    ∷ does (frame_comes 3 0 70) ∷ does (frame_comes 2 1 70) ∷ does (frame_comes 2 0 70) ∷ does (frame_comes 2 1 70)
    ∷ takes (block_from 2 0 0 first)
    -- card 2 cannot be registered twice; it is acknowledged, and sends the second block where the first was
    ∷ does (table_does (registers 2 60 1 70)) ∷ does (card_does 2 (read_call 1)) ∷ does (card_does 2 (open_call 1 28 1))
    ∷ does (card_does 2 (add_call 1 0 (block_of second))) ∷ does (card_does 2 seal_call) ∷ does (card_does 2 (show_call 2))
    -- card 3's pair is taken out and adopted again; a copy of card 3's frame arrives late
    ∷ does (frame_comes 2 2 70) ∷ does (card_rehoused 3 70) ∷ does (frame_comes 3 0 70)
    ∷ takes (block_from 2 1 0 second) ∷ rest

-- The last block was complete first and is taken last, as it was counted.
unfoldable pub acts : List Counted → List (Act CardsCall)
acts last = until_last last (takes (block_from 3 0 0 last) ∷ [])

abbrev pub zeros : List ℕ
zeros = replicate 70 0

abbrev pub cards_of : TableEnd → Course CardsCall
cards_of e = cards_course e 1 zeros setup terms

-- ---- the premises, at any table

module _ (e : TableEnd) (last : List Counted) where
  abbrev pub kept : ℕ → Bool
  kept s =
      let c = terms s in
      keeps_to e s 1 c.limit c.first c.size c.lent c.slots zeros c.earlier
      (list_from e 1 zeros setup terms s (calls_of (acts last)))

  unfoldable pub delivers : Bool
  delivers = (kept 2 && kept 3) && ready_after (cards_of e) [] (acts last)

  pub record Met : Type 0 where
    pub feed : OfEachTaken (Feeds e 1 zeros setup terms (calls_of (acts last))) (acts last)
    pub ready_each : ReadyEach (cards_of e) (acts last)

  pub met_by : T delivers → Met
  unfolding delivers setup acts OfEachTaken
  met_by t =
      let h = (and-eq-true_iff (kept 2 && kept 3) (ready_after (cards_of e) [] (acts last))).0 (T_true delivers t) in
      let k = (and-eq-true_iff (kept 2) (kept 3)).0 h.0 in
      let two : Feeds e 1 zeros setup terms (calls_of (acts last)) 2 = record {
        in_setup = refl;
        keeps =
            keeps-by e 2 1 50 0 36 70 (slots_of 50) zeros [] (lit< tt) (lit< tt)
            (list_from e 1 zeros setup terms 2 (calls_of (acts last))) k.0;
      } in
      let three : Feeds e 1 zeros setup terms (calls_of (acts last)) 3 = record {
        in_setup = refl;
        keeps =
            keeps-by e 3 1 50 36 34 70 (slots_of 50) zeros of_three.earlier (lit< tt) (lit< tt)
            (list_from e 1 zeros setup terms 3 (calls_of (acts last))) k.1;
      } in
      record { feed = (two, (two, (three, tt))); ready_each = ready-each-by (cards_of e) (acts last) [] h.1 }

unfoldable pub among_cards : Unit {0}
unfolding at_table setup acts cards_step cards_after list_of delivers
among_cards = tt

met : T (delivers specified_table third)
unfolding among_cards
met = tt

pub sent : blocks_sent (acts third) ≡ map block_of told
unfolding acts told blocks_sent
sent = refl

-- ---- what the theorem then says

charged : ChargedAsTold (blocks_read (cards_of specified_table) (acts third)) told
unfolding ChargedTogetherFor
charged =
    let m = met_by specified_table third met in
    charged-together 1 zeros setup terms (acts third) told m.feed
    (record { ready_each = m.ready_each; tells = sent; countable = countable })

-- From 4,294,967,000 to 4,294,967,497 over both cards; from 5 to 105; and both.
seven-is-497 : total_of (after empty (blocks_read (cards_of specified_table) (acts third))) 7 ≡ 497
unfolding told all_of counts_of true_bytes bytes_passed last_of
seven-is-497 = charged.charges.totals_are 7

three-is-100 : total_of (after empty (blocks_read (cards_of specified_table) (acts third))) 3 ≡ 100
unfolding told all_of counts_of true_bytes bytes_passed last_of
three-is-100 = charged.charges.totals_are 3

sum-is-597 : (after empty (blocks_read (cards_of specified_table) (acts third))).summary ≡ 597
unfolding told all_of counts_of true_bytes all_true_bytes sum_below bytes_passed last_of
sum-is-597 = charged.charges.summary_is
