-- A list in which a counter wraps, and frames are lost, repeated and reordered. Assumes nothing.
use Prim.Native.Nat.{ℕ}
use mathlib.Core.Path.{◌≡◌, refl, subst}
use mathlib.Core.Bool.{Bool, true, false}
use mathlib.Core.List.{List, [], ◌∷◌, map}
use borrow.Author.Tests.{eqb-true}
use lib.Dec.{T, eqb, lit≤, lit<}
use lib.ListN.{replicate, take, drop}
use Rattle.octets.specs.Octets.{little}
use Rattle.delivery.specs.System.{specified, Event, opens, adds, seals, reads, shows, receives}
use Rattle.delivery.proofs.Lists.Check.{slots_of}
use Rattle.delivery.proofs.Lists.Computing.{computing}
use Rattle.ledger.specs.Ledger.{empty, total_of}
use Rattle.ledger.specs.History.{after, sum_below, bytes_passed, last_of, InStep, InStepFrom}
use Rattle.ledger.specs.Counted.{
  Counted,
  block_of,
  all_of,
  counts_of,
  true_bytes,
  all_true_bytes,
  AllKnown,
  Countable,
  answers_to,
  ChargedAsTold,
}
use Rattle.delivery_ledger.specs.Blocks.{
  Block,
  byte_for,
  bytes_for,
  Act,
  does,
  takes,
  calls_of,
  blocks_sent,
  blocks_read,
}
use Rattle.delivery_ledger.specs.Charged.{CountedIsChargedFor}
use Rattle.delivery_ledger.proofs.Charged.{counted-is-charged}
use Rattle.delivery_ledger.proofs.Lists.Check.{all_there, ready, ready_after, course_of, delivers, delivers-by}

-- ---- what the card counted

abbrev pub counted : ℕ → ℕ → Counted
counted s c = record { subscriber = s; count = c }

-- Subscriber 7's count passes 4,294,967,296 between the first block and the second: its counter wraps.
abbrev pub first : List Counted
first = counted 7 4294967000 ∷ counted 3 5 ∷ []

abbrev pub second : List Counted
second = counted 7 4294967496 ∷ []

abbrev pub third : List Counted
third = counted 3 105 ∷ counted 7 4294967497 ∷ []

unfoldable pub told : List (List Counted)
told = first ∷ second ∷ third ∷ []

-- ---- the list

abbrev pub block : ℕ → ℕ → List Counted → Block
block trans at cs = record { card = 2; trans = trans; at = at; bytes = block_of cs }

unfoldable pub acts : List (Act Event)
acts =
    -- transaction 0 carries the first block at byte 0, in two messages: its end in frame 0, its beginning in frame 2
    does (opens 2 24 1) ∷ does (adds 0 6 (drop 6 (block_of first))) ∷ does seals
    -- transaction 1 the second at byte 16, in frame 1
    ∷ does (opens 1 28 1) ∷ does (adds 1 16 (block_of second)) ∷ does seals
    ∷ does (adds 0 0 (take 6 (block_of first))) ∷ does seals
    -- hand-outs 0 to 3. The network loses 0 for good; 3 is a second copy of frame 0.
    ∷ does (shows 0) ∷ does (shows 1) ∷ does (shows 2) ∷ does (shows 0)
    -- frame 1 comes first, then 2, then 0, and frame 2 once more: transaction 1 is complete before transaction 0
    ∷ does (receives 1) ∷ does (receives 2) ∷ does (receives 3) ∷ does (receives 2)
    -- both blocks are taken, in the order in which they were counted
    ∷ takes (block 0 0 first) ∷ takes (block 1 16 second)
    -- the acknowledgement of all three frames comes back; transaction 2 writes the third block where the first was
    ∷ does (reads 2) ∷ does (opens 1 32 1) ∷ does (adds 2 0 (block_of third)) ∷ does seals
    -- hand-out 4 is lost, 5 arrives; then a copy of frame 1, late
    ∷ does (shows 3) ∷ does (shows 3) ∷ does (receives 5) ∷ does (receives 1)
    ∷ takes (block 2 0 third) ∷ []

abbrev pub memory : List ℕ
memory = replicate 36 0

-- One name for all that is computed here.
unfoldable pub computing_acts : Unit {0}
unfolding computing little told acts block_of all_of calls_of blocks_sent byte_for bytes_for all_there ready ready_after
    delivers
computing_acts = tt

met : T (delivers 50 specified memory acts)
unfolding computing_acts
met = tt

-- ---- the counting keeps its premises

-- Of subscriber 7, of subscriber 3, and of any other.
in_step_lem : (s : ℕ) → InStep (counts_of s (all_of told))
unfolding told all_of counts_of InStep InStepFrom
in_step_lem s = go (eqb 7 s) refl (eqb 3 s) refl
  where
    go : (x : Bool) → eqb 7 s ≡ x → (y : Bool) → eqb 3 s ≡ y → InStep (counts_of s (all_of told))
    go true e y f =
        subst (λ (n : ℕ). InStep (counts_of n (all_of told))) (eqb-true 7 s e)
        (lit≤ tt, lit< tt, (lit≤ tt, lit< tt, tt))
    go false e true f =
        subst (λ (n : ℕ). InStep (counts_of n (all_of told))) (eqb-true 3 s f) (lit≤ tt, lit< tt, tt)
    go false e false f = rw (e, f) tt

pub countable : Countable (all_of told)
unfolding told all_of counts_of AllKnown true_bytes all_true_bytes sum_below bytes_passed last_of
countable = record {
  known = (lit< tt, (lit< tt, (lit< tt, (lit< tt, (lit< tt, tt)))));
  in_step = in_step_lem;
  fits = lit≤ tt;
}

-- ---- what the theorem then says

abbrev blocks : List (List ℕ)
blocks = blocks_read (course_of 50 specified memory) acts

pub sent : blocks_sent acts ≡ map block_of told
unfolding acts told blocks_sent
sent = refl

charged : ChargedAsTold blocks told
unfolding CountedIsChargedFor
charged =
    let k = delivers-by 50 specified memory acts met in
    counted-is-charged 2 1 50 (slots_of 50) memory acts told k.premises
    (record { ready_each = k.ready_each; tells = sent; countable = countable })

none-refused : answers_to empty blocks ≡ 0 ∷ 0 ∷ 0 ∷ []
unfolding told
none-refused = charged.none_refused

-- From 4,294,967,000 to 4,294,967,497; from 5 to 105; and both.
seven-is-497 : total_of (after empty blocks) 7 ≡ 497
unfolding told all_of counts_of true_bytes bytes_passed last_of
seven-is-497 = charged.charges.totals_are 7

three-is-100 : total_of (after empty blocks) 3 ≡ 100
unfolding told all_of counts_of true_bytes bytes_passed last_of
three-is-100 = charged.charges.totals_are 3

sum-is-597 : (after empty blocks).summary ≡ 597
unfolding told all_of counts_of true_bytes all_true_bytes sum_below bytes_passed last_of
sum-is-597 = charged.charges.summary_is
