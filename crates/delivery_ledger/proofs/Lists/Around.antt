-- The blocks of Worked.antt around a restart or a crash: half of the first block arrives before it; the rest, hand-out
-- 0, is up to the calls between. The third block has a place of its own, so that no acknowledgement is needed. Assumes
-- nothing.
use Prim.Native.Nat.{ℕ}
use mathlib.Core.List.{List, [], ◌∷◌, ◌++◌, map}
use lib.ListN.{replicate, take, drop}
use Rattle.delivery.specs.System.{Event, opens, adds, seals, shows, receives}
use Rattle.ledger.specs.Counted.{block_of}
use Rattle.delivery_ledger.specs.Blocks.{Act, does, takes}
use Rattle.delivery_ledger.proofs.Lists.Worked.{first, second, third, block}

module _ {C : Type 0} (one : Event → C) (between : List C) where
  abbrev call : Event → Act C
  call x = does (one x)

  unfoldable pub around : List (Act C)
  around =
      call (opens 2 24 1) ∷ call (adds 0 6 (drop 6 (block_of first))) ∷ call seals
      ∷ call (opens 1 28 1) ∷ call (adds 1 16 (block_of second)) ∷ call seals
      ∷ call (adds 0 0 (take 6 (block_of first))) ∷ call seals
      ∷ call (shows 0) ∷ call (shows 1) ∷ call (shows 2) ∷ call (receives 1) ∷ call (receives 2)
      ∷ map does between
      ++ (takes (block 0 0 first) ∷ takes (block 1 16 second)
      ∷ call (opens 1 52 1) ∷ call (adds 2 36 (block_of third)) ∷ call seals
      ∷ call (shows 3) ∷ call (receives 3) ∷ takes (block 2 36 third) ∷ [])

abbrev pub roomy : List ℕ
roomy = replicate 56 0
