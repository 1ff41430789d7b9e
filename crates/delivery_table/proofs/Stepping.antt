-- One action of a scene and one event of a system of delivery keep the system in agreement with the card's book.
-- Assumes nothing.
use Prim.Native.Nat.{ℕ, ◌+◌, ◌≤◌, ◌<◌}
use mathlib.Core.Path.{◌≡◌, refl, ◌∙◌, ap}
use mathlib.Core.Bool.{true}
use Rattle.seq.specs.Ring.{frame_space}
use Rattle.delivery.specs.System.{
  specified_card,
  specified_host,
  specified,
  CardCall,
  calls,
  receives,
  System,
  Observation,
  by_host,
  card_step,
  host_step,
  step,
}
use Rattle.delivery.specs.Book.{Book, book_step}
use Rattle.delivery.specs.Demand3.{typed, in_time, WritesAllowed}
use Rattle.delivery.proofs.Agree.{SystemFor}
use Rattle.delivery.proofs.Demand.{seen-event, step-any}
use Rattle.delivery_table.specs.PerCard.{Scene, card_side, on_card, on_table_for, on_table}
use Rattle.delivery_table.proofs.HandOuts.{ours-or-short}
use Rattle.delivery_table.proofs.CardSide.{card_part, columns-card}
use Rattle.delivery_table.proofs.Tied.{Tied, tied-table}

module _ (card_id host_id : ℕ) (card_fits : card_id < frame_space) (host_fits : host_id < frame_space) (v : Scene) (w : System)
    (b : Book) (f : SystemFor card_id host_id w b) where
  -- a call on the card, be the card registered or not
  pub agrees-card : (x : CardCall) → card_side v ≡ card_part w → typed (calls x) ≡ true
      → in_time b (on_card v x).observation.event ≡ true → WritesAllowed (book_step b (on_card v x).observation)
      → SystemFor card_id host_id (card_step specified_card w x).system (book_step b (on_card v x).observation)
  unfolding step
  agrees-card x c ty ti wr =
      let told = (columns-card v w x c).1 in
      let seen : (on_card v x).observation.event ≡ calls x =
      ap (λ (r : Observation). r.event) told ∙ seen-event specified w (calls x) in
      rw told
      (step-any card_id host_id card_fits host_fits w b f (calls x) ty (rw seen at ti) (rw told at wr))

  -- the table receives what the card handed out
  told_same : (j lent : ℕ) → (on_table v j lent).observation ≡ (host_step specified_host w j).observation
  unfolding on_table_for by_host
  told_same j lent = refl

  pub agrees-table : (j lent : ℕ) → in_time b (on_table v j lent).observation.event ≡ true
      → WritesAllowed (book_step b (on_table v j lent).observation)
      → SystemFor card_id host_id (host_step specified_host w j).system (book_step b (on_table v j lent).observation)
  unfolding step typed
  agrees-table j lent ti wr =
      let told = told_same j lent in
      let seen : (on_table v j lent).observation.event ≡ receives j =
      ap (λ (r : Observation). r.event) told ∙ seen-event specified w (receives j) in
      rw told
      (step-any card_id host_id card_fits host_fits w b f (receives j) refl (rw seen at ti) (rw told at wr))

  pub stays-tied : (a k : ℕ) → Tied card_id a k v w → (j lent : ℕ) → a + k ≤ lent
      → Tied card_id a k (on_table v j lent).scene (host_step specified_host w j).system
  stays-tied a k t j lent l =
      tied-table card_id a k v w t j lent l (ours-or-short card_id host_id card_fits host_fits w b f j)
