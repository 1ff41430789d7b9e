-- The card's side of a scene and of a system of delivery: a call on the card asks and changes nothing else.
-- Assumes nothing.
use Prim.Native.Nat.{ℕ}
use mathlib.Core.Path.{◌≡◌, refl, sym, ◌∙◌, ap}
use mathlib.Core.List.{List, [], ◌∷◌, ◌++◌, map}
use Rattle.host.specs.declared.Answer.{Answer}
use Rattle.host.specs.Host.{fresh}
use Rattle.card.specs.declared.Card.{Card}
use Rattle.delivery.specs.System.{
  specified_card,
  CardCall,
  open_call,
  add_call,
  seal_call,
  read_call,
  show_call,
  choose_call,
  System,
  by_card,
  card_step,
}
use Rattle.delivery.specs.Book.{Expected}
use Rattle.delivery.specs.Demand3.{seen_as}
use Rattle.delivery_table.specs.PerCard.{Scene, card_side, on_card}

-- what a step of the card asks of a system
abbrev pub card_part : System → System
card_part w = record {
  card = w.card;
  slots = w.slots;
  host = fresh 0 0;
  memory = [];
  hand_outs = w.hand_outs;
  acks = w.acks;
  answers = [];
}

abbrev side : Card → List ℕ → List (List ℕ) → List (List ℕ) → System
side card slots hand_outs acks = record {
  card = card;
  slots = slots;
  host = fresh 0 0;
  memory = [];
  hand_outs = hand_outs;
  acks = acks;
  answers = [];
}

pub side_same : {c d : Card} {l m : List ℕ} {h i x y : List (List ℕ)} → c ≡ d → l ≡ m → h ≡ i → x ≡ y
    → side c l h x ≡ side d m i y
side_same p q r t = rw (p, q, r, t)

pub append-same : {h i x y : List (List ℕ)} → h ≡ i → x ≡ y → h ++ x ≡ i ++ y
append-same p q = rw (p, q)

map_snoc : (xs : List Answer) (x : Answer) → map seen_as (xs ++ (x ∷ [])) ≡ map seen_as xs ++ (seen_as x ∷ [])
map_snoc [] x = refl
map_snoc (y ∷ xs) x = ap (λ (l : List Expected). seen_as y ∷ l) (map_snoc xs x)

pub map_more : (xs ys : List Answer) (x y : Answer) → map seen_as xs ≡ map seen_as ys → seen_as x ≡ seen_as y
    → map seen_as (xs ++ (x ∷ [])) ≡ map seen_as (ys ++ (y ∷ []))
map_more xs ys x y p q = rw (map_snoc xs x, map_snoc ys y, p, q)

-- A call on the card asks and changes nothing of the host.
pub record Quiet (x : CardCall) (w : System) : Type 0 where
  pub shows_same : (card_step specified_card w x).observation ≡ (card_step specified_card (card_part w) x).observation
  pub part_same : card_part (card_step specified_card w x).system
      ≡ card_part (card_step specified_card (card_part w) x).system
  pub host-same : (card_step specified_card w x).system.host ≡ w.host
  pub memory-same : (card_step specified_card w x).system.memory ≡ w.memory
  pub answers-same : (card_step specified_card w x).system.answers ≡ w.answers

pub quiet : (x : CardCall) (w : System) → Quiet x w
unfolding by_card
quiet (open_call count address value) w =
    record { shows_same = refl; part_same = refl; host-same = refl; memory-same = refl; answers-same = refl }
quiet (add_call t at bytes) w =
    record { shows_same = refl; part_same = refl; host-same = refl; memory-same = refl; answers-same = refl }
quiet seal_call w =
    record { shows_same = refl; part_same = refl; host-same = refl; memory-same = refl; answers-same = refl }
quiet (read_call k) w =
    record { shows_same = refl; part_same = refl; host-same = refl; memory-same = refl; answers-same = refl }
quiet (show_call n) w =
    record { shows_same = refl; part_same = refl; host-same = refl; memory-same = refl; answers-same = refl }
quiet (choose_call ack) w =
    record { shows_same = refl; part_same = refl; host-same = refl; memory-same = refl; answers-same = refl }

-- so it goes by the card's side only
pub columns-card : (v : Scene) (w : System) (x : CardCall) → card_side v ≡ card_part w
    → (card_side (on_card v x).scene ≡ card_part (card_step specified_card w x).system)
    × ((on_card v x).observation ≡ (card_step specified_card w x).observation)
unfolding on_card
columns-card v w x c =
    let q = quiet x w in (
      ap (λ (u : System). card_part (card_step specified_card u x).system) c ∙ sym q.part_same,
      ap (λ (u : System). (card_step specified_card u x).observation) c ∙ sym q.shows_same,
    )
