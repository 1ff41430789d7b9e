-- The premises for one card as one test that the checker runs, with its soundness. Assumes nothing.
use Prim.Native.Nat.{ℕ, zero, suc, ◌+◌, ◌<◌}
use native.Mathlib.Omega.{arith}
use mathlib.Core.Path.{◌≡◌, refl, ap, ◌∙◌}
use mathlib.Core.Bool.{Bool, true, false, ◌&&◌, ◌||◌, false≢true, and-eq-true_iff}
use mathlib.Core.List.{List, [], ◌∷◌, ◌++◌, map}
use mathlib.Core.Option.{Option, none, some}
use borrow.Author.Tests.{leb-true, lt-leb, ltb-true, eqb-true}
use lib.Dec.{T, eqb, leb, ltb, lit<}
use lib.ListN.{length}
use Rattle.delivery.specs.System.{Implementation, Event}
use Rattle.delivery.specs.Book.{Book, added_messages, of_transaction, complete, Write}
use Rattle.delivery.specs.Demand3.{Apart, ApartFrom, writes_made}
use Rattle.delivery.proofs.Lists.Same.{T_true}
use Rattle.delivery.proofs.Lists.Check.{every, below, apart, allowed-by, slots_of, judge, passes}
use Rattle.delivery_ledger.specs.Blocks.{
  Block,
  block_write,
  bytes_for,
  Ready,
  Act,
  does,
  takes,
  calls_of,
  Course,
  ReadyAfter,
  ReadyEach,
}
use Rattle.delivery_ledger.specs.Charged.{course, Premises}

-- ---- a block may be taken

unfoldable pub all_there : List (Option ℕ) → List ℕ → Bool
all_there [] [] = true
all_there [] (b ∷ bs) = false
all_there (o ∷ os) [] = false
all_there (none ∷ os) (b ∷ bs) = false
all_there (some c ∷ os) (b ∷ bs) = eqb c b && all_there os bs

there-by : (os : List (Option ℕ)) (bs : List ℕ) → all_there os bs ≡ true → os ≡ map some bs
unfolding all_there
there-by [] [] t = refl
there-by [] (b ∷ bs) t = absurd (false≢true t)
there-by (o ∷ os) [] t = absurd (false≢true t)
there-by (none ∷ os) (b ∷ bs) t = absurd (false≢true t)
there-by (some c ∷ os) (b ∷ bs) t =
    let p = (and-eq-true_iff (eqb c b) (all_there os bs)).0 t in
    ap (λ (x : ℕ). some x ∷ os) (eqb-true c b p.0) ∙ ap (λ (l : List (Option ℕ)). some b ∷ l) (there-by os bs p.1)

apart_by : (w v : Write) → apart w v ≡ true → Apart w v
unfolding apart Apart
apart_by w v e x p q = go (leb (w.at + length w.bytes) v.at) refl e
  where
    go : (y : Bool) → leb (w.at + length w.bytes) v.at ≡ y → (y || leb (v.at + length v.bytes) w.at)
        ≡ true → ⊥
    go true h z = omega (arith, leb-true (w.at + length w.bytes) v.at h)
    go false h z = omega (arith, leb-true (v.at + length v.bytes) w.at z)

apart-from-by : (w : Write) (vs : List Write) → every (apart w) vs ≡ true → ApartFrom w vs
unfolding every
apart-from-by w [] e = tt
apart-from-by w (v ∷ vs) e =
    let b = (and-eq-true_iff (apart w v) (every (apart w) vs)).0 e in
    (apart_by w v b.0, apart-from-by w vs b.1)

below_by : (p : ℕ → Bool) (n : ℕ) → below p n ≡ true → (i : ℕ) → i < n → p i ≡ true
unfolding below
below_by p zero e i h = absurd (omega arith)
below_by p (suc n) e zero h = ((and-eq-true_iff (p 0) (below (λ i. p (suc i)) n)).0 e).0
below_by p (suc n) e (suc i) h =
    below_by (λ i. p (suc i)) n ((and-eq-true_iff (p 0) (below (λ i. p (suc i)) n)).0 e).1 i (omega arith)

-- transaction j was not opened later, or writes nowhere in the block
abbrev clear_of : Book → Block → ℕ → Bool
clear_of b k j = leb j k.trans || every (apart (block_write k)) (writes_made b j)

unfoldable pub ready : Book → Block → Bool
ready b k =
    (ltb k.trans (length b.transactions) && complete b k.trans)
    && (all_there (bytes_for (of_transaction k.trans (added_messages b)) k.at (length k.bytes)) k.bytes
    && below (clear_of b k) (length b.transactions))

ready_by : (b : Book) (k : Block) → ready b k ≡ true → Ready b k
unfolding ready
ready_by b k t =
    let p = (and-eq-true_iff _ _).0 t in
    let q = (and-eq-true_iff _ _).0 p.0 in
    let r = (and-eq-true_iff _ _).0 p.1 in
    record {
      opened = ltb-true _ _ q.0;
      carried = there-by _ _ r.0;
      completed = q.1;
      not_over = λ j l u m. later j l (below_by (clear_of b k) (length b.transactions) r.1 j u);
    }
  where
    later : (j : ℕ) → k.trans < j → clear_of b k j ≡ true → ApartFrom (block_write k) (writes_made b j)
    later j l e = apart-from-by (block_write k) (writes_made b j) (rw (lt-leb j k.trans l) at e)

-- ---- a list

unfoldable pub ready_after : {C : Type 0} → Course C → List C → List (Act C) → Bool
ready_after v made [] = true
ready_after v made (does x ∷ as') = ready_after v (made ++ (x ∷ [])) as'
ready_after v made (takes k ∷ as') = ready (v.book_after k.card made) k && ready_after v made as'

pub ready-each-by : {C : Type 0} (v : Course C) (acts : List (Act C)) (made : List C) → ready_after v made acts ≡ true
    → ReadyAfter v made acts
unfolding ready_after ReadyAfter
ready-each-by v [] made t = tt
ready-each-by v (does x ∷ as') made t = ready-each-by v as' (made ++ (x ∷ [])) t
ready-each-by v (takes k ∷ as') made t =
    let p = (and-eq-true_iff (ready (v.book_after k.card made) k) (ready_after v made as')).0 t in
    (ready_by (v.book_after k.card made) k p.0, ready-each-by v as' made p.1)

-- A card 2 and a host 1, with a slot buffer of the least size.
abbrev pub course_of : ℕ → Implementation → List ℕ → Course Event
course_of limit e memory = course e 2 1 limit (slots_of limit) memory

unfoldable pub delivers : ℕ → Implementation → List ℕ → List (Act Event) → Bool
delivers limit e memory acts =
    passes limit e memory (calls_of acts) && ready_after (course_of limit e memory) [] acts

pub record Delivers (limit : ℕ) (e : Implementation) (memory : List ℕ) (acts : List (Act Event)) : Type 0 where
  pub premises : Premises e 2 1 limit (slots_of limit) memory (calls_of acts)
  pub ready_each : ReadyEach (course_of limit e memory) acts

pub delivers-by : (limit : ℕ) (e : Implementation) (memory : List ℕ) (acts : List (Act Event))
    → T (delivers limit e memory acts) → Delivers limit e memory acts
unfolding delivers judge
delivers-by limit e memory acts p =
    let h = (and-eq-true_iff _ _).0 (T_true _ p) in
    let g = (and-eq-true_iff _ _).0 h.0 in
    let o = (and-eq-true_iff _ _).0 g.0 in
    let t = (and-eq-true_iff _ _).0 g.1 in
    let l = (and-eq-true_iff _ _).0 t.1 in
    record {
      premises = record {
        both_open = record {
          card_fits = lit< tt;
          host_fits = lit< tt;
          card_opens = eqb-true _ _ o.0;
          host_opens = eqb-true _ _ o.1;
        };
        all_of_type = t.0;
        none_too_late = l.0;
        writes_allowed = allowed-by _ l.1;
      };
      ready_each = ready-each-by (course_of limit e memory) acts [] h.1;
    }
