-- Writes into memory: those with no byte in common may change places; one more message among the accepted ones is one
-- more write at the end. Assumes nothing.
use Prim.Native.Nat.{ℕ, zero, suc, ◌+◌, ◌≤◌, ◌<◌}
use native.Mathlib.Nat.{not-suc-le-zero}
use native.Mathlib.Omega.{arith}
use mathlib.Core.Path.{◌≡◌, refl, sym, ap, ◌∙◌}
use mathlib.Core.Logic.{◌≢◌}
use mathlib.Core.Bool.{Bool, true, false, cond}
use mathlib.Core.List.{List, [], ◌∷◌, ◌++◌, append_assoc, append-nil}
use borrow.Author.Tests.{eq-eqb, ne_eqb}
use lib.Dec.{eqb}
use lib.ListN.{length, set, get_or, drop}
use lib.Seq.{sets, set_comm}
use Rattle.delivery.specs.Book.{
  Write,
  MessageRecord,
  Transaction,
  no_transaction,
  perform,
  data_writes,
  of_transaction,
  writes_of,
  book_writes,
  completion_write,
  all_messages_in,
}
use Rattle.delivery.specs.Demand3.{Apart, ApartFrom}

-- ---- stores

pub sets-past-set : {A : Type 0} (m : List A) (i : ℕ) (a : A) (j : ℕ) (vs : List A)
    → ((x : ℕ) → j ≤ x → x < j + length vs → i ≢ x) → sets (set m i a) j vs ≡ set (sets m j vs) i a
sets-past-set m i a j [] h = refl
sets-past-set m i a j (v ∷ vs) h =
    ap (λ r. sets r (suc j) vs) (set_comm m i j a v (h j (omega arith) (omega arith)))
    ∙ sets-past-set (set m j v) i a (suc j) vs (λ x l u. h x (omega arith) (omega arith))

pub sets-comm : {A : Type 0} (m : List A) (i : ℕ) (as' : List A) (j : ℕ) (bs : List A)
    → ((x : ℕ) → i ≤ x → x < i + length as' → j ≤ x → x < j + length bs → ⊥)
    → sets (sets m i as') j bs ≡ sets (sets m j bs) i as'
sets-comm m i [] j bs h = refl
sets-comm m i (a ∷ as') j bs h =
    sets-comm (set m i a) (suc i) as' j bs (λ x l u. h x (omega arith) (omega arith))
    ∙ ap (λ r. sets r (suc i) as') (sets-past-set m i a j bs (λ x l u e. h x (omega arith) (omega arith) l u))

-- ---- writes one after another

abbrev pub put : List ℕ → Write → List ℕ
put m w = sets m w.at w.bytes

pub put-comm : (m : List ℕ) (w v : Write) → Apart w v → put (put m w) v ≡ put (put m v) w
unfolding Apart
put-comm m w v h = sets-comm m w.at w.bytes v.at v.bytes (λ x l u l' u'. h x (l, u) (l', u'))

pub perform-append : (m : List ℕ) (ws vs : List Write) → perform m (ws ++ vs) ≡ perform (perform m ws) vs
unfolding perform
perform-append m [] vs = refl
perform-append m (w ∷ ws) vs = perform-append (put m w) ws vs

pub perform-past : (m : List ℕ) (w : Write) (vs : List Write) → ApartFrom w vs → perform (put m w) vs
    ≡ put (perform m vs) w
unfolding perform
perform-past m w [] h = refl
perform-past m w (v ∷ vs) h = ap (λ r. perform r vs) (put-comm m w v h.0) ∙ perform-past (put m v) w vs h.1

-- a write in the middle is as good as one at the end, if what follows it writes none of its bytes
pub perform-insert : (m : List ℕ) (pre : List Write) (w : Write) (post : List Write) → ApartFrom w post
    → perform m (pre ++ (w ∷ post)) ≡ put (perform m (pre ++ post)) w
unfolding perform
perform-insert m pre w post h =
    perform-append m pre (w ∷ post) ∙ perform-past (perform m pre) w post h
    ∙ ap (λ r. put r w) (sym (perform-append m pre post))

pub apart-append : (w : Write) (vs us : List Write) → ApartFrom w vs → ApartFrom w us → ApartFrom w (vs ++ us)
apart-append w [] us h k = k
apart-append w (v ∷ vs) us h k = (h.0, apart-append w vs us h.1 k)

-- ---- the book's list of writes, with one more message

pub of_transaction-append : (i : ℕ) (xs ys : List MessageRecord)
    → of_transaction i (xs ++ ys) ≡ of_transaction i xs ++ of_transaction i ys
unfolding of_transaction
of_transaction-append i [] ys = refl
of_transaction-append i (x ∷ xs) ys = go (eqb x.trans i) (of_transaction-append i xs ys)
  where
    go : (b : Bool) → of_transaction i (xs ++ ys) ≡ of_transaction i xs ++ of_transaction i ys
        → cond b (x ∷ of_transaction i (xs ++ ys)) (of_transaction i (xs ++ ys))
        ≡ cond b (x ∷ of_transaction i xs) (of_transaction i xs) ++ of_transaction i ys
    go true ih = ap (λ r. x ∷ r) ih
    go false ih = ih

pub data_of-append : (xs ys : List MessageRecord) → data_writes (xs ++ ys) ≡ data_writes xs ++ data_writes ys
unfolding data_writes
data_of-append [] ys = refl
data_of-append (x ∷ xs) ys =
    ap {B = List Write} (λ r. record { at = x.data_address; bytes = x.bytes } ∷ r) (data_of-append xs ys)

pub of_transaction-cons-other : (i : ℕ) (e : MessageRecord) (es : List MessageRecord) → e.trans ≢ i
    → of_transaction i (e ∷ es) ≡ of_transaction i es
unfolding of_transaction
of_transaction-cons-other i e es h = rw (ne_eqb e.trans i h)

pub of_transaction-cons-same : (i : ℕ) (e : MessageRecord) (es : List MessageRecord) → e.trans ≡ i
    → of_transaction i (e ∷ es) ≡ e ∷ of_transaction i es
unfolding of_transaction
of_transaction-cons-same i e es h = rw (eq-eqb e.trans i h)

pub of_transaction-other : (i : ℕ) (pre : List MessageRecord) (e : MessageRecord) (post : List MessageRecord)
    → e.trans ≢ i
    → of_transaction i (pre ++ (e ∷ post)) ≡ of_transaction i (pre ++ post)
of_transaction-other i pre e post h =
    of_transaction-append i pre (e ∷ post) ∙ ap (λ r. of_transaction i pre ++ r) (of_transaction-cons-other i e post h)
    ∙ sym (of_transaction-append i pre post)

pub of_transaction-same : (i : ℕ) (pre : List MessageRecord) (e : MessageRecord) (post : List MessageRecord) → e.trans
    ≡ i
    → of_transaction i (pre ++ (e ∷ post)) ≡ of_transaction i pre ++ (e ∷ of_transaction i post)
of_transaction-same i pre e post h = of_transaction-append i pre (e ∷ post)
    ∙ ap (λ r. of_transaction i pre ++ r) (of_transaction-cons-same i e post h)

pub full-other : (d : Transaction) (i : ℕ) (pre : List MessageRecord) (e : MessageRecord) (post : List MessageRecord)
    → e.trans ≢ i → all_messages_in d i (pre ++ (e ∷ post)) ≡ all_messages_in d i (pre ++ post)
unfolding all_messages_in
full-other d i pre e post h = rw (of_transaction-other i pre e post h)

pub writes_of-other : (d : Transaction) (i : ℕ) (pre : List MessageRecord) (e : MessageRecord)
    (post : List MessageRecord)
    → e.trans ≢ i
    → writes_of d i (pre ++ (e ∷ post)) ≡ writes_of d i (pre ++ post)
unfolding writes_of
writes_of-other d i pre e post h = rw (full-other d i pre e post h, of_transaction-other i pre e post h)

pub writes_from-above : (ds : List Transaction) (i : ℕ) (pre : List MessageRecord) (e : MessageRecord)
    (post : List MessageRecord)
    → e.trans < i
    → book_writes i ds (pre ++ (e ∷ post)) ≡ book_writes i ds (pre ++ post)
unfolding book_writes
writes_from-above [] i pre e post h = refl
writes_from-above (d ∷ ds) i pre e post h =
    ap (λ r. r ++ book_writes (suc i) ds (pre ++ (e ∷ post))) (writes_of-other d i pre e post (λ q. omega arith))
    ∙ ap (λ r. writes_of d i (pre ++ post) ++ r) (writes_from-above ds (suc i) pre e post (omega arith))

abbrev pub data_write : MessageRecord → Write
data_write e = record { at = e.data_address; bytes = e.bytes }

-- What memory is after one more message e of a transaction with terms d, from what it was before.
unfoldable pub taken : Bool → Transaction → MessageRecord → List ℕ → List ℕ
taken b d e m = cond b (put (put m (data_write e)) (completion_write d)) (put m (data_write e))

accept-here : (d : Transaction) (ds : List Transaction) (t : ℕ) (m : List ℕ) (pre : List MessageRecord)
    (e : MessageRecord)
    (post : List MessageRecord)
    → e.trans ≡ t → all_messages_in d t (pre ++ post) ≡ false
    → ApartFrom (data_write e) (data_writes (of_transaction t post))
    → ApartFrom (data_write e) (book_writes (suc t) ds (pre ++ post))
    → (all_messages_in d t (pre ++ (e ∷ post)) ≡ true → ApartFrom (completion_write d)
    (book_writes (suc t) ds (pre ++ post)))
    → perform m (writes_of d t (pre ++ (e ∷ post)) ++ book_writes (suc t) ds (pre ++ (e ∷ post)))
    ≡ taken (all_messages_in d t (pre ++ (e ∷ post))) d e
    (perform m (writes_of d t (pre ++ post) ++ book_writes (suc t) ds (pre ++ post)))
unfolding taken data_writes writes_of
accept-here d ds t m pre e post et nf a₁ a₂ a₃ =
    ap (λ r. perform m (writes_of d t (pre ++ (e ∷ post)) ++ r)) (writes_from-above ds (suc t) pre e post (omega arith))
    ∙ go (all_messages_in d t (pre ++ (e ∷ post))) refl
  where
    rest : List Write
    rest = book_writes (suc t) ds (pre ++ post)

    A : List Write
    A = data_writes (of_transaction t pre)

    B : List Write
    B = data_writes (of_transaction t post)

    now : data_writes (of_transaction t (pre ++ (e ∷ post))) ≡ A ++ (data_write e ∷ B)
    now = ap data_writes (of_transaction-same t pre e post et)
        ∙ data_of-append (of_transaction t pre) (e ∷ of_transaction t post)

    before : writes_of d t (pre ++ post) ≡ A ++ B
    before = rw nf (append-nil (data_writes (of_transaction t (pre ++ post)))
        ∙ ap data_writes (of_transaction-append t pre post)
        ∙ data_of-append (of_transaction t pre) (of_transaction t post))

    inserted : perform m ((A ++ (data_write e ∷ B)) ++ rest)
        ≡ put (perform m (writes_of d t (pre ++ post) ++ rest)) (data_write e)
    inserted =
        ap (perform m) (append_assoc A (data_write e ∷ B) rest)
        ∙ perform-insert m A (data_write e) (B ++ rest) (apart-append (data_write e) B rest a₁ a₂)
        ∙ ap (λ r. put (perform m r) (data_write e)) (sym (append_assoc A B rest) ∙ ap (λ r. r ++ rest) (sym before))

    after : (b : Bool) → all_messages_in d t (pre ++ (e ∷ post)) ≡ b
        → writes_of d t (pre ++ (e ∷ post)) ≡ (A ++ (data_write e ∷ B)) ++ cond b (completion_write d ∷ []) []
    after b f = rw (f, now)

    go : (b : Bool) → all_messages_in d t (pre ++ (e ∷ post)) ≡ b
        → perform m (writes_of d t (pre ++ (e ∷ post)) ++ rest)
        ≡ cond b (put (put (perform m (writes_of d t (pre ++ post) ++ rest)) (data_write e)) (completion_write d))
        (put (perform m (writes_of d t (pre ++ post) ++ rest)) (data_write e))
    go true f =
        ap (λ (r : List Write). perform m (r ++ rest)) (after true f)
        ∙ ap (perform m) (append_assoc (A ++ (data_write e ∷ B)) (completion_write d ∷ []) rest)
        ∙ perform-insert m (A ++ (data_write e ∷ B)) (completion_write d) rest (a₃ f)
        ∙ ap (λ r. put r (completion_write d)) inserted
    go false f =
        ap (λ (r : List Write). perform m (r ++ rest)) (after false f ∙ append-nil (A ++ (data_write e ∷ B)))
        ∙ inserted

-- Accepting one more message e of a transaction that was not complete: its data is written, and then its completion if
-- it is now complete. Behind e in the list stand messages accepted earlier, and the writes of transactions opened
-- later: none of them has a byte of e's.
pub accept-one : (ds : List Transaction) (k i t : ℕ) (m : List ℕ) (pre : List MessageRecord) (e : MessageRecord)
    (post : List MessageRecord)
    → e.trans ≡ t → t ≡ i + k → k < length ds
    → all_messages_in (get_or ds k no_transaction) t (pre ++ post) ≡ false
    → ApartFrom (data_write e) (data_writes (of_transaction t post))
    → ApartFrom (data_write e) (book_writes (suc t) (drop (suc k) ds) (pre ++ post))
    → (all_messages_in (get_or ds k no_transaction) t (pre ++ (e ∷ post)) ≡ true
    → ApartFrom (completion_write (get_or ds k no_transaction)) (book_writes (suc t) (drop (suc k) ds) (pre ++ post)))
    → perform m (book_writes i ds (pre ++ (e ∷ post)))
    ≡ taken (all_messages_in (get_or ds k no_transaction) t (pre ++ (e ∷ post))) (get_or ds k no_transaction) e
    (perform m (book_writes i ds (pre ++ post)))
unfolding book_writes
accept-one [] k i t m pre e post et ti kl nf a₁ a₂ a₃ = absurd (not-suc-le-zero kl)
accept-one (d ∷ ds) zero i t m pre e post et ti kl nf a₁ a₂ a₃ =
    let q : t ≡ i = omega arith in
    rw (← q) (accept-here d ds t m pre e post et nf a₁ a₂ a₃)
accept-one (d ∷ ds) (suc k) i t m pre e post et ti kl nf a₁ a₂ a₃ =
    ap (λ r. perform m (r ++ book_writes (suc i) ds (pre ++ (e ∷ post))))
    (writes_of-other d i pre e post (λ q. omega arith))
    ∙ perform-append m (writes_of d i (pre ++ post)) (book_writes (suc i) ds (pre ++ (e ∷ post)))
    ∙ accept-one ds k (suc i) t (perform m (writes_of d i (pre ++ post))) pre e post et (omega arith)
    (omega arith) nf a₁ a₂ a₃
    ∙ ap (taken (all_messages_in (get_or ds k no_transaction) t (pre ++ (e ∷ post))) (get_or ds k no_transaction) e)
    (sym (perform-append m (writes_of d i (pre ++ post)) (book_writes (suc i) ds (pre ++ post))))
