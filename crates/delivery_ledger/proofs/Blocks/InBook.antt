-- A block that may be taken stands in the memory that the card's book says, as the card was given it. Assumes nothing.
use Prim.Native.Nat.{ℕ, zero, suc, ◌+◌, ◌-◌, ◌≤◌, ◌<◌}
use native.Mathlib.Nat.{add-zero}
use native.Mathlib.Decide.{dec_lt}
use native.Mathlib.Omega.{arith}
use mathlib.Core.Path.{◌≡◌, refl, sym, ap, ◌∙◌, subst}
use mathlib.Core.Logic.{◌⊎◌, inl, inr}
use mathlib.Core.Bool.{Bool, true, false, cond, and-eq-true_iff}
use mathlib.Core.List.Memᴰ
use mathlib.Core.List.Sublistᴰ
use mathlib.Core.List.{
  List,
  [],
  ◌∷◌,
  ◌++◌,
  map,
  append_assoc,
  Memᴰ,
  Sublistᴰ,
}
use mathlib.Core.Option.{Option, none, some}
use borrow.Author.Tests.{leb-true, ltb-true, eqb-true, eqb-false}
use lib.Dec.{eqb, leb, ltb}
use lib.ListN.{length, get_or, take, drop, length-drop}
use lib.Seq.{sets, length-sets, length-take-le, get_or-take, get_or-drop, ext_get_or}
use Rattle.wire.specs.Format.{needed}
use Rattle.delivery.specs.Book.{
  MessageRecord,
  Transaction,
  no_transaction,
  FrameRecord,
  Book,
  messages_in,
  is_accepted,
  any_frame,
  accepted_messages,
  added_messages,
  of_transaction,
  all_messages_in,
  transaction_at,
  complete,
  Write,
  perform,
  data_writes,
  completion_write,
  writes_of,
  book_writes,
  book_memory,
}
use Rattle.delivery.specs.Demand3.{
  Covers,
  AllApart,
  NoByteTwice,
  writes_made,
  data_end,
  WritesAllowed,
}
use Rattle.delivery.proofs.Book.Writes.{perform-append, data_write}
use Rattle.delivery.proofs.Book.Arrive.{sub-append, sub-of_transaction, sub-length}
use Rattle.delivery_ledger.specs.Blocks.{
  Block,
  block_at,
  block_write,
  reaches,
  byte_for,
  bytes_for,
  Ready,
}
use Rattle.delivery_ledger.proofs.Blocks.Bytes.{
  sets-here,
  Missed,
  missed-byte,
  missed-append,
  missed-apart,
  length-perform,
}

-- ---- a complete transaction: all its messages are accepted

sub-accepted : (ss : List FrameRecord) → Sublistᴰ (messages_in is_accepted ss) (messages_in any_frame ss)
unfolding messages_in
sub-accepted [] = Sublistᴰ.slnil
sub-accepted (s ∷ ss) = sub-append (go s.accepted) (sub-accepted ss)
  where
    go : (x : Bool) → Sublistᴰ (cond x s.messages []) s.messages
    go true = Sublistᴰ.refl s.messages
    go false = Sublistᴰ.nil-sublist s.messages

sub_more : {A : Type 0} {xs ys : List A} (zs : List A) → Sublistᴰ xs ys → Sublistᴰ xs (ys ++ zs)
sub_more zs Sublistᴰ.slnil = Sublistᴰ.nil-sublist zs
sub_more zs (Sublistᴰ.cons s) = Sublistᴰ.cons (sub_more zs s)
sub_more zs (Sublistᴰ.cons-cons e s) = Sublistᴰ.cons-cons e (sub_more zs s)

sub-whole : {A : Type 0} {xs ys : List A} → Sublistᴰ xs ys → length ys ≤ length xs → xs ≡ ys
sub-whole Sublistᴰ.slnil h = refl
sub-whole (Sublistᴰ.cons s) h = absurd (omega (arith, sub-length s))
sub-whole (Sublistᴰ.cons-cons {a = a} {b = b} {l₁ = xs} {l₂ = ys} e s) h =
    ap (λ l. a ∷ l) (sub-whole s (omega arith)) ∙ ap (λ x. x ∷ ys) e

all-accepted : (b : Book) (i : ℕ) → length (of_transaction i (added_messages b)) ≤ needed (transaction_at b i).count
    → complete b i ≡ true
    → of_transaction i (accepted_messages b) ≡ of_transaction i (added_messages b)
unfolding complete all_messages_in
all-accepted b i over c =
    sub-whole (sub-of_transaction i (sub_more b.building (sub-accepted b.frames)))
    (omega (
      arith,
      over,
      leb-true (needed (transaction_at b i).count) (length (of_transaction i (accepted_messages b))) c,
    ))

-- ---- the byte that messages have for an address

some_inj : {A : Type 0} {x y : A} → ◌≡◌ {A = Option A} (some x) (some y) → x ≡ y
some_inj {A} {x} {y} e = ap (λ (o : Option A). go o) e
  where
    go : Option A → A
    go none = x
    go (some z) = z

none-some : {A : Type 0} {x : A} → ◌≡◌ {A = Option A} none (some x) → ⊥
none-some {A} e =
    let z : ◌≡◌ {A = ℕ} 0 1 = ap (λ (o : Option A). go o) e in
    omega arith
  where
    go : Option A → ℕ
    go none = 0
    go (some z) = 1

reached : (e : MessageRecord) (x : ℕ) → reaches e x ≡ true → Covers (data_write e) x
reached e x r =
    let p = (and-eq-true_iff (leb e.data_address x) (ltb x (e.data_address + length e.bytes))).0 r in
    (leb-true e.data_address x p.0, ltb-true x (e.data_address + length e.bytes) p.1)

-- it lies inside memory where all messages do
byte_inside : (es : List MessageRecord) (n x v : ℕ) → ((e : MessageRecord) → Memᴰ e es → data_end e ≤ n)
    → byte_for es x ≡ some v
    → x < n
unfolding byte_for
byte_inside [] n x v h q = absurd (none-some q)
byte_inside (e ∷ es) n x v h q =
    go (byte_inside es n x v (λ f m. h f (Memᴰ.tail m))) (reaches e x) refl q
  where
    go : (byte_for es x ≡ some v → x < n) → (r : Bool) → reaches e x ≡ r
        → cond r (some (get_or e.bytes (x - e.data_address) 0)) (byte_for es x) ≡ some v → x < n
    go ih true r p = omega (arith, reached e x r, h e (Memᴰ.head refl))
    go ih false r p = ih p

-- one of the writes covers it
byte-missed : (es : List MessageRecord) (rest vs : List Write) (x v : ℕ) → AllApart (data_writes es ++ rest) vs
    → byte_for es x ≡ some v
    → Missed x vs
unfolding byte_for data_writes
byte-missed [] rest vs x v a q = absurd (none-some q)
byte-missed (e ∷ es) rest vs x v a q = go (byte-missed es rest vs x v a.1) (reaches e x) refl q
  where
    go : (byte_for es x ≡ some v → Missed x vs) → (r : Bool) → reaches e x ≡ r
        → cond r (some (get_or e.bytes (x - e.data_address) 0)) (byte_for es x) ≡ some v → Missed x vs
    go ih true r p = missed-apart (data_write e) vs x (reached e x r) a.0
    go ih false r p = ih p

-- and it stands in memory after the writes, no byte being written twice
byte-written : (m : List ℕ) (es : List MessageRecord) (rest : List Write) (x v : ℕ)
    → NoByteTwice (data_writes es ++ rest) → x < length m → byte_for es x ≡ some v
    → get_or (perform m (data_writes es ++ rest)) x 0 ≡ v
unfolding byte_for data_writes perform
byte-written m [] rest x v o h q = absurd (none-some q)
byte-written m (e ∷ es) rest x v o h q =
    go (byte-written (sets m e.data_address e.bytes) es rest x v o.1
    (omega (arith, h, length-sets m e.data_address e.bytes)))
    (reaches e x) refl q
  where
    m₁ : List ℕ
    m₁ = sets m e.data_address e.bytes

    go : (byte_for es x ≡ some v → get_or (perform m₁ (data_writes es ++ rest)) x 0 ≡ v) → (r : Bool) → reaches e x ≡ r
        → cond r (some (get_or e.bytes (x - e.data_address) 0)) (byte_for es x) ≡ some v
        → get_or (perform m₁ (data_writes es ++ rest)) x 0 ≡ v
    go ih true r p =
        let c = reached e x r in
        missed-byte m₁ (data_writes es ++ rest) x (missed-apart (data_write e) (data_writes es ++ rest) x c o.0)
        ∙ sets-here m e.data_address e.bytes x c.0 c.1 h
        ∙ some_inj p
    go ih false r p = ih p

-- ---- the book's writes before a transaction's, its own, and those after

writes-split : (ds : List Transaction) (k i : ℕ) (es : List MessageRecord) → i < length ds
    → book_writes k ds es
    ≡ book_writes k (take i ds) es
    ++ (writes_of (get_or ds i no_transaction) (k + i) es ++ book_writes (suc (k + i)) (drop (suc i) ds) es)
unfolding book_writes
writes-split [] k i es h = absurd (omega arith)
writes-split (d ∷ ds) k zero es h = rw (add-zero k)
writes-split (d ∷ ds) k (suc i) es h =
    let q : suc k + i ≡ k + suc i = omega arith in
    ap (λ (l : List Write). writes_of d k es ++ l) (writes-split ds (suc k) i es (omega arith) ∙ rw q)
    ∙ sym (append_assoc (writes_of d k es) (book_writes (suc k) (take i ds) es) _)

missed-later : (ds : List Transaction) (k : ℕ) (es : List MessageRecord) (x : ℕ)
    → ((j : ℕ) → j < length ds → Missed x (writes_of (get_or ds j no_transaction) (k + j) es))
    → Missed x (book_writes k ds es)
unfolding book_writes Missed
missed-later [] k es x h = tt
missed-later (d ∷ ds) k es x h =
    missed-append x (writes_of d k es) (book_writes (suc k) ds es)
    (subst (λ (n : ℕ). Missed x (writes_of d n es)) (add-zero k) (h 0 (omega arith)))
    (missed-later ds (suc k) es x
    (λ j l.
    let q : k + suc j ≡ suc k + j = omega arith in
    subst (λ (n : ℕ). Missed x (writes_of (get_or ds j no_transaction) n es)) q (h (suc j) (omega arith))))

-- ---- one of a list's numbers, or none

member : (i : ℕ) (ns : List ℕ) → Memᴰ i ns ⊎ (Memᴰ i ns → ⊥)
member i [] = inr (λ m. Memᴰ.not-nil m)
member i (n ∷ ns) = go (eqb i n) refl (member i ns)
  where
    neither : (i ≡ n → ⊥) → (Memᴰ i ns → ⊥) → (i ≡ n) ⊎ Memᴰ i ns → ⊥
    neither p q (inl x) = p x
    neither p q (inr x) = q x

    go : (x : Bool) → eqb i n ≡ x → Memᴰ i ns ⊎ (Memᴰ i ns → ⊥)
        → Memᴰ i (n ∷ ns) ⊎ (Memᴰ i (n ∷ ns) → ⊥)
    go true e r = inl (Memᴰ.head (eqb-true i n e))
    go false e (inl m) = inl (Memᴰ.tail m)
    go false e (inr m) = inr (λ k. neither (eqb-false i n e) m (Memᴰ.cases_cons k))

-- ---- a block

-- a byte of it, in its message
block-byte : (es : List MessageRecord) (bs : List ℕ) (x j : ℕ) → bytes_for es x (length bs) ≡ map some bs
    → j < length bs
    → byte_for es (x + j) ≡ some (get_or bs j 0)
unfolding bytes_for
block-byte es [] x j e h = absurd (omega arith)
block-byte es (c ∷ bs) x zero e h = rw (add-zero x) (ap (λ (l : List (Option ℕ)). get_or l 0 none) e)
block-byte es (c ∷ bs) x (suc j) e h =
    let q : suc x + j ≡ x + suc j = omega arith in
    ap (byte_for es) (sym q) ∙ block-byte es bs (suc x) j (ap (drop 1) e) (omega arith)

module _ (b : Book) (k : Block) (over : (i : ℕ) → i < length b.transactions
    → length (of_transaction i (added_messages b)) ≤ needed (transaction_at b i).count) (w : WritesAllowed b)
    (r : Ready b k) where
  abbrev i : ℕ
  i = k.trans

  abbrev ds : List Transaction
  ds = b.transactions

  abbrev es : List MessageRecord
  es = accepted_messages b

  abbrev own : List MessageRecord
  own = of_transaction i es

  own_is : own ≡ of_transaction i (added_messages b)
  own_is = all-accepted b i (over i r.opened) r.completed

  carried : (j : ℕ) → j < length k.bytes → byte_for own (k.at + j) ≡ some (get_or k.bytes j 0)
  carried j h = rw own_is (block-byte (of_transaction i (added_messages b)) k.bytes k.at j r.carried h)

  -- the messages lie inside memory
  some_of : (ms : List MessageRecord) (e : MessageRecord) → Memᴰ e (of_transaction i ms) → Memᴰ e ms
  unfolding of_transaction
  some_of [] e m = m
  some_of (f ∷ ms) e m = go (some_of ms e) (eqb f.trans i) m
    where
      step : (Memᴰ e (of_transaction i ms) → Memᴰ e ms) → (e ≡ f) ⊎ Memᴰ e (of_transaction i ms)
          → Memᴰ e (f ∷ ms)
      step ih (inl q) = Memᴰ.head q
      step ih (inr q) = Memᴰ.tail (ih q)

      go : (Memᴰ e (of_transaction i ms) → Memᴰ e ms) → (x : Bool)
          → Memᴰ e (cond x (f ∷ of_transaction i ms) (of_transaction i ms)) → Memᴰ e (f ∷ ms)
      go ih true q = step ih (Memᴰ.cases_cons q)
      go ih false q = Memᴰ.tail (ih q)

  inside : (j : ℕ) → j < length k.bytes → k.at + j < length b.start
  inside j h =
      byte_inside own (length b.start) (k.at + j) (get_or k.bytes j 0)
      (λ e m.
      w.inside.data_inside e
      (some_of (added_messages b) e (subst (λ (l : List MessageRecord). Memᴰ e l) own_is m)))
      (carried j h)

  -- what was opened later writes none of its bytes
  later : (n j : ℕ) → n < length k.bytes → i < j → j < length ds → Missed (k.at + n) (writes_made b j)
  unfolding writes_of
  later n j h l u = go (member i (transaction_at b j).unfinished_at_opening)
    where
      go : Memᴰ i (transaction_at b j).unfinished_at_opening
          ⊎ (Memᴰ i (transaction_at b j).unfinished_at_opening → ⊥)
          → Missed (k.at + n) (writes_made b j)
      go (inl m) =
          byte-missed own (cond (all_messages_in (transaction_at b i) i es) (completion_write (transaction_at b i) ∷ []) [])
          (writes_made b j) (k.at + n) (get_or k.bytes n 0) (w.apart.apart_together i j l u m) (carried n h)
      go (inr m) =
          missed-apart (block_write k) (writes_made b j) (k.at + n) (omega arith, omega arith) (r.not_over j l u m)

  byte-is : (j : ℕ) → j < length k.bytes → get_or (book_memory b) (k.at + j) 0 ≡ get_or k.bytes j 0
  unfolding book_memory writes_of
  byte-is j h =
      let x = k.at + j in
      let d = transaction_at b i in
      let pre = book_writes 0 (take i ds) es in
      let mine = writes_of d i es in
      let post = book_writes (suc i) (drop (suc i) ds) es in
      let m₁ = perform b.start pre in
      let z : 0 + i ≡ i = omega arith in
      let split : book_writes 0 ds es ≡ pre ++ (mine ++ post) =
      writes-split ds 0 i es r.opened
      ∙ ap (λ (n : ℕ). pre ++ (writes_of d n es ++ book_writes (suc n) (drop (suc i) ds) es)) z in
      let missed : Missed x post =
      missed-later (drop (suc i) ds) (suc i) es x
      (λ n l.
      subst (λ (t : Transaction). Missed x (writes_of t (suc i + n) es))
      (sym (get_or-drop (suc i) ds n no_transaction))
      (later j (suc i + n) h (omega arith) (omega (arith, l, length-drop (suc i) ds)))) in
      ap (λ (ws : List Write). get_or (perform b.start ws) x 0) split
      ∙ ap (λ (m : List ℕ). get_or m x 0) (perform-append b.start pre (mine ++ post) ∙ perform-append m₁ mine post)
      ∙ missed-byte (perform m₁ mine) post x missed
      ∙ byte-written m₁ own (cond (all_messages_in d i es) (completion_write d ∷ []) []) x (get_or k.bytes j 0)
      (w.apart.once_each i r.opened)
      (omega (arith, inside j h, length-perform b.start pre))
      (carried j h)

  length-memory : length (book_memory b) ≡ length b.start
  unfolding book_memory
  length-memory = length-perform b.start (book_writes 0 ds es)

  -- the block ends inside memory, unless it has no bytes
  long : length (block_at (book_memory b) k.at (length k.bytes)) ≡ length k.bytes
  long = length-take-le (length k.bytes) (drop k.at (book_memory b)) (go (dec_lt 0 (length k.bytes)))
    where
      go : Dec (0 < length k.bytes) → length k.bytes ≤ length (drop k.at (book_memory b))
      go (yes h) =
          omega (
            arith,
            inside (length k.bytes - 1) (omega arith),
            length-memory,
            length-drop k.at (book_memory b),
          )
      go (no h) = omega arith

  pub in-book : block_at (book_memory b) k.at (length k.bytes) ≡ k.bytes
  in-book =
      ext_get_or 0 (block_at (book_memory b) k.at (length k.bytes)) k.bytes long
      (λ j h.
      let l : j < length k.bytes = omega (arith, long) in
      get_or-take (length k.bytes) (drop k.at (book_memory b)) j 0 l
      ∙ get_or-drop k.at (book_memory b) j 0
      ∙ byte-is j l)
