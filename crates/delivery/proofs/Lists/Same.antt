-- Whether two books are the same, as a test that the checker runs, with its soundness. Where two large books differ, a
-- test is done at the first number that does, and an equation only after both are written out. Assumes nothing.
use Prim.Native.Nat.{ℕ}
use mathlib.Core.Path.{◌≡◌, refl, sym, ap, ◌∙◌}
use mathlib.Core.Bool.{Bool, true, false, ◌&&◌, false≢true, and-eq-true_iff}
use mathlib.Core.List.{List, [], ◌∷◌}
use borrow.Author.Tests.{eqb-true}
use lib.Dec.{T, eqb}
use lib.ListN.{get_or, drop}
use Rattle.delivery.specs.Book.{
  MessageRecord,
  Transaction,
  FrameRecord,
  HandOut,
  nothing_handed,
  lent_ack,
  frame_copy,
  AckRange,
  Expected,
  expect_accepted,
  expect_again,
  expect_no_effect,
  Book,
}

pub T_true : (b : Bool) → T b → b ≡ true
T_true true t = refl
T_true false t = absurd t

-- ---- lists, and what is written as a list of numbers

unfoldable pub same_all : {A : Type 0} → (A → A → Bool) → List A → List A → Bool
same_all p [] [] = true
same_all p [] (y ∷ ys) = false
same_all p (x ∷ xs) [] = false
same_all p (x ∷ xs) (y ∷ ys) = p x y && same_all p xs ys

same-all : {A : Type 0} (p : A → A → Bool) → ((x y : A) → p x y ≡ true → x ≡ y) → (xs ys : List A)
    → same_all p xs ys ≡ true → xs ≡ ys
unfolding same_all
same-all p s [] [] t = refl
same-all p s [] (y ∷ ys) t = absurd (false≢true t)
same-all p s (x ∷ xs) [] t = absurd (false≢true t)
same-all {A} p s (x ∷ xs) (y ∷ ys) t =
    let h = (and-eq-true_iff (p x y) (same_all p xs ys)).0 t in
    ap (λ (z : A). z ∷ xs) (s x y h.0) ∙ ap (λ (zs : List A). y ∷ zs) (same-all p s xs ys h.1)

abbrev same_by : {A : Type 0} → (A → List ℕ) → A → A → Bool
same_by code x y = same_all eqb (code x) (code y)

-- It is the same where it can be read back.
same_by_lem : {A : Type 0} (code : A → List ℕ) (back : List ℕ → A) → ((x : A) → back (code x) ≡ x)
    → (x y : A) → same_by code x y ≡ true → x ≡ y
same_by_lem code back r x y t = sym (r x) ∙ ap back (same-all eqb eqb-true (code x) (code y) t) ∙ r y

unfoldable pub message_code : MessageRecord → List ℕ
message_code e = e.trans ∷ e.data_address ∷ e.bytes

message_back : List ℕ → MessageRecord
message_back (t ∷ a ∷ bytes) = record { trans = t; data_address = a; bytes = bytes }
message_back (t ∷ []) = record { trans = t; data_address = 0; bytes = [] }
message_back [] = record { trans = 0; data_address = 0; bytes = [] }

message-back : (e : MessageRecord) → message_back (message_code e) ≡ e
unfolding message_code message_back
message-back e = refl

unfoldable pub transaction_code : Transaction → List ℕ
transaction_code d = d.count ∷ d.completion_address ∷ d.completion_value ∷ d.unfinished_at_opening

transaction_back : List ℕ → Transaction
transaction_back xs = record {
  count = get_or xs 0 0;
  completion_address = get_or xs 1 0;
  completion_value = get_or xs 2 0;
  unfinished_at_opening = drop 3 xs;
}

transaction-back : (d : Transaction) → transaction_back (transaction_code d) ≡ d
unfolding transaction_code transaction_back
transaction-back d = refl

unfoldable pub hand_out_code : HandOut → List ℕ
hand_out_code nothing_handed = []
hand_out_code lent_ack = 0 ∷ []
hand_out_code (frame_copy c) = 1 ∷ c ∷ []

hand_out_back : List ℕ → HandOut
hand_out_back [] = nothing_handed
hand_out_back (k ∷ []) = lent_ack
hand_out_back (k ∷ c ∷ xs) = frame_copy c

hand-out-back : (x : HandOut) → hand_out_back (hand_out_code x) ≡ x
unfolding hand_out_code hand_out_back
hand-out-back nothing_handed = refl
hand-out-back lent_ack = refl
hand-out-back (frame_copy c) = refl

unfoldable pub range_code : AckRange → List ℕ
range_code r = r.first ∷ r.many ∷ []

range_back : List ℕ → AckRange
range_back xs = record { first = get_or xs 0 0; many = get_or xs 1 0 }

range_back_lem : (r : AckRange) → range_back (range_code r) ≡ r
unfolding range_code range_back
range_back_lem r = refl

unfoldable pub expected_code : Expected → List ℕ
expected_code (expect_accepted c s run) = c ∷ run ∷ s.messages ∷ s.bytes ∷ s.completed ∷ []
expected_code (expect_again c run) = c ∷ run ∷ []
expected_code expect_no_effect = []

expected_back : List ℕ → Expected
expected_back [] = expect_no_effect
expected_back (c ∷ []) = expect_no_effect
expected_back (c ∷ run ∷ []) = expect_again c run
expected_back (c ∷ run ∷ m ∷ xs) =
    expect_accepted c (record { messages = m; bytes = get_or xs 0 0; completed = get_or xs 1 0 }) run

expected-back : (x : Expected) → expected_back (expected_code x) ≡ x
unfolding expected_code expected_back
expected-back (expect_accepted c s run) = refl
expected-back (expect_again c run) = refl
expected-back expect_no_effect = refl

-- ---- a frame, and a book

unfoldable pub same_bool : Bool → Bool → Bool
same_bool true b = b
same_bool false true = false
same_bool false false = true

same_bool_lem : (a b : Bool) → same_bool a b ≡ true → a ≡ b
unfolding same_bool
same_bool_lem true true t = refl
same_bool_lem true false t = absurd (false≢true t)
same_bool_lem false true t = absurd (false≢true t)
same_bool_lem false false t = refl

abbrev same_messages : List MessageRecord → List MessageRecord → Bool
same_messages = same_all (same_by message_code)

same-messages : (es fs : List MessageRecord) → same_messages es fs ≡ true → es ≡ fs
same-messages = same-all (same_by message_code) (same_by_lem message_code message_back message-back)

unfoldable pub same_frame : FrameRecord → FrameRecord → Bool
same_frame s u =
    same_bool s.acknowledged u.acknowledged
    && (same_bool s.accepted u.accepted && same_messages s.messages u.messages)

same-frame : (s u : FrameRecord) → same_frame s u ≡ true → s ≡ u
unfolding same_frame
same-frame s u t =
    let h = (and-eq-true_iff _ _).0 t in
    let k = (and-eq-true_iff _ _).0 h.1 in
    let a = same_bool_lem s.acknowledged u.acknowledged h.0 in
    let b = same_bool_lem s.accepted u.accepted k.0 in
    let m = same-messages s.messages u.messages k.1 in
    whole s.messages s.acknowledged s.accepted m a b
  where
    whole : (es : List MessageRecord) (a b : Bool) → es ≡ u.messages → a ≡ u.acknowledged → b ≡ u.accepted
        → record { messages = es; acknowledged = a; accepted = b } ≡ u
    whole es a b p q r = rw (p, q, r) refl

unfoldable pub same_book : Book → Book → Bool
same_book b c =
    same_all (same_by range_code) b.acks_due c.acks_due
    && (same_all (same_by expected_code) b.expected c.expected
    && (same_all (same_by transaction_code) b.transactions c.transactions
    && (same_all same_frame b.frames c.frames
    && (same_messages b.building c.building
    && (same_all (same_by hand_out_code) b.hand_outs c.hand_outs
    && same_all eqb b.start c.start)))))

abbrev columns : List ℕ → List Transaction → List FrameRecord → List MessageRecord → List HandOut → List AckRange
    → List Expected → Book
columns start transactions frames building hand_outs acks_due expected = record {
  start = start;
  transactions = transactions;
  frames = frames;
  building = building;
  hand_outs = hand_outs;
  acks_due = acks_due;
  expected = expected;
}

pub same-book : (b c : Book) → same_book b c ≡ true → b ≡ c
unfolding same_book
same-book b c t =
    let t₁ = (and-eq-true_iff _ _).0 t in
    let t₂ = (and-eq-true_iff _ _).0 t₁.1 in
    let t₃ = (and-eq-true_iff _ _).0 t₂.1 in
    let t₄ = (and-eq-true_iff _ _).0 t₃.1 in
    let t₅ = (and-eq-true_iff _ _).0 t₄.1 in
    let t₆ = (and-eq-true_iff _ _).0 t₅.1 in
    let a = same-all (same_by range_code) (same_by_lem range_code range_back range_back_lem) _ _ t₁.0 in
    let x = same-all (same_by expected_code) (same_by_lem expected_code expected_back expected-back) _ _ t₂.0 in
    let d = same-all (same_by transaction_code) (same_by_lem transaction_code transaction_back transaction-back) _ _ t₃.0 in
    let f = same-all same_frame same-frame _ _ t₄.0 in
    let m = same-messages _ _ t₅.0 in
    let h = same-all (same_by hand_out_code) (same_by_lem hand_out_code hand_out_back hand-out-back) _ _ t₆.0 in
    let s = same-all eqb eqb-true _ _ t₆.1 in
    let z : columns b.start b.transactions b.frames b.building b.hand_outs b.acks_due b.expected ≡ c
    = rw (s, d, f, m, h, a, x) refl in
    z
