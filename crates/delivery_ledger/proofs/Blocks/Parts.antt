-- A block in several messages that lie end to end. Assumes nothing.
use Prim.Native.Nat.{ℕ, zero, suc, ◌+◌, ◌-◌, ◌≤◌, ◌<◌}
use native.Mathlib.Nat.{add-zero}
use native.Mathlib.Omega.{arith}
use mathlib.Core.Path.{◌≡◌, refl, sym, ap, ◌∙◌}
use mathlib.Core.Bool.{true, false}
use mathlib.Core.List.{List, [], ◌∷◌, ◌++◌, map, map-append}
use mathlib.Core.Option.{Option, some}
use borrow.Author.Tests.{le-leb, lt-ltb, le-ltb}
use lib.ListN.{length, drop, length-append, drop_of_length-le}
use lib.Seq.{drop-cons}
use Rattle.delivery.specs.Book.{MessageRecord, Book, added_messages, of_transaction}
use Rattle.delivery_ledger.specs.Blocks.{Block, reaches, byte_for, bytes_for, Carries, EndToEnd, data_of}

abbrev Bytes : Type 0
Bytes = List (Option ℕ)

for-append : (es : List MessageRecord) (x n m : ℕ) → bytes_for es x (n + m) ≡ bytes_for es x n ++ bytes_for es (x + n) m
unfolding bytes_for
for-append es x zero m = rw (add-zero x, zero-plus m)
  where
    zero-plus : (k : ℕ) → zero + k ≡ k
    zero-plus k = omega arith
for-append es x (suc n) m =
    let q : suc n + m ≡ suc (n + m) = omega arith in
    let p : suc x + n ≡ x + suc n = omega arith in
    ap (bytes_for es x) q
    ∙ ap (λ (l : Bytes). byte_for es x ∷ l) (for-append es (suc x) n m ∙ rw p)

reached : (e : MessageRecord) (x : ℕ) → e.data_address ≤ x → x < e.data_address + length e.bytes
    → reaches e x ≡ true
reached e x l u = rw (le-leb e.data_address x l, lt-ltb x (e.data_address + length e.bytes) u)

not-reached : (e : MessageRecord) (x : ℕ) → e.data_address + length e.bytes ≤ x → reaches e x ≡ false
not-reached e x h =
    rw (le-leb e.data_address x (omega arith), le-ltb x (e.data_address + length e.bytes) h)

-- the addresses that the first message reaches, from its j-th byte on
within : (e : MessageRecord) (es : List MessageRecord) (n j : ℕ) → j + n ≡ length e.bytes
    → bytes_for (e ∷ es) (e.data_address + j) n ≡ map some (drop j e.bytes)
unfolding bytes_for byte_for
within e es zero j h = rw (drop_of_length-le e.bytes {i = j} (omega arith))
within e es (suc n) j h =
    let r = reached e (e.data_address + j) (omega arith) (omega arith) in
    let q : e.data_address + j - e.data_address ≡ j = omega arith in
    let p : suc (e.data_address + j) ≡ e.data_address + suc j = omega arith in
    let ih = within e es n (suc j) (omega arith) in
    rw (r, q, p, ih, drop-cons e.bytes j 0 (omega arith))

-- and the addresses after it
behind : (e : MessageRecord) (es : List MessageRecord) (x n : ℕ) → e.data_address + length e.bytes ≤ x
    → bytes_for (e ∷ es) x n ≡ bytes_for es x n
unfolding bytes_for byte_for
behind e es x zero h = refl
behind e es x (suc n) h = rw (not-reached e x h, behind e es (suc x) n (omega arith))

-- Messages that lie end to end have, from the first address on, what they hold together.
pub together : (es : List MessageRecord) (at : ℕ) → EndToEnd at es
    → bytes_for es at (length (data_of es)) ≡ map some (data_of es)
unfolding EndToEnd data_of bytes_for
together [] at k = refl
together (e ∷ es) at k =
    let n = length e.bytes in
    let m = length (data_of es) in
    let z : at ≡ e.data_address + 0 = omega (arith, k.0) in
    let b : e.data_address + n ≤ at + n = omega (arith, k.0) in
    ap (bytes_for (e ∷ es) at) (length-append e.bytes (data_of es))
    ∙ for-append (e ∷ es) at n m
    ∙ ap (λ (l : Bytes). bytes_for (e ∷ es) at n ++ l) (behind e es (at + n) m b ∙ together es (at + n) k.1)
    ∙ ap (λ (x : ℕ). bytes_for (e ∷ es) x n ++ map some (data_of es)) z
    ∙ ap (λ (l : Bytes). l ++ map some (data_of es)) (within e es n 0 (omega arith))
    ∙ sym (map-append some e.bytes (data_of es))

-- So a transaction whose messages lie end to end carries the block that they hold together.
pub parts-carry : (b : Book) (k : Block) → EndToEnd k.at (of_transaction k.trans (added_messages b))
    → data_of (of_transaction k.trans (added_messages b)) ≡ k.bytes
    → Carries b k
parts-carry b k e d =
    let es = of_transaction k.trans (added_messages b) in
    ap (λ (l : List ℕ). bytes_for es k.at (length l)) (sym d) ∙ together es k.at e ∙ ap (map some) d
