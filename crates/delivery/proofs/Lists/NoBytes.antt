-- The premise on writes for lists whose messages carry no bytes: only completions write, so that these have to lie
-- apart. Assumes nothing.
use Prim.Native.Nat.{ℕ, ◌+◌, ◌≤◌, ◌<◌}
use native.Mathlib.Omega.{arith}
use mathlib.Core.Path.{◌≡◌, refl, ap}
use mathlib.Core.Bool.{Bool, true, false, cond}
use mathlib.Core.List.Memᴰ
use mathlib.Core.List.{List, [], ◌∷◌, ◌++◌, Memᴰ}
use lib.Dec.{eqb}
use lib.ListN.{length}
use Rattle.octets.specs.Octets.{little}
use Rattle.delivery.specs.Book.{
  MessageRecord,
  Transaction,
  Book,
  is_accepted,
  accepted_messages,
  added_messages,
  of_transaction,
  all_messages_in,
  transaction_at,
  Write,
  data_writes,
  completion_write,
  writes_of,
}
use Rattle.delivery.specs.Demand3.{
  Apart,
  ApartFrom,
  AllApart,
  NoByteTwice,
  writes_made,
  data_end,
  completion_end,
  WritesAllowed,
}
use Rattle.delivery.proofs.Book.AllFinished.{messages_in-some}

abbrev pub NoBytes : List MessageRecord → Type 0
NoBytes [] = Unit {0}
NoBytes (e ∷ es) = (e.bytes ≡ []) × NoBytes es

pub no_bytes : (i : ℕ) (es : List MessageRecord) → ((e : MessageRecord) → Memᴰ e es → e.bytes ≡ [])
    → NoBytes (of_transaction i es)
unfolding of_transaction
no_bytes i [] h = tt
no_bytes i (e ∷ es) h = go (eqb e.trans i) (no_bytes i es (λ x m. h x (Memᴰ.tail m)))
  where
    go : (x : Bool) → NoBytes (of_transaction i es) → NoBytes (cond x (e ∷ of_transaction i es) (of_transaction i es))
    go true k = (h e (Memᴰ.head refl), k)
    go false k = k

-- a write of no bytes has no byte in common with any
apart-left : (w v : Write) → w.bytes ≡ [] → Apart w v
unfolding Apart
apart-left w v z x p q = omega (arith, ap length z)

apart-right : (w v : Write) → v.bytes ≡ [] → Apart w v
unfolding Apart
apart-right w v z x p q = omega (arith, ap length z)

from_all : (w : Write) → w.bytes ≡ [] → (vs : List Write) → ApartFrom w vs
from_all w z [] = tt
from_all w z (v ∷ vs) = (apart-left w v z, from_all w z vs)

-- data of no bytes before other writes
from-data : (w : Write) (es : List MessageRecord) → NoBytes es → (vs : List Write) → ApartFrom w vs
    → ApartFrom w (data_writes es ++ vs)
unfolding data_writes
from-data w [] n vs k = k
from-data w (e ∷ es) n vs k = (
  apart-right w (record { at = e.data_address; bytes = e.bytes }) n.0,
  from-data w es
      n.1 vs k,
)

data-once : (es : List MessageRecord) → NoBytes es → (vs : List Write) → NoByteTwice vs
    → NoByteTwice (data_writes es ++ vs)
unfolding data_writes
data-once [] n vs k = k
data-once (e ∷ es) n vs k =
    (from_all (record { at = e.data_address; bytes = e.bytes }) n.0 (data_writes es ++ vs), data-once es n.1 vs k)

data-apart : (es : List MessageRecord) → NoBytes es → (ws vs : List Write) → AllApart ws vs
    → AllApart (data_writes es ++ ws) vs
unfolding data_writes
data-apart [] n ws vs k = k
data-apart (e ∷ es) n ws vs k = (
  from_all (record { at = e.data_address; bytes = e.bytes }) n.0 vs,
  data-apart es
      n.1 ws vs k,
)

-- completions, due or not
abbrev due : Transaction → Bool → List Write
due d x = cond x (completion_write d ∷ []) []

due-once : (d : Transaction) (x : Bool) → NoByteTwice (due d x)
due-once d true = (tt, tt)
due-once d false = tt

due-from : (d d' : Transaction) → d.completion_address + 4 ≤ d'.completion_address → (y : Bool)
    → ApartFrom (completion_write d) (due d' y)
unfolding completion_write Apart little
due-from d d' h true = ((λ x p q. omega arith), tt)
due-from d d' h false = tt

module _ (b : Book) (empty : (e : MessageRecord) → Memᴰ e (added_messages b) → e.bytes ≡ [])
    (in_memory : (e : MessageRecord) → Memᴰ e (added_messages b) → data_end e ≤ length b.start)
    (completion_in : (d : Transaction) → Memᴰ d b.transactions → completion_end d ≤ length b.start)
    (in_turn : (i j : ℕ) → i < j → j < length b.transactions
    → Memᴰ i (transaction_at b j).unfinished_at_opening
    → (transaction_at b i).completion_address + 4 ≤ (transaction_at b j).completion_address) where
  data_of : (i : ℕ) → NoBytes (of_transaction i (accepted_messages b))
  data_of i =
      no_bytes i (accepted_messages b)
      (λ e m. empty e (Memᴰ.append_left b.building (messages_in-some is_accepted b.frames e m)))

  abbrev is_due : ℕ → Bool
  is_due i = all_messages_in (transaction_at b i) i (accepted_messages b)

  apart-due : (i j : ℕ) → i < j → j < length b.transactions
      → Memᴰ i (transaction_at b j).unfinished_at_opening → (x : Bool)
      → AllApart (due (transaction_at b i) x)
      (data_writes (of_transaction j (accepted_messages b)) ++ due (transaction_at b j) (is_due j))
  apart-due i j l h m true = (
    from-data (completion_write (transaction_at b i)) (of_transaction j (accepted_messages b)) (data_of j)
        (due (transaction_at b j) (is_due j)) (due-from (transaction_at b i) (transaction_at b j) (in_turn i j l h m)
        (is_due j)),
    tt,
  )
  apart-due i j l h m false = tt

  pub allowed-without-bytes : WritesAllowed b
  unfolding writes_of
  allowed-without-bytes = record {
    inside = record {
      data_inside = in_memory;
      completion_inside = completion_in;
    };
    apart = record {
      once_each = λ i h.
          data-once (of_transaction i (accepted_messages b)) (data_of i) (due (transaction_at b i) (is_due i))
          (due-once (transaction_at b i) (is_due i));
      apart_together = λ i j l h m.
          data-apart (of_transaction i (accepted_messages b)) (data_of i) (due (transaction_at b i) (is_due i))
          (writes_made b j)
          (apart-due i j l h m (is_due i));
    };
  }
