-- A table of up to 16 pairs at one host, each with a region of one memory: opening, registering, removing, receiving a
-- frame, and the acknowledgement that an answer calls for.
use Rattle.std.specs.Prelude.{ℕ, suc, ◌+◌, Bool, false, cond, not, ◌&&◌, ◌||◌, List, [], ◌∷◌, eqb, ltb, length, get_or, take, drop, set, replicate, Option}
use Rattle.std.proofs.lemmas.List.Edits.{sets}
use Rattle.wire.specs.Format.{frame_most}
use Rattle.wire.specs.Reading.{destination, source}
use Rattle.host.specs.declared.Pair.{Pair}
use Rattle.host.specs.declared.Answer.{Answer}
use Rattle.host.specs.Host.{fresh, receive_of, refused, acknowledgement_from}

-- A registered card: its ID, its region of memory (first byte and length), and its pair. A free place has source 0.
pub record Entry : Type 0 where
  pub source : ℕ
  pub first : ℕ
  pub size : ℕ
  pub pair : Pair

abbrev pub no_entry : Entry
no_entry = record { source = 0; first = 0; size = 0; pair = fresh 0 0 }

-- Our ID, and 16 places.
pub record Table : Type 0 where
  pub own : ℕ
  pub entries : List Entry

-- What opening, registering, removing and adopting hand back: the table, and the refusal, 0 for none.
pub record TableStep : Type 0 where
  pub table : Table
  pub refusal : ℕ

-- ---- opening

-- A refused opening hands back a table with our ID 0 and no card.
unfoldable pub open_table : ℕ → TableStep
open_table own = record {
  table = record { own = own; entries = replicate 16 no_entry };
  refusal = cond (eqb own 0) 13 0;
}

-- ---- places

-- The first place with a source; the number of places where there is none. (Source 0 gives the first free place.)
unfoldable pub place_of : List Entry → ℕ → ℕ
place_of [] s = 0
place_of (e ∷ es) s = cond (eqb e.source s) 0 (suc (place_of es s))

abbrev pub entry_of : Table → ℕ → Entry
entry_of t s = get_or t.entries (place_of t.entries s) no_entry

unfoldable pub registered : Table → ℕ → Bool
registered t s = not (eqb s 0) && ltb (place_of t.entries s) (length t.entries)

unfoldable pub is_full : Table → Bool
is_full t = not (ltb (place_of t.entries 0) (length t.entries))

abbrev pub with_entry : Table → ℕ → Entry → Table
with_entry t k e = record { own = t.own; entries = set t.entries k e }

-- ---- registering and removing

-- Whether a region has a byte in common with another, and with any of the table.
unfoldable pub overlaps : ℕ → ℕ → Entry → Bool
overlaps first size e = ltb first (e.first + e.size) && ltb e.first (first + size)

unfoldable pub overlaps_any : ℕ → ℕ → List Entry → Bool
overlaps_any first size [] = false
overlaps_any first size (e ∷ es) = overlaps first size e || overlaps_any first size es

-- Registering a source with a region, lent a memory of some length: the refusals in their order, 0 for none.
unfoldable pub register_refusal : Table → ℕ → ℕ → ℕ → ℕ → ℕ
register_refusal t s first size memory =
    cond (eqb t.own 0 || eqb s 0) 13
    (cond (registered t s) 30
    (cond (eqb size 0 || ltb memory (first + size)) 31
    (cond (overlaps_any first size t.entries) 29
    (cond (is_full t) 28 0))))

-- The first free place takes a fresh pair.
unfoldable pub register : Table → ℕ → ℕ → ℕ → ℕ → TableStep
register t s first size memory = record {
  table =
      cond (eqb (register_refusal t s first size memory) 0)
      (with_entry t (place_of t.entries 0)
      (record { source = s; first = first; size = size; pair = fresh t.own s }))
      t;
  refusal = register_refusal t s first size memory;
}

-- The place of a removed source is free again.
unfoldable pub remove : Table → ℕ → TableStep
remove t s = record {
  table = cond (registered t s) (with_entry t (place_of t.entries s) no_entry) t;
  refusal = cond (registered t s) 0 3;
}

-- ---- receiving

-- The bytes of a region.
abbrev pub region : ℕ → ℕ → List ℕ → List ℕ
region first size memory = take size (drop first memory)

-- The table and the memory after a frame, and the answer.
pub record TableReceived : Type 0 where
  pub table : Table
  pub memory : List ℕ
  pub answer : Answer

-- Refusals 1, 2, 3 and 31 in their order, 0 for none, of a frame that comes with a memory of some length.
unfoldable pub table_refusal : Table → List ℕ → ℕ → ℕ
table_refusal t f memory =
    cond (ltb (length f) 10) 1
    (cond (ltb frame_most (length f)) 2
    (cond (not (eqb (destination f) t.own && registered t (source f))) 3
    (cond (ltb memory ((entry_of t (source f)).first + (entry_of t (source f)).size)) 31 0)))

abbrev pub with_pair : Entry → Pair → Entry
with_pair e p = record { source = e.source; first = e.first; size = e.size; pair = p }

-- The source's pair receives the frame, and its region is the memory that it is lent: addresses count from the region's
-- start, and 11 and 12 read against its length. (`sets` is the library's run of stores: these bytes and no other.)
unfoldable pub received : Table → List ℕ → List ℕ → TableReceived
received t f memory =
    let e = entry_of t (source f) in
    let r = receive_of e.pair f (region e.first e.size memory) in
    record {
      table = with_entry t (place_of t.entries (source f)) (with_pair e r.pair);
      memory = sets memory e.first r.memory;
      answer = r.answer;
    }

unfoldable pub table_receive : Table → List ℕ → List ℕ → TableReceived
table_receive t f memory =
    cond (eqb (table_refusal t f (length memory)) 0) (received t f memory)
    (record { table = t; memory = memory; answer = refused (table_refusal t f (length memory)) 0 })

-- ---- acknowledging

-- An acknowledgement goes from our ID to the frame's source, with the number that the caller gives.
abbrev pub table_acknowledgement : Table → List ℕ → Answer → ℕ → Option (List ℕ)
table_acknowledgement t f a num = acknowledgement_from t.own (source f) a num
