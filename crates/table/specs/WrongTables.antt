-- Wrong tables: the rules' table with one fault each. Nothing of this needs to be believed: proofs/Wrong.antt shows
-- that four of them break isolation, and proofs/Wrong.antt of delivery_table that the other four break demand 3 per
-- card.
use Rattle.std.specs.Prelude.{ℕ, suc, cond, List, eqb, length}
use Rattle.std.proofs.lemmas.List.Edits.{sets}
use Rattle.wire.specs.Reading.{source}
use Rattle.host.specs.declared.Pair.{Pair}
use Rattle.host.specs.Host.{fresh, receive_of, refused}
use Rattle.table.specs.Table.{
  Table,
  TableStep,
  place_of,
  entry_of,
  registered,
  with_entry,
  register_refusal,
  region,
  TableReceived,
  table_refusal,
  with_pair,
}
use Rattle.table.specs.Reachable.{place}
use Rattle.table.specs.Adopting.{TakenOut, take_out, adopt}
use Rattle.table.specs.TableEnd.{TableEnd, specified_table}

-- ---- the rules' table but for some calls

abbrev pub Registering : Type 0
Registering = Table → ℕ → ℕ → ℕ → ℕ → TableStep

abbrev pub Removing : Type 0
Removing = Table → ℕ → TableStep

abbrev pub Receiving : Type 0
Receiving = Table → List ℕ → List ℕ → TableReceived

abbrev pub with_registering : Registering → Removing → TableEnd
with_registering registering removing = record {
  opening = specified_table.opening;
  registering = registering;
  removing = removing;
  taking = specified_table.taking;
  adopting = specified_table.adopting;
  receiving = specified_table.receiving;
  acknowledging = specified_table.acknowledging;
}

abbrev pub with_adopting : (Table → ℕ → TakenOut) → (Table → Pair → ℕ → ℕ → ℕ → TableStep) → TableEnd
with_adopting taking adopting = record {
  opening = specified_table.opening;
  registering = specified_table.registering;
  removing = specified_table.removing;
  taking = taking;
  adopting = adopting;
  receiving = specified_table.receiving;
  acknowledging = specified_table.acknowledging;
}

abbrev pub with_receiving : Receiving → TableEnd
with_receiving receiving = record {
  opening = specified_table.opening;
  registering = specified_table.registering;
  removing = specified_table.removing;
  taking = specified_table.taking;
  adopting = specified_table.adopting;
  receiving = receiving;
  acknowledging = specified_table.acknowledging;
}

-- ---- receiving

-- The rules' receiving, by the pair p, at place k, with a region of `size` bytes from `first` on.
unfoldable pub received_by : Pair → ℕ → ℕ → ℕ → Receiving
received_by p k first size t f memory =
    let r = receive_of p f (region first size memory) in
    record {
      table = with_entry t k (with_pair (place t k) r.pair);
      memory = sets memory first r.memory;
      answer = r.answer;
    }

-- The rules' refusals of the table itself first, then some receiving.
unfoldable pub unless_refused : Receiving → Receiving
unless_refused accept t f memory =
    cond (eqb (table_refusal t f (length memory)) 0) (accept t f memory)
    (record { table = t; memory = memory; answer = refused (table_refusal t f (length memory)) 0 })

-- It looks every source up at the first place. That pair has another peer than the second card, whose frames are all
-- refused.
unfoldable pub looks_first : Receiving
looks_first =
    unless_refused (λ t f memory.
    let e = place t 0 in
    received_by e.pair 0 e.first e.size t f memory)

-- All sources share what the first place's pair has accepted. The second card's frame 0 is answered "again" where the
-- first card's frame 0 came before it.
unfoldable pub shares_pair : Receiving
shares_pair =
    unless_refused (λ t f memory.
    let e = entry_of t (source f) in
    let p = (place t 0).pair in
    received_by (record {
      own = p.own;
      peer = source f;
      next = p.next;
      marks = p.marks;
      lowest = p.lowest;
      closed = p.closed;
      table = p.table;
    }) 0 e.first e.size t f memory)

-- It lends a pair one byte more than its region. A write passes the region's end by one, into the next card's region or
-- into bytes that are no card's.
unfoldable pub lends_one_more : Receiving
lends_one_more =
    unless_refused (λ t f memory.
    let e = entry_of t (source f) in
    received_by e.pair (place_of t.entries (source f)) e.first (suc e.size) t f memory)

-- It counts addresses from memory's first byte. The second card writes over the first card's bytes.
unfoldable pub counts_from_start : Receiving
counts_from_start =
    unless_refused (λ t f memory.
    let e = entry_of t (source f) in
    received_by e.pair (place_of t.entries (source f)) 0 e.size t f memory)

-- ---- registering and removing

-- The rules' registering with some refusal, and a pair.
unfoldable pub registered_as : ℕ → Pair → Table → ℕ → ℕ → ℕ → TableStep
registered_as refusal p t s first size = record {
  table =
      cond (eqb refusal 0)
      (with_entry t (place_of t.entries 0) (record { source = s; first = first; size = size; pair = p }))
      t;
  refusal = refusal;
}

-- It judges overlap by the new region's first byte only: where the rules say 29, it asks for a region of one byte. Two
-- cards can write one byte.
unfoldable pub judges_first_byte : Registering
judges_first_byte t s first size memory =
    let r = register_refusal t s first size memory in
    registered_as (cond (eqb r 29) (register_refusal t s first 1 memory) r) (fresh t.own s) t s first size

-- A removed card leaves its pair at the free place, and a registering of that ID there goes on with it. The new card's
-- frame 0 is answered "again" and is never written.
unfoldable pub leaves_pair : Removing
leaves_pair t s = record {
  table =
      cond (registered t s)
      (with_entry t (place_of t.entries s)
      (record { source = 0; first = 0; size = 0; pair = (entry_of t s).pair }))
      t;
  refusal = cond (registered t s) 0 3;
}

unfoldable pub finds_pair : Registering
finds_pair t s first size memory =
    let p = (entry_of t 0).pair in
    registered_as (register_refusal t s first size memory) (cond (eqb p.peer s) p (fresh t.own s)) t s first size

abbrev pub keeps_pair : TableEnd
keeps_pair = with_registering finds_pair leaves_pair

-- ---- taking and adopting

-- A fresh pair is taken out. A frame that was accepted before is accepted once more.
unfoldable pub takes_fresh : Table → ℕ → TakenOut
takes_fresh t s = record { pair = fresh t.own s; refusal = (take_out t s).refusal }

-- What is adopted begins anew, to the same effect.
unfoldable pub adopts_fresh : Table → Pair → ℕ → ℕ → ℕ → TableStep
adopts_fresh t p first size memory = adopt t (fresh p.own p.peer) first size memory
