-- Worked lists: the refusals of registering, removing and receiving, one by one. Assumes nothing.
use Prim.Native.Nat.{ℕ}
use mathlib.Core.Path.{◌≡◌, refl}
use mathlib.Core.List.{List, [], ◌∷◌, ◌++◌, map}
use lib.ListN.{length, replicate}
use Rattle.std.specs.Prelude.{Some}
use Rattle.seq.specs.Ring.{distance, advance}
use Rattle.bitmap.specs.Marks.{mark, with_mark, leading, trailing_ones, marks_of}
use Rattle.octets.specs.Octets.{little, value, field, inside, written}
use Rattle.wire.specs.Format.{message_header, needed, next_header}
use Rattle.wire.specs.Reading.{addressed, follows, message_at, messages_from, heading_of, read_frame}
use Rattle.host.specs.Terms.{agrees, terms_refusal, address_refusal}
use Rattle.host.specs.Transactions.{fills, refused_verdict, closed_verdict, open_verdict, verdict_of, verdict, after}
use Rattle.host.specs.Host.{
  fresh,
  effect,
  take_in,
  take_all,
  settled,
  run_from,
  after_frame,
  accepting,
  by_number,
  receive_of,
  refused,
  acknowledgement_from,
}
use Rattle.wire.specs.Writing.{frame_head, ack_frame}
use Rattle.host.specs.declared.Pair.{Pair}
use Rattle.host.specs.declared.Answer.{Answer}
use Rattle.host.specs.declared.Answer.TheVariants.{Accepted, Again, NoMessages, Refused}
use Rattle.table.specs.Table.{
  Entry,
  Table,
  open_table,
  place_of,
  registered,
  is_full,
  overlaps,
  overlaps_any,
  register_refusal,
  register,
  remove,
  table_refusal,
  received,
  table_receive,
  table_acknowledgement,
}
use Rattle.table.specs.Adopting.{take_out, adopt_refusal, adopt}
use Rattle.table.specs.Reopening.{adopt_all, reopened_with}
use Rattle.table.specs.Calls.{
  Call,
  registers,
  adopts,
  removes,
  comes,
  Site,
  open_site,
  lent_length,
  receiving,
  site_step,
  site_after,
  is_from,
  site_step_for,
  site_after_for,
}

-- The number of a call's refusal; 0 for none, be a frame accepted, again or without messages.
unfoldable pub number_of : Answer → ℕ
number_of (Accepted n sums run) = 0
number_of (Again n run) = 0
number_of NoMessages = 0
number_of (Refused r) = r.number

refusal_of : Site → Call → ℕ
refusal_of w (registers s first size lent) = (register w.table s first size (lent_length w lent)).refusal
refusal_of w (adopts p first size lent) = (adopt w.table p first size (lent_length w lent)).refusal
refusal_of w (removes s) = (remove w.table s).refusal
refusal_of w (comes f lent) = number_of (receiving w f lent).answer

refusals : Site → List Call → List ℕ
refusals w [] = []
refusals w (x ∷ xs) = refusal_of w x ∷ refusals (site_step w x) xs

-- One name that unfolds every definition that the lists below run through.
unfoldable pub computed : Unit {0}
unfolding distance advance mark with_mark leading trailing_ones marks_of little value field inside written message_header
    needed next_header addressed follows message_at messages_from heading_of read_frame agrees terms_refusal address_refusal
    fills refused_verdict closed_verdict open_verdict verdict_of verdict after fresh effect take_in take_all settled run_from
    after_frame accepting by_number receive_of open_table place_of registered is_full overlaps overlaps_any register_refusal
    register remove table_refusal received table_receive site_step_for site_after_for is_from number_of refusal_of refusals
computed = tt

-- Our ID is 1, and the memory has 100 bytes.
abbrev site : Site
site = open_site 1 (replicate 100 0)

-- A header of 10 bytes to an ID, from an ID, with flags; and one message of count 1: completion 7, two bytes of data.
abbrev pub header : ℕ → ℕ → ℕ → List ℕ
header to from flags = to ∷ 0 ∷ from ∷ 0 ∷ 0 ∷ 0 ∷ 0 ∷ 0 ∷ 0 ∷ flags ∷ []

abbrev pub frame : ℕ → ℕ → ℕ → List ℕ
frame from target at =
    header 1 from 1
    ++ 0 ∷ 0 ∷ 0 ∷ 0 ∷ target ∷ 0 ∷ 0 ∷ 0 ∷ 7 ∷ 0 ∷ 0 ∷ 0 ∷ 1 ∷ 0 ∷ 0 ∷ 0 ∷ at ∷ 0 ∷ 0 ∷ 0 ∷ 2 ∷ 0 ∷ 0 ∷ 0
    ∷ 170 ∷ 187 ∷ []

-- Opening: 13 for ID 0, and nothing else is refused.
opening : ((open_table 0).refusal ≡ 13) × ((open_table 1).refusal ≡ 0) × (length (open_table 1).table.entries ≡ 16)
unfolding computed
opening = (refl, refl, refl)

-- Registering: each refusal beside those that come after it.
registering : refusals site
    (registers 2 10 10 100 ∷ registers 0 10 0 0 ∷ registers 2 10 0 0 ∷ registers 3 15 0 100 ∷ registers 3 15 10 24
    ∷ registers 3 19 1 100 ∷ registers 3 0 11 100 ∷ registers 3 20 80 100 ∷ registers 4 0 10 100
    -- removing: the place and the region are free again
    ∷ removes 5 ∷ removes 0 ∷ removes 2 ∷ removes 2 ∷ registers 5 12 4 16 ∷ [])
    ≡ 0 ∷ 13 ∷ 30 ∷ 31 ∷ 31 ∷ 29 ∷ 29 ∷ 0 ∷ 0 ∷ 3 ∷ 3 ∷ 0 ∷ 3 ∷ 0 ∷ []
unfolding computed
registering = refl

-- A refused opening: every registering gets 13, every frame and removal 3.
unopened : refusals (open_site 0 (replicate 100 0)) (registers 2 0 10 100 ∷ removes 2 ∷ comes (header 0 0 0) 100 ∷ [])
    ≡ 13 ∷ 3 ∷ 3 ∷ []
unfolding computed
unopened = refl

-- Sixteen of them, a byte each.
sixteen : List Call
sixteen =
    registers 2 0 1 100 ∷ registers 3 1 1 100 ∷ registers 4 2 1 100 ∷ registers 5 3 1 100 ∷ registers 6 4 1 100
    ∷ registers 7 5 1 100 ∷ registers 8 6 1 100 ∷ registers 9 7 1 100 ∷ registers 10 8 1 100 ∷ registers 11 9 1 100
    ∷ registers 12 10 1 100 ∷ registers 13 11 1 100 ∷ registers 14 12 1 100 ∷ registers 15 13 1 100
    ∷ registers 16 14 1 100 ∷ registers 17 15 1 100 ∷ []

-- A full table still gives the other refusals first; a removed place is used again.
full : refusals (site_after site sixteen)
    (registers 0 0 0 0 ∷ registers 17 0 0 0 ∷ registers 18 99 2 100 ∷ registers 18 15 2 100 ∷ registers 18 16 2 100
    ∷ removes 9 ∷ registers 18 16 2 100 ∷ registers 9 7 1 100 ∷ [])
    ≡ 13 ∷ 30 ∷ 31 ∷ 29 ∷ 28 ∷ 0 ∷ 0 ∷ 28 ∷ []
unfolding computed sixteen
full = refl

-- Receiving, with the region of card 2 at bytes 40 to 59: 3 comes before 31, 31 before 4 and 5; 11 and 12 read against
-- the region, however much memory is lent.
abbrev two : Site
two = site_step site (registers 2 40 20 100)

receivings : refusals two
    (comes (header 1 2 2) 9 ∷ comes (0 ∷ []) 0 ∷ comes (header 2 2 2) 59 ∷ comes (header 1 3 2) 59
    ∷ comes (header 1 2 2) 59
    ∷ comes (header 1 2 2) 60 ∷ comes (header 1 2 1) 60 ∷ comes (frame 2 16 19) 60 ∷ comes (frame 2 17 18) 60
    ∷ comes (frame 2 16 19) 100 ∷ comes (frame 2 17 18) 100
    ∷ comes (frame 2 16 18) 59 ∷ comes (frame 2 16 18) 60 ∷ [])
    ≡ 31 ∷ 1 ∷ 3 ∷ 3 ∷ 31 ∷ 4 ∷ 5 ∷ 11 ∷ 12 ∷ 11 ∷ 12 ∷ 31 ∷ 0 ∷ []
unfolding computed
receivings = refl

-- Addresses count from the region's start: data at 40, completion at 44.
placed : (site_step two (comes (frame 2 4 0) 60)).memory
    ≡ replicate 40 0 ++ 170 ∷ 187 ∷ 0 ∷ 0 ∷ 7 ∷ 0 ∷ 0 ∷ 0 ∷ replicate 52 0
unfolding computed
placed = refl

-- An acknowledgement goes from our ID to the frame's source: three numbers from 5 on.
acknowledged : table_acknowledgement two.table (frame 2 4 0) (Again (record { 0 = 5 }) 3) 0
    ≡ Some (2 ∷ 0 ∷ 1 ∷ 0 ∷ 0 ∷ 0 ∷ 5 ∷ 0 ∷ 3 ∷ 0 ∷ [])
unfolding computed acknowledgement_from ack_frame frame_head
acknowledged = refl

-- A card that registers again begins anew, whatever its first registering left: its first frame is accepted again.
anew : refusals two
    (comes (frame 2 4 0) 60 ∷ removes 2 ∷ comes (frame 2 4 0) 60 ∷ registers 2 40 20 100 ∷ comes (frame 2 4 0) 60 ∷ [])
    ≡ 0 ∷ 0 ∷ 3 ∷ 0 ∷ 0 ∷ []
unfolding computed
anew = refl

beginning : (site_after two (comes (frame 2 4 0) 60 ∷ removes 2 ∷ registers 2 40 20 100 ∷ [])).table ≡ two.table
unfolding computed
beginning = refl

-- A frame that is refused for the table's sake gets its refusal at place 0.
at-place-0 : map (λ (x : List ℕ × ℕ). (receiving two x.0 x.1).answer)
    ((0 ∷ [], 60) ∷ (header 1 3 1, 60) ∷ (header 1 2 1, 59) ∷ [])
    ≡ refused 1 0 ∷ refused 3 0 ∷ refused 31 0 ∷ []
unfolding computed
at-place-0 = refl

-- Taking: a registered source's pair, as its frames left it; 3, and a pair with IDs 0, where it is not registered.
taking : (take_out two.table 2 ≡ record { pair = fresh 1 2; refusal = 0 })
    × (take_out two.table 3 ≡ record { pair = fresh 0 0; refusal = 3 })
    × ((take_out (site_step two (comes (frame 2 4 0) 60)).table 2).pair.next.0 ≡ 1)
unfolding computed take_out
taking = (refl, refl, refl)

-- Adopting: a pair of another host's, a source that is there, an empty region, one outside, one that overlaps; and
-- none.
adopting : map (λ (x : Pair × ℕ × ℕ). adopt_refusal two.table x.0 x.1 x.2 100)
    ((fresh 3 2, 40, 0) ∷ (fresh 1 0, 40, 0) ∷ (fresh 1 2, 40, 0) ∷ (fresh 1 3, 40, 0) ∷ (fresh 1 3, 99, 2)
    ∷ (fresh 1 3, 59, 2) ∷ (fresh 1 3, 60, 2) ∷ [])
    ≡ 13 ∷ 13 ∷ 30 ∷ 31 ∷ 31 ∷ 29 ∷ 0 ∷ []
unfolding computed adopt_refusal
adopting = refl

-- A table opened anew with another's cards: card 3 is at the first place, since card 2 was removed; and nothing of it
-- is adopted where the memory lent ends before its region.
abbrev three : Table
three = (site_after site (registers 2 0 20 100 ∷ registers 3 20 20 100 ∷ removes 2 ∷ [])).table

reopening : ((reopened_with three three.entries 100).refusal ≡ 0)
    × (map (λ (e : Entry). e.source) three.entries ≡ 0 ∷ 3 ∷ replicate 14 0)
    × (map (λ (e : Entry). e.source) (reopened_with three three.entries 100).table.entries
    ≡ 3 ∷ 0 ∷ replicate 14 0)
    × (reopened_with three three.entries 39 ≡ record { table = (open_table 1).table; refusal = 31 })
unfolding computed adopt adopt_refusal adopt_all
reopening = (refl, refl, refl, refl)
