-- Lists of calls on one table over one memory. Each call is lent the front part of the memory, of the length that it
-- names. The table's calls are a parameter.
use Rattle.std.specs.Prelude.{ℕ, ◌^◌, ◌<◌, Bool, true, false, cond, not, ◌&&◌, List, [], ◌∷◌, ◌++◌, eqb, leb, length, take, drop}
use Rattle.octets.specs.Octets.{Bytes}
use Rattle.wire.specs.Reading.{source}
use Rattle.host.specs.declared.Answer.{Answer}
use Rattle.host.specs.declared.Pair.{Pair}
use Rattle.host.specs.Reachable.{Reachable}
use Rattle.table.specs.Table.{Table, TableReceived}
use Rattle.table.specs.TableEnd.{TableEnd, specified_table}

pub data Call : Type 0 where
  -- register: source, first byte and length of its region, length of the memory lent
  registers : ℕ → ℕ → ℕ → ℕ → Call
  -- adopt a host's pair: the pair, first byte and length of its region, length of the memory lent
  adopts : Pair → ℕ → ℕ → ℕ → Call
  -- remove: source
  removes : ℕ → Call
  -- a frame comes: its bytes, any at all, and the length of the memory lent
  comes : List ℕ → ℕ → Call

-- The table and the whole memory.
pub record Site : Type 0 where
  pub table : Table
  pub memory : List ℕ

abbrev pub open_site_for : TableEnd → ℕ → List ℕ → Site
open_site_for e own memory = record { table = (e.opening own).table; memory = memory }

abbrev pub lent_length : Site → ℕ → ℕ
lent_length w lent = length (take lent w.memory)

abbrev pub receiving_for : TableEnd → Site → List ℕ → ℕ → TableReceived
receiving_for e w f lent = e.receiving w.table f (take lent w.memory)

unfoldable pub site_step_for : TableEnd → Site → Call → Site
site_step_for e w (registers s first size lent) =
    record { table = (e.registering w.table s first size (lent_length w lent)).table; memory = w.memory }
site_step_for e w (adopts p first size lent) =
    record { table = (e.adopting w.table p first size (lent_length w lent)).table; memory = w.memory }
site_step_for e w (removes s) = record { table = (e.removing w.table s).table; memory = w.memory }
site_step_for e w (comes f lent) =
    let r = receiving_for e w f lent in
    record { table = r.table; memory = r.memory ++ drop lent w.memory }

unfoldable pub site_after_for : TableEnd → Site → List Call → Site
site_after_for e w [] = w
site_after_for e w (x ∷ xs) = site_after_for e (site_step_for e w x) xs

-- A card's frames are those with its source, also while it is not registered. A frame too short to have a source is
-- nobody's.
unfoldable pub is_from : ℕ → List ℕ → Bool
is_from s f = leb 4 (length f) && eqb (source f) s

-- What a call hands back to its caller: the refusal of a registering, an adopting or a removal, 0 for none, or the
-- answer to a frame.
pub data Told : Type 0 where
  refusing : ℕ → Told
  answering : Answer → Told

-- What concerns one card: the answers to its frames, and the refusals of all registerings, adoptings and removals, in
-- their order.
unfoldable pub told_to_for : TableEnd → ℕ → Site → List Call → List Told
told_to_for e s w [] = []
told_to_for e s w (registers r first size lent ∷ xs) =
    refusing (e.registering w.table r first size (lent_length w lent)).refusal
    ∷ told_to_for e s (site_step_for e w (registers r first size lent)) xs
told_to_for e s w (adopts p first size lent ∷ xs) =
    refusing (e.adopting w.table p first size (lent_length w lent)).refusal
    ∷ told_to_for e s (site_step_for e w (adopts p first size lent)) xs
told_to_for e s w (removes r ∷ xs) =
    refusing (e.removing w.table r).refusal ∷ told_to_for e s (site_step_for e w (removes r)) xs
told_to_for e s w (comes f lent ∷ xs) =
    cond (is_from s f) (answering (receiving_for e w f lent).answer ∷ told_to_for e s (site_step_for e w (comes f lent)) xs)
    (told_to_for e s (site_step_for e w (comes f lent)) xs)

-- Whether a call removes s, and whether none of a list does.
unfoldable pub is_removal : ℕ → Call → Bool
is_removal s (registers r first size lent) = false
is_removal s (adopts p first size lent) = false
is_removal s (removes r) = eqb r s
is_removal s (comes f lent) = false

unfoldable pub keeps_registered : ℕ → List Call → Bool
keeps_registered s [] = true
keeps_registered s (x ∷ xs) = not (is_removal s x) && keeps_registered s xs

-- Calls with arguments of their types: 16-bit IDs, frames of bytes, and pairs as the host's own rules leave them.
abbrev pub TypedCall : Call → Type 0
TypedCall (registers s first size lent) = s < 2 ^ 16
TypedCall (adopts p first size lent) = Reachable p
TypedCall (removes s) = Unit {0}
TypedCall (comes f lent) = Bytes f

abbrev pub TypedCalls : List Call → Type 0
TypedCalls [] = Unit {0}
TypedCalls (x ∷ xs) = TypedCall x × TypedCalls xs

-- ---- the rules' table

abbrev pub open_site : ℕ → List ℕ → Site
open_site = open_site_for specified_table

abbrev pub receiving : Site → List ℕ → ℕ → TableReceived
receiving = receiving_for specified_table

abbrev pub site_step : Site → Call → Site
site_step = site_step_for specified_table

abbrev pub site_after : Site → List Call → Site
site_after = site_after_for specified_table

abbrev pub told_to : ℕ → Site → List Call → List Told
told_to = told_to_for specified_table
