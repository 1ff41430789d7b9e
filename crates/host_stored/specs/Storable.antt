-- Which pairs have a text that reads back.
use Rattle.std.specs.Prelude.{ℕ, ◌-◌, ◌%◌, ◌^◌, ◌≤◌, ◌<◌, ◌≡◌, ◌≢◌, ◌⊎◌, true, false, List, length, get_or}
use Rattle.seq.specs.Ring.{advance, frame_space, trans_space}
use Rattle.bitmap.specs.Marks.{mark}
use Rattle.host.specs.declared.Open.{Open}
use Rattle.host.specs.Terms.{free}
use Rattle.host.specs.declared.Pair.{Pair}

-- What the types of the code say of an entry of the table, and of a pair.
pub record TypedOpen (o : Open) : Type 0 where
  pub address-fits : o.address < 2 ^ 32
  pub value-fits : o.value < 2 ^ 32
  pub count_fits : o.count < 2 ^ 16
  pub received-fits : o.received < 2 ^ 16

pub record Typed (p : Pair) : Type 0 where
  pub own-fits : p.own < 2 ^ 16
  pub peer-fits : p.peer < 2 ^ 16
  pub next_fits : p.next.0 < frame_space
  pub marks-fit : p.marks < 2 ^ 64
  pub lowest-fits : p.lowest.0 < trans_space
  pub closed-fits : p.closed < 2 ^ 32
  pub entries : length p.table ≡ 32
  pub opens-fit : (k : ℕ) → TypedOpen (get_or p.table k free)

-- Received is between 1 and count less 1.
pub record Partly (o : Open) : Type 0 where
  pub some-received : 1 ≤ o.received
  pub some-to-come : o.received ≤ o.count - 1

-- The open transactions of a table: every entry is free or holds one that was received in part, and that of a closed
-- transaction is free.
pub record StorableTable (lowest closed : ℕ) (table : List Open) : Type 0 where
  pub each : (k : ℕ) → (get_or table k free ≡ free) ⊎ Partly (get_or table k free)
  pub closed-free : (j : ℕ) → j < 32 → mark closed j ≡ true → get_or table (advance trans_space lowest j % 32) free ≡ free

pub record Storable (p : Pair) : Type 0 where
  pub own-id : p.own ≢ 0
  pub peer-id : p.peer ≢ 0
  pub next-new : mark p.marks 0 ≡ false
  pub lowest-open : mark p.closed 0 ≡ false
  pub opens : StorableTable p.lowest.0 p.closed p.table
