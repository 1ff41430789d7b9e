-- A restart of the whole table, through text: each card's pair is taken out and stored, the table is opened anew, and
-- each text is read and its pair adopted with the card's region.
use Rattle.std.specs.Prelude.{ℕ, ◌^◌, ◌<◌, ◌≡◌, true, List, map, length}
use Rattle.delivery_restarts.specs.Restarts.{Store, text_left, specified_store}
use Rattle.table.specs.Table.{Entry, Table, registered, with_pair}
use Rattle.table.specs.Reachable.{ReachableTable, PairsReachable}
use Rattle.table.specs.Adopting.{take_out, SameCards}
use Rattle.table.specs.Reopening.{reopened_with}
use Rattle.table.specs.Calls.{Call, open_site, TypedCalls, site_after}

-- A card of a table, with the pair that reading its text hands back.
unfoldable pub through_text : Store → Table → List ℕ → Entry → Entry
through_text s t buffer e = with_pair e (s.restoring (text_left s (take_out t e.source).pair buffer)).pair

-- Each source has a buffer of its own. Where no storing is refused, and the memory lent holds all regions, no adopting
-- is refused, and the new table has the same cards.
abbrev pub WholeTableFor : Store → Type 0
WholeTableFor s =
    (memory : ℕ) (t : Table) (buffers : ℕ → List ℕ) → ReachableTable memory t → PairsReachable t
    → ((x : ℕ) → registered t x ≡ true → (s.storing (take_out t x).pair (buffers x)).refusal ≡ 0)
    → let es = map (λ e. through_text s t (buffers e.source) e) t.entries in
    ((reopened_with t es memory).refusal ≡ 0) × SameCards t (reopened_with t es memory).table

abbrev pub WholeTable : Type 0
WholeTable = WholeTableFor specified_store

-- So after any calls with arguments of their types, at a host with our ID, over one memory.
abbrev pub WholeTableAfter : Type 0
WholeTableAfter =
    (own : ℕ) (memory : List ℕ) (xs : List Call) (buffers : ℕ → List ℕ) → own < 2 ^ 16 → TypedCalls xs
    → let t = (site_after (open_site own memory) xs).table in
    ((x : ℕ) → registered t x ≡ true → (specified_store.storing (take_out t x).pair (buffers x)).refusal ≡ 0)
    → let r = reopened_with t (map (λ e. through_text specified_store t (buffers e.source) e) t.entries)
    (length memory) in
    (r.refusal ≡ 0) × SameCards t r.table
