-- A table opened anew, and every card of another table adopted there: a restart of the whole table, once its pairs are
-- read back. (Beyond the change request: see the decisions.)
use Rattle.std.specs.Prelude.{ℕ, ◌≡◌, cond, List, [], ◌∷◌, eqb}
use Rattle.table.specs.Table.{Entry, Table, TableStep, open_table}
use Rattle.table.specs.Reachable.{ReachableTable}
use Rattle.table.specs.Adopting.{adopt, SameCards}

-- The cards of some places, adopted in their order up to the first that is refused; free places are passed over.
unfoldable pub adopt_all : Table → List Entry → ℕ → TableStep
adopt_all u [] memory = record { table = u; refusal = 0 }
adopt_all u (e ∷ es) memory =
    let r = adopt u e.pair e.first e.size memory in
    cond (eqb e.source 0) (adopt_all u es memory) (cond (eqb r.refusal 0) (adopt_all r.table es memory) r)

abbrev pub reopened_with : Table → List Entry → ℕ → TableStep
reopened_with t es memory = adopt_all (open_table t.own).table es memory

-- Lent a memory that holds all regions, nothing is refused, and the new table has the same cards.
abbrev pub AllBack : Type 0
AllBack =
    (memory : ℕ) (t : Table) → ReachableTable memory t
    → ((reopened_with t t.entries memory).refusal ≡ 0) × SameCards t (reopened_with t t.entries memory).table
