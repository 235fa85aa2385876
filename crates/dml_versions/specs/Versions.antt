-- The versions of a store's rows, as the meaning of statements has them: the number of accepted UPDATEs that
-- matched a row.
use Rattle.std.specs.Prelude.{ℕ, ◌-◌, List, Option, Some, None, if◌then◌else◌, is_some}
use Rattle.row_version.specs.History.{Change, current_values, version}
use Rattle.sql_model.specs.Needs.{Versions}
use Rattle.table_store.specs.Histories.{history_of_row, history_at}
use Rattle.dml_versions.specs.Types.{RowHistory, StoreHistory, TableHistory}

-- how often a row has changed, its deletion left out
abbrev pub updates : List Change → ℕ
updates changes = if is_some (current_values changes) then version changes else version changes - 1

abbrev pub updates_of : Option RowHistory → ℕ
updates_of None = 0
updates_of (Some row) = updates row.changes

abbrev pub updates_in : ℕ → Option TableHistory → ℕ
updates_in number None = 0
updates_in number (Some table) = updates_of (history_of_row number table.slots)

-- the versions of a store's rows, by the table's name and the row's number
abbrev pub versions_now : StoreHistory → Versions
versions_now store = λ table number. updates_in number (history_at table store)
