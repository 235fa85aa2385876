-- The tables after rows of one of them are given, as new rows or as other values of rows: the parents that
-- are missing then, and the keys that are lost.
use Rattle.std.specs.Prelude.{ℕ, List, ◌&&◌, ◌||◌, ◌==◌, Bool, true, not, length, Option, Some}
use Rattle.std.specs.Prelude.{None, if◌then◌else◌}
use Rattle.std.specs.BTreeSet.{BTreeSet, contains}
use Rattle.std.specs.List.{list_any}
use Rattle.std.specs.Option.{option_map_or, option_and_then}
use Rattle.ldv_value.specs.Options.{first_some}
use Rattle.sql_model.specs.KeyOrder.{key_order}
use Rattle.sql_model.specs.Keys.{same_values, values_at}
use Rattle.sql_model.specs.References.{MissingParent, Orphan, reference, has_key, child_of, orphan_by}
use Rattle.sql_model.specs.Scope.{is_table, same_text, table_at}
use Rattle.table_store.specs.Histories.{RowHistory, TableHistory, row_now, table_now}
use Rattle.table_store.specs.Stops.{is_among}
use Rattle.table_store.specs.Types.{Foreign, RowKey, Table, TableRow, Value}

-- values have a key at some places
abbrev pub has_values : List ℕ → List Value → List Value → Bool
has_values places key values = same_values (values_at places values) key

-- a key is in a set
abbrev pub in_set : BTreeSet RowKey → List Value → Bool
in_set keys key = contains key_order keys (record { values = key })

-- ---- parents

-- a row of none of the numbers has the key
abbrev pub keeps : List ℕ → Table → List Value → Bool
keeps numbers table key =
    list_any (λ row. has_key table.schema.key key row && not (is_among numbers row)) table.rows

-- a row of a parent has the key then: of the own table a given one, or one that isn't given
abbrev pub has_put : (List Value → Bool) → List ℕ → List ℕ → Table → List Value → Bool
has_put given numbers own parent key =
    if is_table own parent then given key || keeps numbers parent key
    else list_any (has_key parent.schema.key key) parent.rows

abbrev pub put_missing : (Table → List Value → Bool) → Option Table → Foreign → Option (List Value)
    → Option MissingParent
put_missing has parent foreign None = None
put_missing has None foreign (Some key) = Some (record { parent = foreign.parent; key = key })
put_missing has (Some parent) foreign (Some key) =
    if has parent key then None else Some (record { parent = foreign.parent; key = key })

abbrev pub missing_put : (Table → List Value → Bool) → List Table
    → List Value → Foreign → Option MissingParent
missing_put has db values foreign =
    put_missing has (table_at foreign.parent db) foreign (reference foreign values)

abbrev pub missing_in_row : (Table → List Value → Bool) → List Table → List Foreign → List Value
    → Option MissingParent
missing_in_row has db foreigns values = first_some (missing_put has db values) foreigns

abbrev pub missing_in_rows : (Table → List Value → Bool) → List Table → List Foreign → List (List Value)
    → Option MissingParent
missing_in_rows has db foreigns rows = first_some (missing_in_row has db foreigns) rows

-- the parent of a foreign key, where it is there, has a key
abbrev pub is_keyed : List Table → Foreign → Bool
is_keyed db foreign =
    option_map_or (λ parent. not (length parent.schema.key == 0)) (table_at foreign.parent db) true

-- ---- children

-- a foreign key of a table has the table of a name for its parent
abbrev pub refers_to : List ℕ → Table → Bool
refers_to target table = list_any (λ foreign. same_text foreign.parent target) table.schema.foreign

-- the row of one of the numbers had the key, and no given row has it
abbrev pub loses : (List Value → Bool) → List ℕ → Table → List Value → Bool
loses given numbers table key =
    list_any (λ row. is_among numbers row && has_key table.schema.key key row) table.rows && not (given key)

-- the first foreign key by which a row refers to a lost key
abbrev pub orphan_in_row : List ℕ → (List Value → Bool) → Table → TableRow → Option Orphan
orphan_in_row target lost table row =
    first_some (λ foreign. orphan_by target lost (child_of table row) foreign (reference foreign row.values))
    table.schema.foreign

-- a row that isn't given
abbrev pub is_other : (TableRow → Bool) → List ℕ → Table → TableRow → Bool
is_other has target table row = not (is_table target table && has row)

abbrev pub orphan_in_other : (TableRow → Bool) → List ℕ → (List Value → Bool) → Table → TableRow
    → Option Orphan
orphan_in_other has target lost table row =
    if is_other has target table row then orphan_in_row target lost table row else None

abbrev pub orphan_in_slot : (TableRow → Bool) → List ℕ → (List Value → Bool) → Table → RowHistory
    → Option Orphan
orphan_in_slot has target lost table slot =
    option_and_then (orphan_in_other has target lost table) (row_now slot)

-- the first child of a table that is lost
abbrev pub orphan_in_table : (TableRow → Bool) → List ℕ → (List Value → Bool) → TableHistory
    → Option Orphan
orphan_in_table has target lost table =
    first_some (orphan_in_slot has target lost (table_now table)) table.slots

abbrev pub orphan_in_tables : (TableRow → Bool) → List ℕ → (List Value → Bool) → List TableHistory
    → Option Orphan
orphan_in_tables has target lost tables = first_some (orphan_in_table has target lost) tables
