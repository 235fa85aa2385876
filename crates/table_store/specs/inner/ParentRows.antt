-- The parent rows of given rows, as they are looked up: by the numbers that keys have after the rows are
-- given.
use Rattle.std.specs.Prelude.{ℕ, List, [], ◌∷◌, ◌==◌, Option, Some, None, find, if◌then◌else◌}
use Rattle.std.specs.BTreeMap.{BTreeMap, get}
use Rattle.std.specs.List.{filter_map, list_any}
use Rattle.std.specs.Option.{option_map, option_or, option_and_then}
use Rattle.sql_model.specs.KeyOrder.{key_order}
use Rattle.sql_model.specs.References.{has_key, reference}
use Rattle.sql_model.specs.Scope.{is_table, table_at}
use Rattle.table_store.specs.Histories.{StoreHistory, TableHistory, history_of_row, tables_now, version_now}
use Rattle.table_store.specs.Referring.{version_at}
use Rattle.table_store.specs.Stops.{has_number}
use Rattle.table_store.specs.Types.{Foreign, Member, RowKey, Table, TableRow, Value}

-- ---- the number of the row that has a key

abbrev pub number_of_key : Table → List Value → Option ℕ
number_of_key table key = option_map (λ row. row.number) (find (has_key table.schema.key key) table.rows)

-- the last given row that has it
abbrev pub last_row_with : List ℕ → List TableRow → List Value → Option ℕ
last_row_with places [] key = None
last_row_with places (row ∷ rows) key =
    option_or (last_row_with places rows key) (if has_key places key row then Some row.number else None)

-- what a map of given rows has under it
abbrev pub number_in : BTreeMap RowKey ℕ → List Value → Option ℕ
number_in given key = get key_order given (record { values = key })

abbrev pub unless_given : List ℕ → Option ℕ → Option ℕ
unless_given numbers None = None
unless_given numbers (Some number) =
    if list_any (λ given. given == number) numbers then None else Some number

-- the given row, or else the one that isn't given
abbrev pub number_put : (List Value → Option ℕ) → List ℕ → Table → List Value → Option ℕ
number_put given numbers table key = option_or (given key) (unless_given numbers (number_of_key table key))

-- of a parent, which may be the own table
abbrev pub parent_number : (List Value → Option ℕ) → List ℕ → List ℕ → Table → List Value → Option ℕ
parent_number given numbers own parent key =
    if is_table own parent then number_put given numbers parent key else number_of_key parent key

-- where the row stands
abbrev pub if_stands : Table → Option ℕ → Option ℕ
if_stands table None = None
if_stands table (Some number) = if has_number table number then Some number else None

-- ---- the rows at their versions now

abbrev pub member_at : TableHistory → ℕ → Option Member
member_at table number =
    option_map (λ version. record { table = table.name; row = number; version = version })
    (version_now (history_of_row number table.slots))

abbrev pub member_of : TableHistory → Option ℕ → Option Member
member_of table number = option_and_then (member_at table) number

abbrev pub member_now : StoreHistory → List ℕ → ℕ → Member
member_now store name number =
    record { table = name; row = number; version = version_at store name number }

-- the row to which a row refers by a foreign key
abbrev pub parent_in : StoreHistory → (List Value → Option ℕ) → List ℕ → List ℕ → Foreign → Option Table
    → Option (List Value) → Option Member
parent_in store given numbers own foreign None None = None
parent_in store given numbers own foreign None (Some key) = None
parent_in store given numbers own foreign (Some parent) None = None
parent_in store given numbers own foreign (Some parent) (Some key) =
    option_map (member_now store foreign.parent)
    (if_stands parent (parent_number given numbers own parent key))

abbrev pub parent_by : StoreHistory → (List Value → Option ℕ) → List ℕ → List ℕ → List Value → Foreign
    → Option Member
parent_by store given numbers own values foreign =
    parent_in store given numbers own foreign (table_at foreign.parent (tables_now store))
    (reference foreign values)

abbrev pub parents_in_row : StoreHistory → (List Value → Option ℕ) → List ℕ → List ℕ → List Foreign
    → List Value → List Member
parents_in_row store given numbers own foreigns values =
    filter_map (parent_by store given numbers own values) foreigns
