-- References of rows to rows of parents: which changes they refuse, and which parents a change needs.
--
-- The definitions take the tables before and after a change and the rows that it inserts or matches, so that
-- stores can use them too.
use Rattle.std.specs.Prelude.{ℕ, List, [], ◌∷◌, map, filter, length, ◌==◌, Bool, false, not, ◌&&◌, Option}
use Rattle.std.specs.Prelude.{Some, None, if◌then◌else◌, is_none}
use Rattle.std.specs.List.{flat_map, filter_map, list_any, list_all}
use Rattle.sql_model.specs.Types.{Value, Catalog, Foreign, Statement, TheQuery, TheInsert, TheUpdate}
use Rattle.sql_model.specs.Types.{TheDelete, Table, TableRow}
use Rattle.sql_model.specs.Changes.{is_matched, table_after, changed_in, new_rows, had_row, target_of}
use Rattle.sql_model.specs.Keys.{same_values, values_at}
use Rattle.sql_model.specs.Meaning.{is_null}
use Rattle.sql_model.specs.QueryAnswer.{Origin}
use Rattle.sql_model.specs.Scope.{same_text, is_table, table_at, own_scope}

-- ---- references

-- the values by which a row refers, where none of them is NULL
abbrev pub reference : Foreign → List Value → Option (List Value)
reference foreign values =
    if list_any is_null (values_at foreign.columns values) then None
    else Some (values_at foreign.columns values)

abbrev pub has_key : List ℕ → List Value → TableRow → Bool
has_key places key row = same_values (values_at places row.values) key

abbrev pub first_in : {X : Type 0} → List X → Option X
first_in [] = None
first_in (x ∷ xs) = Some x

-- ---- parents that are missing

-- a key to which a row refers and that no row of the parent has
pub record MissingParent : Type 0 where
  pub parent : List ℕ
  pub key : List Value

abbrev pub missing_key : Option Table → Foreign → Option (List Value) → Option MissingParent
missing_key parent foreign None = None
missing_key None foreign (Some key) = Some (record { parent = foreign.parent; key = key })
missing_key (Some parent) foreign (Some key) =
    if list_any (has_key parent.schema.key key) parent.rows then None
    else Some (record { parent = foreign.parent; key = key })

abbrev pub missing_by : List Table → List Value → Foreign → Option MissingParent
missing_by tables values foreign =
    missing_key (table_at foreign.parent tables) foreign (reference foreign values)

-- row by row, and in each in the order of the schema
abbrev pub missing_parents : List Table → List Foreign → List TableRow → List MissingParent
missing_parents tables foreigns rows =
    flat_map (λ row. filter_map (missing_by tables row.values) foreigns) rows

-- a row refers to no key, or to one that a row of the parent has
abbrev pub has_parent : Option Table → Foreign → TableRow → Bool
has_parent parent foreign row = is_none (missing_key parent foreign (reference foreign row.values))

-- each row by one foreign key
abbrev pub all_have_parents : List Table → List TableRow → Foreign → Bool
all_have_parents tables rows foreign = list_all (has_parent (table_at foreign.parent tables) foreign) rows

abbrev pub is_referring : List Table → Table → Bool
is_referring tables table = length (missing_parents tables table.schema.foreign table.rows) == 0

-- each key to which a row refers is one of a row of the parent
abbrev pub references_hold : List Table → Bool
references_hold tables = list_all (is_referring tables) tables

-- ---- children that lose their parent

-- a row of the table had the key before, and none has it after
abbrev pub is_lost : List ℕ → List TableRow → List TableRow → List Value → Bool
is_lost places before after key =
    list_any (has_key places key) before && not (list_any (has_key places key) after)

-- a row that a change leaves as it is, with the foreign keys of its table
pub record Child : Type 0 where
  pub table : List ℕ
  pub foreign : List Foreign
  pub row : TableRow

-- a child row, and the lost key to which it refers
pub record Orphan : Type 0 where
  pub table : List ℕ
  pub row : ℕ
  pub key : List Value

abbrev pub orphan_by : List ℕ → (List Value → Bool) → Child → Foreign → Option (List Value) → Option Orphan
orphan_by target lost child foreign None = None
orphan_by target lost child foreign (Some key) =
    if same_text foreign.parent target && lost key
    then Some (record { table = child.table; row = child.row.number; key = key })
    else None

-- by foreign keys whose parent is the table, in the order of the schema
abbrev pub orphans_of : List ℕ → (List Value → Bool) → Child → List Orphan
orphans_of target lost child =
    filter_map (λ foreign. orphan_by target lost child foreign (reference foreign child.row.values))
    child.foreign

-- the rows of a table without those of the target that a change has
abbrev pub other_rows : (TableRow → Bool) → List ℕ → Table → List TableRow
other_rows has target table =
    if is_table target table then filter (λ row. not (has row)) table.rows else table.rows

abbrev pub child_of : Table → TableRow → Child
child_of table row = record { table = table.name; foreign = table.schema.foreign; row = row }

-- by table and number
abbrev pub children : (TableRow → Bool) → List ℕ → List Table → List Child
children has target db = flat_map (λ table. map (child_of table) (other_rows has target table)) db

-- of a change that has some rows of a table, and makes of this table another
abbrev pub orphans : (TableRow → Bool) → Table → Table → List Table → List Orphan
orphans has before after db =
    flat_map (orphans_of before.name (is_lost before.schema.key before.rows after.rows))
    (children has before.name db)

-- ---- the parent rows of rows

-- those that have the key after a change, and stood before it
abbrev pub parents_in : Option Table → Option Table → Foreign → Option (List Value) → List Origin
parents_in before after foreign None = []
parents_in None after foreign (Some key) = []
parents_in (Some before) None foreign (Some key) = []
parents_in (Some before) (Some after) foreign (Some key) =
    map (λ row. record { table = foreign.parent; row = row.number })
    (filter (λ row. has_key after.schema.key key row && had_row before row) after.rows)

abbrev pub parents_by : List Table → List Table → List Value → Foreign → List Origin
parents_by before after values foreign =
    parents_in (table_at foreign.parent before) (table_at foreign.parent after) foreign
    (reference foreign values)

abbrev pub parents_of : List Table → List Table → List Foreign → List TableRow → List Origin
parents_of before after foreigns rows =
    flat_map (λ row. flat_map (parents_by before after row.values) foreigns) rows

-- ---- of a statement that changes a table

-- the tables after it, whether it is refused or not
abbrev pub tables_after : Statement → Catalog → List Table → List Table
tables_after statement catalog db = changed_in (target_of statement) statement catalog db

-- the first parent that rows lack which it inserts or matches, as they are after it
abbrev pub first_missing_parent : Statement → Catalog → Table → List Table → Option MissingParent
first_missing_parent statement catalog table db = first_in
    (missing_parents (tables_after statement catalog db) table.schema.foreign
    (new_rows statement catalog table))

-- a row that it matches
abbrev pub is_changed : Statement → Catalog → TableRow → Bool
is_changed (TheQuery query) catalog row = false
is_changed (TheInsert insert) catalog row = false
is_changed (TheUpdate update) catalog row = is_matched (own_scope update.table catalog) update.pick row
is_changed (TheDelete delete) catalog row = is_matched (own_scope delete.table catalog) delete.pick row

-- the first other row that loses its parent
abbrev pub first_orphan : Statement → Catalog → Table → List Table → Option Orphan
first_orphan statement catalog table db =
    first_in (orphans (is_changed statement catalog) table (table_after statement catalog table) db)

-- the parent rows of these that stood before
abbrev pub parents_needed : Statement → Catalog → Table → List Table → List Origin
parents_needed statement catalog table db =
    parents_of db (tables_after statement catalog db) table.schema.foreign (new_rows statement catalog table)
