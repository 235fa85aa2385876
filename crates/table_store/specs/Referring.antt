-- The refusals by references between the tables of a store, and the parent rows of given rows.
use Rattle.std.specs.Prelude.{◌≡◌, ℕ, ◌++◌, ◌==◌, Bool, not, List, [], ◌∷◌, map, filter, Option}
use Rattle.std.specs.Prelude.{Some, is_none}
use Rattle.std.specs.Cmp.Lexicographic.{slice_cmp}
use Rattle.std.specs.List.{list_any}
use Rattle.std.specs.Option.{option_map, option_map_or, option_or, option_and_then}
use Rattle.std.specs.Ordering.{nat_cmp, ordering_then}
use Rattle.std.specs.declared.cmp.Ordering.{Ordering}
use Rattle.std.specs.declared.cmp.Ordering.TheVariants.{Less, Equal, Greater}
use Rattle.sql_model.specs.Changes.{key_clash, numbered_rows, had_row, with_rows}
use Rattle.sql_model.specs.QueryAnswer.{Origin}
use Rattle.sql_model.specs.References.{MissingParent, Orphan, first_in, missing_parents, orphans, parents_of}
use Rattle.table_store.specs.Histories.{StoreHistory, tables_now, history_at, history_of_row, version_now}
use Rattle.table_store.specs.Stops.{insert_stop, replace_stop, is_among, replaced_by}
use Rattle.table_store.specs.Stops.{with_inserted, with_replaced, with_removed, with_changed}
use Rattle.table_store.specs.Types.{Foreign, Member, Table, TableRow, Value}
use Rattle.table_store.specs.declared.error.StoreStop.{StoreStop}
use Rattle.table_store.specs.declared.error.StoreStop.TheVariants.{NoParent, HasChild}

-- ---- what refuses a change

abbrev pub parent_stop : MissingParent → StoreStop
parent_stop missing = NoParent missing.parent missing.key

abbrev pub child_stop : Orphan → StoreStop
child_stop orphan = HasChild orphan.table orphan.row orphan.key

-- the first parent that given rows lack in the tables afterwards
abbrev pub missing_stop : List Foreign → List TableRow → List Table → Option StoreStop
missing_stop foreigns rows after = option_map parent_stop (first_in (missing_parents after foreigns rows))

-- the first row that isn't given and loses its parent, where a table becomes another
abbrev pub orphan_stop : (TableRow → Bool) → Table → Table → List Table → Option StoreStop
orphan_stop is_given before after db = option_map child_stop (first_in (orphans is_given before after db))

-- a row has the number of one of others
abbrev pub is_of : List TableRow → TableRow → Bool
is_of rows row = list_any (λ given. given.number == row.number) rows

-- what refuses new rows of a table among others: first what they refuse by their own table
abbrev pub insert_refusal : List (List Value) → List Table → Table → Option StoreStop
insert_refusal rows db table =
    option_or (insert_stop rows table)
    (missing_stop table.schema.foreign (numbered_rows table.next rows)
    (with_changed table.name (with_inserted rows) db))

-- what refuses new values of rows
abbrev pub replace_refusal : List TableRow → List Table → Table → Option StoreStop
replace_refusal rows db table =
    option_or (replace_stop rows table)
    (option_or
    (missing_stop table.schema.foreign rows (with_changed table.name (with_replaced rows) db))
    (orphan_stop (is_of rows) table (with_replaced rows table) db))

-- what refuses to drop rows
abbrev pub delete_refusal : List ℕ → List Table → Table → Option StoreStop
delete_refusal numbers db table =
    orphan_stop (is_among numbers) table (with_removed numbers table) db

-- ---- the parent rows of given rows

-- the table with rows in place of those of their numbers, and with those that are new
abbrev pub with_put : List TableRow → Table → Table
with_put rows table =
    with_rows table (map (replaced_by rows) table.rows ++ filter (λ row. not (had_row table row)) rows)
    table.next

-- those that had their key before
abbrev pub parents_in_db : List TableRow → List Table → Table → List Origin
parents_in_db rows db table =
    parents_of db (with_changed table.name (with_put rows) db) table.schema.foreign rows

-- the version of a row now; 0 where it doesn't stand
abbrev pub version_at : StoreHistory → List ℕ → ℕ → ℕ
version_at store name number =
    option_map_or (λ version. version)
    (option_and_then (λ history. version_now (history_of_row number history.slots)) (history_at name store)) 0

abbrev pub origin_now : StoreHistory → Origin → Member
origin_now store origin =
    record { table = origin.table; row = origin.row; version = version_at store origin.table origin.row }

-- a row that stands, at its version now
abbrev pub IsAtVersion : StoreHistory → Member → Type 0
IsAtVersion store member =
    option_and_then (λ history. version_now (history_of_row member.row history.slots))
    (history_at member.table store)
    ≡ Some member.version

-- row by row, and in each by the foreign keys in their order, at their versions now
abbrev pub parents_now : StoreHistory → List TableRow → Table → List Member
parents_now store rows table = map (origin_now store) (parents_in_db rows (tables_now store) table)

-- no two rows have one key once rows are put
abbrev pub are_apart : List TableRow → Table → Bool
are_apart rows table = is_none (key_clash (with_put rows table))

-- ---- the parent rows in order, each once

-- by the bytes of the table's name, then by the row's number
abbrev pub origin_order : Origin → Origin → Ordering
origin_order a b = ordering_then (slice_cmp nat_cmp a.table b.table) (nat_cmp a.row b.row)

-- a row before the first of others, which are in order, or the same as it, or among the rest
abbrev pub placed_by : Ordering → Origin → Origin → List Origin → List Origin → List Origin
placed_by Less origin first rest more = origin ∷ first ∷ rest
placed_by Equal origin first rest more = first ∷ rest
placed_by Greater origin first rest more = first ∷ more

abbrev pub with_origin : Origin → List Origin → List Origin
with_origin origin [] = origin ∷ []
with_origin origin (first ∷ rest) =
    placed_by (origin_order origin first) origin first rest (with_origin origin rest)

abbrev pub in_order : List Origin → List Origin
in_order [] = []
in_order (origin ∷ origins) = with_origin origin (in_order origins)

-- all rows that have a key, once rows are put, to which one of these refers, at their versions now
abbrev pub parents_in_order : StoreHistory → List TableRow → Table → List Member
parents_in_order store rows table =
    map (origin_now store) (in_order (parents_in_db rows (tables_now store) table))
