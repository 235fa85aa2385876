-- The rows to which given rows would refer, as they are collected: those that aren't given, which the index
-- finds, and the given ones that have a key which is asked for.
use Rattle.std.specs.Prelude.{ℕ, List, ◌==◌, ◌&&◌, Bool, false, Option, Some, None, find, is_some}
use Rattle.std.specs.Prelude.{if◌then◌else◌}
use Rattle.std.specs.Cmp.Lexicographic.{slice_cmp}
use Rattle.std.specs.List.{list_any}
use Rattle.std.specs.Option.{option_map, option_map_or}
use Rattle.std.specs.Ordering.{is_eq, nat_cmp, ordering_then}
use Rattle.std.specs.declared.cmp.Ordering.{Ordering}
use Rattle.sql_model.specs.Keys.{key_at, same_values}
use Rattle.sql_model.specs.References.{reference}
use Rattle.sql_model.specs.Scope.{is_table, same_text, table_at}
use Rattle.table_store.specs.Histories.{StoreHistory}
use Rattle.table_store.specs.Stops.{has_number}
use Rattle.table_store.specs.Types.{Foreign, Member, RowKey, Table, TableRow, Value}
use Rattle.table_store.specs.inner.ParentRows.{member_now, number_of_key}

-- ---- rows by the names of their tables

-- a table's name and a row's number
abbrev pub RowName : Type 0
RowName = List ℕ × ℕ

abbrev pub name_order : RowName → RowName → Ordering
name_order a b = ordering_then (slice_cmp nat_cmp a.0 b.0) (nat_cmp a.1 b.1)

abbrev pub is_row : RowName → RowName → Bool
is_row name row = is_eq (name_order name row)

-- of an optional number
abbrev pub is_number : List ℕ → RowName → Option ℕ → Bool
is_number table row None = false
is_number table row (Some number) = is_row (table, number) row

-- the row is there
abbrev pub name_stands : List Table → RowName → Bool
name_stands db name = option_map_or (λ table. has_number table name.1) (table_at name.0 db) false

abbrev pub named_now : StoreHistory → RowName → Member
named_now store name = member_now store name.0 name.1

-- ---- given rows

-- the keys of rows by their numbers
abbrev pub KeysPut : Type 0
KeysPut = ℕ → Option RowKey

abbrev pub key_put : List ℕ → List TableRow → KeysPut
key_put places rows number =
    option_map (λ row. key_at places row.values) (find (λ row. row.number == number) rows)

-- ---- keys of the own table to which rows refer

abbrev pub asks_for : List Value → Option (List Value) → Bool
asks_for key None = false
asks_for key (Some wanted) = same_values wanted key

abbrev pub asks : List ℕ → List Value → List Value → Foreign → Bool
asks own values key foreign = same_text foreign.parent own && asks_for key (reference foreign values)

abbrev pub asks_in_row : List ℕ → List Foreign → List Value → List Value → Bool
asks_in_row own foreigns values key = list_any (asks own values key) foreigns

abbrev pub asks_in_rows : List ℕ → List Foreign → List TableRow → List Value → Bool
asks_in_rows own foreigns rows key = list_any (λ row. asks_in_row own foreigns row.values key) rows

-- ---- rows that aren't given

abbrev pub unless_put : KeysPut → Option ℕ → Option ℕ
unless_put put None = None
unless_put put (Some number) = if is_some (put number) then None else Some number

abbrev pub kept_number : KeysPut → List ℕ → Table → List Value → Option ℕ
kept_number put own parent key =
    if is_table own parent then unless_put put (number_of_key parent key) else number_of_key parent key

abbrev pub kept_in : KeysPut → List ℕ → Option Table → Option (List Value) → Option ℕ
kept_in put own None None = None
kept_in put own None (Some key) = None
kept_in put own (Some parent) None = None
kept_in put own (Some parent) (Some key) = kept_number put own parent key

abbrev pub kept_by : KeysPut → List Table → List ℕ → List Value → Foreign → Option ℕ
kept_by put db own values foreign =
    kept_in put own (table_at foreign.parent db) (reference foreign values)

abbrev pub is_kept : KeysPut → List Table → List ℕ → List Value → RowName → Foreign → Bool
is_kept put db own values row foreign = is_number foreign.parent row (kept_by put db own values foreign)

abbrev pub kept_in_row : KeysPut → List Table → List ℕ → List Foreign → List Value → RowName → Bool
kept_in_row put db own foreigns values row = list_any (is_kept put db own values row) foreigns

abbrev pub kept_in_rows : KeysPut → List Table → List ℕ → List Foreign → List TableRow → RowName → Bool
kept_in_rows put db own foreigns rows row =
    list_any (λ given. kept_in_row put db own foreigns given.values row) rows

-- ---- given rows that are asked for

abbrev pub is_asked : (List Value → Bool) → Option RowKey → Bool
is_asked asked None = false
is_asked asked (Some key) = asked key.values

abbrev pub is_put : (List Value → Bool) → KeysPut → Table → ℕ → Bool
is_put asked put own number = has_number own number && is_asked asked (put number)

abbrev pub put_at : (List Value → Bool) → KeysPut → Table → RowName → ℕ → Bool
put_at asked put own row number = is_put asked put own number && is_row (own.name, number) row

abbrev pub put_in_rows : (List Value → Bool) → KeysPut → Table → List TableRow → RowName → Bool
put_in_rows asked put own rows row = list_any (λ given. put_at asked put own row given.number) rows
