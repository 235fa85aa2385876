-- The refusals that depend only on the statement and the schemas: those for a wrong table, column or kind.
--
-- The three are tried in this order, each over the whole statement.
use Rattle.std.specs.Prelude.{ℕ, List, [], ◌∷◌, ◌++◌, map, find, filter, zip, length, Bool, true, false, not}
use Rattle.std.specs.Prelude.{◌&&◌, ◌||◌, ◌==◌, nat_le, if◌then◌else◌, Option, Some, None, is_none, is_some}
use Rattle.std.specs.Prelude.{option_map, option_and_then, option_to_list, unwrap_or, pos, negsuc}
use Rattle.std.specs.List.{flat_map, list_any, list_all, range_with_len}
use Rattle.sql_model.specs.Types.{Value, Null, Int, Text, Catalog, ColumnName, Expr, Kind, IntKind, TextKind}
use Rattle.sql_model.specs.Types.{AnyKind, TruthKind, SqlRefusal, NoTable, NoColumn, TypeClash, Core, Delete}
use Rattle.sql_model.specs.Types.{Insert, Item, OrderKey, Name, Place, Query, Set, Update, Statement}
use Rattle.sql_model.specs.Types.{TheQuery, TheInsert, TheUpdate, TheDelete, Column}
use Rattle.sql_model.specs.Kinds.{kind_of_column, is_logical, are_comparable, row_kind, group_kind, is_condition}
use Rattle.sql_model.specs.Kinds.{names_in, outer_names, has_aggregate, count_use_of, own_name}
use Rattle.sql_model.specs.Keys.{repeats}
use Rattle.sql_model.specs.Scope.{InScope, same_text, schema_at, columns_of, is_column, has_column, scope_of}
use Rattle.sql_model.specs.Scope.{own_scope, resolves, places_in}

-- ---- parts of statements

abbrev pub tables_of_core : Core → List (List ℕ)
tables_of_core core = map (λ item. item.table) core.from

-- the tables that a statement names, in the order of the text
abbrev pub tables_of : Statement → List (List ℕ)
tables_of (TheQuery query) = flat_map tables_of_core query.cores
tables_of (TheInsert insert) = insert.table ∷ []
tables_of (TheUpdate update) = update.table ∷ []
tables_of (TheDelete delete) = delete.table ∷ []

abbrev pub cores_of : Statement → List Core
cores_of (TheQuery query) = query.cores
cores_of (TheInsert insert) = []
cores_of (TheUpdate update) = []
cores_of (TheDelete delete) = []

-- the items that are written; `*` is none
abbrev pub items_of : Core → List Item
items_of core = unwrap_or core.items []

-- it has GROUP BY, HAVING, or an aggregate in an item
abbrev pub groups : Core → Bool
groups core =
    not (length core.group == 0)
    || (is_some core.having || list_any (λ item. has_aggregate item.expr) (items_of core))

abbrev pub names_of_items : List Item → List ColumnName
names_of_items items = flat_map (λ item. names_in item.expr) items

-- the column names of a core: those of the items, of ON and WHERE, of GROUP BY and of HAVING
abbrev pub core_names : Core → List ColumnName
core_names core =
    names_of_items (items_of core)
    ++ (flat_map names_in core.picks ++ (core.group ++ flat_map names_in (option_to_list core.having)))

-- those of an UPDATE or DELETE
abbrev pub update_names : Update → List ColumnName
update_names update =
    flat_map (λ set. names_in set.expr) update.sets ++ flat_map names_in (option_to_list update.pick)

abbrev pub delete_names : Delete → List ColumnName
delete_names delete = flat_map names_in (option_to_list delete.pick)

abbrev pub insert_names : Insert → List ColumnName
insert_names insert = flat_map (flat_map names_in) insert.rows

-- ---- code 2

abbrev pub is_missing : Catalog → List ℕ → Bool
is_missing catalog name = is_none (schema_at name catalog)

-- two sources of one core have the same name
abbrev pub doubles_source : Core → Bool
doubles_source core = repeats same_text (map (λ item. item.name) core.from)

abbrev pub lacks_table : Statement → Catalog → Bool
lacks_table statement catalog =
    list_any (is_missing catalog) (tables_of statement) || list_any doubles_source (cores_of statement)

-- ---- code 3

-- a name means no column, or more than one
abbrev pub has_unresolved_name : List InScope → List ColumnName → Bool
has_unresolved_name scope names = not (list_all (resolves scope) names)

-- the places of the columns that stand outside aggregates in the items, `*` being all columns
abbrev pub item_places : List InScope → Option (List Item) → List ℕ
item_places scope None = range_with_len 0 (length scope)
item_places scope (Some items) = places_in scope (flat_map (λ item. outer_names item.expr) items)

abbrev pub having_places : List InScope → Option Expr → List ℕ
having_places scope having = places_in scope (flat_map outer_names (option_to_list having))

-- a place is that of a GROUP BY column
abbrev pub is_grouped : List InScope → Core → ℕ → Bool
is_grouped scope core place = list_any (λ p. p == place) (places_in scope core.group)

-- in a core that groups, a column outside aggregates isn't in GROUP BY
abbrev pub has_ungrouped_column : List InScope → Core → Bool
has_ungrouped_column scope core =
    groups core
    && not (list_all (is_grouped scope core)
    (item_places scope core.items ++ having_places scope core.having))

abbrev pub lacks_in_scope : List InScope → Core → Bool
lacks_in_scope scope core = has_unresolved_name scope (core_names core) || has_ungrouped_column scope core

abbrev pub core_lacks_column : Catalog → Core → Bool
core_lacks_column catalog core = lacks_in_scope (scope_of core.from catalog) core

-- the AS name, or the name of an item that is a column
abbrev pub item_name : Option (List ℕ) → Expr → Option (List ℕ)
item_name (Some name) expr = Some name
item_name None expr = own_name expr

abbrev pub item_columns : List InScope → Option (List Item) → List (Option (List ℕ))
item_columns scope None = map (λ entry. Some entry.column.name) scope
item_columns scope (Some items) = map (λ item. item_name item.name item.expr) items

-- the names of the answer columns, which are those of the first core
abbrev pub answer_columns : Catalog → List Core → List (Option (List ℕ))
answer_columns catalog [] = []
answer_columns catalog (core ∷ cores) = item_columns (scope_of core.from catalog) core.items

abbrev pub has_name : List ℕ → Option (List ℕ) → Bool
has_name name None = false
has_name name (Some title) = same_text title name

-- the name of exactly one answer column, or the number of one
abbrev pub is_order_key : List (Option (List ℕ)) → OrderKey → Bool
is_order_key titles (Name name) = length (filter (has_name name) titles) == 1
is_order_key titles (Place place) = nat_le 1 place && nat_le place (length titles)

abbrev pub query_lacks_column : Query → Catalog → Bool
query_lacks_column query catalog =
    list_any (core_lacks_column catalog) query.cores
    || not (list_all (λ order. is_order_key (answer_columns catalog query.cores) order.key) query.order)

-- VALUES has no scope
abbrev pub insert_lacks_column : Insert → List Column → Bool
insert_lacks_column insert columns =
    not (list_all (has_column columns) (unwrap_or insert.columns []))
    || has_unresolved_name [] (insert_names insert)

abbrev pub update_lacks_column : Update → List Column → List InScope → Bool
update_lacks_column update columns scope =
    not (list_all (λ set. has_column columns set.column) update.sets)
    || has_unresolved_name scope (update_names update)

abbrev pub lacks_column : Statement → Catalog → Bool
lacks_column (TheQuery query) catalog = query_lacks_column query catalog
lacks_column (TheInsert insert) catalog =
    insert_lacks_column insert (columns_of (schema_at insert.table catalog))
lacks_column (TheUpdate update) catalog =
    update_lacks_column update (columns_of (schema_at update.table catalog)) (own_scope update.table catalog)
lacks_column (TheDelete delete) catalog = has_unresolved_name
    (own_scope delete.table catalog) (delete_names delete)

-- ---- code 4

abbrev pub is_pick : List InScope → Expr → Bool
is_pick scope expr = is_condition (row_kind scope expr)

abbrev pub is_having : List InScope → Expr → Bool
is_having scope expr = is_condition (group_kind scope expr)

-- a COUNT, or a SUM whose argument names no column
abbrev pub counts : Expr → Bool
counts expr = (count_use_of expr).counts_rows

-- where there is more than one source, neither is allowed
abbrev pub counts_joined : Core → Bool
counts_joined core =
    nat_le 2 (length core.from)
    && (list_any (λ item. counts item.expr) (items_of core)
    || list_any counts (option_to_list core.having))

abbrev pub conditions_fit : List InScope → Core → Bool
conditions_fit scope core =
    list_all (is_pick scope) core.picks
    && (list_all (is_having scope) (option_to_list core.having) && not (counts_joined core))

-- of a value that is in an answer, stored or inserted
abbrev pub kind_of_item : Option Kind → Option Kind
kind_of_item None = None
kind_of_item (Some k) = if is_logical k then None else Some k

-- the kinds of all items, or none where one clashes
abbrev pub kinds_of_items : List InScope → List Item → Option (List Kind)
kinds_of_items scope [] = Some []
kinds_of_items scope (item ∷ items) =
    option_and_then (λ k. option_map (λ ks. k ∷ ks) (kinds_of_items scope items))
    (kind_of_item (group_kind scope item.expr))

abbrev pub item_kinds : List InScope → Option (List Item) → Option (List Kind)
item_kinds scope None = Some (map (λ entry. kind_of_column entry.column) scope)
item_kinds scope (Some items) = kinds_of_items scope items

abbrev pub kinds_in_scope : List InScope → Core → Option (List Kind)
kinds_in_scope scope core = if conditions_fit scope core then item_kinds scope core.items else None

-- the kinds of a core's columns, or none where it clashes
abbrev pub core_kinds : Catalog → Core → Option (List Kind)
core_kinds catalog core = kinds_in_scope (scope_of core.from catalog) core

-- ANY beside another kind gives the other
abbrev pub union_kind : Kind → Kind → Option Kind
union_kind AnyKind b = Some b
union_kind IntKind AnyKind = Some IntKind
union_kind IntKind IntKind = Some IntKind
union_kind IntKind TextKind = None
union_kind IntKind TruthKind = None
union_kind TextKind AnyKind = Some TextKind
union_kind TextKind IntKind = None
union_kind TextKind TextKind = Some TextKind
union_kind TextKind TruthKind = None
union_kind TruthKind b = None

-- column by column; None where the numbers of columns differ
abbrev pub union_kinds : List Kind → List Kind → Option (List Kind)
union_kinds [] [] = Some []
union_kinds [] (b ∷ bs) = None
union_kinds (a ∷ as_) [] = None
union_kinds (a ∷ as_) (b ∷ bs) =
    option_and_then (λ k. option_map (λ ks. k ∷ ks) (union_kinds as_ bs)) (union_kind a b)

abbrev pub kinds_after : Catalog → Option (List Kind) → List Core → Option (List Kind)
kinds_after catalog kinds [] = kinds
kinds_after catalog kinds (core ∷ cores) =
    kinds_after catalog
    (option_and_then (λ ks. option_and_then (union_kinds ks) (core_kinds catalog core)) kinds) cores

-- the kinds of a query's columns, its cores taken from the left, or none where it clashes
abbrev pub query_kinds : Catalog → List Core → Option (List Kind)
query_kinds catalog [] = Some []
query_kinds catalog (core ∷ cores) = kinds_after catalog (core_kinds catalog core) cores

-- LIMIT is a number of at least 0
abbrev pub is_limit : Option Value → Bool
is_limit None = true
is_limit (Some Null) = false
is_limit (Some (Int (pos n))) = true
is_limit (Some (Int (negsuc n))) = false
is_limit (Some (Text t)) = false

abbrev pub query_clashes : Query → Catalog → Bool
query_clashes query catalog = is_none (query_kinds catalog query.cores) || not (is_limit query.limit)

abbrev pub takes : Column → Option Kind → Bool
takes column None = false
takes column (Some k) = are_comparable (kind_of_column column) k

abbrev pub takes_value : Column × Expr → Bool
takes_value pair = takes pair.0 (row_kind [] pair.1)

-- a value for each column, of the column's kind
abbrev pub row_fits : List Column → List Expr → Bool
row_fits columns exprs = length exprs == length columns && list_all takes_value (zip columns exprs)

-- the columns of the names
abbrev pub columns_named : List Column → List (List ℕ) → List Column
columns_named columns names = flat_map (λ name. option_to_list (find (is_column name) columns)) names

-- the columns that an INSERT gives values for
abbrev pub target_columns : Option (List (List ℕ)) → List Column → List Column
target_columns None columns = columns
target_columns (Some names) columns = columns_named columns names

abbrev pub insert_clashes : Insert → List Column → Bool
insert_clashes insert columns =
    repeats same_text (unwrap_or insert.columns [])
    || not (list_all (row_fits (target_columns insert.columns columns)) insert.rows)

abbrev pub takes_set : Option Column → Option Kind → Bool
takes_set None k = false
takes_set (Some column) k = takes column k

abbrev pub set_fits : List Column → List InScope → Set → Bool
set_fits columns scope set = takes_set (find (is_column set.column) columns) (row_kind scope set.expr)

abbrev pub pick_fits : List InScope → Option Expr → Bool
pick_fits scope pick = list_all (is_pick scope) (option_to_list pick)

abbrev pub update_clashes : Update → List Column → List InScope → Bool
update_clashes update columns scope =
    repeats same_text (map (λ set. set.column) update.sets)
    || not (list_all (set_fits columns scope) update.sets && pick_fits scope update.pick)

abbrev pub clashes : Statement → Catalog → Bool
clashes (TheQuery query) catalog = query_clashes query catalog
clashes (TheInsert insert) catalog = insert_clashes insert (columns_of (schema_at insert.table catalog))
clashes (TheUpdate update) catalog =
    update_clashes update (columns_of (schema_at update.table catalog)) (own_scope update.table catalog)
clashes (TheDelete delete) catalog = not (pick_fits (own_scope delete.table catalog) delete.pick)

-- ---- the first of the three

abbrev pub check_refusal : Statement → Catalog → Option SqlRefusal
check_refusal statement catalog =
    if lacks_table statement catalog then Some NoTable
    else if lacks_column statement catalog then Some NoColumn
    else if clashes statement catalog then Some TypeClash
    else None
