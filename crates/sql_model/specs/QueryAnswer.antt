-- The answer of a query: rows of values, each with its lineage, the rows of tables that it comes from.
--
-- A row of a selection, projection or join comes from the rows of its combination, and a row of a group from
-- all rows of the group. A row that was merged from several rows of the same values comes from the rows of
-- all of them. A lineage is a set: neither the order of rows nor how often a row occurs matters (`Origins`).
use Rattle.std.specs.Prelude.{ℕ, List, [], ◌∷◌, ◌++◌, map, filter, take, drop, Bool, true, false, not}
use Rattle.std.specs.Prelude.{if◌then◌else◌, Option, Some, None, pos, negsuc}
use Rattle.std.specs.List.{flat_map, list_all}
use Rattle.std.specs.declared.cmp.Ordering.{Ordering}
use Rattle.std.specs.declared.cmp.Ordering.TheVariants.{Equal}
use Rattle.std.specs.Ordering.{ordering_then, ordering_reverse}
use Rattle.sql_model.specs.Types.{Value, Null, Int, Text, ColumnName, Expr, Core, FromItem, Item, Order}
use Rattle.sql_model.specs.Types.{Query, Table, TableRow}
use Rattle.ldv_value.specs.Order.{order}
use Rattle.sql_model.specs.Keys.{same_values}
use Rattle.sql_model.specs.Places.{key_place}
use Rattle.sql_model.specs.Refusals.{groups, answer_columns}
use Rattle.ldv_value.specs.Cells.{value_at}
use Rattle.sql_model.specs.Scope.{InScope, table_at, rows_of, catalog_of, scope_of, environment}
use Rattle.sql_model.specs.Meaning.{Environment, eval, truth, is_true}
use Rattle.sql_model.specs.Sorting.{sorted_by}

-- a row of a table, by its number
pub record Origin : Type 0 where
  pub table : List ℕ
  pub row : ℕ

pub record AnswerRow : Type 0 where
  pub values : List Value
  pub lineage : List Origin

abbrev pub answer_values : AnswerRow → List Value
answer_values row = row.values

abbrev pub lineage_of : List AnswerRow → List Origin
lineage_of rows = flat_map (λ row. row.lineage) rows

-- ---- combinations

-- one row of each source
abbrev pub Combination : Type 0
Combination = List TableRow

-- the product of the sources' rows, the first source turning slowest
abbrev pub combinations : List FromItem → List Table → List Combination
combinations [] db = [] ∷ []
combinations (item ∷ rest) db =
    flat_map (λ row. map (λ others. row ∷ others) (combinations rest db)) (rows_of (table_at item.table db))

abbrev pub joined_values : Combination → List Value
joined_values rows = flat_map (λ row. row.values) rows

abbrev pub origin : FromItem → TableRow → Origin
origin item row = record { table = item.table; row = row.number }

-- the rows of a combination, one of each source
abbrev pub combination_rows : List FromItem → Combination → List Origin
combination_rows [] rows = []
combination_rows (item ∷ from) [] = []
combination_rows (item ∷ from) (row ∷ rows) = origin item row ∷ combination_rows from rows

abbrev pub meets_all : List Expr → Environment → Bool
meets_all picks env = list_all (λ e. is_true (truth e env)) picks

abbrev pub row_environment : List InScope → Combination → Environment
row_environment scope rows = environment scope (joined_values rows)

-- those for which each ON condition and WHERE are True over the whole joined row
abbrev pub picked : Core → List Table → List Combination
picked core db =
    filter (λ rows. meets_all core.picks (row_environment (scope_of core.from (catalog_of db)) rows))
    (combinations core.from db)

-- ---- rows of the same values; NULL is the same as NULL

-- each once, in order of first appearance
abbrev pub distinct_values : List (List Value) → List (List Value)
distinct_values [] = []
distinct_values (values ∷ rest) = values
    ∷ filter (λ other. not (same_values other values)) (distinct_values rest)

abbrev pub has_values : List Value → AnswerRow → Bool
has_values values row = same_values row.values values

abbrev pub merged_row : List AnswerRow → List Value → AnswerRow
merged_row rows values = record { values = values; lineage = lineage_of (filter (has_values values) rows) }

-- one row for all of the same values, at the place of the first, with the lineages of them all
abbrev pub merge : List AnswerRow → List AnswerRow
merge rows = map (merged_row rows) (distinct_values (map answer_values rows))

-- ---- groups

abbrev pub group_key : List InScope → List ColumnName → Combination → List Value
group_key scope group rows = map (row_environment scope rows) group

abbrev pub has_key : List InScope → List ColumnName → List Value → Combination → Bool
has_key scope group key rows = same_values (group_key scope group rows) key

-- those of the same values of the GROUP BY columns, in order of first appearance; without GROUP BY there
-- is one group, also over no rows
abbrev pub groups_of : List InScope → List ColumnName → List Combination → List (List Combination)
groups_of scope [] all = all ∷ []
groups_of scope (c ∷ cs) all =
    map (λ key. filter (has_key scope (c ∷ cs) key) all)
    (distinct_values (map (group_key scope (c ∷ cs)) all))

abbrev pub environments : List InScope → List Combination → List Environment
environments scope group = map (row_environment scope) group

-- HAVING is True, or missing
abbrev pub is_kept : List InScope → Option Expr → List Combination → Bool
is_kept scope None group = true
is_kept scope (Some having) group = is_true (eval having (environments scope group)).truth

-- ---- the rows of a core

abbrev pub first_values : List Combination → List Value
first_values [] = []
first_values (rows ∷ rest) = joined_values rows

-- `*` is all columns in FROM order; where a core groups, all of them are in GROUP BY
abbrev pub item_values : List InScope → Option (List Item) → List Combination → List Value
item_values scope None group = first_values group
item_values scope (Some items) group = map (λ item. (eval item.expr (environments scope group)).value) items

-- the row of a group, or of one combination
abbrev pub group_row : List InScope → Core → List Combination → AnswerRow
group_row scope core group =
    record {
      values = item_values scope core.items group;
      lineage = flat_map (combination_rows core.from) group;
    }

abbrev pub one_combination : Combination → List Combination
one_combination rows = rows ∷ []

abbrev pub rows_in_scope : List InScope → Core → List Combination → List AnswerRow
rows_in_scope scope core all =
    if groups core
    then map (group_row scope core) (filter (is_kept scope core.having) (groups_of scope core.group all))
    else map (λ rows. group_row scope core (one_combination rows)) all

abbrev pub once : Bool → List AnswerRow → List AnswerRow
once false rows = rows
once true rows = merge rows

abbrev pub core_rows : List Table → Core → List AnswerRow
core_rows db core =
    once core.distinct (rows_in_scope (scope_of core.from (catalog_of db)) core (picked core db))

abbrev pub rejected_in_scope : List InScope → Core → List Combination → List Origin
rejected_in_scope scope core all =
    if groups core
    then flat_map (flat_map (combination_rows core.from))
    (filter (λ group. not (is_kept scope core.having group)) (groups_of scope core.group all))
    else []

-- the rows of the groups that HAVING rejects
abbrev pub rejected : List Table → Core → List Origin
rejected db core = rejected_in_scope (scope_of core.from (catalog_of db)) core (picked core db)

-- ---- UNION

-- UNION ALL appends, and UNION merges then
abbrev pub union_answers : Bool → List AnswerRow → List AnswerRow → List AnswerRow
union_answers true rows more = rows ++ more
union_answers false rows more = merge (rows ++ more)

abbrev pub rows_after : List Table → List AnswerRow → List Core → List AnswerRow
rows_after db rows [] = rows
rows_after db rows (core ∷ cores) = rows_after db
    (union_answers core.joined_all rows (core_rows db core)) cores

-- the cores are taken from the left
abbrev pub union_rows : List Table → List Core → List AnswerRow
union_rows db [] = []
union_rows db (core ∷ cores) = rows_after db (core_rows db core) cores

-- ---- ORDER BY and LIMIT

-- an answer column by its place, and whether its order is turned round
pub record SortKey : Type 0 where
  pub place : ℕ
  pub descending : Bool

abbrev pub sort_key : List (Option (List ℕ)) → Order → SortKey
sort_key titles part = record { place = key_place titles part.key; descending = part.descending }

abbrev pub order_in_direction : Bool → Ordering → Ordering
order_in_direction false o = o
order_in_direction true o = ordering_reverse o

-- by the first column, and where that is the same by the next ones
abbrev pub order_by : List SortKey → List Value → List Value → Ordering
order_by [] a b = Equal
order_by (key ∷ keys) a b =
    ordering_then (order_in_direction key.descending (order (value_at a key.place) (value_at b key.place)))
    (order_by keys a b)

abbrev pub sort_rows : List SortKey → List AnswerRow → List AnswerRow
sort_rows keys rows = sorted_by (λ a b. order_by keys a.values b.values) rows

abbrev pub sorted_rows : Query → List Table → List AnswerRow
sorted_rows query db =
    sort_rows (map (sort_key (answer_columns (catalog_of db) query.cores)) query.order)
    (union_rows db query.cores)

-- how many rows LIMIT keeps, where it isn't refused
abbrev pub limit_of : Option Value → Option ℕ
limit_of None = None
limit_of (Some Null) = None
limit_of (Some (Int (pos n))) = Some n
limit_of (Some (Int (negsuc n))) = None
limit_of (Some (Text t)) = None

abbrev pub first_rows : {Row : Type 0} → Option ℕ → List Row → List Row
first_rows None rows = rows
first_rows (Some n) rows = take n rows

abbrev pub other_rows : {Row : Type 0} → Option ℕ → List Row → List Row
other_rows None rows = []
other_rows (Some n) rows = drop n rows

abbrev pub answer : Query → List Table → List AnswerRow
answer query db = first_rows (limit_of query.limit) (sorted_rows query db)

-- the rows that LIMIT cuts
abbrev pub cut : Query → List Table → List AnswerRow
cut query db = other_rows (limit_of query.limit) (sorted_rows query db)

abbrev pub answer_rows : Query → List Table → List (List Value)
answer_rows query db = map answer_values (answer query db)
