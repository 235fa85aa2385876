-- The rows of an answer are good and not too wide if the constants of the query and the tables are good.
use Rattle.std.proofs.Common.{◌≡◌, ℕ, suc, ◌+◌, ◌*◌, ◌<◌, ◌≤◌, ◌^◌, arith, List, [], ◌∷◌, ◌++◌, sym, subst, Bool, true, false}
use Rattle.std.specs.Prelude.{Option, Some, None, map, filter, find, length, not, ◌==◌, if◌then◌else◌}
use Rattle.std.specs.declared.cmp.Ordering.{Ordering}
use Rattle.std.specs.List.{AllByRecursion, flat_map, list_all}
use Rattle.std.specs.Ordering.{is_gt}
use Rattle.std.proofs.lemmas.Bool.Decides.{Decides-eqb}
use Rattle.ldv_value.proofs.Booleans.{and-parts}
use Rattle.ldv_value.proofs.Lists.{length-append, length-map}
use Rattle.sql_laws.specs.Types.{Value, ColumnName, Column, Core, FromItem, Item, Query, Table, TableRow}
use Rattle.ldv_value.proofs.ItemLists.{all_append, all_filter, all_take}
use Rattle.sql_model.proofs.ValidTables.{table-parts}
use Rattle.sql_model.specs.Keys.{same_values}
use Rattle.sql_model.specs.Meaning.{eval}
use Rattle.sql_model.specs.QueryAnswer.{AnswerRow, SortKey, answer_values, Combination, combinations, joined_values, picked, meets_all, row_environment, distinct_values, merged_row, merge, has_key, groups_of, environments, is_kept, first_values, item_values, group_row, one_combination, rows_in_scope, once, core_rows, union_answers, rows_after, union_rows, order_by, sort_rows, limit_of, first_rows, answer, answer_rows, sort_key}
use Rattle.sql_model.specs.Refusals.{groups, answer_columns}
use Rattle.sql_model.specs.Scope.{InScope, is_table, table_at, rows_of, catalog_of, scope_of}
use Rattle.sql_model.specs.Sorting.{put_sorted, sorted_by}
use Rattle.sql_model.specs.Tables.{fits, each_value, is_row, is_valid_table}
use Rattle.value_laws.specs.Values.{GoodValue, GoodValues, GoodItem, GoodItems, GoodCore, GoodRow, GoodTables}
use Rattle.value_laws.proofs.GoodMeaning.{GoodGroup, environment_good, eval_good}

-- ---- lists

module _ {X : Type 0} (P : X → Type 0) where
  all_chosen : (b : Bool) (xs ys : List X) → AllByRecursion P xs → AllByRecursion P ys
      → AllByRecursion P (if b then xs else ys)
  all_chosen true xs ys first second = first
  all_chosen false xs ys first second = second

  module _ (cmp : X → X → Ordering) where
    all_put : (x : X) (ys : List X) → P x → AllByRecursion P ys → AllByRecursion P (put_sorted cmp x ys)
    all_put x [] here all = (here, tt)
    all_put x (y ∷ ys) here all = all_chosen (is_gt (cmp x y)) (y ∷ put_sorted cmp x ys) (x ∷ y ∷ ys)
        (all.0, all_put x ys here all.1) (here, all)

    all_sorted : (xs : List X) → AllByRecursion P xs → AllByRecursion P (sorted_by cmp xs)
    all_sorted [] all = tt
    all_sorted (x ∷ xs) all = all_put x (sorted_by cmp xs) all.0 (all_sorted xs all.1)

-- ---- rows of tables: good values, and no more than a table may have columns

abbrev Narrow : TableRow → Type 0
Narrow row = GoodRow row × (length row.values ≤ 64)

abbrev NarrowTable : Table → Type 0
NarrowTable table = AllByRecursion Narrow table.rows

narrow_rows : (columns : List Column) → length columns ≤ 64 → (rows : List TableRow) → AllByRecursion GoodRow rows
    → list_all (λ row. is_row columns row.values) rows ≡ true
    → AllByRecursion Narrow rows
narrow_rows columns few [] good is = tt
narrow_rows columns few (row ∷ rows) good is =
    let both = and-parts (is_row columns row.values) (list_all (λ (r : TableRow). is_row columns r.values) rows) is in
    let parts = and-parts (length row.values == length columns) (each_value fits columns row.values) both.0 in
    let same : length row.values ≡ length columns = (Decides-eqb (length row.values) (length columns)).0 parts.0 in
    ((good.0, omega (arith, same, few)), narrow_rows columns few rows good.1 both.1)

narrow_tables : (db : List Table) → GoodTables db → list_all is_valid_table db ≡ true → AllByRecursion NarrowTable db
narrow_tables [] good is = tt
narrow_tables (t ∷ ts) good is =
    let both = and-parts (is_valid_table t) (list_all is_valid_table ts) is in
    (narrow_rows t.schema.columns good.0.columns t.rows good.0.rows (table-parts t both.0).rows, narrow_tables ts good.1 both.1)

rows_by : (b : Bool) (t : Table) (o : Option Table) → NarrowTable t → AllByRecursion Narrow (rows_of o)
    → AllByRecursion Narrow (rows_of (if b then Some t else o))
rows_by true t o here there = here
rows_by false t o here there = there

found_rows : (name : List ℕ) (db : List Table) → AllByRecursion NarrowTable db
    → AllByRecursion Narrow (rows_of (table_at name db))
found_rows name [] all = tt
found_rows name (t ∷ ts) all = rows_by (is_table name t) t (find (is_table name) ts) all.0 (found_rows name ts all.1)

-- ---- combinations: good values, and as many as the tables of so many sources may have columns

abbrev Joined : ℕ → Combination → Type 0
Joined sources rows = GoodValues (joined_values rows) × (length (joined_values rows) ≤ 64 * sources)

abbrev AllJoined : ℕ → List Combination → Type 0
AllJoined sources = AllByRecursion (Joined sources)

joined_row : (n : ℕ) (row : TableRow) (more : Combination) → Narrow row → Joined n more → Joined (suc n) (row ∷ more)
joined_row n row more good all =
    let values : List Value = joined_values more in
    let long : length (row.values ++ values) ≡ length row.values + length values = length-append row.values values in
    let few : length row.values ≤ 64 = good.1 in
    let rest : length values ≤ 64 * n = all.1 in
    let fit : length (row.values ++ values) ≤ 64 * suc n = omega (arith, long, few, rest) in
    (all_append GoodValue row.values values good.0 all.0, fit)

joined_next : (n : ℕ) (row : TableRow) (others : List Combination) → Narrow row → AllJoined n others
    → AllJoined (suc n) (map (λ more. row ∷ more) others)
joined_next n row [] good all = tt
joined_next n row (more ∷ others) good all = (joined_row n row more good all.0, joined_next n row others good all.1)

joined_rows : (n : ℕ) (others : List Combination) → AllJoined n others → (rows : List TableRow) → AllByRecursion Narrow rows
    → AllJoined (suc n) (flat_map (λ row. map (λ more. row ∷ more) others) rows)
joined_rows n others all [] good = tt
joined_rows n others all (row ∷ rows) good =
    all_append (Joined (suc n)) (map (λ more. row ∷ more) others) (flat_map (λ (r : TableRow). map (λ more. r ∷ more) others) rows)
    (joined_next n row others good.0 all) (joined_rows n others all rows good.1)

joined_all : (from : List FromItem) (db : List Table) → AllByRecursion NarrowTable db
    → AllJoined (length from) (combinations from db)
joined_all [] db all = ((tt, omega arith), tt)
joined_all (item ∷ rest) db all =
    joined_rows (length rest) (combinations rest db) (joined_all rest db all) (rows_of (table_at item.table db)) (found_rows item.table db all)

-- ---- groups

module _ (n : ℕ) (scope : List InScope) where
  group_good : (group : List Combination) → AllJoined n group → GoodGroup (environments scope group)
  group_good [] all = tt
  group_good (rows ∷ group) all = (environment_good scope (joined_values rows) all.0.0, group_good group all.1)

  parts_good : (c : ColumnName) (cs : List ColumnName) (all : List Combination) → AllJoined n all → (keys : List (List Value))
      → AllByRecursion (AllJoined n) (map (λ key. filter (has_key scope (c ∷ cs) key) all) keys)
  parts_good c cs all good [] = tt
  parts_good c cs all good (key ∷ keys) = (all_filter (Joined n) (has_key scope (c ∷ cs) key) all good, parts_good c cs all good keys)

  groups_good : (names : List ColumnName) (all : List Combination) → AllJoined n all
      → AllByRecursion (AllJoined n) (groups_of scope names all)
  groups_good [] all good = (good, tt)
  groups_good (c ∷ cs) all good = parts_good c cs all good _

-- ---- rows of an answer: good values, and no more than a reply has room for

abbrev pub Fitting : List Value → Type 0
Fitting values = GoodValues values × (length values < 2 ^ 16)

abbrev FittingRow : AnswerRow → Type 0
FittingRow row = Fitting row.values

abbrev Answers : List AnswerRow → Type 0
Answers = AllByRecursion FittingRow

module _ (n : ℕ) (few : n ≤ 8) (scope : List InScope) where
  first_fit : (group : List Combination) → AllJoined n group → Fitting (first_values group)
  first_fit [] all = let short : 0 < 65536 = omega arith in (tt, short)
  first_fit (rows ∷ group) all =
      let long : length (joined_values rows) ≤ 64 * n = all.0.1 in
      let short : length (joined_values rows) < 65536 = omega (arith, long, few) in
      (all.0.0, short)

  items_good : (group : List Combination) → AllJoined n group → (items : List Item) → AllByRecursion GoodItem items
      → GoodValues (map (λ item. (eval item.expr (environments scope group)).value) items)
  items_good group all [] good = tt
  items_good group all (item ∷ items) good =
      (eval_good item.expr (environments scope group) good.0 (group_good n scope group all), items_good group all items good.1)

  values_fit : (items : Option (List Item)) → GoodItems items → (group : List Combination) → AllJoined n group
      → Fitting (item_values scope items group)
  values_fit None good group all = first_fit group all
  values_fit (Some items) good group all =
      let value : Item → Value = λ item. (eval item.expr (environments scope group)).value in
      (items_good group all items good.1, subst (λ (k : ℕ). k < 2 ^ 16) (sym (length-map items value)) good.0)

  module _ (core : Core) (good : GoodCore core) where
    groups_fit : (gs : List (List Combination)) → AllByRecursion (AllJoined n) gs → Answers (map (group_row scope core) gs)
    groups_fit [] all = tt
    groups_fit (g ∷ gs) all = (values_fit core.items good.items g all.0, groups_fit gs all.1)

    singles_fit : (all : List Combination) → AllJoined n all → Answers (map (λ rows. group_row scope core (one_combination rows)) all)
    singles_fit [] all = tt
    singles_fit (rows ∷ more) all = (values_fit core.items good.items (one_combination rows) (all.0, tt), singles_fit more all.1)

    scope_fit : (all : List Combination) → AllJoined n all → Answers (rows_in_scope scope core all)
    scope_fit all joined =
        let gs : List (List Combination) = groups_of scope core.group all in
        all_chosen FittingRow (groups core) (map (group_row scope core) (filter (is_kept scope core.having) gs)) (map (λ rows. group_row scope core (one_combination rows)) all)
        (groups_fit (filter (is_kept scope core.having) gs) (all_filter (AllJoined n) (is_kept scope core.having) gs (groups_good n scope core.group all joined)))
        (singles_fit all joined)

-- ---- merging

distinct_fit : (vs : List (List Value)) → AllByRecursion Fitting vs → AllByRecursion Fitting (distinct_values vs)
distinct_fit [] all = tt
distinct_fit (values ∷ rest) all = (all.0, all_filter Fitting (λ other. not (same_values other values)) (distinct_values rest) (distinct_fit rest all.1))

values_of_fit : (rows : List AnswerRow) → Answers rows → AllByRecursion Fitting (map answer_values rows)
values_of_fit [] all = tt
values_of_fit (row ∷ rows) all = (all.0, values_of_fit rows all.1)

merged_fit : (rows : List AnswerRow) (vs : List (List Value)) → AllByRecursion Fitting vs → Answers (map (merged_row rows) vs)
merged_fit rows [] all = tt
merged_fit rows (values ∷ vs) all = (all.0, merged_fit rows vs all.1)

merge_fit : (rows : List AnswerRow) → Answers rows → Answers (merge rows)
merge_fit rows all = merged_fit rows (distinct_values (map answer_values rows)) (distinct_fit (map answer_values rows) (values_of_fit rows all))

once_fit : (b : Bool) (rows : List AnswerRow) → Answers rows → Answers (once b rows)
once_fit false rows all = all
once_fit true rows all = merge_fit rows all

united_fit : (b : Bool) (rows more : List AnswerRow) → Answers rows → Answers more → Answers (union_answers b rows more)
united_fit true rows more first second = all_append FittingRow rows more first second
united_fit false rows more first second = merge_fit (rows ++ more) (all_append FittingRow rows more first second)

-- ---- queries

module _ (db : List Table) (tables : AllByRecursion NarrowTable db) where
  core_fit : (core : Core) → GoodCore core → Answers (core_rows db core)
  core_fit core good =
      let scope : List InScope = scope_of core.from (catalog_of db) in
      let few : length core.from ≤ 8 = good.sources in
      let joined : AllJoined (length core.from) (picked core db) = all_filter (Joined (length core.from)) (λ rows. meets_all core.picks (row_environment scope rows)) (combinations core.from db) (joined_all core.from db tables) in
      once_fit core.distinct (rows_in_scope scope core (picked core db)) (scope_fit (length core.from) few scope core good (picked core db) joined)

  after_fit : (rows : List AnswerRow) → Answers rows → (cores : List Core) → AllByRecursion GoodCore cores
      → Answers (rows_after db rows cores)
  after_fit rows all [] good = all
  after_fit rows all (core ∷ cores) good =
      after_fit (union_answers core.joined_all rows (core_rows db core)) (united_fit core.joined_all rows (core_rows db core) all (core_fit core good.0)) cores good.1

  union_fit : (cores : List Core) → AllByRecursion GoodCore cores → Answers (union_rows db cores)
  union_fit [] good = tt
  union_fit (core ∷ cores) good = after_fit (core_rows db core) (core_fit core good.0) cores good.1

  first_rows_fit : (limit : Option ℕ) (rows : List AnswerRow) → Answers rows → Answers (first_rows limit rows)
  first_rows_fit None rows all = all
  first_rows_fit (Some n) rows all = all_take FittingRow n rows all

  narrow_answer : (query : Query) → AllByRecursion GoodCore query.cores → AllByRecursion Fitting (answer_rows query db)
  narrow_answer query good =
      let keys : List SortKey = map (sort_key (answer_columns (catalog_of db) query.cores)) query.order in
      let rows : List AnswerRow = union_rows db query.cores in
      let sorted : Answers (sort_rows keys rows) = all_sorted FittingRow (λ a b. order_by keys a.values b.values) rows (union_fit query.cores good) in
      values_of_fit (answer query db) (first_rows_fit (limit_of query.limit) (sort_rows keys rows) sorted)

pub answer_fit : (query : Query) (db : List Table) → AllByRecursion GoodCore query.cores → GoodTables db
    → list_all is_valid_table db ≡ true
    → AllByRecursion Fitting (answer_rows query db)
answer_fit query db cores tables valid = narrow_answer db (narrow_tables db tables valid) query cores
