-- A property of all rows of all tables holds for the rows that a statement needs.
use Rattle.std.proofs.Common.{◌≡◌, ℕ, List, [], ◌∷◌, ◌++◌, refl, sym, subst, Bool, true, false, inl, inr}
use Rattle.std.specs.Prelude.{Option, Some, None, option_map, option_to_list, map, filter, not, ◌&&◌, ◌==◌}
use Rattle.std.specs.List.{flat_map, filter_map, list_any, AllByRecursion, cons_option}
use Rattle.ldv_value.proofs.Booleans.{and-parts}
use Rattle.std.specs.declared.cmp.Ordering.{Ordering}
use Rattle.std.specs.Ordering.{is_gt}
use Rattle.std.proofs.lemmas.Bool.{cases_Bool}
use Rattle.ldv_value.specs.declared.value.Value.{Value}
use Rattle.ldv_value.proofs.SameBytes.{bytes_eq-true, nat_eq-true}
use Rattle.ldv_value.proofs.Lists.{found-passes}
use Rattle.sql_model.specs.declared.catalog.Catalog.{Catalog}
use Rattle.sql_model.specs.declared.expr.ColumnName.{ColumnName}
use Rattle.sql_model.specs.declared.need.Rule.{Rule}
use Rattle.sql_model.specs.declared.need.Rule.TheVariants.{L, H, P as ParentRow}
use Rattle.sql_model.specs.declared.reply.SqlRefusal.{SqlRefusal}
use Rattle.sql_model.specs.declared.reply.SqlRefusal.TheVariants.{Syntax, NoTable, NoColumn, TypeClash, NotNull, KeyTaken, Full, NoParent, HasChild}
use Rattle.sql_model.specs.declared.statement.Core.{Core}
use Rattle.sql_model.specs.declared.statement.FromItem.{FromItem}
use Rattle.sql_model.specs.declared.statement.Query.{Query}
use Rattle.sql_model.specs.declared.statement.Statement.TheVariants.{Query as TheQuery, Insert as TheInsert, Update as TheUpdate, Delete as TheDelete}
use Rattle.sql_model.specs.QueryAnswer.{Origin, AnswerRow, answer_values, lineage_of, Combination, combinations, combination_rows, meets_all, row_environment, picked, distinct_values, has_values, merged_row, merge, group_key, has_key, groups_of, is_kept, group_row, one_combination, rows_in_scope, once, core_rows, rejected, union_answers, rows_after, union_rows, sort_key, order_by, sorted_rows, limit_of, first_rows, other_rows, answer, cut}
use Rattle.sql_model.specs.Changes.{key_clash, table_after, is_matched, matched, new_rows, had_row}
use Rattle.sql_model.specs.Needs.{NeededRow, needed_by, is_same_row, is_earlier_row, put_row, sorted_needs, lineage_rows, matched_row, matched_rows, sums_up, cut_rows, hidden_rows, clash_rows, key_row, key_rows, parent_rows, child_row, child_rows, accepted_needs, needs_by, need_of}
use Rattle.sql_model.specs.References.{reference, has_key as has_foreign_key, Child, Orphan, first_in, is_lost, orphan_by, orphans_of, other_rows as other_rows_of, child_of, children, orphans, is_changed, parents_in, parents_by, parents_of, tables_after, first_orphan, parents_needed}
use Rattle.sql_model.specs.Refusals.{groups, answer_columns}
use Rattle.sql_model.specs.Scope.{InScope, same_text, table_at, is_table, rows_of, catalog_of, scope_of, own_scope}
use Rattle.sql_model.specs.Sorting.{put_sorted, sorted_by}
use Rattle.sql_model.specs.Statements.{target, refusal_of}
use Rattle.sql_model.proofs.Equations.{need_is}
use Rattle.sql_laws.proofs.StatementParts.{need_parts}
use Rattle.sql_laws.specs.Types.{Foreign, Statement, Table, TableRow}
use Rattle.ldv_value.proofs.ItemLists.{all_append, all_filter, all_flat_map, all_take, all_drop}

-- ---- lists

abbrev origin_in : List ℕ → TableRow → Origin
origin_in name row = record { table = name; row = row.number }

module _ {X Y : Type 0} (P : Y → Type 0) where
  each_map : (f : X → Y) → ((x : X) → P (f x)) → (xs : List X) → AllByRecursion P (map f xs)
  each_map f each [] = tt
  each_map f each (x ∷ xs) = (each x, each_map f each xs)

module _ {X : Type 0} (P : X → Type 0) where
  all_put : (cmp : X → X → Ordering) (x : X) (ys : List X) → P x → AllByRecursion P ys → AllByRecursion P (put_sorted cmp x ys)
  all_put cmp x [] one h = (one, tt)
  all_put cmp x (y ∷ ys) one h = elim (cases_Bool (is_gt (cmp x y))) [
    | inl after ↦ rw after (h.0, all_put cmp x ys one h.1)
    | inr before ↦ rw before (one, h)
  ]

  all_sorted : (cmp : X → X → Ordering) (xs : List X) → AllByRecursion P xs → AllByRecursion P (sorted_by cmp xs)
  all_sorted cmp [] h = tt
  all_sorted cmp (x ∷ xs) h = all_put cmp x (sorted_by cmp xs) h.0 (all_sorted cmp xs h.1)

  -- of an item with the number of one of the rows
  all_any : (same : X → Bool) (Q : Type 0) → ((x : X) → same x ≡ true → P x → Q) → (xs : List X) → AllByRecursion P xs → list_any same xs ≡ true → Q
  all_any same Q from [] h any = absurd cc
  all_any same Q from (x ∷ xs) h any = elim (cases_Bool (same x)) [
    | inl hit ↦ from x hit h.0
    | inr miss ↦ all_any same Q from xs h.1 (rw miss at any)
  ]

module _ (P : List ℕ → ℕ → Type 0) (db : List Table) (sound : (name : List ℕ) → AllByRecursion (λ row. P name row.number) (rows_of (table_at name db))) where
  abbrev Needed : NeededRow → Type 0
  Needed n = P n.table n.row

  abbrev Comes : Origin → Type 0
  Comes o = P o.table o.row

  -- ---- combinations

  abbrev AllOf : List FromItem → Combination → Type 0
  AllOf from combo = AllByRecursion Comes (combination_rows from combo)

  abbrev with_row : TableRow → List Combination → List Combination
  with_row row others = map (λ rows. row ∷ rows) others

  begun : (item : FromItem) (from : List FromItem) (row : TableRow) → P item.table row.number → (others : List Combination)
      → AllByRecursion (AllOf from) others → AllByRecursion (AllOf (item ∷ from)) (with_row row others)
  begun item from row good [] h = tt
  begun item from row good (rows ∷ others) h = ((good, h.0), begun item from row good others h.1)

  each_begun : (item : FromItem) (from : List FromItem) (others : List Combination) → AllByRecursion (AllOf from) others
      → (rows : List TableRow) → AllByRecursion (λ row. P item.table row.number) rows
      → AllByRecursion (λ row. AllByRecursion (AllOf (item ∷ from)) (with_row row others)) rows
  each_begun item from others h [] good = tt
  each_begun item from others h (row ∷ rows) good = (begun item from row good.0 others h, each_begun item from others h rows good.1)

  combinations_good : (from : List FromItem) → AllByRecursion (AllOf from) (combinations from db)
  combinations_good [] = (tt, tt)
  combinations_good (item ∷ from) =
      let rows : List TableRow = rows_of (table_at item.table db) in
      all_flat_map (AllOf (item ∷ from)) (λ row. with_row row (combinations from db)) rows
      (each_begun item from (combinations from db) (combinations_good from) rows (sound item.table))

  picked_good : (core : Core) → AllByRecursion (AllOf core.from) (picked core db)
  picked_good core =
      all_filter (AllOf core.from) (λ rows. meets_all core.picks (row_environment (scope_of core.from (catalog_of db)) rows))
      (combinations core.from db) (combinations_good core.from)

  -- ---- groups

  abbrev Group : List FromItem → List Combination → Type 0
  Group from group = AllByRecursion (AllOf from) group

  groups_good : (from : List FromItem) (scope : List InScope) (names : List ColumnName) (all : List Combination) → Group from all
      → AllByRecursion (Group from) (groups_of scope names all)
  groups_good from scope [] all h = (h, tt)
  groups_good from scope (c ∷ cs) all h =
      each_map (Group from) (λ key. filter (has_key scope (c ∷ cs) key) all)
      (λ key. all_filter (AllOf from) (has_key scope (c ∷ cs) key) all h) (distinct_values (map (group_key scope (c ∷ cs)) all))

  group_lineage : (from : List FromItem) (group : List Combination) → Group from group
      → AllByRecursion Comes (flat_map (combination_rows from) group)
  group_lineage from group h = all_flat_map Comes (combination_rows from) group h

  -- ---- rows of an answer

  abbrev Row : AnswerRow → Type 0
  Row row = AllByRecursion Comes row.lineage

  all_groups : (scope : List InScope) (core : Core) (gs : List (List Combination)) → AllByRecursion (Group core.from) gs
      → AllByRecursion Row (map (group_row scope core) gs)
  all_groups scope core [] h = tt
  all_groups scope core (g ∷ gs) h = (group_lineage core.from g h.0, all_groups scope core gs h.1)

  all_singles : (scope : List InScope) (core : Core) (all : List Combination) → Group core.from all
      → AllByRecursion Row (map (λ rows. group_row scope core (one_combination rows)) all)
  all_singles scope core [] h = tt
  all_singles scope core (rows ∷ all) h = (group_lineage core.from (one_combination rows) (h.0, tt), all_singles scope core all h.1)

  rows_good : (scope : List InScope) (core : Core) (all : List Combination) → Group core.from all
      → AllByRecursion Row (rows_in_scope scope core all)
  rows_good scope core all h = elim (cases_Bool (groups core)) [
    | inl grouped ↦
        rw grouped (all_groups scope core (filter (is_kept scope core.having) (groups_of scope core.group all))
        (all_filter (Group core.from) (is_kept scope core.having) (groups_of scope core.group all) (groups_good core.from scope core.group all h)))
    | inr plain ↦ rw plain (all_singles scope core all h)
  ]

  lineage_good : (rows : List AnswerRow) → AllByRecursion Row rows → AllByRecursion Comes (lineage_of rows)
  lineage_good rows h = all_flat_map Comes (λ row. row.lineage) rows h

  merge_good : (rows : List AnswerRow) → AllByRecursion Row rows → AllByRecursion Row (merge rows)
  merge_good rows h =
      each_map Row (merged_row rows) (λ values. lineage_good (filter (has_values values) rows) (all_filter Row (has_values values) rows h))
      (distinct_values (map answer_values rows))

  once_good : (b : Bool) (rows : List AnswerRow) → AllByRecursion Row rows → AllByRecursion Row (once b rows)
  once_good false rows h = h
  once_good true rows h = merge_good rows h

  core_good : (core : Core) → AllByRecursion Row (core_rows db core)
  core_good core =
      let scope : List InScope = scope_of core.from (catalog_of db) in
      once_good core.distinct (rows_in_scope scope core (picked core db)) (rows_good scope core (picked core db) (picked_good core))

  united_good : (all : Bool) (rows more : List AnswerRow) → AllByRecursion Row rows → AllByRecursion Row more
      → AllByRecursion Row (union_answers all rows more)
  united_good true rows more h k = all_append Row rows more h k
  united_good false rows more h k = merge_good (rows ++ more) (all_append Row rows more h k)

  after_good : (cores : List Core) (rows : List AnswerRow) → AllByRecursion Row rows → AllByRecursion Row (rows_after db rows cores)
  after_good [] rows h = h
  after_good (core ∷ cores) rows h =
      after_good cores (union_answers core.joined_all rows (core_rows db core)) (united_good core.joined_all rows (core_rows db core) h (core_good core))

  union_good : (cores : List Core) → AllByRecursion Row (union_rows db cores)
  union_good [] = tt
  union_good (core ∷ cores) = after_good cores (core_rows db core) (core_good core)

  sorted_good : (query : Query) → AllByRecursion Row (sorted_rows query db)
  sorted_good query =
      all_sorted Row (λ a b. order_by (map (sort_key (answer_columns (catalog_of db) query.cores)) query.order) a.values b.values)
      (union_rows db query.cores) (union_good query.cores)

  first_good : (limit : Option ℕ) (rows : List AnswerRow) → AllByRecursion Row rows → AllByRecursion Row (first_rows limit rows)
  first_good None rows h = h
  first_good (Some n) rows h = all_take Row n rows h

  other_good : (limit : Option ℕ) (rows : List AnswerRow) → AllByRecursion Row rows → AllByRecursion Row (other_rows limit rows)
  other_good None rows h = tt
  other_good (Some n) rows h = all_drop Row n rows h

  -- ---- what a query needs

  as_needed : (rule : Rule) (os : List Origin) → AllByRecursion Comes os → AllByRecursion Needed (map (needed_by rule) os)
  as_needed rule [] h = tt
  as_needed rule (o ∷ os) h = (h.0, as_needed rule os h.1)

  rejected_good : (core : Core) → AllByRecursion Comes (rejected db core)
  rejected_good core =
      let scope : List InScope = scope_of core.from (catalog_of db) in
      let all : List Combination = picked core db in
      elim (cases_Bool (groups core)) [
        | inl grouped ↦
            let out : List Combination → Bool = λ group. not (is_kept scope core.having group) in
            rw grouped (each_out core (filter out (groups_of scope core.group all))
            (all_filter (Group core.from) out (groups_of scope core.group all) (groups_good core.from scope core.group all (picked_good core))))
        | inr plain ↦ rw plain tt
      ]
    where
      each_out : (core : Core) (gs : List (List Combination)) → AllByRecursion (Group core.from) gs
          → AllByRecursion Comes (flat_map (flat_map (combination_rows core.from)) gs)
      each_out core [] h = tt
      each_out core (g ∷ gs) h =
          all_append Comes (flat_map (combination_rows core.from) g) (flat_map (flat_map (combination_rows core.from)) gs) (group_lineage core.from g h.0) (each_out core gs h.1)

  pub each_rejected : (cores : List Core) → AllByRecursion Comes (flat_map (rejected db) cores)
  each_rejected [] = tt
  each_rejected (core ∷ cores) = all_append Comes (rejected db core) (flat_map (rejected db) cores) (rejected_good core) (each_rejected cores)

  -- the rows that an answer comes from, those of rejected groups, and those that LIMIT cuts
  pub answer_good : (query : Query) → AllByRecursion Comes (lineage_of (answer query db))
  answer_good query = lineage_good (answer query db) (first_good (limit_of query.limit) (sorted_rows query db) (sorted_good query))

  pub others_good : (query : Query) → AllByRecursion Comes (lineage_of (cut query db))
  others_good query = lineage_good (cut query db) (other_good (limit_of query.limit) (sorted_rows query db) (sorted_good query))

  cut_good : (query : Query) → AllByRecursion Needed (cut_rows query db)
  cut_good query = elim (cases_Bool (sums_up query.cores)) [
    | inl sums ↦ rw sums (as_needed H (lineage_of (cut query db)) (others_good query))
    | inr plain ↦ rw plain tt
  ]

  query_good : (query : Query) → AllByRecursion Needed (lineage_rows query db ++ hidden_rows query db)
  query_good query =
      all_append Needed (lineage_rows query db) (hidden_rows query db)
      (as_needed L (lineage_of (answer query db)) (answer_good query))
      (all_append Needed (map (needed_by H) (flat_map (rejected db) query.cores)) (cut_rows query db)
      (as_needed H (flat_map (rejected db) query.cores) (each_rejected query.cores)) (cut_good query))

  -- ---- what a change needs

  abbrev TableGood : Option Table → Type 0
  TableGood None = Unit {0}
  TableGood (Some t) = AllByRecursion (λ row. P t.name row.number) t.rows

  named_good : (name : List ℕ) → TableGood (table_at name db)
  named_good name = by (table_at name db) refl
    where
      by : (o : Option Table) → table_at name db ≡ o → TableGood o
      by None is = tt
      by (Some t) is =
          let same : t.name ≡ name = bytes_eq-true t.name name (found-passes (is_table name) db t is) in
          let rows : AllByRecursion (λ row. P name row.number) t.rows = subst (λ (o : Option Table). AllByRecursion (λ row. P name row.number) (rows_of o)) is (sound name) in
          subst (λ (n : List ℕ). AllByRecursion (λ row. P n row.number) t.rows) (sym same) rows

  pub target_good : (s : Statement) → TableGood (target s db)
  target_good (TheQuery query) = tt
  target_good (TheInsert insert) = named_good insert.table
  target_good (TheUpdate update) = named_good update.table
  target_good (TheDelete delete) = named_good delete.table

  as_matched : (t : Table) (rows : List TableRow) → AllByRecursion (λ row. P t.name row.number) rows → AllByRecursion Needed (map (matched_row t) rows)
  as_matched t [] h = tt
  as_matched t (row ∷ rows) h = (h.0, as_matched t rows h.1)

  matched_of : (s : Statement) (catalog : Catalog) (t : Table) → AllByRecursion (λ row. P t.name row.number) t.rows
      → AllByRecursion (λ row. P t.name row.number) (matched s catalog t)
  matched_of (TheQuery query) catalog t h = tt
  matched_of (TheInsert insert) catalog t h = tt
  matched_of (TheUpdate update) catalog t h = all_filter (λ row. P t.name row.number) (is_matched (own_scope update.table catalog) update.pick) t.rows h
  matched_of (TheDelete delete) catalog t h = all_filter (λ row. P t.name row.number) (is_matched (own_scope delete.table catalog) delete.pick) t.rows h

  matched_good : (s : Statement) (catalog : Catalog) (o : Option Table) → TableGood o → AllByRecursion Needed (matched_rows s catalog o)
  matched_good s catalog None h = tt
  matched_good s catalog (Some t) h = as_matched t (matched s catalog t) (matched_of s catalog t h)

  -- a row of a clash is needed where it stood
  stood_good : (t : Table) (rows : List TableRow) → AllByRecursion (λ row. P t.name row.number) t.rows
      → AllByRecursion Needed (map (key_row t) (filter (had_row t) rows))
  stood_good t [] h = tt
  stood_good t (row ∷ rows) h = elim (cases_Bool (had_row t row)) [
    | inl there ↦
        let one : P t.name row.number = all_any (λ old. P t.name old.number) (λ old. old.number == row.number) (P t.name row.number)
        (λ old same good. subst (P t.name) (nat_eq-true old.number row.number same) good) t.rows h there in
        rw there (one, stood_good t rows h)
    | inr new ↦ rw new (stood_good t rows h)
  ]

  keys_good : (s : Statement) (catalog : Catalog) (o : Option Table) → TableGood o → AllByRecursion Needed (key_rows s catalog o)
  keys_good s catalog None h = tt
  keys_good s catalog (Some t) h = stood_good t (clash_rows (key_clash (table_after s catalog t))) h

  -- ---- parent rows

  -- of some rows those that stood in a table
  origins_good : (name : List ℕ) (b : Table) → AllByRecursion (λ row. P name row.number) b.rows → (p : TableRow → Bool) (rows : List TableRow)
      → AllByRecursion Comes (map (origin_in name) (filter (λ row. p row && had_row b row) rows))
  origins_good name b h p [] = tt
  origins_good name b h p (row ∷ rows) = elim (cases_Bool (p row && had_row b row)) [
    | inl hit ↦
        let there : had_row b row ≡ true = (and-parts (p row) (had_row b row) hit).1 in
        let one : P name row.number = all_any (λ old. P name old.number) (λ old. old.number == row.number) (P name row.number)
        (λ old same good. subst (P name) (nat_eq-true old.number row.number same) good) b.rows h there in
        rw hit (one, origins_good name b h p rows)
    | inr miss ↦ rw miss (origins_good name b h p rows)
  ]

  parents_in_good : (foreign : Foreign) (before after : Option Table) → AllByRecursion (λ row. P foreign.parent row.number) (rows_of before)
      → (o : Option (List Value)) → AllByRecursion Comes (parents_in before after foreign o)
  parents_in_good foreign before after h None = tt
  parents_in_good foreign None after h (Some key) = tt
  parents_in_good foreign (Some b) None h (Some key) = tt
  parents_in_good foreign (Some b) (Some a) h (Some key) = origins_good foreign.parent b h (has_foreign_key a.schema.key key) a.rows

  parents_by_good : (after : List Table) (values : List Value) (fs : List Foreign) → AllByRecursion Comes (flat_map (parents_by db after values) fs)
  parents_by_good after values [] = tt
  parents_by_good after values (f ∷ fs) =
      all_append Comes (parents_by db after values f) (flat_map (parents_by db after values) fs)
      (parents_in_good f (table_at f.parent db) (table_at f.parent after) (sound f.parent) (reference f values))
      (parents_by_good after values fs)

  parents_of_good : (after : List Table) (fs : List Foreign) (rows : List TableRow) → AllByRecursion Comes (parents_of db after fs rows)
  parents_of_good after fs [] = tt
  parents_of_good after fs (row ∷ rows) =
      all_append Comes (flat_map (parents_by db after row.values) fs) (parents_of db after fs rows) (parents_by_good after row.values fs) (parents_of_good after fs rows)

  parent_rows_good : (s : Statement) (catalog : Catalog) (o : Option Table) → AllByRecursion Needed (parent_rows s catalog o db)
  parent_rows_good s catalog None = tt
  parent_rows_good s catalog (Some t) =
      as_needed ParentRow (parents_needed s catalog t db) (parents_of_good (tables_after s catalog db) t.schema.foreign (new_rows s catalog t))

  -- ---- the child row

  abbrev OrphanGood : Orphan → Type 0
  OrphanGood orphan = P orphan.table orphan.row

  abbrev OnOrphan : Option Orphan → Type 0
  OnOrphan None = Unit {0}
  OnOrphan (Some orphan) = OrphanGood orphan

  orphan_by_good : (target : List ℕ) (lost : List Value → Bool) (child : Child) → P child.table child.row.number
      → (f : Foreign) (o : Option (List Value)) → OnOrphan (orphan_by target lost child f o)
  orphan_by_good target lost child h f None = tt
  orphan_by_good target lost child h f (Some key) = elim (cases_Bool (same_text f.parent target && lost key)) [
    | inl hit ↦ rw hit h
    | inr miss ↦ rw miss tt
  ]

  with_orphan : (o : Option Orphan) → OnOrphan o → (more : List Orphan) → AllByRecursion OrphanGood more → AllByRecursion OrphanGood (cons_option o more)
  with_orphan None h more all = all
  with_orphan (Some orphan) h more all = (h, all)

  orphans_of_good : (target : List ℕ) (lost : List Value → Bool) (child : Child) → P child.table child.row.number → (fs : List Foreign)
      → AllByRecursion OrphanGood (filter_map (λ f. orphan_by target lost child f (reference f child.row.values)) fs)
  orphans_of_good target lost child h [] = tt
  orphans_of_good target lost child h (f ∷ fs) =
      with_orphan (orphan_by target lost child f (reference f child.row.values)) (orphan_by_good target lost child h f (reference f child.row.values))
      (filter_map (λ g. orphan_by target lost child g (reference g child.row.values)) fs) (orphans_of_good target lost child h fs)

  all_orphans : (target : List ℕ) (lost : List Value → Bool) (all : List Child) → AllByRecursion (λ child. P child.table child.row.number) all
      → AllByRecursion OrphanGood (flat_map (orphans_of target lost) all)
  all_orphans target lost [] h = tt
  all_orphans target lost (child ∷ all) h =
      all_append OrphanGood (orphans_of target lost child) (flat_map (orphans_of target lost) all)
      (orphans_of_good target lost child h.0 child.foreign) (all_orphans target lost all h.1)

  rows_as_children : (t : Table) (rows : List TableRow) → AllByRecursion (λ row. P t.name row.number) rows
      → AllByRecursion (λ child. P child.table child.row.number) (map (child_of t) rows)
  rows_as_children t [] h = tt
  rows_as_children t (row ∷ rows) h = (h.0, rows_as_children t rows h.1)

  others_good_in : (has : TableRow → Bool) (target : List ℕ) (t : Table) → AllByRecursion (λ row. P t.name row.number) t.rows
      → AllByRecursion (λ row. P t.name row.number) (other_rows_of has target t)
  others_good_in has target t h = elim (cases_Bool (is_table target t)) [
    | inl hit ↦ rw hit (all_filter (λ row. P t.name row.number) (λ row. not (has row)) t.rows h)
    | inr miss ↦ rw miss h
  ]

  abbrev AllTables : List Table → Type 0
  AllTables ts = AllByRecursion (λ (t : Table). AllByRecursion (λ row. P t.name row.number) t.rows) ts

  children_good : (has : TableRow → Bool) (target : List ℕ) (ts : List Table) → AllTables ts
      → AllByRecursion (λ child. P child.table child.row.number) (children has target ts)
  children_good has target [] h = tt
  children_good has target (t ∷ ts) h =
      all_append (λ child. P child.table child.row.number) (map (child_of t) (other_rows_of has target t)) (children has target ts)
      (rows_as_children t (other_rows_of has target t) (others_good_in has target t h.0)) (children_good has target ts h.1)

  first_good_in : (orphans : List Orphan) → AllByRecursion OrphanGood orphans → OnOrphan (first_in orphans)
  first_good_in [] h = tt
  first_good_in (orphan ∷ more) h = h.0

  child_good : (o : Option Orphan) → OnOrphan o → AllByRecursion Needed (option_to_list (option_map child_row o))
  child_good None h = tt
  child_good (Some orphan) h = (h, tt)

  module _ (each : AllTables db) where
    child_rows_good : (s : Statement) (catalog : Catalog) (o : Option Table) → AllByRecursion Needed (child_rows s catalog o db)
    child_rows_good s catalog None = tt
    child_rows_good s catalog (Some t) =
        let lost : List Value → Bool = is_lost t.schema.key t.rows (table_after s catalog t).rows in
        child_good (first_orphan s catalog t db)
        (first_good_in (orphans (is_changed s catalog) t (table_after s catalog t) db)
        (all_orphans t.name lost (children (is_changed s catalog) t.name db) (children_good (is_changed s catalog) t.name db each)))

  -- ---- what is needed, by the refusal

  accepted_good : (s : Statement) → AllByRecursion Needed (accepted_needs s db)
  accepted_good (TheQuery query) = query_good query
  accepted_good (TheInsert insert) = parent_rows_good (TheInsert insert) (catalog_of db) (target (TheInsert insert) db)
  accepted_good (TheUpdate update) =
      all_append Needed (matched_rows (TheUpdate update) (catalog_of db) (target (TheUpdate update) db)) (parent_rows (TheUpdate update) (catalog_of db) (target (TheUpdate update) db) db)
      (matched_good (TheUpdate update) (catalog_of db) (target (TheUpdate update) db) (target_good (TheUpdate update)))
      (parent_rows_good (TheUpdate update) (catalog_of db) (target (TheUpdate update) db))
  accepted_good (TheDelete delete) = matched_good (TheDelete delete) (catalog_of db) (target (TheDelete delete) db) (target_good (TheDelete delete))

  by_refusal : AllTables db → (refusal : Option SqlRefusal) (s : Statement) → AllByRecursion Needed (needs_by refusal s db)
  by_refusal each None s = accepted_good s
  by_refusal each (Some Syntax) s = tt
  by_refusal each (Some NoTable) s = tt
  by_refusal each (Some NoColumn) s = tt
  by_refusal each (Some TypeClash) s = tt
  by_refusal each (Some NotNull) s = matched_good s (catalog_of db) (target s db) (target_good s)
  by_refusal each (Some (KeyTaken table key)) s =
      all_append Needed (matched_rows s (catalog_of db) (target s db)) (key_rows s (catalog_of db) (target s db))
      (matched_good s (catalog_of db) (target s db) (target_good s)) (keys_good s (catalog_of db) (target s db) (target_good s))
  by_refusal each (Some Full) s = tt
  by_refusal each (Some (NoParent table key)) s =
      all_append Needed (matched_rows s (catalog_of db) (target s db)) (parent_rows s (catalog_of db) (target s db) db)
      (matched_good s (catalog_of db) (target s db) (target_good s)) (parent_rows_good s (catalog_of db) (target s db))
  by_refusal each (Some (HasChild table key)) s =
      let parents : List NeededRow = parent_rows s (catalog_of db) (target s db) db in
      let child : List NeededRow = child_rows s (catalog_of db) (target s db) db in
      all_append Needed (matched_rows s (catalog_of db) (target s db)) (parents ++ child)
      (matched_good s (catalog_of db) (target s db) (target_good s))
      (all_append Needed parents child (parent_rows_good s (catalog_of db) (target s db)) (child_rows_good each s (catalog_of db) (target s db)))

  -- ---- all needs

  put_good : (n : NeededRow) → Needed n → (ms : List NeededRow) → AllByRecursion Needed ms → AllByRecursion Needed (put_row n ms)
  put_good n good [] h = (good, tt)
  put_good n good (m ∷ ms) h = elim (cases_Bool (is_same_row n m)) [
    | inl same ↦ rw same (good, h.1)
    | inr differ ↦ elim (cases_Bool (is_earlier_row n m)) [
      | inl earlier ↦ rw (differ, earlier) (good, h)
      | inr later ↦ rw (differ, later) (h.0, put_good n good ms h.1)
    ]
  ]

  rising_good : (ns : List NeededRow) → AllByRecursion Needed ns → AllByRecursion Needed (sorted_needs ns)
  rising_good [] h = tt
  rising_good (n ∷ ns) h = put_good n h.0 (sorted_needs ns) (rising_good ns h.1)

  -- of the rows of all tables, also of those that no name finds
  pub needs_good : AllTables db → (statement : Option Statement) → AllByRecursion Needed (need_of statement db)
  needs_good each None = subst (AllByRecursion Needed) (sym (need_is None db)) tt
  needs_good each (Some s) = subst (AllByRecursion Needed) (sym (need_parts s db)) (rising_good (needs_by (refusal_of (Some s) db) s db) (by_refusal each (refusal_of (Some s) db) s))
