-- The meaning of a query over terms, by a fold over terms. With the fold over the represented expressions
-- this is the meaning of the query; with the fold over terms it computes. A function has the name of the
-- definition that it follows.
use Rattle.std.specs.Prelude.{ℕ, List, [], ◌∷◌, ◌++◌, map, filter, length, ◌==◌, Bool, true, false, not, ◌&&◌, ◌||◌, nat_le, if◌then◌else◌, Option, Some, None, is_none, is_some, option_map, option_and_then, option_to_list, unwrap_or}
use Rattle.std.specs.List.{flat_map, list_any, list_all, range_with_len}
use Rattle.sql_cases.proofs.Types.{Value, ColumnName, Expr-F, Kind, H, SqlRefusal, NoTable, NoColumn, TypeClash, Table}
use Rattle.sql_model.specs.QueryAnswer.{AnswerRow, Combination, Origin, combinations, combination_rows, row_environment, environments, groups_of, first_values, one_combination, once, union_answers, SortKey, sort_key, sort_rows, limit_of, first_rows, other_rows, lineage_of}
use Rattle.sql_model.specs.Kinds.{CountUse, kind_step, names_step, outer_step, aggregate_step, count_use_step, own_name_step, is_condition, kind_of_column}
use Rattle.sql_model.specs.Needs.{NeededRow, needed_by, has_merging}
use Rattle.sql_model.specs.Refusals.{lacks_table, has_unresolved_name, is_grouped, is_order_key, kind_of_item, union_kinds, is_limit}
use Rattle.sql_model.specs.Scope.{InScope, catalog_of, scope_of, places_in}
use Rattle.sql_model.specs.Meaning.{Environment, Meaning, eval_step, is_true}
use Rattle.sql_cases.proofs.Terms.{Term}
use Rattle.sql_cases.proofs.TermStatements.{TermItem, TermCore, TermQuery, TheQuery, core_of, statement_of}

module _ (fold : (A : Type 0) → (Expr-F A → A) → Term → A) where
  -- ---- expressions

  abbrev pub eval : Term → List Environment → Meaning
  eval = fold (List Environment → Meaning) eval_step

  abbrev pub names_in : Term → List ColumnName
  names_in = fold (List ColumnName) names_step

  abbrev pub outer_names : Term → List ColumnName
  outer_names = fold (List ColumnName) outer_step

  abbrev pub kind : List InScope → Term → Bool → Option Kind
  kind scope = fold (Bool → Option Kind) (kind_step scope)

  abbrev pub is_pick : List InScope → Bool → Term → Bool
  is_pick scope over_groups term = is_condition (kind scope term over_groups)

  abbrev pub counts : Term → Bool
  counts term = (fold CountUse count_use_step term).counts_rows

  abbrev pub title : TermItem → Option (List ℕ)
  title item = title_of item.name
    where
      title_of : Option (List ℕ) → Option (List ℕ)
      title_of None = fold (Option (List ℕ)) own_name_step item.term
      title_of (Some name) = Some name

  abbrev pub meets_all : List Term → Environment → Bool
  meets_all picks env = list_all (λ term. is_true (eval term (env ∷ [])).truth) picks

  -- ---- cores

  abbrev items_of : TermCore → List TermItem
  items_of core = unwrap_or core.items []

  abbrev pub scope_in : List Table → TermCore → List InScope
  scope_in db core = scope_of core.from (catalog_of db)

  -- it groups
  abbrev pub groups : TermCore → Bool
  groups core =
      not (length core.group == 0)
      || (is_some core.having || list_any (λ item. fold Bool aggregate_step item.term) (items_of core))

  abbrev pub picked : List Table → TermCore → List Combination
  picked db core =
      filter (λ rows. meets_all core.picks (row_environment (scope_in db core) rows))
      (combinations core.from db)

  abbrev pub is_kept : List InScope → Option Term → List Combination → Bool
  is_kept scope None group = true
  is_kept scope (Some having) group = is_true (eval having (environments scope group)).truth

  abbrev pub item_values : List InScope → Option (List TermItem) → List Combination → List Value
  item_values scope None group = first_values group
  item_values scope (Some items) group =
      map (λ item. (eval item.term (environments scope group)).value) items

  abbrev pub group_row : List InScope → TermCore → List Combination → AnswerRow
  group_row scope core group = record {
    values = item_values scope core.items group;
    lineage = flat_map (combination_rows core.from) group;
  }

  abbrev pub groups_in : List InScope → TermCore → List Combination → List (List Combination)
  groups_in scope core all = groups_of scope core.group all

  abbrev pub rows_in_scope : List InScope → TermCore → List Combination → List AnswerRow
  rows_in_scope scope core all =
      if groups core
      then map (group_row scope core) (filter (is_kept scope core.having) (groups_in scope core all))
      else map (λ rows. group_row scope core (one_combination rows)) all

  abbrev pub core_rows : List Table → TermCore → List AnswerRow
  core_rows db core = once core.distinct (rows_in_scope (scope_in db core) core (picked db core))

  abbrev pub rejected_in_scope : List InScope → TermCore → List Combination → List Origin
  rejected_in_scope scope core all =
      if groups core
      then flat_map (flat_map (combination_rows core.from))
      (filter (λ group. not (is_kept scope core.having group)) (groups_in scope core all))
      else []

  abbrev pub rejected : List Table → TermCore → List Origin
  rejected db core = rejected_in_scope (scope_in db core) core (picked db core)

  -- ---- answers

  abbrev pub rows_after : List Table → List AnswerRow → List TermCore → List AnswerRow
  rows_after db rows [] = rows
  rows_after db rows (core ∷ cores) = rows_after db (union_answers core.joined_all rows (core_rows db core)) cores

  abbrev pub union_rows : List Table → List TermCore → List AnswerRow
  union_rows db [] = []
  union_rows db (core ∷ cores) = rows_after db (core_rows db core) cores

  abbrev pub item_titles : List InScope → Option (List TermItem) → List (Option (List ℕ))
  item_titles scope None = map (λ entry. Some entry.column.name) scope
  item_titles scope (Some items) = map title items

  abbrev pub answer_titles : List Table → List TermCore → List (Option (List ℕ))
  answer_titles db [] = []
  answer_titles db (core ∷ cores) = item_titles (scope_in db core) core.items

  abbrev pub sort_keys : TermQuery → List Table → List SortKey
  sort_keys query db = map (sort_key (answer_titles db query.cores)) query.order

  abbrev pub sorted_rows : TermQuery → List Table → List AnswerRow
  sorted_rows query db = sort_rows (sort_keys query db) (union_rows db query.cores)

  abbrev pub answer : TermQuery → List Table → List AnswerRow
  answer query db = first_rows (limit_of query.limit) (sorted_rows query db)

  abbrev pub cut : TermQuery → List Table → List AnswerRow
  cut query db = other_rows (limit_of query.limit) (sorted_rows query db)

  -- ---- needs of queries

  abbrev pub sums_up : List TermCore → Bool
  sums_up cores =
      list_any (λ core. groups core || core.distinct) cores || has_merging (map core_of cores)

  abbrev pub cut_rows : TermQuery → List Table → List NeededRow
  cut_rows query db =
      if sums_up query.cores then map (needed_by H) (lineage_of (cut query db)) else []

  abbrev pub hidden_rows : TermQuery → List Table → List NeededRow
  hidden_rows query db =
      map (needed_by H) (flat_map (rejected db) query.cores) ++ cut_rows query db

  -- ---- refusals of queries

  abbrev pub names_of : List Term → List ColumnName
  names_of terms = flat_map names_in terms

  abbrev pub core_names : TermCore → List ColumnName
  core_names core =
      flat_map (λ item. names_in item.term) (items_of core)
      ++ (names_of core.picks ++ (core.group ++ names_of (option_to_list core.having)))

  abbrev pub item_places : List InScope → Option (List TermItem) → List ℕ
  item_places scope None = range_with_len 0 (length scope)
  item_places scope (Some items) = places_in scope (flat_map (λ item. outer_names item.term) items)

  abbrev pub outer_places : List InScope → TermCore → List ℕ
  outer_places scope core =
      item_places scope core.items
      ++ places_in scope (flat_map outer_names (option_to_list core.having))

  abbrev pub ungrouped : List InScope → TermCore → Bool
  ungrouped scope core =
      groups core && not (list_all (is_grouped scope (core_of core)) (outer_places scope core))

  abbrev pub core_lacks_column : List Table → TermCore → Bool
  core_lacks_column db core =
      has_unresolved_name (scope_in db core) (core_names core) || ungrouped (scope_in db core) core

  abbrev pub query_lacks_column : List Table → TermQuery → Bool
  query_lacks_column db query =
      list_any (core_lacks_column db) query.cores
      || not (list_all (λ order. is_order_key (answer_titles db query.cores) order.key) query.order)

  abbrev pub counts_joined : TermCore → Bool
  counts_joined core =
      nat_le 2 (length core.from)
      && (list_any (λ item. counts item.term) (items_of core)
      || list_any counts (option_to_list core.having))

  abbrev pub conditions_fit : List InScope → TermCore → Bool
  conditions_fit scope core =
      list_all (is_pick scope false) core.picks
      && (list_all (is_pick scope true) (option_to_list core.having) && not (counts_joined core))

  abbrev pub kinds_of_items : List InScope → List TermItem → Option (List Kind)
  kinds_of_items scope [] = Some []
  kinds_of_items scope (item ∷ items) =
      option_and_then (λ k. option_map (λ ks. k ∷ ks) (kinds_of_items scope items))
      (kind_of_item (kind scope item.term true))

  abbrev pub item_kinds : List InScope → Option (List TermItem) → Option (List Kind)
  item_kinds scope None = Some (map (λ entry. kind_of_column entry.column) scope)
  item_kinds scope (Some items) = kinds_of_items scope items

  abbrev pub kinds_in_scope : List InScope → TermCore → Option (List Kind)
  kinds_in_scope scope core = if conditions_fit scope core then item_kinds scope core.items else None

  abbrev pub core_kinds : List Table → TermCore → Option (List Kind)
  core_kinds db core = kinds_in_scope (scope_in db core) core

  abbrev pub kinds_with : List Table → TermCore → Option (List Kind) → Option (List Kind)
  kinds_with db core kinds =
      option_and_then (λ ks. option_and_then (union_kinds ks) (core_kinds db core)) kinds

  abbrev pub kinds_after : List Table → Option (List Kind) → List TermCore → Option (List Kind)
  kinds_after db kinds [] = kinds
  kinds_after db kinds (core ∷ cores) = kinds_after db (kinds_with db core kinds) cores

  abbrev pub query_kinds : List Table → List TermCore → Option (List Kind)
  query_kinds db [] = Some []
  query_kinds db (core ∷ cores) = kinds_after db (core_kinds db core) cores

  abbrev pub query_clashes : List Table → TermQuery → Bool
  query_clashes db query = is_none (query_kinds db query.cores) || not (is_limit query.limit)

  abbrev pub query_refusal : TermQuery → List Table → Option SqlRefusal
  query_refusal query db =
      if lacks_table (statement_of (TheQuery query)) (catalog_of db) then Some NoTable
      else (if query_lacks_column db query then Some NoColumn
      else (if query_clashes db query then Some TypeClash else None))
