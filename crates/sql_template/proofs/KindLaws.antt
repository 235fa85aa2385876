-- What a check gives depends on the kinds of constants alone.
use Rattle.std.proofs.Common.{◌≡◌, ℕ, suc, List, [], ◌∷◌, ◌++◌, length, map, refl, sym, ap, subst, ◌∙◌, Some, None, true, false}
use Rattle.std.specs.Prelude.{Option, Bool, ◌&&◌, ◌||◌, ◌==◌, not, zip, option_to_list, unwrap_or, is_some, is_none, option_map, option_and_then, if◌then◌else◌, nat_le, find}
use Rattle.std.specs.List.{flat_map, list_any, list_all}
use Rattle.sql_template.specs.Filling.{fill_step, filled_expr, filled_exprs, filled_item, filled_items, filled_pick, filled_limit, filled_core, filled_query, filled_set, filled_insert, filled_update, filled_delete, filled_statement}
use Rattle.sql_template.specs.Kinds.{SameKinds, SameLimit}
use Rattle.sql_template.proofs.FillRules.{fill_constant, fill_column, fill_negate, fill_not, fill_both, fill_is_null, fill_count, fill_aggregate}
use Rattle.sql_template.specs.Types.{Value, Expr, Expr-F, Fold, Operator, Core, FromItem, Item, Order, Query, Set, Insert, Update, Delete, Statement, TheQuery, TheInsert, TheUpdate, TheDelete, Catalog, Checked, Column, ColumnName, Kind, SqlRefusal, NoTable, NoColumn, TypeClash}
use Rattle.sql_model.specs.declared.expr.Expr.TheVariants as expr
use Rattle.sql_model.specs.declared.expr.Expr.TheVariants.{rolls-Constant, rolls-Column, rolls-Negate, rolls-Not, rolls-Both, rolls-IsNull, rolls-Aggregate}
use Rattle.sql_model.specs.declared.expr.Expr.TheOpen as open_expr
use Rattle.sql_model.specs.declared.expr.Expr.TheFolds.{fold-Expr, ind-Expr, map-Expr}
use Rattle.sql_model.specs.declared.expr.Expr.TheViews.{roll-Expr}
use Rattle.sql_model.proofs.Folds.{fold-Constant, fold-Column, fold-Negate, fold-Not, fold-Both, fold-IsNull, fold-Count, fold-Aggregate}
use Rattle.sql_model.specs.Kinds.{kind_step, kind, row_kind, group_kind, is_condition, names_step, names_in, outer_step, outer_names, aggregate_step, has_aggregate, CountUse, count_use_step, count_use_of, own_name_step, own_name, kind_of_value}
use Rattle.sql_model.specs.Refusals.{tables_of_core, tables_of, cores_of, items_of, groups, names_of_items, core_names, update_names, delete_names, insert_names, is_missing, doubles_source, lacks_table, has_unresolved_name, item_places, having_places, is_grouped, has_ungrouped_column, lacks_in_scope, core_lacks_column, item_name, item_columns, answer_columns, is_order_key, query_lacks_column, insert_lacks_column, update_lacks_column, lacks_column, is_pick, is_having, counts, counts_joined, conditions_fit, kind_of_item, kinds_of_items, item_kinds, kinds_in_scope, core_kinds, union_kinds, kinds_after, query_kinds, is_limit, query_clashes, takes, takes_set, takes_value, row_fits, target_columns, insert_clashes, set_fits, pick_fits, update_clashes, clashes, check_refusal}
use Rattle.sql_model.specs.Places.{core_places, order_places, query_places, places_of}
use Rattle.sql_model.specs.Scope.{InScope, scope_of, own_scope, places_in, schema_at, columns_of, has_column, is_column, same_text}
use Rattle.sql_model.specs.Keys.{repeats}

-- ---- an expression, by a fold that looks at no constant

module _ {A : Type 0} (step : Expr-F A → A) where
  abbrev over : Expr → A
  over = fold-Expr A step

  module _ (h : Value → Value) where
    at_constant : (v : Value) → over (filled_expr h (expr.Constant v)) ≡ step (open_expr.Constant (h v))
    at_constant v = ap over (fill_constant h v) ∙ fold-Constant step (h v)

    at_column : (c : ColumnName) → over (filled_expr h (expr.Column c)) ≡ step (open_expr.Column c)
    at_column c = ap over (fill_column h c) ∙ fold-Column step c

    at_negate : (e : Expr) → over (filled_expr h (expr.Negate e)) ≡ step (open_expr.Negate (over (filled_expr h e)))
    at_negate e = ap over (fill_negate h e) ∙ fold-Negate step (filled_expr h e)

    at_not : (e : Expr) → over (filled_expr h (expr.Not e)) ≡ step (open_expr.Not (over (filled_expr h e)))
    at_not e = ap over (fill_not h e) ∙ fold-Not step (filled_expr h e)

    at_both : (op : Operator) (a b : Expr) → over (filled_expr h (expr.Both op a b)) ≡ step (open_expr.Both op (over (filled_expr h a)) (over (filled_expr h b)))
    at_both op a b = ap over (fill_both h op a b) ∙ fold-Both step op (filled_expr h a) (filled_expr h b)

    at_null : (e : Expr) (n : Bool) → over (filled_expr h (expr.IsNull e n)) ≡ step (open_expr.IsNull (over (filled_expr h e)) n)
    at_null e n = ap over (fill_is_null h e n) ∙ fold-IsNull step (filled_expr h e) n

    at_count : (k : Fold) → over (filled_expr h (expr.Aggregate k None)) ≡ step (open_expr.Aggregate k None)
    at_count k = ap over (fill_count h k) ∙ fold-Count step k

    at_aggregate : (k : Fold) (e : Expr) → over (filled_expr h (expr.Aggregate k (Some e))) ≡ step (open_expr.Aggregate k (Some (over (filled_expr h e))))
    at_aggregate k e = ap over (fill_aggregate h k e) ∙ fold-Aggregate step k (filled_expr h e)

  module _ (f g : Value → Value) (same : (v : Value) → step (open_expr.Constant (f v)) ≡ step (open_expr.Constant (g v))) where
    abbrev Agrees : Expr → Type 0
    Agrees e = over (filled_expr f e) ≡ over (filled_expr g e)

    abbrev Such : Type 0
    Such = (e : Expr) × Agrees e

    abbrev inside : Expr-F Such → Expr-F Expr
    inside y = map-Expr Such Expr (λ e. e.0) y

    rolled : (z : Expr-F Expr) (e : Expr) → roll-Expr z ≡ e → Agrees e → Agrees (roll-Expr z)
    rolled z e is = subst Agrees (sym is)

    layer : (y : Expr-F Such) → Agrees (roll-Expr (inside y))
    layer (open_expr.Constant v) = rolled (open_expr.Constant v) (expr.Constant v) (rolls-Constant v) (at_constant f v ∙ same v ∙ sym (at_constant g v))
    layer (open_expr.Column c) = rolled (open_expr.Column c) (expr.Column c) (rolls-Column c) (at_column f c ∙ sym (at_column g c))
    layer (open_expr.Negate e) = rolled (open_expr.Negate e.0) (expr.Negate e.0) (rolls-Negate e.0) (at_negate f e.0 ∙ ap (λ x. step (open_expr.Negate x)) e.1 ∙ sym (at_negate g e.0))
    layer (open_expr.Not e) = rolled (open_expr.Not e.0) (expr.Not e.0) (rolls-Not e.0) (at_not f e.0 ∙ ap (λ x. step (open_expr.Not x)) e.1 ∙ sym (at_not g e.0))
    layer (open_expr.Both op a b) = rolled (open_expr.Both op a.0 b.0) (expr.Both op a.0 b.0) (rolls-Both op a.0 b.0)
        (at_both f op a.0 b.0 ∙ ap (λ x. step (open_expr.Both op x (over (filled_expr f b.0)))) a.1
        ∙ ap (λ x. step (open_expr.Both op (over (filled_expr g a.0)) x)) b.1 ∙ sym (at_both g op a.0 b.0))
    layer (open_expr.IsNull e n) = rolled (open_expr.IsNull e.0 n) (expr.IsNull e.0 n) (rolls-IsNull e.0 n) (at_null f e.0 n ∙ ap (λ x. step (open_expr.IsNull x n)) e.1 ∙ sym (at_null g e.0 n))
    layer (open_expr.Aggregate k None) = rolled (open_expr.Aggregate k None) (expr.Aggregate k None) (rolls-Aggregate k None) (at_count f k ∙ sym (at_count g k))
    layer (open_expr.Aggregate k (Some e)) = rolled (open_expr.Aggregate k (Some e.0)) (expr.Aggregate k (Some e.0)) (rolls-Aggregate k (Some e.0))
        (at_aggregate f k e.0 ∙ ap (λ x. step (open_expr.Aggregate k (Some x))) e.1 ∙ sym (at_aggregate g k e.0))

    agrees : (e : Expr) → Agrees e
    agrees = ind-Expr Agrees (λ x y is. subst (λ (z : Expr-F Expr). Agrees (roll-Expr z)) is (layer y))

-- ---- lists

module _ {A B C : Type 0} (m n : A → B) where
  map_same : (h : B → C) → ((x : A) → h (m x) ≡ h (n x)) → (xs : List A) → map h (map m xs) ≡ map h (map n xs)
  map_same h is [] = refl
  map_same h is (x ∷ xs) = ap (λ (c : C). c ∷ map h (map m xs)) (is x) ∙ ap (λ (l : List C). h (n x) ∷ l) (map_same h is xs)

  flat_same : (h : B → List C) → ((x : A) → h (m x) ≡ h (n x)) → (xs : List A) → flat_map h (map m xs) ≡ flat_map h (map n xs)
  flat_same h is [] = refl
  flat_same h is (x ∷ xs) = ap (λ (l : List C). l ++ flat_map h (map m xs)) (is x) ∙ ap (λ (l : List C). h (n x) ++ l) (flat_same h is xs)

module _ {A B : Type 0} (m n : A → B) (p : B → Bool) (is : (x : A) → p (m x) ≡ p (n x)) where
  any_same : (xs : List A) → list_any p (map m xs) ≡ list_any p (map n xs)
  any_same [] = refl
  any_same (x ∷ xs) = ap (λ b. b || list_any p (map m xs)) (is x) ∙ ap (λ b. p (n x) || b) (any_same xs)

  all_same : (xs : List A) → list_all p (map m xs) ≡ list_all p (map n xs)
  all_same [] = refl
  all_same (x ∷ xs) = ap (λ b. b && list_all p (map m xs)) (is x) ∙ ap (λ b. p (n x) && b) (all_same xs)

-- ---- statements

module _ (f g : Value → Value) (same : SameKinds f g) where
  names_same : (e : Expr) → names_in (filled_expr f e) ≡ names_in (filled_expr g e)
  names_same = agrees names_step f g (λ v. refl)

  outer_same : (e : Expr) → outer_names (filled_expr f e) ≡ outer_names (filled_expr g e)
  outer_same = agrees outer_step f g (λ v. refl)

  aggregate_same : (e : Expr) → has_aggregate (filled_expr f e) ≡ has_aggregate (filled_expr g e)
  aggregate_same = agrees aggregate_step f g (λ v. refl)

  count_same : (e : Expr) → count_use_of (filled_expr f e) ≡ count_use_of (filled_expr g e)
  count_same = agrees count_use_step f g (λ v. refl)

  own_same : (e : Expr) → own_name (filled_expr f e) ≡ own_name (filled_expr g e)
  own_same = agrees own_name_step f g (λ v. refl)

  kind_same : (scope : List InScope) (e : Expr) (b : Bool) → kind scope (filled_expr f e) b ≡ kind scope (filled_expr g e) b
  kind_same scope e b =
      let is : kind scope (filled_expr f e) ≡ kind scope (filled_expr g e) =
      agrees (kind_step scope) f g (λ v. ap {B = Bool → Option Kind} (λ (k : Kind). λ (over_groups : Bool). Some k) (same v)) e in
      ap {B = Option Kind} (λ (k : Bool → Option Kind). k b) is

  -- parts of a core
  picks_names : (es : List Expr) → flat_map names_in (filled_exprs f es) ≡ flat_map names_in (filled_exprs g es)
  picks_names es = flat_same (filled_expr f) (filled_expr g) names_in names_same es

  pick_names : (o : Option Expr) → flat_map names_in (option_to_list (filled_pick f o)) ≡ flat_map names_in (option_to_list (filled_pick g o))
  pick_names None = refl
  pick_names (Some e) = picks_names (e ∷ [])

  pick_outer : (o : Option Expr) → flat_map outer_names (option_to_list (filled_pick f o)) ≡ flat_map outer_names (option_to_list (filled_pick g o))
  pick_outer None = refl
  pick_outer (Some e) = flat_same (filled_expr f) (filled_expr g) outer_names outer_same (e ∷ [])

  items_names : (o : Option (List Item)) → names_of_items (unwrap_or (filled_items f o) []) ≡ names_of_items (unwrap_or (filled_items g o) [])
  items_names None = refl
  items_names (Some items) = flat_same (filled_item f) (filled_item g) (λ item. names_in item.expr) (λ item. names_same item.expr) items

  core_names_same : (core : Core) → core_names (filled_core f core) ≡ core_names (filled_core g core)
  core_names_same core =
      ap (λ (l : List ColumnName). l ++ (flat_map names_in (filled_exprs f core.picks) ++ (core.group ++ flat_map names_in (option_to_list (filled_pick f core.having))))) (items_names core.items)
      ∙ ap (λ (l : List ColumnName). names_of_items (unwrap_or (filled_items g core.items) []) ++ (l ++ (core.group ++ flat_map names_in (option_to_list (filled_pick f core.having))))) (picks_names core.picks)
      ∙ ap (λ (l : List ColumnName). names_of_items (unwrap_or (filled_items g core.items) []) ++ (flat_map names_in (filled_exprs g core.picks) ++ (core.group ++ l))) (pick_names core.having)

  core_places_same : (catalog : Catalog) (core : Core) → core_places catalog (filled_core f core) ≡ core_places catalog (filled_core g core)
  core_places_same catalog core = ap (places_in (scope_of core.from catalog)) (core_names_same core)

  having_there : (o : Option Expr) → is_some (filled_pick f o) ≡ is_some (filled_pick g o)
  having_there None = refl
  having_there (Some e) = refl

  items_aggregate : (o : Option (List Item)) → list_any (λ item. has_aggregate item.expr) (unwrap_or (filled_items f o) []) ≡ list_any (λ item. has_aggregate item.expr) (unwrap_or (filled_items g o) [])
  items_aggregate None = refl
  items_aggregate (Some items) = any_same (filled_item f) (filled_item g) (λ item. has_aggregate item.expr) (λ item. aggregate_same item.expr) items

  groups_same : (core : Core) → groups (filled_core f core) ≡ groups (filled_core g core)
  groups_same core =
      ap (λ b. not (length core.group == 0) || (b || list_any (λ item. has_aggregate item.expr) (unwrap_or (filled_items f core.items) []))) (having_there core.having)
      ∙ ap (λ b. not (length core.group == 0) || (is_some (filled_pick g core.having) || b)) (items_aggregate core.items)

  item_places_same : (scope : List InScope) (o : Option (List Item)) → item_places scope (filled_items f o) ≡ item_places scope (filled_items g o)
  item_places_same scope None = refl
  item_places_same scope (Some items) = ap (places_in scope) (flat_same (filled_item f) (filled_item g) (λ item. outer_names item.expr) (λ item. outer_same item.expr) items)

  ungrouped_same : (scope : List InScope) (core : Core) → has_ungrouped_column scope (filled_core f core) ≡ has_ungrouped_column scope (filled_core g core)
  ungrouped_same scope core =
      ap (λ b. b && not (list_all (is_grouped scope core) (item_places scope (filled_items f core.items) ++ having_places scope (filled_pick f core.having)))) (groups_same core)
      ∙ ap (λ (l : List ℕ). groups (filled_core g core) && not (list_all (is_grouped scope core) (l ++ having_places scope (filled_pick f core.having)))) (item_places_same scope core.items)
      ∙ ap (λ (l : List ColumnName). groups (filled_core g core) && not (list_all (is_grouped scope core) (item_places scope (filled_items g core.items) ++ places_in scope l))) (pick_outer core.having)

  core_lacks_same : (catalog : Catalog) (core : Core) → core_lacks_column catalog (filled_core f core) ≡ core_lacks_column catalog (filled_core g core)
  core_lacks_same catalog core =
      let scope : List InScope = scope_of core.from catalog in
      ap (λ (l : List ColumnName). has_unresolved_name scope l || has_ungrouped_column scope (filled_core f core)) (core_names_same core)
      ∙ ap (λ b. has_unresolved_name scope (core_names (filled_core g core)) || b) (ungrouped_same scope core)

  columns_same : (scope : List InScope) (o : Option (List Item)) → item_columns scope (filled_items f o) ≡ item_columns scope (filled_items g o)
  columns_same scope None = refl
  columns_same scope (Some items) = map_same (filled_item f) (filled_item g) (λ item. item_name item.name item.expr) (λ item. named item.name item.expr) items
    where
      named : (o : Option (List ℕ)) (e : Expr) → item_name o (filled_expr f e) ≡ item_name o (filled_expr g e)
      named None e = own_same e
      named (Some n) e = refl

  titles_same : (catalog : Catalog) (cores : List Core) → answer_columns catalog (map (filled_core f) cores) ≡ answer_columns catalog (map (filled_core g) cores)
  titles_same catalog [] = refl
  titles_same catalog (core ∷ cores) = columns_same (scope_of core.from catalog) core.items

  query_lacks_same : (query : Query) (catalog : Catalog) → query_lacks_column (filled_query f query) catalog ≡ query_lacks_column (filled_query g query) catalog
  query_lacks_same query catalog =
      ap (λ b. b || not (list_all (λ (order : Order). is_order_key (answer_columns catalog (map (filled_core f) query.cores)) order.key) query.order))
      (any_same (filled_core f) (filled_core g) (core_lacks_column catalog) (core_lacks_same catalog) query.cores)
      ∙ ap (λ (titles : List (Option (List ℕ))). list_any (core_lacks_column catalog) (map (filled_core g) query.cores) || not (list_all (λ (order : Order). is_order_key titles order.key) query.order))
      (titles_same catalog query.cores)

  rows_names : (rows : List (List Expr)) → flat_map (flat_map names_in) (map (filled_exprs f) rows) ≡ flat_map (flat_map names_in) (map (filled_exprs g) rows)
  rows_names rows = flat_same (filled_exprs f) (filled_exprs g) (flat_map names_in) picks_names rows

  sets_names : (update : Update) → update_names (filled_update f update) ≡ update_names (filled_update g update)
  sets_names update =
      ap (λ (l : List ColumnName). l ++ flat_map names_in (option_to_list (filled_pick f update.pick))) (flat_same (filled_set f) (filled_set g) (λ set. names_in set.expr) (λ set. names_same set.expr) update.sets)
      ∙ ap (λ (l : List ColumnName). flat_map (λ set. names_in set.expr) (map (filled_set g) update.sets) ++ l) (pick_names update.pick)

  lacks_same : (t : Statement) (catalog : Catalog) → lacks_column (filled_statement f t) catalog ≡ lacks_column (filled_statement g t) catalog
  lacks_same (TheQuery query) catalog = query_lacks_same query catalog
  lacks_same (TheInsert insert) catalog =
      ap (λ (l : List ColumnName). not (list_all (has_column (columns_of (schema_at insert.table catalog))) (unwrap_or insert.columns [])) || has_unresolved_name [] l) (rows_names insert.rows)
  lacks_same (TheUpdate update) catalog =
      ap (λ b. not b || has_unresolved_name (own_scope update.table catalog) (update_names (filled_update f update)))
      (all_same (filled_set f) (filled_set g) (λ set. has_column (columns_of (schema_at update.table catalog)) set.column) (λ set. refl) update.sets)
      ∙ ap (λ (l : List ColumnName). not (list_all (λ set. has_column (columns_of (schema_at update.table catalog)) set.column) (map (filled_set g) update.sets)) || has_unresolved_name (own_scope update.table catalog) l) (sets_names update)
  lacks_same (TheDelete delete) catalog = ap (has_unresolved_name (own_scope delete.table catalog)) (pick_names delete.pick)

  -- tables
  tables_same : (t : Statement) → tables_of (filled_statement f t) ≡ tables_of (filled_statement g t)
  tables_same (TheQuery query) = flat_same (filled_core f) (filled_core g) tables_of_core (λ core. refl) query.cores
  tables_same (TheInsert insert) = refl
  tables_same (TheUpdate update) = refl
  tables_same (TheDelete delete) = refl

  doubles_same : (t : Statement) → list_any doubles_source (cores_of (filled_statement f t)) ≡ list_any doubles_source (cores_of (filled_statement g t))
  doubles_same (TheQuery query) = any_same (filled_core f) (filled_core g) doubles_source (λ core. refl) query.cores
  doubles_same (TheInsert insert) = refl
  doubles_same (TheUpdate update) = refl
  doubles_same (TheDelete delete) = refl

  lacks_table_same : (t : Statement) (catalog : Catalog) → lacks_table (filled_statement f t) catalog ≡ lacks_table (filled_statement g t) catalog
  lacks_table_same t catalog =
      ap (λ (l : List (List ℕ)). list_any (is_missing catalog) l || list_any doubles_source (cores_of (filled_statement f t))) (tables_same t)
      ∙ ap (λ b. list_any (is_missing catalog) (tables_of (filled_statement g t)) || b) (doubles_same t)

  -- kinds
  is_pick_same : (scope : List InScope) (e : Expr) → is_pick scope (filled_expr f e) ≡ is_pick scope (filled_expr g e)
  is_pick_same scope e = ap is_condition (kind_same scope e false)

  pick_fits_same : (scope : List InScope) (o : Option Expr) → pick_fits scope (filled_pick f o) ≡ pick_fits scope (filled_pick g o)
  pick_fits_same scope None = refl
  pick_fits_same scope (Some e) = all_same (filled_expr f) (filled_expr g) (is_pick scope) (is_pick_same scope) (e ∷ [])

  having_fits : (scope : List InScope) (o : Option Expr) → list_all (is_having scope) (option_to_list (filled_pick f o)) ≡ list_all (is_having scope) (option_to_list (filled_pick g o))
  having_fits scope None = refl
  having_fits scope (Some e) = all_same (filled_expr f) (filled_expr g) (is_having scope) (λ e. ap is_condition (kind_same scope e true)) (e ∷ [])

  counts_same : (e : Expr) → counts (filled_expr f e) ≡ counts (filled_expr g e)
  counts_same e = ap (λ (u : CountUse). u.counts_rows) (count_same e)

  items_count : (o : Option (List Item)) → list_any (λ item. counts item.expr) (unwrap_or (filled_items f o) []) ≡ list_any (λ item. counts item.expr) (unwrap_or (filled_items g o) [])
  items_count None = refl
  items_count (Some items) = any_same (filled_item f) (filled_item g) (λ item. counts item.expr) (λ item. counts_same item.expr) items

  having_counts : (o : Option Expr) → list_any counts (option_to_list (filled_pick f o)) ≡ list_any counts (option_to_list (filled_pick g o))
  having_counts None = refl
  having_counts (Some e) = any_same (filled_expr f) (filled_expr g) counts counts_same (e ∷ [])

  joined_same : (core : Core) → counts_joined (filled_core f core) ≡ counts_joined (filled_core g core)
  joined_same core =
      ap (λ b. nat_le 2 (length core.from) && (b || list_any counts (option_to_list (filled_pick f core.having)))) (items_count core.items)
      ∙ ap (λ b. nat_le 2 (length core.from) && (list_any (λ item. counts item.expr) (unwrap_or (filled_items g core.items) []) || b)) (having_counts core.having)

  fit_same : (scope : List InScope) (core : Core) → conditions_fit scope (filled_core f core) ≡ conditions_fit scope (filled_core g core)
  fit_same scope core =
      ap (λ b. b && (list_all (is_having scope) (option_to_list (filled_pick f core.having)) && not (counts_joined (filled_core f core)))) (all_same (filled_expr f) (filled_expr g) (is_pick scope) (is_pick_same scope) core.picks)
      ∙ ap (λ b. list_all (is_pick scope) (filled_exprs g core.picks) && (b && not (counts_joined (filled_core f core)))) (having_fits scope core.having)
      ∙ ap (λ b. list_all (is_pick scope) (filled_exprs g core.picks) && (list_all (is_having scope) (option_to_list (filled_pick g core.having)) && not b)) (joined_same core)

  items_kinds : (scope : List InScope) (items : List Item) → kinds_of_items scope (map (filled_item f) items) ≡ kinds_of_items scope (map (filled_item g) items)
  items_kinds scope [] = refl
  items_kinds scope (item ∷ items) =
      ap (λ (k : Option Kind). option_and_then (λ k. option_map (λ ks. k ∷ ks) (kinds_of_items scope (map (filled_item f) items))) (kind_of_item k)) (kind_same scope item.expr true)
      ∙ ap (λ (o : Option (List Kind)). option_and_then (λ k. option_map (λ ks. k ∷ ks) o) (kind_of_item (group_kind scope (filled_expr g item.expr)))) (items_kinds scope items)

  item_kinds_same : (scope : List InScope) (o : Option (List Item)) → item_kinds scope (filled_items f o) ≡ item_kinds scope (filled_items g o)
  item_kinds_same scope None = refl
  item_kinds_same scope (Some items) = items_kinds scope items

  core_kinds_same : (catalog : Catalog) (core : Core) → core_kinds catalog (filled_core f core) ≡ core_kinds catalog (filled_core g core)
  core_kinds_same catalog core =
      let scope : List InScope = scope_of core.from catalog in
      ap (λ b. if b then item_kinds scope (filled_items f core.items) else None) (fit_same scope core)
      ∙ ap (λ (o : Option (List Kind)). if conditions_fit scope (filled_core g core) then o else None) (item_kinds_same scope core.items)

  after_same : (catalog : Catalog) (ks : Option (List Kind)) (cores : List Core) → kinds_after catalog ks (map (filled_core f) cores) ≡ kinds_after catalog ks (map (filled_core g) cores)
  after_same catalog ks [] = refl
  after_same catalog ks (core ∷ cores) =
      ap (λ (o : Option (List Kind)). kinds_after catalog (option_and_then (λ ks. option_and_then (union_kinds ks) o) ks) (map (filled_core f) cores)) (core_kinds_same catalog core)
      ∙ after_same catalog (option_and_then (λ ks. option_and_then (union_kinds ks) (core_kinds catalog (filled_core g core))) ks) cores

  query_kinds_same : (catalog : Catalog) (cores : List Core) → query_kinds catalog (map (filled_core f) cores) ≡ query_kinds catalog (map (filled_core g) cores)
  query_kinds_same catalog [] = refl
  query_kinds_same catalog (core ∷ cores) =
      ap (λ (o : Option (List Kind)). kinds_after catalog o (map (filled_core f) cores)) (core_kinds_same catalog core)
      ∙ after_same catalog (core_kinds catalog (filled_core g core)) cores

  takes_all : (columns : List Column) (es : List Expr) → list_all takes_value (zip columns (filled_exprs f es)) ≡ list_all takes_value (zip columns (filled_exprs g es))
  takes_all [] es = refl
  takes_all (column ∷ columns) [] = refl
  takes_all (column ∷ columns) (e ∷ es) =
      ap (λ (k : Option Kind). takes column k && list_all takes_value (zip columns (filled_exprs f es))) (kind_same [] e false)
      ∙ ap (λ b. takes_value (column, filled_expr g e) && b) (takes_all columns es)

  count_exprs : (es : List Expr) → length (filled_exprs f es) ≡ length (filled_exprs g es)
  count_exprs [] = refl
  count_exprs (e ∷ es) = ap (λ (n : ℕ). suc n) (count_exprs es)

  row_fits_same : (columns : List Column) (es : List Expr) → row_fits columns (filled_exprs f es) ≡ row_fits columns (filled_exprs g es)
  row_fits_same columns es =
      ap (λ n. n == length columns && list_all takes_value (zip columns (filled_exprs f es))) (count_exprs es)
      ∙ ap (λ b. length (filled_exprs g es) == length columns && b) (takes_all columns es)

  sets_fit : (columns : List Column) (scope : List InScope) (set : Set) → set_fits columns scope (filled_set f set) ≡ set_fits columns scope (filled_set g set)
  sets_fit columns scope set = ap (takes_set (find (is_column set.column) columns)) (kind_same scope set.expr false)

  clashes_same : (t : Statement) (catalog : Catalog) → SameLimit f g t → clashes (filled_statement f t) catalog ≡ clashes (filled_statement g t) catalog
  clashes_same (TheQuery query) catalog limit =
      ap (λ (o : Option (List Kind)). is_none o || not (is_limit (filled_limit f query.limit))) (query_kinds_same catalog query.cores)
      ∙ ap (λ b. is_none (query_kinds catalog (map (filled_core g) query.cores)) || not b) limit
  clashes_same (TheInsert insert) catalog limit =
      ap (λ b. repeats same_text (unwrap_or insert.columns []) || not b)
      (all_same (filled_exprs f) (filled_exprs g) (row_fits (target_columns insert.columns (columns_of (schema_at insert.table catalog)))) (row_fits_same (target_columns insert.columns (columns_of (schema_at insert.table catalog)))) insert.rows)
  clashes_same (TheUpdate update) catalog limit =
      let columns : List Column = columns_of (schema_at update.table catalog) in
      let scope : List InScope = own_scope update.table catalog in
      ap (λ (l : List (List ℕ)). repeats same_text l || not (list_all (set_fits columns scope) (map (filled_set f) update.sets) && pick_fits scope (filled_pick f update.pick))) (map_same (filled_set f) (filled_set g) (λ set. set.column) (λ set. refl) update.sets)
      ∙ ap (λ b. repeats same_text (map (λ set. set.column) (map (filled_set g) update.sets)) || not (b && pick_fits scope (filled_pick f update.pick))) (all_same (filled_set f) (filled_set g) (set_fits columns scope) (sets_fit columns scope) update.sets)
      ∙ ap (λ b. repeats same_text (map (λ set. set.column) (map (filled_set g) update.sets)) || not (list_all (set_fits columns scope) (map (filled_set g) update.sets) && b)) (pick_fits_same scope update.pick)
  clashes_same (TheDelete delete) catalog limit = ap not (pick_fits_same (own_scope delete.table catalog) delete.pick)

  -- ---- what a check gives

  pub refusal_same : (t : Statement) (catalog : Catalog) → SameLimit f g t → check_refusal (filled_statement f t) catalog ≡ check_refusal (filled_statement g t) catalog
  refusal_same t catalog limit =
      ap (λ b. if b then Some NoTable else if lacks_column (filled_statement f t) catalog then Some NoColumn else if clashes (filled_statement f t) catalog then Some TypeClash else None) (lacks_table_same t catalog)
      ∙ ap (λ b. if lacks_table (filled_statement g t) catalog then Some NoTable else if b then Some NoColumn else if clashes (filled_statement f t) catalog then Some TypeClash else None) (lacks_same t catalog)
      ∙ ap (λ b. if lacks_table (filled_statement g t) catalog then Some NoTable else if lacks_column (filled_statement g t) catalog then Some NoColumn else if b then Some TypeClash else None) (clashes_same t catalog limit)

  pub places_same : (t : Statement) (catalog : Catalog) → places_of (filled_statement f t) catalog ≡ places_of (filled_statement g t) catalog
  places_same (TheQuery query) catalog =
      ap (λ (l : List (List ℕ)). l ++ order_places (answer_columns catalog (map (filled_core f) query.cores)) query.order ∷ []) (map_same (filled_core f) (filled_core g) (core_places catalog) (core_places_same catalog) query.cores)
      ∙ ap (λ (titles : List (Option (List ℕ))). map (core_places catalog) (map (filled_core g) query.cores) ++ order_places titles query.order ∷ []) (titles_same catalog query.cores)
  places_same (TheInsert insert) catalog = refl
  places_same (TheUpdate update) catalog = ap (λ (l : List ColumnName). places_in (own_scope update.table catalog) l ∷ []) (sets_names update)
  places_same (TheDelete delete) catalog = ap (λ (l : List ColumnName). places_in (own_scope delete.table catalog) l ∷ []) (pick_names delete.pick)
