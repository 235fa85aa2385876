-- Tests of all the names and places of the parts of a statement, part by part.
use Rattle.std.proofs.Common.{◌≡◌, ℕ, List, [], ◌∷◌, ◌++◌, ap, ◌∙◌, refl}
use Rattle.std.specs.Prelude.{Bool, ◌&&◌, ◌||◌, Some, option_to_list}
use Rattle.std.specs.List.{list_all, list_any, flat_map}
use Rattle.std.proofs.lemmas.List.{append-nil}
use Rattle.std.proofs.lemmas.List.Folds.{list_all-append, list_any-append}
use Rattle.sql_model.specs.declared.catalog.Catalog.{Catalog}
use Rattle.sql_model.specs.declared.expr.ColumnName.{ColumnName}
use Rattle.sql_model.specs.declared.expr.Expr.{Expr}
use Rattle.sql_model.specs.declared.statement.Core.{Core}
use Rattle.sql_model.specs.declared.statement.FromItem.{FromItem}
use Rattle.sql_model.specs.declared.statement.Insert.{Insert}
use Rattle.sql_model.specs.declared.statement.Item.{Item}
use Rattle.sql_model.specs.declared.statement.Update.{Update}
use Rattle.sql_model.specs.Kinds.{names_in, outer_names}
use Rattle.sql_model.specs.Refusals.{tables_of_core, is_missing, items_of, names_of_items, core_names, update_names, insert_names, item_places, having_places}
use Rattle.sql_model.specs.Scope.{InScope}
use Rattle.sql_check.specs.inner.Sources.{is_among, all_among}
use Rattle.sql_check.proofs.Lists.{list_all-flat_map, all_among-append}
use Rattle.ldv_value.proofs.Lists.{list_any-map}

-- ---- tables

pub missing_cores : (catalog : Catalog) (cores : List Core) → list_any (is_missing catalog) (flat_map tables_of_core cores) ≡ list_any (λ core. list_any (λ item. is_missing catalog item.table) core.from) cores
missing_cores catalog [] = refl
missing_cores catalog (core ∷ cores) =
    list_any-append (is_missing catalog) (tables_of_core core) (flat_map tables_of_core cores)
    ∙ (λ j. list_any-map (is_missing catalog) (λ (item : FromItem). item.table) core.from j || missing_cores catalog cores j)

-- ---- names

module _ (p : ColumnName → Bool) where
  pub all_optional : (e : Expr) → list_all p (flat_map names_in (option_to_list (Some e))) ≡ list_all p (names_in e)
  all_optional e = ap (list_all p) (append-nil (names_in e))

  pub all_core_names : (core : Core) → list_all p (core_names core) ≡ (list_all (λ item. list_all p (names_in item.expr)) (items_of core) && (list_all (λ expr. list_all p (names_in expr)) core.picks && (list_all p core.group && list_all p (flat_map names_in (option_to_list core.having)))))
  all_core_names core =
      list_all-append p (names_of_items (items_of core)) (flat_map names_in core.picks ++ (core.group ++ flat_map names_in (option_to_list core.having)))
      ∙ (λ j. list_all-flat_map p (λ (item : Item). names_in item.expr) (items_of core) j && later j)
    where
      last : list_all p (core.group ++ flat_map names_in (option_to_list core.having)) ≡ (list_all p core.group && list_all p (flat_map names_in (option_to_list core.having)))
      last = list_all-append p core.group (flat_map names_in (option_to_list core.having))

      later : list_all p (flat_map names_in core.picks ++ (core.group ++ flat_map names_in (option_to_list core.having))) ≡ (list_all (λ expr. list_all p (names_in expr)) core.picks && (list_all p core.group && list_all p (flat_map names_in (option_to_list core.having))))
      later = list_all-append p (flat_map names_in core.picks) (core.group ++ flat_map names_in (option_to_list core.having)) ∙ (λ j. list_all-flat_map p names_in core.picks j && last j)

  pub all_update_names : (update : Update) → list_all p (update_names update) ≡ (list_all (λ set. list_all p (names_in set.expr)) update.sets && list_all p (flat_map names_in (option_to_list update.pick)))
  all_update_names update =
      list_all-append p (flat_map (λ set. names_in set.expr) update.sets) (flat_map names_in (option_to_list update.pick))
      ∙ ap (λ b. b && list_all p (flat_map names_in (option_to_list update.pick))) (list_all-flat_map p (λ set. names_in set.expr) update.sets)

  rows-names : (rows : List (List Expr)) → list_all p (flat_map (flat_map names_in) rows) ≡ list_all (λ row. list_all (λ expr. list_all p (names_in expr)) row) rows
  rows-names [] = refl
  rows-names (row ∷ rows) =
      list_all-append p (flat_map names_in row) (flat_map (flat_map names_in) rows)
      ∙ (λ j. list_all-flat_map p names_in row j && rows-names rows j)

  pub all_insert_names : (insert : Insert) → list_all p (insert_names insert) ≡ list_all (λ row. list_all (λ expr. list_all p (names_in expr)) row) insert.rows
  all_insert_names insert = rows-names insert.rows

-- ---- places

module _ (scope : List InScope) (places : List ℕ) where
  all_among-flat_map : (items : List Item) → all_among scope places (flat_map (λ item. outer_names item.expr) items) ≡ list_all (λ item. all_among scope places (outer_names item.expr)) items
  all_among-flat_map [] = refl
  all_among-flat_map (item ∷ items) =
      all_among-append scope places (outer_names item.expr) (flat_map (λ item. outer_names item.expr) items)
      ∙ ap (λ b. all_among scope places (outer_names item.expr) && b) (all_among-flat_map items)

  pub all_item_places : (items : List Item) → list_all (is_among places) (item_places scope (Some items)) ≡ list_all (λ item. all_among scope places (outer_names item.expr)) items
  all_item_places items = all_among-flat_map items

  pub all_optional_among : (e : Expr) → list_all (is_among places) (having_places scope (Some e)) ≡ all_among scope places (outer_names e)
  all_optional_among e = ap (all_among scope places) (append-nil (outer_names e))

pub all_both_places : (places as_ bs : List ℕ) → list_all (is_among places) (as_ ++ bs) ≡ (list_all (is_among places) as_ && list_all (is_among places) bs)
all_both_places places as_ bs = list_all-append (is_among places) as_ bs
