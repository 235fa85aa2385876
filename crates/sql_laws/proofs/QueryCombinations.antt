-- The combinations over tables without some rows are those whose rows all stay.
use Rattle.std.proofs.Common.{◌≡◌, ℕ, List, [], ◌∷◌, ◌++◌, refl, sym, ap, ◌∙◌, Bool, true, false, inl, inr}
use Rattle.std.specs.Prelude.{Option, Some, None, option_map, map, filter}
use Rattle.std.specs.List.{flat_map}
use Rattle.std.proofs.lemmas.List.Elements.{filter-append}
use Rattle.ldv_value.proofs.Cases.{cases-bool}
use Rattle.ldv_value.proofs.Lists.{filter-filter, found-passes}
use Rattle.ldv_value.proofs.SameBytes.{bytes_eq-true}
use Rattle.sql_laws.specs.Types.{Catalog, Core, FromItem, Query, TheQuery, Table, TableRow}
use Rattle.sql_model.specs.QueryAnswer.{Combination, combinations, combination_rows, meets_all, row_environment, picked}
use Rattle.sql_model.specs.Changes.{or_else}
use Rattle.sql_laws.specs.QueryLaw.{Keep, stays, cut_table, cut_tables}
use Rattle.sql_model.specs.Refusals.{check_refusal}
use Rattle.sql_model.specs.Scope.{InScope, is_table, table_at, rows_of, catalog_of, scope_of}
use Rattle.sql_model.specs.Statements.{refusal_of}
use Rattle.sql_laws.proofs.QueryKeeps.{all_kept}

module _ (keep : Keep) where
  -- ---- schemas, and what they refuse

  pub catalog_same : (db : List Table) → catalog_of (cut_tables keep db) ≡ catalog_of db
  catalog_same db = λ j. record { names = names db j; schemas = schemas db j }
    where
      names : (ts : List Table) → map (λ table. table.name) (cut_tables keep ts) ≡ map (λ table. table.name) ts
      names [] = refl
      names (t ∷ ts) = ap (λ (l : List (List ℕ)). t.name ∷ l) (names ts)

      schemas : (ts : List Table) → map (λ table. table.schema) (cut_tables keep ts) ≡ map (λ table. table.schema) ts
      schemas [] = refl
      schemas (t ∷ ts) = λ j. t.schema ∷ schemas ts j

  pub scope_same : (from : List FromItem) (db : List Table)
      → scope_of from (catalog_of (cut_tables keep db)) ≡ scope_of from (catalog_of db)
  scope_same from db = ap (scope_of from) (catalog_same db)

  pub refusal_same : (query : Query) (db : List Table)
      → refusal_of (Some (TheQuery query)) (cut_tables keep db) ≡ refusal_of (Some (TheQuery query)) db
  refusal_same query db = ap (λ (c : Catalog). or_else (or_else (check_refusal (TheQuery query) c) None) None) (catalog_same db)

  -- ---- combinations

  -- all rows of the combination stay
  abbrev pub kept_combination : List FromItem → Combination → Bool
  kept_combination from rows = all_kept keep (combination_rows from rows)

  pub table_cut : (name : List ℕ) (db : List Table)
      → table_at name (cut_tables keep db) ≡ option_map (cut_table keep) (table_at name db)
  table_cut name [] = refl
  table_cut name (t ∷ ts) = elim (cases-bool (is_table name t)) [
    | inl hit ↦ rw hit refl
    | inr miss ↦ rw miss (table_cut name ts)
  ]

  rows_cut : (name : List ℕ) (db : List Table)
      → rows_of (table_at name (cut_tables keep db)) ≡ filter (λ row. keep name row.number) (rows_of (table_at name db))
  rows_cut name db = ap rows_of (table_cut name db) ∙ by (table_at name db) refl
    where
      by : (o : Option Table) → table_at name db ≡ o
          → rows_of (option_map (cut_table keep) o) ≡ filter (λ row. keep name row.number) (rows_of o)
      by None found = refl
      by (Some t) found =
          let named : t.name ≡ name = bytes_eq-true t.name name (found-passes (is_table name) db t found) in
          ap (λ (n : List ℕ). filter (λ row. keep n row.number) t.rows) named

  abbrev with_row : TableRow → List Combination → List Combination
  with_row row others = map (λ rows. row ∷ rows) others

  with_kept : (item : FromItem) (from : List FromItem) (row : TableRow) → keep item.table row.number ≡ true
      → (others : List Combination)
      → with_row row (filter (kept_combination from) others) ≡ filter (kept_combination (item ∷ from)) (with_row row others)
  with_kept item from row stays [] = refl
  with_kept item from row stays (rows ∷ others) = elim (cases-bool (kept_combination from rows)) [
    | inl hit ↦ rw (stays, hit) (ap (λ (l : List Combination). (row ∷ rows) ∷ l) (with_kept item from row stays others))
    | inr miss ↦ rw (stays, miss) (with_kept item from row stays others)
  ]

  with_cut : (item : FromItem) (from : List FromItem) (row : TableRow) → keep item.table row.number ≡ false
      → (others : List Combination)
      → filter (kept_combination (item ∷ from)) (with_row row others) ≡ []
  with_cut item from row goes [] = refl
  with_cut item from row goes (rows ∷ others) = rw goes (with_cut item from row goes others)

  product_cut : (item : FromItem) (from : List FromItem) (others : List Combination) (rows : List TableRow)
      → flat_map (λ row. with_row row (filter (kept_combination from) others)) (filter (λ row. keep item.table row.number) rows)
      ≡ filter (kept_combination (item ∷ from)) (flat_map (λ row. with_row row others) rows)
  product_cut item from others [] = refl
  product_cut item from others (row ∷ rows) =
      let kept : List Combination → List Combination = filter (kept_combination (item ∷ from)) in
      let more : List Combination = flat_map (λ r. with_row r others) rows in
      let parts : kept (with_row row others ++ more) ≡ kept (with_row row others) ++ kept more = filter-append (kept_combination (item ∷ from)) (with_row row others) more in
      elim (cases-bool (keep item.table row.number)) [
        | inl stays ↦ rw stays ((λ j. with_kept item from row stays others j ++ product_cut item from others rows j) ∙ sym parts)
        | inr goes ↦ rw goes (product_cut item from others rows ∙ sym (ap (λ (l : List Combination). l ++ kept more) (with_cut item from row goes others)) ∙ sym parts)
      ]

  pub combinations_cut : (from : List FromItem) (db : List Table)
      → combinations from (cut_tables keep db) ≡ filter (kept_combination from) (combinations from db)
  combinations_cut [] db = refl
  combinations_cut (item ∷ from) db =
      (λ j. flat_map (λ row. with_row row (combinations_cut from db j)) (rows_cut item.table db j))
      ∙ product_cut item from (combinations from db) (rows_of (table_at item.table db))

  abbrev picks : Core → List InScope → Combination → Bool
  picks core scope rows = meets_all core.picks (row_environment scope rows)

  pub picked_cut : (core : Core) (db : List Table)
      → picked core (cut_tables keep db) ≡ filter (kept_combination core.from) (picked core db)
  picked_cut core db =
      (λ j. filter (picks core (scope_same core.from db j)) (combinations_cut core.from db j))
      ∙ filter-filter (picks core (scope_of core.from (catalog_of db))) (kept_combination core.from) (combinations core.from db)
