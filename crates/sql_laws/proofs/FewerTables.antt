-- A database without some unasked tables has each asked table unchanged, with all that its schema determines.
use Rattle.std.proofs.Common.{◌≡◌, ℕ, List, [], ◌∷◌, ◌++◌, refl, sym, ap, ◌∙◌, Bool, true, false, inl, inr}
use Rattle.std.specs.Prelude.{Option, Some, None, option_map, option_and_then, is_none, map, filter, find, not, ◌||◌, if◌then◌else◌}
use Rattle.std.specs.List.{flat_map, list_any, list_all}
use Rattle.ldv_value.proofs.Booleans.{and-parts, and-from, or-left, or-right}
use Rattle.ldv_value.proofs.Cases.{cases-bool}
use Rattle.ldv_value.proofs.Lists.{list_any-append}
use Rattle.ldv_value.proofs.SameBytes.{bytes_eq-true, bytes_eq-itself}
use Rattle.sql_laws.specs.Types.{Foreign, Kind, SqlRefusal, NoTable, NoColumn, TypeClash, Core, FromItem, Order, Statement, TheQuery, TheInsert, TheUpdate, TheDelete, Column, Table}
use Rattle.sql_model.proofs.Equations.{table_schema, schema_found}
use Rattle.sql_model.specs.Needs.{NeededRow, need_of, first_names, asked_names, is_asked, table_name, asked_tables}
use Rattle.sql_model.specs.Refusals.{tables_of_core, tables_of, is_missing, doubles_source, lacks_in_scope, item_columns, answer_columns, is_order_key, kinds_in_scope, core_kinds, union_kinds, kinds_after, query_kinds, is_limit, check_refusal, insert_lacks_column, update_lacks_column, has_unresolved_name, delete_names, insert_clashes, update_clashes, pick_fits}
use Rattle.sql_model.specs.Scope.{InScope, same_text, is_table, table_at, catalog_of, schema_at, columns_of, scope_of, own_scope}
use Rattle.sql_laws.specs.StatementLaw.{KeepTables, table_stays, KeepsAsked}
use Rattle.sql_laws.proofs.ParentTables.{named_taken, parent_taken, parents_there}

-- what some item has, the first has that is found
pub found_there : {X : Type 0} (p : X → Bool) (xs : List X) → list_any p xs ≡ true → (x : X) × (find p xs ≡ Some x)
found_there p [] there = cc
found_there p (x ∷ xs) there = elim (cases-bool (p x)) [
  | inl hit ↦ rw hit (x, refl)
  | inr miss ↦ rw miss (found_there p xs (rw miss at there))
]

module _ (tables : KeepTables) where
  abbrev pub fewer : List Table → List Table
  fewer db = filter (table_stays tables) db

  -- ---- tables by name

  -- where the table of the name is there, it stays
  abbrev pub Kept : List Table → List ℕ → Type 0
  Kept db name = list_any (is_table name) db ≡ true → tables name ≡ true

  pub found_kept : (name : List ℕ) (db : List Table) → Kept db name → table_at name (fewer db) ≡ table_at name db
  found_kept name [] kept = refl
  found_kept name (t ∷ ts) kept = elim (cases-bool (is_table name t)) [
    | inl hit ↦
        let named : t.name ≡ name = bytes_eq-true t.name name hit in
        let stays : tables t.name ≡ true = ap tables named ∙ kept (or-left (is_table name t) (list_any (is_table name) ts) hit) in
        rw (stays, hit) refl
    | inr miss ↦
        let more : table_at name (fewer ts) ≡ table_at name ts = found_kept name ts (λ is. kept (or-right (is_table name t) (list_any (is_table name) ts) is)) in
        elim (cases-bool (tables t.name)) [
          | inl stays ↦ rw (stays, miss) more
          | inr goes ↦ rw (goes, miss) more
        ]
  ]

  -- a table that is asked stays
  pub asked_kept : (names : List (List ℕ)) (db : List Table) → KeepsAsked tables (map table_name (filter (is_asked names) db))
      → (name : List ℕ) → list_any (same_text name) names ≡ true → Kept db name
  asked_kept names [] k name among there = cc
  asked_kept names (t ∷ ts) k name among there = elim (cases-bool (is_table name t)) [
    | inl hit ↦
        let named : t.name ≡ name = bytes_eq-true t.name name hit in
        let asked : is_asked names t ≡ true = ap (λ (n : List ℕ). list_any (same_text n) names) named ∙ among in
        let kk : KeepsAsked tables (t.name ∷ map table_name (filter (is_asked names) ts)) = rw asked at k in
        sym (ap tables named) ∙ kk.0
    | inr miss ↦
        let later : list_any (is_table name) ts ≡ true = rw miss at there in
        elim (cases-bool (is_asked names t)) [
          | inl asked ↦ let kk : KeepsAsked tables (t.name ∷ map table_name (filter (is_asked names) ts)) = rw asked at k in asked_kept names ts kk.1 name among later
          | inr unasked ↦ let kk : KeepsAsked tables (map table_name (filter (is_asked names) ts)) = rw unasked at k in asked_kept names ts kk name among later
        ]
  ]

  -- all names that are asked are those of tables, so these stay
  pub all_asked_kept : (names : List (List ℕ)) (db : List Table) → KeepsAsked tables (map table_name (filter (is_asked names) db))
      → list_all (λ (name : List ℕ). list_any (is_table name) db) names ≡ true → list_all tables names ≡ true
  all_asked_kept names db k there = by names (λ name is. is) there
    where
      by : (some : List (List ℕ)) → ((name : List ℕ) → list_any (same_text name) some ≡ true → list_any (same_text name) names ≡ true)
          → list_all (λ (name : List ℕ). list_any (is_table name) db) some ≡ true → list_all tables some ≡ true
      by [] among all = refl
      by (name ∷ some) among all =
          let both = and-parts (list_any (is_table name) db) (list_all (λ (n : List ℕ). list_any (is_table n) db) some) all in
          let own : list_any (same_text name) names ≡ true = among name (or-left (same_text name name) (list_any (same_text name) some) (bytes_eq-itself name)) in
          and-from (tables name) (list_all tables some) (asked_kept names db k name own both.0)
          (by some (λ n is. among n (or-right (same_text n name) (list_any (same_text n) some) is)) both.1)

  -- each of the names finds its table
  abbrev pub Agrees : List Table → List (List ℕ) → Type 0
  Agrees db [] = Unit {0}
  Agrees db (name ∷ names) = (table_at name (fewer db) ≡ table_at name db) × Agrees db names

  pub agree_kept : (db : List Table) (names : List (List ℕ)) → ((name : List ℕ) → list_any (same_text name) names ≡ true → Kept db name)
      → Agrees db names
  agree_kept db [] kept = tt
  agree_kept db (name ∷ names) kept = (
    found_kept name db (kept name (or-left (same_text name name) (list_any (same_text name) names) (bytes_eq-itself name))),
    agree_kept db names (λ n is. kept n (or-right (same_text n name) (list_any (same_text n) names) is)),
  )

  -- ---- the tables that a statement asks

  module _ (statement : Statement) (db : List Table) (k : KeepsAsked tables (asked_tables (Some statement) db)) where
    -- one that is named or of which a row is needed stays
    pub first_kept : (name : List ℕ) → list_any (same_text name) (first_names statement db) ≡ true → Kept db name
    first_kept name among there =
        let found = found_there (is_table name) db there in
        asked_kept (asked_names statement db) db k name (named_taken (first_names statement db) db name found.0 found.1 among) there

    -- so do the parents of one that is named
    pub parent_kept : (t : Table) → table_at t.name db ≡ Some t → list_any (same_text t.name) (tables_of statement) ≡ true
        → (parent : List ℕ) → list_any (λ (f : Foreign). same_text f.parent parent) t.schema.foreign ≡ true → Kept db parent
    parent_kept t is named parent refers there =
        let found = found_there (is_table parent) db there in
        let first : list_any (same_text t.name) (first_names statement db) ≡ true =
        list_any-append (same_text t.name) (tables_of statement) (map (λ (need : NeededRow). need.table) (need_of (Some statement) db))
        ∙ or-left (list_any (same_text t.name) (tables_of statement)) (list_any (same_text t.name) (map (λ (need : NeededRow). need.table) (need_of (Some statement) db))) named in
        let own : list_any (same_text t.name) (asked_names statement db) ≡ true = named_taken (first_names statement db) db t.name t is first in
        asked_kept (asked_names statement db) db k parent
        (parent_taken (first_names statement db) db t.name parent t found.0 is found.1 refers own) there

    pub agree_all : Agrees db (tables_of statement)
    agree_all = agree_kept db (tables_of statement) (λ name among. first_kept name
        (list_any-append (same_text name) (tables_of statement) (map (λ (need : NeededRow). need.table) (need_of (Some statement) db))
        ∙ or-left (list_any (same_text name) (tables_of statement)) (list_any (same_text name) (map (λ (need : NeededRow). need.table) (need_of (Some statement) db))) among))

    pub names_stay : list_all tables (asked_names statement db) ≡ true
    names_stay = all_asked_kept (asked_names statement db) db k (parents_there (first_names statement db) db)

  pub agree_split : (db : List Table) (xs ys : List (List ℕ)) → Agrees db (xs ++ ys)
      → Agrees db xs × Agrees db ys
  agree_split db [] ys k = (tt, k)
  agree_split db (x ∷ xs) ys k = let more = agree_split db xs ys k.1 in ((k.0, more.0), more.1)

  -- the tables that are asked are asked there too
  pub asked_same : (asks : Table → Bool) (db : List Table)
      → KeepsAsked tables (map table_name (filter asks db))
      → map table_name (filter asks (fewer db)) ≡ map table_name (filter asks db)
  asked_same asks [] k = refl
  asked_same asks (t ∷ ts) k = elim (cases-bool (asks t)) [
    | inl asked ↦
        let kk : KeepsAsked tables (t.name ∷ map table_name (filter asks ts)) = rw asked at k in
        rw (kk.0, asked) (ap (λ (l : List (List ℕ)). t.name ∷ l) (asked_same asks ts kk.1))
    | inr unasked ↦ let kk : KeepsAsked tables (map table_name (filter asks ts)) = rw unasked at k in elim (cases-bool (tables t.name)) [
      | inl stays ↦ rw (stays, unasked) (asked_same asks ts kk)
      | inr goes ↦ rw (goes, unasked) (asked_same asks ts kk)
    ]
  ]

  -- ---- schemas

  pub schema_same : (name : List ℕ) (db : List Table) → table_at name (fewer db) ≡ table_at name db
      → schema_at name (catalog_of (fewer db)) ≡ schema_at name (catalog_of db)
  schema_same name db found = schema_found name (fewer db) ∙ ap (option_map table_schema) found ∙ sym (schema_found name db)

  abbrev pub from_tables : List FromItem → List (List ℕ)
  from_tables from = map (λ item. item.table) from

  abbrev entry : FromItem → Column → InScope
  entry item column = record { source = item.name; column = column }

  pub scope_same : (from : List FromItem) (db : List Table) → Agrees db (from_tables from)
      → scope_of from (catalog_of (fewer db)) ≡ scope_of from (catalog_of db)
  scope_same [] db k = refl
  scope_same (item ∷ from) db k =
      let schema : schema_at item.table (catalog_of (fewer db)) ≡ schema_at item.table (catalog_of db) = schema_same item.table db k.0 in
      λ j. map (entry item) (columns_of (schema j)) ++ scope_same from db k.1 j

  pub own_same : (name : List ℕ) (db : List Table) → table_at name (fewer db) ≡ table_at name db
      → own_scope name (catalog_of (fewer db)) ≡ own_scope name (catalog_of db)
  own_same name db found = scope_same (record { table = name; name = name } ∷ []) db (found, tt)

  missing_same : (names : List (List ℕ)) (db : List Table) → Agrees db names
      → list_any (is_missing (catalog_of (fewer db))) names ≡ list_any (is_missing (catalog_of db)) names
  missing_same [] db k = refl
  missing_same (name ∷ names) db k =
      let schema : schema_at name (catalog_of (fewer db)) ≡ schema_at name (catalog_of db) = schema_same name db k.0 in
      λ j. is_none (schema j) || missing_same names db k.1 j

  -- a test of cores that looks at the scope alone
  cores_same : (test : List InScope → Core → Bool) (db : List Table) (cores : List Core)
      → Agrees db (flat_map tables_of_core cores)
      → list_any (λ core. test (scope_of core.from (catalog_of (fewer db))) core) cores
      ≡ list_any (λ core. test (scope_of core.from (catalog_of db)) core) cores
  cores_same test db [] k = refl
  cores_same test db (core ∷ cores) k =
      let both = agree_split db (tables_of_core core) (flat_map tables_of_core cores) k in
      let scope : scope_of core.from (catalog_of (fewer db)) ≡ scope_of core.from (catalog_of db) = scope_same core.from db both.0 in
      λ j. test (scope j) core || cores_same test db cores both.1 j

  -- ---- what a query's schemas refuse

  pub titles_same : (cores : List Core) (db : List Table) → Agrees db (flat_map tables_of_core cores)
      → answer_columns (catalog_of (fewer db)) cores ≡ answer_columns (catalog_of db) cores
  titles_same [] db k = refl
  titles_same (core ∷ cores) db k =
      let both = agree_split db (tables_of_core core) (flat_map tables_of_core cores) k in
      ap (λ (scope : List InScope). item_columns scope core.items) (scope_same core.from db both.0)

  kinds_more : (kinds : Option (List Kind)) (cores : List Core) (db : List Table)
      → Agrees db (flat_map tables_of_core cores)
      → kinds_after (catalog_of (fewer db)) kinds cores ≡ kinds_after (catalog_of db) kinds cores
  kinds_more kinds [] db k = refl
  kinds_more kinds (core ∷ cores) db k =
      let both = agree_split db (tables_of_core core) (flat_map tables_of_core cores) k in
      let scope : scope_of core.from (catalog_of (fewer db)) ≡ scope_of core.from (catalog_of db) = scope_same core.from db both.0 in
      (λ j. kinds_after (catalog_of (fewer db)) (option_and_then (λ (ks : List Kind). option_and_then (union_kinds ks) (kinds_in_scope (scope j) core)) kinds) cores)
      ∙ kinds_more (option_and_then (λ (ks : List Kind). option_and_then (union_kinds ks) (core_kinds (catalog_of db) core)) kinds) cores db both.1

  kinds_same : (cores : List Core) (db : List Table) → Agrees db (flat_map tables_of_core cores)
      → query_kinds (catalog_of (fewer db)) cores ≡ query_kinds (catalog_of db) cores
  kinds_same [] db k = refl
  kinds_same (core ∷ cores) db k =
      let both = agree_split db (tables_of_core core) (flat_map tables_of_core cores) k in
      let scope : scope_of core.from (catalog_of (fewer db)) ≡ scope_of core.from (catalog_of db) = scope_same core.from db both.0 in
      (λ j. kinds_after (catalog_of (fewer db)) (kinds_in_scope (scope j) core) cores)
      ∙ kinds_more (core_kinds (catalog_of db) core) cores db both.1

  -- ---- what the schemas refuse

  abbrev first_of : Bool → Bool → Bool → Option SqlRefusal
  first_of two three four = if two then Some NoTable else (if three then Some NoColumn else (if four then Some TypeClash else None))

  pub check_same : (statement : Statement) (db : List Table) → Agrees db (tables_of statement)
      → check_refusal statement (catalog_of (fewer db)) ≡ check_refusal statement (catalog_of db)
  check_same (TheQuery query) db k =
      let missing = missing_same (tables_of (TheQuery query)) db k in
      let lacks : list_any (λ core. lacks_in_scope (scope_of core.from (catalog_of (fewer db))) core) query.cores ≡ list_any (λ core. lacks_in_scope (scope_of core.from (catalog_of db)) core) query.cores = cores_same lacks_in_scope db query.cores k in
      let titles = titles_same query.cores db k in
      let kinds = kinds_same query.cores db k in
      λ j. first_of (missing j || list_any doubles_source query.cores) (lacks j || not (list_all (λ (order : Order). is_order_key (titles j) order.key) query.order)) (is_none (kinds j) || not (is_limit query.limit))
  check_same (TheInsert insert) db k =
      let schema : schema_at insert.table (catalog_of (fewer db)) ≡ schema_at insert.table (catalog_of db) = schema_same insert.table db k.0 in
      λ j. first_of ((is_none (schema j) || false) || false) (insert_lacks_column insert (columns_of (schema j))) (insert_clashes insert (columns_of (schema j)))
  check_same (TheUpdate update) db k =
      let schema : schema_at update.table (catalog_of (fewer db)) ≡ schema_at update.table (catalog_of db) = schema_same update.table db k.0 in
      let scope : own_scope update.table (catalog_of (fewer db)) ≡ own_scope update.table (catalog_of db) = own_same update.table db k.0 in
      λ j. first_of ((is_none (schema j) || false) || false) (update_lacks_column update (columns_of (schema j)) (scope j)) (update_clashes update (columns_of (schema j)) (scope j))
  check_same (TheDelete delete) db k =
      let schema : schema_at delete.table (catalog_of (fewer db)) ≡ schema_at delete.table (catalog_of db) = schema_same delete.table db k.0 in
      let scope : own_scope delete.table (catalog_of (fewer db)) ≡ own_scope delete.table (catalog_of db) = own_same delete.table db k.0 in
      λ j. first_of ((is_none (schema j) || false) || false) (has_unresolved_name (scope j) (delete_names delete)) (not (pick_fits (scope j) delete.pick))
