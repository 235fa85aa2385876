-- The table that a statement changes, in a database and in the cut database.
use Rattle.std.proofs.Common.{◌≡◌, ℕ, List, [], ◌∷◌, refl, sym, ap, ◌∙◌, Bool, true, inl, inr}
use Rattle.std.specs.Prelude.{Option, Some, None, option_map, map, filter, ◌++◌}
use Rattle.std.specs.List.{list_any, list_all}
use Rattle.std.proofs.lemmas.Bool.{cases_Bool, and_parts}
use Rattle.sql_model.specs.declared.statement.Statement.TheVariants.{Query as TheQuery, Insert as TheInsert, Update as TheUpdate, Delete as TheDelete}
use Rattle.sql_model.specs.ForeignKeys.{have_parents}
use Rattle.sql_model.specs.Needs.{NeededRow, need_of, first_names, asked_names, is_asked, table_name, asked_tables}
use Rattle.sql_model.specs.Refusals.{tables_of}
use Rattle.sql_model.specs.Scope.{same_text, is_table, table_at, catalog_of}
use Rattle.sql_model.specs.Statements.{target}
use Rattle.ldv_value.specs.Sorted.{is_strictly_sorted}
use Rattle.ldv_value.proofs.Booleans.{or-left}
use Rattle.ldv_value.proofs.SameBytes.{bytes_eq-true, bytes_eq-itself}
use Rattle.sql_model.specs.Tables.{is_valid_table, table_precedes, are_tables, is_database}
use Rattle.sql_laws.specs.StatementLaw.{KeepsAsked}
use Rattle.sql_laws.proofs.ParentTables.{named_taken}
use Rattle.run_laws.specs.Types.{Statement, Table}
use Rattle.run_model.specs.Between.{Cut, cut_table, cut_tables}

-- ---- tables by name

-- a table that is found is one of those that pass the test, where all do
pub table_passes : (p : Table → Bool) (name : List ℕ) (db : List Table) (t : Table) → list_all p db ≡ true
    → table_at name db ≡ Some t → p t ≡ true
table_passes p name [] t all is = cc
table_passes p name (u ∷ us) t all is =
    let both = and_parts (p u) (list_all p us) all in
    elim (cases_Bool (is_table name u)) [
      | inl hit ↦ let e : Some u ≡ Some t = rw hit at is in let same : u ≡ t = cc in ap p (sym same) ∙ both.0
      | inr miss ↦ table_passes p name us t both.1 (rw miss at is)
    ]

pub valid_table : (name : List ℕ) (db : List Table) (t : Table) → is_database db ≡ true → table_at name db ≡ Some t
    → is_valid_table t ≡ true
valid_table name db t valid is =
    let tables : are_tables db ≡ true = (and_parts (are_tables db) (have_parents (catalog_of db)) valid).0 in
    table_passes is_valid_table name db t (and_parts (list_all is_valid_table db) (is_strictly_sorted table_precedes db) tables).0 is

module _ (cut : Cut) (name : List ℕ) where
  -- a table that stays is found as it was, but for the rows that are cut
  found_cut : cut.table name ≡ true → (db : List Table)
      → table_at name (cut_tables cut db) ≡ option_map (cut_table cut) (table_at name db)
  found_cut stays [] = refl
  found_cut stays (t ∷ ts) = elim (cases_Bool (is_table name t)) [
    | inl hit ↦
        let here : cut.table t.name ≡ true = ap cut.table (bytes_eq-true t.name name hit) ∙ stays in
        rw (here, hit) refl
    | inr miss ↦ elim (cases_Bool (cut.table t.name)) [
      | inl here ↦ rw (here, miss) (found_cut stays ts)
      | inr goes ↦ rw (goes, miss) (found_cut stays ts)
    ]
  ]

  none_cut : (db : List Table) → table_at name db ≡ None → table_at name (cut_tables cut db) ≡ None
  none_cut [] none = refl
  none_cut (t ∷ ts) none = elim (cases_Bool (is_table name t)) [
    | inl hit ↦ let never : Some t ≡ None = rw hit at none in cc
    | inr miss ↦
        let rest : table_at name ts ≡ None = rw miss at none in
        elim (cases_Bool (cut.table t.name)) [
          | inl here ↦ rw (here, miss) (none_cut ts rest)
          | inr goes ↦ rw goes (none_cut ts rest)
        ]
  ]

  -- a table that is named and there stays
  asked_stays : (asks : Table → Bool) → ((t : Table) → is_table name t ≡ true → asks t ≡ true) → (db : List Table) (t : Table)
      → table_at name db ≡ Some t → KeepsAsked cut.table (map table_name (filter asks db)) → cut.table name ≡ true
  asked_stays asks named [] t is k = cc
  asked_stays asks named (u ∷ us) t is k = elim (cases_Bool (is_table name u)) [
    | inl hit ↦
        let kk : KeepsAsked cut.table (u.name ∷ map table_name (filter asks us)) = rw (named u hit) at k in
        ap cut.table (sym (bytes_eq-true u.name name hit)) ∙ kk.0
    | inr miss ↦ elim (cases_Bool (asks u)) [
      | inl asked ↦
          let kk : KeepsAsked cut.table (u.name ∷ map table_name (filter asks us)) = rw asked at k in
          asked_stays asks named us t (rw miss at is) kk.1
      | inr idle ↦ asked_stays asks named us t (rw miss at is) (rw idle at k)
    ]
  ]

  -- one whose name is asked
  at_cut : (names : List (List ℕ)) (db : List Table)
      → ((t : Table) → table_at name db ≡ Some t → list_any (same_text name) names ≡ true)
      → KeepsAsked cut.table (map table_name (filter (is_asked names) db))
      → table_at name (cut_tables cut db) ≡ option_map (cut_table cut) (table_at name db)
  at_cut names db asked k = by (table_at name db) refl
    where
      by : (o : Option Table) → table_at name db ≡ o → table_at name (cut_tables cut db) ≡ option_map (cut_table cut) (table_at name db)
      by None is = none_cut db is ∙ sym (ap (option_map (cut_table cut)) is)
      by (Some t) is =
          let named : (u : Table) → is_table name u ≡ true → is_asked names u ≡ true =
          λ u hit. ap (λ (n : List ℕ). list_any (same_text n) names) (bytes_eq-true u.name name hit) ∙ asked t is in
          found_cut (asked_stays (is_asked names) named db t is k) db

-- ---- a table that a statement names is asked

-- the one that it changes comes first
first_asked : (s : Statement) (name : List ℕ) (db : List Table) → tables_of s ≡ name ∷ [] → (t : Table) → table_at name db ≡ Some t
    → list_any (same_text name) (asked_names s db) ≡ true
first_asked s name db only t is =
    let needed : List (List ℕ) = map (λ (n : NeededRow). n.table) (need_of (Some s) db) in
    let among : list_any (same_text name) (first_names s db) ≡ true =
    ap (λ (l : List (List ℕ)). list_any (same_text name) (l ++ needed)) only
    ∙ or-left (same_text name name) (list_any (same_text name) needed) (bytes_eq-itself name) in
    named_taken (first_names s db) db name t is among

-- the table that a statement changes, where the tables that it asks stay
pub target_cut : (cut : Cut) (s : Statement) (db : List Table) → KeepsAsked cut.table (asked_tables (Some s) db)
    → target s (cut_tables cut db) ≡ option_map (cut_table cut) (target s db)
target_cut cut (TheQuery query) db k = refl
target_cut cut (TheInsert insert) db k =
    at_cut cut insert.table (asked_names (TheInsert insert) db) db (first_asked (TheInsert insert) insert.table db refl) k
target_cut cut (TheUpdate update) db k =
    at_cut cut update.table (asked_names (TheUpdate update) db) db (first_asked (TheUpdate update) update.table db refl) k
target_cut cut (TheDelete delete) db k =
    at_cut cut delete.table (asked_names (TheDelete delete) db) db (first_asked (TheDelete delete) delete.table db refl) k
