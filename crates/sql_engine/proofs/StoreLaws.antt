-- The tables and row versions of a store, as a statement sees them.
use Rattle.std.proofs.Common.{◌≡◌, ◌∙◌, sym, ap, refl, ℕ, List, [], ◌∷◌, map, Bool, true, false, Option, Some, None, inl, inr}
use Rattle.std.specs.Prelude.{find, ◌-◌, ◌||◌, if◌then◌else◌}
use Rattle.std.specs.List.{list_any, list_all, flat_map, AllByRecursion}
use Rattle.std.specs.List.Sorted.{IsStrictlySortedBy}
use Rattle.std.specs.Cmp.Lexicographic.{slice_cmp}
use Rattle.std.specs.Ordering.{nat_cmp}
use Rattle.std.proofs.lemmas.Bool.{cases_Bool}
use Rattle.dml_versions.proofs.StandingLaws.{updates-are}
use Rattle.dml_versions.specs.Versions.{versions_now, updates_in}
use Rattle.ldv_value.proofs.Booleans.{and-parts, or-right}
use Rattle.ldv_value.proofs.SameBytes.{bytes_eq-true, bytes_eq-itself}
use Rattle.query_eval.proofs.StoredSourceLaws.{names-sorted}
use Rattle.query_eval.specs.StoredSources.{table_names, version_in, TellVersions}
use Rattle.sql_engine.proofs.NeedLaws.{AreNamedIn}
use Rattle.sql_engine.specs.inner.Answering.{hidden_lineage}
use Rattle.sql_engine.specs.Types.{Query, StoreHistory, Table}
use Rattle.ldv_value.proofs.ItemLists.{all_append}
use Rattle.sql_laws.proofs.NeedsSound.{answer_good, each_rejected, others_good}
use Rattle.sql_laws.proofs.TableNames.{less-differs, table-trans}
use Rattle.sql_model.proofs.Databases.{sorted_of_database}
use Rattle.sql_model.proofs.SortedLists.{sorted-all, sorted-tail}
use Rattle.sql_engine.specs.inner.Taking.{AreDistinct}
use Rattle.sql_model.specs.Needs.{sums_up}
use Rattle.sql_model.specs.QueryAnswer.{Origin, answer, cut, lineage_of, rejected}
use Rattle.sql_model.specs.Scope.{same_text, is_table, table_at, rows_of}
use Rattle.sql_model.specs.Tables.{is_database, table_precedes}
use Rattle.ldv_value.specs.Sorted.{is_strictly_sorted}
use Rattle.table_store.specs.Histories.{TableHistory, history_at, history_of_row, tables_now}
use Rattle.sql_model.specs.declared.table.TableRow.{TableRow}

-- ---- versions

pub tell_versions : (store : StoreHistory) → TellVersions store (versions_now store)
tell_versions store table number v is = by (history_at table store) is
  where
    by : (t : Option TableHistory) → version_in number t ≡ Some v → updates_in number t ≡ v
    by None is = cc
    by (Some t) is = updates-are (history_of_row number t.slots) v is

-- ---- names

pub sorted_names : (store : StoreHistory) → is_database (tables_now store) ≡ true
    → IsStrictlySortedBy (slice_cmp nat_cmp) (table_names store)
sorted_names store is =
    names-sorted (tables_now store) (sorted_of_database (tables_now store) is)

names_apart : (t : Table) (ts : List Table) → list_all (table_precedes t) ts ≡ true → list_any (same_text t.name) (map (λ (u : Table). u.name) ts) ≡ false
names_apart t [] after = refl
names_apart t (u ∷ us) after =
    let both = and-parts (table_precedes t u) (list_all (table_precedes t) us) after in
    λ j. less-differs t.name u.name both.0 j || names_apart t us both.1 j

all_apart : (ts : List Table) → is_strictly_sorted table_precedes ts ≡ true → AreDistinct (map (λ (u : Table). u.name) ts)
all_apart [] sorted = tt
all_apart (t ∷ ts) sorted =
    (names_apart t ts (sorted-all table_precedes table-trans t ts sorted), all_apart ts (sorted-tail table_precedes table-trans t ts sorted))

-- no two tables have one name
pub distinct_names : (store : StoreHistory) → is_database (tables_now store) ≡ true → AreDistinct (map (λ (u : Table). u.name) (tables_now store))
distinct_names store is = all_apart (tables_now store) (sorted_of_database (tables_now store) is)

module _ (store : StoreHistory) where
  abbrev db : List Table
  db = tables_now store

  abbrev IsName : List ℕ → Type 0
  IsName name = list_any (same_text name) (table_names store) ≡ true

  named : (name : List ℕ) (tables : List Table) (t : Table) → find (is_table name) tables ≡ Some t
      → list_any (same_text name) (map (λ (u : Table). u.name) tables) ≡ true
  named name [] t is = cc
  named name (u ∷ tables) t is = elim (cases_Bool (is_table name u)) [
    | inl hit ↦
        let same : name ≡ u.name = sym (bytes_eq-true u.name name hit) in
        let here : same_text name u.name ≡ true = ap (λ n. same_text n u.name) same ∙ bytes_eq-itself u.name in
        ap (λ (b : Bool). b || list_any (same_text name) (map (λ (v : Table). v.name) tables)) here
    | inr miss ↦
        or-right (same_text name u.name) (list_any (same_text name) (map (λ (v : Table). v.name) tables))
        (named name tables t (rw miss at is))
  ]

  each_row : (name : List ℕ) → IsName name → (rows : List TableRow) → AllByRecursion (λ (row : TableRow). IsName name) rows
  each_row name is [] = tt
  each_row name is (row ∷ rows) = (is, each_row name is rows)

  rows_named : (name : List ℕ) → AllByRecursion (λ (row : TableRow). IsName name) (rows_of (table_at name db))
  rows_named name = by (table_at name db) refl
    where
      by : (o : Option Table) → table_at name db ≡ o → AllByRecursion (λ (row : TableRow). IsName name) (rows_of o)
      by None is = tt
      by (Some t) is = each_row name (named name db t is) t.rows

  -- the rows of an answer have tables with names
  pub answer_named : (query : Query) → AreNamedIn (table_names store) (lineage_of (answer query db))
  answer_named query = answer_good (λ name row. IsName name) db rows_named query

  pub hidden_named : (query : Query) → AreNamedIn (table_names store) (hidden_lineage query db)
  hidden_named query =
      all_append (λ (o : Origin). IsName o.table) (flat_map (rejected db) query.cores) (if sums_up query.cores then lineage_of (cut query db) else [])
      (each_rejected (λ name row. IsName name) db rows_named query.cores)
      (by (sums_up query.cores))
    where
      by : (sums : Bool) → AllByRecursion (λ (o : Origin). IsName o.table) (if sums then lineage_of (cut query db) else [])
      by true = others_good (λ name row. IsName name) db rows_named query
      by false = tt
