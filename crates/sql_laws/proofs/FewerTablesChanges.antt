-- An INSERT, UPDATE or DELETE has the same refusal, reply, needs and changes over a database without tables
-- that it doesn't ask.
use Rattle.std.proofs.Common.{◌≡◌, ℕ, List, [], ◌∷◌, ◌++◌, refl, sym, ap, ◌∙◌, subst, Bool, true, false, inl, inr}
use Rattle.std.specs.Prelude.{Option, Some, None, map, filter, length, ◌||◌, if◌then◌else◌}
use Rattle.std.specs.List.{flat_map, filter_map, list_any, cons_option}
use Rattle.ldv_value.proofs.Booleans.{or-left, or-right}
use Rattle.ldv_value.proofs.Cases.{cases-bool}
use Rattle.ldv_value.proofs.Lists.{list_any-append}
use Rattle.ldv_value.proofs.SameBytes.{bytes_eq-itself}
use Rattle.sql_laws.specs.Types.{Value, Catalog, Foreign, SqlRefusal, Syntax, NoTable, NoColumn, TypeClash, NotNull, KeyTaken, Full, NoParent, HasChild, Statement, TheQuery, TheInsert, TheUpdate, TheDelete, Table, TableRow}
use Rattle.sql_model.specs.Changes.{is_matched, had_row, matched, matched_in, table_after, changed_in, target_of, new_rows, updated_row, after_update, after_delete, has_null, key_clash, key_refusal, is_full, or_else, refusal_if}
use Rattle.sql_model.specs.Needs.{NeededRow, matched_row, matched_rows, clash_rows, key_row, key_rows, need_of, asked_tables}
use Rattle.sql_model.specs.References.{reference, Orphan, first_in, missing_key, missing_by, missing_parents, orphans, is_changed, parents_in, parents_by, parents_of, tables_after, first_missing_parent, first_orphan, parents_needed}
use Rattle.sql_model.specs.Refusals.{tables_of, check_refusal}
use Rattle.sql_model.specs.Scope.{same_text, is_table, table_at, catalog_of, own_scope}
use Rattle.sql_laws.specs.QueryLaw.{Keep, KeepsNeeded}
use Rattle.sql_laws.specs.StatementLaw.{KeepTables, KeepsAsked}
use Rattle.sql_model.specs.Statements.{target, reference_refusal, refusal_of, matched_count, after_unless}
use Rattle.sql_laws.proofs.FewerTables.{fewer, Kept, found_kept, Agrees, agree_all, first_kept, parent_kept, own_same, check_same}
use Rattle.sql_laws.proofs.LeftRowsStatements.{target_found, child_kept, change_needed}
use Rattle.sql_laws.proofs.Orphans.{orphans_fewer, orphan_there}
use Rattle.sql_laws.proofs.ParentRows.{found_named}
use Rattle.sql_laws.proofs.StatementParts.{Same, refusal_at, needs_at, refs_at, IsChange, on_any, refs_of, SameRefs, no_refs, same_refs, same_whole, whole_by}
use Rattle.sql_model.proofs.Equations.{changed_name}

-- the table that a statement changes is the same
target_same : (tables : KeepTables) (statement : Statement) (db : List Table)
    → Agrees tables db (tables_of statement)
    → target statement (fewer tables db) ≡ target statement db
target_same tables (TheQuery query) db k = refl
target_same tables (TheInsert insert) db k = k.0
target_same tables (TheUpdate update) db k = k.0
target_same tables (TheDelete delete) db k = k.0

-- what a statement makes of a table is the same by two catalogs
pub record SameCatalog (statement : Statement) (small whole : Catalog) : Type 0 where
  pub check : check_refusal statement small ≡ check_refusal statement whole
  pub matches : (table : Table) → matched statement small table ≡ matched statement whole table
  pub changes : (table : Table) → table_after statement small table ≡ table_after statement whole table
  pub makes : (table : Table) → new_rows statement small table ≡ new_rows statement whole table
  pub picks : is_changed statement small ≡ is_changed statement whole

catalog_fewer : (tables : KeepTables) (statement : Statement) (db : List Table)
    → Agrees tables db (tables_of statement)
    → SameCatalog statement (catalog_of (fewer tables db)) (catalog_of db)
catalog_fewer tables (TheQuery query) db k = record {
  check = check_same tables (TheQuery query) db k;
  matches = λ table. refl;
  changes = λ table. refl;
  makes = λ table. refl;
  picks = refl;
}
catalog_fewer tables (TheInsert insert) db k = record {
  check = check_same tables (TheInsert insert) db k;
  matches = λ table. refl;
  changes = λ table. refl;
  makes = λ table. refl;
  picks = refl;
}
catalog_fewer tables (TheUpdate update) db k =
    let scope : own_scope update.table (catalog_of (fewer tables db)) ≡ own_scope update.table (catalog_of db) = own_same tables update.table db k.0 in record {
      check = check_same tables (TheUpdate update) db k;
      matches = λ table. λ j. matched_in (scope j) update.pick table.rows;
      changes = λ table. λ j. after_update (scope j) update table;
      makes = λ table. λ j. map (updated_row (scope j) update table.schema.columns) (matched_in (scope j) update.pick table.rows);
      picks = λ j row. is_matched (scope j) update.pick row;
    }
catalog_fewer tables (TheDelete delete) db k =
    let scope : own_scope delete.table (catalog_of (fewer tables db)) ≡ own_scope delete.table (catalog_of db) = own_same tables delete.table db k.0 in record {
      check = check_same tables (TheDelete delete) db k;
      matches = λ table. λ j. matched_in (scope j) delete.pick table.rows;
      changes = λ table. λ j. after_delete (scope j) delete table;
      makes = λ table. refl;
      picks = λ j row. is_matched (scope j) delete.pick row;
    }

module _ (statement : Statement) (small whole : Catalog) (same : SameCatalog statement small whole) where
  change_same : (o : Option Table) → refusal_at statement small o ≡ refusal_at statement whole o
  change_same None = λ j. or_else (same.check j) None
  change_same (Some t) = λ j. or_else (same.check j) (or_else (refusal_if (list_any (has_null t.schema.columns) (same.makes t j)) NotNull) (or_else (key_refusal t (key_clash (same.changes t j))) (refusal_if (is_full statement t) Full)))

  count_same : (o : Option Table) → matched_count statement small o ≡ matched_count statement whole o
  count_same None = refl
  count_same (Some t) = λ j. length (same.matches t j)

  matched_same : (o : Option Table) → matched_rows statement small o ≡ matched_rows statement whole o
  matched_same None = refl
  matched_same (Some t) = λ j. map (matched_row t) (same.matches t j)

  keys_same : (o : Option Table) → key_rows statement small o ≡ key_rows statement whole o
  keys_same None = refl
  keys_same (Some t) = λ j. map (key_row t) (filter (had_row t) (clash_rows (key_clash (same.changes t j))))

  needs_same : (refusal : Option SqlRefusal) (o : Option Table)
      → needs_at refusal statement small o ≡ needs_at refusal statement whole o
  needs_same None o = matched_same o
  needs_same (Some Syntax) o = refl
  needs_same (Some NoTable) o = refl
  needs_same (Some NoColumn) o = refl
  needs_same (Some TypeClash) o = refl
  needs_same (Some NotNull) o = matched_same o
  needs_same (Some (KeyTaken name key)) o = λ j. matched_same o j ++ keys_same o j
  needs_same (Some Full) o = refl
  needs_same (Some (NoParent name key)) o = matched_same o
  needs_same (Some (HasChild name key)) o = matched_same o

-- ---- references

-- the parent of each foreign key is found the same
abbrev Finds : List Table → List Table → List Foreign → Type 0
Finds small whole [] = Unit {0}
Finds small whole (f ∷ fs) = (table_at f.parent small ≡ table_at f.parent whole) × Finds small whole fs

missing_found : (small whole : List Table) (values : List Value) (fs : List Foreign) → Finds small whole fs
    → filter_map (missing_by small values) fs ≡ filter_map (missing_by whole values) fs
missing_found small whole values [] k = refl
missing_found small whole values (f ∷ fs) k =
    λ j. cons_option (missing_key (k.0 j) f (reference f values)) (missing_found small whole values fs k.1 j)

missing_finds : (small whole : List Table) (fs : List Foreign) → Finds small whole fs → (rows : List TableRow)
    → missing_parents small fs rows ≡ missing_parents whole fs rows
missing_finds small whole fs k [] = refl
missing_finds small whole fs k (row ∷ rows) = λ j. missing_found small whole row.values fs k j ++ missing_finds small whole fs k rows j

parents_found : (b1 b2 a1 a2 : List Table) (values : List Value) (fs : List Foreign) → Finds b1 b2 fs → Finds a1 a2 fs
    → flat_map (parents_by b1 a1 values) fs ≡ flat_map (parents_by b2 a2 values) fs
parents_found b1 b2 a1 a2 values [] b a = refl
parents_found b1 b2 a1 a2 values (f ∷ fs) b a =
    λ j. parents_in (b.0 j) (a.0 j) f (reference f values) ++ parents_found b1 b2 a1 a2 values fs b.1 a.1 j

parents_finds : (b1 b2 a1 a2 : List Table) (fs : List Foreign) → Finds b1 b2 fs → Finds a1 a2 fs → (rows : List TableRow)
    → parents_of b1 a1 fs rows ≡ parents_of b2 a2 fs rows
parents_finds b1 b2 a1 a2 fs b a [] = refl
parents_finds b1 b2 a1 a2 fs b a (row ∷ rows) =
    λ j. parents_found b1 b2 a1 a2 row.values fs b a j ++ parents_finds b1 b2 a1 a2 fs b a rows j

finds_kept : (tables : KeepTables) (db : List Table) (fs : List Foreign)
    → ((parent : List ℕ) → list_any (λ (f : Foreign). same_text f.parent parent) fs ≡ true → Kept tables db parent)
    → Finds (fewer tables db) db fs
finds_kept tables db [] kept = tt
finds_kept tables db (f ∷ fs) kept = (
  found_kept tables f.parent db (kept f.parent (or-left (same_text f.parent f.parent) (list_any (λ (g : Foreign). same_text g.parent f.parent) fs) (bytes_eq-itself f.parent))),
  finds_kept tables db fs (λ parent is. kept parent (or-right (same_text f.parent parent) (list_any (λ (g : Foreign). same_text g.parent parent) fs) is)),
)

-- a statement names the table that it changes
self_named : (name : List ℕ) (t : Table) → t.name ≡ name → list_any (same_text t.name) (name ∷ []) ≡ true
self_named name t named =
    let self : same_text t.name name ≡ true = ap (same_text t.name) (sym named) ∙ bytes_eq-itself t.name in
    or-left (same_text t.name name) false self

target_named : (s : Statement) (db : List Table) (t : Table) → target s db ≡ Some t
    → list_any (same_text t.name) (tables_of s) ≡ true
target_named (TheQuery query) db t is = cc
target_named (TheInsert insert) db t is = self_named insert.table t (found_named insert.table db t is)
target_named (TheUpdate update) db t is = self_named update.table t (found_named update.table db t is)
target_named (TheDelete delete) db t is = self_named delete.table t (found_named delete.table db t is)

-- needs, as they are kept by their tables
abbrev named_in_needs : List NeededRow → List ℕ → ℕ → Bool
named_in_needs all name n = list_any (same_text name) (map (λ (need : NeededRow). need.table) all)

needs_named : (all some : List NeededRow)
    → ((name : List ℕ) → named_in_needs some name 0 ≡ true → named_in_needs all name 0 ≡ true)
    → KeepsNeeded (named_in_needs all) some
needs_named all [] among = tt
needs_named all (n ∷ ns) among = (
  among n.table (or-left (same_text n.table n.table) (named_in_needs ns n.table 0) (bytes_eq-itself n.table)),
  needs_named all ns (λ name is. among name (or-right (same_text name n.table) (named_in_needs ns name 0) is)),
)

module _ (tables : KeepTables) (statement : Statement) (db : List Table) (ask : KeepsAsked tables (asked_tables (Some statement) db)) where
  k : Agrees tables db (tables_of statement)
  k = agree_all tables statement db ask

  abbrev small : List Table
  small = fewer tables db

  abbrev c1 : Catalog
  c1 = catalog_of small

  abbrev c2 : Catalog
  c2 = catalog_of db

  same : SameCatalog statement c1 c2
  same = catalog_fewer tables statement db k

  found : target statement small ≡ target statement db
  found = target_same tables statement db k

  -- ---- the tables after

  abbrev change_one : List ℕ → Catalog → Table → Table
  change_one name catalog table = if is_table name table then table_after statement catalog table else table

  one_name : (name : List ℕ) (table : Table) → (change_one name c2 table).name ≡ table.name
  one_name name table = elim (cases-bool (is_table name table)) [
    | inl hit ↦ rw hit (sym (ap (λ (t : Table). t.name) (same.changes table)) ∙ changed_name statement c1 table)
    | inr miss ↦ rw miss refl
  ]

  changed_fewer : (name : List ℕ) (ts : List Table)
      → map (change_one name c1) (fewer tables ts) ≡ fewer tables (map (change_one name c2) ts)
  changed_fewer name [] = refl
  changed_fewer name (t ∷ ts) = elim (cases-bool (tables t.name)) [
    | inl stays ↦
        let too : tables (change_one name c2 t).name ≡ true = ap tables (one_name name t) ∙ stays in
        let one : change_one name c1 t ≡ change_one name c2 t = λ j. if is_table name t then same.changes t j else t in
        rw (stays, too) (λ j. one j ∷ changed_fewer name ts j)
    | inr goes ↦
        let too : tables (change_one name c2 t).name ≡ false = ap tables (one_name name t) ∙ goes in
        rw (goes, too) (changed_fewer name ts)
  ]

  in_fewer : (name : Option (List ℕ))
      → changed_in name statement c1 small ≡ fewer tables (changed_in name statement c2 db)
  in_fewer None = refl
  in_fewer (Some name) = changed_fewer name db

  unless_fewer : (refusal : Option SqlRefusal)
      → after_unless refusal (Some statement) small
      ≡ fewer tables (after_unless refusal (Some statement) db)
  unless_fewer (Some refusal) = refl
  unless_fewer None = in_fewer (target_of statement)

  pub after_fewer : refusal_of (Some statement) small ≡ refusal_of (Some statement) db
      → after_unless (refusal_of (Some statement) small) (Some statement) small
      ≡ fewer tables (after_unless (refusal_of (Some statement) db) (Some statement) db)
  after_fewer refused =
      ap (λ (r : Option SqlRefusal). after_unless r (Some statement) small) refused
      ∙ unless_fewer (refusal_of (Some statement) db)

  -- ---- what it is refused, answers and needs

  there_after : (name : List ℕ) (target : List ℕ) (ts : List Table)
      → list_any (is_table name) (map (change_one target c2) ts) ≡ list_any (is_table name) ts
  there_after name target [] = refl
  there_after name target (t ∷ ts) = λ j. same_text (one_name target t j) name || there_after name target ts j

  there_in : (name : List ℕ) (target : Option (List ℕ))
      → list_any (is_table name) (changed_in target statement c2 db) ≡ list_any (is_table name) db
  there_in name None = refl
  there_in name (Some target) = there_after name target db

  abbrev later : List Table
  later = tables_after statement c2 db

  module _ (change : IsChange statement) (t : Table) (is : target statement db ≡ Some t) where
    kept_parents : (parent : List ℕ) → list_any (λ (f : Foreign). same_text f.parent parent) t.schema.foreign ≡ true → Kept tables db parent
    kept_parents parent refers = parent_kept tables statement db ask t (target_found statement db t is) (target_named statement db t is) parent refers

    finds_before : Finds small db t.schema.foreign
    finds_before = finds_kept tables db t.schema.foreign kept_parents

    finds_after : Finds (fewer tables later) later t.schema.foreign
    finds_after = finds_kept tables later t.schema.foreign
        (λ parent refers there. kept_parents parent refers (sym (there_in parent (target_of statement)) ∙ there))

    missing_fewer : first_missing_parent statement c1 t small ≡ first_missing_parent statement c2 t db
    missing_fewer =
        (λ j. first_in (missing_parents (in_fewer (target_of statement) j) t.schema.foreign (same.makes t j)))
        ∙ ap first_in (missing_finds (fewer tables later) later t.schema.foreign finds_after (new_rows statement c2 t))

    parents_same : parents_needed statement c1 t small ≡ parents_needed statement c2 t db
    parents_same =
        (λ j. parents_of small (in_fewer (target_of statement) j) t.schema.foreign (same.makes t j))
        ∙ parents_finds small db (fewer tables later) later t.schema.foreign finds_before finds_after (new_rows statement c2 t)

    module _ (none : refusal_at statement c2 (target statement db) ≡ None) where
      abbrev keep : Keep
      keep = named_in_needs (need_of (Some statement) db)

      needed : KeepsNeeded keep (refs_at (refs_of (first_missing_parent statement c2 t db) (first_orphan statement c2 t db)) statement c2 (Some t) db)
      needed =
          let both = change_needed keep statement change db (needs_named (need_of (Some statement) db) (need_of (Some statement) db) (λ name among. among)) in
          let refs : KeepsNeeded keep (refs_at (reference_refusal statement c2 (target statement db) db) statement c2 (target statement db) db) =
          subst (λ (r : Option SqlRefusal). KeepsNeeded keep (refs_at (or_else r (reference_refusal statement c2 (target statement db) db)) statement c2 (target statement db) db)) none both.1 in
          subst (λ (o : Option Table). KeepsNeeded keep (refs_at (reference_refusal statement c2 o db) statement c2 o db)) is refs

      -- the first child's table stays
      orphan_kept : first_missing_parent statement c2 t db ≡ None → (orphan : Orphan) → first_orphan statement c2 t db ≡ Some orphan
          → tables orphan.table ≡ true
      orphan_kept missing orphan first =
          let named : list_any (same_text orphan.table) (map (λ (need : NeededRow). need.table) (need_of (Some statement) db)) ≡ true =
          child_kept keep statement c2 t db (first_missing_parent statement c2 t db) (first_orphan statement c2 t db) missing needed orphan first first in
          first_kept tables statement db ask orphan.table
          (list_any-append (same_text orphan.table) (tables_of statement) (map (λ (need : NeededRow). need.table) (need_of (Some statement) db))
          ∙ or-right (list_any (same_text orphan.table) (tables_of statement)) (list_any (same_text orphan.table) (map (λ (need : NeededRow). need.table) (need_of (Some statement) db))) named)
          (orphan_there (is_changed statement c2) t (table_after statement c2 t) db orphan first)

      orphan_same : first_missing_parent statement c2 t db ≡ None → first_orphan statement c1 t small ≡ first_orphan statement c2 t db
      orphan_same missing =
          (λ j. first_in (orphans (same.picks j) t (same.changes t j) small))
          ∙ orphans_fewer tables (is_changed statement c2) t (table_after statement c2 t) db (orphan_kept missing)

      refs_fewer : SameRefs statement c1 c2 (Some t) (Some t) small db
      refs_fewer = same_refs statement c1 c2 t t small db missing_fewer parents_same orphan_same

  refs_by : IsChange statement → refusal_at statement c2 (target statement db) ≡ None → (o : Option Table) → target statement db ≡ o
      → SameRefs statement c1 c2 o o small db
  refs_by change none None is = no_refs statement c1 c2 small db
  refs_by change none (Some t) is = refs_fewer change t is none

  pub change_fewer : IsChange statement → Same (Some statement) small db
  change_fewer change =
      let own : Option SqlRefusal = refusal_at statement c2 (target statement db) in
      same_whole statement change small db (whole_by statement change small db own
      (ap (refusal_at statement c1) found ∙ change_same statement c1 c2 same (target statement db))
      refl
      (ap (needs_at own statement c1) found ∙ needs_same statement c1 c2 same own (target statement db))
      (on_any own (ap (matched_count statement c1) found ∙ count_same statement c1 c2 same (target statement db)))
      (λ none. subst (λ (o : Option Table). SameRefs statement c1 c2 o (target statement db) small db) (sym found) (refs_by change none (target statement db) refl)))
