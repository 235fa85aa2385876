-- A statement and one row, by the number of the row and the name of its table: whether the statement needs
-- it, sees its initial version, and makes it.
use Rattle.std.proofs.Common.{◌≡◌, ℕ, ◌+◌, ◌-◌, ◌<◌, List, [], ◌∷◌, ◌++◌, length, refl, sym, ap, ◌∙◌, subst, Bool, true, false, arith, inl, inr}
use Rattle.std.specs.Prelude.{Option, Some, None, is_some, map, filter, find, not, ◌&&◌, ◌||◌, ◌==◌, nat_lt, bytes_eq}
use Rattle.std.specs.List.{list_all, list_any, AllByRecursion}
use Rattle.std.specs.Option.{option_map, option_map_or}
use Rattle.std.proofs.lemmas.Bool.{cases_Bool, ltb-true, lt-ltb, false≢true}
use Rattle.std.proofs.lemmas.Bool.Decides.{nat_tests}
use Rattle.ldv_value.specs.Sorted.{is_strictly_sorted}
use Rattle.ldv_value.specs.declared.value.Value.{Value}
use Rattle.ldv_value.proofs.Booleans.{and-parts, and-assoc, and-true, and-false, or-parts, or-from, or-false, not-true}
use Rattle.ldv_value.proofs.Lists.{list_any-map, list_any-append, list_any-false, found-passes, found-all, list_any-filter}
use Rattle.ldv_value.proofs.SameBytes.{bytes_eq-true, nat_eq-true, bytes_eq-sym}
use Rattle.sql_model.specs.declared.catalog.Catalog.{Catalog}
use Rattle.sql_model.specs.declared.reply.SqlRefusal.{SqlRefusal}
use Rattle.sql_model.specs.declared.statement.Insert.{Insert}
use Rattle.sql_model.specs.declared.statement.Update.{Update}
use Rattle.sql_model.specs.declared.table.Column.{Column}
use Rattle.sql_model.specs.declared.statement.Statement.TheVariants.{Query as TheQuery, Insert as TheInsert, Update as TheUpdate, Delete as TheDelete}
use Rattle.sql_model.specs.Changes.{numbered_rows, new_values, rows_of_insert, is_matched, update_one, target_of, table_of, table_after, changed_in}
use Rattle.sql_model.specs.Needs.{Versions, NeededRow, need_of, asked_tables, new_member, made_by, updated_rows, versions_after, read_of}
use Rattle.sql_model.specs.Needs.{is_row_of as is_origin_of}
use Rattle.sql_model.specs.Scope.{InScope, same_text, is_table, table_at, rows_of, catalog_of, own_scope}
use Rattle.sql_model.specs.Statements.{target, refusal_of, after_unless, after}
use Rattle.sql_model.specs.Tables.{is_valid_table, table_precedes, is_database}
use Rattle.sql_model.proofs.Databases.{tables_of_database}
use Rattle.sql_model.proofs.ReferenceLists.{any_fewer}
use Rattle.sql_laws.proofs.NeedsSound.{needs_good}
use Rattle.sql_laws.proofs.AskedTables.{asked_needs_law}
use Rattle.sql_laws.proofs.StatementParts.{after_is}
use Rattle.sql_laws.proofs.TableNames.{change_named, all-changed}
use Rattle.run_model.specs.Slice.{reason_in}
use Rattle.trace_graph.specs.Graph.{same_member}
use Rattle.trace_graph.specs.Links.{version_before, at_version}
use Rattle.trace_graph.specs.VersionLaws.{is_read, is_changed}
use Rattle.slicer.specs.InitialRows.{at_first}
use Rattle.run_laws.specs.Types.{Statement, Table, TableRow, Member}
use Rattle.run_laws.proofs.SortedNeeds.{is_lineage, lineage}
use Rattle.run_laws.proofs.StatementVersions.{next_of, origin_of, made_if, updated_if, made_parts, updated_parts, made_none, updated_none, target_rises}
use Rattle.ldv_value.proofs.Numbers.{apart-above, eq-turned}

-- ---- tests

never_zero : (v : ℕ) → (0 == (v + 1)) ≡ false
never_zero v = grind (arith, nat_tests)

next_not_zero : (v : ℕ) → ((v + 1) == 0) ≡ false
next_not_zero v = grind (arith, nat_tests)

before_next : (v : ℕ) → version_before (v + 1) ≡ Some v
before_next v =
    let back : (v + 1) - 1 ≡ v = omega arith in
    rw (next_not_zero v) (ap (λ (n : ℕ). Some n) back)

or-same : (b : Bool) → (b || (false || b)) ≡ (b || false)
or-same true = refl
or-same false = refl

-- of two, the first with the second alone
fewer : (small whole : Bool) → (small ≡ true → whole ≡ true) → (whole || (false || small)) ≡ (whole || false)
fewer true whole more = rw (more refl) refl
fewer false whole more = refl

-- ---- lists

module _ {X : Type 0} (p : X → Bool) where
  none_of : (xs : List X) → AllByRecursion (λ x. p x ≡ false) xs → list_any p xs ≡ false
  none_of [] none = refl
  none_of (x ∷ xs) none = or-from (p x) (list_any p xs) none.0 (none_of xs none.1)

none_changed : (change : Table → Table) (name : List ℕ) (ts : List Table) → find (is_table name) ts ≡ None
    → map (change_named change name) ts ≡ ts
none_changed change name [] none = refl
none_changed change name (t ∷ ts) none = elim (cases_Bool (is_table name t)) [
  | inl hit ↦ let never : Some t ≡ None = rw hit at none in cc
  | inr miss ↦ rw miss (ap (λ (l : List Table). t ∷ l) (none_changed change name ts (rw miss at none)))
]

-- ---- a test of the tables after a statement

module _ (test : Table → Bool) (db : List Table) (valid : is_database db ≡ true) (all : list_all test db ≡ true) where
  sorted : is_strictly_sorted table_precedes db ≡ true
  sorted = (and-parts (list_all is_valid_table db) (is_strictly_sorted table_precedes db) (tables_of_database db valid)).1

  -- the table of a name passes it when it is changed
  abbrev Passes : Option (List ℕ) → Statement → Type 0
  Passes name s = (t : Table) → table_of name db ≡ Some t → test t ≡ true → test (table_after s (catalog_of db) t) ≡ true

  named_all : (name : List ℕ) (s : Statement) → Passes (Some name) s
      → list_all test (map (change_named (table_after s (catalog_of db)) name) db) ≡ true
  named_all name s passes = by (table_at name db) refl
    where
      by : (o : Option Table) → table_at name db ≡ o → list_all test (map (change_named (table_after s (catalog_of db)) name) db) ≡ true
      by None found = ap (list_all test) (none_changed (table_after s (catalog_of db)) name db found) ∙ all
      by (Some t) found =
          all-changed (table_after s (catalog_of db)) test name t
          (passes t found (found-all (is_table name) test db t all found)) db found sorted all

  changed_all : (name : Option (List ℕ)) (s : Statement) → Passes name s
      → list_all test (changed_in name s (catalog_of db) db) ≡ true
  changed_all None s passes = all
  changed_all (Some name) s passes = named_all name s passes

  by_refusal : (refusal : Option SqlRefusal) (s : Statement) → (refusal ≡ None → Passes (target_of s) s)
      → list_all test (after_unless refusal (Some s) db) ≡ true
  by_refusal (Some refusal) s passes = all
  by_refusal None s passes = changed_all (target_of s) s (passes refl)

  all_after : (s : Statement) → (refusal_of (Some s) db ≡ None → Passes (target_of s) s)
      → list_all test (after (Some s) db) ≡ true
  all_after s passes = ap (list_all test) (after_is (Some s) db) ∙ by_refusal (refusal_of (Some s) db) s passes

  all_after_none : list_all test (after None db) ≡ true
  all_after_none = ap (list_all test) (after_is None db) ∙ all

module _ (table : List ℕ) (row : ℕ) where
  -- ---- the row, by name and number

  abbrev pub is_it : List ℕ → ℕ → Bool
  is_it other number = same_text other table && number == row

  abbrev pub is_needed : List NeededRow → Bool
  is_needed needs = list_any (λ n. is_it n.table n.row) needs

  abbrev pub first : Member
  first = at_first table row

  -- it is in its first version
  abbrev pub is_first : Versions → NeededRow → Bool
  is_first versions n = is_it n.table n.row && 0 == versions n.table n.row

  same_first : (other : List ℕ) (number version : ℕ)
      → same_member first (record { table = other; row = number; version = version }) ≡ (is_it other number && 0 == version)
  same_first other number version =
      (λ j. bytes_eq-sym table other j && (eq-turned row number j && 0 == version))
      ∙ sym (and-assoc (bytes_eq other table) (number == row) (0 == version))

  -- ---- what is read

  reads_are : (versions : Versions) (ns : List NeededRow)
      → list_any (is_read first) (map (read_of versions) ns) ≡ list_any (is_first versions) ns
  reads_are versions ns =
      list_any-map (is_read first) (read_of versions) ns
      ∙ (λ j. list_any (λ n. same_first n.table n.row (versions n.table n.row) j) ns)

  one_zero : (versions : Versions) (n : NeededRow) → versions table row ≡ 0 → is_first versions n ≡ is_it n.table n.row
  one_zero versions n untouched = elim (cases_Bool (is_it n.table n.row)) [
    | inl hit ↦
        let both = and-parts (same_text n.table table) (n.row == row) hit in
        let name : n.table ≡ table = bytes_eq-true n.table table both.0 in
        let number : n.row ≡ row = nat_eq-true n.row row both.1 in
        let version : versions n.table n.row ≡ 0 = (λ j. versions (name j) (number j)) ∙ untouched in
        rw hit (ap (λ (v : ℕ). 0 == v) version)
    | inr miss ↦ rw miss refl
  ]

  -- of a row that was never updated
  pub first_needed : (versions : Versions) (ns : List NeededRow) → versions table row ≡ 0 → list_any (is_first versions) ns ≡ is_needed ns
  first_needed versions ns untouched = λ j. list_any (λ n. one_zero versions n untouched j) ns

  pub first_unneeded : (versions : Versions) (ns : List NeededRow) → is_needed ns ≡ false → list_any (is_first versions) ns ≡ false
  first_unneeded versions [] none = refl
  first_unneeded versions (n ∷ ns) none =
      let parts = or-parts (is_it n.table n.row) (is_needed ns) none in
      or-from (is_first versions n) (list_any (is_first versions) ns)
      (ap (λ (b : Bool). b && 0 == versions n.table n.row) parts.0) (first_unneeded versions ns parts.1)

  -- a row has a reason where it is needed
  pub reason_is : (versions : Versions) (statement : ℕ) (ns : List NeededRow)
      → is_some (reason_in statement table row (map (read_of versions) ns)) ≡ is_needed ns
  reason_is versions statement [] = refl
  reason_is versions statement (n ∷ ns) = elim (cases_Bool (is_it n.table n.row)) [
    | inl hit ↦ rw hit refl
    | inr miss ↦ rw miss (reason_is versions statement ns)
  ]

  -- ---- what is made

  abbrev makes : List Member → Bool
  makes made = list_any (same_member first) made

  abbrev changes : List Member → Bool
  changes made = list_any (is_changed first) made

  never_first : (versions : Versions) (n : NeededRow) → same_member first (next_of versions n) ≡ false
  never_first versions n =
      same_first n.table n.row (versions n.table n.row + 1)
      ∙ ap (λ (b : Bool). is_it n.table n.row && b) (never_zero (versions n.table n.row))
      ∙ and-false (is_it n.table n.row)

  next_makes : (versions : Versions) (ns : List NeededRow) → makes (map (next_of versions) ns) ≡ false
  next_makes versions ns =
      list_any-map (same_member first) (next_of versions) ns
      ∙ (λ j. list_any (λ n. never_first versions n j) ns)
      ∙ list_any-false ns

  one_changed : (versions : Versions) (n : NeededRow) → is_changed first (next_of versions n) ≡ is_first versions n
  one_changed versions n =
      ap (λ (o : Option ℕ). option_map_or (same_member first) (option_map (at_version (next_of versions n)) o) false)
      (before_next (versions n.table n.row))
      ∙ same_first n.table n.row (versions n.table n.row)

  next_changes : (versions : Versions) (ns : List NeededRow) → changes (map (next_of versions) ns) ≡ list_any (is_first versions) ns
  next_changes versions ns =
      list_any-map (is_changed first) (next_of versions) ns
      ∙ (λ j. list_any (λ n. one_changed versions n j) ns)

  -- a new row is made of none
  new_changes : (t : Table) (rows : List TableRow) → changes (map (new_member t) rows) ≡ false
  new_changes t rows = list_any-map (is_changed first) (new_member t) rows ∙ list_any-false rows

  new_makes : (t : Table) (rows : List TableRow) → makes (map (new_member t) rows) ≡ list_any (λ (r : TableRow). is_it t.name r.number) rows
  new_makes t rows =
      list_any-map (same_member first) (new_member t) rows
      ∙ (λ j. list_any (λ (r : TableRow). (same_first t.name r.number 0 ∙ and-true (is_it t.name r.number)) j) rows)

  -- what a statement makes another version of it has read
  next_seen : (versions : Versions) (ns : List NeededRow)
      → (list_any (is_first versions) ns || (makes (map (next_of versions) ns) || changes (map (next_of versions) ns)))
      ≡ (list_any (is_first versions) ns || makes (map (next_of versions) ns))
  next_seen versions ns =
      (λ j. list_any (is_first versions) ns || (next_makes versions ns j || next_changes versions ns j))
      ∙ or-same (list_any (is_first versions) ns)
      ∙ sym (λ j. list_any (is_first versions) ns || next_makes versions ns j)

  -- so is it where that is only what is needed by rule L
  lineage_seen : (versions : Versions) (ns : List NeededRow)
      → (list_any (is_first versions) ns || (makes (map (next_of versions) (lineage ns)) || changes (map (next_of versions) (lineage ns))))
      ≡ (list_any (is_first versions) ns || makes (map (next_of versions) (lineage ns)))
  lineage_seen versions ns =
      (λ j. list_any (is_first versions) ns || (next_makes versions (lineage ns) j || next_changes versions (lineage ns) j))
      ∙ fewer (list_any (is_first versions) (lineage ns)) (list_any (is_first versions) ns) (any_fewer (is_first versions) is_lineage ns)
      ∙ sym (λ j. list_any (is_first versions) ns || next_makes versions (lineage ns) j)

  seen_by : (versions : Versions) (refusal : Option SqlRefusal) (s : Statement) (o : Option Table) (ns : List NeededRow)
      → (list_any (is_first versions) ns || (makes (made_if refusal versions s o ns) || changes (made_if refusal versions s o ns)))
      ≡ (list_any (is_first versions) ns || makes (made_if refusal versions s o ns))
  seen_by versions (Some refusal) s o ns = refl
  seen_by versions None (TheQuery query) o ns = refl
  seen_by versions None (TheInsert insert) None ns = refl
  seen_by versions None (TheInsert insert) (Some t) ns =
      let rows : List TableRow = rows_of_insert insert t in
      ap (λ (b : Bool). list_any (is_first versions) ns || (makes (map (new_member t) rows) || b)) (new_changes t rows)
      ∙ ap (λ (b : Bool). list_any (is_first versions) ns || b) (or-false (makes (map (new_member t) rows)))
  seen_by versions None (TheUpdate update) o ns = lineage_seen versions ns
  seen_by versions None (TheDelete delete) o ns = next_seen versions ns

  -- ---- a number that is used: it is below the next one of its table

  abbrev pub is_used : Table → Bool
  is_used t = not (same_text t.name table) || nat_lt row t.next

  used_below : (t : Table) → is_used t ≡ true → same_text t.name table ≡ true → row < t.next
  used_below t used named = ltb-true row t.next (rw named at used)

  fresh_at : (name : List ℕ) (number : ℕ) → (same_text name table ≡ true → row < number) → is_it name number ≡ false
  fresh_at name number below = elim (cases_Bool (same_text name table)) [
    | inl named ↦ rw named (apart-above number row (below named))
    | inr other ↦ rw other refl
  ]

  fresh : (name : List ℕ) (start : ℕ) (rows : List (List Value)) → (same_text name table ≡ true → row < start)
      → list_any (λ (r : TableRow). is_it name r.number) (numbered_rows start rows) ≡ false
  fresh name start [] below = refl
  fresh name start (values ∷ rows) below =
      or-from (is_it name start) (list_any (λ (r : TableRow). is_it name r.number) (numbered_rows (start + 1) rows))
      (fresh_at name start below)
      (fresh name (start + 1) rows (λ named. let less : row < start = below named in omega (arith, less)))

  abbrev UsedIn : Option Table → Type 0
  UsedIn None = Unit {0}
  UsedIn (Some t) = is_used t ≡ true

  unmade_by : (versions : Versions) (refusal : Option SqlRefusal) (s : Statement) (o : Option Table) (ns : List NeededRow) → UsedIn o
      → makes (made_if refusal versions s o ns) ≡ false
  unmade_by versions (Some refusal) s o ns used = refl
  unmade_by versions None (TheQuery query) o ns used = refl
  unmade_by versions None (TheInsert insert) None ns used = refl
  unmade_by versions None (TheInsert insert) (Some t) ns used =
      new_makes t (rows_of_insert insert t)
      ∙ fresh t.name t.next (map (new_values insert.columns t.schema.columns) insert.rows) (λ named. used_below t used named)
  unmade_by versions None (TheUpdate update) o ns used = next_makes versions (lineage ns)
  unmade_by versions None (TheDelete delete) o ns used = next_makes versions ns

  used_of : (name : Option (List ℕ)) (db : List Table) → list_all is_used db ≡ true → UsedIn (table_of name db)
  used_of None db all = tt
  used_of (Some name) db all = by (table_at name db) refl
    where
      by : (o : Option Table) → table_at name db ≡ o → UsedIn o
      by None found = tt
      by (Some t) found = found-all (is_table name) is_used db t all found

  used_more : (t : Table) (more : ℕ) → is_used t ≡ true → (not (same_text t.name table) || nat_lt row (t.next + more)) ≡ true
  used_more t more used = elim (cases_Bool (same_text t.name table)) [
    | inl named ↦
        let below : row < t.next = used_below t used named in
        rw named (lt-ltb row (t.next + more) (omega (arith, below)))
    | inr other ↦ rw other refl
  ]

  used_changed : (s : Statement) (catalog : Catalog) (t : Table) → is_used t ≡ true → is_used (table_after s catalog t) ≡ true
  used_changed (TheQuery query) catalog t used = used
  used_changed (TheInsert insert) catalog t used = used_more t (length insert.rows) used
  used_changed (TheUpdate update) catalog t used = used
  used_changed (TheDelete delete) catalog t used = used

  -- ---- tables that lack the row

  abbrev pub lacks : Table → Bool
  lacks t = not (same_text t.name table && list_any (λ (r : TableRow). r.number == row) t.rows)

  rows_apart : (b : Bool) (rows : List TableRow) → (b && list_any (λ (r : TableRow). r.number == row) rows) ≡ false
      → AllByRecursion (λ (r : TableRow). (b && r.number == row) ≡ false) rows
  rows_apart b [] none = tt
  rows_apart false (r ∷ rows) none = (refl, rows_apart false rows refl)
  rows_apart true (r ∷ rows) none =
      let parts = or-parts (r.number == row) (list_any (λ (r : TableRow). r.number == row) rows) none in
      (parts.0, rows_apart true rows parts.1)

  table_apart : (t : Table) → lacks t ≡ true → AllByRecursion (λ (r : TableRow). is_it t.name r.number ≡ false) t.rows
  table_apart t lacking =
      rows_apart (same_text t.name table) t.rows
      (not-true (same_text t.name table && list_any (λ (r : TableRow). r.number == row) t.rows) lacking)

  each_apart : (ts : List Table) → list_all lacks ts ≡ true
      → AllByRecursion (λ (t : Table). AllByRecursion (λ (r : TableRow). is_it t.name r.number ≡ false) t.rows) ts
  each_apart [] all = tt
  each_apart (t ∷ ts) all =
      let both = and-parts (lacks t) (list_all lacks ts) all in
      (table_apart t both.0, each_apart ts both.1)

  -- a row that isn't there isn't needed
  pub unneeded : (statement : Option Statement) (db : List Table) → list_all lacks db ≡ true → is_needed (need_of statement db) ≡ false
  unneeded statement db all =
      none_of (λ n. is_it n.table n.row) (need_of statement db)
      (needs_good (λ name number. is_it name number ≡ false) db apart (each_apart db all) statement)
    where
      apart : (name : List ℕ) → AllByRecursion (λ (r : TableRow). is_it name r.number ≡ false) (rows_of (table_at name db))
      apart name = by (table_at name db) refl
        where
          by : (o : Option Table) → table_at name db ≡ o → AllByRecursion (λ (r : TableRow). is_it name r.number ≡ false) (rows_of o)
          by None found = tt
          by (Some t) found =
              let same : t.name ≡ name = bytes_eq-true t.name name (found-passes (is_table name) db t found) in
              subst (λ (n : List ℕ). AllByRecursion (λ (r : TableRow). is_it n r.number ≡ false) t.rows) same
              (table_apart t (found-all (is_table name) lacks db t all found))

  -- with other rows
  lacks_by : (name : List ℕ) (rows more : List TableRow)
      → (list_any (λ (r : TableRow). r.number == row) rows ≡ false → list_any (λ (r : TableRow). r.number == row) more ≡ false)
      → not (same_text name table && list_any (λ (r : TableRow). r.number == row) rows) ≡ true
      → not (same_text name table && list_any (λ (r : TableRow). r.number == row) more) ≡ true
  lacks_by name rows more none lacking = elim (cases_Bool (same_text name table)) [
    | inl named ↦
        let no_row : list_any (λ (r : TableRow). r.number == row) rows ≡ false =
        not-true (list_any (λ (r : TableRow). r.number == row) rows) (rw named at lacking) in
        rw named (ap not (none no_row))
    | inr other ↦ rw other refl
  ]

  number_kept : (scope : List InScope) (update : Update) (columns : List Column) (r : TableRow)
      → (update_one scope update columns r).number ≡ r.number
  number_kept scope update columns r = elim (cases_Bool (is_matched scope update.pick r)) [
    | inl hit ↦ rw hit refl
    | inr miss ↦ rw miss refl
  ]

  numbers_kept : (scope : List InScope) (update : Update) (columns : List Column) (rows : List TableRow)
      → list_any (λ (r : TableRow). r.number == row) (map (update_one scope update columns) rows)
      ≡ list_any (λ (r : TableRow). r.number == row) rows
  numbers_kept scope update columns rows =
      list_any-map (λ (r : TableRow). r.number == row) (update_one scope update columns) rows
      ∙ (λ j. list_any (λ (r : TableRow). number_kept scope update columns r j == row) rows)

  new_lacks : (insert : Insert) (t : Table) → makes (map (new_member t) (rows_of_insert insert t)) ≡ false → lacks t ≡ true
      → not (same_text t.name table && list_any (λ (r : TableRow). r.number == row) (t.rows ++ rows_of_insert insert t)) ≡ true
  new_lacks insert t unmade lacking =
      let new : List TableRow = rows_of_insert insert t in
      let none : list_any (λ (r : TableRow). is_it t.name r.number) new ≡ false = sym (new_makes t new) ∙ unmade in
      elim (cases_Bool (same_text t.name table)) [
        | inl named ↦
            let old : list_any (λ (r : TableRow). r.number == row) t.rows ≡ false =
            not-true (list_any (λ (r : TableRow). r.number == row) t.rows) (rw named at lacking) in
            let added : list_any (λ (r : TableRow). r.number == row) new ≡ false = rw named at none in
            rw named
            (ap not
            (list_any-append (λ (r : TableRow). r.number == row) t.rows new
            ∙ or-from (list_any (λ (r : TableRow). r.number == row) t.rows) (list_any (λ (r : TableRow). r.number == row) new) old added))
        | inr other ↦ rw other refl
      ]

  lacks_changed : (versions : Versions) (s : Statement) (catalog : Catalog) (t : Table) (ns : List NeededRow)
      → makes (made_if None versions s (Some t) ns) ≡ false → lacks t ≡ true → lacks (table_after s catalog t) ≡ true
  lacks_changed versions (TheQuery query) catalog t ns unmade lacking = lacking
  lacks_changed versions (TheInsert insert) catalog t ns unmade lacking = new_lacks insert t unmade lacking
  lacks_changed versions (TheUpdate update) catalog t ns unmade lacking =
      let scope : List InScope = own_scope update.table catalog in
      lacks_by t.name t.rows (map (update_one scope update t.schema.columns) t.rows)
      (λ none. numbers_kept scope update t.schema.columns t.rows ∙ none) lacking
  lacks_changed versions (TheDelete delete) catalog t ns unmade lacking =
      let stays : TableRow → Bool = λ r. not (is_matched (own_scope delete.table catalog) delete.pick r) in
      lacks_by t.name t.rows (filter stays t.rows)
      (λ none. list_any-filter (λ (r : TableRow). r.number == row) stays t.rows none) lacking

  -- ---- a statement that needs the row names its table

  all_lack : (ts : List Table) → list_any (is_table table) ts ≡ false → list_all lacks ts ≡ true
  all_lack [] none = refl
  all_lack (t ∷ ts) none =
      let parts = or-parts (is_table table t) (list_any (is_table table) ts) none in
      rw parts.0 (all_lack ts parts.1)

  -- a needed row is one of a table that is there
  needed_there : (statement : Option Statement) (db : List Table) → is_needed (need_of statement db) ≡ true
      → list_any (is_table table) db ≡ true
  needed_there statement db needed = elim (cases_Bool (list_any (is_table table) db)) [
    | inl there ↦ there
    | inr none ↦ absurd (false≢true (sym (unneeded statement db (all_lack db none)) ∙ needed))
  ]

  -- one of the row is one of its table
  needed_of : (ns : List NeededRow) → is_needed ns ≡ true → list_any (λ n. same_text n.table table) ns ≡ true
  needed_of [] needed = needed
  needed_of (n ∷ ns) needed = elim (cases_Bool (same_text n.table table)) [
    | inl named ↦ rw named refl
    | inr other ↦ rw other (needed_of ns (rw other at needed))
  ]

  names_turned : (names : List (List ℕ)) → list_any (same_text table) names ≡ list_any (λ name. same_text name table) names
  names_turned names = λ j. list_any (λ name. bytes_eq-sym table name j) names

  pub needed_named : (statement : Option Statement) (db : List Table) → is_database db ≡ true
      → is_needed (need_of statement db) ≡ true
      → list_any (λ name. same_text name table) (asked_tables statement db) ≡ true
  needed_named statement db valid needed =
      sym (names_turned (asked_tables statement db))
      ∙ asked_needs_law statement db table (needed_there statement db needed) (needed_of (need_of statement db) needed)

  -- ---- a statement over a database

  module _ (versions : Versions) (db : List Table) (valid : is_database db ≡ true) where
    abbrev needs : Option Statement → List NeededRow
    needs statement = need_of statement db

    abbrev made : Option Statement → List Member
    made statement = made_by versions statement db

    abbrev parts : Statement → List Member
    parts s = made_if (refusal_of (Some s) db) versions s (target s db) (needs (Some s))

    made_are : (s : Statement) → made (Some s) ≡ parts s
    made_are s = made_parts db versions s (target_rises s db valid)

    -- what it sees of the row as it was at first, it reads or makes
    pub seen_is : (statement : Option Statement)
        → (list_any (is_read first) (map (read_of versions) (needs statement)) || (makes (made statement) || changes (made statement)))
        ≡ (list_any (is_first versions) (needs statement) || makes (made statement))
    seen_is None =
        (λ j. reads_are versions (needs None) j || (makes (made_none versions db j) || changes (made_none versions db j)))
        ∙ sym (λ j. list_any (is_first versions) (needs None) || makes (made_none versions db j))
    seen_is (Some s) =
        (λ j. reads_are versions (needs (Some s)) j || (makes (made_are s j) || changes (made_are s j)))
        ∙ seen_by versions (refusal_of (Some s) db) s (target s db) (needs (Some s))
        ∙ sym (λ j. list_any (is_first versions) (needs (Some s)) || makes (made_are s j))

    -- it makes no row of a number that is used
    pub used_unmade : (statement : Option Statement) → list_all is_used db ≡ true → makes (made statement) ≡ false
    used_unmade None all = ap makes (made_none versions db)
    used_unmade (Some s) all =
        ap makes (made_are s)
        ∙ unmade_by versions (refusal_of (Some s) db) s (target s db) (needs (Some s)) (used_of (target_of s) db all)

    -- a number that is used stays so
    pub used_after : (statement : Option Statement) → list_all is_used db ≡ true → list_all is_used (after statement db) ≡ true
    used_after None all = all_after_none is_used db valid all
    used_after (Some s) all = all_after is_used db valid all s (λ none t found used. used_changed s (catalog_of db) t used)

    -- a row that it doesn't make isn't there afterwards where it wasn't before
    pub lacks_after : (statement : Option Statement) → list_all lacks db ≡ true → makes (made statement) ≡ false
        → list_all lacks (after statement db) ≡ true
    lacks_after None all unmade = all_after_none lacks db valid all
    lacks_after (Some s) all unmade =
        all_after lacks db valid all s
        (λ none t found lacking.
        lacks_changed versions s (catalog_of db) t (needs (Some s))
        (sym (ap makes (λ j. made_if (none j) versions s (found j) (needs (Some s)))) ∙ sym (ap makes (made_are s)) ∙ unmade) lacking)

    updated_by : (refusal : Option SqlRefusal) (s : Statement) (ns : List NeededRow) → is_needed ns ≡ false
        → list_any (is_origin_of table row) (updated_if refusal s ns) ≡ false
    updated_by (Some refusal) s ns none = refl
    updated_by None (TheQuery query) ns none = refl
    updated_by None (TheInsert insert) ns none = refl
    updated_by None (TheUpdate update) ns none =
        list_any-map (is_origin_of table row) origin_of (lineage ns)
        ∙ list_any-filter (λ (n : NeededRow). is_it n.table n.row) is_lineage ns none
    updated_by None (TheDelete delete) ns none = refl

    unupdated : (statement : Option Statement) → is_needed (needs statement) ≡ false
        → list_any (is_origin_of table row) (updated_rows statement db) ≡ false
    unupdated None none = ap (list_any (is_origin_of table row)) (updated_none db)
    unupdated (Some s) none =
        ap (list_any (is_origin_of table row)) (updated_parts db s (target_rises s db valid))
        ∙ updated_by (refusal_of (Some s) db) s (needs (Some s)) none

    -- a row that it doesn't need keeps its version
    pub version_after : (statement : Option Statement) → is_needed (needs statement) ≡ false
        → versions_after (updated_rows statement db) versions table row ≡ versions table row
    version_after statement none = rw (unupdated statement none) refl
