-- The rules that the event of a statement meets, over a database whose tables have these names.
use Rattle.std.proofs.Common.{◌≡◌, ℕ, ◌+◌, ◌<◌, ◌≤◌, ◌^◌, List, [], ◌∷◌, length, refl, sym, ap, ◌∙◌, subst, Bool, true, false, arith, inl, inr}
use Rattle.std.specs.Prelude.{Option, Some, None, map, filter, ◌&&◌, ◌==◌, nat_lt, IsTrue}
use Rattle.std.specs.List.{list_all, list_any, AllByRecursion}
use Rattle.std.specs.Str.{IsUtf8}
use Rattle.std.proofs.lemmas.Bool.{cases_Bool, leb-true, ltb-true, lt-ltb, eq-eqb}
use Rattle.std.proofs.lemmas.Bool.Decides.{nat_tests}
use Rattle.ldv_value.proofs.Booleans.{and-parts, or-left, or-right, and-from}
use Rattle.ldv_value.proofs.SameBytes.{bytes_eq-true, bytes_eq-itself}
use Rattle.ldv_value.proofs.Lists.{found-passes, all-weaker, all-tested, tested-all, sorted-under}
use Rattle.std.proofs.lemmas.List.{length-map}
use Rattle.ldv_value.specs.declared.value.Value.{Value}
use Rattle.sql_model.specs.SqlNames.{sql_name_test}
use Rattle.sql_model.specs.declared.catalog.Catalog.{Catalog}
use Rattle.sql_model.specs.declared.reply.SqlRefusal.{SqlRefusal}
use Rattle.sql_model.specs.declared.reply.SqlRefusal.TheVariants.{NotNull, Full}
use Rattle.sql_model.specs.declared.statement.Insert.{Insert}
use Rattle.sql_model.specs.declared.statement.Statement.TheVariants.{Query as TheQuery, Insert as TheInsert, Update as TheUpdate, Delete as TheDelete}
use Rattle.sql_model.specs.QueryAnswer.{Origin}
use Rattle.sql_model.specs.Changes.{numbered_rows, new_values, lacks_value, key_clash, table_after, key_refusal, is_full, or_else, refusal_if, change_refusal}
use Rattle.sql_model.specs.Needs.{Versions, NeededRow, need_of, asked_names, is_asked, table_name, asked_tables, new_member, made_by, updated_rows, is_row_of, versions_after, read_of}
use Rattle.sql_model.specs.Refusals.{check_refusal}
use Rattle.sql_model.specs.Scope.{same_text, is_table, table_at, rows_of, catalog_of}
use Rattle.sql_model.specs.Statements.{target, own_refusal, reference_refusal, refusal_of}
use Rattle.sql_model.specs.Tables.{schema_test, is_valid_table, table_precedes, is_database, is_described, tables_test}
use Rattle.sql_model.proofs.Databases.{tables_of_database}
use Rattle.sql_model.proofs.ValidTables.{TableParts, table-parts}
use Rattle.sql_model.proofs.SortedLists.{sorted-filter}
use Rattle.sql_laws.proofs.DatabaseLaws.{tables_law}
use Rattle.sql_laws.proofs.ChangedTables.{else-parts, if-none}
use Rattle.replay_db.specs.Types.{Statement, Table, TableRow, Member, Need, Act}
use Rattle.run_model.specs.SqlDatabase.{SqlDatabase, db_after, lists_of}
use Rattle.run_model.specs.Step.{asked_act}
use Rattle.package_codec.specs.Events.{need_groups, member_groups, needs_room, members_room, act_room, TypedNeed, TypedMember, TypedAct}
use Rattle.package_layout.specs.inner.Order.{rises, is_below, need_below, member_below}
use Rattle.package_codec.specs.Parts.{need_table, need_part, member_table, member_part}
use Rattle.package_codec.specs.Room.{fits_u16_count}
use Rattle.run_model.specs.ValidTrace.{named_rule}
use Rattle.package_codec.specs.inner.Trace.{act_rule}
use Rattle.package_codec.specs.Typed.{IsU32}
use Rattle.replay_db.proofs.NeedsSorted.{row_under, row_under_trans, needs_rise, reads_rise}
use Rattle.sql_laws.proofs.NeedsSound.{needs_good}
use Rattle.replay_db.proofs.RowGroups.{is_name_of, groups_few}
use Rattle.run_laws.proofs.RunSame.{database_of}
use Rattle.run_laws.proofs.SortedNeeds.{rows_sorted, is_lineage, lineage}
use Rattle.run_laws.proofs.StatementNames.{names_after}
use Rattle.run_laws.proofs.StatementVersions.{next_of, members_from, made_of, made_if, made_parts, made_none, target_rises}
use Rattle.run_laws.proofs.Targets.{valid_table}
use Rattle.replay_db.proofs.TraceLists.{all_filter, all_map, all_of_map, filter_rises, filter_most, equal_itself}

-- ---- a database

-- names of tables, sorted
pub record RuledNames (names : List (List ℕ)) : Type 0 where
  pub named : AllByRecursion (λ name. IsTrue (sql_name_test name)) names
  pub sorted : rises is_below names ≡ true

-- so are those of the tables of a world
pub tables_names : (ts : List Table) → tables_test ts ≡ true → RuledNames (map table_name ts)
tables_names ts valid =
    let parts = and-parts (is_database ts) (list_all is_described ts) valid in
    record {
      named = all_map (λ name. IsTrue (sql_name_test name)) table_name ts
          (all-weaker (λ t. IsTrue (is_described t)) (λ t. IsTrue (sql_name_test t.name)) (λ t described. (and-parts (sql_name_test t.name) (schema_test t.schema) described).0)
          ts (all-tested is_described ts parts.1));
      sorted = sorted-under is_below table_name ts ∙ (and-parts (list_all is_valid_table ts) (rises table_precedes ts) (tables_of_database ts parts.0)).1;
    }

-- the tables have these names, and no row was updated more often than statements were asked
pub record GoodDatabase (names : List (List ℕ)) (asked : ℕ) (db : SqlDatabase) : Type 0 where
  pub same_names : map table_name db.tables ≡ names
  pub valid : tables_test db.tables ≡ true
  pub versions : (table : List ℕ) (row : ℕ) → db.versions table row ≤ asked

updated_once : (updated : List Origin) (versions : Versions) (asked : ℕ) → ((table : List ℕ) (row : ℕ) → versions table row ≤ asked)
    → (table : List ℕ) (row : ℕ) → versions_after updated versions table row ≤ asked + 1
updated_once updated versions asked bound table row =
    let least : versions table row ≤ asked = bound table row in
    elim (cases_Bool (list_any (is_row_of table row) updated)) [
      | inl hit ↦ rw hit (omega (arith, least))
      | inr miss ↦ rw miss (omega (arith, least))
    ]

pub good_after : (names : List (List ℕ)) (asked : ℕ) (db : SqlDatabase) (statement : Option Statement)
    → GoodDatabase names asked db → GoodDatabase names (asked + 1) (db_after statement db)
good_after names asked db statement good = record {
  same_names = names_after statement db.tables ∙ good.same_names;
  valid = tables_law statement db.tables good.valid;
  versions = updated_once (updated_rows statement db.tables) db.versions asked good.versions;
}

-- ---- rows of valid tables

pub record ValidTable (t : Table) : Type 0 where
  pub next : t.next ≤ 4294967295
  pub below : AllByRecursion (λ (row : TableRow). row.number < t.next) t.rows

all_below : (next : ℕ) (rows : List TableRow) → list_all (λ (row : TableRow). nat_lt row.number next) rows ≡ true
    → AllByRecursion (λ (row : TableRow). row.number < next) rows
all_below next [] below = tt
all_below next (row ∷ rows) below =
    let both = and-parts (nat_lt row.number next) (list_all (λ (r : TableRow). nat_lt r.number next) rows) below in
    (ltb-true row.number next both.0, all_below next rows both.1)

pub table_parts : (t : Table) → is_valid_table t ≡ true → ValidTable t
table_parts t valid =
    let parts : TableParts t = table-parts t valid in
    record {
      next = leb-true t.next 4294967295 parts.next;
      below = all_below t.next t.rows (and-parts (rows_sorted t.rows) (list_all (λ (row : TableRow). nat_lt row.number t.next) t.rows) parts.numbers).1;
    }

found_named : (name : List ℕ) (db : List Table) (t : Table) → table_at name db ≡ Some t → is_name_of (map table_name db) name ≡ true
found_named name [] t is = cc
found_named name (u ∷ us) t is = elim (cases_Bool (is_table name u)) [
  | inl hit ↦ rw hit refl
  | inr miss ↦ or-right (same_text u.name name) (is_name_of (map table_name us) name) (found_named name us t (rw miss at is))
]

-- a name among names that all meet something meets it
name_meets : (P : List ℕ → Type 0) (names : List (List ℕ)) (name : List ℕ) → AllByRecursion P names → is_name_of names name ≡ true → P name
name_meets P [] name all there = absurd cc
name_meets P (other ∷ names) name all there = elim (cases_Bool (same_text other name)) [
  | inl hit ↦ subst P (bytes_eq-true other name hit) all.0
  | inr miss ↦ name_meets P names name all.1 (rw miss at there)
]

-- ---- rows that an INSERT makes

numbered_all : (P : ℕ → Type 0) (start : ℕ) (rows : List (List Value)) → ((n : ℕ) → n < start + length rows → P n)
    → AllByRecursion (λ (row : TableRow). P row.number) (numbered_rows start rows)
numbered_all P start [] each = tt
numbered_all P start (values ∷ rows) each =
    (each start (omega arith), numbered_all P (start + 1) rows (λ n below. each n (omega (arith, below))))

in_order : (n : ℕ) → nat_lt n (n + 1) ≡ true
in_order n = grind (arith, nat_tests)

numbered_rise : (t : Table) (start : ℕ) (rows : List (List Value)) → rises member_below (map (new_member t) (numbered_rows start rows)) ≡ true
numbered_rise t start [] = refl
numbered_rise t start (values ∷ []) = refl
numbered_rise t start (values ∷ more ∷ rows) =
    let here : member_below (new_member t (record { number = start; values = values })) (new_member t (record { number = start + 1; values = more })) ≡ true =
    rw (equal_itself t.name) (in_order start) in
    and-from (member_below (new_member t (record { number = start; values = values })) (new_member t (record { number = start + 1; values = more })))
    (rises member_below (map (new_member t) (numbered_rows (start + 1) (more ∷ rows)))) here (numbered_rise t (start + 1) (more ∷ rows))

-- ---- an INSERT that isn't refused has numbers for its rows

not_full : (s : Statement) (db : List Table) (t : Table) → target s db ≡ Some t → refusal_of (Some s) db ≡ None → is_full s t ≡ false
not_full s db t found none =
    let catalog : Catalog = catalog_of db in
    let own : own_refusal s db ≡ None = (else-parts (own_refusal s db) (reference_refusal s catalog (target s db) db) none).0 in
    let change : change_refusal s (catalog_of db) (Some t) ≡ None = ap (change_refusal s (catalog_of db)) (sym found) ∙ (else-parts (check_refusal s (catalog_of db)) (change_refusal s (catalog_of db) (target s db)) own).1 in
    let later = (else-parts (refusal_if (lacks_value s (catalog_of db) t) NotNull) (or_else (key_refusal t (key_clash (table_after s (catalog_of db) t))) (refusal_if (is_full s t) Full)) change).1 in
    if-none (is_full s t) Full (else-parts (key_refusal t (key_clash (table_after s (catalog_of db) t))) (refusal_if (is_full s t) Full) later).1

room_left : (n : ℕ) → nat_lt 4294967295 n ≡ false → n ≤ 4294967295
room_left n not_over = grind (arith, nat_tests)

module _ (names : List (List ℕ)) (asked : ℕ) (db : SqlDatabase) (good : GoodDatabase names asked db) where
  -- ---- the rows of the tables

  -- the table is one of the names, and the number has four bytes
  abbrev IsThere : List ℕ → ℕ → Type 0
  IsThere name number = IsTrue (is_name_of names name) × IsU32 number

  name_there : (name : List ℕ) (t : Table) → table_at name db.tables ≡ Some t → is_name_of names name ≡ true
  name_there name t found = ap (λ (ns : List (List ℕ)). is_name_of ns name) (sym good.same_names) ∙ found_named name db.tables t found

  rows_there : (name : List ℕ) → AllByRecursion (λ (row : TableRow). IsThere name row.number) (rows_of (table_at name db.tables))
  rows_there name = by (table_at name db.tables) refl
    where
      by : (o : Option Table) → table_at name db.tables ≡ o → AllByRecursion (λ (row : TableRow). IsThere name row.number) (rows_of o)
      by None found = tt
      by (Some t) found =
          let valid : ValidTable t = table_parts t (valid_table name db.tables t (database_of db.tables good.valid) found) in
          all-weaker (λ (row : TableRow). row.number < t.next) (λ (row : TableRow). IsThere name row.number)
          (λ row below. (name_there name t found, omega (arith, below, valid.next))) t.rows valid.below

  -- of every table
  each_there : (ts : List Table) → list_all is_valid_table ts ≡ true
      → ((name : List ℕ) → is_name_of (map table_name ts) name ≡ true → is_name_of names name ≡ true)
      → AllByRecursion (λ (t : Table). AllByRecursion (λ (row : TableRow). IsThere t.name row.number) t.rows) ts
  each_there [] valid among = tt
  each_there (t ∷ ts) valid among =
      let both = and-parts (is_valid_table t) (list_all is_valid_table ts) valid in
      let parts : ValidTable t = table_parts t both.0 in
      let named : is_name_of names t.name ≡ true =
      among t.name (or-left (same_text t.name t.name) (is_name_of (map table_name ts) t.name) (bytes_eq-itself t.name)) in (
        all-weaker (λ (row : TableRow). row.number < t.next) (λ (row : TableRow). IsThere t.name row.number)
            (λ row below. (named, omega (arith, below, parts.next))) t.rows parts.below,
        each_there ts both.1 (λ name more. among name (or-right (same_text t.name name) (is_name_of (map table_name ts) name) more)),
      )

  all_there : AllByRecursion (λ (t : Table). AllByRecursion (λ (row : TableRow). IsThere t.name row.number) t.rows) db.tables
  all_there =
      let both = and-parts (list_all is_valid_table db.tables) (rises table_precedes db.tables)
      (tables_of_database db.tables (database_of db.tables good.valid)) in
      each_there db.tables both.0 (λ name there. ap (λ (ns : List (List ℕ)). is_name_of ns name) (sym good.same_names) ∙ there)

  needs_there : (statement : Option Statement) → AllByRecursion (λ n. IsThere n.table n.row) (need_of statement db.tables)
  needs_there statement = needs_good IsThere db.tables rows_there all_there statement

  -- ---- the rows that are made

  -- in a version that is at most one more than so many statements
  abbrev IsMade : Member → Type 0
  IsMade m = IsThere m.table m.row × (m.version ≤ asked + 1)

  next_made : (ns : List NeededRow) → AllByRecursion (λ n. IsThere n.table n.row) ns → AllByRecursion IsMade (map (next_of db.versions) ns)
  next_made [] there = tt
  next_made (n ∷ ns) there = let bound : db.versions n.table n.row ≤ asked = good.versions n.table n.row in ((there.0, omega (arith, bound)), next_made ns there.1)

  insert_made : (insert : Insert) (t : Table) → table_at insert.table db.tables ≡ Some t → is_full (TheInsert insert) t ≡ false
      → AllByRecursion IsMade (members_from insert (Some t))
  insert_made insert t found room =
      let rows : List (List Value) = map (new_values insert.columns t.schema.columns) insert.rows in
      let count : length rows ≡ length insert.rows = length-map insert.rows (new_values insert.columns t.schema.columns) in
      let least : t.next + length insert.rows ≤ 4294967295 = room_left (t.next + length insert.rows) room in
      let same : t.name ≡ insert.table = bytes_eq-true t.name insert.table (found-passes (is_table insert.table) db.tables t found) in
      let named : is_name_of names t.name ≡ true = ap (is_name_of names) same ∙ name_there insert.table t found in
      all_map IsMade (new_member t) (numbered_rows t.next rows)
      (numbered_all (λ n. IsMade (record { table = t.name; row = n; version = 0 })) t.next rows (λ n below. ((named, omega (arith, below, count, least)), omega arith)))

  insert_of : (insert : Insert) (o : Option Table) → table_at insert.table db.tables ≡ o → refusal_of (Some (TheInsert insert)) db.tables ≡ None
      → AllByRecursion IsMade (members_from insert o)
  insert_of insert None found none = tt
  insert_of insert (Some t) found none = insert_made insert t found (not_full (TheInsert insert) db.tables t found none)

  accepted_made : (s : Statement) → refusal_of (Some s) db.tables ≡ None
      → AllByRecursion IsMade (made_of db.versions s (target s db.tables) (need_of (Some s) db.tables))
  accepted_made (TheQuery query) none = tt
  accepted_made (TheInsert insert) none = insert_of insert (target (TheInsert insert) db.tables) refl none
  accepted_made (TheUpdate update) none =
      let ns : List NeededRow = need_of (Some (TheUpdate update)) db.tables in
      next_made (lineage ns) (all_filter (λ n. IsThere n.table n.row) is_lineage ns (needs_there (Some (TheUpdate update))))
  accepted_made (TheDelete delete) none = next_made (need_of (Some (TheDelete delete)) db.tables) (needs_there (Some (TheDelete delete)))

  by_refusal : (s : Statement) (refusal : Option SqlRefusal) → refusal_of (Some s) db.tables ≡ refusal
      → AllByRecursion IsMade (made_if refusal db.versions s (target s db.tables) (need_of (Some s) db.tables))
  by_refusal s None none = accepted_made s none
  by_refusal s (Some refusal) is = tt

  made_there : (statement : Option Statement) → AllByRecursion IsMade (made_by db.versions statement db.tables)
  made_there None = subst (AllByRecursion IsMade) (sym (made_none db.versions db.tables)) tt
  made_there (Some s) =
      subst (AllByRecursion IsMade) (sym (made_parts db.tables db.versions s (target_rises s db.tables (database_of db.tables good.valid))))
      (by_refusal s (refusal_of (Some s) db.tables) refl)

  -- ---- they are sorted

  needs_sorted : (ns : List NeededRow) → rises row_under ns ≡ true → rises member_below (map (next_of db.versions) ns) ≡ true
  needs_sorted ns rise = sorted-under member_below (next_of db.versions) ns ∙ rise

  insert_sorted : (insert : Insert) (o : Option Table) → rises member_below (members_from insert o) ≡ true
  insert_sorted insert None = refl
  insert_sorted insert (Some t) = numbered_rise t t.next (map (new_values insert.columns t.schema.columns) insert.rows)

  sorted_if : (refusal : Option SqlRefusal) (s : Statement) → rises member_below (made_if refusal db.versions s (target s db.tables) (need_of (Some s) db.tables)) ≡ true
  sorted_if (Some refusal) s = refl
  sorted_if None (TheQuery query) = refl
  sorted_if None (TheInsert insert) = insert_sorted insert (target (TheInsert insert) db.tables)
  sorted_if None (TheUpdate update) =
      let ns : List NeededRow = need_of (Some (TheUpdate update)) db.tables in
      needs_sorted (lineage ns) (sorted-filter row_under row_under_trans is_lineage ns (needs_rise (Some (TheUpdate update)) db.tables))
  sorted_if None (TheDelete delete) = needs_sorted (need_of (Some (TheDelete delete)) db.tables) (needs_rise (Some (TheDelete delete)) db.tables)

  made_sorted : (statement : Option Statement) → rises member_below (made_by db.versions statement db.tables) ≡ true
  made_sorted None = ap (rises member_below) (made_none db.versions db.tables)
  made_sorted (Some s) =
      ap (rises member_below) (made_parts db.tables db.versions s (target_rises s db.tables (database_of db.tables good.valid)))
      ∙ sorted_if (refusal_of (Some s) db.tables) s

  -- ---- the tables that are asked

  asked_all : (P : List ℕ → Type 0) → AllByRecursion P names → (statement : Option Statement) → AllByRecursion P (asked_tables statement db.tables)
  asked_all P all None = tt
  asked_all P all (Some s) =
      let tables : AllByRecursion (λ (t : Table). P t.name) db.tables = all_of_map P table_name db.tables (subst (AllByRecursion P) (sym good.same_names) all) in
      let asks : Table → Bool = is_asked (asked_names s db.tables) in
      all_map P table_name (filter asks db.tables) (all_filter (λ (t : Table). P t.name) asks db.tables tables)

  asked_sorted : rises is_below names ≡ true → (statement : Option Statement) → rises is_below (asked_tables statement db.tables) ≡ true
  asked_sorted sorted None = refl
  asked_sorted sorted (Some s) =
      let asks : Table → Bool = is_asked (asked_names s db.tables) in
      sorted-under is_below table_name (filter asks db.tables)
      ∙ filter_rises table_name asks db.tables (sym (sorted-under is_below table_name db.tables) ∙ ap (rises is_below) good.same_names ∙ sorted)

  asked_few : (statement : Option Statement) → length (asked_tables statement db.tables) ≤ length names
  asked_few None = omega arith
  asked_few (Some s) =
      let count : length (map table_name db.tables) ≡ length names = ap length good.same_names in
      let asks : Table → Bool = is_asked (asked_names s db.tables) in
      omega (arith, count, length-map db.tables table_name, length-map (filter asks db.tables) table_name, filter_most asks db.tables)

  -- ---- the event

  module _ (statement : Option Statement) where
    abbrev tables : List (List ℕ)
    tables = asked_tables statement db.tables

    abbrev reads : List Need
    reads = map (read_of db.versions) (need_of statement db.tables)

    abbrev made : List Member
    made = made_by db.versions statement db.tables

    abbrev act : Act
    act = asked_act asked (lists_of statement db)

    module _ (ruled : RuledNames names) where
      -- it meets the rule of its act
      pub asked_ruled : (processes step : ℕ) → act_rule (record { made = processes; asked = asked; step = step }) act ≡ true
      asked_ruled processes step =
          let number : (asked == asked) ≡ true = eq-eqb asked asked refl in
          let named : list_all sql_name_test tables ≡ true = tested-all sql_name_test tables (asked_all (λ name. IsTrue (sql_name_test name)) ruled.named statement) in
          let two = and-from (asked == asked) (list_all sql_name_test tables) number named in
          let three = and-from ((asked == asked) && list_all sql_name_test tables) (rises is_below tables) two (asked_sorted ruled.sorted statement) in
          let four = and-from ((asked == asked) && list_all sql_name_test tables && rises is_below tables) (rises need_below reads) three (reads_rise db.versions statement db.tables) in
          and-from ((asked == asked) && list_all sql_name_test tables && rises is_below tables && rises need_below reads) (rises member_below made) four (made_sorted statement)

      abbrev NameOf : List ℕ → Type 0
      NameOf name = IsTrue (is_name_of names name)

      named_there : (name : List ℕ) → NameOf name → IsTrue (sql_name_test name)
      named_there name there = name_meets (λ n. IsTrue (sql_name_test n)) names name ruled.named there

      read_names : AllByRecursion (λ n. NameOf (need_table n)) reads
      read_names = all_map (λ n. NameOf (need_table n)) (read_of db.versions) (need_of statement db.tables)
          (all-weaker (λ n. IsThere n.table n.row) (λ n. NameOf n.table) (λ n there. there.0) (need_of statement db.tables) (needs_there statement))

      made_names : AllByRecursion (λ m. NameOf (member_table m)) made
      made_names = all-weaker IsMade (λ m. NameOf m.table) (λ m there. there.0.0) made (made_there statement)

      reads_named : list_all (λ n. sql_name_test (need_table n)) reads ≡ true
      reads_named =
          tested-all (λ n. sql_name_test (need_table n)) reads
          (all-weaker (λ n. NameOf (need_table n)) (λ n. IsTrue (sql_name_test (need_table n))) (λ n there. named_there (need_table n) there) reads read_names)

      made_named : list_all (λ m. sql_name_test (member_table m)) made ≡ true
      made_named =
          tested-all (λ m. sql_name_test (member_table m)) made
          (all-weaker (λ m. NameOf (member_table m)) (λ m. IsTrue (sql_name_test (member_table m))) (λ m there. named_there (member_table m) there) made made_names)

      -- its tables have names
      pub asked_named : named_rule act ≡ true
      asked_named = and-from (list_all (λ n. sql_name_test (need_table n)) reads) (list_all (λ m. sql_name_test (member_table m)) made) reads_named made_named

      module _ (few_names : length names ≤ 256) where
        few_groups : (n : ℕ) → n ≤ length names → nat_lt n (2 ^ 16) ≡ true
        few_groups n within = lt-ltb n (2 ^ 16) (omega (arith, within, few_names))

        reads_fit : needs_room reads ≡ true
        reads_fit =
            let few : length (need_groups reads) ≤ length names = groups_few need_table (λ n. n.member.row) need_part names reads (reads_rise db.versions statement db.tables) read_names in
            and-from (fits_u16_count (need_groups reads)) (list_all (λ n. sql_name_test (need_table n)) reads) (few_groups (length (need_groups reads)) few) reads_named

        made_fit : members_room made ≡ true
        made_fit =
            let few : length (member_groups made) ≤ length names = groups_few member_table (λ m. m.row) member_part names made (made_sorted statement) made_names in
            and-from (fits_u16_count (member_groups made)) (list_all (λ m. sql_name_test (member_table m)) made) (few_groups (length (member_groups made)) few) made_named

        -- the format has room for it
        pub asked_room : act_room act ≡ true
        asked_room =
            and-from (fits_u16_count tables) (needs_room reads && members_room made) (few_groups (length tables) (asked_few statement))
            (and-from (needs_room reads) (members_room made) reads_fit made_fit)

    -- its numbers are those of their types, and its texts are UTF-8
    pub asked_typed : AllByRecursion IsUtf8 names → asked ≤ 10000000 → TypedAct act
    asked_typed texts small =
        let text : (name : List ℕ) → IsTrue (is_name_of names name) → IsUtf8 name = λ name there. name_meets IsUtf8 names name texts there in
        let read : AllByRecursion TypedNeed reads = all_map TypedNeed (read_of db.versions) (need_of statement db.tables)
        (all-weaker (λ n. IsThere n.table n.row) (λ n. TypedNeed (read_of db.versions n))
        (λ n there. let bound : db.versions n.table n.row ≤ asked = good.versions n.table n.row in (text n.table there.0, (there.1, omega (arith, bound, small))))
        (need_of statement db.tables) (needs_there statement)) in
        let new : AllByRecursion TypedMember made = all-weaker IsMade TypedMember
        (λ m there. let bound : m.version ≤ asked + 1 = there.1 in (text m.table there.0.0, (there.0.1, omega (arith, bound, small)))) made (made_there statement) in
        (omega (arith, small), (asked_all IsUtf8 texts statement, (read, new)))
