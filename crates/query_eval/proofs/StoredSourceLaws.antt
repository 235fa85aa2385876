-- The sources of a core from a store have the properties that the definitions of a join ask for.
use Rattle.std.proofs.Common.{◌≡◌, ◌==◌, ◌∙◌, sym, ap, subst, refl, ℕ, zero, suc, ◌+◌, ◌<◌, ◌≤◌, Bool, true, false, ◌&&◌, ◌||◌, List, [], ◌∷◌, ◌++◌, map, length, drop, get_or, append_assoc, append-nil, inl, inr, arith, Option, Some, None}
use Rattle.std.specs.Prelude.{filter, find, is_none, option_map, slice_get, zip, IfSome}
use Rattle.std.specs.Cmp.Lexicographic.{slice_cmp, nat_list_cmp_total}
use Rattle.std.specs.List.{flat_map, list_all, list_any, AllByRecursion}
use Rattle.std.specs.List.Sorted.{IsStrictlySortedBy}
use Rattle.std.specs.Ordering.{nat_cmp}
use Rattle.std.specs.declared.cmp.Ordering.TheVariants.{Less}
use Rattle.std.proofs.lemmas.Bool.Decides.{Decides-eqb}
use Rattle.std.proofs.lemmas.Bool.{cases_Bool}
use Rattle.std.proofs.lemmas.List.{drop_all, length-append}
use Rattle.predicates.proofs.Checks.{checked-is, tables-there}
use Rattle.predicates.specs.Checking.{core_at, IsChecked}
use Rattle.predicates.specs.Placing.{AreAllPlaced}
use Rattle.predicates.specs.declared.placed.BoundExpr.{BoundExpr}
use Rattle.ldv_value.proofs.Booleans.{and-first, and-parts, and-second, true≢false}
use Rattle.ldv_value.proofs.Lists.{all-tested, all-weaker, list_all-map}
use Rattle.ldv_value.proofs.SameBytes.{bytes_eq-true}
use Rattle.ldv_value.specs.Sorted.{is_strictly_sorted, precedes_first}
use Rattle.ldv_value.proofs.Orderings.{is_lt-true}
use Rattle.ldv_value.proofs.Options.{same-some}
use Rattle.lineage.specs.Lineage.{name_at}
use Rattle.lineage.specs.declared.answer.Pick.{Pick}
use Rattle.predicates.proofs.FixingLaws.{fixed-key}
use Rattle.predicates.proofs.MaskLaws.{masks-pass}
use Rattle.predicates.specs.Masking.{AreMasks}
use Rattle.sql_model.specs.declared.column_test.ColumnTest.{ColumnTest}
use Rattle.query_eval.proofs.Agree.{value_first}
use Rattle.query_eval.proofs.KeyLookupLaws.{keyed-rows}
use Rattle.query_eval.proofs.TableScanLaws.{rows-left}
use Rattle.query_eval.proofs.Widths.{all-wide}
use Rattle.query_eval.proofs.Picks.{all-stand}
use Rattle.query_eval.proofs.Probes.{value-next}
use Rattle.predicates.specs.Conditions.{AreConditions}
use Rattle.query_eval.specs.inner.Conditions.{AreOfCore}
use Rattle.predicates.specs.Fixing.{FixesKey}
use Rattle.predicates.specs.Conditions.{meets}
use Rattle.query_eval.specs.inner.TableScan.{row_passes}
use Rattle.query_eval.specs.Picking.{source_picks, ArePicked}
use Rattle.query_eval.specs.inner.Sources.{table_row, HaveWidths, TablesAreWide, are_kept, AreSources}
use Rattle.query_eval.specs.inner.Sources.{AreWide, SourcesAreWide, LeavesPicked}
use Rattle.query_eval.specs.StoredSources.{table_names, TellVersions, HasVersion, AreChosenOf, IsTaken, chosen_rows, columns_in, width_at, is_name, IsPlace, IsStored, AreStored}
use Rattle.query_eval.specs.declared.source.Source.{Source}
use Rattle.query_eval.specs.declared.source.SourceRow.{SourceRow}
use Rattle.sql_model.proofs.ValidTables.{table-parts}
use Rattle.sql_model.specs.Needs.{Versions}
use Rattle.sql_model.specs.QueryAnswer.{Combination, combinations, joined_values, meets_all, row_environment}
use Rattle.sql_model.specs.Refusals.{cores_of, doubles_source, is_missing, tables_of_core}
use Rattle.ldv_value.specs.Cells.{value_at}
use Rattle.sql_model.specs.Scope.{InScope, catalog_of, is_schema, rows_of, same_text, schema_in, scope_of, table_at}
use Rattle.sql_model.proofs.Databases.{sorted_of_database, valid_of_database}
use Rattle.sql_model.specs.Tables.{AreWellFormed, is_database, is_row, is_valid_table, table_precedes}
use Rattle.sql_model.specs.References.{has_key}
use Rattle.query_eval.specs.Types.{Catalog, Checked, Core, FromItem, Schema, Statement, Table, TableRow, Value}
use Rattle.table_store.specs.Histories.{TableHistory, StoreHistory, history_at, is_history, rows_now, table_now, tables_now}
use Rattle.table_store.proofs.NowLaws.{found_now}

-- ---- the tables of a store, as they are now

abbrev IsValid : TableHistory → Type 0
IsValid table = is_valid_table (table_now table) ≡ true

all-found : {A : Type 0} (p q : A → Bool) (xs : List A) → list_all q xs ≡ true → IfSome (find p xs) (λ x. q x ≡ true)
all-found p q [] all = tt
all-found p q (x ∷ xs) all = elim (cases_Bool (p x)) [
  | inl hit ↦ rw hit (and-first (q x) (list_all q xs) all)
  | inr miss ↦ rw miss (all-found p q xs (and-second (q x) (list_all q xs) all))
]

-- ---- the rows of a source

-- which rows of a table stay
abbrev keep_by : List ColumnTest → Option (List Value) → TableHistory → TableRow → Bool
keep_by masks (Some key) table = has_key table.schema.key key
keep_by masks None table = row_passes masks

module _ (conds : List BoundExpr) (before : ℕ) where
  abbrev pub keep_of : (table : Option TableHistory) (rows : List SourceRow) → AreChosenOf conds before table rows → TableRow → Bool
  keep_of None rows chosen = λ row. true
  keep_of (Some table) rows chosen = keep_by chosen.masks chosen.key table

  by-key : (table : TableHistory) (masks : List ColumnTest) (key : Option (List Value)) → IfSome key (FixesKey conds before (length table.schema.columns) table.schema.key) → IsValid table
      → map table_row (chosen_rows masks key table) ≡ filter (keep_by masks key table) (rows_now table.slots)
  by-key table masks None fixed valid = rows-left masks table.slots table.slots
  by-key table masks (Some key) fixed valid = keyed-rows table key fixed.some (table-parts (table_now table) valid).keys

  -- the rows of a source are those of its table that stay
  pub chosen-are : (table : Option TableHistory) (rows : List SourceRow) (chosen : AreChosenOf conds before table rows) → IfSome table IsValid
      → map table_row rows ≡ filter (keep_of table rows chosen) (rows_of (option_map table_now table))
  chosen-are None rows chosen valid = ap (map table_row) chosen
  chosen-are (Some table) rows chosen valid = ap (map table_row) chosen.are ∙ by-key table chosen.masks chosen.key chosen.fixed valid

-- ---- only rows are left out that are in no picked combination

-- which rows of each source stay
module _ (store : StoreHistory) (conds : List BoundExpr) where
  abbrev pub keeps_of : (from : List FromItem) (before : ℕ) (sources : List Source) → AreStored store conds from before sources → List (TableRow → Bool)
  keeps_of [] before sources are = []
  keeps_of (item ∷ from) before [] are = []
  keeps_of (item ∷ from) before (source ∷ sources) are =
      keep_of conds before (history_at item.table store) source.rows are.0.taken.rows
      ∷ keeps_of from (before + width_at store item) sources are.1

module _ (scope : List InScope) (conds : List BoundExpr) (placed : AreAllPlaced scope conds) where
  module _ (before : ℕ) (row : TableRow) (front rest : List Value) (long : length front ≡ before) (met : meets scope conds (front ++ (row.values ++ rest)) ≡ true) where
    own_value : (width : ℕ) → length row.values ≡ width → (column : ℕ) → column < width → value_at (front ++ (row.values ++ rest)) (before + column) ≡ value_at row.values column
    own_value width wide column below =
        value-next front (row.values ++ rest) (before + column) column (omega (arith, long))
        ∙ value_first row.values rest column (omega (arith, below, wide))

    stays-by : (table : TableHistory) (masks : List ColumnTest) (key : Option (List Value)) → AreMasks conds before table.schema.columns masks
        → IfSome key (FixesKey conds before (length table.schema.columns) table.schema.key)
        → length row.values ≡ length table.schema.columns → keep_by masks key table row ≡ true
    stays-by table masks None given fixed wide =
        masks-pass scope conds placed before table.schema.columns (front ++ (row.values ++ rest)) row.values (own_value (length table.schema.columns) wide) met masks given
    stays-by table masks (Some key) given fixed wide =
        fixed-key scope conds placed before (length table.schema.columns) (front ++ (row.values ++ rest)) row.values (own_value (length table.schema.columns) wide) met table.schema.key key fixed

    stays : (table : Option TableHistory) (rows : List SourceRow) (chosen : AreChosenOf conds before table rows) → length row.values ≡ length (columns_in table)
        → keep_of conds before table rows chosen row ≡ true
    stays None rows chosen wide = refl
    stays (Some table) rows chosen wide = stays-by table chosen.masks chosen.key chosen.given chosen.fixed wide

  module _ (store : StoreHistory) where
    pub all-stay : (from : List FromItem) (before : ℕ) (sources : List Source) (are : AreStored store conds from before sources) (rows : Combination) (front : List Value)
        → length front ≡ before → HaveWidths (map (width_at store) from) rows → meets scope conds (front ++ joined_values rows) ≡ true
        → are_kept (keeps_of store conds from before sources are) rows ≡ true
    all-stay [] before sources are rows front long wide met = refl
    all-stay (item ∷ from) before [] are rows front long wide met = absurd are
    all-stay (item ∷ from) before (source ∷ sources) are [] front long wide met = refl
    all-stay (item ∷ from) before (source ∷ sources) are (row ∷ rows) front long wide met =
        let here : keep_of conds before (history_at item.table store) source.rows are.0.taken.rows row ≡ true =
        stays before row front (joined_values rows) long met (history_at item.table store) source.rows are.0.taken.rows wide.0 in
        let longer : length (front ++ row.values) ≡ before + width_at store item =
        length-append front row.values ∙ (λ j. long j + wide.0 j) in
        let next : meets scope conds ((front ++ row.values) ++ joined_values rows) ≡ true =
        ap (meets scope conds) (append_assoc front row.values (joined_values rows)) ∙ met in
        let there : are_kept (keeps_of store conds from (before + width_at store item) sources are.1) rows ≡ true =
        all-stay from (before + width_at store item) sources are.1 rows (front ++ row.values) longer wide.1 next in
        λ j. here j && there j

-- ---- the widths of rows

rows-wide : (table : Table) → is_valid_table table ≡ true → AllByRecursion (λ row. length row.values ≡ length table.schema.columns) table.rows
rows-wide table valid =
    all-weaker (λ (row : TableRow). is_row table.schema.columns row.values ≡ true) (λ row. length row.values ≡ length table.schema.columns)
    (λ row is. (Decides-eqb (length row.values) (length table.schema.columns)).0 (and-parts (length row.values == length table.schema.columns) _ is).0)
    table.rows (all-tested (λ (row : TableRow). is_row table.schema.columns row.values) table.rows (table-parts table valid).rows)

wide-of : (table : Option TableHistory) → IfSome table IsValid → AllByRecursion (λ row. length row.values ≡ length (columns_in table)) (rows_of (option_map table_now table))
wide-of None valid = tt
wide-of (Some table) valid = rows-wide (table_now table) valid

filtered : {A : Type 0} (P : A → Type 0) (p : A → Bool) (xs : List A) → AllByRecursion P xs → AllByRecursion P (filter p xs)
filtered P p [] all = tt
filtered P p (x ∷ xs) all = elim (cases_Bool (p x)) [
  | inl hit ↦ rw hit (all.0, filtered P p xs all.1)
  | inr miss ↦ rw miss (filtered P p xs all.1)
]

mapped : (width : ℕ) (rows : List SourceRow) → AllByRecursion (λ (row : TableRow). length row.values ≡ width) (map table_row rows) → AllByRecursion (λ (row : SourceRow). length row.values ≡ width) rows
mapped width [] all = tt
mapped width (row ∷ rows) all = (all.0, mapped width rows all.1)

module _ (store : StoreHistory) (database : is_database (tables_now store) ≡ true) where
  valid-at : (name : List ℕ) → IfSome (history_at name store) IsValid
  valid-at name =
      all-found (is_history name) (λ table. is_valid_table (table_now table)) store.tables
      (sym (list_all-map is_valid_table table_now store.tables) ∙ valid_of_database (tables_now store) database)

  table-wide : (item : FromItem) → AllByRecursion (λ row. length row.values ≡ width_at store item) (rows_of (table_at item.table (tables_now store)))
  table-wide item =
      subst (λ (o : Option Table). AllByRecursion (λ row. length row.values ≡ width_at store item) (rows_of o)) (sym (found_now item.table store.tables))
      (wide-of (history_at item.table store) (valid-at item.table))

  pub tables-wide : (from : List FromItem) → TablesAreWide from (tables_now store) (map (width_at store) from)
  tables-wide [] = tt
  tables-wide (item ∷ from) = (table-wide item, tables-wide from)

  module _ (conds : List BoundExpr) where
    -- the rows of a source are those of the table now that stay
    stored-rows : (item : FromItem) (before : ℕ) (source : Source) (stored : IsStored store conds item before source)
        → map table_row source.rows ≡ filter (keep_of conds before (history_at item.table store) source.rows stored.taken.rows) (rows_of (table_at item.table (tables_now store)))
    stored-rows item before source stored =
        chosen-are conds before (history_at item.table store) source.rows stored.taken.rows (valid-at item.table)
        ∙ ap (λ (o : Option Table). filter (keep_of conds before (history_at item.table store) source.rows stored.taken.rows) (rows_of o)) (sym (found_now item.table store.tables))

    source-wide : (item : FromItem) (before : ℕ) (source : Source) → IsStored store conds item before source → AreWide source.width source.rows
    source-wide item before source stored =
        subst (λ (width : ℕ). AreWide width source.rows) (sym stored.taken.width)
        (mapped (width_at store item) source.rows
        (subst (AllByRecursion (λ (row : TableRow). length row.values ≡ width_at store item)) (sym (stored-rows item before source stored))
        (filtered (λ (row : TableRow). length row.values ≡ width_at store item) (keep_of conds before (history_at item.table store) source.rows stored.taken.rows)
        (rows_of (table_at item.table (tables_now store))) (table-wide item))))

    pub sources-wide : (from : List FromItem) (before : ℕ) (sources : List Source) → AreStored store conds from before sources → SourcesAreWide sources
    sources-wide [] before [] are = tt
    sources-wide [] before (source ∷ sources) are = absurd are
    sources-wide (item ∷ from) before [] are = absurd are
    sources-wide (item ∷ from) before (source ∷ sources) are =
        (source-wide item before source are.0, sources-wide from (before + width_at store item) sources are.1)

-- ---- the names of tables

abbrev First : List ℕ → List Table → Type 0
First name [] = Unit {0}
First name (table ∷ tables) = slice_cmp nat_cmp name table.name ≡ Less

first-is : (table : Table) (tables : List Table) → precedes_first table_precedes table tables ≡ true → First table.name tables
first-is table [] is = tt
first-is table (other ∷ tables) is = is_lt-true (slice_cmp nat_cmp table.name other.name) is

first-next : (name : List ℕ) (table : Table) (tables : List Table) → slice_cmp nat_cmp name table.name ≡ Less → First table.name tables → First name tables
first-next name table [] before first = tt
first-next name table (other ∷ tables) before first = nat_list_cmp_total.trans name table.name other.name before first

all-after : (name : List ℕ) (tables : List Table) → First name tables → is_strictly_sorted table_precedes tables ≡ true
    → AllByRecursion (λ other. slice_cmp nat_cmp name other ≡ Less) (map (λ table. table.name) tables)
all-after name [] first sorted = tt
all-after name (table ∷ tables) first sorted =
    let both = and-parts (precedes_first table_precedes table tables) (is_strictly_sorted table_precedes tables) sorted in
    (first, all-after name tables (first-next name table tables first (first-is table tables both.0)) both.1)

pub names-sorted : (tables : List Table) → is_strictly_sorted table_precedes tables ≡ true → IsStrictlySortedBy (slice_cmp nat_cmp) (map (λ table. table.name) tables)
unfolding IsStrictlySortedBy
names-sorted [] sorted = tt
names-sorted (table ∷ tables) sorted =
    let both = and-parts (precedes_first table_precedes table tables) (is_strictly_sorted table_precedes tables) sorted in
    (all-after table.name tables (first-is table tables both.0) both.1, names-sorted tables both.1)

there : (name : List ℕ) (names : List (List ℕ)) (schemas : List Schema) → is_none (option_map schema_in (find (is_schema name) (zip names schemas))) ≡ false
    → list_any (is_name name) names ≡ true
there name [] schemas is = cc
there name (other ∷ names) [] is = cc
there name (other ∷ names) (schema ∷ schemas) is = elim (cases_Bool (same_text other name)) [
  | inl hit ↦ ap (λ (b : Bool). b || list_any (is_name name) names) hit
  | inr miss ↦
      let later : is_none (option_map schema_in (find (is_schema name) (zip names schemas))) ≡ false = rw miss at is in
      ap (λ (b : Bool). b || list_any (is_name name) names) miss ∙ there name names schemas later
]

none-any : {A : Type 0} (p : A → Bool) (xs ys : List A) → list_any p (xs ++ ys) ≡ false → (list_any p xs ≡ false) × (list_any p ys ≡ false)
none-any p [] ys none = (refl, none)
none-any p (x ∷ xs) ys none = elim (cases_Bool (p x)) [
  | inl hit ↦ absurd (true≢false (sym (ap (λ (b : Bool). b || list_any p (xs ++ ys)) hit) ∙ none))
  | inr miss ↦
      let rest = none-any p xs ys (sym (ap (λ (b : Bool). b || list_any p (xs ++ ys)) miss) ∙ none) in
      (ap (λ (b : Bool). b || list_any p xs) miss ∙ rest.0, rest.1)
]

core-at : (catalog : Catalog) (cores : List Core) (place : ℕ) (core : Core) → slice_get cores place ≡ Some core → list_any (is_missing catalog) (flat_map tables_of_core cores) ≡ false
    → list_any (is_missing catalog) (tables_of_core core) ≡ false
core-at catalog [] place core got none = cc
core-at catalog (first ∷ cores) zero core got none =
    let same : first ≡ core = cc in
    ap (λ (c : Core). list_any (is_missing catalog) (tables_of_core c)) (sym same) ∙ (none-any (is_missing catalog) (tables_of_core first) (flat_map tables_of_core cores) none).0
core-at catalog (first ∷ cores) (suc place) core got none =
    core-at catalog cores place core got (none-any (is_missing catalog) (tables_of_core first) (flat_map tables_of_core cores) none).1

abbrev AllThere : StoreHistory → List FromItem → Type 0
AllThere store from = AllByRecursion (λ item. list_any (is_name item.table) (table_names store) ≡ true) from

all-there : (store : StoreHistory) (from : List FromItem) → list_any (is_missing (catalog_of (tables_now store))) (map (λ item. item.table) from) ≡ false → AllThere store from
all-there store [] none = tt
all-there store (item ∷ from) none = elim (cases_Bool (is_missing (catalog_of (tables_now store)) item.table)) [
  | inl hit ↦ absurd (true≢false (sym (ap (λ (b : Bool). b || list_any (is_missing (catalog_of (tables_now store))) (map (λ item. item.table) from)) hit) ∙ none))
  | inr miss ↦ (
    there item.table (table_names store) (map (λ table. table.schema) (tables_now store)) miss,
    all-there store from (sym (ap (λ (b : Bool). b || list_any (is_missing (catalog_of (tables_now store))) (map (λ item. item.table) from)) miss) ∙ none),
  )
]

first-false : (a b : Bool) → (a || b) ≡ false → a ≡ false
first-false true b is = cc
first-false false b is = refl

-- ---- sources

module _ (store : StoreHistory) (database : is_database (tables_now store) ≡ true) (versions : Versions) (tell : TellVersions store versions) (conds : List BoundExpr) where
  source-versions : (item : FromItem) (rows : List SourceRow) → AllByRecursion (HasVersion (history_at item.table store)) rows → AllByRecursion (λ row. row.version ≡ versions item.table row.number) rows
  source-versions item rows all =
      all-weaker (HasVersion (history_at item.table store)) (λ row. row.version ≡ versions item.table row.number) (λ row is. sym (tell item.table row.number row.version is)) rows all

  pub are-sources : (from : List FromItem) (before : ℕ) (sources : List Source) → AllThere store from → (are : AreStored store conds from before sources)
      → AreSources (table_names store) versions (tables_now store) from (keeps_of store conds from before sources are) sources
  are-sources [] before [] all are = tt
  are-sources [] before (source ∷ sources) all are = absurd are
  are-sources (item ∷ from) before [] all are = absurd are
  are-sources (item ∷ from) before (source ∷ sources) all are =
      let named = are.0.table all.0 in (
        record {
          rows = stored-rows store database conds item before source are.0;
          at_versions = source-versions item source.rows are.0.taken.versions;
          within = named.0;
          named = named.1;
        },
        are-sources from (before + width_at store item) sources all.1 are.1,
      )

-- ---- places of names

got-name : (names : List (List ℕ)) (i : ℕ) (d : List ℕ) → i < length names → get_or names i d ≡ name_at names i
got-name [] i d below = absurd (omega (arith, below))
got-name (name ∷ names) zero d below = refl
got-name (name ∷ names) (suc i) d below = got-name names i d (omega (arith, below))

pub place_here : (names : List (List ℕ)) (name other d : List ℕ) (i place : ℕ) → i < length names → other ≡ get_or names i d → same_text other name ≡ true → place ≡ i → IsPlace names name place
place_here names name other d i place below is same at there =
    subst (λ (k : ℕ). (k < length names) × (name_at names k ≡ name)) (sym at)
    (below, sym (is ∙ got-name names i d below) ∙ bytes_eq-true other name same)

pub place_none : (names : List (List ℕ)) (name : List ℕ) (n place : ℕ) → length names ≤ n → list_any (is_name name) (drop n names) ≡ list_any (is_name name) names → IsPlace names name place
place_none names name n place over same there =
    absurd (true≢false (sym there ∙ sym same ∙ ap (list_any (is_name name)) (drop_all n names over)))

-- ---- sources of the code

pub stored_is : (store : StoreHistory) (conds : List BoundExpr) (item : FromItem) (before table : ℕ) (source : Source) (held : Option TableHistory)
    → held ≡ history_at item.table store
    → IsTaken conds before held source → source.table ≡ table → IsPlace (table_names store) item.table table → IsStored store conds item before source
stored_is store conds item before table source held is taken at there = record {
  taken = subst (λ (o : Option TableHistory). IsTaken conds before o source) is taken;
  table = subst (IsPlace (table_names store) item.table) (sym at) there;
}

-- one source more
pub sources_step : (store : StoreHistory) (conds : List BoundExpr) (from others : List FromItem) (item : FromItem) (before after : ℕ) (sources new : List Source) (source : Source)
    → new ≡ sources ++ source ∷ [] → after ≡ before + source.width → IsStored store conds item before source
    → ((rest : List Source) → AreStored store conds (item ∷ others) before rest → AreStored store conds from 0 (sources ++ rest))
    → (rest : List Source) → AreStored store conds others after rest → AreStored store conds from 0 (new ++ rest)
sources_step store conds from others item before after sources new source made sum stored all rest are =
    let width : after ≡ before + width_at store item = sum ∙ ap (λ (n : ℕ). before + n) stored.taken.width in
    let moved : AreStored store conds others (before + width_at store item) rest = subst (λ (n : ℕ). AreStored store conds others n rest) width are in
    let whole : AreStored store conds from 0 (sources ++ (source ∷ rest)) = all (source ∷ rest) (stored, moved) in
    subst (AreStored store conds from 0) (sym (ap (λ (l : List Source). l ++ rest) made ∙ append_assoc sources (source ∷ []) rest)) whole

pub sources_none : (store : StoreHistory) (conds : List BoundExpr) (from left : List FromItem) (before : ℕ) (sources : List Source) → length left < 1
    → ((rest : List Source) → AreStored store conds left before rest → AreStored store conds from 0 (sources ++ rest)) → AreStored store conds from 0 sources
sources_none store conds from [] before sources end all = subst (AreStored store conds from 0) (append-nil sources) (all [] tt)
sources_none store conds from (item ∷ left) before sources end all = absurd (omega (arith, end))

pub ruleset sources_end = (sources_step, sources_none)

-- the picks of a core's sources in a store are those of its tables
pub stored-picked : (checked : Checked) (place : ℕ) (store : StoreHistory) (keep : Bool) (conds : List BoundExpr) (sources : List Source) (picks : List Pick) (of : Core)
    → AreWellFormed (tables_now store)
    → core_at checked place ≡ Some of
    → AreOfCore checked place conds
    → AreStored store conds of.from 0 sources
    → ((scope : List InScope) → AreAllPlaced scope conds → SourcesAreWide sources → picks ≡ source_picks scope conds keep sources)
    → ArePicked checked place store keep picks
stored-picked checked place store keep conds sources picks of formed at conditions stored made query core versions given got tell =
    let database : is_database (tables_now store) ≡ true = formed.database in
    let same : of ≡ core = same-some of core (sym at ∙ got) in
    let own : AreStored store conds core.from 0 sources = subst (λ (c : Core). AreStored store conds c.from 0 sources) same stored in
    let catalog : Catalog = catalog_of (tables_now store) in
    let scope : List InScope = scope_of core.from catalog in
    let widths : List ℕ = map (width_at store) core.from in
    let whole : IsChecked checked query catalog = checked-is checked query catalog given in
    let tested : AreConditions scope core.picks conds = conditions query catalog core whole got in
    let lists : slice_get query.cores place ≡ Some core = ap (λ (s : Statement). slice_get (cores_of s) place) (sym (ap (λ (c : Checked). c.statement) whole)) ∙ got in
    let all : AllThere store core.from =
    all-there store core.from (core-at catalog query.cores place core lists
    (first-false (list_any (is_missing catalog) (flat_map tables_of_core query.cores)) (list_any doubles_source query.cores) (tables-there checked query catalog given))) in
    let keeps : List (TableRow → Bool) = keeps_of store conds core.from 0 sources own in
    let leaves : LeavesPicked core (tables_now store) keeps =
    all-weaker (HaveWidths widths) (λ rows. meets_all core.picks (row_environment scope rows) ≡ true → are_kept keeps rows ≡ true)
    (λ rows wide holds.
    let met : meets scope conds (joined_values rows) ≡ true = tested.same (joined_values rows) ∙ holds in
    all-stay scope conds tested.placed store core.from 0 sources own rows [] refl wide met)
    (combinations core.from (tables_now store))
    (all-wide core.from (tables_now store) widths (tables-wide store database core.from)) in
    all-stand (table_names store) versions
    (names-sorted (tables_now store) (sorted_of_database (tables_now store) database))
    keep (tables_now store) core keeps sources conds picks
    (are-sources store database versions tell conds core.from 0 sources all own)
    leaves tested
    (made scope tested.placed (sources-wide store database conds core.from 0 sources own))

pub ruleset stored_picks = (stored-picked)
