-- Picks stand for picked combinations.
use Rattle.std.proofs.Common.{◌≡◌, ◌∙◌, sym, ap, subst, refl, ℕ, Bool, true, false, List, [], ◌∷◌, ◌++◌, map, append_assoc, append-nil, inl, inr, ◌&&◌, cond}
use Rattle.std.specs.Prelude.{filter}
use Rattle.std.specs.Cmp.Lexicographic.{slice_cmp}
use Rattle.std.specs.FinMap.{empty}
use Rattle.std.specs.List.{flat_map, AllByRecursion}
use Rattle.std.specs.List.Sorted.{IsStrictlySortedBy}
use Rattle.std.specs.Ordering.{nat_cmp}
use Rattle.std.proofs.lemmas.Bool.{cases_Bool}
use Rattle.std.proofs.lemmas.List.{map-append}
use Rattle.ldv_value.proofs.ItemLists.{all_append, all_filter}
use Rattle.ldv_value.proofs.Lists.{filter-append}
use Rattle.lineage.specs.Lineage.{Row, Lineage, name_at, with_version}
use Rattle.lineage.specs.Rows.{kept_origins, PicksStandFor, joined_row}
use Rattle.lineage.specs.StandsFor.{StandsFor, origin_at}
use Rattle.lineage.specs.declared.answer.Pick.{Pick}
use Rattle.lineage.proofs.Origins.{AreDistinct, distinct-sorted, stands-empty, stands-with_version}
use Rattle.predicates.proofs.Lists.{kept_twice}
use Rattle.predicates.specs.Conditions.{AreConditions}
use Rattle.query_eval.specs.inner.Joining.{combos, tests}
use Rattle.query_eval.specs.Picking.{rows_added, kept_rows, pick_of}
use Rattle.query_eval.specs.inner.Sources.{table_row, source_rows, joined_row_values, AreSources, are_kept}
use Rattle.query_eval.specs.inner.Sources.{LeavesPicked}
use Rattle.query_eval.specs.Types.{Core, FromItem, Table, TableRow, Value}
use Rattle.predicates.specs.declared.placed.BoundExpr.{BoundExpr}
use Rattle.query_eval.specs.declared.source.Source.{Source}
use Rattle.query_eval.specs.declared.source.SourceRow.{SourceRow}
use Rattle.sql_model.specs.Needs.{Versions}
use Rattle.sql_model.specs.QueryAnswer.{Origin, Combination, combinations, combination_rows, joined_values, meets_all, row_environment, picked}
use Rattle.sql_model.specs.Scope.{InScope, catalog_of, environment, rows_of, scope_of, table_at}

-- a combination as rows of tables
abbrev pub table_rows : List SourceRow → Combination
table_rows rows = map table_row rows

joined_row_values-rows : (rows : List SourceRow) → joined_row_values rows ≡ joined_values (table_rows rows)
joined_row_values-rows [] = refl
joined_row_values-rows (row ∷ rows) = ap (λ l. row.values ++ l) (joined_row_values-rows rows)

-- ---- combinations

map-through : {A B C D : Type 0} (f : A → B) (g : B → D) (h : C → D) (k : A → C) → ((x : A) → g (f x) ≡ h (k x)) → (xs : List A) → map g (map f xs) ≡ map h (map k xs)
map-through f g h k same [] = refl
map-through f g h k same (x ∷ xs) = λ j. same x j ∷ map-through f g h k same xs j

one-source : (cs : List (List SourceRow)) (ds : List Combination) → map table_rows cs ≡ ds → (rows : List SourceRow)
    → map table_rows (flat_map (λ row. map (λ others. row ∷ others) cs) rows) ≡ flat_map (λ row. map (λ others. row ∷ others) ds) (map table_row rows)
one-source cs ds same [] = refl
one-source cs ds same (row ∷ rows) =
    map-append table_rows (map (λ others. row ∷ others) cs) (flat_map (λ row. map (λ others. row ∷ others) cs) rows)
    ∙ (λ j. (map-through (λ others. row ∷ others) table_rows (λ others. table_row row ∷ others) table_rows (λ c. refl) cs ∙ ap (map (λ others. table_row row ∷ others)) same) j
    ++ one-source cs ds same rows j)

filter-through : {A B : Type 0} (f : A → B) (p : A → Bool) (q : B → Bool) → ((x : A) → p x ≡ q (f x)) → (xs : List A) → map f (filter p xs) ≡ filter q (map f xs)
filter-through f p q same [] = refl
filter-through f p q same (x ∷ xs) = elim (cases_Bool (p x)) [
  | inl hit ↦ let there : q (f x) ≡ true = sym (same x) ∙ hit in rw (hit, there) (ap (λ l. f x ∷ l) (filter-through f p q same xs))
  | inr miss ↦ let gone : q (f x) ≡ false = sym (same x) ∙ miss in rw (miss, gone) (filter-through f p q same xs)
]

none-pass : {A B : Type 0} (f : A → B) (q : B → Bool) → ((x : A) → q (f x) ≡ false) → (xs : List A) → [] ≡ filter q (map f xs)
none-pass f q fails [] = refl
none-pass f q fails (x ∷ xs) = none-pass f q fails xs ∙ sym (ap (λ b. cond b (f x ∷ filter q (map f xs)) (filter q (map f xs))) (fails x))

-- the product of the rows that are kept
kept-product : (stays : TableRow → Bool) (keeps : List (TableRow → Bool)) (ds : List Combination) (rows : List TableRow)
    → flat_map (λ row. map (λ others. row ∷ others) (filter (are_kept keeps) ds)) (filter stays rows) ≡ filter (are_kept (stays ∷ keeps)) (flat_map (λ row. map (λ others. row ∷ others) ds) rows)
kept-product stays keeps ds [] = refl
kept-product stays keeps ds (row ∷ rows) =
    let more = flat_map (λ row. map (λ others. row ∷ others) ds) rows in
    elim (cases_Bool (stays row)) [
      | inl hit ↦
          rw hit (λ j. filter-through (λ others. row ∷ others) (are_kept keeps) (are_kept (stays ∷ keeps)) (λ others. sym (ap (λ b. b && are_kept keeps others) hit)) ds j ++ kept-product stays keeps ds rows j)
          ∙ sym (filter-append (are_kept (stays ∷ keeps)) (map (λ others. row ∷ others) ds) more)
      | inr miss ↦
          rw miss (kept-product stays keeps ds rows)
          ∙ (λ j. none-pass (λ others. row ∷ others) (are_kept (stays ∷ keeps)) (λ others. ap (λ b. b && are_kept keeps others) miss) ds j ++ filter (are_kept (stays ∷ keeps)) more)
          ∙ sym (filter-append (are_kept (stays ∷ keeps)) (map (λ others. row ∷ others) ds) more)
    ]

pub combos-are : (names : List (List ℕ)) (versions : Versions) (db : List Table) (from : List FromItem) (keeps : List (TableRow → Bool)) (sources : List Source)
    → AreSources names versions db from keeps sources → map table_rows (combos (map source_rows sources)) ≡ filter (are_kept keeps) (combinations from db)
combos-are names versions db [] [] [] are = refl
combos-are names versions db [] (stays ∷ keeps) [] are = refl
combos-are names versions db [] keeps (source ∷ sources) are = absurd are
combos-are names versions db (item ∷ from) [] sources are = absurd are
combos-are names versions db (item ∷ from) (stays ∷ keeps) [] are = absurd are
combos-are names versions db (item ∷ from) (stays ∷ keeps) (source ∷ sources) are =
    one-source (combos (map source_rows sources)) (filter (are_kept keeps) (combinations from db)) (combos-are names versions db from keeps sources are.1) source.rows
    ∙ ap (flat_map (λ row. map (λ others. row ∷ others) (filter (are_kept keeps) (combinations from db)))) are.0.rows
    ∙ kept-product stays keeps (combinations from db) (rows_of (table_at item.table db))

-- those that are kept are the picked ones
pub picked-are : (names : List (List ℕ)) (versions : Versions) (db : List Table) (core : Core) (keeps : List (TableRow → Bool)) (sources : List Source) (conds : List BoundExpr)
    → AreSources names versions db core.from keeps sources
    → LeavesPicked core db keeps
    → AreConditions (scope_of core.from (catalog_of db)) core.picks conds
    → map table_rows (filter (tests (scope_of core.from (catalog_of db)) conds) (combos (map source_rows sources))) ≡ picked core db
picked-are names versions db core keeps sources conds are leaves same =
    let scope : List InScope = scope_of core.from (catalog_of db) in
    let test : Combination → Bool = λ rows. meets_all core.picks (row_environment scope rows) in
    filter-through table_rows (tests scope conds) test
    (λ rows. same.same (joined_row_values rows) ∙ ap (λ (vs : List Value). meets_all core.picks (environment scope vs)) (joined_row_values-rows rows))
    (combos (map source_rows sources))
    ∙ ap (filter test) (combos-are names versions db core.from keeps sources are)
    ∙ kept_twice test (are_kept keeps) (combinations core.from db) leaves

-- ---- versions

module _ (names : List (List ℕ)) (versions : Versions) where
  -- each row of a combination has the version of its row
  abbrev pub HasVersions : List FromItem → List SourceRow → Type 0
  HasVersions [] rows = Unit {0}
  HasVersions (item ∷ from) [] = Unit {0}
  HasVersions (item ∷ from) (row ∷ rows) = (row.version ≡ versions item.table row.number) × HasVersions from rows

  with-row : (item : FromItem) (from : List FromItem) (row : SourceRow) → row.version ≡ versions item.table row.number → (cs : List (List SourceRow))
      → AllByRecursion (HasVersions from) cs → AllByRecursion (HasVersions (item ∷ from)) (map (λ others. row ∷ others) cs)
  with-row item from row is [] all = tt
  with-row item from row is (c ∷ cs) all = ((is, all.0), with-row item from row is cs all.1)

  with-rows : (item : FromItem) (from : List FromItem) (cs : List (List SourceRow)) → AllByRecursion (HasVersions from) cs → (rows : List SourceRow)
      → AllByRecursion (λ row. row.version ≡ versions item.table row.number) rows
      → AllByRecursion (HasVersions (item ∷ from)) (flat_map (λ row. map (λ others. row ∷ others) cs) rows)
  with-rows item from cs all [] at = tt
  with-rows item from cs all (row ∷ rows) at =
      all_append (HasVersions (item ∷ from)) (map (λ others. row ∷ others) cs) (flat_map (λ row. map (λ others. row ∷ others) cs) rows)
      (with-row item from row at.0 cs all) (with-rows item from cs all rows at.1)

  combos-versions : (db : List Table) (from : List FromItem) (keeps : List (TableRow → Bool)) (sources : List Source) → AreSources names versions db from keeps sources
      → AllByRecursion (HasVersions from) (combos (map source_rows sources))
  combos-versions db [] keeps [] are = (tt, tt)
  combos-versions db [] keeps (source ∷ sources) are = absurd are
  combos-versions db (item ∷ from) [] sources are = absurd are
  combos-versions db (item ∷ from) (kept ∷ keeps) [] are = absurd are
  combos-versions db (item ∷ from) (kept ∷ keeps) (source ∷ sources) are =
      with-rows item from (combos (map source_rows sources)) (combos-versions db from keeps sources are.1) source.rows are.0.at_versions

  -- ---- lineages

  added-stands : AreDistinct names → (db : List Table) (from : List FromItem) (keeps : List (TableRow → Bool)) (sources : List Source) → AreSources names versions db from keeps sources
      → (rows : List SourceRow) → HasVersions from rows → (set : Lineage) (before : List Origin) → StandsFor names versions set before
      → StandsFor names versions (rows_added set sources rows) (before ++ combination_rows from (table_rows rows))
  added-stands distinct db [] keeps [] are rows at set before stands = subst (StandsFor names versions set) (sym (append-nil before)) stands
  added-stands distinct db [] keeps (source ∷ sources) are rows at set before stands = absurd are
  added-stands distinct db (item ∷ from) [] sources are rows at set before stands = absurd are
  added-stands distinct db (item ∷ from) (kept ∷ keeps) [] are rows at set before stands = absurd are
  added-stands distinct db (item ∷ from) (kept ∷ keeps) (source ∷ sources) are [] at set before stands = subst (StandsFor names versions set) (sym (append-nil before)) stands
  added-stands distinct db (item ∷ from) (kept ∷ keeps) (source ∷ sources) are (row ∷ rows) at set before stands =
      let place : Row = (source.table, row.number) in
      let origin : Origin = record { table = item.table; row = row.number } in
      let version : row.version ≡ versions (name_at names source.table) row.number = at.0 ∙ ap (λ (n : List ℕ). versions n row.number) (sym are.0.named) in
      let same : origin_at names place ≡ origin = ap (λ (n : List ℕ). record { table = n; row = row.number }) are.0.named in
      let one : StandsFor names versions (with_version set place row.version) (before ++ origin ∷ []) =
      subst (λ (v : ℕ). StandsFor names versions (with_version set place v) (before ++ origin ∷ [])) (sym version)
      (subst (λ (o : Origin). StandsFor names versions (with_version set place (versions (name_at names source.table) row.number)) (before ++ o ∷ [])) same
      (stands-with_version names versions distinct set before place are.0.within stands)) in
      subst (StandsFor names versions (rows_added (with_version set place row.version) sources rows)) (append_assoc before (origin ∷ []) (combination_rows from (table_rows rows)))
      (added-stands distinct db from keeps sources are.1 rows at.1 (with_version set place row.version) (before ++ origin ∷ []) one)

  kept_origins-stands : AreDistinct names → (keep : Bool) (db : List Table) (from : List FromItem) (keeps : List (TableRow → Bool)) (sources : List Source) → AreSources names versions db from keeps sources
      → (rows : List SourceRow) → HasVersions from rows → StandsFor names versions (kept_rows keep sources rows) (kept_origins keep (combination_rows from (table_rows rows)))
  kept_origins-stands distinct true db from keeps sources are rows at = added-stands distinct db from keeps sources are rows at empty [] (stands-empty names versions)
  kept_origins-stands distinct false db from keeps sources are rows at = stands-empty names versions

  picks-stand : AreDistinct names → (keep : Bool) (db : List Table) (from : List FromItem) (keeps : List (TableRow → Bool)) (sources : List Source) → AreSources names versions db from keeps sources
      → (cs : List (List SourceRow)) → AllByRecursion (HasVersions from) cs
      → PicksStandFor names versions keep (map (pick_of keep sources) cs) (map (joined_row from) (map table_rows cs))
  picks-stand distinct keep db from keeps sources are [] all = tt
  picks-stand distinct keep db from keeps sources are (rows ∷ cs) all =
      (record { same = joined_row_values-rows rows; stands = kept_origins-stands distinct keep db from keeps sources are rows all.0 }, picks-stand distinct keep db from keeps sources are cs all.1)

  pub all-stand : IsStrictlySortedBy (slice_cmp nat_cmp) names → (keep : Bool) (db : List Table) (core : Core) (keeps : List (TableRow → Bool)) (sources : List Source) (conds : List BoundExpr) (picks : List Pick)
      → AreSources names versions db core.from keeps sources
      → LeavesPicked core db keeps
      → AreConditions (scope_of core.from (catalog_of db)) core.picks conds
      → picks ≡ map (pick_of keep sources) (filter (tests (scope_of core.from (catalog_of db)) conds) (combos (map source_rows sources)))
      → PicksStandFor names versions keep picks (map (joined_row core.from) (picked core db))
  all-stand sorted keep db core keeps sources conds picks are leaves same is =
      let scope : List InScope = scope_of core.from (catalog_of db) in
      let cs : List (List SourceRow) = filter (tests scope conds) (combos (map source_rows sources)) in
      let all : AllByRecursion (HasVersions core.from) cs = all_filter (HasVersions core.from) (tests scope conds) (combos (map source_rows sources)) (combos-versions db core.from keeps sources are) in
      subst (λ (ps : List Pick). PicksStandFor names versions keep ps (map (joined_row core.from) (picked core db))) (sym is)
      (subst (λ (rows : List Combination). PicksStandFor names versions keep (map (pick_of keep sources) cs) (map (joined_row core.from) rows)) (picked-are names versions db core keeps sources conds are leaves same)
      (picks-stand (distinct-sorted names sorted) keep db core.from keeps sources are cs all))
