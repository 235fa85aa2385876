-- The rows of a union of cores over tables without some rows. They are all the rows if all of them stay, and
-- those that stay if no row was merged from several.
use Rattle.std.proofs.Common.{◌≡◌, List, [], ◌∷◌, ◌++◌, refl, sym, ap, ◌∙◌, Bool, true, false, append-nil, inl, inr}
use Rattle.std.specs.Prelude.{map, filter, not, ◌&&◌, ◌||◌, if◌then◌else◌}
use Rattle.std.specs.List.{flat_map, list_all, list_any}
use Rattle.std.proofs.lemmas.List.Elements.{filter-append}
use Rattle.ldv_value.proofs.Booleans.{and-parts, or-parts}
use Rattle.ldv_value.proofs.Cases.{cases-bool}
use Rattle.ldv_value.proofs.Lists.{list_all-append, list_all-map}
use Rattle.sql_laws.specs.Types.{Value, ColumnName, Core, FromItem, Table}
use Rattle.sql_model.specs.QueryAnswer.{Origin, AnswerRow, Combination, combination_rows, picked, distinct_values, group_key, has_key, groups_of, is_kept, group_row, one_combination, rows_in_scope, once, core_rows, rejected_in_scope, rejected, union_answers, rows_after, union_rows}
use Rattle.sql_laws.specs.QueryLaw.{Keep, cut_tables}
use Rattle.sql_model.specs.Refusals.{groups}
use Rattle.sql_model.specs.Scope.{InScope, catalog_of, scope_of}
use Rattle.sql_laws.proofs.QueryCombinations.{scope_same, kept_combination, picked_cut}
use Rattle.sql_laws.proofs.QueryKeeps.{all_flat, kept_origin, all_kept, kept_row}
use Rattle.sql_laws.proofs.QueryMerging.{parts_pass, merged_kept}
use Rattle.sql_laws.proofs.QuerySorting.{filter_all}

-- all pass that pass a second test, and all that don't
either_kept : {X : Type 0} (p q : X → Bool) (xs : List X) → list_all p (filter q xs) ≡ true
    → list_all p (filter (λ x. not (q x)) xs) ≡ true → list_all p xs ≡ true
either_kept p q [] these those = refl
either_kept p q (x ∷ xs) these those = elim (cases-bool (q x)) [
  | inl hit ↦
      let kk : (p x && list_all p (filter q xs)) ≡ true = rw hit at these in
      let both = and-parts (p x) (list_all p (filter q xs)) kk in
      let more : list_all p (filter (λ y. not (q y)) xs) ≡ true = rw hit at those in
      (λ j. both.0 j && either_kept p q xs both.1 more j)
  | inr miss ↦
      let kk : (p x && list_all p (filter (λ y. not (q y)) xs)) ≡ true = rw miss at those in
      let both = and-parts (p x) (list_all p (filter (λ y. not (q y)) xs)) kk in
      let more : list_all p (filter q xs) ≡ true = rw miss at these in
      (λ j. both.0 j && either_kept p q xs more both.1 j)
]

-- ---- cores without groups

-- a row for each combination
abbrev plain_rows : List InScope → Core → List Combination → List AnswerRow
plain_rows scope core all = map (λ rows. group_row scope core (one_combination rows)) all

rows_plain : (scope : List InScope) (core : Core) (all : List Combination) → groups core ≡ false
    → rows_in_scope scope core all ≡ plain_rows scope core all
rows_plain scope core all plain = ap (λ (b : Bool). if b then map (group_row scope core) (filter (is_kept scope core.having) (groups_of scope core.group all)) else plain_rows scope core all) plain

-- HAVING rejects none
pub rejects_none : (db : List Table) (cores : List Core) → list_any groups cores ≡ false
    → flat_map (rejected db) cores ≡ []
rejects_none db [] plain = refl
rejects_none db (core ∷ cores) plain =
    let both = or-parts (groups core) (list_any groups cores) plain in
    let here : rejected db core ≡ [] = none core both.0 in
    (λ j. here j ++ rejects_none db cores both.1 j)
  where
    none : (core : Core) → groups core ≡ false → rejected db core ≡ []
    none core is = rw is refl

module _ (keep : Keep) where
  -- ---- the rows of combinations

  row_kept : (scope : List InScope) (core : Core) (rows : Combination)
      → kept_row keep (group_row scope core (one_combination rows)) ≡ kept_combination keep core.from rows
  row_kept scope core rows = ap (all_kept keep) (append-nil (combination_rows core.from rows))

  plain_kept : (scope : List InScope) (core : Core) (all : List Combination)
      → list_all (kept_row keep) (plain_rows scope core all) ≡ list_all (kept_combination keep core.from) all
  plain_kept scope core all =
      list_all-map (kept_row keep) (λ rows. group_row scope core (one_combination rows)) all
      ∙ (λ j. list_all (λ rows. row_kept scope core rows j) all)

  plain_part : (scope : List InScope) (core : Core) (all : List Combination)
      → plain_rows scope core (filter (kept_combination keep core.from) all) ≡ filter (kept_row keep) (plain_rows scope core all)
  plain_part scope core [] = refl
  plain_part scope core (rows ∷ all) = elim (cases-bool (kept_combination keep core.from rows)) [
    | inl hit ↦
        let too : kept_row keep (group_row scope core (one_combination rows)) ≡ true = row_kept scope core rows ∙ hit in
        rw (hit, too) (λ j. group_row scope core (one_combination rows) ∷ plain_part scope core all j)
    | inr miss ↦
        let too : kept_row keep (group_row scope core (one_combination rows)) ≡ false = row_kept scope core rows ∙ miss in
        rw (miss, too) (plain_part scope core all)
  ]

  -- ---- the rows of groups

  -- all rows of the group stay
  abbrev kept_group : List FromItem → List Combination → Bool
  kept_group from group = list_all (kept_combination keep from) group

  rows_grouped : (scope : List InScope) (core : Core) (all : List Combination) → groups core ≡ true
      → list_all (kept_row keep) (rows_in_scope scope core all) ≡ list_all (kept_group core.from) (filter (is_kept scope core.having) (groups_of scope core.group all))
  rows_grouped scope core all grouped =
      let kept : List (List Combination) = filter (is_kept scope core.having) (groups_of scope core.group all) in
      ap (λ (b : Bool). list_all (kept_row keep) (if b then map (group_row scope core) kept else plain_rows scope core all)) grouped
      ∙ list_all-map (kept_row keep) (group_row scope core) kept
      ∙ (λ j. list_all (λ group. all_flat (kept_origin keep) (combination_rows core.from) group j) kept)

  rejected_grouped : (scope : List InScope) (core : Core) (all : List Combination) → groups core ≡ true
      → all_kept keep (rejected_in_scope scope core all) ≡ list_all (kept_group core.from) (filter (λ group. not (is_kept scope core.having group)) (groups_of scope core.group all))
  rejected_grouped scope core all grouped =
      let gone : List (List Combination) = filter (λ group. not (is_kept scope core.having group)) (groups_of scope core.group all) in
      ap (λ (b : Bool). all_kept keep (if b then flat_map (flat_map (combination_rows core.from)) gone else [])) grouped
      ∙ all_flat (kept_origin keep) (flat_map (combination_rows core.from)) gone
      ∙ (λ j. list_all (λ group. all_flat (kept_origin keep) (combination_rows core.from) group j) gone)

  -- each combination is in a group
  groups_kept : (scope : List InScope) (from : List FromItem) (group : List ColumnName) (all : List Combination)
      → list_all (kept_group from) (groups_of scope group all) ≡ true
      → list_all (kept_combination keep from) all ≡ true
  groups_kept scope from [] all kept = (and-parts (kept_group from all) true kept).0
  groups_kept scope from (c ∷ cs) all kept =
      let keys : List (List Value) = distinct_values (map (group_key scope (c ∷ cs)) all) in
      parts_pass (group_key scope (c ∷ cs)) (kept_combination keep from) all
      (sym (list_all-map (kept_group from) (λ key. filter (has_key scope (c ∷ cs) key) all) keys) ∙ kept)

  grouped_kept : (scope : List InScope) (core : Core) (all : List Combination) → groups core ≡ true
      → list_all (kept_row keep) (rows_in_scope scope core all) ≡ true
      → all_kept keep (rejected_in_scope scope core all) ≡ true
      → list_all (kept_combination keep core.from) all ≡ true
  grouped_kept scope core all grouped rows gone =
      let first = sym (rows_grouped scope core all grouped) ∙ rows in
      let second = sym (rejected_grouped scope core all grouped) ∙ gone in
      groups_kept scope core.from core.group all (either_kept (kept_group core.from) (is_kept scope core.having) (groups_of scope core.group all) first second)

  module _ (db : List Table) where
    abbrev scope : Core → List InScope
    scope core = scope_of core.from (catalog_of db)

    -- ---- where all rows stay

    once_kept : (b : Bool) (rows : List AnswerRow) → list_all (kept_row keep) (once b rows) ≡ true
        → list_all (kept_row keep) rows ≡ true
    once_kept false rows all = all
    once_kept true rows all = merged_kept keep rows all

    plain_combinations : (core : Core) → groups core ≡ false
        → list_all (kept_row keep) (rows_in_scope (scope core) core (picked core db)) ≡ true
        → list_all (kept_combination keep core.from) (picked core db) ≡ true
    plain_combinations core plain rows =
        sym (plain_kept (scope core) core (picked core db))
        ∙ sym (ap (list_all (kept_row keep)) (rows_plain (scope core) core (picked core db) plain))
        ∙ rows

    picked_kept : (core : Core)
        → list_all (kept_row keep) (rows_in_scope (scope core) core (picked core db)) ≡ true
        → all_kept keep (rejected db core) ≡ true
        → list_all (kept_combination keep core.from) (picked core db) ≡ true
    picked_kept core rows gone = elim (cases-bool (groups core)) [
      | inl grouped ↦ grouped_kept (scope core) core (picked core db) grouped rows gone
      | inr plain ↦ plain_combinations core plain rows
    ]

    -- what is picked, and so all that is made of it, is the same
    picked_whole : (core : Core) → list_all (kept_row keep) (core_rows db core) ≡ true
        → all_kept keep (rejected db core) ≡ true → picked core (cut_tables keep db) ≡ picked core db
    picked_whole core all gone =
        let rows : list_all (kept_row keep) (rows_in_scope (scope core) core (picked core db)) ≡ true = once_kept core.distinct (rows_in_scope (scope core) core (picked core db)) all in
        picked_cut keep core db ∙ filter_all (kept_combination keep core.from) (picked core db) (picked_kept core rows gone)

    abbrev SameCore : Core → Type 0
    SameCore core = (core_rows (cut_tables keep db) core ≡ core_rows db core) × (rejected (cut_tables keep db) core ≡ rejected db core)

    core_whole : (core : Core) → list_all (kept_row keep) (core_rows db core) ≡ true
        → all_kept keep (rejected db core) ≡ true → SameCore core
    core_whole core all gone =
        let same : picked core (cut_tables keep db) ≡ picked core db = picked_whole core all gone in (
          (λ j. once core.distinct (rows_in_scope (scope_same keep core.from db j) core (same j))),
          (λ j. rejected_in_scope (scope_same keep core.from db j) core (same j)),
        )

    abbrev BothKept : List AnswerRow → List AnswerRow → Type 0
    BothKept rows more = (list_all (kept_row keep) rows ≡ true) × (list_all (kept_row keep) more ≡ true)

    appended_kept : (rows more : List AnswerRow) → list_all (kept_row keep) (rows ++ more) ≡ true → BothKept rows more
    appended_kept rows more all = and-parts (list_all (kept_row keep) rows) (list_all (kept_row keep) more) (sym (list_all-append (kept_row keep) rows more) ∙ all)

    united_kept : (b : Bool) (rows more : List AnswerRow) → list_all (kept_row keep) (union_answers b rows more) ≡ true
        → BothKept rows more
    united_kept true rows more all = appended_kept rows more all
    united_kept false rows more all = appended_kept rows more (merged_kept keep (rows ++ more) all)

    abbrev SameRejected : List Core → Type 0
    SameRejected cores = flat_map (rejected (cut_tables keep db)) cores ≡ flat_map (rejected db) cores

    rejected_parts : (core : Core) (cores : List Core) → all_kept keep (flat_map (rejected db) (core ∷ cores)) ≡ true
        → (all_kept keep (rejected db core) ≡ true) × (all_kept keep (flat_map (rejected db) cores) ≡ true)
    rejected_parts core cores gone =
        let others : List Origin = flat_map (rejected db) cores in
        and-parts (all_kept keep (rejected db core)) (all_kept keep others) (sym (list_all-append (kept_origin keep) (rejected db core) others) ∙ gone)

    after_whole : (rows : List AnswerRow) (cores : List Core)
        → all_kept keep (flat_map (rejected db) cores) ≡ true
        → list_all (kept_row keep) (rows_after db rows cores) ≡ true
        → (list_all (kept_row keep) rows ≡ true) × (rows_after (cut_tables keep db) rows cores ≡ rows_after db rows cores) × SameRejected cores
    after_whole rows [] gone all = (all, refl, refl)
    after_whole rows (core ∷ cores) gone all =
        let parts = rejected_parts core cores gone in
        let more = after_whole (union_answers core.joined_all rows (core_rows db core)) cores parts.1 all in
        let both = united_kept core.joined_all rows (core_rows db core) more.0 in
        let here : SameCore core = core_whole core both.1 parts.0 in (
          both.0,
          (λ j. rows_after (cut_tables keep db) (union_answers core.joined_all rows (here.0 j)) cores) ∙ more.1,
          (λ j. here.1 j ++ more.2 j),
        )

    pub union_whole : (cores : List Core) → all_kept keep (flat_map (rejected db) cores) ≡ true
        → list_all (kept_row keep) (union_rows db cores) ≡ true
        → (union_rows (cut_tables keep db) cores ≡ union_rows db cores) × SameRejected cores
    union_whole [] gone all = (refl, refl)
    union_whole (core ∷ cores) gone all =
        let parts = rejected_parts core cores gone in
        let more = after_whole (core_rows db core) cores parts.1 all in
        let here : SameCore core = core_whole core more.0 parts.0 in
        ((λ j. rows_after (cut_tables keep db) (here.0 j) cores) ∙ more.1, (λ j. here.1 j ++ more.2 j))

    -- ---- where no row stands for several

    core_part : (core : Core) → groups core ≡ false → core.distinct ≡ false
        → core_rows (cut_tables keep db) core ≡ filter (kept_row keep) (core_rows db core)
    core_part core plain each =
        let small : List InScope = scope_of core.from (catalog_of (cut_tables keep db)) in
        ap (λ (b : Bool). once b (rows_in_scope small core (picked core (cut_tables keep db)))) each
        ∙ rows_plain small core (picked core (cut_tables keep db)) plain
        ∙ (λ j. plain_rows (scope_same keep core.from db j) core (picked_cut keep core db j))
        ∙ plain_part (scope core) core (picked core db)
        ∙ sym (ap (filter (kept_row keep)) (rows_plain (scope core) core (picked core db) plain))
        ∙ sym (ap (λ (b : Bool). filter (kept_row keep) (once b (rows_in_scope (scope core) core (picked core db)))) each)

    abbrev sums_rows : Core → Bool
    sums_rows core = groups core || core.distinct

    after_part : (rows : List AnswerRow) (cores : List Core) → list_any sums_rows cores ≡ false
        → list_all (λ core. core.joined_all) cores ≡ true
        → rows_after (cut_tables keep db) (filter (kept_row keep) rows) cores ≡ filter (kept_row keep) (rows_after db rows cores)
    after_part rows [] plain joined = refl
    after_part rows (core ∷ cores) plain joined =
        let parts = or-parts (sums_rows core) (list_any sums_rows cores) plain in
        let own = or-parts (groups core) core.distinct parts.0 in
        let joins = and-parts core.joined_all (list_all (λ other. other.joined_all) cores) joined in
        let more : List AnswerRow = core_rows db core in
        let here : core_rows (cut_tables keep db) core ≡ filter (kept_row keep) more = core_part core own.0 own.1 in
        let whole : union_answers core.joined_all rows more ≡ rows ++ more = ap (λ (b : Bool). union_answers b rows more) joins.0 in
        let part : union_answers core.joined_all (filter (kept_row keep) rows) (core_rows (cut_tables keep db) core) ≡ filter (kept_row keep) (union_answers core.joined_all rows more) =
        (λ j. union_answers (joins.0 j) (filter (kept_row keep) rows) (here j))
        ∙ sym (filter-append (kept_row keep) rows more)
        ∙ sym (ap (filter (kept_row keep)) whole) in
        (λ j. rows_after (cut_tables keep db) (part j) cores) ∙ after_part (union_answers core.joined_all rows more) cores parts.1 joins.1

    -- UNION ALL stands before each core but the first
    pub union_part : (core : Core) (cores : List Core) → list_any sums_rows (core ∷ cores) ≡ false
        → list_all (λ other. other.joined_all) cores ≡ true
        → union_rows (cut_tables keep db) (core ∷ cores) ≡ filter (kept_row keep) (union_rows db (core ∷ cores))
    union_part core cores plain joined =
        let parts = or-parts (sums_rows core) (list_any sums_rows cores) plain in
        let own = or-parts (groups core) core.distinct parts.0 in
        (λ j. rows_after (cut_tables keep db) (core_part core own.0 own.1 j) cores) ∙ after_part (core_rows db core) cores parts.1 joined
