-- Groups of picks stand for groups of combinations.
use Rattle.std.proofs.Common.{◌≡◌, ◌∙◌, sym, ap, subst, refl, ℕ, Bool, true, false, List, [], ◌∷◌, map, length, ◌==◌, arith, inl, inr, Option, Some, None}
use Rattle.std.specs.Prelude.{filter, not, if◌then◌else◌}
use Rattle.std.specs.FinMap.{empty}
use Rattle.std.specs.List.{flat_map}
use Rattle.std.proofs.lemmas.Bool.{cases_Bool}
use Rattle.std.proofs.lemmas.Bool.Decides.{nat_tests}
use Rattle.std.proofs.lemmas.Simd.{map-map}
use Rattle.ldv_value.proofs.Options.{same-some}
use Rattle.lineage.specs.Lineage.{Lineage}
use Rattle.lineage.specs.Rows.{kept_origins, IsRow, AnswersStandFor, PicksStandFor, joined_row}
use Rattle.lineage.specs.StandsFor.{StandsFor}
use Rattle.lineage.specs.declared.answer.Answer.{Answer}
use Rattle.lineage.specs.declared.answer.Pick.{Pick}
use Rattle.lineage.proofs.Origins.{stands-empty}
use Rattle.lineage.proofs.RowLaws.{kept_origins-union}
use Rattle.lineage.proofs.Unions.{version_union}
use Rattle.predicates.specs.Checking.{core_at, places_at}
use Rattle.group_eval.specs.Evaluating.{group_values, is_group_kept, ArePlaced, IsHavingPlaced, IsPlacedPlan, group_answer, answers_of, rejected_of, IsGroupedBy, IsGrouped}
use Rattle.group_eval.specs.inner.Folding.{first_row, pick_environments, group_meaning}
use Rattle.group_eval.specs.inner.Grouping.{key_of, is_under, picks_under, keyed_groups, pick_groups}
use Rattle.group_eval.specs.inner.Planning.{AreItems, IsHaving, IsPlan}
use Rattle.group_eval.specs.Types.{Checked, ColumnName, Core, Expr, FromItem, Item, Value}
use Rattle.lineage.specs.Lineage.{union_of}
use Rattle.group_eval.specs.inner.Uniting.{lineage_of_picks}
use Rattle.group_eval.specs.declared.grouping.Grouped.{Grouped}
use Rattle.predicates.specs.declared.placed.BoundExpr.{BoundExpr}
use Rattle.group_eval.specs.declared.plan.Plan.{Plan}
use Rattle.sql_model.specs.Keys.{same_values}
use Rattle.sql_model.specs.Meaning.{Environment, Meaning, eval, is_true}
use Rattle.sql_model.specs.Needs.{Versions}
use Rattle.predicates.proofs.CorePlaces.{core-places}
use Rattle.sql_model.specs.QueryAnswer.{Combination, combination_rows, joined_values, environments, item_values, first_values, group_key, has_key, groups_of, group_row, is_kept, distinct_values, one_combination}
use Rattle.sql_model.specs.Refusals.{core_names, groups}
use Rattle.ldv_value.specs.Cells.{value_at}
use Rattle.sql_model.specs.Scope.{InScope, environment, places_in, place_of, scope_of}

-- ---- picks and combinations

module _ (names : List (List ℕ)) (versions : Versions) (keep : Bool) (from : List FromItem) where
  abbrev Stand : List Pick → List Combination → Type 0
  Stand picks all = PicksStandFor names versions keep picks (map (joined_row from) all)

  environments-are : (scope : List InScope) (picks : List Pick) (all : List Combination) → Stand picks all → pick_environments scope picks ≡ environments scope all
  environments-are scope [] [] stand = refl
  environments-are scope [] (rows ∷ all) stand = absurd stand
  environments-are scope (pick ∷ picks) [] stand = absurd stand
  environments-are scope (pick ∷ picks) (rows ∷ all) stand = λ j. environment scope (stand.0.same j) ∷ environments-are scope picks all stand.1 j

  first-are : (picks : List Pick) (all : List Combination) → Stand picks all → first_row picks ≡ first_values all
  first-are [] [] stand = refl
  first-are [] (rows ∷ all) stand = absurd stand
  first-are (pick ∷ picks) [] stand = absurd stand
  first-are (pick ∷ picks) (rows ∷ all) stand = stand.0.same

  kept_origins-none : (k : Bool) → [] ≡ kept_origins k []
  kept_origins-none true = refl
  kept_origins-none false = refl

  -- the union stands for the lineage of the whole group
  lineage_of_picks-stands : (picks : List Pick) (all : List Combination) → Stand picks all → StandsFor names versions (lineage_of_picks picks) (kept_origins keep (flat_map (combination_rows from) all))
  lineage_of_picks-stands [] [] stand = subst (StandsFor names versions empty) (kept_origins-none keep) (stands-empty names versions)
  lineage_of_picks-stands [] (rows ∷ all) stand = absurd stand
  lineage_of_picks-stands (pick ∷ picks) [] stand = absurd stand
  lineage_of_picks-stands (pick ∷ picks) (rows ∷ all) stand =
      kept_origins-union names versions keep pick.lineage (lineage_of_picks picks) (lineage_of_picks (pick ∷ picks)) (combination_rows from rows) (flat_map (combination_rows from) all)
      (version_union pick.lineage (lineage_of_picks picks)) stand.0.stands (lineage_of_picks-stands picks all stand.1)

  -- ---- groups

  abbrev GroupsStand : List (List Pick) → List (List Combination) → Type 0
  GroupsStand [] [] = Unit {0}
  GroupsStand [] (one ∷ others) = ⊥
  GroupsStand (group ∷ groups) [] = ⊥
  GroupsStand (group ∷ groups) (one ∷ others) = Stand group one × GroupsStand groups others

  module _ (scope : List InScope) where
    module _ (columns : List ColumnName) (places : List ℕ) (are : places ≡ places_in scope columns) where
      key-is : (pick : Pick) (rows : Combination) → pick.values ≡ joined_values rows → key_of places pick ≡ group_key scope columns rows
      key-is pick rows same =
          ap (map (value_at pick.values)) are
          ∙ map-map (value_at pick.values) (place_of scope) columns
          ∙ ap (λ (vs : List Value). map (environment scope vs) columns) same

      keys-are : (picks : List Pick) (all : List Combination) → Stand picks all → map (key_of places) picks ≡ map (group_key scope columns) all
      keys-are [] [] stand = refl
      keys-are [] (rows ∷ all) stand = absurd stand
      keys-are (pick ∷ picks) [] stand = absurd stand
      keys-are (pick ∷ picks) (rows ∷ all) stand = λ j. key-is pick rows stand.0.same j ∷ keys-are picks all stand.1 j

      under-stand : (key : List Value) (picks : List Pick) (all : List Combination) → Stand picks all → Stand (picks_under places picks key) (filter (has_key scope columns key) all)
      under-stand key [] [] stand = stand
      under-stand key [] (rows ∷ all) stand = absurd stand
      under-stand key (pick ∷ picks) [] stand = absurd stand
      under-stand key (pick ∷ picks) (rows ∷ all) stand =
          let same : has_key scope columns key rows ≡ is_under places key pick = ap (λ (vs : List Value). same_values vs key) (sym (key-is pick rows stand.0.same)) in
          let rest = under-stand key picks all stand.1 in
          elim (cases_Bool (is_under places key pick)) [
            | inl hit ↦ let there : has_key scope columns key rows ≡ true = same ∙ hit in rw (hit, there) (stand.0, rest)
            | inr miss ↦ let gone : has_key scope columns key rows ≡ false = same ∙ miss in rw (miss, gone) rest
          ]

      each-stand : (picks : List Pick) (all : List Combination) → Stand picks all → (keys : List (List Value))
          → GroupsStand (map (picks_under places picks) keys) (map (λ key. filter (has_key scope columns key) all) keys)
      each-stand picks all stand [] = tt
      each-stand picks all stand (key ∷ keys) = (under-stand key picks all stand, each-stand picks all stand keys)

      keyed-stand : (picks : List Pick) (all : List Combination) → Stand picks all
          → GroupsStand (keyed_groups places picks) (map (λ key. filter (has_key scope columns key) all) (distinct_values (map (group_key scope columns) all)))
      keyed-stand picks all stand =
          subst (λ (keys : List (List Value)). GroupsStand (map (picks_under places picks) (distinct_values keys)) (map (λ key. filter (has_key scope columns key) all) (distinct_values (map (group_key scope columns) all))))
          (sym (keys-are picks all stand))
          (each-stand picks all stand (distinct_values (map (group_key scope columns) all)))

    groups-stand : (columns : List ColumnName) (places : List ℕ) → places ≡ places_in scope columns → (picks : List Pick) (all : List Combination) → Stand picks all
        → GroupsStand (pick_groups places picks) (groups_of scope columns all)
    groups-stand [] places are picks all stand =
        subst (λ (ps : List ℕ). GroupsStand (pick_groups ps picks) (all ∷ [])) (sym are) (stand, tt)
    groups-stand (c ∷ cs) [] are picks all stand = let none : [] ≡ place_of scope c ∷ places_in scope cs = are in cc
    groups-stand (c ∷ cs) (p ∷ ps) are picks all stand =
        let some : (length (p ∷ ps) == 0) ≡ false = grind (arith, nat_tests) in
        subst (λ b. GroupsStand (if b then picks ∷ [] else keyed_groups (p ∷ ps) picks) (groups_of scope (c ∷ cs) all)) (sym some)
        (keyed-stand (c ∷ cs) (p ∷ ps) are picks all stand)

    -- ---- over one group

    meaning-is : (expr : Expr) (group : List Pick) (one : List Combination) → Stand group one → group_meaning scope group expr ≡ eval expr (environments scope one)
    meaning-is expr group one stand = ap (eval expr) (environments-are scope group one stand)

    items-are : (placed : List BoundExpr) (items : List Item) → map (λ p. p.expr) placed ≡ map (λ item. item.expr) items → (envs : List Environment)
        → map (λ p. (eval p.expr envs).value) placed ≡ map (λ item. (eval item.expr envs).value) items
    items-are placed items exprs envs =
        sym (map-map (λ e. (eval e envs).value) (λ (p : BoundExpr). p.expr) placed)
        ∙ ap (map (λ e. (eval e envs).value)) exprs
        ∙ map-map (λ e. (eval e envs).value) (λ (item : Item). item.expr) items

    values-are : (items : Option (List Item)) (placed : Option (List BoundExpr)) → AreItems scope items placed → (group : List Pick) (one : List Combination) → Stand group one
        → group_values scope placed group ≡ item_values scope items one
    values-are None None are group one stand = first-are group one stand
    values-are None (Some placed) are group one stand = absurd are
    values-are (Some items) None are group one stand = absurd are
    values-are (Some items) (Some placed) are group one stand =
        ap (λ (envs : List Environment). map (λ (p : BoundExpr). (eval p.expr envs).value) placed) (environments-are scope group one stand)
        ∙ items-are placed items are.0 (environments scope one)

    kept-is : (having : Option Expr) (placed : Option BoundExpr) → IsHaving scope having placed → (group : List Pick) (one : List Combination) → Stand group one
        → is_kept scope having one ≡ is_group_kept scope placed group
    kept-is None None is group one stand = refl
    kept-is None (Some placed) is group one stand = absurd is
    kept-is (Some having) None is group one stand = absurd is
    kept-is (Some having) (Some placed) is group one stand =
        ap (λ (m : Meaning). is_true m.truth) (ap (λ (e : Expr). eval e (environments scope one)) (sym is.0) ∙ sym (meaning-is placed.expr group one stand))

-- ---- the groups of a core

module _ (names : List (List ℕ)) (versions : Versions) (keep : Bool) (scope : List InScope) (core : Core) (plan : Plan) (is : IsPlan scope core plan) where
  answer-is : (group : List Pick) (one : List Combination) → Stand names versions keep core.from group one
      → IsRow names versions keep (group_answer scope plan group).values (group_answer scope plan group).lineage (group_row scope core one)
  answer-is group one stand = record {
    same = values-are names versions keep core.from scope core.items plan.items is.items group one stand;
    stands = lineage_of_picks-stands names versions keep core.from group one stand;
  }

  same-kept : (group : List Pick) (one : List Combination) → Stand names versions keep core.from group one → is_kept scope core.having one ≡ is_group_kept scope plan.having group
  same-kept group one stand = kept-is names versions keep core.from scope core.having plan.having is.having group one stand

  answers-stand : (groups : List (List Pick)) (all : List (List Combination)) → GroupsStand names versions keep core.from groups all
      → AnswersStandFor names versions keep (answers_of scope plan groups) (map (group_row scope core) (filter (is_kept scope core.having) all))
  answers-stand [] [] stand = tt
  answers-stand [] (one ∷ all) stand = absurd stand
  answers-stand (group ∷ groups) [] stand = absurd stand
  answers-stand (group ∷ groups) (one ∷ all) stand =
      let same = same-kept group one stand.0 in
      let rest = answers-stand groups all stand.1 in
      elim (cases_Bool (is_group_kept scope plan.having group)) [
        | inl hit ↦ let there : is_kept scope core.having one ≡ true = same ∙ hit in rw (hit, there) (answer-is group one stand.0, rest)
        | inr miss ↦ let gone : is_kept scope core.having one ≡ false = same ∙ miss in rw (miss, gone) rest
      ]

  rejected-stands : (groups : List (List Pick)) (all : List (List Combination)) → GroupsStand names versions keep core.from groups all
      → StandsFor names versions (rejected_of scope plan groups) (kept_origins keep (flat_map (flat_map (combination_rows core.from)) (filter (λ group. not (is_kept scope core.having group)) all)))
  rejected-stands [] [] stand = subst (StandsFor names versions empty) (kept_origins-none names versions keep core.from keep) (stands-empty names versions)
  rejected-stands [] (one ∷ all) stand = absurd stand
  rejected-stands (group ∷ groups) [] stand = absurd stand
  rejected-stands (group ∷ groups) (one ∷ all) stand =
      let same = same-kept group one stand.0 in
      let rest = rejected-stands groups all stand.1 in
      elim (cases_Bool (is_group_kept scope plan.having group)) [
        | inl hit ↦ let there : is_kept scope core.having one ≡ true = same ∙ hit in rw (hit, there) rest
        | inr miss ↦
            let gone : is_kept scope core.having one ≡ false = same ∙ miss in
            rw (miss, gone)
            (kept_origins-union names versions keep (lineage_of_picks group) (rejected_of scope plan groups) (union_of (lineage_of_picks group) (rejected_of scope plan groups))
            (flat_map (combination_rows core.from) one) (flat_map (flat_map (combination_rows core.from)) (filter (λ g. not (is_kept scope core.having g)) all))
            (version_union (lineage_of_picks group) (rejected_of scope plan groups)) (lineage_of_picks-stands names versions keep core.from group one stand.0) rest)
      ]

  placed-items : (items : Option (List Item)) (placed : Option (List BoundExpr)) → AreItems scope items placed → ArePlaced scope placed
  placed-items None None are = tt
  placed-items None (Some placed) are = absurd are
  placed-items (Some items) None are = absurd are
  placed-items (Some items) (Some placed) are = are.1

  placed-having : (having : Option Expr) (placed : Option BoundExpr) → IsHaving scope having placed → IsHavingPlaced scope placed
  placed-having None None are = tt
  placed-having None (Some placed) are = absurd are
  placed-having (Some having) None are = absurd are
  placed-having (Some having) (Some placed) are = are.1

  placed-plan : IsPlacedPlan scope plan
  placed-plan = record { items = placed-items core.items plan.items is.items; having = placed-having core.having plan.having is.having }

pub grouped_is : (checked : Checked) (place : ℕ) (of : Core) (picks : List Pick) (plan : Plan) (grouped : Grouped)
    → core_at checked place ≡ Some of
    → ((scope : List InScope) → places_at checked place ≡ places_in scope (core_names of) → IsPlan scope of plan)
    → ((scope : List InScope) → IsPlacedPlan scope plan → IsGroupedBy scope plan (pick_groups plan.group picks) grouped)
    → IsGrouped checked place picks grouped
grouped_is checked place of picks plan grouped at planned made query catalog core names versions keep all is got grouping stand =
    let scope : List InScope = scope_of core.from catalog in
    let same : of ≡ core = same-some of core (sym at ∙ got) in
    let here : IsPlan scope core plan =
    subst (λ (c : Core). IsPlan scope c plan) same
    (planned scope (core-places checked query catalog is place core got ∙ ap (λ (c : Core). places_in scope (core_names c)) (sym same))) in
    let result : IsGroupedBy scope plan (pick_groups plan.group picks) grouped = made scope (placed-plan names versions keep scope core plan here) in
    let standing : GroupsStand names versions keep core.from (pick_groups plan.group picks) (groups_of scope core.group all) =
    groups-stand names versions keep core.from scope core.group plan.group here.group picks all stand in (
      subst (λ b. AnswersStandFor names versions keep grouped.answers (if b then map (group_row scope core) (filter (is_kept scope core.having) (groups_of scope core.group all)) else map (λ rows. group_row scope core (one_combination rows)) all)) (sym grouping)
          (subst (λ (answers : List Answer). AnswersStandFor names versions keep answers (map (group_row scope core) (filter (is_kept scope core.having) (groups_of scope core.group all)))) (sym result.answers)
          (answers-stand names versions keep scope core plan here (pick_groups plan.group picks) (groups_of scope core.group all) standing)),
      subst (λ b. StandsFor names versions grouped.rejected (kept_origins keep (if b then flat_map (flat_map (combination_rows core.from)) (filter (λ group. not (is_kept scope core.having group)) (groups_of scope core.group all)) else []))) (sym grouping)
          (subst (λ (set : Lineage). StandsFor names versions set (kept_origins keep (flat_map (flat_map (combination_rows core.from)) (filter (λ group. not (is_kept scope core.having group)) (groups_of scope core.group all))))) (sym result.rejected)
          (rejected-stands names versions keep scope core plan here (pick_groups plan.group picks) (groups_of scope core.group all) standing)),
    )
