-- Answers of picks stand for the rows of a core.
use Rattle.std.proofs.Common.{◌≡◌, ◌∙◌, sym, ap, subst, refl, ℕ, zero, suc, Bool, false, List, [], ◌∷◌, ◌++◌, map, append-nil, Option, Some, None}
use Rattle.std.specs.Prelude.{filter, unwrap_or, if◌then◌else◌, option_to_list}
use Rattle.std.specs.List.{flat_map}
use Rattle.std.proofs.lemmas.List.{map-append}
use Rattle.ldv_value.proofs.Options.{same-some}
use Rattle.lineage.specs.Rows.{kept_origins, IsRow, AnswersStandFor, PicksStandFor, joined_row}
use Rattle.lineage.specs.StandsFor.{StandsFor}
use Rattle.lineage.specs.declared.answer.Answer.{Answer}
use Rattle.lineage.specs.declared.answer.Pick.{Pick}
use Rattle.predicates.specs.Checking.{core_at, places_at}
use Rattle.predicates.specs.Placing.{AreAllPlaced}
use Rattle.query_eval.specs.Projecting.{values_over}
use Rattle.query_eval.specs.Projecting.{projected_answer, answer_of_all_columns, IsProjected}
use Rattle.query_eval.specs.Types.{Checked, Core, Item, Value}
use Rattle.predicates.specs.declared.placed.BoundExpr.{BoundExpr}
use Rattle.sql_model.specs.Kinds.{names_in}
use Rattle.sql_model.specs.Meaning.{eval}
use Rattle.sql_model.specs.Needs.{Versions}
use Rattle.predicates.proofs.CorePlaces.{core-places}
use Rattle.sql_model.specs.QueryAnswer.{Origin, Combination, combination_rows, joined_values, item_values, group_row, one_combination, rows_in_scope, is_kept, groups_of}
use Rattle.sql_model.specs.Refusals.{groups, names_of_items}
use Rattle.sql_model.specs.Scope.{InScope, environment, places_in, place_of, scope_of}

-- ---- rows

module _ (names : List (List ℕ)) (versions : Versions) (keep : Bool) (scope : List InScope) (core : Core) where
  alone : (rows : Combination) → combination_rows core.from rows ≡ (group_row scope core (one_combination rows)).lineage
  alone rows = sym (append-nil (combination_rows core.from rows))

  lineage-stands : (pick : Pick) (rows : Combination) → IsRow names versions keep pick.values pick.lineage (joined_row core.from rows)
      → StandsFor names versions pick.lineage (kept_origins keep (group_row scope core (one_combination rows)).lineage)
  lineage-stands pick rows row = subst (λ (origins : List Origin). StandsFor names versions pick.lineage (kept_origins keep origins)) (alone rows) row.stands

  answer_of_all_columns-stands : core.items ≡ None → (picks : List Pick) (all : List Combination) → PicksStandFor names versions keep picks (map (joined_row core.from) all)
      → AnswersStandFor names versions keep (map answer_of_all_columns picks) (map (λ rows. group_row scope core (one_combination rows)) all)
  answer_of_all_columns-stands is [] [] stand = stand
  answer_of_all_columns-stands is [] (rows ∷ all) stand = absurd stand
  answer_of_all_columns-stands is (pick ∷ picks) [] stand = absurd stand
  answer_of_all_columns-stands is (pick ∷ picks) (rows ∷ all) stand = (
    record {
      same = stand.0.same ∙ ap (λ (items : Option (List Item)). item_values scope items (one_combination rows)) (sym is);
      stands = lineage-stands pick rows stand.0;
    },
    answer_of_all_columns-stands is picks all stand.1,
  )

  values-are : (placed : List BoundExpr) (items : List Item) → map (λ p. p.expr) placed ≡ map (λ item. item.expr) items → (rows : Combination) (values : List Value) → values ≡ joined_values rows
      → values_over scope values placed ≡ item_values scope (Some items) (one_combination rows)
  values-are placed items exprs rows values is =
      ap (λ (vs : List Value). values_over scope vs placed) is
      ∙ through placed
      ∙ ap (map (λ e. (eval e (environment scope (joined_values rows) ∷ [])).value)) exprs
      ∙ back items
    where
      through : (ps : List BoundExpr) → values_over scope (joined_values rows) ps ≡ map (λ e. (eval e (environment scope (joined_values rows) ∷ [])).value) (map (λ p. p.expr) ps)
      through [] = refl
      through (p ∷ ps) = ap (λ vs. (eval p.expr (environment scope (joined_values rows) ∷ [])).value ∷ vs) (through ps)

      back : (xs : List Item) → map (λ e. (eval e (environment scope (joined_values rows) ∷ [])).value) (map (λ item. item.expr) xs) ≡ item_values scope (Some xs) (one_combination rows)
      back [] = refl
      back (x ∷ xs) = ap (λ vs. (eval x.expr (environment scope (joined_values rows) ∷ [])).value ∷ vs) (back xs)

  projected_answer-stands : (items : List Item) → core.items ≡ Some items → (placed : List BoundExpr) → map (λ p. p.expr) placed ≡ map (λ item. item.expr) items
      → (picks : List Pick) (all : List Combination) → PicksStandFor names versions keep picks (map (joined_row core.from) all)
      → AnswersStandFor names versions keep (map (projected_answer scope placed) picks) (map (λ rows. group_row scope core (one_combination rows)) all)
  projected_answer-stands items is placed exprs [] [] stand = stand
  projected_answer-stands items is placed exprs [] (rows ∷ all) stand = absurd stand
  projected_answer-stands items is placed exprs (pick ∷ picks) [] stand = absurd stand
  projected_answer-stands items is placed exprs (pick ∷ picks) (rows ∷ all) stand = (
    record {
      same = values-are placed items exprs rows pick.values stand.0.same ∙ ap (λ (items : Option (List Item)). item_values scope items (one_combination rows)) (sym is);
      stands = lineage-stands pick rows stand.0;
    },
    projected_answer-stands items is placed exprs picks all stand.1,
  )

  ungrouped : groups core ≡ false → (all : List Combination) → map (λ rows. group_row scope core (one_combination rows)) all ≡ rows_in_scope scope core all
  ungrouped alone all =
      sym (ap (λ (b : Bool). if b then map (group_row scope core) (filter (is_kept scope core.having) (groups_of scope core.group all)) else map (λ rows. group_row scope core (one_combination rows)) all) alone)

-- ---- the answers of a core

pub answer_of_all_columns-projected : (checked : Checked) (place : ℕ) (of : Core) (picks : List Pick) → core_at checked place ≡ Some of → of.items ≡ None → IsProjected checked place picks (map answer_of_all_columns picks)
answer_of_all_columns-projected checked place of picks at none query catalog core names versions keep all is got alone stand =
    let same : of ≡ core = same-some of core (sym at ∙ got) in
    subst (AnswersStandFor names versions keep (map answer_of_all_columns picks)) (ungrouped names versions keep (scope_of core.from catalog) core alone all)
    (answer_of_all_columns-stands names versions keep (scope_of core.from catalog) core (ap (λ (c : Core). c.items) (sym same) ∙ none) picks all stand)

pub items-projected : (checked : Checked) (place : ℕ) (of : Core) (items : List Item) (picks : List Pick) (placed : List BoundExpr) (answers : List Answer)
    → core_at checked place ≡ Some of → of.items ≡ Some items
    → map (λ p. p.expr) placed ≡ map (λ item. item.expr) items
    → ((scope : List InScope) (others : List ℕ) → places_at checked place ≡ places_in scope (names_of_items items) ++ others → AreAllPlaced scope placed)
    → ((scope : List InScope) → AreAllPlaced scope placed → answers ≡ map (projected_answer scope placed) picks)
    → IsProjected checked place picks answers
items-projected checked place of items picks placed answers at some exprs placing made query catalog core names versions keep all is got alone stand =
    let same : of ≡ core = same-some of core (sym at ∙ got) in
    let scope : List InScope = scope_of core.from catalog in
    let written : core.items ≡ Some items = ap (λ (c : Core). c.items) (sym same) ∙ some in
    let rest = flat_map names_in core.picks ++ (core.group ++ flat_map names_in (option_to_list core.having)) in
    let places : places_at checked place ≡ places_in scope (names_of_items items) ++ places_in scope rest =
    core-places checked query catalog is place core got
    ∙ ap (λ (o : Option (List Item)). places_in scope (names_of_items (unwrap_or o []) ++ rest)) written
    ∙ map-append (place_of scope) (names_of_items items) rest in
    let here : answers ≡ map (projected_answer scope placed) picks = made scope (placing scope (places_in scope rest) places) in
    subst (λ (made : List Answer). AnswersStandFor names versions keep made (rows_in_scope scope core all)) (sym here)
    (subst (AnswersStandFor names versions keep (map (projected_answer scope placed) picks)) (ungrouped names versions keep scope core alone all)
    (projected_answer-stands names versions keep scope core items written placed exprs picks all stand))

pub ruleset projections = (answer_of_all_columns-projected, items-projected)
