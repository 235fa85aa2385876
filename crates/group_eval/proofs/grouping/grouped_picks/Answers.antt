use Rattle.std.proofs.Common.{◌≡◌, ◌∙◌, sym, subst, List, [], ◌∷◌, length, ◌==◌, Bool}
use Rattle.std.specs.Prelude.{if◌then◌else◌, Result, IfOk}
use Rattle.lineage.specs.declared.answer.Pick.{Pick}
use Rattle.group_eval.specs.Evaluating.{IsPlacedPlan, IsGroupedBy}
use Rattle.group_eval.specs.inner.Grouping.{keyed_groups, pick_groups}
use Rattle.group_eval.specs.declared.grouping.Grouped.{Grouped}
use Rattle.group_eval.specs.declared.plan.Plan.{Plan}
use Rattle.sql_model.specs.Scope.{InScope}
use Rattle.group_eval.proofs.grouping.grouped_picks.Goals as goal

module _ {E : Type 0} (plan : Plan) (picks : List Pick) (result : Result Grouped E) where
  abbrev Gives : List (List Pick) → Type 0
  Gives groups = IfOk result (λ grouped. (scope : List InScope) → IsPlacedPlan scope plan → IsGroupedBy scope plan groups grouped)

  abbrev groups-if : Bool → List (List Pick)
  groups-if b = if b then picks ∷ [] else keyed_groups plan.group picks

  by-places : (b : Bool) → (length plan.group == 0) ≡ b → Gives (groups-if b) → Gives (pick_groups plan.group picks)
  by-places b is = subst (λ (e : Bool). Gives (groups-if e)) (sym is)

pub returns-then-is_empty : goal.returns-then-is_empty
returns-then-is_empty c = by-places c.args.plan.now c.args.picks.now c.evaluate_one_group.result _ (sym c.is_empty.ensures ∙ c.if-is_empty.true) c.evaluate_one_group.ensures

pub returns-else-is_empty : goal.returns-else-is_empty
returns-else-is_empty c = by-places c.args.plan.now c.args.picks.now c.grouped_by_keys.result _ (sym c.is_empty.ensures ∙ c.if-is_empty.false) c.grouped_by_keys.ensures
