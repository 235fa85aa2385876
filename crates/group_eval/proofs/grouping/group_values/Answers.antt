use Rattle.std.proofs.Common.{rules, ◌≡◌, ◌∙◌, sym, ap, subst, map, List}
use Rattle.std.specs.Prelude.{Some, Option}
use Rattle.std.proofs.lemmas.Result.{IfOk-weaker}
use Rattle.lineage.specs.declared.answer.Pick.{Pick}
use Rattle.group_eval.specs.Evaluating.{ArePlaced, group_values, item_values}
use Rattle.predicates.specs.Placing.{AreAllPlaced}
use Rattle.predicates.specs.declared.placed.BoundExpr.{BoundExpr}
use Rattle.sql_model.specs.Scope.{InScope}
use Rattle.group_eval.proofs.grouping.group_values.Goals as goal

pub returns-in-Some : goal.returns-in-Some
returns-in-Some c =
    let picks : List Pick = map (λ r. r.now) c.args.group.now in
    let own : List BoundExpr = c.items.result.now in
    let is : c.args.items.now ≡ Some own = search rules in
    IfOk-weaker c.values_of_items.result
    (λ values. (scope : List InScope) → AreAllPlaced scope own → values ≡ item_values scope picks own)
    (λ values. (scope : List InScope) → ArePlaced scope c.args.items.now → values ≡ group_values scope c.args.items.now picks)
    (λ values made scope all.
    made scope (subst (ArePlaced scope) is all) ∙ sym (ap (λ (items : Option (List BoundExpr)). group_values scope items picks) is))
    c.values_of_items.ensures
