use Rattle.std.proofs.Common.{◌≡◌, ◌+◌, ◌++◌, ◌∷◌, [], List, map, drop, subst, ap, sym, ◌∙◌, append-nil, arith}
use Rattle.std.proofs.lemmas.List.{drop_all}
use Rattle.ldv_value.proofs.Places.{drop_item}
use Rattle.lineage.specs.declared.answer.Pick.{Pick}
use Rattle.predicates.proofs.Lists.{moved-one}
use Rattle.group_eval.specs.Evaluating.{item_values}
use Rattle.group_eval.specs.inner.Folding.{group_meaning}
use Rattle.predicates.specs.Placing.{AreAllPlaced}
use Rattle.group_eval.specs.Types.{Value}
use Rattle.predicates.specs.declared.placed.BoundExpr.{BoundExpr}
use Rattle.group_eval.proofs.grouping.values_of_items.Goals as goal

pub loop-item-init : goal.loop-item-init
loop-item-init c =
    let picks : List Pick = map (λ r. r.now) c.args.group.now in
    record {
      values = λ scope all. (all, ap (λ (values : List Value). values ++ item_values scope picks c.args.items.now) c.in_ok-values.ensures);
      known = c.none-known.ensures picks;
    }

pub loop-item-preserved : goal.loop-item-preserved
loop-item-preserved c =
    let picks : List Pick = map (λ r. r.now) c.args.group.now in
    let items = c.args.items.now in
    let i = c.loop-item.item-index in
    let item : BoundExpr = c.item-item.result in
    let split : drop i items ≡ item ∷ drop (i + 1) items = drop_item items i item c.loop-item-test.true c.item-item.is in
    record {
      values = λ scope all.
          let before = c.loop-item.invariant.values scope all in
          let placed : AreAllPlaced scope (item ∷ drop (i + 1) items) = subst (AreAllPlaced scope) split before.0 in (
            placed.1,
            ap (λ (values : List Value). values ++ item_values scope picks (drop (i + 1) items)) c.in_ok-push.ensures.ok
                ∙ moved-one c.loop-item.values (item_values scope picks (drop (i + 1) items)) c.in_ok-group_value.field-0 (group_meaning scope picks item.expr).value (c.in_ok-group_value.ensures.value scope placed.0)
                ∙ ap (λ (ps : List BoundExpr). c.loop-item.values ++ item_values scope picks ps) (sym split)
                ∙ before.1,
          );
      known = c.in_ok-group_value.ensures.known;
    }

pub returns : goal.returns
returns c = λ scope all.
    let picks : List Pick = map (λ r. r.now) c.args.group.now in
    let items = c.args.items.now in
    let done : drop c.loop-item.item-index items ≡ [] = drop_all c.loop-item.item-index items (omega (arith, c.loop-item-test.false)) in
    sym (append-nil c.loop-item.values)
    ∙ ap (λ (ps : List BoundExpr). c.loop-item.values ++ item_values scope picks ps) (sym done)
    ∙ (c.loop-item.invariant.values scope all).1
