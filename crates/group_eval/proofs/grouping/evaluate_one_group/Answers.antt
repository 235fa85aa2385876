use Rattle.std.proofs.Common.{◌≡◌, map, List, [], ◌∷◌, ◌∙◌, subst}
use Rattle.lineage.specs.declared.answer.Pick.{Pick}
use Rattle.group_eval.proofs.AddLaws.{only_group}
use Rattle.group_eval.specs.Evaluating.{IsGroupedBy}
use Rattle.group_eval.proofs.grouping.evaluate_one_group.Goals as goal

pub returns : goal.returns
returns c = λ scope placed.
    let picks : List Pick = map (λ r. r.now) c.items.result.now in
    let all : picks ≡ c.args.picks.now = c.items.ensures ∙ c.in_ok-all.ensures in
    subst (λ (group : List Pick). IsGroupedBy scope c.args.plan.now (group ∷ []) c.add_group.new.grouped) all
    (only_group scope c.args.plan.now picks c.no_group-grouped.result c.add_group.new.grouped c.no_group-grouped.ensures.answers c.no_group-grouped.ensures.rejected
    (c.in_ok-add_group.ensures scope placed))
