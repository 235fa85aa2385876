use Rattle.std.proofs.Common.{map, List, sym, ◌∙◌, refl}
use Rattle.std.proofs.lemmas.Result.{on_ok_weaker}
use Rattle.lineage.specs.declared.answer.Pick.{Pick}
use Rattle.group_eval.proofs.AddLaws.{kept_on, rejected_on}
use Rattle.group_eval.proofs.grouping.add_group_from.Goals as goal

pub returns-then-branch : goal.returns-then-branch
returns-then-branch c =
    let picks : List Pick = map (λ r. r.now) c.args.group.now in
    on_ok_weaker c.add_answer.result
    (λ made scope placed.
    kept_on scope c.args.plan.now picks c.args.grouped.now _ (sym (c.in_ok-is_kept.ensures scope placed.having) ∙ c.if-branch.true) (made scope placed.items) refl)
    c.add_answer.ensures

pub returns-else-branch : goal.returns-else-branch
returns-else-branch c =
    let picks : List Pick = map (λ r. r.now) c.args.group.now in
    on_ok_weaker c.add_lineages.result
    (λ made scope placed.
    rejected_on scope c.args.plan.now picks c.args.grouped.now _ (sym (c.in_ok-is_kept.ensures scope placed.having) ∙ c.if-branch.false) refl made)
    c.add_lineages.ensures
