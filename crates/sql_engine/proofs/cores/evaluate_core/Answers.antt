use Rattle.std.proofs.Common.{◌∙◌, subst, sym}
use Rattle.lineage.specs.Lineage.{Lineage}
use Rattle.sql_engine.specs.inner.Answering.{IsEvaluated}
use Rattle.sql_engine.proofs.AnswerLaws.{evaluated_groups, evaluated_plain}
use Rattle.sql_engine.proofs.cores.evaluate_core.Goals as goal

pub returns-then-groups : goal.returns-then-groups
returns-then-groups c =
    evaluated_groups c.args.checked.now c.args.place c.args.picks c.core_of.result.now c.core_of.ensures c.in_ok-grouped.grouped
    (sym c.groups.ensures ∙ c.if-groups.true) c.in_ok-grouped.ensures

pub returns : goal.returns
returns c =
    subst (λ (set : Lineage). IsEvaluated c.args.checked.now c.args.place c.args.picks (record { answers = c.in_ok-project.field-0; rejected = set })) (sym c.empty.ensures)
    (evaluated_plain c.args.checked.now c.args.place c.args.picks c.core_of.result.now c.core_of.ensures c.in_ok-project.field-0
    (sym c.groups.ensures ∙ c.if-groups.false) c.in_ok-project.ensures)
