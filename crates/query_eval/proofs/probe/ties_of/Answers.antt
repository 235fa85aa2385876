use Rattle.std.proofs.Common.{rules, ◌≡◌, [], List, length, subst}
use Rattle.ldv_value.proofs.Lists.{nil-from-length}
use Rattle.predicates.specs.declared.placed.BoundExpr.{BoundExpr}
use Rattle.query_eval.specs.inner.Joining.{AreTiesWith}
use Rattle.query_eval.proofs.Probes.{ties_end}
use Rattle.query_eval.proofs.probe.ties_of.Goals as goal

pub loop-cond-preserved : goal.loop-cond-preserved
loop-cond-preserved c =
    let before = subst (λ (rest : List BoundExpr). AreTiesWith c.args.conds c.args.width c.loop-cond.ties.items c.loop-cond.others rest) c.in-Some.ensures.steps.0 c.loop-cond.invariant in
    c.in_ok-add_condition.ensures c.args.conds c.next.new.self.rest.items before

pub returns : goal.returns
returns c =
    let zero : length c.loop-cond.cond-iterator.rest.items ≡ 0 = search rules in
    let none : c.loop-cond.cond-iterator.rest.items ≡ [] = nil-from-length c.loop-cond.cond-iterator.rest.items zero in
    ties_end c.args.conds c.args.width c.loop-cond.ties.items c.loop-cond.others c.loop-cond.cond-iterator.rest.items none c.loop-cond.invariant
