use Rattle.query_eval.specs.inner.Joining.{AreTiesWith}
use Rattle.query_eval.proofs.probe.ties_of.Given as goal

abbrev pub invariant-loop-cond : goal.invariant-loop-cond
invariant-loop-cond l = AreTiesWith l.fn.conds l.width l.ties.items l.others l.cond-iterator.rest.items
