use Rattle.std.proofs.Common.{◌≡◌, ◌++◌}
use Rattle.query_eval.specs.inner.Joining.{ready_conditions, later_conditions}
use Rattle.query_eval.proofs.joining.part.Given as goal

abbrev pub invariant-loop-cond : goal.invariant-loop-cond
invariant-loop-cond l = record {
  ready : l.ready ++ ready_conditions l.width l.cond-iterator.rest.items ≡ ready_conditions l.width l.fn.conds;
  later_conditions : l.later ++ later_conditions l.width l.cond-iterator.rest.items ≡ later_conditions l.width l.fn.conds;
}
