use Rattle.std.proofs.Common.{◌≡◌, ◌++◌, map}
use Rattle.query_eval.specs.Projecting.{answer_of_all_columns}
use Rattle.query_eval.proofs.projection.project_all.Given as goal

abbrev pub invariant-loop-pick : goal.invariant-loop-pick
invariant-loop-pick l = l.answers ++ map answer_of_all_columns l.pick-iterator.rest.items ≡ map answer_of_all_columns l.fn.picks
