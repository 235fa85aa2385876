use Rattle.std.proofs.Common.{◌≡◌, drop, fold}
use Rattle.sql_model.specs.Meaning.{greater_of}
use Rattle.group_eval.proofs.folds.maximum_of.Given as goal

abbrev pub invariant-loop-value : goal.invariant-loop-value
invariant-loop-value l = fold greater_of l.best (drop l.value-index l.others) ≡ fold greater_of l.fn.first l.others
