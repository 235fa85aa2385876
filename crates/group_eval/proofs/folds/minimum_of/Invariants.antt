use Rattle.std.proofs.Common.{◌≡◌, drop, fold}
use Rattle.sql_model.specs.Meaning.{lesser_of}
use Rattle.group_eval.proofs.folds.minimum_of.Given as goal

abbrev pub invariant-loop-value : goal.invariant-loop-value
invariant-loop-value l = fold lesser_of l.best (drop l.value-index l.others) ≡ fold lesser_of l.fn.first l.others
