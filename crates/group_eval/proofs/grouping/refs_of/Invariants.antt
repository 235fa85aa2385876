use Rattle.std.proofs.Common.{◌≡◌, ◌++◌, drop}
use Rattle.group_eval.proofs.grouping.refs_of.Given as goal

abbrev pub invariant-loop-pick : goal.invariant-loop-pick
invariant-loop-pick l = l.refs ++ drop l.pick-index l.picks ≡ l.picks
