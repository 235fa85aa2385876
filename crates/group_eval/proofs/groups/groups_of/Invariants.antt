use Rattle.std.proofs.Common.{◌≡◌, [], drop}
use Rattle.group_eval.specs.inner.Grouping.{grouped_onto, IsIndex}
use Rattle.group_eval.proofs.groups.groups_of.Given as goal

abbrev pub invariant-loop-pick : goal.invariant-loop-pick
invariant-loop-pick l = IsIndex l.numbers l.made.items × (grouped_onto l.places l.made.items (drop l.pick-index l.picks) ≡ grouped_onto l.places [] l.picks)
