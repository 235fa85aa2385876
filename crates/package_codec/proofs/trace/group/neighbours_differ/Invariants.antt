use Rattle.std.proofs.Common.{◌≡◌, [], drop}
use Rattle.package_codec.specs.Groups.{neighbours_differ}
use Rattle.package_codec.proofs.trace.group.neighbours_differ.Given as goal

abbrev pub invariant-loop-group : goal.invariant-loop-group
invariant-loop-group g l = neighbours_differ l.before (drop l.group-index l.groups) ≡ neighbours_differ [] l.groups
