use Rattle.std.proofs.Common.{◌≡◌, take}
use Rattle.std.specs.List.{flat_map}
use Rattle.package_codec.specs.Groups.{ungroup}
use Rattle.package_codec.proofs.trace.group.ungroup_all.Given as goal

abbrev pub invariant-loop-group : goal.invariant-loop-group
invariant-loop-group g l = l.found ≡ flat_map (ungroup g.X.GroupedRow.place) (take l.group-index l.groups)
