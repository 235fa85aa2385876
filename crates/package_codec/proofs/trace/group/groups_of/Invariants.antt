use Rattle.std.proofs.Common.{◌≡◌, take}
use Rattle.package_codec.specs.Groups.{groups}
use Rattle.package_codec.proofs.trace.group.groups_of.Given as goal

abbrev pub invariant-loop-item : goal.invariant-loop-item
invariant-loop-item g l = l.found.items ≡ groups g.X.GroupedRow.table_of g.X.GroupedRow.part_of (take l.item-index l.items)
