use Rattle.std.proofs.Common.{◌≡◌, ◌++◌, map, take}
use Rattle.package_codec.proofs.trace.group.ungroup.Given as goal

abbrev pub invariant-loop-part : goal.invariant-loop-part
invariant-loop-part g l = l.found ≡ l.fn.found ++ map (g.X.GroupedRow.place l.group.table) (take l.part-index l.group.parts)
