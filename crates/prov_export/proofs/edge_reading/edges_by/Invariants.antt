use Rattle.std.proofs.Common.{◌≡◌, Some}
use Rattle.prov_export.specs.inner.ObjectRefs.{objects_seen}
use Rattle.prov_export.specs.Reading.{each_from, edge_of}
use Rattle.prov_export.proofs.edge_reading.edges_by.Given as goal

abbrev pub invariant-loop-number : goal.invariant-loop-number
invariant-loop-number l = each_from (edge_of (objects_seen l.objects)) 0 l.number ≡ Some l.edges
