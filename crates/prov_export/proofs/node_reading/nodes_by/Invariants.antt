use Rattle.std.proofs.Common.{◌≡◌, Some}
use Rattle.prov_export.specs.inner.Names.{names_of}
use Rattle.prov_export.specs.Reading.{each_from, node_by}
use Rattle.prov_export.proofs.node_reading.nodes_by.Given as goal

abbrev pub invariant-loop-place : goal.invariant-loop-place
invariant-loop-place l = each_from (node_by (names_of l.names)) 0 l.place ≡ Some l.nodes
