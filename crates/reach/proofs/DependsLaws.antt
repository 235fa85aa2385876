-- The nodes that passes over the edges find are those from which a path leads to the node.
use Rattle.std.proofs.Common.{refl}
use Rattle.std.specs.List.{filter_map}
use Rattle.reach.specs.Found.{Times, open_source}
use Rattle.reach.specs.Depends.{latest_of, depends_of}
use Rattle.reach.specs.ReachLaws.{DependsLaw}
use Rattle.reach.proofs.FoundLaws.{are_sources}
use Rattle.reach.proofs.OrderLaws.{in_order_sorted}
use Rattle.reach.proofs.PassLaws.{latest_are}

pub depends_law : DependsLaw
depends_law graph node time between within =
    let latest : Times = latest_of graph node time in
    are_sources graph node time latest (latest_are graph node time between within) (depends_of graph node time) refl
    (in_order_sorted (filter_map (open_source graph.nodes latest) graph.edges))
