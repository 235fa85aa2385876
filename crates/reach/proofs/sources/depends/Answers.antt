use Rattle.std.proofs.Common.{◌≡◌, ◌∙◌, ◌<◌, sym, ap, subst, map, length, ℕ, List, IsTrue}
use Rattle.std.proofs.lemmas.List.{length-map}
use Rattle.std.proofs.lemmas.Result.{IfOk-weaker}
use Rattle.trace_graph.specs.Lent.{node_of}
use Rattle.trace_graph.specs.Graph.{Parts, are_between}
use Rattle.reach.specs.Types.{Edge}
use Rattle.reach.specs.Found.{open_sources}
use Rattle.reach.specs.Depends.{latest_of}
use Rattle.reach.specs.Lent.{lent_node}
use Rattle.reach.proofs.FoundLaws.{are_sources, ok_both}
use Rattle.reach.proofs.PassLaws.{latest_are}
use Rattle.reach.proofs.SameLaws.{same_sources}
use Rattle.reach.proofs.sources.depends.Goals as goal

pub returns-clause-nodes : goal.returns-clause-nodes
returns-clause-nodes c =
    let edges : List Edge = c.args.edges.now in
    let graph : Parts = record { nodes = map node_of c.args.nodes.now; edges = edges } in
    let count : length (map node_of c.args.nodes.now) ≡ length c.args.nodes.now = length-map c.args.nodes.now node_of in
    let between : IsTrue (are_between (length (map node_of c.args.nodes.now)) edges) =
    subst (λ (n : ℕ). IsTrue (are_between n edges)) (sym count) c.requires.between in
    let within : c.args.node < length (map node_of c.args.nodes.now) =
    subst (λ (n : ℕ). c.args.node < n) (sym count) c.requires.node in
    let same = ap (open_sources graph) c.deref.ensures.value
    ∙ same_sources graph c.args.node c.args.time c.in_ok-latest.latest.items (latest_of graph c.args.node c.args.time)
    c.in_ok-latest.ensures.latest (latest_are graph c.args.node c.args.time between within) in
    IfOk-weaker c.open_keys.result _ _ (λ found is. is ∙ same) c.open_keys.ensures.keys

pub returns-clause-sources : goal.returns-clause-sources
returns-clause-sources c =
    let graph : Parts = record { nodes = map node_of c.args.nodes.now; edges = c.args.edges.now } in
    ok_both c.open_keys.result _ _ _ (λ found is sorted.
    are_sources graph c.args.node c.args.time c.in_ok-latest.latest.items c.in_ok-latest.ensures.latest
    (map lent_node found.items) (is ∙ ap (open_sources graph) c.deref.ensures.value) sorted)
    c.open_keys.ensures.keys c.open_keys.ensures.sorted
