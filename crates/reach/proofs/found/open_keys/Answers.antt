use Rattle.std.proofs.Common.{◌≡◌, ◌∙◌, sym, ap, subst, length, map, ℕ, List}
use Rattle.std.proofs.lemmas.List.{length-map}
use Rattle.trace_graph.specs.Lent.{node_of}
use Rattle.reach.specs.Types.{Node, Edge}
use Rattle.reach.specs.Found.{Times}
use Rattle.reach.specs.Lent.{lent_node}
use Rattle.reach.specs.inner.Marks.{Marks, marks_of, marked_below}
use Rattle.reach.proofs.FoundLaws.{ok_both}
use Rattle.reach.proofs.SortedLaws.{sorted_open}
use Rattle.reach.proofs.found.open_keys.Goals as goal

pub returns-clause-keys : goal.returns-clause-keys
returns-clause-keys c =
    let nodes : List Node = map node_of c.args.nodes.now in
    let edges : List Edge = c.args.edges.now in
    let latest : Times = c.args.latest.now in
    let count : length nodes ≡ length c.args.nodes.now = length-map c.args.nodes.now node_of in
    let taken : map lent_node c.in_ok-keys.keys.items ≡ marked_below nodes (marks_of (length c.args.nodes.now) latest edges) (length c.args.nodes.now) =
    c.in_ok-keys.ensures ∙ ap (λ (m : Marks). marked_below nodes m (length c.args.nodes.now)) (c.deref.ensures.value ∙ c.in_ok-marks.ensures.marks) in
    let counted : map lent_node c.in_ok-keys.keys.items ≡ marked_below nodes (marks_of (length nodes) latest edges) (length nodes) =
    subst (λ (n : ℕ). map lent_node c.in_ok-keys.keys.items ≡ marked_below nodes (marks_of n latest edges) n) (sym count) taken in
    ok_both c.sort_keys_once.result _ _ _ (λ sorted same once. sorted_open nodes edges latest _ _ counted same once) c.sort_keys_once.ensures.nodes c.sort_keys_once.ensures.sorted
