-- Links that lead from node to node are a path of their graph.
use Rattle.std.proofs.Common.{◌≡◌, ◌∙◌, sym, ap, subst, refl, arith, ℕ, ◌+◌, ◌≤◌, zero, suc, Bool, true, false, ◌||◌, not, cond}
use Rattle.std.proofs.Common.{List, [], ◌∷◌, IsTrue}
use Rattle.std.specs.Prelude.{◌&&◌, Contains, nat_le}
use Rattle.std.specs.List.{flat_map, list_any}
use Rattle.std.proofs.lemmas.Bool.{false≢true, leb-true, and_parts}
use Rattle.std.proofs.lemmas.List.Elements.{All-from_recursion, All-contains}
use Rattle.trace_graph.specs.Links.{Link}
use Rattle.trace_graph.specs.Graph.{same_node, ends, nodes_of, place_in, edges_of}
use Rattle.trace_graph.specs.GraphLaws.{passes_at, covers, IntervalsLaw}
use Rattle.trace_graph.proofs.Distinct.{AllApart, distinct_apart}
use Rattle.trace_graph.proofs.NodeLaws.{node_is}
use Rattle.reach.specs.Types.{Node, Edge}
use Rattle.reach.specs.Reach.{Leg, Leaves, IsPath, Leads}
use Rattle.reach.specs.ReachLaws.{Follows, IsTrail, TrailsLaw}
use Rattle.reach.proofs.Members.{in_head, in_tail}

-- an item that passes
any_in : {X : Type 0} (p : X → Bool) (xs : List X) → list_any p xs ≡ true → (x : X) × Contains xs x × (p x ≡ true)
any_in p [] any = absurd (false≢true any)
any_in {X} p (y ∷ ys) any = by (any_in p ys) (p y) refl any
  where
    more : (x : X) × Contains ys x × (p x ≡ true) → (x : X) × Contains (y ∷ ys) x × (p x ≡ true)
    more found = (found.0, in_tail y ys found.0 found.1, found.2)

    by : (list_any p ys ≡ true → (x : X) × Contains ys x × (p x ≡ true)) → (b : Bool) → p y ≡ b → (b || list_any p ys) ≡ true
        → (x : X) × Contains (y ∷ ys) x × (p x ≡ true)
    by before true is any = (y, in_head y ys, is)
    by before false is any = more (before any)

-- ---- places

passes_any : (test : Node → Bool) (nodes : List Node) (place : ℕ) → passes_at test nodes place ≡ true → list_any test nodes ≡ true
passes_any test [] place passes = absurd (false≢true passes)
passes_any test (n ∷ ns) zero passes = ap (λ (b : Bool). b || list_any test ns) passes
passes_any test (n ∷ ns) (suc place) passes = by (test n) (passes_any test ns place passes)
  where
    by : (b : Bool) → list_any test ns ≡ true → (b || list_any test ns) ≡ true
    by true any = refl
    by false any = any

-- where no two nodes are the same, a node is at one place only
only_place : (node : Node) (nodes : List Node) → AllApart same_node nodes → (place : ℕ) → passes_at (same_node node) nodes place ≡ true
    → place ≡ place_in nodes node
only_place node [] apart place passes = absurd (false≢true passes)
only_place node (n ∷ ns) apart zero passes = sym (ap (λ (b : Bool). cond (not b) (1 + place_in ns node) 0) passes)
only_place node (n ∷ ns) apart (suc place) passes = by (only_place node ns apart.1 place passes) (same_node node n) refl
  where
    by : place ≡ place_in ns node → (b : Bool) → same_node node n ≡ b → suc place ≡ cond (not (same_node node n)) (1 + place_in ns node) 0
    by rest true same =
        let any : list_any (same_node n) ns ≡ true =
        passes_any (same_node n) ns place (subst (λ (m : Node). passes_at (same_node m) ns place ≡ true) (node_is node n same) passes) in
        absurd (false≢true (sym apart.0 ∙ any))
    by rest false other =
        let next : suc place ≡ 1 + place_in ns node = omega (arith, rest) in
        next ∙ sym (ap (λ (b : Bool). cond (not b) (1 + place_in ns node) 0) other)

-- ---- one link

module _ (intervals : IntervalsLaw) (links : List Link) where
  abbrev nodes : List Node
  nodes = nodes_of links

  abbrev edges : List Edge
  edges = edges_of (nodes_of links) links

  abbrev place : Node → ℕ
  place node = place_in (nodes_of links) node

  -- an edge is between the nodes of a link, and has its time in its interval
  record Carries (l : Link) (edge : Edge) : Type 0 where
    among : Contains edges edge
    source : edge.source ≡ place l.source
    target : edge.target ≡ place l.target
    begun : edge.first ≤ l.time
    ended : l.time ≤ edge.last

  carried : (l : Link) → Contains links l → (edge : Edge) × Carries l edge
  carried l at =
      let holds : list_any (covers nodes l) edges ≡ true =
      All-contains (λ (x : Link). IsTrue (list_any (covers nodes x) edges)) links l
      (All-from_recursion (λ (x : Link). IsTrue (list_any (covers nodes x) edges)) links (intervals links)) at in
      let found = any_in (covers nodes l) edges holds in
      let edge : Edge = found.0 in
      let both = and_parts (passes_at (same_node l.source) nodes edge.source && passes_at (same_node l.target) nodes edge.target)
      (nat_le edge.first l.time && nat_le l.time edge.last) found.2 in
      let sides = and_parts (passes_at (same_node l.source) nodes edge.source) (passes_at (same_node l.target) nodes edge.target) both.0 in
      let times = and_parts (nat_le edge.first l.time) (nat_le l.time edge.last) both.1 in
      let apart : AllApart same_node nodes = distinct_apart same_node (flat_map ends links) in (
        edge,
        record {
          among = found.1;
          source = only_place l.source nodes apart edge.source sides.0;
          target = only_place l.target nodes apart edge.target sides.1;
          begun = leb-true edge.first l.time times.0;
          ended = leb-true l.time edge.last times.1;
        },
      )

  -- ---- one after another

  first_leg : (node : Node) (earliest : ℕ) (l : Link) → Follows links node earliest l
      → (leg : Leg) × Leaves edges (place node) earliest leg × (leg.edge.target ≡ place l.target) × (leg.time ≡ l.time)
  first_leg node earliest l follows =
      let found = carried l follows.among in
      let edge : Edge = found.0 in
      let carries : Carries l edge = found.1 in
      let leaves : Leaves edges (place node) earliest (record { edge = edge; time = l.time }) = record {
        among = carries.among;
        source = carries.source ∙ ap place follows.source;
        later = follows.later;
        begun = carries.begun;
        ended = carries.ended;
      } in
      (record { edge = edge; time = l.time }, leaves, carries.target, refl)

  module _ (target : Node) (time : ℕ) where
    trail_path : (trail : List Link) (node : Node) (earliest : ℕ) → IsTrail links target time node earliest trail
        → (legs : List Leg) × IsPath edges (place target) time (place node) earliest legs
    trail_path [] node earliest trail = ([], (ap place trail.0, trail.1))
    trail_path (l ∷ ls) node earliest trail =
        let first = first_leg node earliest l trail.0 in
        let rest = trail_path ls l.target l.time trail.1 in
        let leg : Leg = first.0 in
        let path : IsPath edges (place target) time leg.edge.target leg.time rest.0 =
        subst (λ (p : ℕ). IsPath edges (place target) time p leg.time rest.0) (sym first.2)
        (subst (λ (t : ℕ). IsPath edges (place target) time (place l.target) t rest.0) (sym first.3) rest.1) in
        (leg ∷ rest.0, (first.1, path))

    trail_leads : (source : Node) (l : Link) (trail : List Link) → IsTrail links target time source 0 (l ∷ trail)
        → Leads edges (place target) time (place source)
    trail_leads source l ls trail =
        let first = first_leg source 0 l trail.0 in
        let rest = trail_path ls l.target l.time trail.1 in
        let leg : Leg = first.0 in
        let path : IsPath edges (place target) time leg.edge.target leg.time rest.0 =
        subst (λ (p : ℕ). IsPath edges (place target) time p leg.time rest.0) (sym first.2)
        (subst (λ (t : ℕ). IsPath edges (place target) time (place l.target) t rest.0) (sym first.3) rest.1) in
        (leg, rest.0, (first.1, path))

pub trails_law : IntervalsLaw → TrailsLaw
trails_law intervals links source target time l trail are = trail_leads intervals links target time source l trail are
