-- Reading takes the graph out of its document again.
use Rattle.std.proofs.Common.{◌≡◌, ℕ, zero, suc, ◌+◌, ◌<◌, ◌^◌, List, [], ◌∷◌, length, refl, sym, ap, ◌∙◌, Bool, true, false, cond, arith, inl, inr}
use Rattle.std.specs.Prelude.{Option, Some, None, option_and_then, not, nat_lt, nat_le}
use Rattle.std.specs.Option.{option_or}
use Rattle.std.specs.List.{AllByRecursion}
use Rattle.std.proofs.lemmas.Bool.{cases_Bool, and_parts, ltb-true, le-leb}
use Rattle.serde_json.specs.Data.{Members, no_members}
use Rattle.serde_json.specs.Find.{get_member}
use Rattle.trace_graph.specs.Graph.{Parts, is_between, are_between}
use Rattle.prov_export.specs.Types.{Node, Edge, Relation, Used, Generated, Derived, Informed}
use Rattle.prov_export.specs.Document.{place_value, is_kind, with_nodes, relation_of, is_relation, node_at, edge_relation, edge_name, edge_value, with_edges, document}
use Rattle.prov_export.specs.Ids.{is_entity, node_id}
use Rattle.prov_export.specs.Reading.{count, Objects, objects_of, each_from, name_at, node_by, edge_in, edge_named, edge_of, time_of, node_count, edge_count, parts_in}
use Rattle.prov_export.proofs.Counts.{kinds_in, both_kinds, nodes_counted, relations_in, all_relations, edges_counted}
use Rattle.prov_export.proofs.Edges.{node_got, edge_nth, edge_got}
use Rattle.prov_export.proofs.Nodes.{at, nodes_back}
use Rattle.prov_export.proofs.Written.{HasTimes, IsWritten}

-- what is there is at its place
nth_of : (xs : List Node) (i : ℕ) → i < length xs → at xs i ≡ Some (node_at xs i)
nth_of [] i below = absurd (omega arith)
nth_of (x ∷ xs) zero below = refl
nth_of (x ∷ xs) (suc i) below = nth_of xs i (omega arith)

its_time : (n : ℕ) → n < 2 ^ 32 → time_of n ≡ Some n
its_time n small = let within : nat_le n 4294967295 ≡ true = le-leb n 4294967295 (omega arith) in ap (λ (b : Bool). cond b (Some n) None) within

later : {A : Type 0} {a b : Option A} {x : A} → a ≡ None → b ≡ Some x → option_or a b ≡ Some x
later {b = b} none is = ap (λ o. option_or o b) none ∙ is

sooner : {A : Type 0} {a : Option A} {x : A} (b : Option A) → a ≡ Some x → option_or a b ≡ Some x
sooner b is = ap (λ o. option_or o b) is

module _ (graph : Parts) (w : IsWritten graph) where
  abbrev nodes_by : Bool → Members
  nodes_by kind = with_nodes kind 0 graph.nodes no_members

  abbrev edges_by : Relation → Members
  edges_by relation = with_edges relation graph.nodes 0 graph.edges no_members

  abbrev parts : Objects
  parts = record {
    entities = nodes_by true;
    activities = nodes_by false;
    used = edges_by Used;
    generated = edges_by Generated;
    derived = edges_by Derived;
    informed = edges_by Informed;
  }

  objects_are : objects_of (document graph) ≡ Some parts
  objects_are = refl

  -- ---- counts

  nodes_are : node_count parts ≡ length graph.nodes
  nodes_are =
      let one : count (nodes_by true) ≡ kinds_in true graph.nodes + 0 = nodes_counted true 0 graph.nodes no_members w.apart w.named (λ x is. refl) in
      let two : count (nodes_by false) ≡ kinds_in false graph.nodes + 0 = nodes_counted false 0 graph.nodes no_members w.apart w.named (λ x is. refl) in
      let both : kinds_in true graph.nodes + kinds_in false graph.nodes ≡ length graph.nodes = both_kinds graph.nodes in
      omega arith

  counted : (relation : Relation) → count (edges_by relation) ≡ relations_in graph.nodes relation graph.edges + 0
  counted relation = let few : length graph.edges < 2 ^ 64 = w.edges_fit in edges_counted graph.nodes relation 0 graph.edges no_members (omega arith) (λ m above small. refl)

  edges_are : edge_count parts ≡ length graph.edges
  edges_are =
      let one = counted Used in
      let two = counted Generated in
      let three = counted Derived in
      let four = counted Informed in
      let all = all_relations graph.nodes graph.edges in
      omega arith

  -- ---- an edge

  node_is : (kind : Bool) (i : ℕ) → i < length graph.nodes → is_kind kind (node_at graph.nodes i) ≡ true
      → get_member (node_id (node_at graph.nodes i)) (nodes_by kind) ≡ Some (place_value i)
  node_is kind i below of_kind =
      let sum : 0 + i ≡ i = omega arith in
      node_got kind 0 graph.nodes no_members w.apart w.named i (node_at graph.nodes i) (nth_of graph.nodes i below) of_kind
      ∙ ap (λ (n : ℕ). Some (place_value n)) sum

  got : (relation : Relation) (i : ℕ) (e : Edge) → edge_nth graph.edges i ≡ Some e
      → get_member (edge_name i) (edges_by relation) ≡ cond (is_relation relation (edge_relation graph.nodes e)) (Some (edge_value relation graph.nodes e)) None
  got relation i e is =
      let few : length graph.edges < 2 ^ 64 = w.edges_fit in
      let sum : 0 + i ≡ i = omega arith in
      ap (λ (n : ℕ). get_member (edge_name n) (edges_by relation)) (sym sum)
      ∙ edge_got relation graph.nodes 0 graph.edges no_members i e is (omega arith) refl

  -- of each relation: the places are those of its nodes
  module _ (e : Edge) (source_in : e.source < length graph.nodes) (target_in : e.target < length graph.nodes) (timed : HasTimes e) where
    first_is : time_of e.first ≡ Some e.first
    first_is = its_time e.first timed.0

    last_is : time_of e.last ≡ Some e.last
    last_is = its_time e.last timed.1

    abbrev x : Node
    x = node_at graph.nodes e.source

    abbrev y : Node
    y = node_at graph.nodes e.target

    used_back : is_entity x ≡ true → is_entity y ≡ false → edge_in Used (nodes_by true) (nodes_by false) (edge_value Used graph.nodes e) ≡ Some e
    used_back a b = rw (node_is true e.source source_in a, node_is false e.target target_in (ap not b), first_is, last_is) refl

    generated_back : is_entity x ≡ false → is_entity y ≡ true → edge_in Generated (nodes_by false) (nodes_by true) (edge_value Generated graph.nodes e) ≡ Some e
    generated_back a b = rw (node_is false e.source source_in (ap not a), node_is true e.target target_in b, first_is, last_is) refl

    derived_back : is_entity x ≡ true → is_entity y ≡ true → edge_in Derived (nodes_by true) (nodes_by true) (edge_value Derived graph.nodes e) ≡ Some e
    derived_back a b = rw (node_is true e.source source_in a, node_is true e.target target_in b, first_is, last_is) refl

    informed_back : is_entity x ≡ false → is_entity y ≡ false → edge_in Informed (nodes_by false) (nodes_by false) (edge_value Informed graph.nodes e) ≡ Some e
    informed_back a b = rw (node_is false e.source source_in (ap not a), node_is false e.target target_in (ap not b), first_is, last_is) refl

    module _ (i : ℕ) (is : edge_nth graph.edges i ≡ Some e) where
      -- among the edges of another relation it isn't
      no_edge : (r : Relation) (sources targets : Members) → is_relation r (edge_relation graph.nodes e) ≡ false → edge_named r sources targets (edges_by r) (edge_name i) ≡ None
      no_edge r sources targets other =
          ap (option_and_then (edge_in r sources targets)) (got r i e is ∙ ap (λ (b : Bool). cond b (Some (edge_value r graph.nodes e)) None) other)

      an_edge : (r : Relation) (sources targets : Members) → is_relation r (edge_relation graph.nodes e) ≡ true
          → edge_in r sources targets (edge_value r graph.nodes e) ≡ Some e → edge_named r sources targets (edges_by r) (edge_name i) ≡ Some e
      an_edge r sources targets same back =
          ap (option_and_then (edge_in r sources targets)) (got r i e is ∙ ap (λ (b : Bool). cond b (Some (edge_value r graph.nodes e)) None) same) ∙ back

      edge_back : edge_of parts i ≡ Some e
      edge_back = elim (cases_Bool (is_entity x)) [
        | inl a ↦ elim (cases_Bool (is_entity y)) [
          | inl b ↦ let r : edge_relation graph.nodes e ≡ Derived = λ j. relation_of (a j) (b j) in
              later (no_edge Used (nodes_by true) (nodes_by false) (ap (is_relation Used) r))
              (later (no_edge Generated (nodes_by false) (nodes_by true) (ap (is_relation Generated) r))
              (sooner _ (an_edge Derived (nodes_by true) (nodes_by true) (ap (is_relation Derived) r) (derived_back a b))))
          | inr b ↦ let r : edge_relation graph.nodes e ≡ Used = λ j. relation_of (a j) (b j) in
              sooner _ (an_edge Used (nodes_by true) (nodes_by false) (ap (is_relation Used) r) (used_back a b))
        ]
        | inr a ↦ elim (cases_Bool (is_entity y)) [
          | inl b ↦ let r : edge_relation graph.nodes e ≡ Generated = λ j. relation_of (a j) (b j) in
              later (no_edge Used (nodes_by true) (nodes_by false) (ap (is_relation Used) r))
              (sooner _ (an_edge Generated (nodes_by false) (nodes_by true) (ap (is_relation Generated) r) (generated_back a b)))
          | inr b ↦ let r : edge_relation graph.nodes e ≡ Informed = λ j. relation_of (a j) (b j) in
              later (no_edge Used (nodes_by true) (nodes_by false) (ap (is_relation Used) r))
              (later (no_edge Generated (nodes_by false) (nodes_by true) (ap (is_relation Generated) r))
              (later (no_edge Derived (nodes_by true) (nodes_by true) (ap (is_relation Derived) r))
              (an_edge Informed (nodes_by false) (nodes_by false) (ap (is_relation Informed) r) (informed_back a b))))
        ]
      ]

  -- ---- all edges

  edges_in : (number : ℕ) (es : List Edge) → ((i : ℕ) (e : Edge) → edge_nth es i ≡ Some e → edge_nth graph.edges (number + i) ≡ Some e)
      → are_between (length graph.nodes) es ≡ true → AllByRecursion HasTimes es → each_from (edge_of parts) number (length es) ≡ Some es
  edges_in number [] are between timed = refl
  edges_in number (e ∷ es) are between timed =
      let both = and_parts (is_between (length graph.nodes) e) (are_between (length graph.nodes) es) between in
      let ends = and_parts (nat_lt e.source (length graph.nodes)) (nat_lt e.target (length graph.nodes)) both.0 in
      let zero_sum : number ≡ number + 0 = omega arith in
      let first : edge_of parts number ≡ Some e =
      edge_back e (ltb-true e.source (length graph.nodes) ends.0) (ltb-true e.target (length graph.nodes) ends.1) timed.0 number (ap (edge_nth graph.edges) zero_sum ∙ are 0 e refl) in
      let rest : each_from (edge_of parts) (number + 1) (length es) ≡ Some es =
      edges_in (number + 1) es (λ i d is. let sum : number + 1 + i ≡ number + suc i = omega arith in ap (edge_nth graph.edges) sum ∙ are (suc i) d is) both.1 timed.1 in
      rw (first, rest) refl

  pub taken_out : parts_in (document graph) ≡ Some graph
  taken_out =
      let nodes : each_from (node_by (name_at parts)) 0 (node_count parts) ≡ Some graph.nodes =
      ap (each_from (node_by (name_at parts)) 0) nodes_are ∙ nodes_back graph.nodes w.apart w.named in
      let edges : each_from (edge_of parts) 0 (edge_count parts) ≡ Some graph.edges =
      ap (each_from (edge_of parts) 0) edges_are ∙ edges_in 0 graph.edges (λ i e is. let sum : 0 + i ≡ i = omega arith in ap (edge_nth graph.edges) sum ∙ is) w.between w.times in
      rw (nodes, edges) refl
