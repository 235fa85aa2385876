-- A document is at least as long as its graph has nodes, and as edges.
use Rattle.std.proofs.Common.{◌≡◌, ◌∙◌, refl, sym, ap, ℕ, zero, suc, ◌+◌, ◌<◌, ◌≤◌, ◌^◌, List, [], ◌∷◌, ◌++◌, length, take, Bool, true, false, cond, arith, Ordering, Less, Equal, Greater, nat_cmp}
use Rattle.std.specs.Prelude.{None, codes, min}
use Rattle.std.specs.Cmp.Lexicographic.{slice_cmp}
use Rattle.std.specs.List.{AllByRecursion}
use Rattle.std.specs.Ordering.{match_ordering}
use Rattle.std.proofs.lemmas.List.{length-append, length-take}
use Rattle.json.specs.Print.{quoted}
use Rattle.ldv_value.proofs.Booleans.{not-true}
use Rattle.ldv_value.specs.Limits.{input_limit}
use Rattle.serde_json.specs.Data.{Data, object, Members, no_members, member, put}
use Rattle.serde_json.specs.Find.{get_member}
use Rattle.serde_json.specs.Written.{comma_if, compact_text, members_text}
use Rattle.serde_json.proofs.Views.{get_member-put_other}
use Rattle.sql_model.specs.Keys.{repeats}
use Rattle.trace_graph.specs.Graph.{Parts, same_node}
use Rattle.trace_graph.specs.WellFormed.{IsWellFormed}
use Rattle.trace_graph.proofs.WellFormedParts.{nodes_differ, nodes_ruled}
use Rattle.prov_export.specs.Types.{Node, Edge, Relation, Used, Generated, Derived, Informed}
use Rattle.prov_export.specs.Document.{nodes_value, with_nodes, is_relation, edge_relation, edge_name, edge_value, with_edges, edges_value, prov_text}
use Rattle.prov_export.specs.Laws.{TypedNode}
use Rattle.prov_export.specs.Reading.{count}
use Rattle.prov_export.proofs.Counts.{kinds_in, both_kinds, nodes_counted, relations_in, all_relations, put_more}
use Rattle.prov_export.proofs.Edges.{names_apart}
use Rattle.prov_export.proofs.Written.{AreApart, AreNamed, apart_from, all_named}

-- ---- the text of an object

-- how long the texts of all values are
abbrev total : Members → ℕ
total no_members = 0
total (member k d ms) = length (compact_text d) + total ms

member_long : (later : Bool) (k : List ℕ) (d : Data) (ms : Members)
    → length (compact_text d) + (length (members_text true ms) + 1) ≤ length (members_text later (member k d ms))
member_long later k d ms =
    let tail : List ℕ = compact_text d ++ members_text true ms in
    let one : length (comma_if later ++ (quoted k ++ 58 ∷ tail)) ≡ length (comma_if later) + length (quoted k ++ 58 ∷ tail) = length-append (comma_if later) (quoted k ++ 58 ∷ tail) in
    let two : length (quoted k ++ 58 ∷ tail) ≡ length (quoted k) + length (58 ∷ tail) = length-append (quoted k) (58 ∷ tail) in
    let three : length tail ≡ length (compact_text d) + length (members_text true ms) = length-append (compact_text d) (members_text true ms) in
    omega (arith, one, two, three)

texts_long : (later : Bool) (ms : Members) → total ms ≤ length (members_text later ms)
texts_long later no_members = omega arith
texts_long later (member k d ms) =
    let rest : total ms ≤ length (members_text true ms) = texts_long true ms in
    omega (arith, rest, member_long later k d ms)

members_long : (later : Bool) (ms : Members) → count ms ≤ length (members_text later ms)
members_long later no_members = omega arith
members_long later (member k d ms) =
    let rest : count ms ≤ length (members_text true ms) = members_long true ms in
    omega (arith, rest, member_long later k d ms)

object_long : (ms : Members) → count ms ≤ length (compact_text (object ms))
object_long ms =
    let inside : count ms ≤ length (members_text false ms) = members_long false ms in
    let long : length (compact_text (object ms)) ≡ suc (length (members_text false ms)) = refl in
    omega (arith, inside, long)

-- ---- the counts of a document

module _ (graph : Parts) where
  abbrev nodes_by : Bool → Members
  nodes_by kind = with_nodes kind 0 graph.nodes no_members

  abbrev edges_by : Relation → Members
  edges_by r = with_edges r graph.nodes 0 graph.edges no_members

  abbrev all_objects : Members
  all_objects =
      member (codes "activity") (nodes_value false graph.nodes)
      (member (codes "entity") (nodes_value true graph.nodes)
      (member (codes "used") (edges_value Used graph)
      (member (codes "wasDerivedFrom") (edges_value Derived graph)
      (member (codes "wasGeneratedBy") (edges_value Generated graph)
      (member (codes "wasInformedBy") (edges_value Informed graph) no_members)))))

  text_is : prov_text graph ≡ 123 ∷ members_text false all_objects
  text_is = refl

  counts_within : count (nodes_by false) + (count (nodes_by true) + (count (edges_by Used) + (count (edges_by Derived) + (count (edges_by Generated) + count (edges_by Informed)))))
      ≤ length (prov_text graph)
  counts_within =
      let all : length (compact_text (nodes_value false graph.nodes)) + (length (compact_text (nodes_value true graph.nodes)) + (length (compact_text (edges_value Used graph)) + (length (compact_text (edges_value Derived graph)) + (length (compact_text (edges_value Generated graph)) + (length (compact_text (edges_value Informed graph)) + 0)))))
      ≤ length (members_text false all_objects) = texts_long false all_objects in
      let long : length (prov_text graph) ≡ suc (length (members_text false all_objects)) = ap length text_is in
      let a : count (nodes_by false) ≤ length (compact_text (nodes_value false graph.nodes)) = object_long (nodes_by false) in
      let e : count (nodes_by true) ≤ length (compact_text (nodes_value true graph.nodes)) = object_long (nodes_by true) in
      let u : count (edges_by Used) ≤ length (compact_text (edges_value Used graph)) = object_long (edges_by Used) in
      let d : count (edges_by Derived) ≤ length (compact_text (edges_value Derived graph)) = object_long (edges_by Derived) in
      let g : count (edges_by Generated) ≤ length (compact_text (edges_value Generated graph)) = object_long (edges_by Generated) in
      let i : count (edges_by Informed) ≤ length (compact_text (edges_value Informed graph)) = object_long (edges_by Informed) in
      omega (arith, all, long, a, e, u, d, g, i)

-- ---- nodes

module _ (graph : Parts) (formed : IsWellFormed graph) (typed : AllByRecursion TypedNode graph.nodes) where
  apart : AreApart graph.nodes
  apart = apart_from graph.nodes (not-true (repeats same_node graph.nodes) (nodes_differ graph formed))

  named : AreNamed graph.nodes
  named = all_named graph.nodes (nodes_ruled graph formed) typed

  nodes_long : length graph.nodes ≤ length (prov_text graph)
  nodes_long =
      let one : count (nodes_by graph true) ≡ kinds_in true graph.nodes + 0 = nodes_counted true 0 graph.nodes no_members apart named (λ x is. refl) in
      let two : count (nodes_by graph false) ≡ kinds_in false graph.nodes + 0 = nodes_counted false 0 graph.nodes no_members apart named (λ x is. refl) in
      let both : kinds_in true graph.nodes + kinds_in false graph.nodes ≡ length graph.nodes = both_kinds graph.nodes in
      let within : count (nodes_by graph false) + (count (nodes_by graph true) + (count (edges_by graph Used) + (count (edges_by graph Derived) + (count (edges_by graph Generated) + count (edges_by graph Informed)))))
      ≤ length (prov_text graph) = counts_within graph in
      omega (arith, within, one, two, both)

  pub nodes_within : length (prov_text graph) ≤ input_limit → length graph.nodes < 2 ^ 64
  nodes_within short = omega (arith, nodes_long, short)

-- ---- edges

put_grows : (k : List ℕ) (d : Data) (ms : Members) → count ms ≤ count (put k d ms)
put_grows k d no_members = omega arith
put_grows k d (member l e ms) = by (slice_cmp nat_cmp k l) (put_grows k d ms)
  where
    by : (o : Ordering) → count ms ≤ count (put k d ms)
        → suc (count ms) ≤ count (match_ordering o (member k d (member l e ms)) (member l d ms) (member l e (put k d ms)))
    by Less more = omega arith
    by Equal more = omega arith
    by Greater more = omega arith

module _ (nodes : List Node) (r : Relation) where
  edges_grow : (n : ℕ) (es : List Edge) (ms : Members) → count ms ≤ count (with_edges r nodes n es ms)
  edges_grow n [] ms = omega arith
  edges_grow n (e ∷ es) ms =
      let next : Members = cond (is_relation r (edge_relation nodes e)) (put (edge_name n) (edge_value r nodes e) ms) ms in
      let one : count ms ≤ count next = by (is_relation r (edge_relation nodes e)) in
      let rest : count next ≤ count (with_edges r nodes (n + 1) es next) = edges_grow (n + 1) es next in
      omega (arith, one, rest)
    where
      by : (b : Bool) → count ms ≤ count (cond b (put (edge_name n) (edge_value r nodes e) ms) ms)
      by true = put_grows (edge_name n) (edge_value r nodes e) ms
      by false = omega arith

  -- of the first ones each is there
  edges_low : (n k : ℕ) (es : List Edge) (ms : Members) → n + k ≤ 2 ^ 64
      → ((m : ℕ) → n ≤ m → m < 2 ^ 64 → get_member (edge_name m) ms ≡ None)
      → relations_in nodes r (take k es) + count ms ≤ count (with_edges r nodes n es ms)
  edges_low n zero es ms fits none =
      let none_taken : relations_in nodes r (take 0 es) ≡ 0 = refl in
      let rest : count ms ≤ count (with_edges r nodes n es ms) = edges_grow n es ms in
      omega (arith, none_taken, rest)
  edges_low n (suc k) [] ms fits none =
      let none_taken : relations_in nodes r (take (suc k) []) ≡ 0 = refl in
      let all : count (with_edges r nodes n [] ms) ≡ count ms = refl in
      omega (arith, none_taken, all)
  edges_low n (suc k) (e ∷ es) ms fits none =
      by (is_relation r (edge_relation nodes e)) (λ ns. edges_low (n + 1) k es ns (omega arith))
    where
      by : (b : Bool)
          → ((ns : Members) → ((m : ℕ) → n + 1 ≤ m → m < 2 ^ 64 → get_member (edge_name m) ns ≡ None)
          → relations_in nodes r (take k es) + count ns ≤ count (with_edges r nodes (n + 1) es ns))
          → cond b (suc (relations_in nodes r (take k es))) (relations_in nodes r (take k es)) + count ms
          ≤ count (with_edges r nodes (n + 1) es (cond b (put (edge_name n) (edge_value r nodes e) ms) ms))
      by false later = later ms (λ m above small. none m (omega arith) small)
      by true later =
          let more : count (put (edge_name n) (edge_value r nodes e) ms) ≡ suc (count ms) = put_more (edge_name n) (edge_value r nodes e) ms (none n (omega arith) (omega arith)) in
          let rest : relations_in nodes r (take k es) + count (put (edge_name n) (edge_value r nodes e) ms) ≤ count (with_edges r nodes (n + 1) es (put (edge_name n) (edge_value r nodes e) ms)) =
          later (put (edge_name n) (edge_value r nodes e) ms)
          (λ m above small. get_member-put_other (edge_name m) (edge_name n) (edge_value r nodes e) ms (λ same. names_apart n m (omega arith) small (sym same)) ∙ none m (omega arith) small) in
          omega (arith, more, rest)

module _ (graph : Parts) where
  abbrev first_edges : List Edge
  first_edges = take 67108865 graph.edges

  some_there : (r : Relation) → relations_in graph.nodes r first_edges + 0 ≤ count (edges_by graph r)
  some_there r = edges_low graph.nodes r 0 67108865 graph.edges no_members (omega arith) (λ m above small. refl)

  pub edges_within : length (prov_text graph) ≤ input_limit → length graph.edges < 2 ^ 64
  edges_within short =
      let u = some_there Used in
      let g = some_there Generated in
      let d = some_there Derived in
      let i = some_there Informed in
      let all : relations_in graph.nodes Used first_edges + (relations_in graph.nodes Generated first_edges + (relations_in graph.nodes Derived first_edges + relations_in graph.nodes Informed first_edges)) ≡ length first_edges = all_relations graph.nodes first_edges in
      let taken : length first_edges ≡ min 67108865 (length graph.edges) = length-take 67108865 graph.edges in
      let within : count (nodes_by graph false) + (count (nodes_by graph true) + (count (edges_by graph Used) + (count (edges_by graph Derived) + (count (edges_by graph Generated) + count (edges_by graph Informed)))))
      ≤ length (prov_text graph) = counts_within graph in
      omega (arith, within, u, g, d, i, all, taken, short)
