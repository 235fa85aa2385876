-- The document of a graph is plain: its names rise, and its texts and numbers fit their types.
use Rattle.std.proofs.Common.{◌≡◌, ℕ, zero, suc, ◌+◌, ◌<◌, ◌≤◌, ◌^◌, List, [], ◌∷◌, ◌++◌, length, refl, ap, ◌∙◌, Bool, true, false, cond, arith, Ordering, Less, Equal, Greater, nat_cmp}
use Rattle.std.specs.Prelude.{codes, IsUtf8}
use Rattle.std.specs.List.{AllByRecursion}
use Rattle.std.specs.Fmt.{decimal}
use Rattle.std.specs.Cmp.Lexicographic.{slice_cmp}
use Rattle.std.specs.Ordering.{match_ordering, ordering_reverse}
use Rattle.std.proofs.lemmas.Cmp.{nat_list_cmp_total}
use Rattle.std.proofs.lemmas.Fmt.{IsAscii-decimal}
use Rattle.std.proofs.lemmas.Str.{IsUtf8-append, IsUtf8-from_ascii}
use Rattle.json.proofs.Printed.Utf8.{IsUtf8-are_ascii}
use Rattle.serde_json.specs.Data.{Data, number, string, unsigned, Members, no_members, member, put, depth, members_depth}
use Rattle.serde_json.specs.Read.{max_depth}
use Rattle.trace_graph.specs.Graph.{Parts}
use Rattle.prov_export.specs.Types.{Node, Path, Process, Row, Ask, Reply, Edge, Relation, Used, Generated, Derived, Informed}
use Rattle.prov_export.specs.Document.{place_value, is_kind, with_nodes, nodes_value, relation_name, source_name, target_name, is_relation, node_at, edge_relation, edge_name, edge_value, with_edges, edges_value, document}
use Rattle.prov_export.specs.Ids.{member_id, node_id}
use Rattle.prov_export.proofs.Plain.{AllAbove, Rises, IsPlain, ArePlain}
use Rattle.prov_export.proofs.Written.{IsNamed, AreNamed, HasText, HaveTexts, HasTimes, IsWritten}

-- ---- names that rise

abbrev name_cmp : List ℕ → List ℕ → Ordering
name_cmp = slice_cmp nat_cmp

reversed : (k l : List ℕ) (o : Ordering) → name_cmp k l ≡ o → name_cmp l k ≡ ordering_reverse o
reversed k l o is = nat_list_cmp_total.antisymm l k ∙ ap ordering_reverse is

greater_next : (m l k : List ℕ) → name_cmp m l ≡ Greater → name_cmp l k ≡ Greater → name_cmp m k ≡ Greater
greater_next m l k one two = reversed k m Less (nat_list_cmp_total.trans k l m (reversed l k Greater two) (reversed m l Greater one))

above_lower : (l k : List ℕ) (ms : Members) → name_cmp l k ≡ Greater → AllAbove l ms → AllAbove k ms
above_lower l k no_members above all = tt
above_lower l k (member m e ms) above all = (greater_next m l k all.0 above, above_lower l k ms above all.1)

put_above : (j k : List ℕ) (d : Data) (ms : Members) → name_cmp k j ≡ Greater → AllAbove j ms → AllAbove j (put k d ms)
put_above j k d no_members above all = (above, tt)
put_above j k d (member l e ms) above all = by (name_cmp k l) (put_above j k d ms above all.1)
  where
    by : (o : Ordering) → AllAbove j (put k d ms) → AllAbove j (match_ordering o (member k d (member l e ms)) (member l d ms) (member l e (put k d ms)))
    by Less more = (above, all)
    by Equal more = all
    by Greater more = (all.0, more)

put_rises : (k : List ℕ) (d : Data) (ms : Members) → Rises ms → Rises (put k d ms)
put_rises k d no_members rises = (tt, tt)
put_rises k d (member l e ms) rises = by (name_cmp k l) refl (put_rises k d ms rises.1)
  where
    by : (o : Ordering) → name_cmp k l ≡ o → Rises (put k d ms) → Rises (match_ordering o (member k d (member l e ms)) (member l d ms) (member l e (put k d ms)))
    by Less is more = let above : name_cmp l k ≡ Greater = reversed k l Less is in ((above, above_lower l k ms above rises.0), rises)
    by Equal is more = rises
    by Greater is more = (put_above l k d ms is rises.0, more)

put_plain : (k : List ℕ) (d : Data) (ms : Members) → IsUtf8 k → IsPlain d → ArePlain ms → ArePlain (put k d ms)
put_plain k d no_members name value plain = (name, (value, tt))
put_plain k d (member l e ms) name value plain = by (name_cmp k l) (put_plain k d ms name value plain.1.1)
  where
    by : (o : Ordering) → ArePlain (put k d ms) → ArePlain (match_ordering o (member k d (member l e ms)) (member l d ms) (member l e (put k d ms)))
    by Less more = (name, (value, plain))
    by Equal more = (plain.0, (value, plain.1.1))
    by Greater more = (plain.0, (plain.1.0, more))

put_depth : (k : List ℕ) (d : Data) (ms : Members) (n : ℕ) → depth d ≤ n → members_depth ms ≤ n → members_depth (put k d ms) ≤ n
put_depth k d no_members n one all = omega arith
put_depth k d (member l e ms) n one all = by (name_cmp k l) (put_depth k d ms n one (omega arith))
  where
    by : (o : Ordering) → members_depth (put k d ms) ≤ n → members_depth (match_ordering o (member k d (member l e ms)) (member l d ms) (member l e (put k d ms))) ≤ n
    by Less more = omega arith
    by Equal more = omega arith
    by Greater more = omega arith

-- an object that is plain and no deeper than a number
abbrev Fine : ℕ → Members → Type 0
Fine n ms = Rises ms × (ArePlain ms × (members_depth ms ≤ n))

fine_none : (n : ℕ) → Fine n no_members
fine_none n = (tt, (tt, omega arith))

fine_put : (n : ℕ) (k : List ℕ) (d : Data) (ms : Members) → IsUtf8 k → IsPlain d → depth d ≤ n → Fine n ms → Fine n (put k d ms)
fine_put n k d ms name value shallow fine = (put_rises k d ms fine.0, (put_plain k d ms name value fine.1.0, put_depth k d ms n shallow fine.1.1))

-- ---- ids

decimal_utf8 : (n : ℕ) → n < 2 ^ 64 → IsUtf8 (decimal n)
decimal_utf8 n small = IsUtf8-from_ascii (decimal n) (IsAscii-decimal n small)

id_utf8 : (node : Node) → IsNamed node → HasText node → IsUtf8 (node_id node)
id_utf8 (Path path) named text = IsUtf8-append (codes "ldv:path/") path (IsUtf8-are_ascii (codes "ldv:path/") refl) text
id_utf8 (Process n) named text = IsUtf8-append (codes "ldv:process/") (decimal n) (IsUtf8-are_ascii (codes "ldv:process/") refl) (decimal_utf8 n (omega arith))
id_utf8 (Row m) named text =
    let row : m.row < 2 ^ 32 = named.1 in
    let version : m.version < 2 ^ 32 = named.2 in
    let slash : IsUtf8 (47 ∷ []) = IsUtf8-are_ascii (47 ∷ []) refl in
    IsUtf8-append (codes "ldv:row/") (member_id m) (IsUtf8-are_ascii (codes "ldv:row/") refl)
    (IsUtf8-append m.table (47 ∷ (decimal m.row ++ 47 ∷ decimal m.version)) text
    (IsUtf8-append (47 ∷ []) (decimal m.row ++ 47 ∷ decimal m.version) slash
    (IsUtf8-append (decimal m.row) (47 ∷ decimal m.version) (decimal_utf8 m.row (omega arith))
    (IsUtf8-append (47 ∷ []) (decimal m.version) slash (decimal_utf8 m.version (omega arith))))))
id_utf8 (Ask n) named text = IsUtf8-append (codes "ldv:ask/") (decimal n) (IsUtf8-are_ascii (codes "ldv:ask/") refl) (decimal_utf8 n (omega arith))
id_utf8 (Reply n) named text = IsUtf8-append (codes "ldv:reply/") (decimal n) (IsUtf8-are_ascii (codes "ldv:reply/") refl) (decimal_utf8 n (omega arith))

-- ---- nodes

place_fine : (place : ℕ) → place < 2 ^ 64 → IsPlain (place_value place)
place_fine place small = ((tt, tt), (IsUtf8-are_ascii (codes "ldv:place") refl, (small, tt)))

nodes_fine : (kind : Bool) (place : ℕ) (xs : List Node) (ms : Members) → AreNamed xs → HaveTexts xs → place + length xs ≤ 2 ^ 64 → Fine 1 ms
    → Fine 1 (with_nodes kind place xs ms)
nodes_fine kind place [] ms named texts fits fine = fine
nodes_fine kind place (x ∷ xs) ms named texts fits fine =
    nodes_fine kind (place + 1) xs (cond (is_kind kind x) (put (node_id x) (place_value place) ms) ms) named.1 texts.1 (omega arith) (here (is_kind kind x))
  where
    here : (b : Bool) → Fine 1 (cond b (put (node_id x) (place_value place) ms) ms)
    here false = fine
    here true = fine_put 1 (node_id x) (place_value place) ms (id_utf8 x named.0 texts.0) (place_fine place (omega arith)) (omega arith) fine

-- ---- edges

named_at : (xs : List Node) (i : ℕ) → AreNamed xs → IsNamed (node_at xs i)
named_at [] i named = omega arith
named_at (x ∷ xs) zero named = named.0
named_at (x ∷ xs) (suc i) named = named_at xs i named.1

text_at : (xs : List Node) (i : ℕ) → HaveTexts xs → HasText (node_at xs i)
text_at [] i texts = tt
text_at (x ∷ xs) zero texts = texts.0
text_at (x ∷ xs) (suc i) texts = text_at xs i texts.1

module _ (nodes : List Node) (named : AreNamed nodes) (texts : HaveTexts nodes) where
  source_utf8 : (r : Relation) → IsUtf8 (source_name r)
  source_utf8 Used = IsUtf8-are_ascii (source_name Used) refl
  source_utf8 Generated = IsUtf8-are_ascii (source_name Generated) refl
  source_utf8 Derived = IsUtf8-are_ascii (source_name Derived) refl
  source_utf8 Informed = IsUtf8-are_ascii (source_name Informed) refl

  target_utf8 : (r : Relation) → IsUtf8 (target_name r)
  target_utf8 Used = IsUtf8-are_ascii (target_name Used) refl
  target_utf8 Generated = IsUtf8-are_ascii (target_name Generated) refl
  target_utf8 Derived = IsUtf8-are_ascii (target_name Derived) refl
  target_utf8 Informed = IsUtf8-are_ascii (target_name Informed) refl

  ends_fine : (r : Relation) (e : Edge) → HasTimes e
      → Fine 0 (put (source_name r) (string (node_id (node_at nodes e.source)))
      (put (target_name r) (string (node_id (node_at nodes e.target)))
      (put (codes "ldv:last") (number (unsigned e.last))
      (put (codes "ldv:first") (number (unsigned e.first)) no_members))))
  ends_fine r e times =
      let first : e.first < 2 ^ 64 = omega (arith, times.0) in
      let last : e.last < 2 ^ 64 = omega (arith, times.1) in
      let a : Members = put (codes "ldv:first") (number (unsigned e.first)) no_members in
      let b : Members = put (codes "ldv:last") (number (unsigned e.last)) a in
      let c : Members = put (target_name r) (string (node_id (node_at nodes e.target))) b in
      fine_put 0 (source_name r) (string (node_id (node_at nodes e.source))) c (source_utf8 r) (id_utf8 (node_at nodes e.source) (named_at nodes e.source named) (text_at nodes e.source texts)) (omega arith)
      (fine_put 0 (target_name r) (string (node_id (node_at nodes e.target))) b (target_utf8 r) (id_utf8 (node_at nodes e.target) (named_at nodes e.target named) (text_at nodes e.target texts)) (omega arith)
      (fine_put 0 (codes "ldv:last") (number (unsigned e.last)) a (IsUtf8-are_ascii (codes "ldv:last") refl) last (omega arith)
      (fine_put 0 (codes "ldv:first") (number (unsigned e.first)) no_members (IsUtf8-are_ascii (codes "ldv:first") refl) first (omega arith) (fine_none 0))))

  name_utf8 : (number : ℕ) → number < 2 ^ 64 → IsUtf8 (edge_name number)
  name_utf8 n small = IsUtf8-append (codes "ldv:e") (decimal n) (IsUtf8-are_ascii (codes "ldv:e") refl) (decimal_utf8 n small)

  edges_fine : (r : Relation) (n : ℕ) (es : List Edge) (ms : Members) → AllByRecursion HasTimes es → n + length es ≤ 2 ^ 64 → Fine 1 ms
      → Fine 1 (with_edges r nodes n es ms)
  edges_fine r n [] ms times fits fine = fine
  edges_fine r n (e ∷ es) ms times fits fine =
      edges_fine r (n + 1) es (cond (is_relation r (edge_relation nodes e)) (put (edge_name n) (edge_value r nodes e) ms) ms) times.1 (omega arith) (here (is_relation r (edge_relation nodes e)))
    where
      here : (b : Bool) → Fine 1 (cond b (put (edge_name n) (edge_value r nodes e) ms) ms)
      here false = fine
      here true =
          let ends = ends_fine r e times.0 in
          fine_put 1 (edge_name n) (edge_value r nodes e) ms (name_utf8 n (omega arith)) (ends.0, ends.1.0) (omega (arith, ends.1.1)) fine

-- ---- all of it

relation_utf8 : (r : Relation) → IsUtf8 (relation_name r)
relation_utf8 Used = IsUtf8-are_ascii (relation_name Used) refl
relation_utf8 Generated = IsUtf8-are_ascii (relation_name Generated) refl
relation_utf8 Derived = IsUtf8-are_ascii (relation_name Derived) refl
relation_utf8 Informed = IsUtf8-are_ascii (relation_name Informed) refl

module _ (graph : Parts) (w : IsWritten graph) where
  nodes_part : (kind : Bool) → Fine 1 (with_nodes kind 0 graph.nodes no_members)
  nodes_part kind = let few : length graph.nodes < 2 ^ 64 = w.nodes_fit in nodes_fine kind 0 graph.nodes no_members w.named w.texts (omega arith) (fine_none 1)

  edges_part : (r : Relation) → Fine 1 (with_edges r graph.nodes 0 graph.edges no_members)
  edges_part r = let few : length graph.edges < 2 ^ 64 = w.edges_fit in edges_fine graph.nodes w.named w.texts r 0 graph.edges no_members w.times (omega arith) (fine_none 1)

  with_relation : (r : Relation) (ms : Members) → Fine 2 ms → Fine 2 (put (relation_name r) (edges_value r graph) ms)
  with_relation r ms fine =
      let part = edges_part r in
      fine_put 2 (relation_name r) (edges_value r graph) ms (relation_utf8 r) (part.0, part.1.0) (omega (arith, part.1.1)) fine

  with_kind : (name : List ℕ) (kind : Bool) (ms : Members) → IsUtf8 name → Fine 2 ms → Fine 2 (put name (nodes_value kind graph.nodes) ms)
  with_kind name kind ms text fine =
      let part = nodes_part kind in
      fine_put 2 name (nodes_value kind graph.nodes) ms text (part.0, part.1.0) (omega (arith, part.1.1)) fine

  all_fine : Fine 2 (put (codes "activity") (nodes_value false graph.nodes)
      (put (codes "entity") (nodes_value true graph.nodes)
      (put (relation_name Used) (edges_value Used graph)
      (put (relation_name Derived) (edges_value Derived graph)
      (put (relation_name Generated) (edges_value Generated graph)
      (put (relation_name Informed) (edges_value Informed graph) no_members))))))
  all_fine =
      let f : Members = put (relation_name Informed) (edges_value Informed graph) no_members in
      let g : Members = put (relation_name Generated) (edges_value Generated graph) f in
      let d : Members = put (relation_name Derived) (edges_value Derived graph) g in
      let u : Members = put (relation_name Used) (edges_value Used graph) d in
      let e : Members = put (codes "entity") (nodes_value true graph.nodes) u in
      with_kind (codes "activity") false e (IsUtf8-are_ascii (codes "activity") refl)
      (with_kind (codes "entity") true u (IsUtf8-are_ascii (codes "entity") refl)
      (with_relation Used d (with_relation Derived g (with_relation Generated f (with_relation Informed no_members (fine_none 2))))))

  pub document_plain : IsPlain (document graph)
  document_plain = (all_fine.0, all_fine.1.0)

  pub document_shallow : depth (document graph) ≤ max_depth
  document_shallow = omega (arith, all_fine.1.1)
