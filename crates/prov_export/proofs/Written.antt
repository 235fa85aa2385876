-- Facts about each graph that is written as a document.
use Rattle.std.proofs.Common.{◌≡◌, ◌∙◌, ◌<◌, ◌≤◌, ◌^◌, List, [], ◌∷◌, length, sym, ap, true, false, IsTrue, arith, inl, inr}
use Rattle.std.specs.Prelude.{Some, nat_le}
use Rattle.std.specs.List.{list_any, list_all, AllByRecursion}
use Rattle.std.specs.Str.{IsUtf8}
use Rattle.std.proofs.lemmas.Bool.{leb-true}
use Rattle.ldv_value.proofs.Booleans.{and-first, and-second, or-left, or-right, or-parts, not-true}
use Rattle.ldv_value.specs.Limits.{max_steps}
use Rattle.ldv_value.specs.Names.{path_test}
use Rattle.sql_model.specs.Keys.{repeats}
use Rattle.sql_model.specs.SqlNames.{sql_name_test}
use Rattle.run_model.specs.Between.{IsIn}
use Rattle.trace_graph.specs.Graph.{Parts, same_node, are_between}
use Rattle.trace_graph.specs.WellFormed.{node_rule, times_rule, IsWellFormed}
use Rattle.trace_graph.proofs.NodeLaws.{node_itself}
use Rattle.trace_graph.proofs.WellFormedParts.{nodes_differ, nodes_ruled, edges_between, edges_timed}
use Rattle.prov_export.specs.Types.{Node, Path, Process, Row, Ask, Reply, Edge}
use Rattle.prov_export.specs.Ids.{node_id, node_in}
use Rattle.prov_export.specs.Laws.{TypedNode, IsTypedGraph}

-- a path by the rule, a table with a name, both UTF-8, and numbers of four bytes
abbrev pub IsNamed : Node → Type 0
IsNamed (Path path) = IsTrue (path_test path) × IsUtf8 path
IsNamed (Process process) = process < 2 ^ 32
IsNamed (Row member) =
    IsTrue (sql_name_test member.table) × (member.row < 2 ^ 32) × (member.version < 2 ^ 32) × IsUtf8 member.table
IsNamed (Ask statement) = statement < 2 ^ 32
IsNamed (Reply statement) = statement < 2 ^ 32

-- so two nodes have different ids
abbrev pub IdLaw : Type 0
IdLaw = (node : Node) → IsNamed node → node_in (node_id node) ≡ Some node

-- nodes that differ
abbrev pub AreApart : List Node → Type 0
AreApart [] = Unit {0}
AreApart (x ∷ xs) = ((y : Node) → IsIn y xs → x ≡ y → ⊥) × AreApart xs

abbrev pub AreNamed : List Node → Type 0
AreNamed [] = Unit {0}
AreNamed (x ∷ xs) = IsNamed x × AreNamed xs

abbrev pub HasText : Node → Type 0
HasText (Path path) = IsUtf8 path
HasText (Process process) = Unit {0}
HasText (Row member) = IsUtf8 member.table
HasText (Ask statement) = Unit {0}
HasText (Reply statement) = Unit {0}

abbrev pub HaveTexts : List Node → Type 0
HaveTexts [] = Unit {0}
HaveTexts (x ∷ xs) = HasText x × HaveTexts xs

abbrev pub HasTimes : Edge → Type 0
HasTimes e = (e.first < 2 ^ 32) × (e.last < 2 ^ 32)

pub record IsWritten (graph : Parts) : Type 0 where
  pub apart : AreApart graph.nodes
  pub named : AreNamed graph.nodes
  pub texts : HaveTexts graph.nodes
  pub between : IsTrue (are_between (length graph.nodes) graph.edges)
  pub times : AllByRecursion HasTimes graph.edges
  pub nodes_fit : length graph.nodes < 2 ^ 64
  pub edges_fit : length graph.edges < 2 ^ 64

-- ---- a well-formed graph does

any_same : (x : Node) (xs : List Node) → IsIn x xs → list_any (same_node x) xs ≡ true
any_same x [] is = absurd is
any_same x (y ∷ ys) (inl same) = or-left (same_node x y) (list_any (same_node x) ys) (ap (same_node x) (sym same) ∙ node_itself x)
any_same x (y ∷ ys) (inr more) = or-right (same_node x y) (list_any (same_node x) ys) (any_same x ys more)

pub apart_from : (xs : List Node) → repeats same_node xs ≡ false → AreApart xs
apart_from [] once = tt
apart_from (x ∷ xs) once =
    let parts = or-parts (list_any (same_node x) xs) (repeats same_node xs) once in (
      λ y is same. let never : true ≡ false = sym (any_same y xs is) ∙ ap (λ (z : Node). list_any (same_node z) xs) (sym same) ∙ parts.0 in cc,
      apart_from xs parts.1,
    )

named_from : (x : Node) → node_rule x ≡ true → TypedNode x → IsNamed x
named_from (Path path) rule typed = (rule, typed)
named_from (Process process) rule typed = typed
named_from (Row member) rule typed = (rule, typed.1.0, typed.1.1, typed.0)
named_from (Ask statement) rule typed = typed
named_from (Reply statement) rule typed = typed

pub all_named : (xs : List Node) → list_all node_rule xs ≡ true → AllByRecursion TypedNode xs → AreNamed xs
all_named [] rules typed = tt
all_named (x ∷ xs) rules typed = (
  named_from x (and-first (node_rule x) (list_all node_rule xs) rules) typed.0,
  all_named xs (and-second (node_rule x) (list_all node_rule xs) rules) typed.1,
)

text_from : (x : Node) → TypedNode x → HasText x
text_from (Path path) typed = typed
text_from (Process process) typed = tt
text_from (Row member) typed = typed.0
text_from (Ask statement) typed = tt
text_from (Reply statement) typed = tt

all_texts : (xs : List Node) → AllByRecursion TypedNode xs → HaveTexts xs
all_texts [] typed = tt
all_texts (x ∷ xs) typed = (text_from x typed.0, all_texts xs typed.1)

times_from : (e : Edge) → times_rule e ≡ true → HasTimes e
times_from e rule =
    let rises : e.first ≤ e.last = leb-true e.first e.last (and-first (nat_le e.first e.last) (nat_le e.last max_steps) rule) in
    let low : e.last ≤ max_steps = leb-true e.last max_steps (and-second (nat_le e.first e.last) (nat_le e.last max_steps) rule) in
    (omega arith, omega arith)

all_times : (es : List Edge) → list_all times_rule es ≡ true → AllByRecursion HasTimes es
all_times [] rules = tt
all_times (e ∷ es) rules = (
  times_from e (and-first (times_rule e) (list_all times_rule es) rules),
  all_times es (and-second (times_rule e) (list_all times_rule es) rules),
)

pub written : (graph : Parts) → IsTypedGraph graph → IsWellFormed graph → IsWritten graph
written graph typed formed = record {
  apart = apart_from graph.nodes (not-true (repeats same_node graph.nodes) (nodes_differ graph formed));
  named = all_named graph.nodes (nodes_ruled graph formed) typed.nodes;
  texts = all_texts graph.nodes typed.nodes;
  between = edges_between graph formed;
  times = all_times graph.edges (edges_timed graph formed);
  nodes_fit = typed.nodes_fit;
  edges_fit = typed.edges_fit;
}
