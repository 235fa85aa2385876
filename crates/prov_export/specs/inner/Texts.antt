-- The members of an object, with nodes or edges for their values, and their text.
use Rattle.std.specs.Prelude.{List, [], ◌∷◌, ◌++◌, ℕ, Bool, true, false, codes, String, string_bytes}
use Rattle.std.specs.List.{list_all}
use Rattle.std.specs.declared.alloc.Global.{Global}
use Rattle.json.specs.Print.{quoted}
use Rattle.serde_json.specs.Data.{Data, Members, no_members, member}
use Rattle.serde_json.specs.Written.{comma_if, compact_text}
use Rattle.trace_graph.specs.Graph.{Parts}
use Rattle.prov_export.specs.Types.{Used, Generated, Derived, Informed, Relation}
use Rattle.prov_export.specs.Document.{nodes_value, edges_value, relation_name}

-- each name with a value
abbrev pub members_by : {X : Type 0} → (X → Data) → List (String Global × X) → Members
members_by value [] = no_members
members_by value (e ∷ es) = member (string_bytes e.0) (value e.1) (members_by value es)

-- all that stand for values pass a test
abbrev pub all_pass : {X : Type 0} → (X → Bool) → List (String Global × X) → Bool
all_pass test es = list_all (λ e. test e.1) es

-- a name with its colon, after a comma where a member stands before
abbrev pub name_text : Bool → List ℕ → List ℕ
name_text later name = comma_if later ++ (quoted name ++ 58 ∷ [])

abbrev pub member_text : Bool → List ℕ → Data → List ℕ
member_text later name value = comma_if later ++ (quoted name ++ 58 ∷ compact_text value)

-- ---- the members of a document, after its bracket

abbrev pub all_nodes_text : Parts → List ℕ
all_nodes_text graph =
    member_text false (codes "activity") (nodes_value false graph.nodes)
    ++ member_text true (codes "entity") (nodes_value true graph.nodes)

abbrev pub edges_text : Relation → Parts → List ℕ
edges_text relation graph = member_text true (relation_name relation) (edges_value relation graph)

abbrev pub all_edges_text : Parts → List ℕ
all_edges_text graph =
    edges_text Used graph
    ++ (edges_text Derived graph ++ (edges_text Generated graph ++ edges_text Informed graph))
