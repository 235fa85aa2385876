-- The document of a graph.
use Rattle.std.specs.Prelude.{ℕ, ◌+◌, List, [], ◌∷◌, ◌++◌, codes, Bool, true, false, not, if◌then◌else◌}
use Rattle.std.specs.Prelude.{unwrap_or, slice_get}
use Rattle.std.specs.Fmt.{decimal}
use Rattle.serde_json.specs.Data.{Data, number, string, object, unsigned, Members, no_members, put}
use Rattle.serde_json.specs.Written.{compact_text}
use Rattle.trace_graph.specs.Graph.{Parts}
use Rattle.prov_export.specs.Types.{Node, Ask, Edge, Relation, Used, Generated, Derived, Informed}
use Rattle.prov_export.specs.Ids.{is_entity, node_id}

-- ---- nodes

abbrev pub place_value : ℕ → Data
place_value place = object (put (codes "ldv:place") (number (unsigned place)) no_members)

abbrev pub is_kind : Bool → Node → Bool
is_kind true node = is_entity node
is_kind false node = not (is_entity node)

-- a node that has the given place, if it is of the kind, beside those that are there
abbrev pub with_node : Bool → ℕ → Node → Members → Members
with_node kind place node ms = if is_kind kind node then put (node_id node) (place_value place) ms else ms

-- the nodes of a kind, the first of which has the given place
abbrev pub with_nodes : Bool → ℕ → List Node → Members → Members
with_nodes kind place [] ms = ms
with_nodes kind place (x ∷ xs) ms = with_nodes kind (place + 1) xs (with_node kind place x ms)

abbrev pub nodes_value : Bool → List Node → Data
nodes_value kind nodes = object (with_nodes kind 0 nodes no_members)

-- ---- edges

-- whether the source is an entity, and whether the target is
abbrev pub relation_of : Bool → Bool → Relation
relation_of true false = Used
relation_of false true = Generated
relation_of true true = Derived
relation_of false false = Informed

abbrev pub relation_name : Relation → List ℕ
relation_name Used = codes "used"
relation_name Generated = codes "wasGeneratedBy"
relation_name Derived = codes "wasDerivedFrom"
relation_name Informed = codes "wasInformedBy"

abbrev pub source_name : Relation → List ℕ
source_name Used = codes "prov:entity"
source_name Generated = codes "prov:activity"
source_name Derived = codes "prov:usedEntity"
source_name Informed = codes "prov:informant"

abbrev pub target_name : Relation → List ℕ
target_name Used = codes "prov:activity"
target_name Generated = codes "prov:entity"
target_name Derived = codes "prov:generatedEntity"
target_name Informed = codes "prov:informed"

abbrev pub is_relation : Relation → Relation → Bool
is_relation Used Used = true
is_relation Generated Generated = true
is_relation Derived Derived = true
is_relation Informed Informed = true
is_relation a b = false

-- an edge is between places of nodes
abbrev pub node_at : List Node → ℕ → Node
node_at nodes place = unwrap_or (slice_get nodes place) (Ask 0)

abbrev pub edge_relation : List Node → Edge → Relation
edge_relation nodes edge =
    relation_of (is_entity (node_at nodes edge.source)) (is_entity (node_at nodes edge.target))

abbrev pub edge_name : ℕ → List ℕ
edge_name n = codes "ldv:e" ++ decimal n

abbrev pub edge_members : Relation → List Node → Edge → Members
edge_members relation nodes edge =
    put (source_name relation) (string (node_id (node_at nodes edge.source)))
    (put (target_name relation) (string (node_id (node_at nodes edge.target)))
    (put (codes "ldv:last") (number (unsigned edge.last))
    (put (codes "ldv:first") (number (unsigned edge.first)) no_members)))

abbrev pub edge_value : Relation → List Node → Edge → Data
edge_value relation nodes edge = object (edge_members relation nodes edge)

-- an edge that has the given number, if it is of the relation, beside those that are there
abbrev pub with_edge : Relation → List Node → ℕ → Edge → Members → Members
with_edge relation nodes n edge ms =
    if is_relation relation (edge_relation nodes edge)
    then put (edge_name n) (edge_value relation nodes edge) ms else ms

-- the edges of a relation, the first of which has the given number
abbrev pub with_edges : Relation → List Node → ℕ → List Edge → Members → Members
with_edges relation nodes n [] ms = ms
with_edges relation nodes n (e ∷ es) ms =
    with_edges relation nodes (n + 1) es (with_edge relation nodes n e ms)

abbrev pub edges_value : Relation → Parts → Data
edges_value relation graph = object (with_edges relation graph.nodes 0 graph.edges no_members)

-- ---- all of it

-- the objects of all relations
abbrev pub all_edges : Parts → Members
all_edges graph =
    put (relation_name Used) (edges_value Used graph)
    (put (relation_name Derived) (edges_value Derived graph)
    (put (relation_name Generated) (edges_value Generated graph)
    (put (relation_name Informed) (edges_value Informed graph) no_members)))

abbrev pub document : Parts → Data
document graph = object
    (put (codes "activity") (nodes_value false graph.nodes)
    (put (codes "entity") (nodes_value true graph.nodes) (all_edges graph)))

abbrev pub prov_text : Parts → List ℕ
prov_text graph = compact_text (document graph)
