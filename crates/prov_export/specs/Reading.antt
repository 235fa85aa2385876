-- How a document is read: the nodes and edges are taken out of it, written anew, and compared.
use Rattle.std.specs.Prelude.{ℕ, zero, suc, ◌+◌, List, [], ◌∷◌, Bool, false, ◌&&◌, ◌==◌, nat_le, bytes_eq}
use Rattle.std.specs.Prelude.{if◌then◌else◌, Option, Some, None, option_and_then, codes}
use Rattle.std.specs.Option.{option_or}
use Rattle.ldv_value.specs.Options.{◌>>=◌}
use Rattle.serde_json.specs.Data.{Data, Members, no_members, member}
use Rattle.serde_json.specs.Events.{members_len}
use Rattle.serde_json.specs.Find.{get, get_member, as_object, as_number, as_str, as_u64}
use Rattle.json_bytes.specs.Reading.{json_of}
use Rattle.trace_graph.specs.Graph.{Parts}
use Rattle.trace_graph.specs.WellFormed.{is_well_formed}
use Rattle.prov_export.specs.Types.{Node, Edge, Relation, Used, Generated, Derived, Informed}
use Rattle.prov_export.specs.Document.{relation_name, source_name, target_name, edge_name, prov_text}
use Rattle.prov_export.specs.Ids.{node_in}

-- ---- values

abbrev pub count : Members → ℕ
count ms = members_len ms

abbrev pub members_at : List ℕ → Data → Option Members
members_at name d = option_and_then as_object (get name d)

abbrev pub number_at : List ℕ → Data → Option ℕ
number_at name d = option_and_then as_u64 (option_and_then as_number (get name d))

abbrev pub text_at : List ℕ → Data → Option (List ℕ)
text_at name d = option_and_then as_str (get name d)

-- a number of four bytes
abbrev pub time_of : ℕ → Option ℕ
time_of n = if nat_le n 4294967295 then Some n else None

abbrev pub time_at : List ℕ → Data → Option ℕ
time_at name d = option_and_then time_of (number_at name d)

-- what f gives for each number, from one on; none where it gives none for one of them
abbrev pub each_from : {X : Type 0} → (ℕ → Option X) → ℕ → ℕ → Option (List X)
each_from f first zero = Some []
each_from f first (suc n) = do
  x ← f first
  xs ← each_from f (first + 1) n
  Some (x ∷ xs)

-- ---- the objects of a document

pub record Objects : Type 0 where
  pub entities : Members
  pub activities : Members
  pub used : Members
  pub generated : Members
  pub derived : Members
  pub informed : Members

abbrev pub objects_of : Data → Option Objects
objects_of d = do
  entities ← members_at (codes "entity") d
  activities ← members_at (codes "activity") d
  used ← members_at (relation_name Used) d
  generated ← members_at (relation_name Generated) d
  derived ← members_at (relation_name Derived) d
  informed ← members_at (relation_name Informed) d
  Some (record {
    entities = entities;
    activities = activities;
    used = used;
    generated = generated;
    derived = derived;
    informed = informed;
  })

-- ---- nodes: for each place from 0 on the first member that has it

abbrev pub is_number : ℕ → Option ℕ → Bool
is_number n None = false
is_number n (Some m) = n == m

-- the name of a member, if it has the place
abbrev pub name_if : ℕ → List ℕ → Data → Option (List ℕ)
name_if place name d = if is_number place (number_at (codes "ldv:place") d) then Some name else None

abbrev pub named_at : ℕ → Members → Option (List ℕ)
named_at place no_members = None
named_at place (member k d ms) = option_or (name_if place k d) (named_at place ms)

abbrev pub name_at : Objects → ℕ → Option (List ℕ)
name_at o place = option_or (named_at place o.entities) (named_at place o.activities)

abbrev pub node_by : (ℕ → Option (List ℕ)) → ℕ → Option Node
node_by names place = option_and_then node_in (names place)

abbrev pub node_count : Objects → ℕ
node_count o = count o.entities + count o.activities

abbrev pub nodes_in : Objects → Option (List Node)
nodes_in o = each_from (node_by (name_at o)) 0 (node_count o)

-- ---- edges: for each number from 0 on the member of that name

abbrev pub place_of : Members → List ℕ → Option ℕ
place_of nodes id = option_and_then (number_at (codes "ldv:place")) (get_member id nodes)

abbrev pub place_at : Members → List ℕ → Data → Option ℕ
place_at nodes name d = option_and_then (place_of nodes) (text_at name d)

abbrev pub edge_in : Relation → Members → Members → Data → Option Edge
edge_in relation sources targets d = do
  source ← place_at sources (source_name relation) d
  target ← place_at targets (target_name relation) d
  first ← time_at (codes "ldv:first") d
  last ← time_at (codes "ldv:last") d
  Some (record { source = source; target = target; first = first; last = last })

abbrev pub edge_named : Relation → Members → Members → Members → List ℕ → Option Edge
edge_named relation sources targets edges name =
    option_and_then (edge_in relation sources targets) (get_member name edges)

-- of whichever relation
abbrev pub edge_by_name : Objects → List ℕ → Option Edge
edge_by_name o name =
    option_or (edge_named Used o.entities o.activities o.used name)
    (option_or (edge_named Generated o.activities o.entities o.generated name)
    (option_or (edge_named Derived o.entities o.entities o.derived name)
    (edge_named Informed o.activities o.activities o.informed name)))

abbrev pub edge_of : Objects → ℕ → Option Edge
edge_of o number = edge_by_name o (edge_name number)

abbrev pub edge_count : Objects → ℕ
edge_count o = count o.used + (count o.generated + (count o.derived + count o.informed))

abbrev pub edges_in : Objects → Option (List Edge)
edges_in o = each_from (edge_of o) 0 (edge_count o)

-- ---- all of it

abbrev pub parts_with : Objects → Option Parts
parts_with o = do
  nodes ← nodes_in o
  edges ← edges_in o
  Some (record { nodes = nodes; edges = edges })

abbrev pub parts_in : Data → Option Parts
parts_in d = objects_of d >>= parts_with

-- what is taken out of the bytes of a document
abbrev pub taken_from : List ℕ → Option Parts
taken_from bytes = json_of bytes >>= parts_in

-- a well-formed graph whose document has that text
abbrev pub written_as : List ℕ → Parts → Bool
written_as bytes graph = is_well_formed graph && bytes_eq (prov_text graph) bytes

abbrev pub kept_as : List ℕ → Parts → Option Parts
kept_as bytes graph = if written_as bytes graph then Some graph else None

-- the well-formed graph whose document the bytes are; none where they are that of no such graph
abbrev pub prov_reading : List ℕ → Option Parts
prov_reading bytes = taken_from bytes >>= kept_as bytes
