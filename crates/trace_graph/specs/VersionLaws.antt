-- The row versions that the graph of a trace has, and those that statements made, by the events.
use Rattle.std.specs.Prelude.{◌≡◌, List, Bool, true, false, ◌||◌}
use Rattle.std.specs.List.{list_any}
use Rattle.std.specs.Option.{option_map_or}
use Rattle.run_model.specs.declared.event.Act.TheVariants as acts
use Rattle.trace_graph.specs.Types.{Member, Need, Act, Event, Node, Path, Process, Row, Ask, Reply}
use Rattle.trace_graph.specs.Links.{member_before}
use Rattle.trace_graph.specs.Graph.{same_member, same_node, graph_of}
use Rattle.trace_graph.specs.GraphLaws.{leads}

-- a statement read the version
abbrev pub is_read : Member → Need → Bool
is_read version need = same_member version need.member

-- a version was made of it
abbrev pub is_changed : Member → Member → Bool
is_changed version made = option_map_or (same_member version) (member_before made) false

-- an act makes the version
abbrev pub makes_version : Member → Act → Bool
makes_version version (acts.Started path) = false
makes_version version (acts.Spawned path) = false
makes_version version (acts.Unspawned path found) = false
makes_version version (acts.OpenedRead path) = false
makes_version version (acts.OpenedWrite path) = false
makes_version version (acts.OpenedAppend path found) = false
makes_version version (acts.OpenedNew path) = false
makes_version version (acts.Unopened path found) = false
makes_version version (acts.Read path) = false
makes_version version (acts.Wrote path) = false
makes_version version (acts.Removed path) = false
makes_version version (acts.Tested path found) = false
makes_version version (acts.Waited child) = false
makes_version version (acts.Ended status) = false
makes_version version (acts.Asked statement tables reads made) = list_any (same_member version) made

-- an act reads the version, makes it, or makes another of it
abbrev pub has_version : Member → Act → Bool
has_version version (acts.Started path) = false
has_version version (acts.Spawned path) = false
has_version version (acts.Unspawned path found) = false
has_version version (acts.OpenedRead path) = false
has_version version (acts.OpenedWrite path) = false
has_version version (acts.OpenedAppend path found) = false
has_version version (acts.OpenedNew path) = false
has_version version (acts.Unopened path found) = false
has_version version (acts.Read path) = false
has_version version (acts.Wrote path) = false
has_version version (acts.Removed path) = false
has_version version (acts.Tested path found) = false
has_version version (acts.Waited child) = false
has_version version (acts.Ended status) = false
has_version version (acts.Asked statement tables reads made) =
    list_any (is_read version) reads
    || (list_any (same_member version) made || list_any (is_changed version) made)

-- a version is in the graph exactly where an event has it
abbrev pub VersionsLaw : Type 0
VersionsLaw = (events : List Event) (version : Member)
    → list_any (same_node (Row version)) (graph_of events).nodes
    ≡ list_any (λ e. has_version version e.act) events

abbrev pub is_statement : Node → Bool
is_statement (Path path) = false
is_statement (Process process) = false
is_statement (Row member) = false
is_statement (Ask statement) = true
is_statement (Reply statement) = false

-- an edge from a statement leads to it exactly where an event makes it
abbrev pub MadeLaw : Type 0
MadeLaw = (events : List Event) (version : Member)
    → leads is_statement (Row version) (graph_of events)
    ≡ list_any (λ e. makes_version version e.act) events
