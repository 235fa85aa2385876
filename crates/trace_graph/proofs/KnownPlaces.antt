-- Links between nodes whose places are known.
use Rattle.std.proofs.Common.{◌≡◌, ◌∙◌, sym, ap, subst, refl, ℕ, Bool, List, [], ◌∷◌, ◌++◌}
use Rattle.std.specs.Prelude.{if◌then◌else◌}
use Rattle.trace_graph.specs.Types.{Node, Process, Ask, Reply}
use Rattle.trace_graph.specs.Links.{Link, statement_links}
use Rattle.trace_graph.specs.Graph.{Parts, same_node, place_in}
use Rattle.trace_graph.specs.inner.Building.{with_node, with_time, with_link, with_links, with_place}
use Rattle.trace_graph.specs.inner.Building.{with_noted, IsAt}
use Rattle.trace_graph.proofs.NodeLaws.{node_laws}
use Rattle.trace_graph.proofs.PlaceLaws.{place_more, place_own, any_more, any_own}

-- ---- one node

-- a node that is put is there
pub at_own : (nodes : List Node) (node : Node) (place : ℕ) → place ≡ place_in nodes node → IsAt (with_node nodes node) node place
at_own nodes node place is = (any_own node_laws nodes node, is ∙ sym (place_own node_laws nodes node))

-- it stays where it is
pub at_more : (nodes : List Node) (node other : Node) (place : ℕ) → IsAt nodes node place → IsAt (with_node nodes other) node place
at_more nodes node other place at =
    (any_more (same_node node) same_node nodes other at.0, at.1 ∙ sym (place_more (same_node node) same_node nodes other at.0))

-- it isn't put again
put_once : (nodes : List Node) (node : Node) (place : ℕ) → IsAt nodes node place → with_node nodes node ≡ nodes
put_once nodes node place at = ap (λ (b : Bool). if b then nodes else nodes ++ node ∷ []) at.0

-- ---- links

at_link : (parts : Parts) (l : Link) (node : Node) (place : ℕ) → IsAt parts.nodes node place → IsAt (with_link parts l).nodes node place
unfolding with_link
at_link parts l node place at =
    at_more (with_node parts.nodes l.source) node l.target place (at_more parts.nodes node l.source place at)

at_links : (parts : Parts) (ls : List Link) (node : Node) (place : ℕ) → IsAt parts.nodes node place → IsAt (with_links parts ls).nodes node place
at_links parts [] node place at = at
at_links parts (l ∷ ls) node place at = at_links (with_link parts l) ls node place (at_link parts l node place at)

pub at_after : (before after : Parts) (ls : List Link) (node : Node) (place : ℕ) → after ≡ with_links before ls → IsAt before.nodes node place
    → IsAt after.nodes node place
at_after before after ls node place is at = subst (λ (p : Parts). IsAt p.nodes node place) (sym is) (at_links before ls node place at)

-- a link to a node that is there
pub to_known : (parts : Parts) (l : Link) (node : Node) (source place : ℕ) → node ≡ l.source → source ≡ place_in parts.nodes node
    → IsAt parts.nodes l.target place → with_noted (with_place parts node) source place l.time ≡ with_link parts l
unfolding with_link
to_known parts l node source place is from at =
    let nodes : List Node = parts.nodes in
    let grown : List Node = with_node nodes l.source in
    let more : IsAt grown l.target place = at_more nodes l.target l.source place at in
    let first : source ≡ place_in nodes l.source = from ∙ ap (place_in nodes) is in
    let put : with_node nodes node ≡ with_node grown l.target = ap (with_node nodes) is ∙ sym (put_once grown l.target place more) in
    λ j. record { nodes = put j; edges = with_time (first j) (more.1 j) l.time parts.edges }

-- and from one
pub from_known : (parts : Parts) (l : Link) (node : Node) (source place : ℕ) → node ≡ l.target → place ≡ place_in parts.nodes node
    → IsAt parts.nodes l.source source → with_noted (with_place parts node) source place l.time ≡ with_link parts l
unfolding with_link
from_known parts l node source place is to at =
    let nodes : List Node = parts.nodes in
    let once : with_node nodes l.source ≡ nodes = put_once nodes l.source source at in
    let put : with_node nodes node ≡ with_node (with_node nodes l.source) l.target =
    ap (with_node nodes) is ∙ ap (λ (ns : List Node). with_node ns l.target) (sym once) in
    let last : place ≡ place_in (with_node nodes l.source) l.target =
    to ∙ ap (place_in nodes) is ∙ ap (λ (ns : List Node). place_in ns l.target) (sym once) in
    λ j. record { nodes = put j; edges = with_time (at.1 j) (last j) l.time parts.edges }

-- between two that are there
both_known : (parts : Parts) (l : Link) (source place : ℕ) → IsAt parts.nodes l.source source → IsAt parts.nodes l.target place
    → with_noted parts source place l.time ≡ with_link parts l
unfolding with_link
both_known parts l source place at there =
    let nodes : List Node = parts.nodes in
    let once : with_node nodes l.source ≡ nodes = put_once nodes l.source source at in
    let put : nodes ≡ with_node (with_node nodes l.source) l.target =
    sym (put_once nodes l.target place there) ∙ ap (λ (ns : List Node). with_node ns l.target) (sym once) in
    let last : place ≡ place_in (with_node nodes l.source) l.target = there.1 ∙ ap (λ (ns : List Node). place_in ns l.target) (sym once) in
    λ j. record { nodes = put j; edges = with_time (at.1 j) (last j) l.time parts.edges }

-- between two that are put
both_put : (parts : Parts) (l : Link) (source place : ℕ) → source ≡ place_in parts.nodes l.source
    → place ≡ place_in (with_node parts.nodes l.source) l.target
    → with_noted (with_place (with_place parts l.source) l.target) source place l.time ≡ with_link parts l
unfolding with_link
both_put parts l source place from to =
    λ j. record {
      nodes = with_node (with_node parts.nodes l.source) l.target;
      edges = with_time (from j) (to j) l.time parts.edges;
    }

-- ---- statements

-- the process, the statement and its reply
abbrev pub with_places : Parts → ℕ → ℕ → Parts
with_places parts process statement = with_place (with_place (with_place parts (Process process)) (Ask statement)) (Reply statement)

-- the links between them, by their places
abbrev pub with_notes_of : Parts → ℕ → ℕ → ℕ → ℕ → Parts
with_notes_of parts from ask reply time = with_noted (with_noted (with_noted parts from ask time) ask reply time) reply from time

pub ask_at : (parts : Parts) (process statement ask : ℕ) → ask ≡ place_in (with_place parts (Process process)).nodes (Ask statement)
    → IsAt (with_places parts process statement).nodes (Ask statement) ask
ask_at parts process statement ask is =
    let first : List Node = with_node parts.nodes (Process process) in
    at_more (with_node first (Ask statement)) (Ask statement) (Reply statement) ask (at_own first (Ask statement) ask is)

pub reply_at : (parts : Parts) (process statement reply : ℕ)
    → reply ≡ place_in (with_place (with_place parts (Process process)) (Ask statement)).nodes (Reply statement)
    → IsAt (with_places parts process statement).nodes (Reply statement) reply
reply_at parts process statement reply is =
    at_own (with_node (with_node parts.nodes (Process process)) (Ask statement)) (Reply statement) reply is

from_at : (parts : Parts) (process statement from : ℕ) → from ≡ place_in parts.nodes (Process process)
    → IsAt (with_places parts process statement).nodes (Process process) from
from_at parts process statement from is =
    let first : List Node = with_node parts.nodes (Process process) in
    at_more (with_node first (Ask statement)) (Process process) (Reply statement) from
    (at_more first (Process process) (Ask statement) from (at_own parts.nodes (Process process) from is))

pub statement_placed : (parts : Parts) (time process statement from ask reply : ℕ) → from ≡ place_in parts.nodes (Process process)
    → ask ≡ place_in (with_place parts (Process process)).nodes (Ask statement)
    → reply ≡ place_in (with_place (with_place parts (Process process)) (Ask statement)).nodes (Reply statement)
    → with_notes_of (with_places parts process statement) from ask reply time ≡ with_links parts (statement_links time process statement)
statement_placed parts time process statement from ask reply from_is ask_is reply_is =
    let first : List Node = with_node parts.nodes (Process process) in
    let asked : Parts = with_noted (with_place (with_place parts (Process process)) (Ask statement)) from ask time in
    let replied : Parts = with_noted (with_place asked (Reply statement)) ask reply time in
    let one : Link = record { source = Process process; target = Ask statement; time = time } in
    let two : Link = record { source = Ask statement; target = Reply statement; time = time } in
    let three : Link = record { source = Reply statement; target = Process process; time = time } in
    let by_one : asked ≡ with_link parts one = both_put parts one from ask from_is ask_is in
    let by_two : replied ≡ with_link asked two =
    from_known asked two (Reply statement) ask reply refl reply_is (at_own first (Ask statement) ask ask_is) in
    let by_three : with_noted replied reply from time ≡ with_link replied three =
    both_known replied three reply from (reply_at parts process statement reply reply_is) (from_at parts process statement from from_is) in
    by_three ∙ ap (λ (p : Parts). with_link p three) (by_two ∙ ap (λ (p : Parts). with_link p two) by_one)
