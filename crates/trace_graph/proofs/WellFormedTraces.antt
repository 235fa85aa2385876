-- The graph of a valid trace is well formed.
use Rattle.std.proofs.Common.{◌≡◌, ◌∙◌, ap, refl, arith, ℕ, ◌≤◌, Bool, true, false, not, cond, ◌||◌, List, [], ◌∷◌, ◌++◌, map, length, Option, Some, None, IsTrue}
use Rattle.std.specs.Prelude.{◌&&◌, ◌==◌, min, max, fold, nat_le, nat_lt, option_map}
use Rattle.std.specs.List.{filter, flat_map, filter_map, cons_option, list_any, list_all, AllByRecursion}
use Rattle.std.proofs.lemmas.Bool.{le-leb, leb-true, eqb-true}
use Rattle.std.proofs.lemmas.Slice.Eq.{bytes_eq-Decides}
use Rattle.ldv_value.proofs.ItemLists.{all_append}
use Rattle.ldv_value.proofs.Booleans.{and-first, and-second, and-from, or-from, false≢true}
use Rattle.ldv_value.specs.Limits.{max_steps, max_processes}
use Rattle.ldv_value.specs.Names.{path_test}
use Rattle.sql_model.specs.Keys.{repeats}
use Rattle.sql_model.specs.SqlNames.{sql_name_test}
use Rattle.run_model.specs.declared.event.Act.TheVariants as acts
use Rattle.run_model.specs.ValidTrace.{Progress, progress_after, act_rule, event_rule, made_after, follows, at_start}
use Rattle.run_model.specs.ValidTrace.{starts, starts_on, trace_test, named_rule, are_named, ValidTrace}
use Rattle.trace_graph.specs.Types.{Member, Need, Act, Event, Node, Row, Edge}
use Rattle.trace_graph.specs.Links.{Link, link, read_link, made_link, version_before, at_version, change_link}
use Rattle.trace_graph.specs.Links.{act_links, event_links, links_after, links_of}
use Rattle.trace_graph.specs.Graph.{same_node, same_ends, distinct_items, ends, nodes_of, place_in, times_of, edge_of, graph_by, are_between}
use Rattle.trace_graph.specs.WellFormed.{node_rule, same_places, times_rule, IsWellFormed, WellFormedLaw, EndLaw}
use Rattle.trace_graph.proofs.Distinct.{AllApart, distinct_apart, all_distinct}
use Rattle.trace_graph.proofs.NodeLaws.{node_laws}
use Rattle.trace_graph.proofs.PlaceLaws.{same_place}
use Rattle.trace_graph.proofs.EdgeLaws.{AreThere, all_there, source_there, target_there}
use Rattle.trace_graph.proofs.GraphLaw.{between}
use Rattle.trace_graph.proofs.GraphFacts.{below_least, above_greatest}

-- ---- lists

apart_once : {X : Type 0} (same : X → X → Bool) (xs : List X) → AllApart same xs → repeats same xs ≡ false
apart_once same [] apart = refl
apart_once same (x ∷ xs) apart = or-from (list_any (same x) xs) (repeats same xs) apart.0 (apart_once same xs apart.1)

abbrev pub AllTrue : {X : Type 0} → (X → Bool) → List X → Type 0
AllTrue p xs = AllByRecursion (λ x. p x ≡ true) xs

all_true : {X : Type 0} (p : X → Bool) (xs : List X) → list_all p xs ≡ true → AllTrue p xs
all_true p [] all = tt
all_true p (x ∷ xs) all = (and-first (p x) (list_all p xs) all, all_true p xs (and-second (p x) (list_all p xs) all))

all_from : {X : Type 0} (p : X → Bool) (xs : List X) → AllTrue p xs → list_all p xs ≡ true
all_from p [] all = refl
all_from p (x ∷ xs) all = and-from (p x) (list_all p xs) all.0 (all_from p xs all.1)

-- ---- links that are between nodes that meet their rules, at steps up to a limit

abbrev pub IsSound : ℕ → Link → Type 0
IsSound limit l = (l.time ≤ limit) × ((node_rule l.source ≡ true) × (node_rule l.target ≡ true))

abbrev pub AreSound : ℕ → List Link → Type 0
AreSound limit links = AllByRecursion (IsSound limit) links

ends_sound : (limit : ℕ) (links : List Link) → AreSound limit links → AllTrue node_rule (flat_map ends links)
ends_sound limit [] all = tt
ends_sound limit (l ∷ ls) all = (all.0.1.0, (all.0.1.1, ends_sound limit ls all.1))

-- ---- nodes

nodes_once : (links : List Link) → repeats same_node (nodes_of links) ≡ false
nodes_once links = apart_once same_node (nodes_of links) (distinct_apart same_node (flat_map ends links))

nodes_ruled : (limit : ℕ) (links : List Link) → AreSound limit links → list_all node_rule (nodes_of links) ≡ true
nodes_ruled limit links sound =
    all_from node_rule (nodes_of links)
    (all_distinct (λ n. node_rule n ≡ true) same_node (flat_map ends links) (ends_sound limit links sound))

-- ---- edges between the same places are of links between the same nodes

edges_same : (nodes : List Node) (links : List Link) (l x : Link) → AreThere nodes x
    → same_places (edge_of nodes links l) (edge_of nodes links x) ≡ same_ends l x
edges_same nodes links l x there =
    let sources : (place_in nodes l.source == place_in nodes x.source) ≡ same_node l.source x.source =
    same_place node_laws nodes l.source x.source (source_there nodes x there) in
    let targets : (place_in nodes l.target == place_in nodes x.target) ≡ same_node l.target x.target =
    same_place node_laws nodes l.target x.target (target_there nodes x there) in
    λ j. sources j && targets j

none_same : (nodes : List Node) (links : List Link) (l : Link) (xs : List Link) → AllByRecursion (AreThere nodes) xs
    → list_any (same_places (edge_of nodes links l)) (map (edge_of nodes links) xs) ≡ list_any (same_ends l) xs
none_same nodes links l [] there = refl
none_same nodes links l (x ∷ xs) there = λ j. edges_same nodes links l x there.0 j || none_same nodes links l xs there.1 j

edges_repeat : (nodes : List Node) (links xs : List Link) → AllByRecursion (AreThere nodes) xs
    → repeats same_places (map (edge_of nodes links) xs) ≡ repeats same_ends xs
edges_repeat nodes links [] there = refl
edges_repeat nodes links (x ∷ xs) there = λ j. none_same nodes links x xs there.1 j || edges_repeat nodes links xs there.1 j

edges_once : (links : List Link) → repeats same_places (graph_by links).edges ≡ false
edges_once links =
    edges_repeat (nodes_of links) links (distinct_items same_ends links)
    (all_distinct (AreThere (nodes_of links)) same_ends links (all_there links))
    ∙ apart_once same_ends (distinct_items same_ends links) (distinct_apart same_ends links)

-- ---- times

module _ (limit : ℕ) where
  abbrev AreSteps : List ℕ → Type 0
  AreSteps ts = AllByRecursion (λ t. t ≤ limit) ts

  greatest_within : (a : ℕ) (ts : List ℕ) → a ≤ limit → AreSteps ts → fold max a ts ≤ limit
  greatest_within a [] low all = low
  greatest_within a (t ∷ ts) low all =
      let here : t ≤ limit = all.0 in
      let both : max a t ≤ limit = omega arith in greatest_within (max a t) ts both all.1

  times_within : (p : Link → Bool) (links : List Link) → AreSound limit links → AreSteps (map (λ o. o.time) (filter p links))
  times_within p [] sound = tt
  times_within p (l ∷ ls) sound = by (p l) (times_within p ls sound.1)
    where
      by : (b : Bool) → AreSteps (map (λ o. o.time) (filter p ls)) → AreSteps (map (λ o. o.time) (cond b (l ∷ filter p ls) (filter p ls)))
      by true rest = (sound.0.0, rest)
      by false rest = rest

  edge_ends : (nodes : List Node) (links : List Link) (l : Link) → AreSound limit links → IsSound limit l → (edge_of nodes links l).last ≤ limit
  edge_ends nodes links l all sound = greatest_within l.time (times_of links l) sound.0 (times_within (same_ends l) links all)

  edges_end : (nodes : List Node) (links xs : List Link) → AreSound limit links → AreSound limit xs
      → AllByRecursion (λ (e : Edge). e.last ≤ limit) (map (edge_of nodes links) xs)
  edges_end nodes links [] all sound = tt
  edges_end nodes links (x ∷ xs) all sound = (edge_ends nodes links x all sound.0, edges_end nodes links xs all sound.1)

edge_timed : (nodes : List Node) (links : List Link) (l : Link) → AreSound max_steps links → IsSound max_steps l → times_rule (edge_of nodes links l) ≡ true
edge_timed nodes links l all sound =
    let ts = times_of links l in
    let least : fold min l.time ts ≤ l.time = below_least l.time ts in
    let greatest : l.time ≤ fold max l.time ts = above_greatest l.time ts in
    let rise : fold min l.time ts ≤ fold max l.time ts = omega (arith, least, greatest) in
    let low : fold max l.time ts ≤ max_steps = edge_ends max_steps nodes links l all sound in
    and-from (nat_le (fold min l.time ts) (fold max l.time ts)) (nat_le (fold max l.time ts) max_steps)
    (le-leb (fold min l.time ts) (fold max l.time ts) rise) (le-leb (fold max l.time ts) max_steps low)

edges_timed : (nodes : List Node) (links xs : List Link) → AreSound max_steps links → AreSound max_steps xs
    → list_all times_rule (map (edge_of nodes links) xs) ≡ true
edges_timed nodes links [] all sound = refl
edges_timed nodes links (x ∷ xs) all sound =
    and-from (times_rule (edge_of nodes links x)) (list_all times_rule (map (edge_of nodes links) xs))
    (edge_timed nodes links x all sound.0) (edges_timed nodes links xs all sound.1)

-- ---- graphs

pub links_formed : (links : List Link) → AreSound max_steps links → IsWellFormed (graph_by links)
links_formed links sound =
    let graph = graph_by links in
    let once : not (repeats same_places graph.edges) ≡ true = ap not (edges_once links) in
    let timed : list_all times_rule graph.edges ≡ true =
    edges_timed (nodes_of links) links (distinct_items same_ends links) sound (all_distinct (IsSound max_steps) same_ends links sound) in
    let edges : (not (repeats same_places graph.edges) && list_all times_rule graph.edges) ≡ true =
    and-from (not (repeats same_places graph.edges)) (list_all times_rule graph.edges) once timed in
    let placed : (are_between (length graph.nodes) graph.edges && (not (repeats same_places graph.edges) && list_all times_rule graph.edges)) ≡ true =
    and-from (are_between (length graph.nodes) graph.edges) (not (repeats same_places graph.edges) && list_all times_rule graph.edges) (between links) edges in
    and-from (not (repeats same_node graph.nodes))
    (list_all node_rule graph.nodes && (are_between (length graph.nodes) graph.edges && (not (repeats same_places graph.edges) && list_all times_rule graph.edges)))
    (ap not (nodes_once links))
    (and-from (list_all node_rule graph.nodes)
    (are_between (length graph.nodes) graph.edges && (not (repeats same_places graph.edges) && list_all times_rule graph.edges))
    (nodes_ruled max_steps links sound) placed)

pub links_end : (limit : ℕ) (links : List Link) → AreSound limit links → AllByRecursion (λ (e : Edge). e.last ≤ limit) (graph_by links).edges
links_end limit links sound =
    edges_end limit (nodes_of links) links (distinct_items same_ends links) sound (all_distinct (IsSound limit) same_ends links sound)

-- ---- acts

abbrev NamesAct : Act → Type 0
NamesAct (acts.Started path) = path_test path ≡ true
NamesAct (acts.Spawned path) = path_test path ≡ true
NamesAct (acts.Unspawned path found) = path_test path ≡ true
NamesAct (acts.OpenedRead path) = path_test path ≡ true
NamesAct (acts.OpenedWrite path) = path_test path ≡ true
NamesAct (acts.OpenedAppend path found) = path_test path ≡ true
NamesAct (acts.OpenedNew path) = path_test path ≡ true
NamesAct (acts.Unopened path found) = path_test path ≡ true
NamesAct (acts.Read path) = path_test path ≡ true
NamesAct (acts.Wrote path) = path_test path ≡ true
NamesAct (acts.Removed path) = path_test path ≡ true
NamesAct (acts.Tested path found) = path_test path ≡ true
NamesAct (acts.Waited child) = Unit {0}
NamesAct (acts.Ended status) = Unit {0}
NamesAct (acts.Asked statement tables reads made) =
    AllTrue (λ need. sql_name_test need.member.table) reads × AllTrue (λ m. sql_name_test m.table) made

act_names : (before : Progress) (act : Act) → act_rule before act ≡ true → named_rule act ≡ true → NamesAct act
act_names before (acts.Started path) rule named = absurd (false≢true rule)
act_names before (acts.Spawned path) rule named = and-first (path_test path) (nat_lt before.made max_processes) rule
act_names before (acts.Unspawned path found) rule named = rule
act_names before (acts.OpenedRead path) rule named = rule
act_names before (acts.OpenedWrite path) rule named = rule
act_names before (acts.OpenedAppend path found) rule named = rule
act_names before (acts.OpenedNew path) rule named = rule
act_names before (acts.Unopened path found) rule named = rule
act_names before (acts.Read path) rule named = rule
act_names before (acts.Wrote path) rule named = rule
act_names before (acts.Removed path) rule named = rule
act_names before (acts.Tested path found) rule named = rule
act_names before (acts.Waited child) rule named = tt
act_names before (acts.Ended status) rule named = tt
act_names before (acts.Asked statement tables reads made) rule named =
    let first = and-first (list_all (λ n. sql_name_test n.member.table) reads) (list_all (λ m. sql_name_test m.table) made) named in
    let second = and-second (list_all (λ n. sql_name_test n.member.table) reads) (list_all (λ m. sql_name_test m.table) made) named in
    (all_true (λ n. sql_name_test n.member.table) reads first, all_true (λ m. sql_name_test m.table) made second)

module _ (limit time : ℕ) (low : time ≤ limit) where
  reads_sound : (statement : ℕ) (reads : List Need) → AllTrue (λ need. sql_name_test need.member.table) reads
      → AreSound limit (map (read_link time statement) reads)
  reads_sound statement [] all = tt
  reads_sound statement (r ∷ rs) all = ((low, (all.0, refl)), reads_sound statement rs all.1)

  made_sound : (statement : ℕ) (made : List Member) → AllTrue (λ m. sql_name_test m.table) made
      → AreSound limit (map (made_link time statement) made)
  made_sound statement [] all = tt
  made_sound statement (m ∷ ms) all = ((low, (refl, all.0)), made_sound statement ms all.1)

  changes_sound : (made : List Member) → AllTrue (λ m. sql_name_test m.table) made
      → AreSound limit (filter_map (change_link time) made)
  changes_sound [] all = tt
  changes_sound (m ∷ ms) all = by (version_before m.version) (changes_sound ms all.1)
    where
      by : (o : Option ℕ) → AreSound limit (filter_map (change_link time) ms)
          → AreSound limit (cons_option (option_map (λ before. link time (Row before) (Row m)) (option_map (at_version m) o)) (filter_map (change_link time) ms))
      by None rest = rest
      by (Some w) rest = ((low, (all.0, all.0)), rest)

  act_sound : (p made : ℕ) (act : Act) → NamesAct act → AreSound limit (act_links time p made act)
  act_sound p made (acts.Started path) named = ((low, (named, refl)), tt)
  act_sound p made (acts.Spawned path) named = ((low, (named, refl)), ((low, (named, refl)), ((low, (refl, refl)), tt)))
  act_sound p made (acts.Unspawned path found) named = ((low, (named, refl)), tt)
  act_sound p made (acts.OpenedRead path) named = ((low, (named, refl)), tt)
  act_sound p made (acts.OpenedWrite path) named = ((low, (refl, named)), tt)
  act_sound p made (acts.OpenedAppend path found) named = ((low, (refl, named)), tt)
  act_sound p made (acts.OpenedNew path) named = ((low, (named, refl)), ((low, (refl, named)), tt))
  act_sound p made (acts.Unopened path found) named = ((low, (named, refl)), tt)
  act_sound p made (acts.Read path) named = ((low, (named, refl)), tt)
  act_sound p made (acts.Wrote path) named = ((low, (refl, named)), tt)
  act_sound p made (acts.Removed path) named = ((low, (named, refl)), ((low, (refl, named)), tt))
  act_sound p made (acts.Tested path found) named = ((low, (named, refl)), tt)
  act_sound p made (acts.Waited child) named = ((low, (refl, refl)), tt)
  act_sound p made (acts.Ended status) named = tt
  act_sound p made (acts.Asked statement tables reads written) named = (
    (low, (refl, refl)),
    (
      (low, (refl, refl)),
      (
        (low, (refl, refl)),
        all_append (IsSound limit) (map (read_link time statement) reads) (map (made_link time statement) written ++ filter_map (change_link time) written)
            (reads_sound statement reads named.0)
            (all_append (IsSound limit) (map (made_link time statement) written) (filter_map (change_link time) written)
            (made_sound statement written named.1) (changes_sound written named.1)),
      ),
    ),
  )

-- ---- events

events_sound : (steps : ℕ) (before : Progress) (made : ℕ) (es : List Event) → follows steps before es ≡ true → are_named es ≡ true
    → AreSound steps (links_after made es)
events_sound steps before made [] rules named = tt
events_sound steps before made (e ∷ es) rules named =
    let here = and-first (event_rule steps before e) (follows steps (progress_after before e) es) rules in
    let timed = and-first (nat_le before.step e.step && nat_le e.step steps && nat_lt e.process before.made) (act_rule before e.act) here in
    let within = and-first (nat_le before.step e.step && nat_le e.step steps) (nat_lt e.process before.made) timed in
    let last : e.step ≤ steps = leb-true e.step steps (and-second (nat_le before.step e.step) (nat_le e.step steps) within) in
    let rule = and-second (nat_le before.step e.step && nat_le e.step steps && nat_lt e.process before.made) (act_rule before e.act) here in
    let names = act_names before e.act rule (and-first (named_rule e.act) (are_named es) named) in
    all_append (IsSound steps) (event_links made e) (links_after (made_after made e.act) es)
    (act_sound steps e.step last e.process made e.act names)
    (events_sound steps (progress_after before e) (made_after made e.act) es
    (and-second (event_rule steps before e) (follows steps (progress_after before e) es) rules)
    (and-second (named_rule e.act) (are_named es) named))

start_names : (path : List ℕ) (act : Act) → path_test path ≡ true → starts_on path act ≡ true → NamesAct act
start_names path (acts.Started started) met on = ap path_test ((bytes_eq-Decides started path).0 on) ∙ met
start_names path (acts.Spawned other) met on = absurd (false≢true on)
start_names path (acts.Unspawned other found) met on = absurd (false≢true on)
start_names path (acts.OpenedRead other) met on = absurd (false≢true on)
start_names path (acts.OpenedWrite other) met on = absurd (false≢true on)
start_names path (acts.OpenedAppend other found) met on = absurd (false≢true on)
start_names path (acts.OpenedNew other) met on = absurd (false≢true on)
start_names path (acts.Unopened other found) met on = absurd (false≢true on)
start_names path (acts.Read other) met on = absurd (false≢true on)
start_names path (acts.Wrote other) met on = absurd (false≢true on)
start_names path (acts.Removed other) met on = absurd (false≢true on)
start_names path (acts.Tested other found) met on = absurd (false≢true on)
start_names path (acts.Waited child) met on = absurd (false≢true on)
start_names path (acts.Ended status) met on = absurd (false≢true on)
start_names path (acts.Asked statement tables reads made) met on = absurd (false≢true on)

trace_sound : (path : List ℕ) (steps : ℕ) (events : List Event) → path_test path ≡ true → trace_test path steps events ≡ true
    → are_named events ≡ true → AreSound steps (links_of events)
trace_sound path steps [] met valid named = tt
trace_sound path steps (e ∷ es) met valid named =
    let first = and-first (starts path e) (follows steps at_start es) valid in
    let rest = and-second (starts path e) (follows steps at_start es) valid in
    let begun = and-first (e.step == 0 && e.process == 0) (starts_on path e.act) first in
    let zero_step : e.step ≡ 0 = eqb-true e.step 0 (and-first (e.step == 0) (e.process == 0) begun) in
    let time : e.step ≤ steps = omega (arith, zero_step) in
    let on = and-second (e.step == 0 && e.process == 0) (starts_on path e.act) first in
    all_append (IsSound steps) (event_links 1 e) (links_after (made_after 1 e.act) es)
    (act_sound steps e.step time e.process 1 e.act (start_names path e.act met on))
    (events_sound steps at_start (made_after 1 e.act) es rest (and-second (named_rule e.act) (are_named es) named))

sound_later : (steps limit : ℕ) (links : List Link) → steps ≤ limit → AreSound steps links → AreSound limit links
sound_later steps limit [] low all = tt
sound_later steps limit (l ∷ ls) low all =
    let last : l.time ≤ steps = all.0.0 in ((omega (arith, last, low), all.0.1), sound_later steps limit ls low all.1)

valid_sound : (path : List ℕ) (steps : ℕ) (events : List Event) → IsTrue (path_test path) → ValidTrace path steps events → AreSound steps (links_of events)
valid_sound path steps events met valid =
    trace_sound path steps events met (and-first (trace_test path steps events) (are_named events) valid)
    (and-second (trace_test path steps events) (are_named events) valid)

pub well_formed_law : WellFormedLaw
well_formed_law path steps events met valid low =
    links_formed (links_of events) (sound_later steps max_steps (links_of events) low (valid_sound path steps events met valid))

pub end_law : EndLaw
end_law path steps events met valid = links_end steps (links_of events) (valid_sound path steps events met valid)
