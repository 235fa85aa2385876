-- The texts and numbers of the graph of a trace in memory fit their types.
use Rattle.std.proofs.Common.{◌≡◌, refl, ℕ, ◌-◌, ◌<◌, ◌≤◌, ◌^◌, List, [], ◌∷◌, ◌++◌, map, Bool, true, false, cond, arith}
use Rattle.std.specs.Prelude.{Option, Some, None, option_map, ◌==◌, nat_le}
use Rattle.std.specs.List.{flat_map, filter_map, cons_option, AllByRecursion}
use Rattle.std.proofs.lemmas.Bool.{leb-true}
use Rattle.ldv_value.proofs.Booleans.{and-first, and-second}
use Rattle.ldv_value.specs.Limits.{max_processes}
use Rattle.sql_model.specs.declared.need.Need.{Need}
use Rattle.run_model.specs.declared.event.Act.{Act}
use Rattle.run_model.specs.declared.event.Act.TheVariants as acts
use Rattle.run_model.specs.declared.event.Event.{Event}
use Rattle.run_model.specs.TypedPackage.{TypedNeed, TypedMember, TypedAct, TypedEvent}
use Rattle.run_model.specs.ValidTrace.{made_after, IsTrace}
use Rattle.trace_graph.specs.inner.Building.{made_fits}
use Rattle.trace_graph.specs.Graph.{same_node, ends, graph_of}
use Rattle.trace_graph.specs.Links.{Link, link, read_link, made_link, version_before, at_version, change_link}
use Rattle.trace_graph.specs.Links.{act_links, event_links, links_after, links_of}
use Rattle.trace_graph.proofs.Distinct.{all_distinct}
use Rattle.trace_graph.proofs.TraceLaws.{trace_fits}
use Rattle.prov_export.specs.Laws.{TypedNode}
use Rattle.prov_export.specs.Types.{Member, Row}

abbrev AreTyped : List Link → Type 0
AreTyped links = AllByRecursion (λ l. TypedNode l.source × TypedNode l.target) links

ends_typed : (links : List Link) → AreTyped links → AllByRecursion TypedNode (flat_map ends links)
ends_typed [] all = tt
ends_typed (l ∷ ls) all = (all.0.0, (all.0.1, ends_typed ls all.1))

typed_append : (xs ys : List Link) → AreTyped xs → AreTyped ys → AreTyped (xs ++ ys)
typed_append [] ys first second = second
typed_append (x ∷ xs) ys first second = (first.0, typed_append xs ys first.1 second)

reads_typed : (time statement : ℕ) (reads : List Need) → statement < 2 ^ 32 → AllByRecursion TypedNeed reads
    → AreTyped (map (read_link time statement) reads)
reads_typed time statement [] low all = tt
reads_typed time statement (r ∷ rs) low all = ((all.0, low), reads_typed time statement rs low all.1)

made_typed : (time statement : ℕ) (made : List Member) → statement < 2 ^ 32 → AllByRecursion TypedMember made
    → AreTyped (map (made_link time statement) made)
made_typed time statement [] low all = tt
made_typed time statement (m ∷ ms) low all = ((low, all.0), made_typed time statement ms low all.1)

before_low : (v w : ℕ) → version_before v ≡ Some w → v < 2 ^ 32 → w < 2 ^ 32
before_low v w is low = by (v == 0) is
  where
    by : (b : Bool) → cond b None (Some (v - 1)) ≡ Some w → w < 2 ^ 32
    by true none = cc
    by false some = let same : v - 1 ≡ w = cc in omega arith

changes_typed : (time : ℕ) (made : List Member) → AllByRecursion TypedMember made → AreTyped (filter_map (change_link time) made)
changes_typed time [] all = tt
changes_typed time (m ∷ ms) all =
    by (version_before m.version) (λ w is. before_low m.version w is all.0.1.1) (changes_typed time ms all.1)
  where
    by : (o : Option ℕ) → ((w : ℕ) → o ≡ Some w → w < 2 ^ 32) → AreTyped (filter_map (change_link time) ms)
        → AreTyped (cons_option (option_map (λ before. link time (Row before) (Row m)) (option_map (at_version m) o)) (filter_map (change_link time) ms))
    by None low rest = rest
    by (Some w) low rest = (((all.0.0, (all.0.1.0, low w refl)), all.0), rest)

act_typed : (time p made : ℕ) (act : Act) → p < 2 ^ 32 → made < 2 ^ 32 → TypedAct act → AreTyped (act_links time p made act)
act_typed time p made (acts.Started path) low next typed = ((typed, low), tt)
act_typed time p made (acts.Spawned path) low next typed = ((typed, next), ((typed, low), ((low, next), tt)))
act_typed time p made (acts.Unspawned path found) low next typed = ((typed, low), tt)
act_typed time p made (acts.OpenedRead path) low next typed = ((typed, low), tt)
act_typed time p made (acts.OpenedWrite path) low next typed = ((low, typed), tt)
act_typed time p made (acts.OpenedAppend path found) low next typed = ((low, typed), tt)
act_typed time p made (acts.OpenedNew path) low next typed = ((typed, low), ((low, typed), tt))
act_typed time p made (acts.Unopened path found) low next typed = ((typed, low), tt)
act_typed time p made (acts.Read path) low next typed = ((typed, low), tt)
act_typed time p made (acts.Wrote path) low next typed = ((low, typed), tt)
act_typed time p made (acts.Removed path) low next typed = ((typed, low), ((low, typed), tt))
act_typed time p made (acts.Tested path found) low next typed = ((typed, low), tt)
act_typed time p made (acts.Waited child) low next typed = ((typed, low), tt)
act_typed time p made (acts.Ended status) low next typed = tt
act_typed time p made (acts.Asked statement tables reads written) low next typed =
    let first : statement < 2 ^ 32 = typed.0 in (
      (low, first),
      (
        (first, first),
        (
          (first, low),
          typed_append (map (read_link time statement) reads) (map (made_link time statement) written ++ filter_map (change_link time) written)
              (reads_typed time statement reads first typed.1.1.0)
              (typed_append (map (made_link time statement) written) (filter_map (change_link time) written)
              (made_typed time statement written first typed.1.1.1) (changes_typed time written typed.1.1.1)),
        ),
      ),
    )

events_typed : (made : ℕ) (es : List Event) → made < 2 ^ 32 → made_fits made es ≡ true → AllByRecursion TypedEvent es → AreTyped (links_after made es)
events_typed made [] low fits all = tt
events_typed made (e ∷ es) low fits all =
    let within : made_after made e.act ≤ max_processes =
    leb-true (made_after made e.act) max_processes (and-first (nat_le (made_after made e.act) max_processes) (made_fits (made_after made e.act) es) fits) in
    typed_append (event_links made e) (links_after (made_after made e.act) es)
    (act_typed e.step e.process made e.act all.0.1.0 low all.0.1.1)
    (events_typed (made_after made e.act) es (omega (arith, within))
    (and-second (nat_le (made_after made e.act) max_processes) (made_fits (made_after made e.act) es) fits) all.1)

pub nodes_typed : (events : List Event) → IsTrace events → AllByRecursion TypedEvent events → AllByRecursion TypedNode (graph_of events).nodes
nodes_typed events trace typed =
    all_distinct TypedNode same_node (flat_map ends (links_of events))
    (ends_typed (links_of events) (events_typed 1 events (omega arith) (trace_fits events trace) typed))
