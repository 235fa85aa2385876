use Rattle.std.proofs.Common.{◌≡◌, ◌∙◌, sym, ap, subst, refl, List, length, IsTrue, IfOk}
use Rattle.trace_graph.specs.Types.{Event}
use Rattle.trace_graph.specs.Graph.{Parts, graph_of, are_between}
use Rattle.trace_graph.specs.inner.Building.{with_events, no_parts, made_fits}
use Rattle.trace_graph.specs.NodeTexts.{acts_held}
use Rattle.trace_graph.proofs.TraceLaws.{trace_fits}
use Rattle.trace_graph.proofs.TextLaws.{each_held}
use Rattle.trace_graph.proofs.GraphLaw.{built, built_between}
use Rattle.trace_graph.proofs.graph.Graph.of_events.Goals as goal

pub graph_over_texts-requires-clause-fits : goal.graph_over_texts-requires-clause-fits
graph_over_texts-requires-clause-fits c =
    subst (λ (es : List Event). IsTrue (made_fits 1 es)) (sym c.items.ensures) (trace_fits c.args.events.now c.requires)

pub graph_over_texts-requires-clause-held : goal.graph_over_texts-requires-clause-held
graph_over_texts-requires-clause-held c =
    let held : List (List _) = c.in_ok-texts.texts.held.keys in
    subst (λ (es : List Event). IsTrue (acts_held held es)) (sym c.items.ensures)
    (each_held held c.args.events.now c.in_ok-texts.ensures)

pub graph_over_texts-requires-clause-between : goal.graph_over_texts-requires-clause-between
graph_over_texts-requires-clause-between c =
    subst
    (λ (es : List Event). IsTrue (are_between (length (with_events no_parts 1 es).nodes) (with_events no_parts 1 es).edges))
    (sym c.items.ensures) (built_between (with_events no_parts 1 c.args.events.now) c.args.events.now refl)

pub returns : goal.returns
returns c =
    let is : with_events no_parts 1 c.items.result.now ≡ graph_of c.args.events.now =
    ap (with_events no_parts 1) c.items.ensures ∙ built c.args.events.now in
    subst (λ (p : Parts). IfOk c.graph_over_texts.result (λ graph. graph ≡ p)) is c.graph_over_texts.ensures
