use Rattle.std.proofs.Common.{◌∙◌, sym, ap, subst}
use Rattle.trace_graph.specs.Types.{Ask}
use Rattle.trace_graph.specs.Graph.{Parts}
use Rattle.trace_graph.specs.Links.{made_link}
use Rattle.trace_graph.specs.inner.Building.{parts_of, with_noted, IsAt}
use Rattle.trace_graph.specs.Lent.{node_of}
use Rattle.trace_graph.proofs.KnownPlaces.{at_more, from_known}
use Rattle.trace_graph.proofs.building.Building.link_version.Goals as goal

pub returns-clause-parts : goal.returns-clause-parts
returns-clause-parts c =
    c.in_ok-note_link.ensures
    ∙ ap (λ (p : Parts). with_noted p c.args.ask c.in_ok-target.target c.args.time) c.in_ok-target.ensures.parts
    ∙ from_known (parts_of c.args.self.now) (made_link c.args.time c.args.statement c.args.member.now) (node_of c.lent_row-key.result)
    c.args.ask c.in_ok-target.target c.lent_row-key.ensures c.in_ok-target.ensures.place c.requires.place

pub returns-clause-statement : goal.returns-clause-statement
returns-clause-statement c =
    subst (λ (p : Parts). IsAt p.nodes (Ask c.args.statement) c.args.ask)
    (sym (c.in_ok-note_link.ensures
    ∙ ap (λ (p : Parts). with_noted p c.args.ask c.in_ok-target.target c.args.time) c.in_ok-target.ensures.parts))
    (at_more (parts_of c.args.self.now).nodes (Ask c.args.statement) (node_of c.lent_row-key.result) c.args.ask c.requires.place)
