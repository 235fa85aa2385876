use Rattle.std.proofs.Common.{◌∙◌, sym, ap, subst}
use Rattle.trace_graph.specs.Types.{Reply}
use Rattle.trace_graph.specs.Graph.{Parts}
use Rattle.trace_graph.specs.Links.{read_link}
use Rattle.trace_graph.specs.inner.Building.{parts_of, with_noted, IsAt}
use Rattle.trace_graph.specs.Lent.{node_of}
use Rattle.trace_graph.proofs.KnownPlaces.{at_more, to_known}
use Rattle.trace_graph.proofs.building.Building.link_read.Goals as goal

pub returns-clause-parts : goal.returns-clause-parts
returns-clause-parts c =
    c.in_ok-note_link.ensures
    ∙ ap (λ (p : Parts). with_noted p c.in_ok-source.source c.args.reply c.args.time) c.in_ok-source.ensures.parts
    ∙ to_known (parts_of c.args.self.now) (read_link c.args.time c.args.statement c.args.need.now) (node_of c.lent_row-key.result)
    c.in_ok-source.source c.args.reply c.lent_row-key.ensures c.in_ok-source.ensures.place c.requires.place

pub returns-clause-reply : goal.returns-clause-reply
returns-clause-reply c =
    subst (λ (p : Parts). IsAt p.nodes (Reply c.args.statement) c.args.reply)
    (sym (c.in_ok-note_link.ensures
    ∙ ap (λ (p : Parts). with_noted p c.in_ok-source.source c.args.reply c.args.time) c.in_ok-source.ensures.parts))
    (at_more (parts_of c.args.self.now).nodes (Reply c.args.statement) (node_of c.lent_row-key.result) c.args.reply c.requires.place)
