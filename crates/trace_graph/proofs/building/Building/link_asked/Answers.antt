-- The statement keeps its place while reads are linked, and all texts are held.
use Rattle.std.proofs.Common.{map}
use Rattle.trace_graph.specs.Types.{Ask}
use Rattle.trace_graph.specs.Links.{read_link}
use Rattle.trace_graph.specs.inner.Building.{parts_of}
use Rattle.trace_graph.specs.NodeTexts.{read_texts, made_texts}
use Rattle.trace_graph.proofs.KnownPlaces.{at_after}
use Rattle.trace_graph.proofs.TextLaws.{first_held, others_held}
use Rattle.trace_graph.proofs.building.Building.link_asked.Goals as goal

pub link_reads-requires-clause-held : goal.link_reads-requires-clause-held
link_reads-requires-clause-held c =
    first_held c.args.texts.now.held.keys (read_texts c.args.reads.now) (made_texts c.args.made.now) c.requires

pub link_made-requires-clause-place : goal.link_made-requires-clause-place
link_made-requires-clause-place c =
    at_after (parts_of c.link_statement.new.self) (parts_of c.link_reads.new.self)
    (map (read_link c.args.event.now.step c.args.statement) c.args.reads.now) (Ask c.args.statement) c.in_ok-places.places.0
    c.in_ok-link_reads.ensures c.in_ok-places.ensures.statement

pub link_made-requires-clause-held : goal.link_made-requires-clause-held
link_made-requires-clause-held c =
    others_held c.args.texts.now.held.keys (read_texts c.args.reads.now) (made_texts c.args.made.now) c.requires

pub link_changes-requires : goal.link_changes-requires
link_changes-requires c =
    others_held c.args.texts.now.held.keys (read_texts c.args.reads.now) (made_texts c.args.made.now) c.requires
