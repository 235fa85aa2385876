use Rattle.std.proofs.Common.{◌≡◌, drop, map, IsTrue}
use Rattle.trace_graph.specs.Types.{Reply}
use Rattle.trace_graph.specs.inner.Building.{parts_of, with_links, IsAt}
use Rattle.trace_graph.specs.Links.{read_link}
use Rattle.trace_graph.specs.NodeTexts.{read_texts, are_held}
use Rattle.trace_graph.proofs.building.Building.link_reads.Given as goal

abbrev pub invariant-loop-need : goal.invariant-loop-need
invariant-loop-need l = record {
  parts : with_links (parts_of l.self) (map (read_link l.time l.statement) (drop l.need-index l.reads))
      ≡ with_links (parts_of l.fn.self) (map (read_link l.time l.statement) l.reads);
  reply : IsAt (parts_of l.self).nodes (Reply l.statement) l.reply;
  held : IsTrue (are_held l.texts.held.keys (read_texts (drop l.need-index l.reads)));
}
