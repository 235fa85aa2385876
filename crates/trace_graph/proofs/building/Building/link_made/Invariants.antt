use Rattle.std.proofs.Common.{◌≡◌, drop, map, IsTrue}
use Rattle.trace_graph.specs.Types.{Ask}
use Rattle.trace_graph.specs.inner.Building.{parts_of, with_links, IsAt}
use Rattle.trace_graph.specs.Links.{made_link}
use Rattle.trace_graph.specs.NodeTexts.{made_texts, are_held}
use Rattle.trace_graph.proofs.building.Building.link_made.Given as goal

abbrev pub invariant-loop-member : goal.invariant-loop-member
invariant-loop-member l = record {
  parts : with_links (parts_of l.self) (map (made_link l.time l.statement) (drop l.member-index l.made))
      ≡ with_links (parts_of l.fn.self) (map (made_link l.time l.statement) l.made);
  statement : IsAt (parts_of l.self).nodes (Ask l.statement) l.ask;
  held : IsTrue (are_held l.texts.held.keys (made_texts (drop l.member-index l.made)));
}
