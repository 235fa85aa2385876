use Rattle.std.proofs.Common.{◌≡◌, drop, IsTrue}
use Rattle.std.specs.List.{filter_map}
use Rattle.trace_graph.specs.inner.Building.{parts_of, with_links}
use Rattle.trace_graph.specs.Links.{change_link}
use Rattle.trace_graph.specs.NodeTexts.{made_texts, are_held}
use Rattle.trace_graph.proofs.building.Building.link_changes.Given as goal

abbrev pub invariant-loop-member : goal.invariant-loop-member
invariant-loop-member l = record {
  parts : with_links (parts_of l.self) (filter_map (change_link l.time) (drop l.member-index l.made))
      ≡ with_links (parts_of l.fn.self) (filter_map (change_link l.time) l.made);
  held : IsTrue (are_held l.texts.held.keys (made_texts (drop l.member-index l.made)));
}
