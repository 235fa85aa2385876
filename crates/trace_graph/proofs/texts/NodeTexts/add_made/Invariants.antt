use Rattle.std.proofs.Common.{◌≡◌, drop}
use Rattle.trace_graph.specs.NodeTexts.{made_texts, with_texts}
use Rattle.trace_graph.proofs.texts.NodeTexts.add_made.Given as goal

abbrev pub invariant-loop-member : goal.invariant-loop-member
invariant-loop-member l =
    with_texts l.self.held.keys (made_texts (drop l.member-index l.made))
    ≡ with_texts l.fn.self.held.keys (made_texts l.made)
