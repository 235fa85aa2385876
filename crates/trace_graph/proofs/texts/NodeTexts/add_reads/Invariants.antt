use Rattle.std.proofs.Common.{◌≡◌, drop}
use Rattle.trace_graph.specs.NodeTexts.{read_texts, with_texts}
use Rattle.trace_graph.proofs.texts.NodeTexts.add_reads.Given as goal

abbrev pub invariant-loop-need : goal.invariant-loop-need
invariant-loop-need l =
    with_texts l.self.held.keys (read_texts (drop l.need-index l.reads))
    ≡ with_texts l.fn.self.held.keys (read_texts l.reads)
