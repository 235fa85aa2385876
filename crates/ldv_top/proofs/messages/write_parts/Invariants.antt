use Rattle.std.proofs.Common.{take}
use Rattle.std.specs.Prelude.{Ok}
use Rattle.run_model.specs.OutcomeText.{parts_text}
use Rattle.ldv_top.specs.Written.{Writes}
use Rattle.ldv_top.proofs.messages.write_parts.Given as goal

abbrev pub invariant-loop-part : goal.invariant-loop-part
invariant-loop-part g l =
    Writes g.K.Sink.taken g.K.Sink.faults l.fn.sink l.sink (parts_text (take l.part-index l.parts)) (Ok tt)
