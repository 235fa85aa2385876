use Rattle.std.proofs.Common.{◌≡◌, take}
use Rattle.proc_core.specs.inner.Slots.{slot_values}
use Rattle.proc_core.proofs.instructions.ask.values_of.Given as goal

abbrev pub invariant-loop-operand : goal.invariant-loop-operand
invariant-loop-operand l = l.values ≡ slot_values l.process (take l.operand-index l.operand-items)
