use Rattle.std.proofs.Common.{◌≡◌, ◌++◌, take}
use Rattle.std.specs.List.{flat_map}
use Rattle.ldv_value.specs.Shown.{value_text}
use Rattle.proc_core.specs.inner.Slots.{slot_values}
use Rattle.proc_core.proofs.instructions.variables.append_operands.Given as goal

abbrev pub invariant-loop-operand : goal.invariant-loop-operand
invariant-loop-operand l = l.to ≡ l.fn.to ++ flat_map value_text (slot_values l.process (take l.operand-index l.operand-items))
