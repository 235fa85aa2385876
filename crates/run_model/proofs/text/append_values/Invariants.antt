use Rattle.std.proofs.Common.{◌≡◌, ◌++◌, take}
use Rattle.std.specs.List.{flat_map}
use Rattle.run_model.specs.OutcomeText.{value_text}
use Rattle.run_model.proofs.text.append_values.Given as goal

abbrev pub invariant-loop-value : goal.invariant-loop-value
invariant-loop-value l = l.to ≡ l.fn.to ++ flat_map value_text (take l.value-index l.values)
