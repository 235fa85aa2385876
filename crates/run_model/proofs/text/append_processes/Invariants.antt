use Rattle.std.proofs.Common.{◌≡◌, ◌++◌, take}
use Rattle.std.specs.List.{flat_map}
use Rattle.run_model.specs.OutcomeText.{process_text}
use Rattle.run_model.proofs.text.append_processes.Given as goal

abbrev pub invariant-loop-process : goal.invariant-loop-process
invariant-loop-process l = l.to ≡ l.fn.to ++ flat_map process_text (take l.process-index l.processes)
