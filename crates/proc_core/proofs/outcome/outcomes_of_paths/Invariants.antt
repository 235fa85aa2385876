use Rattle.std.proofs.Common.{◌≡◌, map, take}
use Rattle.run_model.specs.Outcome.{outcome_of_path}
use Rattle.proc_core.proofs.outcome.outcomes_of_paths.Given as goal

abbrev pub invariant-loop-path : goal.invariant-loop-path
invariant-loop-path l = l.outcomes ≡ map (outcome_of_path l.tree) (take l.path-index l.path-items)
