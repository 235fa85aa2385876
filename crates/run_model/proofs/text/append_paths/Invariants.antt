use Rattle.std.proofs.Common.{◌≡◌, ◌++◌, take}
use Rattle.std.specs.List.{flat_map}
use Rattle.run_model.specs.OutcomeText.{path_text}
use Rattle.run_model.proofs.text.append_paths.Given as goal

abbrev pub invariant-loop-path : goal.invariant-loop-path
invariant-loop-path l = l.to ≡ l.fn.to ++ flat_map path_text (take l.path-index l.paths)
