use Rattle.std.specs.List.{All}
use Rattle.ldv_value.specs.FileState.{IsFile}
use Rattle.library_tests.proofs.trees.files_of.Given as goal

abbrev pub invariant-loop-path : goal.invariant-loop-path
invariant-loop-path g l = All (λ f. IsFile f.path f.content) l.files
