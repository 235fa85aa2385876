use Rattle.ldv_value.proofs.ValidFiles.{files_are, files_sorted}
use Rattle.run_tests.proofs.replays.tree_of.Goals as goal

pub of_files-requires : goal.of_files-requires
of_files-requires c = files_are c.args.files c.requires

pub returns : goal.returns
returns c = c.of_files.ensures.sorted (files_sorted c.args.files c.requires)
