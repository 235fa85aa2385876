use Rattle.ldv_value.specs.FileState.{initial_files}
use Rattle.ldv_value.proofs.FileLaws.{state-initial_files}
use Rattle.file_tree.specs.Files.{files_from}
use Rattle.file_tree.proofs.Seen.{tree_is, valid_from}
use Rattle.file_tree.proofs.tree.Tree.of_files.Goals as goal

pub invariant_of-result : goal.invariant_of-result
invariant_of-result c =
    tree_is (initial_files (files_from c.args.files)) c.in_ok-contents_of.field-0 c.new.result c.in_ok-contents_of.ensures c.new.ensures
    (state-initial_files (files_from c.args.files) (valid_from c.args.files c.requires))
