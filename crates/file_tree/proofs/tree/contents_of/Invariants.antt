use Rattle.std.proofs.Common.{◌≡◌, vec_len}
use Rattle.file_tree.specs.Files.{files_from}
use Rattle.file_tree.proofs.Onto.{files_onto}
use Rattle.file_tree.proofs.tree.contents_of.Given as goal

abbrev pub invariant-loop-file : goal.invariant-loop-file
invariant-loop-file l = files_onto l.contents l.left.items ≡ files_from l.fn.files

abbrev pub decreases-loop-file : goal.decreases-loop-file
decreases-loop-file l = vec_len l.left
