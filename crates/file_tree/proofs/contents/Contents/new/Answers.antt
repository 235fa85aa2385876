use Rattle.std.proofs.Common.{◌∙◌, ap}
use Rattle.file_tree.specs.inner.Views.{files_in, map_by_bytes}
use Rattle.file_tree.proofs.Seen.{files_in-empty}
use Rattle.file_tree.proofs.contents.Contents.new.Goals as goal

pub returns : goal.returns
returns c = ap (λ entries. files_in (map_by_bytes entries)) c.new.ensures.empty ∙ files_in-empty
