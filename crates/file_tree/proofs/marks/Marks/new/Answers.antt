use Rattle.std.proofs.Common.{◌∙◌, ap}
use Rattle.file_tree.specs.inner.Views.{paths_in, set_by_bytes}
use Rattle.file_tree.proofs.Seen.{paths_in-empty}
use Rattle.file_tree.proofs.marks.Marks.new.Goals as goal

pub returns : goal.returns
returns c = ap (λ keys. paths_in (set_by_bytes keys)) c.new.ensures.empty ∙ paths_in-empty
