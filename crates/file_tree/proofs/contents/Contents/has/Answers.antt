use Rattle.std.proofs.Common.{◌∙◌, sym, ap, is_some}
use Rattle.ldv_value.specs.FileState.{content_in}
use Rattle.file_tree.proofs.Seen.{seen_get}
use Rattle.file_tree.proofs.contents.Contents.has.Goals as goal

pub returns : goal.returns
returns c = c.contains_key.ensures ∙ ap is_some (sym (seen_get c.self.inside.files c.args.path.now) ∙ ap (λ files. content_in files c.args.path.now) c.self.view_is)
