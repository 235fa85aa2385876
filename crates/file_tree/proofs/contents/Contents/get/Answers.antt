use Rattle.std.proofs.Common.{◌∙◌, sym, ap, Some}
use Rattle.ldv_value.specs.FileState.{content_in}
use Rattle.file_tree.proofs.Seen.{seen_get}
use Rattle.file_tree.proofs.contents.Contents.get.Goals as goal

pub returns-in-Some : goal.returns-in-Some
returns-in-Some c = ap Some c.as_slice.ensures ∙ c.in-Some.ensures.value ∙ sym (seen_get c.self.inside.files c.args.path.now) ∙ ap (λ files. content_in files c.args.path.now) c.self.view_is

pub returns-in-None : goal.returns-in-None
returns-in-None c = c.in-None.ensures.value ∙ sym (seen_get c.self.inside.files c.args.path.now) ∙ ap (λ files. content_in files c.args.path.now) c.self.view_is
