use Rattle.std.proofs.Common.{◌∙◌, ap, false, not}
use Rattle.std.specs.Prelude.{bytes_eq}
use Rattle.std.specs.List.{filter}
use Rattle.std.proofs.lemmas.Map.Text.{btree_set_updates_text}
use Rattle.file_tree.proofs.Seen.{seen_take}
use Rattle.file_tree.proofs.marks.Marks.remove.Goals as goal

pub returns : goal.returns
returns c =
    let old = c.self.inside.paths in
    let new = c.remove.new.self in
    let path = c.args.path.now in
    seen_take old new path (btree_set_updates_text path old new false c.remove.ensures.updates) ∙ ap (filter (λ p. not (bytes_eq path p))) c.self.view_is
