use Rattle.std.proofs.Common.{◌∙◌, ap, None}
use Rattle.std.proofs.lemmas.Map.Text.{btree_map_updates_text}
use Rattle.ldv_value.specs.FileState.{remove_file}
use Rattle.file_tree.proofs.Seen.{seen_remove}
use Rattle.file_tree.proofs.contents.Contents.remove.Goals as goal

pub returns : goal.returns
returns c =
    let old = c.self.inside.files in
    let new = c.remove.new.self in
    let path = c.args.path.now in
    seen_remove old new path (btree_map_updates_text path old new None c.remove.ensures.updates) ∙ ap (remove_file path) c.self.view_is
