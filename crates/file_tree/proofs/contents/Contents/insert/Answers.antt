use Rattle.std.proofs.Common.{◌∙◌, ap, Some, string_bytes}
use Rattle.std.proofs.lemmas.Map.Text.{btree_map_updates_text}
use Rattle.ldv_value.specs.FileState.{put_file}
use Rattle.file_tree.proofs.Seen.{seen_put}
use Rattle.file_tree.proofs.contents.Contents.insert.Goals as goal

pub returns-clause-ok : goal.returns-clause-ok
returns-clause-ok c =
    let old = c.self.inside.files in
    let new = c.insert.new.self in
    let key = string_bytes c.args.path in
    seen_put old new key c.args.bytes (btree_map_updates_text key old new (Some c.args.bytes) c.in_ok-insert.ensures.updates)
    ∙ ap (put_file key c.args.bytes) c.self.view_is
