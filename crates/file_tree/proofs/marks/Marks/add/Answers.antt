use Rattle.std.proofs.Common.{◌∙◌, sym, ap, true, not, string_bytes}
use Rattle.std.specs.Prelude.{bytes_eq}
use Rattle.std.specs.List.{list_any}
use Rattle.std.proofs.lemmas.Map.Text.{btree_set_updates_text}
use Rattle.ldv_value.specs.FileState.{add_path}
use Rattle.file_tree.specs.inner.Views.{paths_in, set_by_bytes}
use Rattle.file_tree.proofs.Seen.{seen_add, seen_has}
use Rattle.file_tree.proofs.marks.Marks.add.Goals as goal

pub returns-clause-ok : goal.returns-clause-ok
returns-clause-ok c =
    let old = c.self.inside.paths in
    let new = c.insert.new.self in
    let key = string_bytes c.in_ok-key.key in
    seen_add old new key (btree_set_updates_text key old new true c.in_ok-added.ensures.updates)
    ∙ ap (λ bs. add_path bs (paths_in (set_by_bytes old.keys))) c.in_ok-key.ensures.ok ∙ ap (add_path c.args.path.now) c.self.view_is

pub returns-clause-added : goal.returns-clause-added
returns-clause-added c =
    let old = c.self.inside.paths in
    let key = string_bytes c.in_ok-key.key in
    c.in_ok-added.ensures.added ∙ ap not (sym (seen_has old key) ∙ ap (λ bs. list_any (bytes_eq bs) (paths_in (set_by_bytes old.keys))) c.in_ok-key.ensures.ok
    ∙ ap (list_any (bytes_eq c.args.path.now)) c.self.view_is)
