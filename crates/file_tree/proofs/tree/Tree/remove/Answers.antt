use Rattle.std.proofs.Common.{◌∙◌, sym, subst, IsTrue}
use Rattle.ldv_value.specs.FileState.{FileState, is_there, after_remove}
use Rattle.ldv_value.proofs.FileLaws.{state-after_remove}
use Rattle.file_tree.proofs.Seen.{tree_is, path_there}
use Rattle.file_tree.proofs.tree.Tree.remove.Goals as goal

pub invariant_of-self-then-exists : goal.invariant_of-self-then-exists
invariant_of-self-then-exists c =
    let path = c.args.path.now in
    let old : FileState = record { files = c.self.inside.files; touched = c.self.inside.touched } in
    let there : IsTrue (is_there old path) = subst (λ (s : FileState). IsTrue (is_there s path)) (sym c.self.view_is) (sym c.exists.ensures ∙ c.if-exists.true) in
    tree_is (after_remove old path) c.remove.new.self c.add.new.self c.remove.ensures c.in_ok-add.ensures.ok
    (state-after_remove old path c.self.invariant (path_there old path c.self.invariant there))
