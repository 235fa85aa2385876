use Rattle.std.proofs.Common.{◌∙◌, sym, ap, subst, refl, IsTrue}
use Rattle.ldv_value.specs.FileState.{FileState, IsFileState, is_there, touch}
use Rattle.ldv_value.proofs.FileLaws.{state-touch, put-same}
use Rattle.file_tree.proofs.Seen.{tree_is}
use Rattle.file_tree.proofs.tree.Tree.keep.Goals as goal

pub invariant_of-self-then-exists : goal.invariant_of-self-then-exists
invariant_of-self-then-exists c =
    let path = c.args.path.now in
    let old : FileState = record { files = c.self.inside.files; touched = c.self.inside.touched } in
    tree_is (touch old path) c.self.inside.files c.add.new.self refl c.in_ok-add.ensures.ok (state-touch old path c.self.invariant c.requires)

pub returns-in_ok-add-clause-ok : goal.returns-in_ok-add-clause-ok
returns-in_ok-add-clause-ok c =
    let path = c.args.path.now in
    let there : IsTrue (is_there c.args.self.now path) = sym c.exists.ensures ∙ c.if-exists.true in
    let state : IsFileState c.args.self.now = subst IsFileState c.self.view_is c.self.invariant in
    (λ i. record { files = c.self.inside.files; touched = c.in_ok-add.ensures.ok i }) ∙ ap (λ (s : FileState). touch s path) (c.self.view_is ∙ sym (put-same c.args.self.now path state there))
