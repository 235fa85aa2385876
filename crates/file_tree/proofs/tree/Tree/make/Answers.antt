use Rattle.std.proofs.Common.{ap, [], ◌∙◌, arith}
use Rattle.ldv_value.specs.FileState.{FileState, put_file, put, touch}
use Rattle.ldv_value.proofs.FileLaws.{state-put, state-touch}
use Rattle.file_tree.proofs.Seen.{tree_is}
use Rattle.file_tree.proofs.tree.Tree.make.Goals as goal

pub invariant_of-self-2 : goal.invariant_of-self-2
invariant_of-self-2 c =
    let path = c.args.path.now in
    let old : FileState = record { files = c.self.inside.files; touched = c.self.inside.touched } in
    let kept = state-touch (put old path []) path (state-put old path [] c.self.invariant (c.requires, omega arith)) c.requires in
    tree_is (touch (put old path []) path) c.put_touched.new.files c.put_touched.new.touched
    (c.in_ok-put_touched.ensures.files ∙ ap (λ bytes. put_file path bytes c.self.inside.files) c.new-empty.ensures) c.in_ok-put_touched.ensures.touched kept
