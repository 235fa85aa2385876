use Rattle.std.proofs.Common.{sym, subst, refl, ◌+◌, ◌≤◌, length, length-append, arith}
use Rattle.ldv_value.specs.Limits.{file_limit}
use Rattle.ldv_value.specs.FileState.{FileState, bytes_at, after_append}
use Rattle.ldv_value.proofs.FileLaws.{state-after_append}
use Rattle.file_tree.proofs.Seen.{tree_is}
use Rattle.file_tree.proofs.tree.Tree.extend.Goals as goal

pub invariant_of-self-2 : goal.invariant_of-self-2
invariant_of-self-2 c =
    let path = c.args.path.now in
    let more = c.args.bytes.now in
    let old : FileState = record { files = c.self.inside.files; touched = c.self.inside.touched } in
    let fits : length (bytes_at old path) + length more ≤ file_limit = subst (λ (s : FileState). length (bytes_at s path) + length more ≤ file_limit) (sym c.self.view_is) c.requires.fits in
    let kept = state-after_append old path more c.self.invariant c.requires.valid (omega (arith, length-append (bytes_at old path) more, fits)) in
    tree_is (after_append old path more) c.append.new.self c.self.inside.touched c.in_ok-append.ensures.ok refl kept
