use Rattle.std.proofs.Common.{◌∙◌, sym, ap}
use Rattle.ldv_value.specs.FileState.{put_file}
use Rattle.file_tree.proofs.Onto.{files_onto, files_onto_push, files_onto_empty}
use Rattle.file_tree.proofs.tree.contents_of.Goals as goal

pub loop-file-init : goal.loop-file-init
loop-file-init c = ap (files_onto c.new-contents.result) c.into_vec-left.ensures ∙ files_onto_empty c.new-contents.result c.args.files c.new-contents.ensures

pub loop-file-preserved : goal.loop-file-preserved
loop-file-preserved c =
    let before = c.loop-file.contents in
    let file = c.in-Some.file in
    let left = c.pop.new.self.items in
    ap (λ m. files_onto m left) (c.in_ok-insert.ensures.ok ∙ ap (λ path. put_file path file.content before) c.into_string.ensures)
    ∙ sym (files_onto_push before left file) ∙ ap (files_onto before) (sym c.in-Some.ensures.items) ∙ c.loop-file.invariant
