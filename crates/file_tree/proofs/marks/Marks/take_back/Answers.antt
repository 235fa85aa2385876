use Rattle.std.proofs.Common.{◌∙◌, sym}
use Rattle.file_tree.proofs.Seen.{undone_new, undone_old}
use Rattle.file_tree.proofs.marks.Marks.take_back.Goals as goal

pub returns-then-added : goal.returns-then-added
returns-then-added c = λ before sorted is added. c.remove.ensures ∙ undone_new c.args.self.now before c.args.path.now is (sym c.if-added.true ∙ added)

pub returns-else-added : goal.returns-else-added
returns-else-added c = λ before sorted is added. undone_old c.args.self.now before c.args.path.now sorted is (sym c.if-added.false ∙ added)
