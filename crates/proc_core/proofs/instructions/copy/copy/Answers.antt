use Rattle.run_model.specs.StepFiles.{allows_write}
use Rattle.proc_core.specs.inner.SlotFiles.{slot_open_for}
use Rattle.proc_core.proofs.OpenFiles.{copy_left}
use Rattle.proc_core.proofs.instructions.copy.copy.Goals as goal

pub returns-clause-left : goal.returns-clause-left
returns-clause-left g c =
    copy_left c.args.source c.args.process.now c.take_copy.new.process c.args.tree.now c.copy_at.new.tree
    (slot_open_for allows_write c.args.target c.args.process.now) c.in_ok-copying.copying c.in_ok-copying.ensures.copied
    c.take_copy.ensures.misused c.take_copy.ensures.copied
