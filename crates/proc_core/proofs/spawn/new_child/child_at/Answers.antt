use Rattle.std.proofs.Common.{[], ◌∷◌, ◌++◌, subst}
use Rattle.run_model.specs.Core.{new_process}
use Rattle.proc_core.specs.declared.process.SlotProcess.{SlotProcess}
use Rattle.proc_core.specs.Stands.{Holds}
use Rattle.proc_core.proofs.AtNumber.{item_same}
use Rattle.proc_core.proofs.spawn.new_child.child_at.Goals as goal

pub returns : goal.returns
returns c = λ r code script at there.
    subst (λ (p : SlotProcess). Holds code.scope c.args.index script c.in_ok-new_child.field-0 (new_process (p.name ++ p.spawned ∷ []) script c.args.arguments.now))
    (item_same c.args.machine.now.processes.items c.args.number c.index-parent.result.now c.requires.within c.index-parent.ensures r at)
    (c.in_ok-new_child.ensures code script there)
