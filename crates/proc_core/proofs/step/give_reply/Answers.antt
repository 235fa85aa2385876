use Rattle.std.proofs.Common.{refl, rules}
use Rattle.proc_core.specs.inner.SlotAsk.{slot_replied}
use Rattle.proc_core.proofs.Counts.{fewer_taken}
use Rattle.proc_core.proofs.Growing.{grows_kept}
use Rattle.proc_core.proofs.StepSame.{take_core}
use Rattle.proc_core.proofs.step.give_reply.Goals as goal

pub returns-clause-core : goal.returns-clause-core
returns-clause-core c = λ core t is says at a asks.
    take_core c.args.machine.now _ c.args.number c.args.cursor c.args.reply core t is says at a asks refl c.in_ok-take_reply_at.ensures refl refl refl refl (search rules)

pub returns-clause-grows : goal.returns-clause-grows
returns-clause-grows c =
    grows_kept c.args.machine.now _ c.args.number (slot_replied c.args.cursor c.args.reply) (search rules) c.in_ok-take_reply_at.ensures refl refl

pub returns-clause-counted : goal.returns-clause-counted
returns-clause-counted c =
    fewer_taken c.args.machine.now _ c.args.number c.args.cursor c.args.reply c.requires.within c.in_ok-take_reply_at.ensures (search rules) refl
