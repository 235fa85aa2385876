use Rattle.std.proofs.Common.{rules, ◌≡◌, ◌+◌, ap, length}
use Rattle.ready_set.specs.Ready.{ReadyView}
use Rattle.proc_core.proofs.Counts.{fewer_same, fewer_refreshed}
use Rattle.proc_core.proofs.Stepping.{Stands-move, tells, stops}
use Rattle.proc_core.proofs.run.make_step.Goals as goal

pub step_process-requires-clause-counted : goal.step_process-requires-clause-counted
step_process-requires-clause-counted g c =
    let scheduled = c.schedule.new.machine in
    let is = c.schedule.ensures in
    let items : scheduled.processes.items ≡ c.args.machine.now.processes.items = search rules in
    fewer_same c.args.machine.now scheduled items is.asked (ap (λ (set : ReadyView). length set.flags) is.ready)
    (c.args.steps + 1) c.requires.counted

pub returns-in-Err-clause-diverged : goal.returns-in-Err-clause-diverged
returns-in-Err-clause-diverged g c = λ s is.
    stops g.D.Database.base c.args.machine.now c.schedule.new.machine c.choose-number.result (g.D.Database.seen c.args.db.now) s c.requires.going is
    c.choose-number.ensures c.schedule.ensures.core c.schedule.ensures.ready c.schedule.ensures.parents
    c.in-Err.stop c.in-Err.ensures.diverged

pub returns-in-Ok-clause-state : goal.returns-in-Ok-clause-state
returns-in-Ok-clause-state g c = λ s is.
    Stands-move g.D.Database.base c.args.machine.now c.schedule.new.machine c.choose-number.result (g.D.Database.seen c.args.db.now) s c.requires.going is
    c.choose-number.ensures c.schedule.ensures.core c.schedule.ensures.ready c.schedule.ensures.parents
    c.step_process.new.machine c.refresh.new.machine (g.D.Database.seen c.step_process.new.db) c.in-Ok.ensures.state c.in-Ok.ensures.grows
    c.refresh.ensures.flags c.refresh.ensures.others

pub returns-in-Ok-clause-told : goal.returns-in-Ok-clause-told
returns-in-Ok-clause-told g c = λ s is.
    tells g.D.Database.base c.args.machine.now c.schedule.new.machine c.choose-number.result (g.D.Database.seen c.args.db.now) s c.requires.going is
    c.choose-number.ensures c.schedule.ensures.core c.schedule.ensures.ready c.schedule.ensures.parents
    _ g.T.Tracer.KEEPS (g.T.Tracer.events c.args.tracer.now) (g.T.Tracer.events c.step_process.new.tracer) c.in-Ok.ensures.told

pub returns-in-Ok-clause-asked : goal.returns-in-Ok-clause-asked
returns-in-Ok-clause-asked g c = c.in-Ok.ensures.latest

pub returns-in-Ok-clause-counted : goal.returns-in-Ok-clause-counted
returns-in-Ok-clause-counted g c =
    fewer_refreshed c.step_process.new.machine c.refresh.new.machine c.choose-number.result (c.args.steps + 1 + 1)
    c.refresh.ensures.flags c.refresh.ensures.others c.in-Ok.ensures.counted
