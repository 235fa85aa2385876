use Rattle.std.proofs.Common.{◌≡◌, ◌+◌, ◌≤◌, []}
use Rattle.run_model.specs.Events.{events}
use Rattle.run_model.specs.Run.{run, steps}
use Rattle.run_model.specs.State.{State}
use Rattle.proc_core.specs.inner.Counts.{CountsBelow}
use Rattle.proc_core.specs.Running.{Stands}
use Rattle.proc_core.specs.Stands.{AppendsEvents}
use Rattle.proc_core.proofs.run.Run.to_end.Given as goal

abbrev pub invariant-loop-made : goal.invariant-loop-made
invariant-loop-made g l = record {
  state : (s : State g.D.Database.Db) → Stands l.fn.self.machine (g.D.Database.seen l.fn.self.db) s
      → Stands l.machine (g.D.Database.seen l.db) (run g.D.Database.base l._made [] s);
  told : (s : State g.D.Database.Db) → Stands l.fn.self.machine (g.D.Database.seen l.fn.self.db) s
      → AppendsEvents g.T.Tracer.KEEPS (g.T.Tracer.events l.fn.self.tracer) (g.T.Tracer.events l.tracer) (events g.D.Database.base l._made 1 [] s);
  made : (s : State g.D.Database.Db) → Stands l.fn.self.machine (g.D.Database.seen l.fn.self.db) s
      → steps g.D.Database.base l._made [] s ≡ l._made;
  steps : l.steps ≡ l._made;
  asked : g.D.Database.latest l.db ≤ l.steps;
  counted : CountsBelow (l.steps + 1) l.machine;
}
