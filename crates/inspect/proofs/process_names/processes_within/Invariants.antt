use Rattle.std.proofs.Common.{◌≡◌, drop}
use Rattle.inspect.specs.inner.ChildRoom.{HaveRoom, all_births}
use Rattle.inspect.specs.ProcessNames.{named_with, processes_of}
use Rattle.inspect.proofs.process_names.processes_within.Given as goal

abbrev pub invariant-loop-event : goal.invariant-loop-event
invariant-loop-event l = record {
  named : named_with l.processes (drop l.event-index l.events) ≡ processes_of l.events;
  room : HaveRoom (all_births (drop l.event-index l.events)) l.processes;
}
