use Rattle.std.proofs.Common.{◌≡◌, ◌++◌, take}
use Rattle.std.specs.List.{flat_map}
use Rattle.inspect.specs.TraceReports.{event_line}
use Rattle.inspect.proofs.trace.append_events.Given as goal

abbrev pub invariant-loop-event : goal.invariant-loop-event
invariant-loop-event l = l.to ≡ l.fn.to ++ flat_map (event_line l.processes) (take l.event-index l.events)
