use Rattle.std.proofs.Common.{◌≡◌, ◌++◌, true}
use Rattle.std.specs.List.{list_all}
use Rattle.package_codec.specs.Runs.{is_run, events_in}
use Rattle.package_codec.proofs.trace.expanding.events_in.Given as goal

abbrev pub invariant-loop-run : goal.invariant-loop-run
invariant-loop-run l = record {
  due : l.events ++ events_in l.run-iterator.rest.items ≡ events_in l.fn.runs;
  good : list_all is_run l.run-iterator.rest.items ≡ true;
}
