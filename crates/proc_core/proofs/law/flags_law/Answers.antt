use Rattle.proc_core.proofs.FlagLaws.{flags_runnable, runnable-goes_on, ends, ends_under, wakes, spawns, new_runs}
use Rattle.proc_core.proofs.law.flags_law.Goals as goal

pub returns : goal.returns
returns c = record {
  runs = flags_runnable;
  goes_on = runnable-goes_on;
  ends = ends;
  ends_under = ends_under;
  wakes = wakes;
  spawns = spawns;
  new_runs = new_runs;
}
