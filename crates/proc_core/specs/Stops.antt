-- Who asks, and how a run stops.
use Rattle.std.specs.Prelude.{◌≡◌, length, false, Some}
use Rattle.run_model.specs.Core.{is_over}
use Rattle.run_model.specs.State.{State}
use Rattle.run_model.specs.declared.database.Asker.{Asker}
use Rattle.proc_core.specs.declared.machine.Machine.{Machine}
use Rattle.proc_core.specs.declared.process.SlotProcess.{SlotProcess}
use Rattle.proc_core.specs.declared.error.RunStop.{RunStop}
use Rattle.proc_core.specs.declared.error.RunStop.TheVariants as run_stop
use Rattle.proc_core.specs.declared.error.Stopped.{Stopped}
use Rattle.proc_core.specs.declared.error.Stopped.TheVariants.{Diverged, NoMemory}
use Rattle.proc_core.specs.declared.tell.Who.{Who}

abbrev pub asker_held : SlotProcess → Who → Machine → Asker
asker_held r who m = record {
  name = record { parts = r.name };
  number = who.number;
  step = who.step;
  statement = m.asked;
}

-- a stop names the process and how many replies it had
abbrev pub IsStop : Stopped → SlotProcess → Type 0
IsStop (Diverged process index) r = (process.parts ≡ r.name) × (index ≡ length r.replies)
IsStop NoMemory r = Unit {0}

-- a state in which the run has stopped so
abbrev pub HasStopped : {Db : Type 0} → Stopped → State Db → Type 0
HasStopped (Diverged process index) s =
    s.core.diverged ≡ Some (record { process = process.parts; index = index })
HasStopped NoMemory s = Unit {0}

abbrev pub HasRunStopped : {Db : Type 0} → RunStop → State Db → Type 0
HasRunStopped run_stop.NotEnded s = is_over s.core ≡ false
HasRunStopped (run_stop.Diverged process index) s =
    s.core.diverged ≡ Some (record { process = process.parts; index = index })
HasRunStopped run_stop.NoMemory s = Unit {0}
