-- A trace that is being cut into runs, event by event.
use Rattle.std.specs.Prelude.{ℕ, List, ◌++◌, Option, Some, None}
use Rattle.run_model.specs.declared.event.Event.{Event}
use Rattle.package_codec.specs.declared.trace.cutting.Cut.{Cut}
use Rattle.package_codec.specs.Runs.{EventRun, Begun, runs_from, runs_of}

abbrev pub begun_count : Option Begun → ℕ
begun_count (Some b) = b.run.count
begun_count None = 0

abbrev pub runs_onto : Option Begun → List Event → List EventRun
runs_onto (Some b) events = runs_from b events
runs_onto None events = runs_of events

-- the runs that are over, and those that the run that has begun and further events make
abbrev pub cut_onto : Cut → List Event → List EventRun
cut_onto cut events = cut.done ++ runs_onto cut.begun events
