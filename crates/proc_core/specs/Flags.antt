-- Whether each process of a run is runnable, and for which child it waits.
use Rattle.std.specs.Prelude.{ℕ, List, map, slice_get, Bool, Option, Some, None}
use Rattle.script_parse.specs.declared.script.Instr.TheVariants as instr
use Rattle.run_model.specs.Types.{Instr}
use Rattle.run_model.specs.Core.{lookup, Process}
use Rattle.run_model.specs.Schedule.{is_runnable}

-- in creation order
abbrev pub runnable_flags : List Process → List Bool
runnable_flags processes = map (is_runnable processes) processes

-- no instruction but `wait` waits
abbrev pub awaited_by : Option Instr → Process → Option ℕ
awaited_by (Some (instr.Wait to child)) p = lookup child p.children
awaited_by (Some other) p = None
awaited_by None p = None

-- the creation number of the child that a process waits for, or would wait for if that one hadn't ended
abbrev pub awaited_child : Process → Option ℕ
awaited_child p = awaited_by (slice_get p.script p.place) p
