-- The table of a package's own world after a step of its run.
use Rattle.std.specs.Prelude.{◌≡◌, ℕ, List, [], Bool, if◌then◌else◌, bytes_eq, nat_lt}
use Rattle.std.specs.Prelude.{Option, Some, None, Result, Ok, Err}
use Rattle.std.specs.List.{list_any}
use Rattle.sql_model.specs.Scope.{table_at}
use Rattle.run_model.specs.Package.{own_world}
use Rattle.run_model.specs.Run.{run}
use Rattle.run_model.specs.SqlDatabase.{sql_base}
use Rattle.run_model.specs.Start.{start_script, start_state}
use Rattle.run_model.specs.WorldRun.{ends_within, steps_by}
use Rattle.replay_db.specs.Types.{Included, Excluded, Instr, Mode, Package, Table, World}
use Rattle.replay_db.specs.declared.table.TableStop.{TableStop}
use Rattle.replay_db.specs.declared.table.TableStop.TheVariants.{NoTable, NotEnded, NoStep, NoMemory}

abbrev pub has_table : List ℕ → Package → Bool
has_table name p = list_any (λ table. bytes_eq table.name name) p.tables

-- ---- tables after a step

-- by the script that the world starts with
abbrev pub tables_after : ℕ → World → Option (List Instr) → List Table
tables_after step w None = []
tables_after step w (Some script) = (run sql_base step [] (start_state w script)).db.tables

abbrev pub table_after : ℕ → List ℕ → World → Option Table
table_after step name w = table_at name (tables_after step w (start_script w))

-- no run loses a table
abbrev pub stored_table : Option Table → Result Table TableStop
stored_table None = Err NoTable
stored_table (Some table) = Ok table

-- ---- what is due

-- of a run that has ended, or hasn't, and of its number of steps; the last is what stands after the step
abbrev pub table_verdict : Bool → ℕ → ℕ → Result Table TableStop → Result Table TableStop
table_verdict ended steps step found =
    if ended then (if nat_lt steps step then Err NoStep else found) else Err NotEnded

-- of the run of a world by its seed
abbrev pub table_of_run : ℕ → ℕ → List ℕ → World → Result Table TableStop
table_of_run budget step name w =
    table_verdict (ends_within budget w) (steps_by budget [] w) step (stored_table (table_after step name w))

abbrev pub table_by_mode : Mode → ℕ → ℕ → List ℕ → Package → Result Table TableStop
table_by_mode Excluded budget step name p = Err NoTable
table_by_mode Included budget step name p =
    if has_table name p then table_of_run budget step name (own_world p) else Err NoTable

-- of the own world of a package, within a budget of steps: the table of a name after a step
abbrev pub table_at_of : ℕ → ℕ → List ℕ → Package → Result Table TableStop
table_at_of budget step name p = table_by_mode p.mode budget step name p

-- a stop is the one that is due, but for out of memory
abbrev pub IsDueStop : TableStop → Result Table TableStop → Type 0
IsDueStop NoTable due = due ≡ Err NoTable
IsDueStop NotEnded due = due ≡ Err NotEnded
IsDueStop NoStep due = due ≡ Err NoStep
IsDueStop NoMemory due = Unit {0}
