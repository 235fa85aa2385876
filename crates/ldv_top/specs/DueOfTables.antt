-- The due output of `table`: a table of a package's own world after a step.
use Rattle.std.specs.Prelude.{ℕ, List, Result, Ok, Err}
use Rattle.run_model.specs.declared.package.Package.{Package}
use Rattle.run_model.specs.TableText.{table_text_of}
use Rattle.sql_model.specs.declared.table.Table.{Table}
use Rattle.replay_db.specs.TableAt.{table_at_of}
use Rattle.replay_db.specs.declared.table.TableStop.{TableStop}
use Rattle.replay_db.specs.declared.table.TableStop.TheVariants as stops
use Rattle.ldv_top.specs.declared.exit.Exit.TheVariants.{NoMemory, NotEnded, NoSuch}
use Rattle.ldv_top.specs.DueParts.{DueOutput, due_bytes, due_refusal, due_of_package}

-- no package that holds the recorded replies has a table; no run wants memory in the definitions
abbrev pub table_due : ℕ → Result Table TableStop → DueOutput
table_due budget (Ok table) = due_bytes (table_text_of table)
table_due budget (Err stops.NoTable) = due_refusal NoSuch
table_due budget (Err stops.NotEnded) = due_refusal (NotEnded budget)
table_due budget (Err stops.NoStep) = due_refusal NoSuch
table_due budget (Err stops.NoMemory) = due_refusal NoMemory

abbrev pub tabled_package : List ℕ → ℕ → ℕ → Package → DueOutput
tabled_package name step budget p = table_due budget (table_at_of budget step name p)

abbrev pub due_table : List ℕ → ℕ → ℕ → List ℕ → DueOutput
due_table name step budget input = due_of_package (tabled_package name step budget) input
