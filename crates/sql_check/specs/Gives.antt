-- Results of a check that may run out of memory, compared with the definition of the check.
use Rattle.std.specs.Prelude.{◌≡◌, ℕ, List, Result, Ok, Err}
use Rattle.ldv_value.specs.Gives.{GivesOr}
use Rattle.sql_check.specs.declared.error.CheckStop.{CheckStop}
use Rattle.sql_check.specs.declared.error.CheckStop.TheVariants.{NoTable, NoColumn, TypeClash, NoMemory}
use Rattle.sql_model.specs.declared.catalog.Checked.{Checked}
use Rattle.sql_model.specs.declared.reply.SqlRefusal.{SqlRefusal}
use Rattle.sql_model.specs.declared.reply.SqlRefusal.TheVariants.{NoTable as NoTableRefusal}
use Rattle.sql_model.specs.declared.reply.SqlRefusal.TheVariants.{NoColumn as NoColumnRefusal}
use Rattle.sql_model.specs.declared.reply.SqlRefusal.TheVariants.{TypeClash as TypeClashRefusal}
use Rattle.sql_model.specs.declared.statement.Statement.{Statement}

abbrev pub Stops : CheckStop → Result Checked SqlRefusal → Type 0
Stops NoTable due = due ≡ Err NoTableRefusal
Stops NoColumn due = due ≡ Err NoColumnRefusal
Stops TypeClash due = due ≡ Err TypeClashRefusal
Stops NoMemory due = Unit {0}

-- the result is the checked statement that is due, or the refusal that is due, or out of memory
abbrev pub GivesChecked : Result Checked CheckStop → Result Checked SqlRefusal → Type 0
GivesChecked = GivesOr Stops

-- the same of the places alone, where the caller has the statement
abbrev pub GivesPlaces : Result (List (List ℕ)) CheckStop → Statement → Result Checked SqlRefusal → Type 0
GivesPlaces (Ok places) statement due = due ≡ Ok (record { statement = statement; places = places })
GivesPlaces (Err stop) statement due = Stops stop due
