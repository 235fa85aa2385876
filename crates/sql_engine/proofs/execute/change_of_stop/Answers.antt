use Rattle.std.proofs.Common.{refl, subst, sym}
use Rattle.dml_versions.specs.declared.change.Change.{Change}
use Rattle.sql_engine.proofs.AskLaws.{refused_over}
use Rattle.sql_engine.specs.Asking.{IsOutcome}
use Rattle.sql_engine.specs.Types.{NoTable, NoColumn, TypeClash}
use Rattle.sql_check.specs.Gives.{Stops}
use Rattle.sql_check.specs.declared.error.CheckStop.{CheckStop}
use Rattle.sql_model.specs.Places.{checked_of}
use Rattle.sql_model.specs.Scope.{catalog_of}
use Rattle.table_store.specs.Histories.{tables_now}
use Rattle.sql_engine.proofs.execute.change_of_stop.Goals as goal

pub returns-in-NoTable : goal.returns-in-NoTable
returns-in-NoTable c = λ s store keep due.
    subst (λ (d : Change). IsOutcome s keep store store d) (sym c.refusal_change.ensures)
    (refused_over s store keep NoTable (catalog_of (tables_now store)) refl
    (subst (λ (stop : CheckStop). Stops stop (checked_of s (catalog_of (tables_now store)))) c.in-NoTable.is due) refl)

pub returns-in-NoColumn : goal.returns-in-NoColumn
returns-in-NoColumn c = λ s store keep due.
    subst (λ (d : Change). IsOutcome s keep store store d) (sym c.refusal_change-in-NoColumn.ensures)
    (refused_over s store keep NoColumn (catalog_of (tables_now store)) refl
    (subst (λ (stop : CheckStop). Stops stop (checked_of s (catalog_of (tables_now store)))) c.in-NoColumn.is due) refl)

pub returns-in-TypeClash : goal.returns-in-TypeClash
returns-in-TypeClash c = λ s store keep due.
    subst (λ (d : Change). IsOutcome s keep store store d) (sym c.refusal_change-in-TypeClash.ensures)
    (refused_over s store keep TypeClash (catalog_of (tables_now store)) refl
    (subst (λ (stop : CheckStop). Stops stop (checked_of s (catalog_of (tables_now store)))) c.in-TypeClash.is due) refl)
