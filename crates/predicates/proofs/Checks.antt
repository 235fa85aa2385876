-- Consequences of a query's check.
use Rattle.std.proofs.Common.{◌≡◌, refl, sym, Bool, true, false, Option, Some, None}
use Rattle.std.specs.Prelude.{Ok, if◌then◌else◌}
use Rattle.predicates.specs.Checking.{IsChecked, WasChecked}
use Rattle.sql_model.specs.Places.{checked_statement, checked_unless}
use Rattle.sql_model.specs.Refusals.{check_refusal, clashes, lacks_column, lacks_table}
use Rattle.predicates.specs.Types.{Catalog, Checked, NoColumn, NoTable, Query, SqlRefusal, Statement, TheQuery, TypeClash}

accepted : (refusal : Option SqlRefusal) (statement : Statement) (catalog : Catalog) (checked : Checked)
    → checked_unless refusal statement catalog ≡ Ok checked → (refusal ≡ None) × (checked ≡ checked_statement statement catalog)
accepted None statement catalog checked is = (refl, sym (made is))
  where
    made : checked_unless None statement catalog ≡ Ok checked → checked_statement statement catalog ≡ checked
    made is = cc
accepted (Some refusal) statement catalog checked is = cc

first-passes : (lacks : Bool) (rest : Option SqlRefusal) → (if lacks then Some NoTable else rest) ≡ None → lacks ≡ false
first-passes true rest is = cc
first-passes false rest is = refl

module _ (checked : Checked) (query : Query) (catalog : Catalog) (given : WasChecked checked query catalog) where
  pub checked-is : IsChecked checked query catalog
  checked-is = (accepted (check_refusal (TheQuery query) catalog) (TheQuery query) catalog checked given).1

  -- each table that is named is there, and no core has two sources of one name
  pub tables-there : lacks_table (TheQuery query) catalog ≡ false
  tables-there =
      first-passes (lacks_table (TheQuery query) catalog) (if lacks_column (TheQuery query) catalog then Some NoColumn else if clashes (TheQuery query) catalog then Some TypeClash else None)
      (accepted (check_refusal (TheQuery query) catalog) (TheQuery query) catalog checked given).0
