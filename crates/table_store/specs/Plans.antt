-- Changes that are planned.
use Rattle.std.specs.Prelude.{◌≡◌, true, map, length, None}
use Rattle.table_store.specs.GivenKeys.{TakeOver}
use Rattle.table_store.specs.IndexView.{held_in}
use Rattle.table_store.specs.NewKeys.{new_in, AreBelow, AreClaimed}
use Rattle.table_store.specs.Histories.{TableHistory, last_next_number, rows_now, table_now}
use Rattle.table_store.specs.Stops.{have_shape, values_of, are_sorted_rows, had_rows, replaced_by}
use Rattle.table_store.specs.Stops.{insert_stop, replace_stop}
use Rattle.table_store.specs.declared.plans.InsertPlan.{InsertPlan}
use Rattle.table_store.specs.declared.plans.ReplacePlan.{ReplacePlan}

-- new rows that the table's own rules don't refuse, and their keys
pub record IsInsertPlan (table : TableHistory) (plan : InsertPlan) : Type 0 where
  pub shape : have_shape plan.rows (table_now table) ≡ true
  pub stop : insert_stop plan.rows (table_now table) ≡ None
  pub keys : AreClaimed table.schema.key (last_next_number table.nexts) (rows_now table.slots) plan.rows
      (new_in plan.keys)
  pub below : AreBelow plan.keys (length plan.rows)

-- other values of rows that the table's own rules don't refuse, and the numbers that keys get
pub record IsReplacePlan (table : TableHistory) (plan : ReplacePlan) : Type 0 where
  pub shape : have_shape (values_of plan.rows) (table_now table) ≡ true
  pub sorted : are_sorted_rows plan.rows ≡ true
  pub stand : had_rows plan.rows (table_now table) ≡ true
  pub stop : replace_stop plan.rows (table_now table) ≡ None
  pub claimed : TakeOver table.schema.key (rows_now table.slots)
      (map (replaced_by plan.rows) (rows_now table.slots)) (λ key. held_in plan.claims key)
