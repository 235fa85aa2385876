-- Changes of tables that are planned: the tables' own rules don't refuse them.
use Rattle.std.specs.Prelude.{◌≡◌, ℕ, List, Some}
use Rattle.table_store.specs.Plans.{IsInsertPlan, IsReplacePlan}
use Rattle.table_store.specs.Histories.{StoreHistory, TableHistory, history_at}
use Rattle.table_store.specs.declared.plans.InsertPlan.{InsertPlan}
use Rattle.table_store.specs.declared.plans.ReplacePlan.{ReplacePlan}

-- new rows of the table of a name
pub record IsPlannedInsert (store : StoreHistory) (name : List ℕ) (plan : InsertPlan) : Type 0 where
  pub table : TableHistory
  pub there : history_at name store ≡ Some table
  pub fits : IsInsertPlan table plan

-- other values of rows of the table of a name
pub record IsPlannedReplace (store : StoreHistory) (name : List ℕ) (plan : ReplacePlan) : Type 0 where
  pub table : TableHistory
  pub there : history_at name store ≡ Some table
  pub fits : IsReplacePlan table plan
