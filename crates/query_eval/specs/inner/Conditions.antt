-- The conditions of a core, one by one.
use Rattle.std.specs.Prelude.{◌≡◌, ℕ, List, Some}
use Rattle.predicates.specs.Checking.{core_at, IsChecked}
use Rattle.predicates.specs.Conditions.{AreConditions}
use Rattle.predicates.specs.declared.placed.BoundExpr.{BoundExpr}
use Rattle.query_eval.specs.Types.{Catalog, Checked, Core, Query}
use Rattle.sql_model.specs.Scope.{scope_of}

-- together they mean what ON and WHERE do, of the core at a place of a checked query
abbrev pub AreOfCore : Checked → ℕ → List BoundExpr → Type 0
AreOfCore checked place conds = (query : Query) (catalog : Catalog) (core : Core)
    → IsChecked checked query catalog
    → core_at checked place ≡ Some core
    → AreConditions (scope_of core.from catalog) core.picks conds
