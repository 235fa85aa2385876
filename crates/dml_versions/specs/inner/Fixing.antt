-- The key that WHERE fixes.
use Rattle.std.specs.Prelude.{◌≡◌, ◌<◌, ℕ, List, length, true, Option}
use Rattle.sql_model.specs.Changes.{is_matched}
use Rattle.sql_model.specs.Scope.{InScope}
use Rattle.sql_model.specs.References.{has_key}
use Rattle.dml_versions.specs.inner.Finding.{IsPickPlaced}
use Rattle.dml_versions.specs.Types.{Expr, TableRow, Value}

-- there is a key, and each row that WHERE matches has it
abbrev pub WhereFixesKey : Option Expr → List ℕ → List ℕ → List Value → Type 0
WhereFixesKey pick places key values = (0 < length key)
    × ((scope : List InScope) → IsPickPlaced scope pick places
    → (row : TableRow) → is_matched scope pick row ≡ true → has_key key values row ≡ true)
