-- The values that one column has over a group.
use Rattle.std.specs.Prelude.{◌≡◌, ℕ, List, map, Some}
use Rattle.lineage.specs.declared.answer.Pick.{Pick}
use Rattle.group_eval.specs.inner.Folding.{value_over}
use Rattle.group_eval.specs.Types.{Expr, Value}
use Rattle.group_eval.specs.declared.columns.KnownColumn.{KnownColumn}
use Rattle.sql_model.specs.Kinds.{names_in}
use Rattle.sql_model.specs.Meaning.{known_values}
use Rattle.ldv_value.specs.Cells.{value_at}
use Rattle.sql_model.specs.Scope.{InScope, places_in}

-- the value at a place of a pick
abbrev pub value_in : ℕ → Pick → Value
value_in place pick = value_at pick.values place

-- those of picks, without NULL
abbrev pub known_column : ℕ → List Pick → List Value
known_column place picks = known_values (map (value_in place) picks)

-- the values that are kept are those of the column that is kept, if there is one
abbrev pub IsKnown : List Pick → KnownColumn → Type 0
IsKnown picks known = (place : ℕ) → known.place ≡ Some place → known.values ≡ known_column place picks

-- over a pick an expression has the value at a place
abbrev pub IsValueAt : Expr → List ℕ → ℕ → Type 0
IsValueAt expr places place = (scope : List InScope) → places_in scope (names_in expr) ≡ places
    → (pick : Pick) → value_over scope expr pick ≡ value_in place pick
