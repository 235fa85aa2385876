-- The law of kinds: if the values of columns have the columns' kinds, the value of an expression has the
-- expression's kind.
use Rattle.std.specs.Prelude.{◌≡◌, List, [], ◌∷◌, zip, find, Bool, true, Some}
use Rattle.std.specs.List.{list_all}
use Rattle.sql_model.specs.Kinds.{kind_of_column, kind, is_of_kind}
use Rattle.sql_model.specs.Scope.{InScope, is_meant, environment}
use Rattle.sql_model.specs.Meaning.{Environment, eval}
use Rattle.sql_laws.specs.Types.{ColumnName, Expr, Kind, Value}

-- a name's value is of the kind of the column that it means
abbrev pub FitsScope : List InScope → Environment → Type 0
FitsScope scope env = (c : ColumnName) (entry : InScope) → find (is_meant c) scope ≡ Some entry
    → is_of_kind (kind_of_column entry.column) (env c) ≡ true

abbrev pub AllFit : List InScope → List Environment → Type 0
AllFit scope [] = Unit {0}
AllFit scope (env ∷ envs) = FitsScope scope env × AllFit scope envs

-- over a group of rows, and so over one; in an item or HAVING, where aggregates may stand, or elsewhere
abbrev pub KindLaw : Type 0
KindLaw = (scope : List InScope) (e : Expr) (over_groups : Bool) (k : Kind) (group : List Environment)
    → AllFit scope group
    → kind scope e over_groups ≡ Some k
    → is_of_kind k (eval e group).value ≡ true

-- the values of a row in scope, each of its column's kind
abbrev pub is_typed_row : List InScope → List Value → Bool
is_typed_row scope values =
    list_all (λ cell. is_of_kind (kind_of_column cell.0.column) cell.1) (zip scope values)

-- such a row is an environment that fits
abbrev pub RowLaw : Type 0
RowLaw = (scope : List InScope) (values : List Value) → is_typed_row scope values ≡ true
    → FitsScope scope (environment scope values)
