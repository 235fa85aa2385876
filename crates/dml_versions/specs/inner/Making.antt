-- The values of new and of updated rows, column by column.
use Rattle.std.specs.Prelude.{◌≡◌, ℕ, List, [], map, zip, Option, Some, None, slice_get}
use Rattle.std.specs.List.{position, AllByRecursion}
use Rattle.std.specs.Option.{option_map, option_and_then}
use Rattle.sql_model.specs.Changes.{plain_value, sets_column, value_set}
use Rattle.sql_model.specs.Kinds.{names_in}
use Rattle.sql_model.specs.Meaning.{or_null}
use Rattle.sql_model.specs.Scope.{InScope, same_text, environment, places_in}
use Rattle.dml_versions.specs.Types.{Column, Expr, Set, Value}

-- ---- INSERT

-- the place of a column's name among some
abbrev pub place_given : List (List ℕ) → Column → Option ℕ
place_given names column = position (λ name. same_text name column.name) names

-- for each column the place of its value; None where the values are those of all columns in order
abbrev pub places_given : Option (List (List ℕ)) → List Column → Option (List (Option ℕ))
places_given None columns = None
places_given (Some names) columns = Some (map (place_given names) columns)

-- an expression that names no column
abbrev pub IsPlain : Expr → Type 0
IsPlain expr = names_in expr ≡ []

abbrev pub ArePlain : List Expr → Type 0
ArePlain exprs = AllByRecursion IsPlain exprs

-- the value at a place; NULL where there is none
abbrev pub value_from : List Expr → Option ℕ → Value
value_from exprs source = or_null (option_map plain_value (option_and_then (slice_get exprs) source))

abbrev pub values_from : Option (List (Option ℕ)) → List Expr → List Value
values_from None exprs = map plain_value exprs
values_from (Some sources) exprs = map (value_from exprs) sources

-- ---- UPDATE

-- the place of the SET of a column
abbrev pub place_set : List Set → Column → Option ℕ
place_set sets column = position (sets_column column) sets

-- the places are those of the columns of each SET
abbrev pub AreSetsPlaced : List InScope → List Set → List (List ℕ) → Type 0
AreSetsPlaced scope sets lists = map (λ set. places_in scope (names_in set.expr)) sets ≡ lists

-- a new value, by the place of its SET; the old one where there is none
abbrev pub value_by_set : List InScope → List Set → List Value → Option ℕ × Value → Value
value_by_set scope sets values cell =
    value_set (option_and_then (slice_get sets) cell.0) (environment scope values) cell.1

abbrev pub values_by_set : List InScope → List Set → List (Option ℕ) → List Value → List Value
values_by_set scope sets sources values = map (value_by_set scope sets values) (zip sources values)
