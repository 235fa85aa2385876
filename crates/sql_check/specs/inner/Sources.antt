-- The columns of one source, and places among others.
use Rattle.std.specs.Prelude.{◌≡◌, ℕ, List, map, Bool, ◌==◌, ◌||◌}
use Rattle.std.specs.List.{list_all, list_any}
use Rattle.sql_model.specs.declared.expr.ColumnName.{ColumnName}
use Rattle.sql_model.specs.declared.table.Column.{Column}
use Rattle.sql_model.specs.Scope.{InScope, places_in}

-- the columns of a source, under its name
abbrev pub entries : List ℕ → List Column → List InScope
entries source columns = map (λ column. record { source = source; column = column }) columns

-- a place is one of some places
abbrev pub is_among : List ℕ → ℕ → Bool
is_among places place = list_any (λ p. p == place) places

-- the same places, in any order and any number of times
abbrev pub AreSamePlaces : List ℕ → List ℕ → Type 0
AreSamePlaces places others = (place : ℕ) → is_among places place ≡ is_among others place

-- the places, and one more
abbrev pub AddsPlace : List ℕ → ℕ → List ℕ → Type 0
AddsPlace old more new = (place : ℕ) → is_among new place ≡ (is_among old place || (more == place))

-- each name means a column at one of some places
abbrev pub all_among : List InScope → List ℕ → List ColumnName → Bool
all_among scope places names = list_all (is_among places) (places_in scope names)
