-- The cores of a checked query, and the places of their columns.
use Rattle.std.specs.Prelude.{◌≡◌, ℕ, List, [], Option, Ok, unwrap_or, slice_get, IsTrue, is_some}
use Rattle.sql_model.specs.Places.{checked_of, checked_statement}
use Rattle.sql_model.specs.Refusals.{cores_of}
use Rattle.predicates.specs.Types.{Catalog, Checked, Core, Query, Statement}
use Rattle.predicates.specs.Types.{TheQuery, TheInsert, TheUpdate, TheDelete}

abbrev pub IsQuery : Statement → Type 0
IsQuery (TheQuery query) = Unit {0}
IsQuery (TheInsert insert) = ⊥
IsQuery (TheUpdate update) = ⊥
IsQuery (TheDelete delete) = ⊥

-- the core at a place, from 0
abbrev pub core_at : Checked → ℕ → Option Core
core_at checked place = slice_get (cores_of checked.statement) place

abbrev pub HasCore : Checked → ℕ → Type 0
HasCore checked place = IsTrue (is_some (core_at checked place))

-- the places of the column names of the core at a place
abbrev pub places_at : Checked → ℕ → List ℕ
places_at checked place = unwrap_or (slice_get checked.places place) []

-- a query that a check accepted
abbrev pub WasChecked : Checked → Query → Catalog → Type 0
WasChecked checked query catalog = checked_of (TheQuery query) catalog ≡ Ok checked

-- the query with the places of its columns, as a check gives it
abbrev pub IsChecked : Checked → Query → Catalog → Type 0
IsChecked checked query catalog = checked ≡ checked_statement (TheQuery query) catalog
