-- The places of a statement's columns, and the result of a check. All places count from 0.
use Rattle.std.specs.Prelude.{ℕ, ◌-◌, List, [], ◌∷◌, ◌++◌, map, Option, Some, None, Result, Ok, Err}
use Rattle.std.specs.List.{position_or_len}
use Rattle.sql_model.specs.Types.{Catalog, Checked, SqlRefusal, Core, Order, OrderKey, Name, Place, Query}
use Rattle.sql_model.specs.Types.{Statement, TheQuery, TheInsert, TheUpdate, TheDelete}
use Rattle.sql_model.specs.Refusals.{core_names, update_names, delete_names, answer_columns, has_name}
use Rattle.sql_model.specs.Refusals.{check_refusal}
use Rattle.sql_model.specs.Scope.{scope_of, own_scope, places_in}

-- the places of a core's column names in the joined row
abbrev pub core_places : Catalog → Core → List ℕ
core_places catalog core = places_in (scope_of core.from catalog) (core_names core)

-- the place of an answer column
abbrev pub key_place : List (Option (List ℕ)) → OrderKey → ℕ
key_place titles (Name name) = position_or_len (has_name name) titles
key_place titles (Place place) = place - 1

abbrev pub order_places : List (Option (List ℕ)) → List Order → List ℕ
order_places titles order = map (λ part. key_place titles part.key) order

-- a list for each core, and one for ORDER BY
abbrev pub query_places : Query → Catalog → List (List ℕ)
query_places query catalog =
    map (core_places catalog) query.cores
    ++ order_places (answer_columns catalog query.cores) query.order ∷ []

-- any other statement has one list, of places in the table's row; an INSERT that is accepted names no
-- column in its values
abbrev pub places_of : Statement → Catalog → List (List ℕ)
places_of (TheQuery query) catalog = query_places query catalog
places_of (TheInsert insert) catalog = [] ∷ []
places_of (TheUpdate update) catalog = places_in (own_scope update.table catalog) (update_names update) ∷ []
places_of (TheDelete delete) catalog = places_in (own_scope delete.table catalog) (delete_names delete) ∷ []

-- the statement with its places
abbrev pub checked_statement : Statement → Catalog → Checked
checked_statement statement catalog = record { statement = statement; places = places_of statement catalog }

abbrev pub checked_unless : Option SqlRefusal → Statement → Catalog → Result Checked SqlRefusal
checked_unless None statement catalog = Ok (checked_statement statement catalog)
checked_unless (Some refusal) statement catalog = Err refusal

-- what a check gives
abbrev pub checked_of : Statement → Catalog → Result Checked SqlRefusal
checked_of statement catalog = checked_unless (check_refusal statement catalog) statement catalog
