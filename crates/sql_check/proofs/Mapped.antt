-- Places of joined lists, the last test of a list, and a list of names as its own names.
use Rattle.std.proofs.Common.{◌≡◌, List, ◌++◌}
use Rattle.sql_model.specs.declared.expr.ColumnName.{ColumnName}
use Rattle.sql_model.specs.Scope.{InScope, place_of, places_in}
use Rattle.ldv_value.proofs.Booleans.{and-true, or-false}
use Rattle.std.proofs.lemmas.List.{map-append, map-id}

pub places_append : (scope : List InScope) (as_ bs : List ColumnName) → places_in scope (as_ ++ bs) ≡ places_in scope as_ ++ places_in scope bs
places_append scope as_ bs = map-append (place_of scope) as_ bs

pub ruleset last_test = (and-true, or-false)

pub ruleset own_names = (map-id)
