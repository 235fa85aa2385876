use Rattle.std.proofs.Common.{◌≡◌, ℕ, drop}
use Rattle.std.specs.Prelude.{◌||◌}
use Rattle.sql_model.specs.Scope.{places_in}
use Rattle.sql_check.specs.inner.Sources.{is_among}
use Rattle.sql_check.proofs.columns.grouped_places.Given as goal

abbrev pub invariant-loop-name : goal.invariant-loop-name
invariant-loop-name l = (place : ℕ)
    → (is_among l.places.items place || is_among (places_in l.scope (drop l.name-index l.names)) place) ≡ is_among (places_in l.scope l.names) place
