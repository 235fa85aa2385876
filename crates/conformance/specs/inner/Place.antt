-- The first place where bytes differ.
use Rattle.std.specs.Prelude.{◌≡◌, ◌≢◌, ℕ, List, take, slice_get}
use Rattle.conformance.specs.declared.compare.Place.{Place}

-- equal before the index, and there another byte, or one of the two ends
pub record IsFirstPlace (got wanted : List ℕ) (place : Place) : Type 0 where
  pub before : take place.index got ≡ take place.index wanted
  pub got_there : place.got ≡ slice_get got place.index
  pub wanted_there : place.wanted ≡ slice_get wanted place.index
  pub differ : place.got ≢ place.wanted
