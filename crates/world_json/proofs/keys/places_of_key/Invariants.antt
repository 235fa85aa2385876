use Rattle.std.proofs.Common.{◌≡◌, take}
use Rattle.sql_model.specs.Tables.{places_named}
use Rattle.world_json.proofs.keys.places_of_key.Given as goal

abbrev pub invariant-loop-name : goal.invariant-loop-name
invariant-loop-name l = l.places ≡ places_named l.columns (take l.name-index l.name-items)
