-- A document that gives a world has no fault.
use Rattle.std.proofs.Common.{◌≡◌, Bool, true, false, if◌then◌else◌, Option, Some, None, Result, Ok, Err, refl}
use Rattle.run_model.specs.declared.world.World.{World}
use Rattle.world_json.specs.declared.document.Document.{Document}
use Rattle.world_json.specs.declared.fault.WorldFault.{WorldFault}
use Rattle.world_json.specs.Faults.{is_named, is_within, is_typed, is_filled, is_keyed}
use Rattle.world_json.specs.Reading.{world_as, is_referring, start_fault, ending, reading_of}

-- no fault of a document holds, and the world is its world
pub record IsWorldOf (doc : Document) (world : World) : Type 0 where
  pub named : is_named doc ≡ true
  pub within : is_within doc ≡ true
  pub typed : is_typed doc ≡ true
  pub filled : is_filled doc ≡ true
  pub keyed : is_keyed doc ≡ true
  pub referring : is_referring doc ≡ true
  pub started : start_fault doc ≡ None
  pub world_is : world_as doc ≡ world

passed : (b : Bool) (r : Result World WorldFault) (fault : WorldFault) (world : World) → (if b then r else Err fault) ≡ Ok world → (b ≡ true) × (r ≡ Ok world)
passed true r fault world is = (refl, is)
passed false r fault world is = cc

ended : (doc : Document) (o : Option WorldFault) (world : World) → ending doc o ≡ Ok world → (o ≡ None) × (world_as doc ≡ world)
ended doc None world is = let same : world_as doc ≡ world = cc in (refl, same)
ended doc (Some fault) world is = cc

pub document_passes : (doc : Document) (world : World) → reading_of doc ≡ Ok world → IsWorldOf doc world
document_passes doc world is =
    let named = passed (is_named doc) _ _ world is in
    let within = passed (is_within doc) _ _ world named.1 in
    let typed = passed (is_typed doc) _ _ world within.1 in
    let filled = passed (is_filled doc) _ _ world typed.1 in
    let keyed = passed (is_keyed doc) _ _ world filled.1 in
    let referring = passed (is_referring doc) _ _ world keyed.1 in
    let ends = ended doc (start_fault doc) world referring.1 in
    record {
      named = named.0;
      within = within.0;
      typed = typed.0;
      filled = filled.0;
      keyed = keyed.0;
      referring = referring.0;
      started = ends.0;
      world_is = ends.1;
    }
