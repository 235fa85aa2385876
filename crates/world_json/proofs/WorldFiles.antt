-- The files of a world that was read are within their limit.
use Rattle.std.proofs.Common.{◌≡◌, ℕ, List, true, Ok, subst}
use Rattle.ldv_value.proofs.Booleans.{and-first, and-second}
use Rattle.run_model.specs.Start.{has_small_files}
use Rattle.run_model.specs.declared.world.World.{World}
use Rattle.world_json.specs.Reading.{world_reading, world_as}
use Rattle.world_json.proofs.ReadDocuments.{world_read}

pub small_files : (bytes : List ℕ) (w : World) → world_reading bytes ≡ Ok w → has_small_files w ≡ true
small_files bytes w is =
    let found = world_read bytes w is in
    let small : has_small_files (world_as found.0) ≡ true = and-second _ _ (and-first _ _ (and-first _ _ (and-first _ _ found.1.within))) in
    subst (λ (v : World). has_small_files v ≡ true) found.1.world_is small
