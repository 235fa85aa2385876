use Rattle.std.proofs.Common.{◌≡◌}
use Rattle.run_model.specs.declared.world.World.{World}
use Rattle.world_json.specs.Reading.{world_as}
use Rattle.world_json.proofs.TypedWorlds.{world_typed}
use Rattle.world_json.proofs.world.to_world.Goals as goal

pub returns-clause-typed : goal.returns-clause-typed
returns-clause-typed c =
    let doc = c.args.document in
    let world : World = record { start = doc.start; seed = doc.seed; files = doc.files; tables = c.in_ok-tables.tables } in
    let same : world ≡ world_as doc = λ j. record { start = doc.start; seed = doc.seed; files = doc.files; tables = c.in_ok-tables.ensures j } in
    world_typed doc world same c.requires.within c.requires.typed
