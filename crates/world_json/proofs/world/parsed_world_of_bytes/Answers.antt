use Rattle.std.proofs.Common.{◌≡◌, true, Ok}
use Rattle.std.proofs.lemmas.Result.{IfOk-weaker}
use Rattle.run_model.specs.declared.world.ParsedWorld.{ParsedWorld}
use Rattle.world_json.specs.Reading.{world_reading}
use Rattle.world_json.specs.SortedWorld.{is_sorted_world}
use Rattle.world_json.proofs.DocumentWorlds.{read_valid, read_runs}
use Rattle.world_json.proofs.ReadDocuments.{world_sorted}
use Rattle.world_json.proofs.world.parsed_world_of_bytes.Goals as goal

pub returns-clause-sorted : goal.returns-clause-sorted
returns-clause-sorted c =
    let weaker : (p : ParsedWorld) → world_reading c.args.bytes ≡ Ok p.world → is_sorted_world p.world ≡ true = λ p is. world_sorted c.args.bytes p.world is in
    IfOk-weaker c.read_owned_world.result _ _ weaker c.read_owned_world.ensures.world

pub returns-clause-valid : goal.returns-clause-valid
returns-clause-valid c = read_valid c.args.bytes c.read_owned_world.result c.read_owned_world.ensures.world c.read_owned_world.ensures.typed

pub returns-clause-runs : goal.returns-clause-runs
returns-clause-runs c = read_runs c.args.bytes c.read_owned_world.result c.read_owned_world.ensures.world c.read_owned_world.ensures.typed
