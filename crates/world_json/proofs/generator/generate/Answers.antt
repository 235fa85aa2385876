use Rattle.std.proofs.Common.{rules, ◌<◌, ◌^◌}
use Rattle.std.proofs.lemmas.Result.{IfOk-weaker}
use Rattle.world_json.proofs.GeneratedWorlds.{generated_runs, generated_valid}
use Rattle.world_json.proofs.generator.generate.Goals as goal

pub returns-clause-valid : goal.returns-clause-valid
returns-clause-valid c =
    let small : c.args.n < 2 ^ 32 = search rules in
    IfOk-weaker c.made_world.result _ _ (λ world is. generated_valid c.args.n world is small) c.made_world.ensures

pub returns-clause-runs : goal.returns-clause-runs
returns-clause-runs c =
    let small : c.args.n < 2 ^ 32 = search rules in
    IfOk-weaker c.made_world.result _ _ (λ world is. generated_runs c.args.n world is small) c.made_world.ensures
