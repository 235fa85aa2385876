use Rattle.std.proofs.Common.{◌∙◌}
use Rattle.std.specs.List.{filter_map}
use Rattle.std.proofs.lemmas.Result.{IfOk-weaker}
use Rattle.package_join.specs.Worlds.{seen_by}
use Rattle.package_join.proofs.worlds.world_files.Goals as goal

pub returns : goal.returns
returns c =
    IfOk-weaker c.files_seen.result _ _
    (λ seen is. is ∙ (λ i. filter_map (seen_by (λ q. c.in_ok-presents.ensures q i)) c.args.files))
    c.files_seen.ensures
