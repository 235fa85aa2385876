use Rattle.std.proofs.Common.{refl, ◌∙◌}
use Rattle.ldv_value.proofs.FirstItems.{split_first}
use Rattle.package_codec.proofs.RunTraces.{whole_trace}
use Rattle.package_codec.proofs.trace.is_trace.Goals as goal

pub returns-in-len1-up : goal.returns-in-len1-up
returns-in-len1-up c =
    c.is_start_of.ensures
    ∙ whole_trace c.args.path.now c.args.steps c.args.runs.now c.first-item.result _ (split_first c.args.runs.now c.args.runs.now c.first-item.result c.in-len1-up.len_at_least c.first-item.is refl) c.requires
