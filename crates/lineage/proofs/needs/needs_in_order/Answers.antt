use Rattle.std.proofs.Common.{◌∙◌, ap}
use Rattle.std.proofs.lemmas.Result.{IfOk-weaker}
use Rattle.lineage.proofs.OnceLaws.{once_sorted}
use Rattle.lineage.specs.Needing.{once_each}
use Rattle.lineage.proofs.needs.needs_in_order.Goals as goal

pub returns : goal.returns
returns c =
    IfOk-weaker c.once_each.result _ _ (λ made is. is ∙ ap once_each c.in_ok-ordered.ensures ∙ once_sorted c.args.needs) c.once_each.ensures
