use Rattle.std.proofs.Common.{◌≡◌, List, ap, ◌∙◌, subst, IfOk}
use Rattle.replay_db.specs.inner.KeptGroups.{logs_of_kept}
use Rattle.replay_db.specs.Types.{Log}
use Rattle.replay_db.proofs.KeptLogs.{grouped_sorted}
use Rattle.replay_db.proofs.recorder.logs_of.Goals as goal

pub returns : goal.returns
returns c =
    subst (λ (due : List Log). IfOk c.logs_of_kept.result (λ logs. logs ≡ due))
    (ap logs_of_kept c.in_ok-sorted.ensures ∙ grouped_sorted c.args.kept) c.logs_of_kept.ensures
