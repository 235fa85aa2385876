use Rattle.std.proofs.Common.{◌≡◌, ◌++◌, List, ap, sym, ◌∙◌, subst, OnOk}
use Rattle.replay_db.specs.inner.KeptGroups.{logs_with, with_kept}
use Rattle.replay_db.specs.Types.{Log}
use Rattle.replay_db.proofs.KeptLogs.{last_kept}
use Rattle.replay_db.proofs.recorder.add.Goals as goal

pub returns-in-Some : goal.returns-in-Some
returns-in-Some c =
    let more : c.pop.new.self.items ++ logs_with c.args.kept c.in-Some.last ≡ with_kept c.args.kept c.args.logs.now.items =
    sym (last_kept c.pop.new.self.items c.in-Some.last c.args.kept) ∙ ap (with_kept c.args.kept) (sym c.in-Some.ensures.items) in
    subst (λ (logs : List Log). OnOk c.add_after.result (c.add_after.new.logs.items ≡ logs)) more c.add_after.ensures
