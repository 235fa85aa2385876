use Rattle.std.proofs.Common.{◌≡◌, ◌∙◌, subst, refl, ℕ, List, IfOk}
use Rattle.run_model.specs.Database.{Gives, Diverges}
use Rattle.run_model.specs.LogDatabase.{log_base, no_lists}
use Rattle.replay_log.specs.inner.Left.{logs_left, question}
use Rattle.replay_log.specs.inner.Places.{IsAt, IsNowhere}
use Rattle.replay_log.specs.Types.{Log}
use Rattle.replay_log.proofs.LeftLogs.{diverges_nowhere}
use Rattle.replay_log.proofs.reply_log.ReplyLog.next.Goals as goal

pub returns-in-None-clause-diverged : goal.returns-in-None-clause-diverged
returns-in-None-clause-diverged c = λ stop.
    let logs = c.self.inside.logs.items in
    let process = c.args.process.now in
    let absent : IsNowhere process.parts logs =
    subst (λ (l : List Log). IsNowhere process.parts l) c.deref.ensures.value
    (subst (λ (name : List ℕ). IsNowhere name c.deref.result.now) c.items.ensures (c.in-None.ensures.absent refl)) in
    subst (λ (l : List Log). log_base l (question process c.args.text.now c.args.params.now) ≡ Diverges) c.self.view_is
    (diverges_nowhere process c.args.text.now c.args.params.now logs c.self.inside.used.items absent)

pub next_at-requires-clause-at : goal.next_at-requires-clause-at
next_at-requires-clause-at c =
    subst (λ (l : List Log). IsAt c.args.process.now.parts c.in-Some.index l) c.deref.ensures.value
    (subst (λ (name : List ℕ). IsAt name c.in-Some.index c.deref.result.now) c.items.ensures c.in-Some.ensures.found)

pub returns-in_ok-count_all-in-Some-clause-reply : goal.returns-in_ok-count_all-in-Some-clause-reply
returns-in_ok-count_all-in-Some-clause-reply c =
    let same : logs_left c.self.inside.logs.items c.count_all.new.used.items ≡ c.args.self.now =
    c.count_all.ensures.same c.self.inside.logs.items ∙ c.self.view_is in
    subst
    (λ (l : List Log). IfOk c.next_at.result (λ reply. log_base l (question c.args.process.now c.args.text.now c.args.params.now) ≡ Gives reply (logs_left c.next_at.new.logs.items c.next_at.new.used.items) no_lists))
    same c.next_at.ensures.reply

pub returns-in_ok-count_all-in-Some-clause-diverged : goal.returns-in_ok-count_all-in-Some-clause-diverged
returns-in_ok-count_all-in-Some-clause-diverged c = λ stop.
    let same : logs_left c.self.inside.logs.items c.count_all.new.used.items ≡ c.args.self.now =
    c.count_all.ensures.same c.self.inside.logs.items ∙ c.self.view_is in
    subst (λ (l : List Log). log_base l (question c.args.process.now c.args.text.now c.args.params.now) ≡ Diverges) same
    (c.next_at.ensures.diverged stop)
