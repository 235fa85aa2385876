use Rattle.std.proofs.lemmas.Result.{IfOk-weaker}
use Rattle.sql_engine.proofs.AnswerLaws.{core_is}
use Rattle.sql_engine.proofs.cores.core_rows.Goals as goal

pub returns : goal.returns
returns c =
    IfOk-weaker c.once.result _ _
    (λ made merged. core_is c.args.checked.now c.args.place c.args.store.now c.args.keep c.in_ok-picks.picks c.in_ok-rows.rows made c.core_of.result.now
    c.core_of.ensures c.in_ok-picks.ensures c.in_ok-rows.ensures merged)
    c.once.ensures
