use Rattle.std.proofs.Common.{◌∙◌, sym, subst, Some}
use Rattle.std.proofs.lemmas.Result.{on_ok_weaker}
use Rattle.query_eval.specs.inner.Asked.{IsAskedBy}
use Rattle.query_eval.proofs.asked.ask_for.Goals as goal

pub returns-in-None-clause-kept : goal.returns-in-None-clause-kept
returns-in-None-clause-kept c = λ key had. had

pub returns-in-None-clause-asked : goal.returns-in-None-clause-asked
returns-in-None-clause-asked c = subst (IsAskedBy (Some c.args.keys.now)) (sym c.in-None.is ∙ c.in_ok-own.ensures) tt

pub returns-in-Some-clause-asked : goal.returns-in-Some-clause-asked
returns-in-Some-clause-asked c =
    on_ok_weaker c.add_key.result (λ added. subst (IsAskedBy (Some c.add_key.new.keys)) (sym c.in-Some.is ∙ c.in_ok-own.ensures) added) c.add_key.ensures.added
