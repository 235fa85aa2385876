use Rattle.std.proofs.Common.{◌≡◌, ◌∙◌, ap, subst, sym, Option, None, Err}
use Rattle.sql_engine.proofs.AskLaws.{syntax_done}
use Rattle.sql_engine.specs.Asking.{IsRecorded, refusal_change, recorded_of}
use Rattle.sql_engine.specs.Types.{Statement}
use Rattle.sql_engine.specs.declared.recorded.Recorded.{Recorded}
use Rattle.sql_model.specs.Texts.{statement_of}
use Rattle.sql_engine.proofs.execute.execute_text.Goals as goal

pub returns-in-Err-Syntax-clause-done : goal.returns-in-Err-Syntax-clause-done
returns-in-Err-Syntax-clause-done c =
    let none : statement_of c.args.text.now c.args.params.now ≡ None = c.in-Err-Syntax.ensures.syntax (ap Err c.in-Err-Syntax.field-0-is) in
    subst (λ (s : Option Statement). IsRecorded s c.args.keep c.args.store.now c.args.store.now c.recorded_of.result) (sym none)
    (subst (λ (d : Recorded). IsRecorded None c.args.keep c.args.store.now c.args.store.now d)
    (sym (c.recorded_of.ensures ∙ (λ j. recorded_of (c.refusal_change.ensures j) (c.new.ensures j))))
    (syntax_done c.args.store.now c.args.keep))
