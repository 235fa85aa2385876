use Rattle.std.proofs.Common.{◌≡◌, ◌∙◌, ap, sym, subst, ℕ, Some, length}
use Rattle.std.proofs.lemmas.Result.{IfOk-weaker}
use Rattle.sql_template.specs.Filling.{filled_statement}
use Rattle.sql_template.specs.Preparing.{given_in, IsTemplate}
use Rattle.sql_template.specs.Types.{Statement}
use Rattle.sql_template.proofs.Markers.{template_filled}
use Rattle.sql_model.specs.Texts.{statement_of}
use Rattle.sql_template.proofs.template.Template.statement.Goals as goal

pub returns-clause-read : goal.returns-clause-read
returns-clause-read c =
    let t = c.args.self.now in
    let params = c.args.params.now in
    let read : IsTemplate t.text (length params) t.base = subst (λ (n : ℕ). IsTemplate t.text n t.base) (sym c.requires.count) c.requires.opened.read in
    IfOk-weaker c.statement.result (λ (made : Statement). made ≡ filled_statement (given_in params) t.base) (λ (made : Statement). statement_of t.text params ≡ Some made)
    (λ made is. template_filled t.text params t.base c.requires.opened.utf8 read ∙ ap (λ (s : Statement). Some s) (sym is))
    c.statement.ensures
