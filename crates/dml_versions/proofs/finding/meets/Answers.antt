use Rattle.std.proofs.Common.{ap, sym, ◌∙◌, subst, Option}
use Rattle.ldv_value.proofs.Booleans.{and-true}
use Rattle.sql_model.specs.Changes.{is_matched}
use Rattle.sql_model.specs.Meaning.{is_true, truth}
use Rattle.sql_model.specs.Scope.{environment}
use Rattle.dml_versions.specs.inner.Finding.{IsPickPlaced}
use Rattle.dml_versions.specs.Types.{Expr}
use Rattle.dml_versions.proofs.finding.meets.Goals as goal

pub returns-in_ok-truth_of-in-Some : goal.returns-in_ok-truth_of-in-Some
returns-in_ok-truth_of-in-Some c = λ scope number placed.
    c.is_certain.ensures
    ∙ ap is_true (c.in_ok-truth_of-in-Some.ensures scope (subst (λ (o : Option Expr). IsPickPlaced scope o c.args.places.now) c.in-Some.is placed))
    ∙ sym (and-true (is_true (truth c.in-Some.expr (environment scope c.args.values.now))))
    ∙ ap (λ (o : Option Expr). is_matched scope o (record { number = number; values = c.args.values.now })) (sym c.in-Some.is)
