use Rattle.std.proofs.Common.{◌≡◌, ◌∙◌, sym, subst, List, ℕ}
use Rattle.std.specs.Prelude.{Ok, Some}
use Rattle.sql_model.specs.Places.{checked_of}
use Rattle.sql_model.specs.Texts.{statement_of}
use Rattle.sql_template.proofs.Again.{checked_again, kinds_long, same_kinds, same_limit}
use Rattle.sql_template.specs.Preparing.{given_in}
use Rattle.sql_template.specs.Types.{Statement}
use Rattle.sql_template.proofs.prepared.Prepared.checked_with.Goals as goal

pub statement-requires-clause-count : goal.statement-requires-clause-count
statement-requires-clause-count c =
    sym (kinds_long c.args.self.now.with c.args.params.now c.requires.question.kinds) ∙ c.requires.prepared.count

pub returns : goal.returns
returns c =
    let prepared = c.args.self.now in
    let params = c.args.params.now in
    let catalog = c.args.catalog.now in
    let again = checked_again (given_in prepared.with) (given_in params) (same_kinds prepared.with params c.requires.question.kinds)
    prepared.template.base catalog
    (same_limit (given_in prepared.with) (given_in params) prepared.template.base c.requires.prepared.are.limit c.requires.question.limit)
    prepared.places c.requires.prepared.are.given in
    record {
      statement = subst (λ (t : List ℕ). statement_of t params ≡ Some c.in_ok-statement.statement) c.requires.question.same c.in_ok-statement.ensures.read;
      checked_so = subst (λ (ps : List (List ℕ)). checked_of c.in_ok-statement.statement catalog ≡ Ok (record { statement = c.in_ok-statement.statement; places = ps })) (sym c.in_ok-copy.ensures)
          (subst (λ (s : Statement). checked_of s catalog ≡ Ok (record { statement = s; places = prepared.places })) (sym c.in_ok-statement.ensures.made) again);
    }
