use Rattle.std.proofs.Common.{◌≡◌, ◌∙◌, ap, length, List, subst, sym}
use Rattle.sql_template.specs.Checking.{ArePlacesOf}
use Rattle.sql_template.specs.Types.{Value}
use Rattle.sql_template.proofs.prepared.prepared_with.Goals as goal

pub returns-clause-prepared : goal.returns-clause-prepared
returns-clause-prepared c = record {
  opened = c.requires.opened;
  count = ap length c.in_ok-with.ensures ∙ c.requires.count;
  are = subst (λ (ps : List Value). ArePlacesOf c.args.catalog.now c.args.template ps c.args.places) (sym c.in_ok-with.ensures) c.requires.places;
}
