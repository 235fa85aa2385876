use Rattle.std.proofs.Common.{◌≡◌, subst, rules}
use Rattle.std.specs.Prelude.{Ok}
use Rattle.sql_model.specs.Places.{checked_of}
use Rattle.sql_template.specs.Kinds.{FitsLimit}
use Rattle.sql_template.specs.Preparing.{given_in}
use Rattle.sql_template.specs.Types.{Statement}
use Rattle.sql_template.proofs.prepared.places_of.Goals as goal

pub returns-in-Ok : goal.returns-in-Ok
returns-in-Ok c = record {
  limit = subst (FitsLimit (given_in c.args.params.now)) c.base.ensures (c.fits_limit.ensures (search rules));
  given = subst (λ (s : Statement). checked_of s c.args.catalog.now ≡ Ok (record { statement = s; places = c.in-Ok.places })) c.in_ok-statement.ensures.made c.in-Ok.ensures;
}
