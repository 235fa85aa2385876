use Rattle.std.proofs.Common.{subst, List, ℕ, Option}
use Rattle.std.specs.Prelude.{IfSome}
use Rattle.sql_template.specs.Checking.{ArePlacesOf}
use Rattle.sql_template.proofs.prepared.prepared_of.Goals as goal

pub prepared_with-requires-clause-places : goal.prepared_with-requires-clause-places
prepared_with-requires-clause-places c =
    subst (λ (o : Option (List (List ℕ))). IfSome o (ArePlacesOf c.args.catalog.now c.args.template c.args.params.now)) c.in-Some.is c.in_ok-found.ensures
