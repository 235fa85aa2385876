use Rattle.std.proofs.Common.{subst, Option}
use Rattle.std.specs.Prelude.{IfSome}
use Rattle.sql_engine.specs.Types.{Checked}
use Rattle.sql_template.specs.Checking.{IsReadyFor}
use Rattle.sql_engine.proofs.cache.Cache.find.Goals as goal

pub returns-in-Some-clause-found : goal.returns-in-Some-clause-found
returns-in-Some-clause-found c =
    subst (λ (o : Option Checked). IfSome o (IsReadyFor c.args.text.now c.args.params.now c.args.catalog.now)) c.in-Some.is c.in_ok-found.ensures
