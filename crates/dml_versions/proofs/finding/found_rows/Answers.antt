use Rattle.std.proofs.Common.{List, subst, Option}
use Rattle.std.specs.Prelude.{IfSome}
use Rattle.dml_versions.specs.inner.Fixing.{WhereFixesKey}
use Rattle.dml_versions.specs.Types.{Schema, Value}
use Rattle.dml_versions.proofs.finding.found_rows.Goals as goal

pub found_by_key-requires-clause-fixed : goal.found_by_key-requires-clause-fixed
found_by_key-requires-clause-fixed c =
    subst (λ (s : Schema). WhereFixesKey c.args.pick.now c.args.places.now s.key c.in-Some.values) c.schema.ensures
    (subst (λ (o : Option (List Value)). IfSome o (WhereFixesKey c.args.pick.now c.args.places.now c.schema.result.now.key)) c.in-Some.is c.in_ok-fixed.ensures)
