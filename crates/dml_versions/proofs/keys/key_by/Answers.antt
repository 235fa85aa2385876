use Rattle.std.proofs.Common.{List, length, subst}
use Rattle.std.specs.Prelude.{Some, IfSome}
use Rattle.predicates.proofs.Lists.{IfSome-weaker}
use Rattle.predicates.specs.Fixing.{FixesKey as FixesBy}
use Rattle.predicates.specs.declared.placed.BoundExpr.{BoundExpr}
use Rattle.dml_versions.proofs.FixingLaws.{key-fixed}
use Rattle.dml_versions.specs.inner.Fixing.{WhereFixesKey}
use Rattle.dml_versions.proofs.keys.key_by.Goals as goal

pub returns : goal.returns
returns c =
    let expr = c.args.expr.now in
    let places = c.args.places.now in
    let schema = c.args.schema.now in
    let conds = c.in_ok-conds.conds in
    IfSome-weaker c.in_ok-fixed.fixed (FixesBy conds 0 (length schema.columns) schema.key) (WhereFixesKey (Some expr) places schema.key)
    (λ values is. key-fixed expr places schema.key (length schema.columns) conds values c.in_ok-conds.ensures is)
    (subst (λ (l : List BoundExpr). IfSome c.in_ok-fixed.fixed (FixesBy l 0 (length schema.columns) schema.key)) c.items.ensures c.in_ok-fixed.ensures)
