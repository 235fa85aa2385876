use Rattle.std.proofs.Common.{◌≡◌, ◌++◌, drop}
use Rattle.std.specs.List.{flat_map}
use Rattle.sql_model.specs.Kinds.{names_in}
use Rattle.sql_model.specs.Scope.{places_in}
use Rattle.sql_check.proofs.places.push_expr_places.Given as goal

abbrev pub invariant-loop-expr : goal.invariant-loop-expr
invariant-loop-expr l = l.places.items ++ places_in l.scope (flat_map names_in (drop l.expr-index l.exprs)) ≡ l.initial.places.items ++ places_in l.scope (flat_map names_in l.exprs)
