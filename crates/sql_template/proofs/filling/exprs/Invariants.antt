use Rattle.std.proofs.Common.{◌≡◌, ◌++◌, drop, map}
use Rattle.sql_template.specs.Filling.{filled_expr}
use Rattle.sql_template.specs.Preparing.{given_in}
use Rattle.sql_template.proofs.filling.exprs.Given as goal

abbrev pub invariant-loop-item : goal.invariant-loop-item
invariant-loop-item l = l.made ++ map (filled_expr (given_in l.params)) (drop l.item-index l.item-items) ≡ map (filled_expr (given_in l.params)) l.template
