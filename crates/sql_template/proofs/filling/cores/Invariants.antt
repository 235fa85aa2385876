use Rattle.std.proofs.Common.{◌≡◌, ◌++◌, drop, map}
use Rattle.sql_template.specs.Filling.{filled_core}
use Rattle.sql_template.specs.Preparing.{given_in}
use Rattle.sql_template.proofs.filling.cores.Given as goal

abbrev pub invariant-loop-one : goal.invariant-loop-one
invariant-loop-one l = l.made ++ map (filled_core (given_in l.params)) (drop l.one-index l.one-items) ≡ map (filled_core (given_in l.params)) l.template
