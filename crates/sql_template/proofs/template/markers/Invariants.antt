use Rattle.std.proofs.Common.{◌≡◌}
use Rattle.sql_template.specs.Preparing.{markers}
use Rattle.sql_template.proofs.template.markers.Given as goal

abbrev pub invariant-loop-place : goal.invariant-loop-place
invariant-loop-place l = l.made ≡ markers l.place
