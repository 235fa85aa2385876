use Rattle.std.proofs.Common.{◌≡◌, take, map}
use Rattle.sql_check.proofs.duplicate.all_names.Given as goal

abbrev pub invariant-loop-item : goal.invariant-loop-item
invariant-loop-item g l = map (λ name. name.now) l.names.items ≡ map g.N.Named.name (take l.item-index l.items)
