use Rattle.std.proofs.Common.{◌≡◌, take, map}
use Rattle.world_json.proofs.name_rules.key_names.Given as goal

abbrev pub invariant-loop-name : goal.invariant-loop-name
invariant-loop-name l = map (λ name. name.now) l.names.items ≡ take l.name-index l.name-items
