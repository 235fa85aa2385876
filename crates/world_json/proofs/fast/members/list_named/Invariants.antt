use Rattle.std.proofs.Common.{◌≡◌, ◌++◌, map}
use Rattle.world_json.proofs.fast.members.list_named.Given as goal

abbrev pub invariant-loop-name : goal.invariant-loop-name
invariant-loop-name g l = map (λ e. e.1) l.fn.named.members.entries ≡ l.found ++ map (λ e. e.1) l.name-iterator
