use Rattle.std.proofs.Common.{◌≡◌, map}
use Rattle.serde_json.specs.View.{members_view}
use Rattle.world_json.specs.Shape.{only}
use Rattle.world_json.proofs.members.has_only.Given as goal

abbrev pub invariant-loop-key : goal.invariant-loop-key
invariant-loop-key l = only (map (λ name. name.now) l.names) (members_view l.members.entries) ≡ only (map (λ name. name.now) l.names) (members_view l.key-iterator)
