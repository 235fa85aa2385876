use Rattle.std.specs.List.{AllByRecursion}
use Rattle.serde_json.specs.View.{members_view}
use Rattle.world_json.specs.Shape.{each_member}
use Rattle.world_json.proofs.Each.{IsSoFar}
use Rattle.world_json.proofs.shape.read_members.Given as goal

abbrev pub invariant-loop-name : goal.invariant-loop-name
invariant-loop-name g l = record {
  read : IsSoFar (each_member g.X.FromMember.of_member (members_view l.fn.members.entries)) l.found (each_member g.X.FromMember.of_member (members_view l.name-iterator));
  typed : AllByRecursion g.X.FromMember.typed l.found;
}
