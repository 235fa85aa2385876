use Rattle.std.proofs.Common.{◌≤◌, length}
use Rattle.world_json.proofs.Taken.{MembersSoFar}
use Rattle.world_json.proofs.fast.members.take_members.Given as goal

abbrev pub invariant-members : goal.invariant-members
invariant-members g l = record {
  read : MembersSoFar g.K.TakesMembers.kept g.K.TakesMembers.levels l.fn.reader l.reader l.fn.to l.to;
  shorter : length l.reader ≤ length l.fn.reader;
}

abbrev pub decreases-members : goal.decreases-members
decreases-members g l = length l.reader
