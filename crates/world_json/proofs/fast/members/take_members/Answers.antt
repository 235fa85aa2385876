use Rattle.std.proofs.Common.{◌≡◌, Some, None, arith}
use Rattle.json.specs.Json.{read_key}
use Rattle.json.proofs.Grammar.{read_key-shorter}
use Rattle.world_json.proofs.Taken.{members_start, members_step, members_done}
use Rattle.world_json.proofs.fast.members.take_members.Goals as goal

pub members-init : goal.members-init
members-init g c = record {
  read = members_start g.K.TakesMembers.kept g.K.TakesMembers.levels c.args.reader.now c.args.to.now;
  shorter = omega arith;
}

pub members-preserved : goal.members-preserved
members-preserved g c =
    let l = c.members in
    let k = c.in-Some.name.now in
    let s = c.next_key.new.self in
    let key : read_key l.reader ≡ Some (Some k, s) = grind arith in
    let less = c.in_ok-take_member.ensures.shorter in
    record {
      read = members_step g.K.TakesMembers.kept g.K.TakesMembers.levels c.args.reader.now l.reader s c.take_member.new.reader k c.args.to.now l.to c.take_member.new.self l.invariant.read key less c.in_ok-take_member.ensures.taken;
      shorter = omega (arith, less, read_key-shorter l.reader (Some k) s key, l.invariant.shorter);
    }

pub returns-clause-taken : goal.returns-clause-taken
returns-clause-taken g c =
    let l = c.members in
    let ends : read_key l.reader ≡ Some (None, c.next_key.new.self) = grind arith in
    members_done g.K.TakesMembers.kept g.K.TakesMembers.levels c.args.reader.now l.reader c.next_key.new.self c.args.to.now l.to l.invariant.read ends

pub returns-clause-shorter : goal.returns-clause-shorter
returns-clause-shorter g c =
    let l = c.members in
    let ends : read_key l.reader ≡ Some (None, c.next_key.new.self) = grind arith in
    omega (arith, read_key-shorter l.reader None c.next_key.new.self ends, l.invariant.shorter)
