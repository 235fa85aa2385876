use Rattle.world_json.proofs.TakenParts.{hex_given}
use Rattle.world_json.proofs.fast.file.take_hex_member.Goals as goal

pub returns-clause-taken : goal.returns-clause-taken
returns-clause-taken c =
    hex_given c.args.reader.now c.take_members.new.reader c.no_parts-parts.result c.take_members.new.to c.in_ok-content.content c.no_parts-parts.ensures c.in_ok-take_members.ensures.taken c.in_ok-content.ensures
