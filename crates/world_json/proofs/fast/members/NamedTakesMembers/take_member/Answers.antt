use Rattle.world_json.proofs.TakenParts.{named_member}
use Rattle.world_json.proofs.fast.members.NamedTakesMembers.take_member.Goals as goal

pub returns-in-Ok-clause-taken : goal.returns-in-Ok-clause-taken
returns-in-Ok-clause-taken g c =
    named_member g.X.FromNamedTokens.of_member g.X.FromNamedTokens.typed g.X.FromNamedTokens.levels c.args.name.now c.in_ok-own.own c.in_ok-key.key c.in_ok-member.member c.args.reader.now c.from_tokens.new.reader
    c.args.self.now.members.entries c.insert.new.self.entries c.in_ok-own.ensures.text c.in_ok-key.ensures.ok c.in_ok-member.ensures.taken c.in_ok-member.ensures.typed c.in-Ok.ensures.entries
