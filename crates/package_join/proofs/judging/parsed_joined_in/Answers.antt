use Rattle.package_join.proofs.ParsedJoins.{cuts_made, starts_made}
use Rattle.package_join.proofs.judging.parsed_joined_in.Goals as goal

pub returns-clause-cuts : goal.returns-clause-cuts
returns-clause-cuts c = cuts_made c.args.bytes.now c.joined_by_parts.result c.joined_by_parts.ensures.made

pub returns-clause-parsed : goal.returns-clause-parsed
returns-clause-parsed c = starts_made c.args.bytes.now c.joined_by_parts.result c.joined_by_parts.ensures.made
