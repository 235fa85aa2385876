use Rattle.replay_db.proofs.RunsBetween.{records_as}
use Rattle.replay_db.proofs.record.record_parsed.Goals as goal

pub returns-clause-between : goal.returns-clause-between
returns-clause-between c =
    records_as c.args.mode c.args.budget c.args.parsed.now.world c.package_of_mode.result c.package_of_mode.ensures
