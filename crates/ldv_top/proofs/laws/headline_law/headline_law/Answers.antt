use Rattle.ldv_top.proofs.HeadlineLaw.{replay_due, recorded_due}
use Rattle.ldv_top.proofs.laws.headline_law.headline_law.Goals as goal

pub returns-clause-replayed : goal.returns-clause-replayed
returns-clause-replayed c =
    replay_due c.round_trip_law.ensures.again c.round_trip_law.ensures.counted c.package_law.ensures.valid
    c.package_law.ensures.typed
    c.package_law.ensures.tables c.between_law.ensures.replay c.log_law.ensures.picked c.audit_law.ensures.sound
    c.audit_law.ensures.recorded

pub returns-clause-recorded : goal.returns-clause-recorded
returns-clause-recorded c =
    recorded_due c.round_trip_law.ensures.again c.round_trip_law.ensures.counted c.package_law.ensures.valid
    c.package_law.ensures.typed
    c.package_law.ensures.tables c.between_law.ensures.replay c.log_law.ensures.picked c.audit_law.ensures.sound
    c.audit_law.ensures.recorded
