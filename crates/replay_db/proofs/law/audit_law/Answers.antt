use Rattle.replay_db.proofs.AuditLaws.{sound_law, recorded_sound_law, own_sound_law}
use Rattle.replay_db.proofs.law.audit_law.Goals as goal

pub returns-clause-sound : goal.returns-clause-sound
returns-clause-sound c = sound_law

pub returns-clause-recorded : goal.returns-clause-recorded
returns-clause-recorded c = recorded_sound_law

pub returns-clause-own : goal.returns-clause-own
returns-clause-own c =
    own_sound_law c.package_law.ensures.valid c.package_law.ensures.typed c.package_law.ensures.tables
    c.package_law.ensures.own_world c.round_trip_law.ensures.counted c.round_trip_law.ensures.unique
