use Rattle.ldv_top.proofs.MigrationLaws.{migrated_law}
use Rattle.ldv_top.proofs.laws.migration_law.migration_law.Goals as goal

pub returns : goal.returns
returns c =
    migrated_law c.round_trip_law.ensures.again c.round_trip_law.ensures.counted c.audit_law.ensures.sound
    c.audit_law.ensures.own
