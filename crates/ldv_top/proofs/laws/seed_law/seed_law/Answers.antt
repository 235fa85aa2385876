use Rattle.ldv_top.proofs.SeedLaws.{seed_due}
use Rattle.ldv_top.proofs.laws.seed_law.seed_law.Goals as goal

pub returns : goal.returns
returns c =
    seed_due c.round_trip_law.ensures.again c.round_trip_law.ensures.counted c.package_law.ensures.valid
    c.package_law.ensures.typed c.package_law.ensures.tables c.order_law.ensures
