use Rattle.table_store.proofs.NowLaws.{not_absent}
use Rattle.table_store.proofs.store.Store.version.Goals as goal

pub unreachable-requires : goal.unreachable-requires
unreachable-requires c = not_absent c.args.table.now c.args.self.now c.requires c.in-None.ensures.table
