use Rattle.std.proofs.Common.{arith}
use Rattle.table_store.proofs.NowLaws.{not_absent, ok_rows}
use Rattle.table_store.proofs.store.Store.rows_at.Goals as goal

pub unreachable-requires : goal.unreachable-requires
unreachable-requires c = not_absent c.args.table.now c.args.self.now c.requires c.in-None.ensures.table

pub returns-clause-last : goal.returns-clause-last
returns-clause-last c = λ past.
    ok_rows c.rows_at.result c.args.table.now c.args.self.now c.in-Some.held.now c.in-Some.ensures.table (c.rows_at.ensures.last (omega (arith, past, c.in-Some.ensures.timed)))
