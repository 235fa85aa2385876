use Rattle.std.proofs.Common.{◌≡◌, Some, false, length}
use Rattle.std.specs.Prelude.{slice_get, ◌+◌, ◌/◌}
use Rattle.std.specs.Option.{option_map}
use Rattle.table_store.proofs.NowLaws.{not_absent, given_at}
use Rattle.table_store.proofs.store.Store.scan.Goals as goal

pub unreachable-requires : goal.unreachable-requires
unreachable-requires c = not_absent c.args.table.now c.args.self.now c.requires.there c.in-None.ensures.table

pub scan-requires-clause-column : goal.scan-requires-clause-column
scan-requires-clause-column c = given_at (λ history. option_map (λ column. column.text) (slice_get history.schema.columns c.args.column) ≡ Some false) c.args.table.now c.args.self.now c.in-Some.held.now c.in-Some.ensures.table c.requires.column

pub scan-requires-clause-mask : goal.scan-requires-clause-mask
scan-requires-clause-mask c = given_at (λ history. length c.args.mask.now ≡ (length history.slots + 63) / 64) c.args.table.now c.args.self.now c.in-Some.held.now c.in-Some.ensures.table c.requires.mask
