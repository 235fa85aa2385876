use Rattle.std.proofs.Common.{◌∙◌, ◌<◌, ap, sym, ℕ, Some, Option, length}
use Rattle.std.specs.Prelude.{find}
use Rattle.std.specs.Option.{option_map}
use Rattle.sql_model.specs.References.{has_key}
use Rattle.table_store.specs.Types.{Table, TableRow}
use Rattle.table_store.proofs.NowLaws.{not_absent, given_now, now_at}
use Rattle.table_store.proofs.store.Store.by_key.Goals as goal

pub unreachable-requires : goal.unreachable-requires
unreachable-requires c = not_absent c.args.table.now c.args.self.now c.requires.there c.in-None.ensures.table

pub by_key-requires : goal.by_key-requires
by_key-requires c = given_now (λ table. 0 < length table.schema.key) c.args.table.now c.args.self.now c.in-Some.held.now c.in-Some.ensures.table c.requires.keyed

pub returns : goal.returns
returns c =
    ap (option_map (λ (table : Table). option_map (λ (row : TableRow). row.number) (find (has_key table.schema.key c.args.key.now) table.rows))) (now_at c.args.table.now c.args.self.now c.in-Some.held.now c.in-Some.ensures.table)
    ∙ ap (λ (o : Option ℕ). Some o) (sym c.by_key.ensures)
