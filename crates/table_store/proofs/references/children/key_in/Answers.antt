use Rattle.std.proofs.Common.{ap, sym, get_or}
use Rattle.std.specs.Option.{option_map}
use Rattle.sql_model.specs.Keys.{values_at}
use Rattle.table_store.specs.Histories.{no_history, row_now}
use Rattle.table_store.specs.Types.{TableRow}
use Rattle.table_store.proofs.StandingRows.{not-there}
use Rattle.table_store.proofs.references.children.key_in.Goals as goal

pub returns-in-None : goal.returns-in-None
returns-in-None c =
    let h = c.args.held.now in
    sym (ap (option_map (λ (row : TableRow). values_at h.schema.key row.values)) (not-there (row_now (get_or h.slots c.args.slot no_history)) c.in-None.ensures))
