use Rattle.std.proofs.lemmas.Result.{on_ok_weaker}
use Rattle.std.specs.Prelude.{slice_index_or}
use Rattle.table_store.specs.Histories.{no_history}
use Rattle.table_store.proofs.RowWalks.{row_stands}
use Rattle.table_store.proofs.rows.table_rows.add_standing.Goals as goal

pub returns : goal.returns
returns c =
    let row = slice_index_or c.args.rows.now.slots c.args.slot no_history in
    on_ok_weaker c.push.result (λ is. row_stands row c.number-number.result c.in_ok-values.values c.args.made.now c.push.new.self c.number-number.ensures c.in_ok-values.ensures is) c.push.ensures.ok
