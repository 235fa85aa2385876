use Rattle.std.proofs.Common.{List}
use Rattle.query_eval.specs.inner.TableScan.{rows_at_slots, rows_in}
use Rattle.query_eval.specs.declared.source.SourceRow.{SourceRow}
use Rattle.query_eval.proofs.TableScanLaws.{chosen_end, chosen_next}
use Rattle.query_eval.proofs.table_scan.rows_chosen.Goals as goal

pub returns-in-None : goal.returns-in-None
returns-in-None c =
    let slots = c.args.table.now.slots in
    let words = c.args.words.now in
    chosen_end slots words slots c.slots.rows (rows_in slots (rows_at_slots words 0 slots)) c.slots.at c.in-None.ensures c.slots.invariant

pub slots-preserved : goal.slots-preserved
slots-preserved c =
    let slots = c.args.table.now.slots in
    let words = c.args.words.now in
    chosen_next slots words slots c.slots.rows c.add_slot.new.rows (rows_in slots (rows_at_slots words 0 slots)) c.slots.at c.in-Some.slot c.after_member-at.result
    c.in-Some.ensures c.in_ok-add_slot-in-Some.ensures c.after_member-at.ensures.next c.slots.invariant
