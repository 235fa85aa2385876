use Rattle.table_store.specs.Histories.{rows_now}
use Rattle.table_store.proofs.RowWalks.{next_stands, walked_on, walked_end}
use Rattle.table_store.proofs.rows.table_rows.standing_rows.Goals as goal

pub returns-in-None : goal.returns-in-None
returns-in-None c =
    let slots = c.args.rows.now.slots in
    walked_end slots c.standing_slots-words.result.now c.standing_slots-words.ensures.members c.slots.made (rows_now slots) c.slots.at c.in-None.ensures c.slots.invariant

pub add_standing-requires : goal.add_standing-requires
add_standing-requires c =
    next_stands c.args.rows.now.slots c.standing_slots-words.result.now c.standing_slots-words.ensures.members c.slots.at c.in-Some.slot c.in-Some.ensures

pub after-at-requires : goal.after-at-requires
after-at-requires c =
    next_stands c.args.rows.now.slots c.standing_slots-words.result.now c.standing_slots-words.ensures.members c.slots.at c.in-Some.slot c.in-Some.ensures

pub slots-preserved : goal.slots-preserved
slots-preserved c =
    let slots = c.args.rows.now.slots in
    walked_on slots c.standing_slots-words.result.now c.standing_slots-words.ensures.members c.slots.made c.add_standing.new.made (rows_now slots) c.slots.at c.in-Some.slot c.after-at.result
    c.in-Some.ensures c.in_ok-add_standing-in-Some.ensures c.after-at.ensures.next c.slots.invariant
