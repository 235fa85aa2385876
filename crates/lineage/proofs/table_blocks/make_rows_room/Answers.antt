use Rattle.std.proofs.Common.{◌≡◌, ◌+◌, ◌-◌, ℕ, List, sym, subst, drop, arith}
use Rattle.lineage.specs.inner.Blocks.{AllRoom}
use Rattle.lineage.specs.Lineage.{Row}
use Rattle.lineage.proofs.RoomLaws.{roomier_still, row_at_place, all_stay}
use Rattle.lineage.proofs.table_blocks.make_rows_room.Goals as goal

pub rows-preserved : goal.rows-preserved
rows-preserved c =
    let rows : List (Row × ℕ) = c.args.rows.now in
    let left : ℕ = c.rows.left - 1 in
    let old = c.rows.blocks in
    let new = c.make_row_room.new.blocks in
    let next : left + 1 ≡ c.rows.left = omega (arith, c.rows-test.true) in
    let split = row_at_place rows left _ (omega (arith, c.rows-test.true, c.rows.invariant.0)) in (
      omega (arith, c.rows.invariant.0),
      roomier_still c.args.blocks.now old new c.rows.invariant.1 c.make_row_room.ensures.roomier,
      subst (AllRoom new) (sym split) (
        c.in_ok-make_row_room.ensures.room,
        all_stay old new c.make_row_room.ensures.roomier.stays (drop (left + 1) rows) (subst (λ (k : ℕ). AllRoom old (drop k rows)) (sym next) c.rows.invariant.2),
      ),
    )

pub returns-in_err-make_row_room-clause-roomier : goal.returns-in_err-make_row_room-clause-roomier
returns-in_err-make_row_room-clause-roomier c = roomier_still c.args.blocks.now c.rows.blocks c.make_row_room.new.blocks c.rows.invariant.1 c.make_row_room.ensures.roomier
