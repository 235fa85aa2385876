use Rattle.std.proofs.Common.{◌∙◌}
use Rattle.table_store.specs.inner.Grid.{slots_of}
use Rattle.table_store.proofs.GridLaws.{slots_pushed, fits_width, fits_columns, same_kinds}
use Rattle.table_store.proofs.rows.push.push_row.Goals as goal

pub push_cells-requires-clause-count : goal.push_cells-requires-clause-count
push_cells-requires-clause-count c = fits_width c.args.columns.now.items c.args.row.values c.requires.kinds

pub push_cells-requires-clause-kinds : goal.push_cells-requires-clause-kinds
push_cells-requires-clause-kinds c = fits_columns c.args.columns.now.items c.args.row.values c.requires.kinds

pub returns-clause-slots : goal.returns-clause-slots
returns-clause-slots c =
    let new = c.push_cells.new.columns.items in
    (λ j. slots_of (c.in_ok-push.ensures.items j) (c.in_ok-push-2.ensures.items j) (c.in_ok-push-3.ensures.ok j) new)
    ∙ slots_pushed c.args.columns.now.items c.args.row.values new c.args.numbers.now.items c.args.since.now.items c.args.standing.now.items c.args.next c.args.row.number c.args.time c.requires.grid c.push_cells.ensures.pushed (fits_width c.args.columns.now.items c.args.row.values c.requires.kinds)

pub returns-clause-kinds : goal.returns-clause-kinds
returns-clause-kinds c = same_kinds c.args.columns.now.items c.args.row.values c.push_cells.new.columns.items c.push_cells.ensures.pushed.count c.push_cells.ensures.pushed.kinds
