use Rattle.std.proofs.Common.{◌∙◌, sym, ap, is_some, true}
use Rattle.std.specs.Ordering.{eq_by_cmp}
use Rattle.lineage.specs.inner.Blocks.{found_at}
use Rattle.lineage.specs.Lineage.{Row, row_cmp}
use Rattle.lineage.proofs.Laws.{same_row}
use Rattle.ldv_value.proofs.Options.{is_some-false}
use Rattle.lineage.proofs.RoomLaws.{kept_there, put_there}
use Rattle.lineage.proofs.table_blocks.add_row.Goals as goal

pub put_row-requires-clause-new : goal.put_row-requires-clause-new
put_row-requires-clause-new c = is_some-false (found_at c.args.blocks.now c.args.row) (sym c.has_row.ensures ∙ c.if-has_row.false)

pub returns-clause-found : goal.returns-clause-found
returns-clause-found c = λ q.
    c.put_row.ensures.found q
    ∙ put_there (found_at c.args.blocks.now q) (eq_by_cmp row_cmp q c.args.row) c.args.version
    (λ tie. ap (found_at c.args.blocks.now) (same_row q c.args.row tie) ∙ is_some-false (found_at c.args.blocks.now c.args.row) (sym c.has_row.ensures ∙ c.if-has_row.false))

pub returns-then-has_row-clause-found : goal.returns-then-has_row-clause-found
returns-then-has_row-clause-found c = λ q.
    kept_there (found_at c.args.blocks.now q) (eq_by_cmp row_cmp q c.args.row) c.args.version
    (λ tie. ap (λ (r : Row). is_some (found_at c.args.blocks.now r)) (same_row q c.args.row tie) ∙ sym c.has_row.ensures ∙ c.if-has_row.true)
