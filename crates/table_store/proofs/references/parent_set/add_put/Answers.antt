use Rattle.std.proofs.Common.{◌∙◌, ◌&&◌, ◌||◌, ap, sym}
use Rattle.std.specs.BTreeSet.{contains}
use Rattle.ldv_value.proofs.Booleans.{or-false}
use Rattle.table_store.specs.inner.ParentSet.{is_row, name_order}
use Rattle.table_store.proofs.references.parent_set.add_put.Goals as goal

pub returns-then-not-is_put : goal.returns-then-not-is_put
returns-then-not-is_put c = λ row.
    let old = contains name_order c.args.found.now row in
    sym (ap (λ b. old || (b && is_row (c.args.own.now.name, c.args.number) row)) (sym c.is_put.ensures ∙ c.if-not-is_put.true) ∙ or-false old)

pub returns : goal.returns
returns c = λ row.
    let old = contains name_order c.args.found.now row in
    c.in_ok-add_row.ensures row
    ∙ (λ j. old || is_row (c.in_ok-table.ensures j, c.args.number) row)
    ∙ sym (ap (λ b. old || (b && is_row (c.args.own.now.name, c.args.number) row)) (sym c.is_put.ensures ∙ c.if-not-is_put.false))
