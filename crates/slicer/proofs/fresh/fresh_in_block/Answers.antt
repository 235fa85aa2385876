use Rattle.std.proofs.Common.{◌∙◌, ◌||◌, ap}
use Rattle.slicer.specs.inner.Rows.{has_row}
use Rattle.slicer.proofs.FreshLaws.{asks_in, fresh_told}
use Rattle.slicer.proofs.fresh.fresh_in_block.Goals as goal

pub returns-clause-needed : goal.returns-clause-needed
returns-clause-needed c =
    λ table row. c.in_ok-unite_rows.ensures.rows table row
    ∙ ap (λ b. b || has_row c.args.needed.now table row)
    (asks_in c.args.head.now c.args.needs.now c.requires c.in_ok-words.words c.in_ok-words.ensures table row)

pub returns-clause-fresh : goal.returns-clause-fresh
returns-clause-fresh c =
    fresh_told c.args.head.now c.args.needs.now c.requires c.in_ok-words.words c.in_ok-words.ensures c.args.needed.now c.unite_rows.new.fresh
    c.in_ok-unite_rows.ensures.fresh
