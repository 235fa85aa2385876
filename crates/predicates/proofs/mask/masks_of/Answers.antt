use Rattle.std.proofs.Common.{◌+◌, drop, subst, sym}
use Rattle.ldv_value.proofs.Places.{drop_item}
use Rattle.predicates.proofs.MaskLaws.{masks-more}
use Rattle.predicates.specs.Masking.{AreMasks}
use Rattle.predicates.proofs.mask.masks_of.Goals as goal

pub loop-cond-preserved : goal.loop-cond-preserved
loop-cond-preserved c =
    let conds = c.args.conds.now in
    let i = c.loop-cond.cond-index in
    let cond = c.cond-item.result in
    let split = drop_item conds i cond c.loop-cond-test.true c.cond-item.is in
    subst (AreMasks conds c.args.before c.args.columns.now) (sym c.in_ok-add_mask.ensures)
    (masks-more conds (drop (i + 1) conds) i c.args.before cond c.args.columns.now c.loop-cond.masks.items c.in_ok-mask.mask split c.in_ok-mask.ensures c.loop-cond.invariant)
