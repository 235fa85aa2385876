use Rattle.predicates.specs.Masking.{AreMasks}
use Rattle.predicates.proofs.mask.masks_of.Given as goal

abbrev pub invariant-loop-cond : goal.invariant-loop-cond
invariant-loop-cond l = AreMasks l.conds l.before l.columns l.masks.items
