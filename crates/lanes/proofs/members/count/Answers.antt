use Rattle.std.proofs.Common.{arith, ◌+◌, count_ones}
use Rattle.std.proofs.lemmas.List.Sums.{sum_by-take-le, sum_by-take-drop}
use Rattle.lanes.proofs.CountLaws.{size_is, ones_bound, ones_eight}
use Rattle.lanes.proofs.members.count.Goals as goal

pub overflow_add-total : goal.overflow_add-total
overflow_add-total c = record { fits = omega (arith, ones_eight c.args.a.now c.eights.at, sum_by-take-le count_ones c.args.a.now (c.eights.at + 8), ones_bound c.args.a.now c.type_inv.a, c.eights.invariant.total, c.count_block-total.ensures) }

pub eights-preserved : goal.eights-preserved
eights-preserved c = record {
  within = omega arith;
  total = omega (arith, ones_eight c.args.a.now c.eights.at, c.eights.invariant.total, c.count_block-total.ensures);
}

pub overflow_add-result : goal.overflow_add-result
overflow_add-result c = record { fits = omega (arith, sum_by-take-drop count_ones c.args.a.now c.eights.at, ones_bound c.args.a.now c.type_inv.a, c.eights.invariant.total, c.count_rest.ensures) }

pub returns : goal.returns
returns c = omega (arith, sum_by-take-drop count_ones c.args.a.now c.eights.at, c.eights.invariant.total, c.count_rest.ensures, size_is c.args.a.now c.type_inv.a)
