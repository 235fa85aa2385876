use Rattle.std.proofs.Common.{◌≡◌, [], refl, arith}
use Rattle.ldv_value.proofs.Lists.{nil-from-length}
use Rattle.script_code.proofs.KnownNames.{keeps_on}
use Rattle.ldv_value.proofs.FirstItems.{split_first}
use Rattle.script_code.proofs.Resolving.{operand_next, operands_done}
use Rattle.script_code.proofs.operands.operands.Goals as goal

pub loop-rest-preserved : goal.loop-rest-preserved
loop-rest-preserved c = record {
  so = operand_next c.loop-rest.names c.operand.new.names c.in_ok-operand.ensures.keeps c.args.operands.now c.loop-rest.rest.now _
      c.item-item.result _ c.loop-rest.slotted c.push.new.self
      (split_first c.loop-rest.rest.now _ c.item-item.result c.in-len1-up.len_at_least c.item-item.is refl)
      c.in_ok-push.ensures.ok c.in_ok-operand.ensures.slotted c.loop-rest.invariant.so;
  keeps = keeps_on _ c.loop-rest.names _ c.loop-rest.invariant.keeps c.in_ok-operand.ensures.keeps;
}

pub returns-clause-slotted : goal.returns-clause-slotted
returns-clause-slotted c =
    let none : c.loop-rest.rest.now ≡ [] = nil-from-length c.loop-rest.rest.now (omega (arith, c.in_default.len_below)) in
    operands_done c.loop-rest.names c.args.operands.now c.loop-rest.rest.now c.loop-rest.slotted none c.loop-rest.invariant.so
