use Rattle.std.proofs.Common.{◌≡◌, [], refl, arith}
use Rattle.ldv_value.proofs.Lists.{nil-from-length}
use Rattle.script_code.proofs.KnownNames.{keeps_all_on}
use Rattle.ldv_value.proofs.FirstItems.{split_first}
use Rattle.script_code.proofs.Resolving.{instr_next, instrs_done}
use Rattle.script_code.proofs.resolve.instructions.Goals as goal

pub loop-rest-preserved : goal.loop-rest-preserved
loop-rest-preserved c = record {
  so = instr_next c.loop-rest.scope c.instruction.new.scope c.in_ok-instruction.ensures.keeps c.args.script.now c.loop-rest.rest.now _
      c.instr-item.result _ c.loop-rest.instructions c.push.new.self
      (split_first c.loop-rest.rest.now _ c.instr-item.result c.in-len1-up.len_at_least c.instr-item.is refl)
      c.in_ok-push.ensures.ok c.in_ok-instruction.ensures.slotted c.loop-rest.invariant.so;
  keeps = keeps_all_on _ c.loop-rest.scope c.loop-rest.invariant.keeps _ c.in_ok-instruction.ensures.keeps;
}

pub returns-clause-slotted : goal.returns-clause-slotted
returns-clause-slotted c =
    let none : c.loop-rest.rest.now ≡ [] = nil-from-length c.loop-rest.rest.now (omega (arith, c.in_default.len_below)) in
    instrs_done c.loop-rest.scope c.args.script.now c.loop-rest.rest.now c.loop-rest.instructions none c.loop-rest.invariant.so
