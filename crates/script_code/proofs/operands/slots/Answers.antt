use Rattle.std.proofs.Common.{◌≡◌, [], refl, arith}
use Rattle.ldv_value.proofs.Lists.{nil-from-length}
use Rattle.script_code.proofs.KnownNames.{keeps_on}
use Rattle.ldv_value.proofs.FirstItems.{split_first}
use Rattle.script_code.proofs.Resolving.{slot_next, slots_done}
use Rattle.script_code.proofs.operands.slots.Goals as goal

pub loop-rest-preserved : goal.loop-rest-preserved
loop-rest-preserved c = record {
  so = slot_next c.loop-rest.names c.intern.new.self c.in_ok-intern.ensures.keeps c.args.wanted.now c.loop-rest.rest.now _
      c.name-item.result _ c.loop-rest.slots c.push.new.self
      (split_first c.loop-rest.rest.now _ c.name-item.result c.in-len1-up.len_at_least c.name-item.is refl)
      c.in_ok-push.ensures.ok c.in_ok-intern.ensures.slot c.loop-rest.invariant.so;
  keeps = keeps_on _ c.loop-rest.names _ c.loop-rest.invariant.keeps c.in_ok-intern.ensures.keeps;
}

pub returns-clause-slots : goal.returns-clause-slots
returns-clause-slots c =
    let none : c.loop-rest.rest.now ≡ [] = nil-from-length c.loop-rest.rest.now (omega (arith, c.in_default.len_below)) in
    slots_done c.loop-rest.names c.args.wanted.now c.loop-rest.rest.now c.loop-rest.slots none c.loop-rest.invariant.so
