use Rattle.std.proofs.Common.{rules, ◌≡◌, ◌∷◌, ◌^◌, ◌<◌, List, [], refl, true, false, arith}
use Rattle.std.proofs.lemmas.Result.{on_ok_weaker}
use Rattle.ldv_value.proofs.FirstItems.{split_first}
use Rattle.ldv_value.proofs.Lists.{nil-from-length}
use Rattle.run_model.specs.declared.event.Event.{Event}
use Rattle.package_codec.specs.Runs.{Begun, joins}
use Rattle.package_codec.proofs.RunFields.{stands_grown, stands_next, stands_last, due_grown, due_next}
use Rattle.package_codec.proofs.trace.writing.encode_from.Goals as goal

pub returns-in-empty-clause-typed : goal.returns-in-empty-clause-typed
returns-in-empty-clause-typed c =
    let all : List Event = c.args.first.now ∷ c.args.rest.now in
    let b : Begun = record { run = record { first = c.loop-left.begun.now; count = c.loop-left.count; stride = c.loop-left.stride }; last = c.loop-left.last } in
    let none : c.loop-left.left.now ≡ [] = nil-from-length c.loop-left.left.now (omega (arith, c.in-empty.len_below)) in
    let small : c.loop-left.last < 2 ^ 32 = omega (arith, c.loop-left.auto.last-fits) in
    on_ok_weaker c.encode_run.result (stands_last all b c.loop-left.left.now c.loop-left.invariant.stands none small) c.encode_run.ensures.typed

pub loop-left-preserved-then-joins : goal.loop-left-preserved-then-joins
loop-left-preserved-then-joins c =
    let all : List Event = c.args.first.now ∷ c.args.rest.now in
    let b : Begun = record { run = record { first = c.loop-left.begun.now; count = c.loop-left.count; stride = c.loop-left.stride }; last = c.loop-left.last } in
    let on : joins b c.event-item.result ≡ true = search rules in
    let is = split_first c.loop-left.left.now c.loop-left.left.now c.event-item.result c.in-len1-up.len_at_least c.event-item.is refl in
    record {
      bytes = due_grown c.loop-left.to _ b c.loop-left.left.now c.event-item.result _ is on c.loop-left.invariant.bytes;
      fits = search rules;
      stands = stands_grown all b c.loop-left.left.now c.event-item.result _ c.loop-left.invariant.stands is on;
    }

pub loop-left-preserved : goal.loop-left-preserved
loop-left-preserved c =
    let all : List Event = c.args.first.now ∷ c.args.rest.now in
    let b : Begun = record { run = record { first = c.loop-left.begun.now; count = c.loop-left.count; stride = c.loop-left.stride }; last = c.loop-left.last } in
    let small : c.loop-left.last < 2 ^ 32 = omega (arith, c.loop-left.auto.last-fits) in
    let off : joins b c.event-item.result ≡ false = search rules in
    let is = split_first c.loop-left.left.now c.loop-left.left.now c.event-item.result c.in-len1-up.len_at_least c.event-item.is refl in
    record {
      bytes = due_next c.loop-left.to _ _ b c.loop-left.left.now c.event-item.result _ is off c.in_ok-encode_run-in-len1-up.ensures.bytes c.loop-left.invariant.bytes;
      fits = search rules;
      stands = stands_next all b c.loop-left.left.now c.event-item.result _ c.loop-left.invariant.stands is small c.in_ok-encode_run-in-len1-up.ensures.typed;
    }
