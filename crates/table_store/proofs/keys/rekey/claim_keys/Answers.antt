use Rattle.std.proofs.Common.{◌≡◌, ap, sym, subst, take, [], List, Some, None, Option, map, arith}
use Rattle.std.specs.Prelude.{Err}
use Rattle.std.proofs.lemmas.List.{take_all}
use Rattle.sql_model.specs.Changes.{clash_after}
use Rattle.table_store.specs.Types.{TableRow}
use Rattle.table_store.specs.Claims.{both_stop}
use Rattle.table_store.specs.GivenKeys.{AreJudged, with_claims}
use Rattle.table_store.specs.Histories.{rows_now}
use Rattle.table_store.specs.IndexView.{held_in}
use Rattle.table_store.specs.KeyIndex.{HeldKeys}
use Rattle.table_store.specs.Stops.{replaced_by, StopsAs}
use Rattle.table_store.specs.declared.keys.clash.Clash.{Clash}
use Rattle.table_store.specs.declared.keys.index.Index.{Index}
use Rattle.table_store.specs.declared.error.StoreStop.{StoreStop}
use Rattle.table_store.proofs.GivenKeyLaws.{judged_start, judged_none, judged_first, none_then}
use Rattle.table_store.proofs.InsertLaws.{RisesFrom, rows_rise}
use Rattle.table_store.proofs.RekeyLaws.{stop_as}
use Rattle.table_store.proofs.keys.rekey.claim_keys.Goals as goal

pub loop-place-init : goal.loop-place-init
loop-place-init c = judged_start c.args.places.now (rows_now c.args.stored.now.slots) c.args.given.now (λ q. held_in c.new-claims.result q) c.new-claims.ensures

pub returns-in-Err-clause-stop : goal.returns-in-Err-clause-stop
returns-in-Err-clause-stop c =
    stop_as (Unit {0}) Index (both_stop c.args.places.now (clash_after c.args.places.now [] (map (replaced_by c.args.given.now) (rows_now c.args.stored.now.slots)))) c.in-Err.stop c.in-Err.ensures.stop

pub returns-in-None-clause-ok : goal.returns-in-None-clause-ok
returns-in-None-clause-ok c = λ held are.
    let slots = c.args.stored.now.slots in
    let given = c.args.given.now in
    let places = c.args.places.now in
    let claims : HeldKeys = λ q. held_in c.loop-place.claims q in
    let rise : RisesFrom 0 (rows_now slots) = rows_rise 0 slots (λ i below. omega arith) c.tell_order.ensures.order.rising in
    let all : take c.loop-place.place given ≡ given = take_all c.loop-place.place given (omega arith) in
    let judged = subst (λ (l : List TableRow). AreJudged places (rows_now slots) given claims None l) all (subst (λ (o : Option Clash). AreJudged places (rows_now slots) given claims o (take c.loop-place.place given)) c.in-None.is c.loop-place.invariant) in
    judged_none places (rows_now slots) given rise held are claims judged

pub returns-in-None-clause-stop : goal.returns-in-None-clause-stop
returns-in-None-clause-stop c =
    let slots = c.args.stored.now.slots in
    let given = c.args.given.now in
    let places = c.args.places.now in
    let old : HeldKeys = λ q. held_in c.args.index.now q in
    let claims : HeldKeys = λ q. held_in c.loop-place.claims q in
    let rise : RisesFrom 0 (rows_now slots) = rows_rise 0 slots (λ i below. omega arith) c.tell_order.ensures.order.rising in
    let all : take c.loop-place.place given ≡ given = take_all c.loop-place.place given (omega arith) in
    let judged = subst (λ (l : List TableRow). AreJudged places (rows_now slots) given claims None l) all (subst (λ (o : Option Clash). AreJudged places (rows_now slots) given claims o (take c.loop-place.place given)) c.in-None.is c.loop-place.invariant) in
    ap (both_stop places) (none_then places (rows_now slots) given rise old c.requires.held (with_claims claims old) (judged_none places (rows_now slots) given rise old c.requires.held claims judged))

pub returns-in-Some-clause-stop : goal.returns-in-Some-clause-stop
returns-in-Some-clause-stop c =
    let slots = c.args.stored.now.slots in
    let given = c.args.given.now in
    let places = c.args.places.now in
    let old : HeldKeys = λ q. held_in c.args.index.now q in
    let claims : HeldKeys = λ q. held_in c.loop-place.claims q in
    let rise : RisesFrom 0 (rows_now slots) = rows_rise 0 slots (λ i below. omega arith) c.tell_order.ensures.order.rising in
    let all : take c.loop-place.place given ≡ given = take_all c.loop-place.place given (omega arith) in
    let judged = subst (λ (l : List TableRow). AreJudged places (rows_now slots) given claims (Some c.in-Some.clash) l) all
    (subst (λ (o : Option Clash). AreJudged places (rows_now slots) given claims o (take c.loop-place.place given)) c.in-Some.is c.loop-place.invariant) in
    subst (λ (stop : StoreStop). StopsAs {X = Index} (both_stop places (clash_after places [] (map (replaced_by given) (rows_now slots)))) (Err stop)) (sym c.into_stop.ensures)
    (judged_first places (rows_now slots) given rise old c.requires.held claims c.in-Some.clash judged)
