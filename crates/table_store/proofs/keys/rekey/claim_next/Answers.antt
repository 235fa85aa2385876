use Rattle.std.proofs.Common.{◌≡◌, ◌∙◌, ◌+◌, ap, sym, subst, take, ℕ, Option, map, [], arith}
use Rattle.std.specs.Prelude.{Err}
use Rattle.sql_model.specs.Changes.{clash_after}
use Rattle.table_store.specs.Types.{RowKey, TableRow}
use Rattle.table_store.specs.Claims.{both_stop}
use Rattle.table_store.specs.GivenKeys.{AreJudged, keeper, first_clash}
use Rattle.table_store.specs.Histories.{rows_now}
use Rattle.table_store.specs.IndexView.{held_in}
use Rattle.table_store.specs.KeyIndex.{HeldKeys}
use Rattle.table_store.specs.Stops.{replaced_by, StopsAs}
use Rattle.table_store.specs.declared.keys.clash.Clash.{Clash}
use Rattle.table_store.specs.declared.error.StoreStop.{StoreStop}
use Rattle.table_store.proofs.GivenKeyLaws.{given_rise, judged_next, judged_taken}
use Rattle.table_store.proofs.InsertLaws.{RisesFrom, rows_rise}
use Rattle.table_store.proofs.keys.rekey.claim_next.Goals as goal

pub returns-in-Some-clause-stop : goal.returns-in-Some-clause-stop
returns-in-Some-clause-stop c =
    let slots = c.args.stored.now.slots in
    let given = c.args.given.now in
    let places = c.args.places.now in
    let old : HeldKeys = λ q. held_in c.args.index.now q in
    let claims : HeldKeys = λ q. held_in c.args.claims.now q in
    let row : TableRow = c.index-given-place.result in
    let rise : RisesFrom 0 (rows_now slots) = rows_rise 0 slots (λ i below. omega arith) c.tell_order.ensures.order.rising in
    subst (λ (stop : StoreStop). StopsAs {X = Unit {0}} (both_stop places (clash_after places [] (map (replaced_by given) (rows_now slots)))) (Err stop)) (sym c.into_stop.ensures)
    (judged_taken places (rows_now slots) given rise old c.requires.held (given_rise given c.requires.sorted) c.requires.stand claims c.args.first c.args.place row c.requires.within c.requires.judged c.index-given-place.is
    c.in_ok-key.key c.in-Some.earlier c.in_ok-key.ensures (sym c.number.ensures ∙ c.in-Some.is) c.earlier_clash.result c.earlier_clash.ensures)

pub returns-in_ok-put-in-None-clause-ok : goal.returns-in_ok-put-in-None-clause-ok
returns-in_ok-put-in-None-clause-ok c =
    let slots = c.args.stored.now.slots in
    let given = c.args.given.now in
    let places = c.args.places.now in
    let place = c.args.place in
    let first = c.args.first in
    let old : HeldKeys = λ q. held_in c.args.index.now q in
    let claims : HeldKeys = λ q. held_in c.args.claims.now q in
    let new : HeldKeys = λ q. held_in c.put.new.self q in
    let row : TableRow = c.index-given-place.result in
    let key : RowKey = c.in_ok-key.key in
    let rise : RisesFrom 0 (rows_now slots) = rows_rise 0 slots (λ i below. omega arith) c.tell_order.ensures.order.rising in
    let made = judged_next places (rows_now slots) given rise old c.requires.held (given_rise given c.requires.sorted) c.requires.stand claims first place row c.requires.within c.requires.judged c.index-given-place.is
    new key c.in_ok-key.ensures (sym c.number.ensures ∙ c.in-None.is) c.in_ok-put-in-None.ensures.ok in
    let is : c.in_ok-next-in-None.next ≡ first_clash first (keeper places (rows_now slots) given key.values) row.number key.values =
    c.in_ok-next-in-None.ensures ∙ ap (λ (kept : Option ℕ). first_clash first kept row.number key.values) c.keeper-kept.ensures in
    subst (λ (next : Option Clash). AreJudged places (rows_now slots) given new next (take (place + 1) given)) (sym is) made
