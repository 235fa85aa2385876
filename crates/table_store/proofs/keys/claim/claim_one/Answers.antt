use Rattle.std.proofs.Common.{◌≡◌, ◌∙◌, ◌++◌, ◌+◌, ap, sym, subst, ℕ, List, Option, Some, None, take, get_or, []}
use Rattle.std.specs.Prelude.{find, Err}
use Rattle.std.specs.Option.{option_map}
use Rattle.std.proofs.lemmas.List.{get_or_default}
use Rattle.sql_model.specs.Changes.{numbered_rows}
use Rattle.sql_model.specs.Keys.{key_at, values_at}
use Rattle.sql_model.specs.References.{has_key}
use Rattle.table_store.specs.Types.{Value, RowKey, TableRow}
use Rattle.table_store.specs.Claims.{taken_stop}
use Rattle.table_store.specs.NewKeys.{new_in, AreNewKeys}
use Rattle.table_store.specs.Histories.{rows_now}
use Rattle.table_store.specs.KeyIndex.{row_of_key}
use Rattle.table_store.specs.RowOrder.{AreInOrder}
use Rattle.table_store.specs.Stops.{StopsAs}
use Rattle.table_store.specs.declared.error.StoreStop.{StoreStop}
use Rattle.table_store.specs.declared.error.StoreStop.TheVariants.{KeyTaken}
use Rattle.table_store.proofs.ClaimLaws.{none_from, taken_none}
use Rattle.table_store.proofs.NewKeyLaws.{keys_more, none_before, taken_by_row, taken_by_new, added_ok, added_stop}
use Rattle.table_store.proofs.keys.claim.claim_one.Goals as goal

pub returns-in-Some-clause-stop : goal.returns-in-Some-clause-stop
returns-in-Some-clause-stop c =
    let places = c.args.places.now in
    let values = c.args.values.now in
    let slots = c.args.stored.now.slots in
    let key : RowKey = c.in_ok-key.key in
    let row : c.index-values-count.result ≡ get_or values c.args.count [] = c.index-values-count.is ∙ get_or_default values c.args.count c.index-values-count.result [] c.requires.within in
    let same : key ≡ key_at places (get_or values c.args.count []) = c.in_ok-key.ensures ∙ ap (key_at places) row in
    let order : AreInOrder slots c.args.next = subst (λ (n : ℕ). AreInOrder slots n) c.requires.next c.tell_order.ensures.order in
    taken_by_row places slots c.args.next order (numbered_rows c.args.next (take c.args.count values)) (get_or values c.args.count []) key c.in-Some.number same (sym c.held_number.ensures ∙ c.in-Some.is)

pub returns-in-None-clause-ok : goal.returns-in-None-clause-ok
returns-in-None-clause-ok c =
    let places = c.args.places.now in
    let values = c.args.values.now in
    let rows = rows_now c.args.stored.now.slots in
    let key : RowKey = c.in_ok-key.key in
    let row : c.index-values-count.result ≡ get_or values c.args.count [] = c.index-values-count.is ∙ get_or_default values c.args.count c.index-values-count.result [] c.requires.within in
    let same : key ≡ key_at places (get_or values c.args.count []) = c.in_ok-key.ensures ∙ ap (key_at places) row in
    let stands : row_of_key places key.values rows ≡ None = none_from (row_of_key places key.values rows) (sym c.held_number.ensures ∙ c.in-None.is) in
    added_ok key c.args.count c.args.keys.now c.claim_apart.new.keys c.claim_apart.result (AreNewKeys places c.args.next rows (take (c.args.count + 1) values) (new_in c.claim_apart.new.keys))
    (λ none put. keys_more places c.args.next rows values c.args.count c.requires.within (new_in c.args.keys.now) (new_in c.claim_apart.new.keys) key same c.requires.claimed none put stands) c.claim_apart.ensures.adds

pub returns-in-None-clause-stop : goal.returns-in-None-clause-stop
returns-in-None-clause-stop c =
    let places = c.args.places.now in
    let values = c.args.values.now in
    let rows = rows_now c.args.stored.now.slots in
    let next = c.args.next in
    let one : List Value = get_or values c.args.count [] in
    let key : RowKey = c.in_ok-key.key in
    let row : c.index-values-count.result ≡ one = c.index-values-count.is ∙ get_or_default values c.args.count c.index-values-count.result [] c.requires.within in
    let same : key ≡ key_at places one = c.in_ok-key.ensures ∙ ap (key_at places) row in
    let stands : row_of_key places key.values rows ≡ None = none_from (row_of_key places key.values rows) (sym c.held_number.ensures ∙ c.in-None.is) in
    let earlier = find (has_key places (values_at places one)) (rows ++ numbered_rows next (take c.args.count values)) in
    added_stop key c.args.count c.args.keys.now c.claim_apart.new.keys c.claim_apart.result (taken_stop places next one earlier)
    (λ none. ap (taken_stop places next one) (none_before places next rows values c.args.count c.requires.within (new_in c.args.keys.now) key same c.requires.claimed none stands))
    (λ some. taken_by_new places rows next (take c.args.count values) one key (new_in c.args.keys.now) same c.requires.claimed stands some) c.claim_apart.ensures.adds
