use Rattle.std.proofs.Common.{◌≡◌, ◌∙◌, ◌++◌, ◌+◌, ap, sym, subst, ℕ, List, take, drop, get_or, length, [], None, Option, arith, append-nil}
use Rattle.std.specs.Prelude.{find, Err}
use Rattle.std.proofs.lemmas.List.{take_all}
use Rattle.sql_model.specs.Changes.{KeyClash, clash_or, clash_after, numbered_rows}
use Rattle.sql_model.specs.Keys.{values_at}
use Rattle.sql_model.specs.References.{has_key}
use Rattle.table_store.specs.Types.{Value, TableRow}
use Rattle.table_store.specs.Claims.{claim_stop}
use Rattle.table_store.specs.NewKeys.{new_in, AreNewKeys}
use Rattle.table_store.specs.Histories.{rows_now}
use Rattle.table_store.specs.Stops.{StopsAs}
use Rattle.table_store.specs.declared.keys.new_keys.NewKeys.{NewKeys}
use Rattle.table_store.proofs.ClaimLaws.{left_clash, not_taken, claim_taken, clash_after-none}
use Rattle.table_store.proofs.NewKeyLaws.{no_keys}
use Rattle.table_store.proofs.RekeyLaws.{stop_as}
use Rattle.table_store.proofs.keys.claim.claim_all.Goals as goal

pub loop-count-init : goal.loop-count-init
loop-count-init c =
    let places = c.args.places.now in
    let values = c.args.values.now in
    let rows : List TableRow = rows_now c.args.stored.now.slots in
    let start : c.args.next + 0 ≡ c.args.next = omega arith in
    record {
      keys = no_keys places c.args.next rows (new_in c.new-keys.result) c.new-keys.ensures.none;
      below = c.new-keys.ensures.below (length values);
      clash = ap (λ (l : List TableRow). clash_after places l (numbered_rows (c.args.next + 0) values)) (append-nil rows)
          ∙ ap (λ (n : ℕ). clash_after places rows (numbered_rows n values)) start;
    }

pub loop-count-preserved : goal.loop-count-preserved
loop-count-preserved c =
    let places = c.args.places.now in
    let values = c.args.values.now in
    let next = c.args.next in
    let rows = rows_now c.args.stored.now.slots in
    let count = c.loop-count.count in
    let within = c.loop-count-test.true in
    let earlier = find (has_key places (values_at places (get_or values count []))) (rows ++ numbered_rows next (take count values)) in
    let row : TableRow = record { number = next + count; values = get_or values count [] } in
    let none : earlier ≡ None = not_taken places next (get_or values count []) earlier c.in-Ok.ensures.stop in
    record {
      keys = c.in-Ok.ensures.ok;
      below = c.claim_one.ensures.below c.loop-count.invariant.below;
      clash = sym (left_clash places next rows values count within
          ∙ ap (λ (o : Option TableRow). clash_or o row (clash_after places (rows ++ numbered_rows next (take (count + 1) values)) (numbered_rows (next + (count + 1)) (drop (count + 1) values)))) none)
          ∙ c.loop-count.invariant.clash;
    }

pub returns-in-Err-clause-stop : goal.returns-in-Err-clause-stop
returns-in-Err-clause-stop c =
    let places = c.args.places.now in
    let values = c.args.values.now in
    let next = c.args.next in
    let rows = rows_now c.args.stored.now.slots in
    let count = c.loop-count.count in
    let within = c.loop-count-test.true in
    let earlier = find (has_key places (values_at places (get_or values count []))) (rows ++ numbered_rows next (take count values)) in
    let row : TableRow = record { number = next + count; values = get_or values count [] } in
    let rest = clash_after places (rows ++ numbered_rows next (take (count + 1) values)) (numbered_rows (next + (count + 1)) (drop (count + 1) values)) in
    subst (λ (o : Option KeyClash). StopsAs {X = NewKeys} (claim_stop places next o) (Err c.in-Err.stop)) (sym (left_clash places next rows values count within) ∙ c.loop-count.invariant.clash)
    (stop_as (Unit {0}) NewKeys (claim_stop places next (clash_or earlier row rest)) c.in-Err.stop (claim_taken places next row earlier rest c.in-Err.stop c.in-Err.ensures.stop))

pub returns-clause-ok : goal.returns-clause-ok
returns-clause-ok c =
    let values = c.args.values.now in
    let all : take c.loop-count.count values ≡ values = take_all c.loop-count.count values (omega arith) in
    subst (λ (l : List (List Value)). AreNewKeys c.args.places.now c.args.next (rows_now c.args.stored.now.slots) l (new_in c.loop-count.keys)) all c.loop-count.invariant.keys

pub returns-clause-stop : goal.returns-clause-stop
returns-clause-stop c =
    let places = c.args.places.now in
    let rows = rows_now c.args.stored.now.slots ++ numbered_rows c.args.next (take c.loop-count.count c.args.values.now) in
    ap (claim_stop places c.args.next) (sym c.loop-count.invariant.clash ∙ clash_after-none places rows (c.args.next + c.loop-count.count) c.args.values.now c.loop-count.count (omega arith))
