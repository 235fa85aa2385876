use Rattle.std.proofs.Common.{rules, ◌≡◌, ◌∙◌, ap, sym, get_or, map, is_some, true, false, arith}
use Rattle.std.specs.Option.{option_map}
use Rattle.table_store.specs.inner.Afterwards.{in_set, orphan_in_table}
use Rattle.table_store.specs.Histories.{TableHistory}
use Rattle.table_store.specs.Referring.{child_stop}
use Rattle.table_store.specs.Stops.{is_among}
use Rattle.table_store.proofs.FirstLaws.{first_goes_on, first_stops, first_ends}
use Rattle.table_store.proofs.references.children.first_child.Goals as goal

pub loop-table-preserved : goal.loop-table-preserved
loop-table-preserved c =
    let f = orphan_in_table (is_among c.args.numbers.now) c.args.target.now (in_set c.args.lost.now) in
    let h = child_stop in
    let xs = c.args.tables.now in
    let here : c.in_ok-stop.stop ≡ option_map h (f (get_or xs c.loop-table.table-index c.table-item.result)) = c.in_ok-stop.ensures ∙ ap (λ (x : TableHistory). option_map h (f x)) c.table-item.is in
    let none : is_some c.in_ok-stop.stop ≡ false = search rules in
    first_goes_on f h xs c.loop-table.table-index c.table-item.result c.in_ok-stop.stop c.loop-table-test.true c.loop-table.invariant here none

pub returns-then-is_some : goal.returns-then-is_some
returns-then-is_some c =
    let f = orphan_in_table (is_among c.args.numbers.now) c.args.target.now (in_set c.args.lost.now) in
    let h = child_stop in
    let xs = c.args.tables.now in
    let here : c.in_ok-stop.stop ≡ option_map h (f (get_or xs c.loop-table.table-index c.table-item.result)) = c.in_ok-stop.ensures ∙ ap (λ (x : TableHistory). option_map h (f x)) c.table-item.is in
    let some : is_some c.in_ok-stop.stop ≡ true = search rules in
    first_stops f h xs c.loop-table.table-index c.table-item.result c.in_ok-stop.stop c.loop-table-test.true c.loop-table.invariant here some

pub returns : goal.returns
returns c =
    let f = orphan_in_table (is_among c.args.numbers.now) c.args.target.now (in_set c.args.lost.now) in
    let h = child_stop in
    let xs = c.args.tables.now in
    first_ends f h xs c.loop-table.table-index (omega arith) c.loop-table.invariant
