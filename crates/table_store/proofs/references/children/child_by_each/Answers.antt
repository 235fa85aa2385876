use Rattle.std.proofs.Common.{rules, ◌≡◌, ◌∙◌, ap, List, get_or, is_some, true, false, arith}
use Rattle.std.specs.Option.{option_map}
use Rattle.ldv_value.specs.Options.{first_some}
use Rattle.sql_model.specs.References.{child_of, orphan_by, reference}
use Rattle.table_store.specs.inner.Afterwards.{in_set}
use Rattle.table_store.specs.Histories.{table_now}
use Rattle.table_store.specs.Referring.{child_stop}
use Rattle.table_store.specs.Types.{Foreign, Schema}
use Rattle.table_store.proofs.FirstLaws.{first_goes_on, first_stops, first_ends}
use Rattle.table_store.proofs.references.children.child_by_each.Goals as goal

pub loop-foreign-preserved : goal.loop-foreign-preserved
loop-foreign-preserved c =
    let child = child_of (table_now c.args.table.now) (record { number = c.args.number; values = c.args.values.now }) in
    let f = λ (foreign : Foreign). orphan_by c.args.target.now (in_set c.args.lost.now) child foreign (reference foreign c.args.values.now) in
    let h = child_stop in
    let xs = c.items-foreign-items.result.now in
    let here : c.in_ok-stop.stop ≡ option_map h (f (get_or xs c.loop-foreign.foreign-index c.foreign-item.result)) = c.in_ok-stop.ensures ∙ ap (λ (x : Foreign). option_map h (f x)) c.foreign-item.is in
    let none : is_some c.in_ok-stop.stop ≡ false = search rules in
    first_goes_on f h xs c.loop-foreign.foreign-index c.foreign-item.result c.in_ok-stop.stop c.loop-foreign-test.true c.loop-foreign.invariant here none

pub returns-then-is_some : goal.returns-then-is_some
returns-then-is_some c =
    let child = child_of (table_now c.args.table.now) (record { number = c.args.number; values = c.args.values.now }) in
    let f = λ (foreign : Foreign). orphan_by c.args.target.now (in_set c.args.lost.now) child foreign (reference foreign c.args.values.now) in
    let h = child_stop in
    let xs = c.items-foreign-items.result.now in
    let here : c.in_ok-stop.stop ≡ option_map h (f (get_or xs c.loop-foreign.foreign-index c.foreign-item.result)) = c.in_ok-stop.ensures ∙ ap (λ (x : Foreign). option_map h (f x)) c.foreign-item.is in
    let some : is_some c.in_ok-stop.stop ≡ true = search rules in
    first_stops f h xs c.loop-foreign.foreign-index c.foreign-item.result c.in_ok-stop.stop c.loop-foreign-test.true c.loop-foreign.invariant here some
    ∙ ap (λ (l : List Foreign). option_map h (first_some f l)) (c.items-foreign-items.ensures ∙ ap (λ (s : Schema). s.foreign) c.schema.ensures)

pub returns : goal.returns
returns c =
    let child = child_of (table_now c.args.table.now) (record { number = c.args.number; values = c.args.values.now }) in
    let f = λ (foreign : Foreign). orphan_by c.args.target.now (in_set c.args.lost.now) child foreign (reference foreign c.args.values.now) in
    let h = child_stop in
    let xs = c.items-foreign-items.result.now in
    first_ends f h xs c.loop-foreign.foreign-index (omega arith) c.loop-foreign.invariant
    ∙ ap (λ (l : List Foreign). option_map h (first_some f l)) (c.items-foreign-items.ensures ∙ ap (λ (s : Schema). s.foreign) c.schema.ensures)
