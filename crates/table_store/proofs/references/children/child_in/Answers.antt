use Rattle.std.proofs.Common.{◌≡◌, ◌∙◌, ap, sym, List, ℕ}
use Rattle.std.specs.Option.{option_map}
use Rattle.sql_model.specs.Scope.{is_table}
use Rattle.table_store.specs.inner.ChildPairs.{first_number, given_in, is_child_in}
use Rattle.table_store.specs.Histories.{last_next_number, rows_now, table_now}
use Rattle.table_store.specs.Referring.{child_stop}
use Rattle.table_store.specs.Stops.{are_sorted_numbers}
use Rattle.table_store.proofs.ChildRowLaws.{given_sorted, no_child, one_child}
use Rattle.table_store.proofs.references.children.child_in.Goals as goal

pub first_child_in-requires : goal.first_child_in-requires
first_child_in-requires c =
    ap are_sorted_numbers c.given_in-given.ensures ∙ given_sorted (is_table c.args.target.now (table_now c.args.table.now)) c.args.numbers.now c.requires

pub returns-in-None : goal.returns-in-None
returns-in-None c =
    let h = c.args.table.now in
    let first : c.in_ok-first.first ≡ first_number (is_child_in (given_in (is_table c.args.target.now (table_now h)) c.args.numbers.now) c.args.target.now c.args.lost.now.keys h.schema.foreign) (rows_now h.slots) =
    c.in_ok-first.ensures ∙ ap (λ (given : List ℕ). first_number (is_child_in given c.args.target.now c.args.lost.now.keys h.schema.foreign) (rows_now h.slots)) c.given_in-given.ensures in
    ap (option_map child_stop) (no_child c.args.target.now c.args.numbers.now c.args.lost.now h (sym c.in-None.is ∙ first))

pub returns-in_ok-stop-in-Some : goal.returns-in_ok-stop-in-Some
returns-in_ok-stop-in-Some c =
    let h = c.args.table.now in
    let first : c.in_ok-first.first ≡ first_number (is_child_in (given_in (is_table c.args.target.now (table_now h)) c.args.numbers.now) c.args.target.now c.args.lost.now.keys h.schema.foreign) (rows_now h.slots) =
    c.in_ok-first.ensures ∙ ap (λ (given : List ℕ). first_number (is_child_in given c.args.target.now c.args.lost.now.keys h.schema.foreign) (rows_now h.slots)) c.given_in-given.ensures in
    c.in_ok-stop-in-Some.ensures
    ∙ ap (option_map child_stop) (one_child c.args.target.now c.args.numbers.now c.args.lost.now h (last_next_number h.nexts) c.tell_order.ensures c.in-Some.number (sym c.in-Some.is ∙ first))
