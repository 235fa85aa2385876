use Rattle.std.proofs.Common.{◌∙◌, ap, sym, List}
use Rattle.std.specs.Map.Iter.{deref}
use Rattle.std.proofs.lemmas.Map.Iter.{rest_all, rest_more}
use Rattle.table_store.specs.inner.ChildPairs.{first_number, is_child_of, lower_of}
use Rattle.table_store.specs.Histories.{last_next_number, rows_now}
use Rattle.table_store.specs.Types.{RowKey}
use Rattle.table_store.proofs.ChildRowLaws.{keys_end, keys_more, rising_rows}
use Rattle.table_store.proofs.references.child_rows.first_of.Goals as goal

pub loop-key-init : goal.loop-key-init
loop-key-init c =
    ap (λ (keys : List RowKey). first_number (is_child_of c.args.given.now c.args.foreign.now keys) (rows_now c.args.table.now.slots)) (c.into_iter-key-iterator.ensures.into_iter_gives ∙ c.iter-key-items.ensures.rest)

pub loop-key-preserved : goal.loop-key-preserved
loop-key-preserved c =
    let h = c.args.table.now in
    let rows = rows_now h.slots in
    let split = rest_more deref c.loop-key.key-iterator c.next.new.self c.next.result c.in-Some.key c.in-Some.is c.next.ensures.steps in
    ap (λ o. lower_of o (first_number (is_child_of c.args.given.now c.args.foreign.now c.next.new.self) rows)) c.lower_of-first.ensures
    ∙ keys_more c.args.given.now c.args.foreign.now rows (rising_rows h.slots (last_next_number h.nexts) c.tell_order.ensures) c.in-Some.key.now c.next.new.self c.loop-key.first c.in-Ok.found c.in-Ok.ensures
    ∙ ap (λ (keys : List RowKey). lower_of c.loop-key.first (first_number (is_child_of c.args.given.now c.args.foreign.now keys) rows)) (sym split)
    ∙ c.loop-key.invariant

pub returns : goal.returns
returns c =
    let h = c.args.table.now in
    let rows = rows_now h.slots in
    let none = rest_all deref c.loop-key.key-iterator c.next.new.self c.next.result c.in-None.is c.next.ensures.steps in
    keys_end c.args.given.now c.args.foreign.now rows (rising_rows h.slots (last_next_number h.nexts) c.tell_order.ensures) c.loop-key.first
    ∙ ap (λ (keys : List RowKey). lower_of c.loop-key.first (first_number (is_child_of c.args.given.now c.args.foreign.now keys) rows)) (sym none)
    ∙ c.loop-key.invariant
