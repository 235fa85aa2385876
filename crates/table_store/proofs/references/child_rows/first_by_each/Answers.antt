use Rattle.std.proofs.Common.{◌≡◌, ◌∙◌, ◌<◌, ◌≤◌, ap, length, get_or, List, arith}
use Rattle.std.proofs.lemmas.List.{get_or_default, take_all}
use Rattle.table_store.specs.inner.ChildPairs.{first_number, is_child_in, no_foreign}
use Rattle.table_store.specs.Histories.{last_next_number, rows_now}
use Rattle.table_store.specs.Types.{Foreign, Schema}
use Rattle.table_store.proofs.ChildRowLaws.{foreigns_more, foreigns_none, rising_rows}
use Rattle.table_store.proofs.references.child_rows.first_by_each.Goals as goal

pub loop-place-init : goal.loop-place-init
loop-place-init c = foreigns_none c.args.given.now c.args.target.now c.args.keys.now.keys (rows_now c.args.table.now.slots)

pub first_by-requires-clause-within : goal.first_by-requires-clause-within
first_by-requires-clause-within c =
    let same : length c.items-foreigns.result.now ≡ length c.args.table.now.schema.foreign = ap length (c.items-foreigns.ensures ∙ ap (λ (s : Schema). s.foreign) c.schema.ensures) in
    omega arith

pub first_by-requires-clause-there : goal.first_by-requires-clause-there
first_by-requires-clause-there c =
    let xs = c.items-foreigns.result.now in
    let place = c.loop-place.place in
    let within : place < length xs = omega arith in
    c.index-foreigns-place.is ∙ get_or_default xs place c.index-foreigns-place.result no_foreign within
    ∙ ap (λ (l : List Foreign). get_or l place no_foreign) (c.items-foreigns.ensures ∙ ap (λ (s : Schema). s.foreign) c.schema.ensures)

pub loop-place-preserved : goal.loop-place-preserved
loop-place-preserved c =
    let h = c.args.table.now in
    let xs = c.items-foreigns.result.now in
    let place = c.loop-place.place in
    let same : xs ≡ h.schema.foreign = c.items-foreigns.ensures ∙ ap (λ (s : Schema). s.foreign) c.schema.ensures in
    let count : length xs ≡ length h.schema.foreign = ap length same in
    let inside : place < length xs = omega arith in
    let within : place < length h.schema.foreign = omega arith in
    let is : c.index-foreigns-place.result ≡ get_or h.schema.foreign place no_foreign =
    c.index-foreigns-place.is ∙ get_or_default xs place c.index-foreigns-place.result no_foreign inside ∙ ap (λ (l : List Foreign). get_or l place no_foreign) same in
    c.lower_of-first.ensures
    ∙ foreigns_more c.args.given.now c.args.target.now c.args.keys.now.keys (rows_now h.slots) (rising_rows h.slots (last_next_number h.nexts) c.tell_order.ensures) h.schema.foreign place c.index-foreigns-place.result no_foreign
    within is c.loop-place.first c.in_ok-found.found c.loop-place.invariant c.in_ok-found.ensures

pub returns : goal.returns
returns c =
    let h = c.args.table.now in
    let count : length c.items-foreigns.result.now ≡ length h.schema.foreign = ap length (c.items-foreigns.ensures ∙ ap (λ (s : Schema). s.foreign) c.schema.ensures) in
    let all : length h.schema.foreign ≤ c.loop-place.place = omega arith in
    c.loop-place.invariant
    ∙ ap (λ (l : List Foreign). first_number (is_child_in c.args.given.now c.args.target.now c.args.keys.now.keys l) (rows_now h.slots)) (take_all c.loop-place.place h.schema.foreign all)
