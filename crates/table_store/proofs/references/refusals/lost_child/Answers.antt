use Rattle.std.proofs.Common.{◌≡◌, ◌∙◌, ap, sym, List, Bool, length, true, false}
use Rattle.std.specs.Prelude.{◌==◌}
use Rattle.std.specs.List.{list_any}
use Rattle.std.specs.Option.{option_map}
use Rattle.table_store.specs.inner.Afterwards.{in_set, loses, orphan_in_tables, refers_to}
use Rattle.table_store.specs.inner.Judging.{holds}
use Rattle.table_store.specs.Histories.{TableHistory, table_now}
use Rattle.table_store.specs.Referring.{child_stop}
use Rattle.table_store.specs.Stops.{is_among}
use Rattle.table_store.specs.Types.{Schema, Value}
use Rattle.table_store.proofs.LossLaws.{away_tables, same_lost}
use Rattle.table_store.proofs.RefusalLaws.{child_or, none_child}
use Rattle.table_store.proofs.references.refusals.lost_child.Goals as goal

pub returns-then-not-is_parent : goal.returns-then-not-is_parent
returns-then-not-is_parent c =
    let own = c.args.own.now in
    let numbers = c.args.numbers.now in
    let hs = c.args.store.now.tables in
    let lost : List Value → Bool = loses (holds c.args.given.now) numbers (table_now own) in
    let none : list_any (λ (h : TableHistory). refers_to own.name (table_now h)) hs ≡ false =
    sym (c.is_parent.ensures ∙ (λ j. list_any (λ (h : TableHistory). refers_to (c.name-name.ensures j) (table_now h)) (c.tables-tables.ensures j))) ∙ c.if-not-is_parent.true in
    none_child (length own.schema.key == 0) (orphan_in_tables (is_among numbers) own.name lost hs) (away_tables (is_among numbers) own.name lost hs none)

pub returns-then-is_empty : goal.returns-then-is_empty
returns-then-is_empty c =
    let own = c.args.own.now in
    let numbers = c.args.numbers.now in
    let bare : (length own.schema.key == 0) ≡ true = sym (c.is_empty.ensures ∙ ap (λ (s : Schema). length s.key == 0) c.schema.ensures) ∙ c.if-is_empty.true in
    sym (ap (λ (b : Bool). child_or b (orphan_in_tables (is_among numbers) own.name (loses (holds c.args.given.now) numbers (table_now own)) c.args.store.now.tables)) bare)

pub returns : goal.returns
returns c =
    let own = c.args.own.now in
    let numbers = c.args.numbers.now in
    let hs = c.args.store.now.tables in
    let lost : List Value → Bool = loses (holds c.args.given.now) numbers (table_now own) in
    let keyed : (length own.schema.key == 0) ≡ false = sym (c.is_empty.ensures ∙ ap (λ (s : Schema). length s.key == 0) c.schema.ensures) ∙ c.if-is_empty.false in
    c.in_ok-child.ensures
    ∙ (λ j. option_map child_stop (orphan_in_tables (is_among numbers) (c.name-name.ensures j) (in_set c.in_ok-lost.lost) (c.tables-tables.ensures j)))
    ∙ ap (option_map child_stop) (same_lost (is_among numbers) own.name (in_set c.in_ok-lost.lost) lost c.in_ok-lost.ensures hs)
    ∙ sym (ap (λ (b : Bool). child_or b (orphan_in_tables (is_among numbers) own.name lost hs)) keyed)
