use Rattle.std.proofs.Common.{rules, ◌≡◌, ◌∙◌, ap, sym, refl, List, Bool, ℕ, Option, Some, map, true, false, is_some, length}
use Rattle.std.specs.Prelude.{◌==◌}
use Rattle.std.specs.List.{list_any}
use Rattle.sql_model.specs.Scope.{table_at}
use Rattle.table_store.specs.inner.Afterwards.{has_values, loses, orphan_in_tables, refers_to}
use Rattle.table_store.specs.inner.Judging.{holds}
use Rattle.table_store.specs.Histories.{TableHistory, table_now, tables_now}
use Rattle.table_store.specs.Referring.{is_of, missing_stop, orphan_stop}
use Rattle.table_store.specs.Stops.{are_sorted_numbers, is_among, with_changed, with_replaced}
use Rattle.table_store.specs.Types.{Table, TableRow, Value}
use Rattle.table_store.specs.declared.error.StoreStop.{StoreStop}
use Rattle.table_store.proofs.JudgeLaws.{last_tells}
use Rattle.table_store.proofs.NowLaws.{now_at}
use Rattle.table_store.proofs.ParentLaws.{numbers_sorted}
use Rattle.table_store.proofs.RefusalLaws.{child_or, either_first, either_second, orphan_same, replace_child}
use Rattle.table_store.proofs.references.refusals.judge_given.Goals as goal

pub judge_values-requires-clause-given : goal.judge_values-requires-clause-given
judge_values-requires-clause-given c = c.requires.given

pub lost_child-requires : goal.lost_child-requires
lost_child-requires c = ap are_sorted_numbers c.requires.numbers ∙ numbers_sorted c.args.rows.now c.requires.sorted

pub returns-then-is_some-clause-stop : goal.returns-then-is_some-clause-stop
returns-then-is_some-clause-stop c =
    let own = c.args.own.now in
    let db : List Table = tables_now c.args.store.now in
    let t : Table = table_now own in
    let rows : List TableRow = c.args.rows.now in
    let missing : Option StoreStop = missing_stop own.schema.foreign rows (with_changed own.name (with_replaced rows) db) in
    let orphan : Option StoreStop = orphan_stop (is_of rows) t (with_replaced rows t) db in
    let some : is_some c.in_ok-judged.judged.stop ≡ true = search rules in
    either_first missing orphan c.in_ok-judged.judged.stop c.in_ok-judged.ensures.stop some

pub returns-clause-stop : goal.returns-clause-stop
returns-clause-stop c =
    let own = c.args.own.now in
    let store = c.args.store.now in
    let db : List Table = tables_now store in
    let t : Table = table_now own in
    let rows : List TableRow = c.args.rows.now in
    let numbers : List ℕ = map (λ (row : TableRow). row.number) rows in
    let one : List Value → Bool = holds c.args.given.now in
    let two : List Value → Bool = λ key. list_any (λ (row : TableRow). has_values own.schema.key key row.values) rows in
    let found : table_at own.name db ≡ Some t = now_at own.name store own (sym c.requires.there) in
    let asked : Bool = list_any (λ (h : TableHistory). refers_to own.name (table_now h)) store.tables in
    let same : asked ≡ true → (key : List Value) → one key ≡ two key = λ referred key.
    ap is_some (c.requires.given referred key) ∙ last_tells own.schema.key key rows in
    let missing : Option StoreStop = missing_stop own.schema.foreign rows (with_changed own.name (with_replaced rows) db) in
    let orphan : Option StoreStop = orphan_stop (is_of rows) t (with_replaced rows t) db in
    let none : is_some c.in_ok-judged.judged.stop ≡ false = search rules in
    let lost : c.in_ok-stop.stop ≡ orphan =
    c.in_ok-stop.ensures
    ∙ ap (λ (ns : List ℕ). child_or (length own.schema.key == 0) (orphan_in_tables (is_among ns) own.name (loses one ns t) store.tables)) c.requires.numbers
    ∙ ap (child_or (length own.schema.key == 0)) (orphan_same store.tables own c.requires.there one two asked refl same numbers)
    ∙ replace_child store.tables own c.tell_formed.ensures found rows c.requires.sorted c.requires.stand two (λ key. refl) in
    either_second missing orphan c.in_ok-judged.judged.stop c.in_ok-stop.stop c.in_ok-judged.ensures.stop none lost
