use Rattle.std.proofs.Common.{◌≡◌, ◌∙◌, ap, sym, List, ℕ, Bool, inl, inr, map, is_some, refl, true, false, Some}
use Rattle.std.specs.List.{flat_map, list_any}
use Rattle.std.specs.Option.{option_map}
use Rattle.std.proofs.lemmas.Bool.{cases_Bool}
use Rattle.ldv_value.proofs.Booleans.{true≢false}
use Rattle.sql_model.specs.Scope.{table_at}
use Rattle.table_store.specs.Histories.{TableHistory, table_now, tables_now}
use Rattle.table_store.specs.inner.Afterwards.{has_values, missing_in_rows, refers_to}
use Rattle.table_store.specs.inner.Judging.{has_given, holds}
use Rattle.table_store.specs.inner.ParentRows.{last_row_with, number_in, parents_in_row}
use Rattle.table_store.specs.Referring.{parent_stop}
use Rattle.table_store.specs.Stops.{are_sorted_numbers}
use Rattle.table_store.specs.Types.{Member, Table, TableRow, Value}
use Rattle.table_store.proofs.JudgeLaws.{last_tells, parents_same}
use Rattle.table_store.proofs.NowLaws.{now_at}
use Rattle.table_store.proofs.ParentLaws.{numbers, numbers_sorted, parents_are}
use Rattle.table_store.proofs.RefusalLaws.{keyed_all, missing_same, own_apart, replace_missing}
use Rattle.table_store.proofs.references.judged.judge_values.Goals as goal

pub judge_rows-requires-clause-sorted : goal.judge_rows-requires-clause-sorted
judge_rows-requires-clause-sorted c = ap are_sorted_numbers c.requires.numbers ∙ numbers_sorted c.args.rows.now c.requires.sorted

pub judge_rows-requires-clause-keyed : goal.judge_rows-requires-clause-keyed
judge_rows-requires-clause-keyed c =
    let own = c.args.own.now in
    let store = c.args.store.now in
    keyed_all (tables_now store) c.tell_formed.ensures own.name (table_now own) (now_at own.name store own (sym c.requires.there))

pub returns-clause-stop : goal.returns-clause-stop
returns-clause-stop c =
    let own = c.args.own.now in
    let store = c.args.store.now in
    let db : List Table = tables_now store in
    let t : Table = table_now own in
    let rows : List TableRow = c.args.rows.now in
    let values : List (List Value) = map (λ (row : TableRow). row.values) rows in
    let one : List Value → Bool = holds c.args.given.now in
    let two : List Value → Bool = λ key. list_any (λ (row : TableRow). has_values own.schema.key key row.values) rows in
    let found : table_at own.name db ≡ Some t = now_at own.name store own (sym c.requires.there) in
    let asked : Bool = list_any (λ (h : TableHistory). refers_to own.name (table_now h)) store.tables in
    let same : asked ≡ true → (key : List Value) → one key ≡ two key = λ referred key.
    ap is_some (c.requires.given referred key) ∙ last_tells own.schema.key key rows in
    c.in_ok-judged.ensures.stop
    ∙ ap (λ (ns : List ℕ). option_map parent_stop (missing_in_rows (has_given c.args.given.now ns own.name) db own.schema.foreign values)) c.requires.numbers
    ∙ ap (option_map parent_stop) (missing_same store.tables own c.requires.there one two asked refl same (numbers rows) db values)
    ∙ replace_missing db t found rows c.requires.sorted c.requires.stand two (λ key. refl)

pub returns-clause-parents : goal.returns-clause-parents
returns-clause-parents c = λ kept apart.
    let own = c.args.own.now in
    let store = c.args.store.now in
    let rows : List TableRow = c.args.rows.now in
    let fs = own.schema.foreign in
    let given = number_in c.args.given.now in
    let asked : Bool = list_any (λ (h : TableHistory). refers_to own.name (table_now h)) store.tables in
    let same : refers_to own.name (table_now own) ≡ true → (key : List Value) → given key ≡ last_row_with own.schema.key rows key =
    λ refers key. elim (cases_Bool asked) [
      | inl referred ↦ c.requires.given referred key
      | inr none ↦ absurd (true≢false (sym refers ∙ own_apart store.tables own c.requires.there none))
    ] in
    c.in_ok-judged.ensures.parents kept
    ∙ (λ j. flat_map (λ (row : TableRow). parents_in_row store given (c.requires.numbers j) own.name fs row.values) rows)
    ∙ ap (λ (f : TableRow → List Member). flat_map f rows)
    (λ j row. parents_same store (numbers rows) own.name given (λ key. last_row_with own.schema.key rows key) fs (refers_to own.name (table_now own)) refl same row.values j)
    ∙ parents_are store own c.requires.there c.tell_formed.ensures rows c.requires.sorted apart
    (keyed_all (tables_now store) c.tell_formed.ensures own.name (table_now own) (now_at own.name store own (sym c.requires.there)))
