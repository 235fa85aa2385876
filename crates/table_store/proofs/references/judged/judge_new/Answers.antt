use Rattle.std.proofs.Common.{◌≡◌, ◌∙◌, ap, sym, refl, arith, is_some, length, true, List, [], Bool, ℕ, Option, Some}
use Rattle.std.specs.List.{flat_map, list_any}
use Rattle.std.specs.Option.{option_map}
use Rattle.std.proofs.lemmas.List.{map-id}
use Rattle.sql_model.specs.Changes.{numbered_rows}
use Rattle.sql_model.specs.Scope.{same_text, table_at}
use Rattle.table_store.specs.Histories.{table_now, tables_now}
use Rattle.table_store.specs.inner.Afterwards.{has_values, missing_in_rows, refers_to}
use Rattle.table_store.specs.inner.Judging.{has_given, holds}
use Rattle.table_store.specs.inner.ParentRows.{last_row_with, number_in, parents_in_row}
use Rattle.table_store.specs.Referring.{parent_stop}
use Rattle.table_store.specs.Types.{Foreign, Member, Table, TableRow, Value}
use Rattle.table_store.proofs.JudgeLaws.{last_tells, new_parents, parents_same}
use Rattle.table_store.proofs.NowLaws.{now_at}
use Rattle.table_store.proofs.PutLaws.{given_same, numbered_keys}
use Rattle.table_store.proofs.RefusalLaws.{insert_missing, keyed_all}
use Rattle.table_store.proofs.references.judged.judge_new.Goals as goal

pub new_numbers_if-requires : goal.new_numbers_if-requires
new_numbers_if-requires c = omega (arith, c.requires.fits, c.next-next.ensures, ap length c.items-values.ensures)

pub judge_rows-requires-clause-keyed : goal.judge_rows-requires-clause-keyed
judge_rows-requires-clause-keyed c =
    let own = c.args.own.now in
    let store = c.args.store.now in
    keyed_all (tables_now store) c.tell_formed.ensures own.name (table_now own) (now_at own.name store own (sym c.requires.there))

pub returns-clause-stop : goal.returns-clause-stop
returns-clause-stop c =
    let own = c.args.own.now in
    let store = c.args.store.now in
    let db : List Table = tables_now store in
    let t : Table = table_now own in
    let rows : List (List Value) = c.args.rows.now in
    let fresh : List TableRow = numbered_rows t.next rows in
    let one : List Value → Bool = holds c.in_ok-given.given in
    let two : List Value → Bool = λ key. list_any (has_values own.schema.key key) rows in
    let found : table_at own.name db ≡ Some t = now_at own.name store own (sym c.requires.there) in
    let refers : list_any (λ (f : Foreign). same_text f.parent own.name) own.schema.foreign ≡ c.refers_to-referred.result =
    sym (c.refers_to-referred.ensures ∙ ap (λ (name : List ℕ). refers_to name t) c.name.ensures) in
    let same : c.refers_to-referred.result ≡ true → (key : List Value) → one key ≡ two key =
    λ asked key.
    ap is_some (c.in_ok-given.ensures asked key ∙ (λ j. last_row_with (c.schema.ensures j).key (numbered_rows (c.next-next.ensures j) (c.items-values.ensures j)) key))
    ∙ last_tells own.schema.key key fresh
    ∙ numbered_keys own.schema.key key t.next rows in
    c.in_ok-judged.ensures.stop
    ∙ ap (λ (l : List (List Value)). option_map parent_stop (missing_in_rows (has_given c.in_ok-given.given [] own.name) db own.schema.foreign l)) (map-id c.items-values.result.now ∙ c.items-values.ensures)
    ∙ ap (option_map parent_stop) (given_same own.name [] db one two own.schema.foreign rows c.refers_to-referred.result refers same)
    ∙ insert_missing db t found rows two (λ key. refl)

pub returns-clause-parents : goal.returns-clause-parents
returns-clause-parents c = λ kept apart.
    let own = c.args.own.now in
    let store = c.args.store.now in
    let t : Table = table_now own in
    let rows : List (List Value) = c.args.rows.now in
    let fresh : List TableRow = numbered_rows t.next rows in
    let fs = own.schema.foreign in
    let given : List Value → Option ℕ = number_in c.in_ok-given.given in
    let last : List Value → Option ℕ = λ key. last_row_with own.schema.key fresh key in
    let same : refers_to own.name t ≡ true → (key : List Value) → given key ≡ last key =
    λ refers key.
    c.in_ok-given.ensures (c.refers_to-referred.ensures ∙ ap (λ (name : List ℕ). refers_to name t) c.name.ensures ∙ refers) key
    ∙ (λ j. last_row_with (c.schema.ensures j).key (numbered_rows (c.next-next.ensures j) (c.items-values.ensures j)) key) in
    c.in_ok-judged.ensures.parents kept
    ∙ ap (flat_map (λ (values : List Value). parents_in_row store given [] own.name fs values)) c.items-values.ensures
    ∙ ap (λ (h : List Value → List Member). flat_map h rows) (λ j values. parents_same store [] own.name given last fs (refers_to own.name t) refl same values j)
    ∙ new_parents store own c.requires.there c.tell_formed.ensures rows apart
    (keyed_all (tables_now store) c.tell_formed.ensures own.name t (now_at own.name store own (sym c.requires.there)))
