use Rattle.std.proofs.Common.{◌≡◌, ◌++◌, ◌∙◌, ap, sym, subst, append-nil, List, ℕ, Option, Some, None}
use Rattle.std.specs.List.{AllByRecursion}
use Rattle.std.specs.Option.{option_map, option_or, option_to_list}
use Rattle.sql_model.specs.Scope.{table_at}
use Rattle.table_store.specs.Histories.{history_at, last_next_number, table_now, tables_now}
use Rattle.table_store.specs.inner.ParentRows.{if_stands, member_at, member_now, number_in, parent_in}
use Rattle.table_store.specs.Referring.{IsAtVersion}
use Rattle.table_store.specs.Types.{Member, Table}
use Rattle.table_store.proofs.JudgeLaws.{same_stop, stop_absent, stop_none, stop_some}
use Rattle.table_store.proofs.NowLaws.{now_at, now_none}
use Rattle.table_store.proofs.ParentLaws.{all_pushed, member_is, member_version}
use Rattle.table_store.proofs.RefusalLaws.{keyed_parent, unique_found}
use Rattle.table_store.proofs.references.judged.judge_key.Goals as goal

pub parent_number-requires-clause-keyed : goal.parent_number-requires-clause-keyed
parent_number-requires-clause-keyed c =
    let store = c.args.store.now in
    let f = c.args.foreign.now in
    let parent = c.in-Some.parent.now in
    let there : Some parent ≡ history_at f.parent store = c.in-Some.ensures.table ∙ ap (λ (name : List ℕ). history_at name store) c.as_str.ensures in
    keyed_parent (tables_now store) f (table_now parent) c.requires.keyed (now_at f.parent store parent there)

-- ---- there is no such table

pub returns-in_ok-note_missing-in-None-clause-stop : goal.returns-in_ok-note_missing-in-None-clause-stop
returns-in_ok-note_missing-in-None-clause-stop c =
    let store = c.args.store.now in
    let f = c.args.foreign.now in
    let none : None ≡ history_at f.parent store = c.in-None.ensures.table ∙ ap (λ (name : List ℕ). history_at name store) c.as_str.ensures in
    c.in_ok-note_missing-in-None.ensures.stop
    ∙ ap (option_or c.args.judged.now.stop) (stop_absent store c.args.given.now c.args.numbers.now c.args.own.now f c.args.key.values (now_none f.parent store none))

pub returns-in_ok-note_missing-in-None-clause-parents : goal.returns-in_ok-note_missing-in-None-clause-parents
returns-in_ok-note_missing-in-None-clause-parents c = λ kept.
    let store = c.args.store.now in
    let f = c.args.foreign.now in
    let old : List Member = c.args.judged.now.parents in
    let none : None ≡ history_at f.parent store = c.in-None.ensures.table ∙ ap (λ (name : List ℕ). history_at name store) c.as_str.ensures in
    c.in_ok-note_missing-in-None.ensures.parents
    ∙ sym (append-nil old)
    ∙ sym (ap (λ (o : Option Table). old ++ option_to_list (parent_in store (number_in c.args.given.now) c.args.numbers.now c.args.own.now f o (Some c.args.key.values))) (now_none f.parent store none))

-- ---- no row of it has the key

pub returns-in_ok-note_missing-in-None-parent_number-clause-stop : goal.returns-in_ok-note_missing-in-None-parent_number-clause-stop
returns-in_ok-note_missing-in-None-parent_number-clause-stop c =
    let store = c.args.store.now in
    let f = c.args.foreign.now in
    let parent = c.in-Some.parent.now in
    let there : Some parent ≡ history_at f.parent store = c.in-Some.ensures.table ∙ ap (λ (name : List ℕ). history_at name store) c.as_str.ensures in
    let found : table_at f.parent (tables_now store) ≡ Some (table_now parent) = now_at f.parent store parent there in
    c.in_ok-note_missing-in-None-parent_number.ensures.stop
    ∙ ap (option_or c.args.judged.now.stop)
    (stop_none store c.args.given.now c.args.numbers.now c.args.own.now f c.args.key.values (table_now parent) found
    (keyed_parent (tables_now store) f (table_now parent) c.requires.keyed found)
    (unique_found (tables_now store) c.tell_formed.ensures f.parent (table_now parent) found)
    c.in-None-parent_number.ensures)

pub returns-in_ok-note_missing-in-None-parent_number-clause-parents : goal.returns-in_ok-note_missing-in-None-parent_number-clause-parents
returns-in_ok-note_missing-in-None-parent_number-clause-parents c = λ kept.
    let store = c.args.store.now in
    let f = c.args.foreign.now in
    let parent = c.in-Some.parent.now in
    let given = number_in c.args.given.now in
    let old : List Member = c.args.judged.now.parents in
    let there : Some parent ≡ history_at f.parent store = c.in-Some.ensures.table ∙ ap (λ (name : List ℕ). history_at name store) c.as_str.ensures in
    c.in_ok-note_missing-in-None-parent_number.ensures.parents
    ∙ sym (append-nil old)
    ∙ ap (λ (o : Option ℕ). old ++ option_to_list (option_map (member_now store f.parent) (if_stands (table_now parent) o))) c.in-None-parent_number.ensures
    ∙ sym (ap (λ (o : Option Table). old ++ option_to_list (parent_in store given c.args.numbers.now c.args.own.now f o (Some c.args.key.values))) (now_at f.parent store parent there))

-- ---- a row has it

pub returns-in_ok-note_parent-in-Some-parent_number-clause-stop : goal.returns-in_ok-note_parent-in-Some-parent_number-clause-stop
returns-in_ok-note_parent-in-Some-parent_number-clause-stop c =
    let store = c.args.store.now in
    let f = c.args.foreign.now in
    let parent = c.in-Some.parent.now in
    let there : Some parent ≡ history_at f.parent store = c.in-Some.ensures.table ∙ ap (λ (name : List ℕ). history_at name store) c.as_str.ensures in
    let found : table_at f.parent (tables_now store) ≡ Some (table_now parent) = now_at f.parent store parent there in
    c.in_ok-note_parent-in-Some-parent_number.ensures.stop
    ∙ same_stop c.args.judged.now.stop _
    (stop_some store c.args.given.now c.args.numbers.now c.args.own.now f c.args.key.values (table_now parent) found
    (keyed_parent (tables_now store) f (table_now parent) c.requires.keyed found)
    (unique_found (tables_now store) c.tell_formed.ensures f.parent (table_now parent) found)
    c.in-Some-parent_number.number c.in-Some-parent_number.ensures)

pub returns-in_ok-note_parent-in-Some-parent_number-clause-versions : goal.returns-in_ok-note_parent-in-Some-parent_number-clause-versions
returns-in_ok-note_parent-in-Some-parent_number-clause-versions c = λ kept all.
    let store = c.args.store.now in
    let f = c.args.foreign.now in
    let parent = c.in-Some.parent.now in
    let there : Some parent ≡ history_at f.parent store = c.in-Some.ensures.table ∙ ap (λ (name : List ℕ). history_at name store) c.as_str.ensures in
    let member : Option Member = member_at parent c.in-Some-parent_number.number in
    subst (λ (l : List Member). AllByRecursion (IsAtVersion store) l) (sym (c.in_ok-note_parent-in-Some-parent_number.ensures.parents kept))
    (all_pushed (IsAtVersion store) c.args.judged.now.parents member all
    (member_version store f.parent parent (last_next_number parent.nexts) c.tell_order.ensures there (Some c.in-Some-parent_number.number) member (λ j. member)))

pub returns-in_ok-note_parent-in-Some-parent_number-clause-parents : goal.returns-in_ok-note_parent-in-Some-parent_number-clause-parents
returns-in_ok-note_parent-in-Some-parent_number-clause-parents c = λ kept.
    let store = c.args.store.now in
    let f = c.args.foreign.now in
    let parent = c.in-Some.parent.now in
    let given = number_in c.args.given.now in
    let old : List Member = c.args.judged.now.parents in
    let there : Some parent ≡ history_at f.parent store = c.in-Some.ensures.table ∙ ap (λ (name : List ℕ). history_at name store) c.as_str.ensures in
    c.in_ok-note_parent-in-Some-parent_number.ensures.parents kept
    ∙ ap (λ (o : Option Member). old ++ option_to_list o) (member_is store f.parent parent (last_next_number parent.nexts) c.tell_order.ensures there (Some c.in-Some-parent_number.number))
    ∙ ap (λ (o : Option ℕ). old ++ option_to_list (option_map (member_now store f.parent) (if_stands (table_now parent) o))) c.in-Some-parent_number.ensures
    ∙ sym (ap (λ (o : Option Table). old ++ option_to_list (parent_in store given c.args.numbers.now c.args.own.now f o (Some c.args.key.values))) (now_at f.parent store parent there))
