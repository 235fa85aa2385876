use Rattle.std.proofs.Common.{◌≡◌, ◌∙◌, ◌<◌, ap, sym, subst, ℕ, List, map, Option}
use Rattle.row_version.specs.History.{Change}
use Rattle.table_store.specs.Histories.{RowHistory, NextSince, TableHistory, changed_by, last_since, last_next_number, nexts_with, rows_now, rows_without, table_without}
use Rattle.table_store.specs.inner.ChildPairs.{Pairs, AreReferred, StayReferred, pair_by}
use Rattle.table_store.specs.IndexView.{held_in}
use Rattle.table_store.specs.KeyIndex.{HeldKeys, AreIndexed}
use Rattle.table_store.specs.inner.Nexts.{nexts_of}
use Rattle.table_store.specs.inner.RowHistories.{RowsHistory}
use Rattle.table_store.specs.inner.RowChanges.{RowChange, removal, changes_given, RiseFrom, AllStand}
use Rattle.table_store.specs.TableView.{IsStored}
use Rattle.table_store.proofs.TableChangeLaws.{before_all, removals_rise, removals_stand, changes_removed, stored_changed, indexed_removed, referred_removed}
use Rattle.table_store.proofs.table.TableStore.commit_delete.Goals as goal

pub drop_rows-requires-clause-before : goal.drop_rows-requires-clause-before
drop_rows-requires-clause-before c =
    let a = c.self.inside in
    before_all (last_since (nexts_of a.nexts.items)) c.args.time a.rows.slots c.self.invariant.timed (subst (λ (t : TableHistory). last_since t.nexts < c.args.time) (sym c.self.view_is) c.requires.later)

pub drop_rows-requires-clause-apart : goal.drop_rows-requires-clause-apart
drop_rows-requires-clause-apart c = subst (λ (l : List ℕ). RiseFrom 0 (map removal l)) (sym c.items.ensures) (removals_rise c.args.numbers.now c.requires.sorted)

pub drop_rows-requires-clause-stand : goal.drop_rows-requires-clause-stand
drop_rows-requires-clause-stand c =
    let a = c.self.inside in
    subst (λ (l : List ℕ). AllStand a.rows.slots (map removal l)) (sym c.items.ensures)
    (subst (λ (slots : List RowHistory). AllStand slots (map removal c.args.numbers.now)) (sym (ap (λ (t : TableHistory). t.slots) c.self.view_is)) (removals_stand c.args.self.now.slots c.args.numbers.now c.requires.stand))

pub invariant_of-self-2 : goal.invariant_of-self-2
invariant_of-self-2 c =
    let a = c.self.inside in
    let time = c.args.time in
    let numbers = c.args.numbers.now in
    let given : List RowChange = map removal numbers in
    let held : HeldKeys = λ key. held_in a.index key in
    let nexts = nexts_of a.nexts.items in
    let later : last_since nexts < time = subst (λ (t : TableHistory). last_since t.nexts < time) (sym c.self.view_is) c.requires.later in
    let indexed = indexed_removed a.schema.key held time numbers a.rows.slots c.self.invariant.indexed in
    let pairs : Pairs = pair_by a.children a.schema.foreign in
    let referred = referred_removed a.schema.foreign pairs time numbers a.rows.slots c.self.invariant.referred in
    let left : Pairs = pair_by c.settle_all.new.index a.schema.foreign in
    let ok : c.drop_rows.new.rows ≡ record a.rows { slots = map (changed_by (changes_given time given)) a.rows.slots } =
    c.in_ok-drop_rows.ensures.ok ∙ ap (λ (l : List ℕ). record a.rows { slots = map (changed_by (changes_given time (map removal l))) a.rows.slots }) c.items.ensures in
    let settled = subst (λ (r : RowsHistory). StayReferred a.schema.foreign (rows_now r.slots) pairs left) ok c.settle_all.ensures in
    let whole = stored_changed a.schema a.rows held held pairs left nexts time given c.self.invariant later indexed (settled referred) in
    subst (λ (r : RowsHistory). IsStored a.schema r held left (nexts_of c.drop_rows.new.nexts.items)) (sym ok)
    (subst (λ (n : List NextSince). IsStored a.schema (record a.rows { slots = map (changed_by (changes_given time given)) a.rows.slots }) held left n) (sym c.in_ok-drop_rows.ensures.nexts) whole)

pub returns-clause-ok : goal.returns-clause-ok
returns-clause-ok c =
    let a = c.self.inside in
    let time = c.args.time in
    let numbers = c.args.numbers.now in
    let slots : c.drop_rows.new.rows.slots ≡ rows_without time numbers a.rows.slots =
    ap (λ (r : RowsHistory). r.slots) c.in_ok-drop_rows.ensures.ok
    ∙ ap (λ (l : List ℕ). map (changed_by (changes_given time (map removal l))) a.rows.slots) c.items.ensures
    ∙ ap (λ (changes : List (ℕ × Change)). map (changed_by changes) a.rows.slots) (changes_removed time numbers) in
    let nexts : nexts_of c.drop_rows.new.nexts.items ≡ nexts_with time (last_next_number (nexts_of a.nexts.items)) (nexts_of a.nexts.items) =
    c.in_ok-drop_rows.ensures.nexts ∙ ap (λ (n : ℕ). nexts_with time n (nexts_of a.nexts.items)) (sym c.self.invariant.next) in
    let made : TableHistory = record { name = a.name; schema = a.schema; slots = a.rows.slots; nexts = nexts_of a.nexts.items } in
    (λ j. record { name = made.name; schema = made.schema; slots = slots j; nexts = nexts j }) ∙ ap (table_without time numbers) c.self.view_is
