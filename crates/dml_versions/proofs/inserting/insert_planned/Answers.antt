use Rattle.std.proofs.Common.{◌≡◌, ◌∙◌, ◌+◌, ◌≤◌, ℕ, List, [], length, ap, refl, sym, subst, arith, false, Option, Some, None}
use Rattle.std.specs.Prelude.{IsSome, IfSome, IsTrue, Err, nat_lt}
use Rattle.std.specs.Option.{option_and_then, option_map}
use Rattle.ldv_value.proofs.Options.{same-some}
use Rattle.ldv_value.specs.Limits.{max_next}
use Rattle.sql_model.specs.Changes.{numbered_rows}
use Rattle.sql_model.specs.Scope.{table_at}
use Rattle.table_store.specs.Histories.{tables_now, table_now, changed_at, table_with_rows}
use Rattle.table_store.specs.Planning.{IsPlannedInsert}
use Rattle.table_store.specs.Referring.{insert_refusal, missing_stop, parents_now}
use Rattle.table_store.specs.Stops.{with_changed, with_inserted, insert_stop, StopsAs}
use Rattle.table_store.specs.declared.error.StoreStop.{StoreStop}
use Rattle.table_store.proofs.LaterLaws.{both_none, later_stops}
use Rattle.dml_versions.proofs.AfterLaws.{all_needed}
use Rattle.dml_versions.proofs.EntryLaws.{check-of, there-of}
use Rattle.dml_versions.proofs.InsertLaws.{insert-fits, insert-fine, insert-needs, insert-change, insert-after, insert-child, insert-refused, insert-same, insert-kept}
use Rattle.dml_versions.proofs.KeptLaws.{change_with_lists-change, change_with_lists-over, same-own, refused-over, refused-change_with_lists}
use Rattle.dml_versions.proofs.RefusedTables.{told-here}
use Rattle.dml_versions.proofs.TableLaws.{table-now, history-some}
use Rattle.dml_versions.specs.Changing.{IsChange, IsStoreAfter, inserted_change, refused_change}
use Rattle.dml_versions.specs.inner.Needing.{with_parent_rows}
use Rattle.dml_versions.specs.Types.{Need, Statement, TheInsert, Table}
use Rattle.dml_versions.specs.Versions.{versions_now}
use Rattle.dml_versions.proofs.inserting.insert_planned.Goals as goal

pub next_at-next-requires : goal.next_at-next-requires
next_at-next-requires c =
    subst (λ (n : List ℕ). IsSome (table_at n (tables_now c.args.store.now))) (sym c.as_str-name.ensures)
    (there-of (tables_now c.args.store.now) c.args.checked.now c.requires.checked (TheInsert c.args.insert.now) c.requires.statement tt)

pub judge_insert-requires : goal.judge_insert-requires
judge_insert-requires c = subst (λ (n : List ℕ). IsPlannedInsert c.args.store.now n c.args.plan) (sym c.as_str-name.ensures) c.requires.plan

pub commit_insert-requires-clause-plan : goal.commit_insert-requires-clause-plan
commit_insert-requires-clause-plan c = subst (λ (n : List ℕ). IsPlannedInsert c.args.store.now n c.args.plan) (sym c.as_str-name.ensures) c.requires.plan

-- ---- accepted

pub returns : goal.returns
returns c =
    let f = c.requires.rows in
    let insert = c.args.insert.now in
    let old = c.args.store.now in
    let db : List Table = tables_now old in
    let rows = c.args.plan.rows in
    let formed = c.tell_formed.ensures in
    let whole = all_needed (TheInsert insert) old in
    let check = check-of db c.args.checked.now c.requires.checked (TheInsert insert) c.requires.statement in
    let rest : Table → Option StoreStop = λ (u : Table). missing_stop u.schema.foreign (numbered_rows u.next rows) (with_changed u.name (with_inserted rows) db) in
    let judged = c.in_ok-judged.judged in
    let told : option_map rest (table_at insert.table db) ≡ Some judged.stop =
    ap (λ (n : List ℕ). option_map rest (table_at n db)) (sym c.as_str-name.ensures) ∙ c.in_ok-judged.ensures.stop in
    let needs_are : IsTrue c.args.keep → c.in_ok-needs.needs ≡ whole = λ kept.
    insert-needs old insert f.table f.there f.held.order formed check rows f.rows_are judged.parents c.in_ok-needs.needs
    (subst (λ (n : List ℕ). IfSome (table_at n db) (λ u. judged.parents ≡ parents_now old (numbered_rows u.next rows) u)) c.as_str-name.ensures (c.in_ok-judged.ensures.parents kept))
    (c.in_ok-judged.ensures.versions kept) (c.in_ok-needs.ensures kept ∙ ap (with_parent_rows judged.parents) c.new-none.ensures) in
    let t = table_now f.table in
    let fine : option_and_then (insert_refusal rows db) (table_at insert.table db) ≡ None =
    both_none (insert_stop rows) rest (table_at insert.table db) judged.stop c.requires.fine told c.in-None.is in
    let there : table_at c.as_str-name.result.now db ≡ Some t =
    ap (λ (n : List ℕ). table_at n db) c.as_str-name.ensures ∙ table-now insert.table old f.table f.there in
    let later : old.time ≤ c.args.time = omega (arith, c.requires.later) in
    let next : c.next_at-next.result ≡ t.next =
    same-some c.next_at-next.result t.next (sym (c.next_at-next.ensures.last later) ∙ ap (option_map (λ (table : Table). table.next)) there) in
    let fits : nat_lt max_next (c.next_at-next.result + length rows) ≡ false =
    ap (λ (n : ℕ). nat_lt max_next (n + length rows)) next
    ∙ insert-fits old insert f.table f.there f.held.order formed check rows f.rows_are (insert-fine old insert f.table f.there f.held.order formed check rows f.rows_are fine) in
    record {
      change = subst (λ (s : Statement). IsChange s c.args.keep old c.in_ok-change.change) (sym c.requires.statement)
          (change_with_lists-change (TheInsert insert) c.args.keep old (inserted_change insert.table c.next_at-next.result rows whole) c.in_ok-change.change
          (insert-change old insert f.table f.there f.held.order formed check rows f.rows_are fine c.next_at-next.result next)
          (c.in_ok-change.ensures fits
          ∙ change_with_lists-over c.args.keep (inserted_change insert.table c.next_at-next.result rows) (λ a b. refl) c.in_ok-needs.needs whole needs_are));
      after = subst (λ (s : Statement). IsStoreAfter s c.args.time old c.commit_insert.new.self) (sym c.requires.statement)
          (insert-after old insert f.table f.there f.held.order formed check rows f.rows_are fine c.args.time c.commit_insert.new.self
          (c.in_ok-commit_insert.ensures.now ∙ ap (λ (n : List ℕ). with_changed n (with_inserted rows) db) c.as_str-name.ensures)
          (c.in_ok-commit_insert.ensures.ok ∙ ap (λ (n : List ℕ). changed_at c.args.time n (table_with_rows c.args.time rows) old) c.as_str-name.ensures)
          c.in_ok-commit_insert.ensures.earlier);
      err = tt;
    }

-- ---- refused by references

pub refused_by_store-requires : goal.refused_by_store-requires
refused_by_store-requires c =
    let insert = c.args.insert.now in
    history-some insert.table c.args.store.now
    (there-of (tables_now c.args.store.now) c.args.checked.now c.requires.checked (TheInsert insert) c.requires.statement tt)

pub returns-in-Some : goal.returns-in-Some
returns-in-Some c =
    let f = c.requires.rows in
    let insert = c.args.insert.now in
    let old = c.args.store.now in
    let db : List Table = tables_now old in
    let rows = c.args.plan.rows in
    let formed = c.tell_formed.ensures in
    let whole = all_needed (TheInsert insert) old in
    let check = check-of db c.args.checked.now c.requires.checked (TheInsert insert) c.requires.statement in
    let rest : Table → Option StoreStop = λ (u : Table). missing_stop u.schema.foreign (numbered_rows u.next rows) (with_changed u.name (with_inserted rows) db) in
    let judged = c.in_ok-judged.judged in
    let told : option_map rest (table_at insert.table db) ≡ Some judged.stop =
    ap (λ (n : List ℕ). option_map rest (table_at n db)) (sym c.as_str-name.ensures) ∙ c.in_ok-judged.ensures.stop in
    let needs_are : IsTrue c.args.keep → c.in_ok-needs.needs ≡ whole = λ kept.
    insert-needs old insert f.table f.there f.held.order formed check rows f.rows_are judged.parents c.in_ok-needs.needs
    (subst (λ (n : List ℕ). IfSome (table_at n db) (λ u. judged.parents ≡ parents_now old (numbered_rows u.next rows) u)) c.as_str-name.ensures (c.in_ok-judged.ensures.parents kept))
    (c.in_ok-judged.ensures.versions kept) (c.in_ok-needs.ensures kept ∙ ap (with_parent_rows judged.parents) c.new-none.ensures) in
    let at = c.in-Some.stop in
    let refused = c.in_ok-refused-in-Some.refused in
    let given : List Need = c.in_ok-needs.needs in
    let stops : StopsAs {X = ℕ} (option_and_then (insert_refusal rows db) (table_at insert.table db)) (Err at) =
    later_stops (insert_stop rows) rest ℕ (table_at insert.table db) judged.stop at c.requires.fine told c.in-Some.is in
    let made : refused_change (versions_now old) insert.table f.table.slots [] given at ≡ Some refused =
    ap (λ (none : List Need). refused_change (versions_now old) insert.table f.table.slots none given at) (sym c.new-none.ensures)
    ∙ told-here insert.table old old f.table c.new-none.result given at refused refl f.there c.in_ok-refused-in-Some.ensures
    (insert-child old insert f.table f.there f.held.order formed check rows f.rows_are ℕ at stops) in
    let over = refused-over (versions_now old) insert.table f.table.slots [] [] given whole at refused made in
    record {
      change = subst (λ (s : Statement). IsChange s c.args.keep old refused) (sym c.requires.statement)
          (refused-change_with_lists (versions_now old) insert.table f.table.slots [] [] given whole (TheInsert insert) c.args.keep old at refused over
          (λ kept. same-own at [] [] refl)
          (λ kept. insert-same old insert f.table f.there f.held.order formed check rows f.rows_are ℕ at stops given (λ own. needs_are kept))
          (insert-refused old insert f.table f.there f.held.order formed check rows f.rows_are ℕ at stops over.whole over.is));
      after = subst (λ (s : Statement). IsStoreAfter s c.args.time old old) (sym c.requires.statement)
          (insert-kept old insert f.table f.there f.held.order formed check rows f.rows_are ℕ at stops [] given refused made c.args.time old c.requires.later refl);
      err = tt;
    }
