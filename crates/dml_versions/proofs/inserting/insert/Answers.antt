use Rattle.std.proofs.Common.{◌≡◌, ◌∙◌, ℕ, List, [], ap, refl, sym, subst, true, Option, Some}
use Rattle.std.specs.Prelude.{IsSome, IfSome, Err}
use Rattle.std.specs.Option.{option_and_then}
use Rattle.sql_model.specs.Changes.{numbered_rows}
use Rattle.sql_model.specs.Scope.{table_at}
use Rattle.table_store.specs.Histories.{tables_now, table_now}
use Rattle.table_store.specs.Planning.{IsPlannedInsert}
use Rattle.table_store.specs.Referring.{insert_refusal, missing_stop}
use Rattle.table_store.specs.Stops.{with_changed, with_inserted, have_shape, insert_stop, StopsAs}
use Rattle.table_store.specs.declared.error.StoreStop.{StoreStop}
use Rattle.table_store.specs.declared.plans.InsertPlan.{InsertPlan}
use Rattle.table_store.proofs.LaterLaws.{first_stops}
use Rattle.dml_versions.proofs.AfterLaws.{all_needed}
use Rattle.dml_versions.proofs.EntryLaws.{check-of, there-of}
use Rattle.dml_versions.proofs.InsertLaws.{insert-shape, insert-child, insert-refused, insert-rules, insert-kept}
use Rattle.dml_versions.proofs.KeptLaws.{same-own, refused-over, refused-change_with_lists}
use Rattle.dml_versions.proofs.RefusedTables.{told-here}
use Rattle.dml_versions.proofs.TableLaws.{table-now, history-some}
use Rattle.dml_versions.specs.Changing.{AreNewRows, IsChange, IsStoreAfter, refused_change}
use Rattle.dml_versions.specs.Types.{Need, Statement, TheInsert, Table, Value}
use Rattle.dml_versions.specs.Versions.{versions_now}
use Rattle.dml_versions.proofs.inserting.insert.Goals as goal

pub plan_insert-requires-clause-there : goal.plan_insert-requires-clause-there
plan_insert-requires-clause-there c =
    subst (λ (n : List ℕ). IsSome (table_at n (tables_now c.args.store.now))) (sym c.as_str-name.ensures)
    (there-of (tables_now c.args.store.now) c.args.checked.now c.requires.checked (TheInsert c.insert_of-insert.result.now) c.insert_of-insert.ensures tt)

pub plan_insert-requires-clause-shape : goal.plan_insert-requires-clause-shape
plan_insert-requires-clause-shape c =
    let f = c.in_ok-rows.ensures in
    let insert = c.insert_of-insert.result.now in
    let old = c.args.store.now in
    let check = check-of (tables_now old) c.args.checked.now c.requires.checked (TheInsert insert) c.insert_of-insert.ensures in
    let there : table_at c.as_str-name.result.now (tables_now old) ≡ Some (table_now f.table) =
    ap (λ (n : List ℕ). table_at n (tables_now old)) c.as_str-name.ensures ∙ table-now insert.table old f.table f.there in
    subst (λ (o : Option Table). IfSome o (λ table. have_shape c.in_ok-rows.rows table ≡ true)) (sym there)
    (insert-shape old insert f.table f.there f.held.order c.tell_formed.ensures check c.in_ok-rows.rows f.rows_are)

pub insert_planned-requires-clause-rows : goal.insert_planned-requires-clause-rows
insert_planned-requires-clause-rows c =
    subst (λ (l : List (List Value)). AreNewRows c.insert_of-insert.result.now c.args.store.now l) (sym c.in-Ok.ensures.rows) c.in_ok-rows.ensures

pub insert_planned-requires-clause-plan : goal.insert_planned-requires-clause-plan
insert_planned-requires-clause-plan c =
    subst (λ (n : List ℕ). IsPlannedInsert c.args.store.now n c.in-Ok.plan) c.as_str-name.ensures c.in-Ok.ensures.plan

pub insert_planned-requires-clause-fine : goal.insert_planned-requires-clause-fine
insert_planned-requires-clause-fine c =
    (λ j. option_and_then (insert_stop (c.in-Ok.ensures.rows j)) (table_at (sym c.as_str-name.ensures j) (tables_now c.args.store.now)))
    ∙ c.in-Ok.ensures.stop

pub returns-in-Ok : goal.returns-in-Ok
returns-in-Ok c = c.insert_planned.ensures

-- ---- refused by its own table

pub refused_by_store-requires : goal.refused_by_store-requires
refused_by_store-requires c =
    let insert = c.insert_of-insert.result.now in
    history-some insert.table c.args.store.now
    (there-of (tables_now c.args.store.now) c.args.checked.now c.requires.checked (TheInsert insert) c.insert_of-insert.ensures tt)

pub returns-in_ok-refused-in-Err : goal.returns-in_ok-refused-in-Err
returns-in_ok-refused-in-Err c =
    let f = c.in_ok-rows.ensures in
    let insert = c.insert_of-insert.result.now in
    let old = c.args.store.now in
    let db : List Table = tables_now old in
    let rows = c.in_ok-rows.rows in
    let at = c.in-Err.stop in
    let formed = c.tell_formed.ensures in
    let refused = c.in_ok-refused-in-Err.refused in
    let given : List Need = c.new-all.result in
    let whole = all_needed (TheInsert insert) old in
    let check = check-of db c.args.checked.now c.requires.checked (TheInsert insert) c.insert_of-insert.ensures in
    let own = subst (λ (n : List ℕ). StopsAs {X = InsertPlan} (option_and_then (insert_stop rows) (table_at n db)) (Err at)) c.as_str-name.ensures c.in-Err.ensures.stop in
    let rest : Table → Option StoreStop = λ (u : Table). missing_stop u.schema.foreign (numbered_rows u.next rows) (with_changed u.name (with_inserted rows) db) in
    let stops : StopsAs {X = ℕ} (option_and_then (insert_refusal rows db) (table_at insert.table db)) (Err at) =
    first_stops (insert_stop rows) rest InsertPlan ℕ (table_at insert.table db) at own in
    let made : refused_change (versions_now old) insert.table f.table.slots [] given at ≡ Some refused =
    ap (λ (none : List Need). refused_change (versions_now old) insert.table f.table.slots none given at) (sym c.new-none.ensures)
    ∙ told-here insert.table old old f.table c.new-none.result given at refused refl f.there c.in_ok-refused-in-Err.ensures
    (insert-child old insert f.table f.there f.held.order formed check rows f.rows_are ℕ at stops) in
    let over = refused-over (versions_now old) insert.table f.table.slots [] [] given whole at refused made in
    record {
      change = subst (λ (s : Statement). IsChange s c.args.keep old refused) (sym c.insert_of-insert.ensures)
          (refused-change_with_lists (versions_now old) insert.table f.table.slots [] [] given whole (TheInsert insert) c.args.keep old at refused over
          (λ kept. same-own at [] [] refl)
          (λ kept. insert-rules old insert f.table f.there f.held.order formed check rows f.rows_are InsertPlan at own given)
          (insert-refused old insert f.table f.there f.held.order formed check rows f.rows_are ℕ at stops over.whole over.is));
      after = subst (λ (s : Statement). IsStoreAfter s c.args.time old old) (sym c.insert_of-insert.ensures)
          (insert-kept old insert f.table f.there f.held.order formed check rows f.rows_are ℕ at stops [] given refused made c.args.time old c.requires.later refl);
      err = tt;
    }
