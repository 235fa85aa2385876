use Rattle.std.proofs.Common.{◌≡◌, ◌∙◌, ℕ, List, map, ap, refl, sym, subst, true, Option, Some}
use Rattle.std.specs.Prelude.{filter, IsSome, IfSome, Err}
use Rattle.std.specs.Option.{option_and_then, option_or}
use Rattle.sql_model.specs.Scope.{table_at}
use Rattle.table_store.specs.Histories.{tables_now, table_now, rows_now}
use Rattle.table_store.specs.Planning.{IsPlannedReplace}
use Rattle.table_store.specs.Referring.{is_of, missing_stop, orphan_stop, replace_refusal}
use Rattle.table_store.specs.Stops.{with_changed, with_replaced, have_shape, values_of, had_rows, replace_stop, StopsAs}
use Rattle.table_store.specs.declared.error.StoreStop.{StoreStop}
use Rattle.table_store.specs.declared.plans.ReplacePlan.{ReplacePlan}
use Rattle.table_store.proofs.LaterLaws.{first_stops}
use Rattle.dml_versions.proofs.AfterLaws.{all_needed}
use Rattle.dml_versions.proofs.EntryLaws.{check-of, there-of}
use Rattle.dml_versions.proofs.KeptLaws.{same-own, refused-over, refused-change_with_lists}
use Rattle.dml_versions.proofs.RefusedTables.{told-here}
use Rattle.dml_versions.proofs.TableLaws.{table-now, history-some}
use Rattle.dml_versions.proofs.UpdateLaws.{update-shape, update-sorted, update-stand, update-own, update-child, update-refused, update-rules, update-kept}
use Rattle.dml_versions.specs.Changing.{ArePrepared, IsChange, IsStoreAfter, refused_change}
use Rattle.dml_versions.specs.inner.Finding.{test_in, found_row}
use Rattle.dml_versions.specs.inner.Needing.{need_found}
use Rattle.dml_versions.specs.Versions.{versions_now}
use Rattle.dml_versions.specs.Types.{Need, Statement, TheUpdate, Table, TableRow}
use Rattle.dml_versions.proofs.updating.update.Goals as goal

pub plan_replace-requires-clause-there : goal.plan_replace-requires-clause-there
plan_replace-requires-clause-there c =
    subst (λ (n : List ℕ). IsSome (table_at n (tables_now c.args.store.now))) (sym c.as_str-name.ensures)
    (there-of (tables_now c.args.store.now) c.args.checked.now c.requires.checked (TheUpdate c.update_of-update.result.now) c.update_of-update.ensures tt)

pub plan_replace-requires-clause-shape : goal.plan_replace-requires-clause-shape
plan_replace-requires-clause-shape c =
    let f = c.in_ok-prepared.ensures in
    let update = c.update_of-update.result.now in
    let old = c.args.store.now in
    let formed = c.tell_formed.ensures in
    let found = c.in_ok-prepared.prepared.found in
    let rows = c.in_ok-prepared.prepared.rows in
    let check = check-of (tables_now old) c.args.checked.now c.requires.checked (TheUpdate update) c.update_of-update.ensures in
    let there : table_at c.as_str-name.result.now (tables_now old) ≡ Some (table_now f.table) =
    ap (λ (n : List ℕ). table_at n (tables_now old)) c.as_str-name.ensures ∙ table-now update.table old f.table f.there in
    subst (λ (o : Option Table). IfSome o (λ table. have_shape (values_of rows) table ≡ true)) (sym there) (update-shape old update f.table f.there f.held.order formed check found rows f.found_is f.rows_are)

pub plan_replace-requires-clause-sorted : goal.plan_replace-requires-clause-sorted
plan_replace-requires-clause-sorted c =
    let f = c.in_ok-prepared.ensures in
    let update = c.update_of-update.result.now in
    let old = c.args.store.now in
    let formed = c.tell_formed.ensures in
    let found = c.in_ok-prepared.prepared.found in
    let rows = c.in_ok-prepared.prepared.rows in
    let check = check-of (tables_now old) c.args.checked.now c.requires.checked (TheUpdate update) c.update_of-update.ensures in
    update-sorted old update f.table f.there f.held.order formed check found rows f.found_is f.rows_are

pub plan_replace-requires-clause-stand : goal.plan_replace-requires-clause-stand
plan_replace-requires-clause-stand c =
    let f = c.in_ok-prepared.ensures in
    let update = c.update_of-update.result.now in
    let old = c.args.store.now in
    let formed = c.tell_formed.ensures in
    let found = c.in_ok-prepared.prepared.found in
    let rows = c.in_ok-prepared.prepared.rows in
    let check = check-of (tables_now old) c.args.checked.now c.requires.checked (TheUpdate update) c.update_of-update.ensures in
    let there : table_at c.as_str-name.result.now (tables_now old) ≡ Some (table_now f.table) =
    ap (λ (n : List ℕ). table_at n (tables_now old)) c.as_str-name.ensures ∙ table-now update.table old f.table f.there in
    subst (λ (o : Option Table). IfSome o (λ table. had_rows rows table ≡ true)) (sym there) (update-stand old update f.table f.there f.held.order formed check found rows f.found_is f.rows_are)

pub update_planned-requires-clause-prepared : goal.update_planned-requires-clause-prepared
update_planned-requires-clause-prepared c =
    subst (λ (l : List TableRow). ArePrepared c.update_of-update.result.now c.args.store.now c.in_ok-prepared.prepared.found l) (sym c.in-Ok.ensures.rows) c.in_ok-prepared.ensures

pub update_planned-requires-clause-plan : goal.update_planned-requires-clause-plan
update_planned-requires-clause-plan c =
    subst (λ (n : List ℕ). IsPlannedReplace c.args.store.now n c.in-Ok.plan) c.as_str-name.ensures c.in-Ok.ensures.plan

pub update_planned-requires-clause-fine : goal.update_planned-requires-clause-fine
update_planned-requires-clause-fine c =
    (λ j. option_and_then (replace_stop (c.in-Ok.ensures.rows j)) (table_at (sym c.as_str-name.ensures j) (tables_now c.args.store.now)))
    ∙ c.in-Ok.ensures.stop

pub returns-in-Ok : goal.returns-in-Ok
returns-in-Ok c = c.update_planned.ensures

-- ---- refused by its own table

pub refused_by_store-requires : goal.refused_by_store-requires
refused_by_store-requires c =
    let update = c.update_of-update.result.now in
    history-some update.table c.args.store.now
    (there-of (tables_now c.args.store.now) c.args.checked.now c.requires.checked (TheUpdate update) c.update_of-update.ensures tt)

pub returns : goal.returns
returns c =
    let f = c.in_ok-prepared.ensures in
    let update = c.update_of-update.result.now in
    let old = c.args.store.now in
    let db : List Table = tables_now old in
    let found = c.in_ok-prepared.prepared.found in
    let rows = c.in_ok-prepared.prepared.rows in
    let at = c.in-Err.stop in
    let formed = c.tell_formed.ensures in
    let needs = c.in_ok-needs-in-Err.needs in
    let given : List Need = c.new-all.result in
    let refused = c.in_ok-refused-in-Err.refused in
    let whole = all_needed (TheUpdate update) old in
    let others : List Need = map (need_found update.table) (map (found_row f.table.slots) (filter (test_in f.table update.pick) (rows_now f.table.slots))) in
    let check = check-of db c.args.checked.now c.requires.checked (TheUpdate update) c.update_of-update.ensures in
    let own = subst (λ (n : List ℕ). StopsAs {X = ReplacePlan} (option_and_then (replace_stop rows) (table_at n db)) (Err at)) c.as_str-name.ensures c.in-Err.ensures.stop in
    let rest : Table → Option StoreStop = λ (u : Table). option_or (missing_stop u.schema.foreign rows (with_changed u.name (with_replaced rows) db)) (orphan_stop (is_of rows) u (with_replaced rows u) db) in
    let stops : StopsAs {X = Unit {0}} (option_and_then (replace_refusal rows db) (table_at update.table db)) (Err at) =
    first_stops (replace_stop rows) rest ReplacePlan (Unit {0}) (table_at update.table db) at own in
    let made : refused_change (versions_now old) update.table f.table.slots needs given at ≡ Some refused =
    told-here update.table old old f.table needs given at refused refl f.there c.in_ok-refused-in-Err.ensures
    (update-child old update f.table f.there f.held.order formed check found rows f.found_is f.rows_are (Unit {0}) at stops) in
    let over = refused-over (versions_now old) update.table f.table.slots needs others given whole at refused made in
    record {
      change = subst (λ (s : Statement). IsChange s c.args.keep old refused) (sym c.update_of-update.ensures)
          (refused-change_with_lists (versions_now old) update.table f.table.slots needs others given whole (TheUpdate update) c.args.keep old at refused over
          (λ kept. same-own at needs others (update-own old update f.table f.there f.held.order formed check found rows f.found_is f.rows_are needs (c.in_ok-needs-in-Err.ensures kept)))
          (λ kept. update-rules old update f.table f.there f.held.order formed check found rows f.found_is f.rows_are ReplacePlan at own given)
          (update-refused old update f.table f.there f.held.order formed check found rows f.found_is f.rows_are (Unit {0}) at stops over.whole over.is));
      after = subst (λ (s : Statement). IsStoreAfter s c.args.time old old) (sym c.update_of-update.ensures)
          (update-kept old update f.table f.there f.held.order formed check found rows f.found_is f.rows_are (Unit {0}) at stops needs given refused made c.args.time old c.requires.later refl);
      err = tt;
    }
