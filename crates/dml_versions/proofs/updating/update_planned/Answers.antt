use Rattle.std.proofs.Common.{◌≡◌, ◌∙◌, ◌+◌, ◌<◌, ◌^◌, ℕ, List, map, ap, refl, sym, subst, arith, Option, Some, None}
use Rattle.std.specs.Prelude.{filter, IfSome, IsTrue, Err}
use Rattle.std.specs.List.{AllByRecursion}
use Rattle.std.specs.Option.{option_and_then, option_map, option_or}
use Rattle.sql_model.specs.Scope.{table_at}
use Rattle.table_store.specs.Histories.{tables_now, rows_now, changed_at, table_with_values}
use Rattle.table_store.specs.Planning.{IsPlannedReplace}
use Rattle.table_store.specs.Referring.{is_of, missing_stop, orphan_stop, parents_now, replace_refusal}
use Rattle.table_store.specs.Stops.{with_changed, with_replaced, replace_stop, StopsAs}
use Rattle.table_store.specs.declared.error.StoreStop.{StoreStop}
use Rattle.table_store.proofs.LaterLaws.{both_none, later_stops}
use Rattle.dml_versions.proofs.AfterLaws.{all_needed}
use Rattle.dml_versions.proofs.EntryLaws.{check-of, there-of, versions-fit}
use Rattle.dml_versions.proofs.KeptLaws.{change_with_lists-change, change_with_lists-over, same-own, refused-over, refused-change_with_lists}
use Rattle.dml_versions.proofs.RefusedTables.{told-here}
use Rattle.dml_versions.proofs.TableLaws.{history-some}
use Rattle.dml_versions.proofs.UpdateLaws.{update-own, update-needs, update-change, update-after, update-child, update-refused, update-same, update-kept}
use Rattle.dml_versions.specs.Changing.{IsChange, IsStoreAfter, matched_change, refused_change}
use Rattle.dml_versions.specs.inner.Finding.{test_in, found_row}
use Rattle.dml_versions.specs.inner.Needing.{need_found}
use Rattle.dml_versions.specs.Versions.{versions_now}
use Rattle.dml_versions.specs.Types.{Need, Statement, TheUpdate, Table}
use Rattle.dml_versions.specs.declared.found.Found.{Found}
use Rattle.dml_versions.proofs.updating.update_planned.Goals as goal

pub judge_replace-requires : goal.judge_replace-requires
judge_replace-requires c = subst (λ (n : List ℕ). IsPlannedReplace c.args.store.now n c.args.plan) (sym c.as_str-name.ensures) c.requires.plan

pub commit_replace-requires-clause-plan : goal.commit_replace-requires-clause-plan
commit_replace-requires-clause-plan c = subst (λ (n : List ℕ). IsPlannedReplace c.args.store.now n c.args.plan) (sym c.as_str-name.ensures) c.requires.plan

pub matched_change-requires : goal.matched_change-requires
matched_change-requires c =
    let f = c.requires.prepared in
    subst (λ (l : List Found). AllByRecursion (λ row. row.version + 1 < 2 ^ 32) l) (sym f.found_is)
    (versions-fit c.args.store.now.time f.table.slots f.held.timed c.args.time c.requires.later (omega arith)
    (filter (test_in f.table c.args.update.now.pick) (rows_now f.table.slots)))

-- ---- accepted

pub returns : goal.returns
returns c =
    let f = c.requires.prepared in
    let update = c.args.update.now in
    let old = c.args.store.now in
    let db : List Table = tables_now old in
    let formed = c.tell_formed.ensures in
    let found = c.args.found.now in
    let rows = c.args.plan.rows in
    let whole = all_needed (TheUpdate update) old in
    let check = check-of db c.args.checked.now c.requires.checked (TheUpdate update) c.requires.statement in
    let rest : Table → Option StoreStop = λ (u : Table). option_or (missing_stop u.schema.foreign rows (with_changed u.name (with_replaced rows) db)) (orphan_stop (is_of rows) u (with_replaced rows u) db) in
    let judged = c.in_ok-judged.judged in
    let told : option_map rest (table_at update.table db) ≡ Some judged.stop =
    ap (λ (n : List ℕ). option_map rest (table_at n db)) (sym c.as_str-name.ensures) ∙ c.in_ok-judged.ensures.stop in
    let needs_are : IsTrue c.args.keep → c.in_ok-all.all ≡ whole = λ kept.
    update-needs old update f.table f.there f.held.order formed check found rows f.found_is f.rows_are judged.parents c.in_ok-needs.needs c.in_ok-all.all
    (subst (λ (n : List ℕ). IfSome (table_at n db) (λ u. judged.parents ≡ parents_now old rows u)) c.as_str-name.ensures (c.in_ok-judged.ensures.parents kept))
    (c.in_ok-judged.ensures.versions kept) (c.in_ok-needs.ensures kept) (c.in_ok-all.ensures kept) in
    let fine : option_and_then (replace_refusal rows db) (table_at update.table db) ≡ None =
    both_none (replace_stop rows) rest (table_at update.table db) judged.stop c.requires.fine told c.in-None.is in
    record {
      change = subst (λ (s : Statement). IsChange s c.args.keep old c.in_ok-change.change) (sym c.requires.statement)
          (change_with_lists-change (TheUpdate update) c.args.keep old (matched_change update.table found whole) c.in_ok-change.change
          (update-change old update f.table f.there f.held.order formed check found rows f.found_is f.rows_are fine)
          (c.in_ok-change.ensures ∙ change_with_lists-over c.args.keep (matched_change update.table found) (λ a b. refl) c.in_ok-all.all whole needs_are));
      after = subst (λ (s : Statement). IsStoreAfter s c.args.time old c.commit_replace.new.self) (sym c.requires.statement)
          (update-after old update f.table f.there f.held.order formed check found rows f.found_is f.rows_are fine c.args.time c.commit_replace.new.self
          (c.in_ok-commit_replace.ensures.now ∙ ap (λ (n : List ℕ). with_changed n (with_replaced rows) db) c.as_str-name.ensures)
          (c.in_ok-commit_replace.ensures.ok ∙ ap (λ (n : List ℕ). changed_at c.args.time n (table_with_values c.args.time rows) old) c.as_str-name.ensures)
          c.in_ok-commit_replace.ensures.earlier);
      err = tt;
    }

-- ---- refused by references

pub refused_by_store-requires : goal.refused_by_store-requires
refused_by_store-requires c =
    let update = c.args.update.now in
    history-some update.table c.args.store.now
    (there-of (tables_now c.args.store.now) c.args.checked.now c.requires.checked (TheUpdate update) c.requires.statement tt)

pub returns-in-Some : goal.returns-in-Some
returns-in-Some c =
    let f = c.requires.prepared in
    let update = c.args.update.now in
    let old = c.args.store.now in
    let db : List Table = tables_now old in
    let formed = c.tell_formed.ensures in
    let found = c.args.found.now in
    let rows = c.args.plan.rows in
    let whole = all_needed (TheUpdate update) old in
    let check = check-of db c.args.checked.now c.requires.checked (TheUpdate update) c.requires.statement in
    let rest : Table → Option StoreStop = λ (u : Table). option_or (missing_stop u.schema.foreign rows (with_changed u.name (with_replaced rows) db)) (orphan_stop (is_of rows) u (with_replaced rows u) db) in
    let judged = c.in_ok-judged.judged in
    let told : option_map rest (table_at update.table db) ≡ Some judged.stop =
    ap (λ (n : List ℕ). option_map rest (table_at n db)) (sym c.as_str-name.ensures) ∙ c.in_ok-judged.ensures.stop in
    let needs_are : IsTrue c.args.keep → c.in_ok-all.all ≡ whole = λ kept.
    update-needs old update f.table f.there f.held.order formed check found rows f.found_is f.rows_are judged.parents c.in_ok-needs.needs c.in_ok-all.all
    (subst (λ (n : List ℕ). IfSome (table_at n db) (λ u. judged.parents ≡ parents_now old rows u)) c.as_str-name.ensures (c.in_ok-judged.ensures.parents kept))
    (c.in_ok-judged.ensures.versions kept) (c.in_ok-needs.ensures kept) (c.in_ok-all.ensures kept) in
    let at = c.in-Some.stop in
    let needs = c.in_ok-needs.needs in
    let given = c.in_ok-all.all in
    let refused = c.in_ok-refused-in-Some.refused in
    let others : List Need = map (need_found update.table) (map (found_row f.table.slots) (filter (test_in f.table update.pick) (rows_now f.table.slots))) in
    let stops : StopsAs {X = Unit {0}} (option_and_then (replace_refusal rows db) (table_at update.table db)) (Err at) =
    later_stops (replace_stop rows) rest (Unit {0}) (table_at update.table db) judged.stop at c.requires.fine told c.in-Some.is in
    let made : refused_change (versions_now old) update.table f.table.slots needs given at ≡ Some refused =
    told-here update.table old old f.table needs given at refused refl f.there c.in_ok-refused-in-Some.ensures
    (update-child old update f.table f.there f.held.order formed check found rows f.found_is f.rows_are (Unit {0}) at stops) in
    let over = refused-over (versions_now old) update.table f.table.slots needs others given whole at refused made in
    record {
      change = subst (λ (s : Statement). IsChange s c.args.keep old refused) (sym c.requires.statement)
          (refused-change_with_lists (versions_now old) update.table f.table.slots needs others given whole (TheUpdate update) c.args.keep old at refused over
          (λ kept. same-own at needs others (update-own old update f.table f.there f.held.order formed check found rows f.found_is f.rows_are needs (c.in_ok-needs.ensures kept)))
          (λ kept. update-same old update f.table f.there f.held.order formed check found rows f.found_is f.rows_are (Unit {0}) at stops given (λ own. needs_are kept))
          (update-refused old update f.table f.there f.held.order formed check found rows f.found_is f.rows_are (Unit {0}) at stops over.whole over.is));
      after = subst (λ (s : Statement). IsStoreAfter s c.args.time old old) (sym c.requires.statement)
          (update-kept old update f.table f.there f.held.order formed check found rows f.found_is f.rows_are (Unit {0}) at stops needs given refused made c.args.time old c.requires.later refl);
      err = tt;
    }
