use Rattle.std.proofs.Common.{◌≡◌, ◌+◌, ◌<◌, ◌^◌, ℕ, List, [], map, ap, refl, sym, ◌∙◌, subst, arith, true, Option, Some}
use Rattle.std.specs.Prelude.{filter, IsSome, IfSome, Err}
use Rattle.std.specs.List.{AllByRecursion}
use Rattle.std.specs.Option.{option_and_then}
use Rattle.sql_model.specs.Scope.{table_at}
use Rattle.table_store.specs.Histories.{tables_now, table_now, rows_now, history_at, changed_at, table_without}
use Rattle.table_store.specs.Referring.{delete_refusal}
use Rattle.table_store.specs.Stops.{with_changed, with_removed, are_sorted_numbers, all_stand, StopsAs}
use Rattle.dml_versions.proofs.AfterLaws.{all_needed}
use Rattle.dml_versions.proofs.DeleteLaws.{delete-sorted, delete-stand, delete-needs, delete-own, delete-same, delete-child, delete-refused, delete-kept, delete-change, delete-after}
use Rattle.dml_versions.proofs.EntryLaws.{check-of, there-of, versions-fit}
use Rattle.dml_versions.proofs.KeptLaws.{change_with_lists-change, change_with_lists-over, change_with_lists-needs, refused-over, refused-change_with_lists}
use Rattle.dml_versions.proofs.RefusedTables.{told-here}
use Rattle.dml_versions.proofs.TableLaws.{table-now, history-some}
use Rattle.dml_versions.specs.Changing.{IsChange, IsStoreAfter, matched_change, refused_change}
use Rattle.dml_versions.specs.inner.Finding.{test_in, found_row}
use Rattle.dml_versions.specs.inner.Needing.{need_found, number_found}
use Rattle.dml_versions.specs.Types.{Need, Statement, TheDelete, Table, StoreHistory}
use Rattle.dml_versions.specs.Versions.{versions_now}
use Rattle.dml_versions.specs.declared.found.Found.{Found}
use Rattle.dml_versions.proofs.deleting.delete.Goals as goal

pub matched_change-requires : goal.matched_change-requires
matched_change-requires c =
    let f = c.in_ok-found.ensures in
    subst (λ (l : List Found). AllByRecursion (λ row. row.version + 1 < 2 ^ 32) l) (sym f.found_is)
    (versions-fit c.args.store.now.time f.table.slots f.held.timed c.args.time c.requires.later (omega arith)
    (filter (test_in f.table c.delete_of-delete.result.now.pick) (rows_now f.table.slots)))

pub delete_all-requires-clause-there : goal.delete_all-requires-clause-there
delete_all-requires-clause-there c =
    subst (λ (n : List ℕ). IsSome (table_at n (tables_now c.args.store.now))) (sym c.as_str-name.ensures)
    (there-of (tables_now c.args.store.now) c.args.checked.now c.requires.checked (TheDelete c.delete_of-delete.result.now) c.delete_of-delete.ensures tt)

pub delete_all-requires-clause-sorted : goal.delete_all-requires-clause-sorted
delete_all-requires-clause-sorted c =
    let f = c.in_ok-found.ensures in
    ap are_sorted_numbers c.in_ok-numbers.ensures
    ∙ delete-sorted c.args.store.now c.delete_of-delete.result.now f.table f.there f.held.order c.tell_formed.ensures c.in_ok-found.found f.found_is

pub delete_all-requires-clause-stand : goal.delete_all-requires-clause-stand
delete_all-requires-clause-stand c =
    let f = c.in_ok-found.ensures in
    let name = c.delete_of-delete.result.now.table in
    let there : table_at c.as_str-name.result.now (tables_now c.args.store.now) ≡ Some (table_now f.table) =
    ap (λ (n : List ℕ). table_at n (tables_now c.args.store.now)) c.as_str-name.ensures ∙ table-now name c.args.store.now f.table f.there in
    subst (λ (o : Option Table). IfSome o (λ table. all_stand c.in_ok-numbers.numbers table ≡ true)) (sym there)
    (ap (λ (l : List ℕ). all_stand l (table_now f.table)) c.in_ok-numbers.ensures
    ∙ delete-stand c.args.store.now c.delete_of-delete.result.now f.table f.there f.held.order c.tell_formed.ensures c.in_ok-found.found f.found_is)

-- ---- accepted

pub returns-in-Ok : goal.returns-in-Ok
returns-in-Ok c =
    let f = c.in_ok-found.ensures in
    let delete = c.delete_of-delete.result.now in
    let old = c.args.store.now in
    let formed = c.tell_formed.ensures in
    let found = c.in_ok-found.found in
    let whole = all_needed (TheDelete delete) old in
    let check = check-of (tables_now old) c.args.checked.now c.requires.checked (TheDelete delete) c.delete_of-delete.ensures in
    let fine = (λ j. option_and_then (delete_refusal (sym c.in_ok-numbers.ensures j) (tables_now old)) (table_at (sym c.as_str-name.ensures j) (tables_now old))) ∙ c.in-Ok.ensures.stop in
    record {
      change = subst (λ (s : Statement). IsChange s c.args.keep old c.in_ok-change.change) (sym c.delete_of-delete.ensures)
          (change_with_lists-change (TheDelete delete) c.args.keep old (matched_change delete.table found whole) c.in_ok-change.change
          (delete-change old delete f.table f.there f.held.order formed found f.found_is check fine)
          (c.in_ok-change.ensures
          ∙ change_with_lists-over c.args.keep (matched_change delete.table found) (λ a b. refl) c.in_ok-needs.needs whole
          (λ kept. delete-needs old delete f.table f.there f.held.order formed found f.found_is check c.in_ok-needs.needs (c.in_ok-needs.ensures kept))));
      after = subst (λ (s : Statement). IsStoreAfter s c.args.time old c.delete_all.new.self) (sym c.delete_of-delete.ensures)
          (delete-after old delete f.table f.there f.held.order formed c.in_ok-found.found f.found_is check fine c.args.time c.delete_all.new.self
          (c.in-Ok.ensures.now ∙ (λ j. with_changed (c.as_str-name.ensures j) (with_removed (c.in_ok-numbers.ensures j)) (tables_now old)))
          (c.in-Ok.ensures.ok ∙ (λ j. changed_at c.args.time (c.as_str-name.ensures j) (table_without c.args.time (c.in_ok-numbers.ensures j)) old))
          c.in-Ok.ensures.earlier);
      err = tt;
    }

-- ---- refused

pub refused_by_store-requires : goal.refused_by_store-requires
refused_by_store-requires c =
    let delete = c.delete_of-delete.result.now in
    subst (λ (store : StoreHistory). IsSome (history_at delete.table store)) (sym c.in-Err.ensures.err)
    (history-some delete.table c.args.store.now
    (there-of (tables_now c.args.store.now) c.args.checked.now c.requires.checked (TheDelete delete) c.delete_of-delete.ensures tt))

pub returns : goal.returns
returns c =
    let f = c.in_ok-found.ensures in
    let delete = c.delete_of-delete.result.now in
    let old = c.args.store.now in
    let formed = c.tell_formed.ensures in
    let found = c.in_ok-found.found in
    let at = c.in-Err.stop in
    let given = c.in_ok-change.change.needs in
    let refused = c.in_ok-refused-in-Err.refused in
    let whole = all_needed (TheDelete delete) old in
    let others : List Need = map (need_found delete.table) (map (found_row f.table.slots) (filter (test_in f.table delete.pick) (rows_now f.table.slots))) in
    let check = check-of (tables_now old) c.args.checked.now c.requires.checked (TheDelete delete) c.delete_of-delete.ensures in
    let stops : StopsAs {X = Unit {0}} (option_and_then (delete_refusal (map number_found found) (tables_now old)) (table_at delete.table (tables_now old))) (Err at) =
    subst (λ (n : List ℕ). StopsAs {X = Unit {0}} (option_and_then (delete_refusal (map number_found found) (tables_now old)) (table_at n (tables_now old))) (Err at)) c.as_str-name.ensures
    (subst (λ (l : List ℕ). StopsAs {X = Unit {0}} (option_and_then (delete_refusal l (tables_now old)) (table_at c.as_str-name.result.now (tables_now old))) (Err at)) c.in_ok-numbers.ensures c.in-Err.ensures.stop) in
    let made : refused_change (versions_now old) delete.table f.table.slots [] given at ≡ Some refused =
    ap (λ (none : List Need). refused_change (versions_now old) delete.table f.table.slots none given at) (sym c.new-none.ensures)
    ∙ told-here delete.table c.delete_all.new.self old f.table c.new-none.result given at refused c.in-Err.ensures.err f.there c.in_ok-refused-in-Err.ensures
    (delete-child old delete f.table f.there f.held.order formed found f.found_is check (Unit {0}) at stops) in
    let over = refused-over (versions_now old) delete.table f.table.slots [] others given whole at refused made in
    record {
      change = subst (λ (s : Statement). IsChange s c.args.keep old refused) (sym c.delete_of-delete.ensures)
          (refused-change_with_lists (versions_now old) delete.table f.table.slots [] others given whole (TheDelete delete) c.args.keep old at refused over
          (λ kept. delete-own old delete f.table f.there f.held.order formed found f.found_is check (Unit {0}) at stops [] others)
          (λ kept. delete-same old delete f.table f.there f.held.order formed found f.found_is check (Unit {0}) at stops given
          (change_with_lists-needs c.args.keep (matched_change delete.table found c.in_ok-needs.needs) c.in_ok-change.change c.in_ok-change.ensures kept
          ∙ delete-needs old delete f.table f.there f.held.order formed found f.found_is check c.in_ok-needs.needs (c.in_ok-needs.ensures kept)))
          (delete-refused old delete f.table f.there f.held.order formed found f.found_is check (Unit {0}) at stops over.whole over.is));
      after = subst (λ (s : Statement). IsStoreAfter s c.args.time old c.delete_all.new.self) (sym c.delete_of-delete.ensures)
          (delete-kept old delete f.table f.there f.held.order formed found f.found_is check (Unit {0}) at stops [] given refused made
          c.args.time c.delete_all.new.self c.requires.later c.in-Err.ensures.err);
      err = tt;
    }
