-- The result of a change of a store and the store after it, by its refusal.
use Rattle.std.proofs.Common.{◌≡◌, ℕ, ◌<◌, ◌≤◌, List, ◌++◌, map, refl, ap, sym, ◌∙◌, subst, arith, Option, Some, None}
use Rattle.sql_model.proofs.Equations.{reply_is, need_is, made_is, updated_is, after_is}
use Rattle.sql_model.specs.Changes.{or_else, change_refusal}
use Rattle.sql_model.specs.Needs.{matched_rows, parent_rows, needs_by, sorted_needs, made_unless, updated_unless, versions_after, read_of}
use Rattle.sql_model.specs.Refusals.{check_refusal}
use Rattle.sql_model.specs.Scope.{catalog_of}
use Rattle.sql_model.specs.Statements.{target, reference_refusal, refusal_of, reply_or, after_unless}
use Rattle.table_store.specs.Histories.{tables_now, AreKeptBefore}
use Rattle.dml_versions.specs.Changing.{IsWhole, IsStoreAfter}
use Rattle.dml_versions.specs.Types.{Need, SqlRefusal, Statement, StoreHistory, Table}
use Rattle.dml_versions.specs.Versions.{versions_now}
use Rattle.dml_versions.specs.declared.change.Change.{Change}

-- an accepted statement is refused by its rows and by references alone
pub refusal-is : (s : Statement) (db : List Table) (o : Option Table) → check_refusal s (catalog_of db) ≡ None → target s db ≡ o
    → refusal_of (Some s) db ≡ or_else (change_refusal s (catalog_of db) o) (reference_refusal s (catalog_of db) o db)
refusal-is s db o check found =
    λ j. or_else (or_else (check j) (change_refusal s (catalog_of db) (found j))) (reference_refusal s (catalog_of db) (found j) db)

-- the rows that a statement matches and their parents, at their versions
abbrev pub all_needed : Statement → StoreHistory → List Need
all_needed s store =
    map (read_of (versions_now store))
    (sorted_needs (matched_rows s (catalog_of (tables_now store)) (target s (tables_now store))
    ++ parent_rows s (catalog_of (tables_now store)) (target s (tables_now store)) (tables_now store)))

module _ (s : Statement) (store : StoreHistory) (refusal : Option SqlRefusal) (is : refusal_of (Some s) (tables_now store) ≡ refusal) where
  abbrev db : List Table
  db = tables_now store

  pub change-by : (change : Change) → change.reply ≡ reply_or refusal (Some s) db → change.made ≡ made_unless refusal (versions_now store) (Some s) db
      → change.needs ≡ map (read_of (versions_now store)) (sorted_needs (needs_by refusal s db)) → IsWhole s store change
  change-by change reply made needs = record {
    reply = reply ∙ sym (reply_is (Some s) db ∙ ap (λ (r : Option SqlRefusal). reply_or r (Some s) db) is);
    made = made ∙ sym (made_is (versions_now store) (Some s) db ∙ ap (λ (r : Option SqlRefusal). made_unless r (versions_now store) (Some s) db) is);
    needs = needs ∙ ap (map (read_of (versions_now store))) (sym (need_is (Some s) db ∙ ap (λ (r : Option SqlRefusal). sorted_needs (needs_by r s db)) is));
  }

  pub after-by : (time : ℕ) (new : StoreHistory) → tables_now new ≡ after_unless refusal (Some s) db
      → versions_now new ≡ versions_after (updated_unless refusal (Some s) db) (versions_now store) → new.time ≤ time → AreKeptBefore time store new
      → IsStoreAfter s time store new
  after-by time new tables versions latest earlier = record {
    tables = tables ∙ sym (after_is (Some s) db ∙ ap (λ (r : Option SqlRefusal). after_unless r (Some s) db) is);
    versions = versions ∙ sym (ap (λ l. versions_after l (versions_now store)) (updated_is (Some s) db ∙ ap (λ (r : Option SqlRefusal). updated_unless r (Some s) db) is));
    latest = latest;
    earlier = earlier;
  }

-- where a statement is refused the store is as it was
pub after-refused : (s : Statement) (time : ℕ) (old new : StoreHistory) (refusal : SqlRefusal) → refusal_of (Some s) (tables_now old) ≡ Some refusal
    → old.time < time → new ≡ old → IsStoreAfter s time old new
after-refused s time old new refusal is later same =
    subst (λ (n : StoreHistory). IsStoreAfter s time old n) (sym same)
    (after-by s old (Some refusal) is time old refl refl (omega (arith, later)) (λ name earlier before. (refl, refl)))
