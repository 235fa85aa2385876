use Rattle.std.proofs.Common.{◌≡◌, subst, sym, Option, Some}
use Rattle.std.specs.Prelude.{Ok, IfOk, IfSome}
use Rattle.sql_engine.proofs.AskLaws.{kept_cache}
use Rattle.sql_engine.proofs.CacheLaws.{entries_same}
use Rattle.sql_engine.specs.Asking.{IsRecorded}
use Rattle.sql_engine.specs.inner.Keeping.{IsCacheOf}
use Rattle.sql_engine.specs.Types.{Catalog, Checked, Statement}
use Rattle.sql_model.specs.Places.{checked_of}
use Rattle.sql_model.specs.Scope.{catalog_of}
use Rattle.sql_model.specs.Texts.{statement_of}
use Rattle.sql_template.specs.Checking.{IsReadyFor}
use Rattle.table_store.specs.Histories.{tables_now}
use Rattle.sql_engine.proofs.execute.execute.Goals as goal

pub find-requires : goal.find-requires
find-requires c = subst (λ (catalog : Catalog). IsCacheOf catalog c.args.cache.now) (sym c.catalog.ensures) c.requires.cache

pub execute_and_list-requires-clause-checked : goal.execute_and_list-requires-clause-checked
execute_and_list-requires-clause-checked c =
    let ready : IsReadyFor c.args.text.now c.args.params.now c.catalog.result.now c.in-Some.checked =
    subst (λ (o : Option Checked). IfSome o (IsReadyFor c.args.text.now c.args.params.now c.catalog.result.now)) c.in-Some.is c.in_ok-found.ensures.found in
    subst (λ (catalog : Catalog). checked_of c.in-Some.checked.statement catalog ≡ Ok c.in-Some.checked) c.catalog.ensures ready.checked_so

pub returns-in-Some-clause-done : goal.returns-in-Some-clause-done
returns-in-Some-clause-done c =
    let ready : IsReadyFor c.args.text.now c.args.params.now c.catalog.result.now c.in-Some.checked =
    subst (λ (o : Option Checked). IfSome o (IsReadyFor c.args.text.now c.args.params.now c.catalog.result.now)) c.in-Some.is c.in_ok-found.ensures.found in
    subst (λ (s : Option Statement). IfOk c.execute_and_list.result (IsRecorded s c.args.keep c.args.store.now c.execute_and_list.new.store))
    (sym ready.statement) c.execute_and_list.ensures.done

pub returns-in-Some-clause-cache : goal.returns-in-Some-clause-cache
returns-in-Some-clause-cache c =
    kept_cache c.execute_and_list.result (Some c.in-Some.checked.statement) c.args.keep c.args.store.now c.execute_and_list.new.store c.find.new.self
    c.tell_formed.ensures c.execute_and_list.ensures.done c.execute_and_list.ensures.err
    (subst (λ (catalog : Catalog). IsCacheOf catalog c.find.new.self) c.catalog.ensures c.find.ensures.kept)

pub returns-in-None-clause-cache : goal.returns-in-None-clause-cache
returns-in-None-clause-cache c =
    entries_same (catalog_of (tables_now c.execute_and_note.new.store)) c.find.new.self.entries.items c.execute_and_note.new.cache.entries.items
    c.execute_and_note.ensures.entries
    (kept_cache c.execute_and_note.result (statement_of c.args.text.now c.args.params.now) c.args.keep c.args.store.now c.execute_and_note.new.store c.find.new.self
    c.tell_formed.ensures c.execute_and_note.ensures.done c.execute_and_note.ensures.err
    (subst (λ (catalog : Catalog). IsCacheOf catalog c.find.new.self) c.catalog.ensures c.find.ensures.kept))
