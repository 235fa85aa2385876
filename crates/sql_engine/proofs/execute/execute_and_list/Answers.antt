use Rattle.std.proofs.Common.{◌≡◌, ◌∙◌, ap, subst, sym, List, ℕ, Some}
use Rattle.sql_engine.proofs.AskLaws.{outcome_done, same_catalog}
use Rattle.sql_engine.specs.Asking.{IsRecorded}
use Rattle.sql_engine.specs.inner.Listing.{tables_asked}
use Rattle.sql_engine.specs.inner.Taking.{IsFresh}
use Rattle.sql_engine.specs.Types.{Catalog}
use Rattle.sql_engine.specs.declared.recorded.Recorded.{Recorded}
use Rattle.sql_model.specs.Scope.{catalog_of}
use Rattle.table_store.specs.Histories.{tables_now}
use Rattle.sql_engine.proofs.execute.execute_and_list.Goals as goal

pub list_asked-requires : goal.list_asked-requires
list_asked-requires c = λ kept.
    let s = c.args.checked.now.statement in
    let old = c.args.store.now in
    let new = c.execute_checked.new.store in
    let same : c.catalog.result.now ≡ catalog_of (tables_now new) =
    c.catalog.ensures ∙ sym (same_catalog s c.args.keep old new c.in_ok-change.change c.tell_formed.ensures c.in_ok-change.ensures.outcome) in
    subst (λ (names : List (List ℕ)). IsFresh s names c.in_ok-room.room) (ap (λ (catalog : Catalog). catalog.names) same)
    (c.in_ok-room.ensures kept)

pub returns-clause-done : goal.returns-clause-done
returns-clause-done c =
    let s = c.args.checked.now.statement in
    let old = c.args.store.now in
    let new = c.execute_checked.new.store in
    let is = c.in_ok-change.ensures.outcome in
    let same : catalog_of (tables_now new) ≡ catalog_of (tables_now old) =
    same_catalog s c.args.keep old new c.in_ok-change.change c.tell_formed.ensures is in
    subst (λ (d : Recorded). IsRecorded (Some s) c.args.keep old new d) (sym c.list_asked.ensures.given)
    (outcome_done s c.args.keep old new c.in_ok-change.change c.list_asked.result.tables is
    (λ kept. c.list_asked.ensures.tables kept ∙ ap (tables_asked s c.in_ok-change.change.needs) same))
