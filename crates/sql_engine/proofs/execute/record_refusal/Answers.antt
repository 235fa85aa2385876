use Rattle.std.proofs.Common.{◌≡◌, ◌∙◌, ap, subst, sym, List, ℕ, Some}
use Rattle.sql_engine.proofs.AskLaws.{outcome_done}
use Rattle.sql_engine.specs.Asking.{IsRecorded}
use Rattle.sql_engine.specs.inner.Taking.{IsFresh}
use Rattle.sql_engine.specs.Types.{Catalog}
use Rattle.sql_engine.specs.declared.recorded.Recorded.{Recorded}
use Rattle.sql_engine.proofs.execute.record_refusal.Goals as goal

pub list_asked-requires : goal.list_asked-requires
list_asked-requires c = λ kept.
    subst (λ (names : List (List ℕ)). IsFresh c.args.statement.now names c.in_ok-room.room) (ap (λ (catalog : Catalog). catalog.names) c.catalog.ensures)
    (c.in_ok-room.ensures kept)

pub returns : goal.returns
returns c =
    let s = c.args.statement.now in
    let store = c.args.store.now in
    subst (λ (d : Recorded). IsRecorded (Some s) c.args.keep store store d) (sym c.list_asked.ensures.given)
    (outcome_done s c.args.keep store store c.in_ok-change.change c.list_asked.result.tables
    (c.in_ok-change.ensures s store c.args.keep c.requires)
    c.list_asked.ensures.tables)
