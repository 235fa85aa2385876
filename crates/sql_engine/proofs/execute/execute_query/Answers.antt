use Rattle.std.proofs.Common.{◌≡◌, subst, sym, ap, ◌∙◌}
use Rattle.std.specs.Cmp.Lexicographic.{slice_cmp}
use Rattle.std.specs.List.Sorted.{IsStrictlySortedBy}
use Rattle.std.specs.Ordering.{nat_cmp}
use Rattle.query_eval.specs.StoredSources.{table_names}
use Rattle.sql_engine.specs.inner.Listing.{needs_of}
use Rattle.sql_engine.specs.Types.{Catalog, Rows}
use Rattle.sql_engine.proofs.AskLaws.{asked_query_outcome, same_needs}
use Rattle.sql_engine.proofs.StoreLaws.{sorted_names}
use Rattle.sql_engine.proofs.execute.execute_query.Goals as goal

pub needs_of-requires-clause-sorted : goal.needs_of-requires-clause-sorted
needs_of-requires-clause-sorted c =
    subst (IsStrictlySortedBy (slice_cmp nat_cmp)) (ap (λ (catalog : Catalog). catalog.names) (sym c.catalog.ensures))
    (sorted_names c.args.store.now c.tell_formed.ensures.database)

pub returns : goal.returns
returns c =
    let rows = c.in_ok-rows.field-0 in
    let store = c.args.store.now in
    let names : c.catalog.result.now.names ≡ table_names store = ap (λ (catalog : Catalog). catalog.names) c.catalog.ensures in
    let reads : c.in_ok-needs_of.field-0 ≡ needs_of (table_names store) rows.lineage rows.hidden =
    c.in_ok-needs_of.ensures ∙ ap (λ n. needs_of n rows.lineage rows.hidden) names in
    same_needs c.args.checked.now.statement c.args.keep store store (Rows rows.rows) c.new.result c.in_ok-needs_of.field-0
    (needs_of (table_names store) rows.lineage rows.hidden) reads
    (asked_query_outcome c.args.checked.now store c.args.keep rows c.requires.query c.requires.checked c.tell_formed.ensures c.in_ok-rows.ensures)
    c.new.ensures
