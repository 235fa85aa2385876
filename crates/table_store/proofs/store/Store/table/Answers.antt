use Rattle.std.proofs.Common.{◌≡◌, ◌∙◌, ◌≤◌, ap, sym, subst, Some, get_or, arith}
use Rattle.std.proofs.lemmas.List.{get_or_read}
use Rattle.table_store.specs.Histories.{StoreHistory, TableHistory, history_at, last_since}
use Rattle.table_store.specs.StoreView.{no_table}
use Rattle.table_store.proofs.StoreChangeLaws.{place_found}
use Rattle.table_store.proofs.store.Store.table.Goals as goal

pub returns-in-None-clause-table : goal.returns-in-None-clause-table
returns-in-None-clause-table c =
    sym (c.place_in.ensures.absent c.in-None.is) ∙ ap (λ (s : StoreHistory). history_at c.args.name.now s) c.self.view_is

pub returns-in-Some-clause-table : goal.returns-in-Some-clause-table
returns-in-Some-clause-table c =
    let a = c.self.inside in
    let tables = a.tables.items in
    let place = c.in-Some.place in
    let found = c.in-Some.ensures.found in
    let item : c.index.result.now ≡ get_or tables place no_table = get_or_read tables _ _ found.0 c.index.ensures no_table in
    ap (λ (t : TableHistory). Some t) item ∙ sym (place_found a.catalog tables a.time c.self.invariant c.args.name.now place found.0 found.1) ∙ ap (λ (s : StoreHistory). history_at c.args.name.now s) c.self.view_is

pub returns-in-Some-clause-timed : goal.returns-in-Some-clause-timed
returns-in-Some-clause-timed c =
    let a = c.self.inside in
    let tables = a.tables.items in
    let place = c.in-Some.place in
    let found = c.in-Some.ensures.found in
    let item : c.index.result.now ≡ get_or tables place no_table = get_or_read tables _ _ found.0 c.index.ensures no_table in
    let time : a.time ≡ c.args.self.now.time = ap (λ (s : StoreHistory). s.time) c.self.view_is in
    subst (λ (t : TableHistory). last_since t.nexts ≤ c.args.self.now.time) (sym item) (omega (arith, c.self.invariant.timed place found.0, time))
