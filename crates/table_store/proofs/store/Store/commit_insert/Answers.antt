use Rattle.std.proofs.Common.{List, ◌∙◌, ap, sym, subst, ℕ, Some, get_or}
use Rattle.std.specs.Option.{option_map}
use Rattle.sql_model.specs.Tables.{is_valid_table}
use Rattle.table_store.specs.Types.{Table, Value}
use Rattle.table_store.specs.Histories.{TableHistory, table_with_rows, table_now}
use Rattle.table_store.specs.Stops.{with_inserted}
use Rattle.table_store.specs.StoreView.{no_table}
use Rattle.table_store.specs.Plans.{IsInsertPlan}
use Rattle.table_store.proofs.FormedLaws.{inserted_valid}
use Rattle.table_store.proofs.StoreChangeLaws.{insert_is, valid_there, at_place, later_there, history_there, after_stored, after_is, after_now, after_kept, not_gone}
use Rattle.table_store.proofs.TableChangeLaws.{inserted_now}
use Rattle.table_store.proofs.store.Store.commit_insert.Goals as goal

pub unreachable-requires : goal.unreachable-requires
unreachable-requires c =
    let a = c.self.inside in
    not_gone a.tables.items a.time c.args.self.now c.self.view_is c.args.table.now c.requires.plan.table c.requires.plan.there (c.place_in.ensures.absent c.in-None.is)

pub insert_in-requires-clause-plan : goal.insert_in-requires-clause-plan
insert_in-requires-clause-plan c =
    let a = c.self.inside in
    let tables = a.tables.items in
    let place = c.in-Some.place in
    let found = c.in-Some.ensures.found in
    subst (λ (h : TableHistory). IsInsertPlan h c.args.plan)
    (history_there a.catalog tables a.time c.self.invariant c.args.self.now c.self.view_is c.args.table.now place found c.args.time c.requires.later c.requires.plan.table c.requires.plan.there)
    c.requires.plan.fits

pub insert_in-requires-clause-later : goal.insert_in-requires-clause-later
insert_in-requires-clause-later c =
    let a = c.self.inside in
    let tables = a.tables.items in
    let place = c.in-Some.place in
    let found = c.in-Some.ensures.found in
    later_there a.catalog tables a.time c.self.invariant c.args.self.now c.self.view_is c.args.table.now place found c.args.time c.requires.later

pub invariant_of-self-in-Some : goal.invariant_of-self-in-Some
invariant_of-self-in-Some c =
    let a = c.self.inside in
    let tables = a.tables.items in
    let place = c.in-Some.place in
    let found = c.in-Some.ensures.found in
    let there : TableHistory = get_or tables place no_table in
    let rows : List (List Value) = c.args.plan.rows in
    let made = c.insert_in.new.tables.items in
    let plan = subst (λ (h : TableHistory). IsInsertPlan h c.args.plan) (history_there a.catalog tables a.time c.self.invariant c.args.self.now c.self.view_is c.args.table.now place found c.args.time c.requires.later c.requires.plan.table c.requires.plan.there) c.requires.plan.fits in
    let valid = valid_there a.catalog tables a.time c.self.invariant c.args.table.now place found.0 found.1 in
    after_stored a.catalog tables a.time c.self.invariant c.args.self.now c.self.view_is c.args.table.now place found c.args.time c.requires.later (table_with_rows c.args.time rows) (insert_is c.args.time rows) made c.in_ok-first-in-Some.ensures.ok
    (ap is_valid_table (inserted_now c.args.time rows there) ∙ inserted_valid (table_now there) valid rows plan.shape plan.stop)

pub returns-clause-ok : goal.returns-clause-ok
returns-clause-ok c =
    let a = c.self.inside in
    let tables = a.tables.items in
    let place = c.in-Some.place in
    let found = c.in-Some.ensures.found in
    let there : TableHistory = get_or tables place no_table in
    let rows : List (List Value) = c.args.plan.rows in
    let made = c.insert_in.new.tables.items in
    after_is a.catalog tables a.time c.self.invariant c.args.self.now c.self.view_is c.args.table.now place found c.args.time c.requires.later (table_with_rows c.args.time rows) (insert_is c.args.time rows) made c.in_ok-first-in-Some.ensures.ok

pub returns-clause-now : goal.returns-clause-now
returns-clause-now c =
    let a = c.self.inside in
    let tables = a.tables.items in
    let place = c.in-Some.place in
    let found = c.in-Some.ensures.found in
    let there : TableHistory = get_or tables place no_table in
    let rows : List (List Value) = c.args.plan.rows in
    let made = c.insert_in.new.tables.items in
    after_now a.catalog tables a.time c.self.invariant c.args.self.now c.self.view_is c.args.table.now place found c.args.time c.requires.later (table_with_rows c.args.time rows) (insert_is c.args.time rows) made c.in_ok-first-in-Some.ensures.ok (with_inserted rows) (inserted_now c.args.time rows there)

pub returns-clause-earlier : goal.returns-clause-earlier
returns-clause-earlier c =
    let a = c.self.inside in
    let tables = a.tables.items in
    let place = c.in-Some.place in
    let found = c.in-Some.ensures.found in
    let there : TableHistory = get_or tables place no_table in
    let rows : List (List Value) = c.args.plan.rows in
    let made = c.insert_in.new.tables.items in
    after_kept a.catalog tables a.time c.self.invariant c.args.self.now c.self.view_is c.args.table.now place found c.args.time c.requires.later (table_with_rows c.args.time rows) (insert_is c.args.time rows) made c.in_ok-first-in-Some.ensures.ok

pub returns-clause-first : goal.returns-clause-first
returns-clause-first c =
    let a = c.self.inside in
    let tables = a.tables.items in
    let place = c.in-Some.place in
    let found = c.in-Some.ensures.found in
    ap (option_map (λ (table : Table). table.next)) (at_place a.catalog tables a.time c.self.invariant c.args.self.now c.self.view_is c.args.table.now place found c.args.time c.requires.later)
    ∙ ap (λ (n : ℕ). Some n) (sym c.in_ok-first-in-Some.ensures.first)
