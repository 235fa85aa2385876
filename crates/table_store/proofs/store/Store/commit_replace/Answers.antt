use Rattle.std.proofs.Common.{List, ◌∙◌, ap, subst, get_or}
use Rattle.sql_model.specs.Tables.{is_valid_table}
use Rattle.table_store.specs.Types.{TableRow}
use Rattle.table_store.specs.Histories.{TableHistory, table_with_values, table_now}
use Rattle.table_store.specs.Stops.{with_replaced}
use Rattle.table_store.specs.StoreView.{no_table}
use Rattle.table_store.specs.Plans.{IsReplacePlan}
use Rattle.table_store.proofs.FormedLaws.{replaced_valid}
use Rattle.table_store.proofs.StoreChangeLaws.{replace_is, valid_there, later_there, history_there, after_stored, after_is, after_now, after_kept, not_gone}
use Rattle.table_store.proofs.store.Store.commit_replace.Goals as goal

pub unreachable-requires : goal.unreachable-requires
unreachable-requires c =
    let a = c.self.inside in
    not_gone a.tables.items a.time c.args.self.now c.self.view_is c.args.table.now c.requires.plan.table c.requires.plan.there (c.place_in.ensures.absent c.in-None.is)

pub replace_in-requires-clause-plan : goal.replace_in-requires-clause-plan
replace_in-requires-clause-plan c =
    let a = c.self.inside in
    let tables = a.tables.items in
    let place = c.in-Some.place in
    let found = c.in-Some.ensures.found in
    subst (λ (h : TableHistory). IsReplacePlan h c.args.plan)
    (history_there a.catalog tables a.time c.self.invariant c.args.self.now c.self.view_is c.args.table.now place found c.args.time c.requires.later c.requires.plan.table c.requires.plan.there)
    c.requires.plan.fits

pub replace_in-requires-clause-later : goal.replace_in-requires-clause-later
replace_in-requires-clause-later c =
    let a = c.self.inside in
    let tables = a.tables.items in
    let place = c.in-Some.place in
    let found = c.in-Some.ensures.found in
    later_there a.catalog tables a.time c.self.invariant c.args.self.now c.self.view_is c.args.table.now place found c.args.time c.requires.later

pub invariant_of-self-in-Some : goal.invariant_of-self-in-Some
invariant_of-self-in-Some c =
    let a = c.self.inside in
    let tables = a.tables.items in
    let place = c.in-Some.place in
    let found = c.in-Some.ensures.found in
    let there : TableHistory = get_or tables place no_table in
    let rows : List TableRow = c.args.plan.rows in
    let made = c.replace_in.new.tables.items in
    let plan = subst (λ (h : TableHistory). IsReplacePlan h c.args.plan) (history_there a.catalog tables a.time c.self.invariant c.args.self.now c.self.view_is c.args.table.now place found c.args.time c.requires.later c.requires.plan.table c.requires.plan.there) c.requires.plan.fits in
    let valid = valid_there a.catalog tables a.time c.self.invariant c.args.table.now place found.0 found.1 in
    after_stored a.catalog tables a.time c.self.invariant c.args.self.now c.self.view_is c.args.table.now place found c.args.time c.requires.later (table_with_values c.args.time rows) (replace_is c.args.time rows) made c.in_ok-replace_in-in-Some.ensures.ok
    (ap is_valid_table c.in_ok-replace_in-in-Some.ensures.now ∙ replaced_valid (table_now there) valid rows plan.shape plan.stop)

pub returns-clause-ok : goal.returns-clause-ok
returns-clause-ok c =
    let a = c.self.inside in
    let tables = a.tables.items in
    let place = c.in-Some.place in
    let found = c.in-Some.ensures.found in
    let there : TableHistory = get_or tables place no_table in
    let rows : List TableRow = c.args.plan.rows in
    let made = c.replace_in.new.tables.items in
    after_is a.catalog tables a.time c.self.invariant c.args.self.now c.self.view_is c.args.table.now place found c.args.time c.requires.later (table_with_values c.args.time rows) (replace_is c.args.time rows) made c.in_ok-replace_in-in-Some.ensures.ok

pub returns-clause-now : goal.returns-clause-now
returns-clause-now c =
    let a = c.self.inside in
    let tables = a.tables.items in
    let place = c.in-Some.place in
    let found = c.in-Some.ensures.found in
    let there : TableHistory = get_or tables place no_table in
    let rows : List TableRow = c.args.plan.rows in
    let made = c.replace_in.new.tables.items in
    after_now a.catalog tables a.time c.self.invariant c.args.self.now c.self.view_is c.args.table.now place found c.args.time c.requires.later (table_with_values c.args.time rows) (replace_is c.args.time rows) made c.in_ok-replace_in-in-Some.ensures.ok (with_replaced rows) c.in_ok-replace_in-in-Some.ensures.now

pub returns-clause-earlier : goal.returns-clause-earlier
returns-clause-earlier c =
    let a = c.self.inside in
    let tables = a.tables.items in
    let place = c.in-Some.place in
    let found = c.in-Some.ensures.found in
    let there : TableHistory = get_or tables place no_table in
    let rows : List TableRow = c.args.plan.rows in
    let made = c.replace_in.new.tables.items in
    after_kept a.catalog tables a.time c.self.invariant c.args.self.now c.self.view_is c.args.table.now place found c.args.time c.requires.later (table_with_values c.args.time rows) (replace_is c.args.time rows) made c.in_ok-replace_in-in-Some.ensures.ok
