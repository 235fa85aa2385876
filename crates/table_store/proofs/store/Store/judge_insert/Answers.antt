use Rattle.std.proofs.Common.{◌≡◌, ◌∙◌, ap, sym, subst, arith, Option, Some}
use Rattle.std.specs.Prelude.{IfSome}
use Rattle.std.specs.Option.{option_map}
use Rattle.ldv_value.proofs.Options.{none-some, same-some}
use Rattle.sql_model.specs.Changes.{numbered_rows}
use Rattle.sql_model.specs.Scope.{table_at}
use Rattle.table_store.specs.Histories.{TableHistory, table_now, tables_now}
use Rattle.table_store.specs.Plans.{IsInsertPlan}
use Rattle.table_store.specs.Referring.{missing_stop, parents_now}
use Rattle.table_store.specs.Stops.{with_changed, with_inserted}
use Rattle.table_store.specs.Types.{Table}
use Rattle.table_store.specs.declared.error.StoreStop.{StoreStop}
use Rattle.table_store.proofs.NewKeyLaws.{not_full}
use Rattle.table_store.proofs.NowLaws.{now_at}
use Rattle.table_store.proofs.PutRowLaws.{apart_inserted}
use Rattle.table_store.proofs.RefusalLaws.{own_history}
use Rattle.table_store.proofs.store.Store.judge_insert.Goals as goal

pub unreachable-requires : goal.unreachable-requires
unreachable-requires c = none-some c.requires.table (c.in-None.ensures.table ∙ c.requires.there)

pub judge_new-requires-clause-there : goal.judge_new-requires-clause-there
judge_new-requires-clause-there c = own_history c.args.table.now c.args.self.now c.in-Some.own.now c.in-Some.ensures.table

pub judge_new-requires-clause-fits : goal.judge_new-requires-clause-fits
judge_new-requires-clause-fits c =
    let own = c.in-Some.own.now in
    let same : own ≡ c.requires.table = same-some own c.requires.table (c.in-Some.ensures.table ∙ c.requires.there) in
    let plan = subst (λ (h : TableHistory). IsInsertPlan h c.args.plan.now) (sym same) c.requires.fits in
    omega (arith, not_full c.args.plan.now.rows (table_now own) plan.stop)

pub returns-clause-stop : goal.returns-clause-stop
returns-clause-stop c =
    let rows = c.args.plan.now.rows in
    ap (option_map (λ (own : Table). missing_stop own.schema.foreign (numbered_rows own.next rows) (with_changed own.name (with_inserted rows) (tables_now c.args.self.now)))) (now_at c.args.table.now c.args.self.now c.in-Some.own.now c.in-Some.ensures.table)
    ∙ ap (λ (o : Option StoreStop). Some o) (sym c.in_ok-judged-in-Some.ensures.stop)

pub returns-clause-parents : goal.returns-clause-parents
returns-clause-parents c = λ kept.
    let name = c.args.table.now in
    let store = c.args.self.now in
    let rows = c.args.plan.now.rows in
    let own = c.in-Some.own.now in
    let judged = c.in_ok-judged-in-Some.judged in
    let found : table_at name (tables_now store) ≡ Some (table_now own) = now_at name store own c.in-Some.ensures.table in
    let same : own ≡ c.requires.table = same-some own c.requires.table (c.in-Some.ensures.table ∙ c.requires.there) in
    let plan = subst (λ (h : TableHistory). IsInsertPlan h c.args.plan.now) (sym same) c.requires.fits in
    subst (λ (o : Option Table). IfSome o (λ t. judged.parents ≡ parents_now store (numbered_rows t.next rows) t)) (sym found)
    (c.in_ok-judged-in-Some.ensures.parents kept (apart_inserted (tables_now store) c.tell_formed.ensures name (table_now own) found rows plan.stop))
