use Rattle.std.proofs.Common.{◌≡◌, ◌∙◌, ap, sym, subst, List, Option, Some, true}
use Rattle.std.specs.Prelude.{IfSome}
use Rattle.std.specs.Option.{option_map, option_or}
use Rattle.ldv_value.proofs.Options.{none-some, same-some}
use Rattle.table_store.specs.Histories.{TableHistory, table_now, tables_now}
use Rattle.table_store.specs.Plans.{IsReplacePlan}
use Rattle.table_store.specs.Referring.{are_apart, is_of, missing_stop, orphan_stop, parents_now}
use Rattle.table_store.specs.Stops.{are_sorted_rows, had_rows, with_changed, with_replaced}
use Rattle.table_store.specs.Types.{Table, TableRow}
use Rattle.table_store.specs.declared.error.StoreStop.{StoreStop}
use Rattle.table_store.proofs.NowLaws.{now_at}
use Rattle.table_store.proofs.PutRowLaws.{apart_replaced}
use Rattle.table_store.proofs.RefusalLaws.{own_history}
use Rattle.table_store.proofs.store.Store.judge_replace.Goals as goal

pub unreachable-requires : goal.unreachable-requires
unreachable-requires c = none-some c.requires.table (c.in-None.ensures.table ∙ c.requires.there)

pub replace_judged-requires-clause-there : goal.replace_judged-requires-clause-there
replace_judged-requires-clause-there c = own_history c.args.table.now c.args.self.now c.in-Some.own.now c.in-Some.ensures.table

pub replace_judged-requires-clause-sorted : goal.replace_judged-requires-clause-sorted
replace_judged-requires-clause-sorted c = ap are_sorted_rows c.items.ensures ∙ c.requires.fits.sorted

pub replace_judged-requires-clause-stand : goal.replace_judged-requires-clause-stand
replace_judged-requires-clause-stand c =
    let own = c.in-Some.own.now in
    let same : own ≡ c.requires.table = same-some own c.requires.table (c.in-Some.ensures.table ∙ c.requires.there) in
    (λ j. had_rows (c.items.ensures j) (table_now (same j))) ∙ c.requires.fits.stand

pub returns-clause-stop : goal.returns-clause-stop
returns-clause-stop c =
    let rows = c.args.plan.now.rows in
    let own = c.in-Some.own.now in
    let db : List Table = tables_now c.args.self.now in
    let due : List TableRow → Table → Option StoreStop = λ (given : List TableRow) (t : Table).
    option_or (missing_stop t.schema.foreign given (with_changed t.name (with_replaced given) db)) (orphan_stop (is_of given) t (with_replaced given t) db) in
    ap (option_map (due rows)) (now_at c.args.table.now c.args.self.now own c.in-Some.ensures.table)
    ∙ ap (λ (given : List TableRow). Some (due given (table_now own))) (sym c.items.ensures)
    ∙ ap (λ (o : Option StoreStop). Some o) (sym c.in_ok-judged-in-Some.ensures.stop)

pub returns-clause-parents : goal.returns-clause-parents
returns-clause-parents c = λ kept.
    let name = c.args.table.now in
    let store = c.args.self.now in
    let rows = c.args.plan.now.rows in
    let own = c.in-Some.own.now in
    let judged = c.in_ok-judged-in-Some.judged in
    let same : own ≡ c.requires.table = same-some own c.requires.table (c.in-Some.ensures.table ∙ c.requires.there) in
    let plan = subst (λ (h : TableHistory). IsReplacePlan h c.args.plan.now) (sym same) c.requires.fits in
    let given : are_apart rows (table_now own) ≡ true → judged.parents ≡ parents_now store rows (table_now own) =
    subst (λ (l : List TableRow). are_apart l (table_now own) ≡ true → judged.parents ≡ parents_now store l (table_now own)) c.items.ensures (c.in_ok-judged-in-Some.ensures.parents kept) in
    subst (λ (o : Option Table). IfSome o (λ t. judged.parents ≡ parents_now store rows t)) (sym (now_at name store own c.in-Some.ensures.table))
    (given (apart_replaced (table_now own) rows plan.stand plan.stop))
