use Rattle.std.proofs.Common.{refl, List, ◌≡◌, subst, ℕ, Option, Some}
use Rattle.std.specs.Prelude.{Err}
use Rattle.std.specs.Option.{option_map}
use Rattle.sql_model.specs.Changes.{numbered_rows}
use Rattle.sql_model.specs.Scope.{table_at}
use Rattle.table_store.specs.Histories.{changed_at, table_with_rows, tables_now}
use Rattle.table_store.specs.Referring.{missing_stop}
use Rattle.table_store.specs.Stops.{insert_stop, with_changed, with_inserted}
use Rattle.table_store.specs.Types.{Table, Value}
use Rattle.table_store.specs.declared.error.StoreStop.{StoreStop}
use Rattle.table_store.specs.declared.error.StoreStop.TheVariants.{HasChild}
use Rattle.table_store.specs.declared.plans.InsertPlan.{InsertPlan}
use Rattle.table_store.proofs.LaterLaws.{both_none, first_stops, later_stops, childless, same_error}
use Rattle.table_store.proofs.store.Store.insert_all.Goals as goal

pub judge_insert-requires : goal.judge_insert-requires
judge_insert-requires c = c.in-Ok.ensures.plan

pub commit_insert-requires-clause-plan : goal.commit_insert-requires-clause-plan
commit_insert-requires-clause-plan c = c.in-Ok.ensures.plan

pub returns-clause-change : goal.returns-clause-change
returns-clause-change c =
    let db : List Table = tables_now c.args.self.now in
    let o : Option Table = table_at c.args.table.now db in
    let due : List (List Value) → Table → Option StoreStop = λ (given : List (List Value)) (own : Table).
    missing_stop own.schema.foreign (numbered_rows own.next given) (with_changed own.name (with_inserted given) db) in
    let rest : Table → Option StoreStop = due c.args.rows in
    let judged : Option StoreStop = c.in_ok-judged.judged.stop in
    let told : option_map rest o ≡ Some judged = subst (λ (given : List (List Value)). option_map (due given) o ≡ Some judged) c.in-Ok.ensures.rows c.in_ok-judged.ensures.stop in
    let old = c.args.self.now in
    let new = c.commit_insert.new.self in
    record {
      stop = both_none (insert_stop c.args.rows) rest o judged c.in-Ok.ensures.stop told c.in-None.is;
      ok = subst (λ (given : List (List Value)). new ≡ changed_at c.args.time c.args.table.now (table_with_rows c.args.time given) old) c.in-Ok.ensures.rows c.in_ok-first.ensures.ok;
      now = subst (λ (given : List (List Value)). tables_now new ≡ with_changed c.args.table.now (with_inserted given) db) c.in-Ok.ensures.rows c.in_ok-first.ensures.now;
      earlier = c.in_ok-first.ensures.earlier;
      err = tt;
    }

pub returns-in-Some-clause-change : goal.returns-in-Some-clause-change
returns-in-Some-clause-change c =
    let db : List Table = tables_now c.args.self.now in
    let o : Option Table = table_at c.args.table.now db in
    let due : List (List Value) → Table → Option StoreStop = λ (given : List (List Value)) (own : Table).
    missing_stop own.schema.foreign (numbered_rows own.next given) (with_changed own.name (with_inserted given) db) in
    let rest : Table → Option StoreStop = due c.args.rows in
    let judged : Option StoreStop = c.in_ok-judged.judged.stop in
    let told : option_map rest o ≡ Some judged = subst (λ (given : List (List Value)). option_map (due given) o ≡ Some judged) c.in-Ok.ensures.rows c.in_ok-judged.ensures.stop in
    record {
      stop = later_stops (insert_stop c.args.rows) rest ℕ o judged c.in-Some.stop c.in-Ok.ensures.stop told c.in-Some.is;
      ok = tt;
      now = tt;
      earlier = tt;
      err = refl;
    }

pub returns-in-Err-clause-change : goal.returns-in-Err-clause-change
returns-in-Err-clause-change c =
    let db : List Table = tables_now c.args.self.now in
    let o : Option Table = table_at c.args.table.now db in
    let due : List (List Value) → Table → Option StoreStop = λ (given : List (List Value)) (own : Table).
    missing_stop own.schema.foreign (numbered_rows own.next given) (with_changed own.name (with_inserted given) db) in
    let rest : Table → Option StoreStop = due c.args.rows in
    record {
      stop = first_stops (insert_stop c.args.rows) rest InsertPlan ℕ o c.in-Err.stop c.in-Err.ensures.stop;
      ok = tt;
      now = tt;
      earlier = tt;
      err = refl;
    }

pub returns-in-Some-clause-childless : goal.returns-in-Some-clause-childless
returns-in-Some-clause-childless c = λ child row key is.
    let db : List Table = tables_now c.args.self.now in
    let o : Option Table = table_at c.args.table.now db in
    let due : List (List Value) → Table → Option StoreStop = λ (given : List (List Value)) (own : Table).
    missing_stop own.schema.foreign (numbered_rows own.next given) (with_changed own.name (with_inserted given) db) in
    let rest : Table → Option StoreStop = due c.args.rows in
    let judged : Option StoreStop = c.in_ok-judged.judged.stop in
    let told : option_map rest o ≡ Some judged = subst (λ (given : List (List Value)). option_map (due given) o ≡ Some judged) c.in-Ok.ensures.rows c.in_ok-judged.ensures.stop in
    childless child row key c.args.rows db o c.in-Some.stop
    (later_stops (insert_stop c.args.rows) rest ℕ o judged c.in-Some.stop c.in-Ok.ensures.stop told c.in-Some.is)
    (same_error (Err c.in-Some.stop) (Err (HasChild child row key)) c.in-Some.stop (HasChild child row key) refl refl is)

pub returns-in-Err-clause-childless : goal.returns-in-Err-clause-childless
returns-in-Err-clause-childless c = λ child row key is.
    let db : List Table = tables_now c.args.self.now in
    let o : Option Table = table_at c.args.table.now db in
    let due : List (List Value) → Table → Option StoreStop = λ (given : List (List Value)) (own : Table).
    missing_stop own.schema.foreign (numbered_rows own.next given) (with_changed own.name (with_inserted given) db) in
    let rest : Table → Option StoreStop = due c.args.rows in
    childless child row key c.args.rows db o c.in-Err.stop
    (first_stops (insert_stop c.args.rows) rest InsertPlan ℕ o c.in-Err.stop c.in-Err.ensures.stop)
    (same_error (Err c.in-Err.stop) (Err (HasChild child row key)) c.in-Err.stop (HasChild child row key) refl refl is)
