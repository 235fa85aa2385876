use Rattle.std.proofs.Common.{refl, List, ◌≡◌, subst, Option, Some}
use Rattle.std.specs.Option.{option_map, option_or}
use Rattle.sql_model.specs.Scope.{table_at}
use Rattle.table_store.specs.Histories.{changed_at, table_with_values, tables_now}
use Rattle.table_store.specs.Referring.{is_of, missing_stop, orphan_stop}
use Rattle.table_store.specs.Stops.{replace_stop, with_changed, with_replaced}
use Rattle.table_store.specs.Types.{Table, TableRow}
use Rattle.table_store.specs.declared.error.StoreStop.{StoreStop}
use Rattle.table_store.specs.declared.plans.ReplacePlan.{ReplacePlan}
use Rattle.table_store.proofs.LaterLaws.{both_none, first_stops, later_stops}
use Rattle.table_store.proofs.store.Store.replace_all.Goals as goal

pub judge_replace-requires : goal.judge_replace-requires
judge_replace-requires c = c.in-Ok.ensures.plan

pub commit_replace-requires-clause-plan : goal.commit_replace-requires-clause-plan
commit_replace-requires-clause-plan c = c.in-Ok.ensures.plan

pub returns : goal.returns
returns c =
    let db : List Table = tables_now c.args.self.now in
    let o : Option Table = table_at c.args.table.now db in
    let due : List TableRow → Table → Option StoreStop = λ (given : List TableRow) (own : Table).
    option_or (missing_stop own.schema.foreign given (with_changed own.name (with_replaced given) db)) (orphan_stop (is_of given) own (with_replaced given own) db) in
    let rest : Table → Option StoreStop = due c.args.rows in
    let judged : Option StoreStop = c.in_ok-judged.judged.stop in
    let told : option_map rest o ≡ Some judged = subst (λ (given : List TableRow). option_map (due given) o ≡ Some judged) c.in-Ok.ensures.rows c.in_ok-judged.ensures.stop in
    let old = c.args.self.now in
    let new = c.commit_replace.new.self in
    record {
      stop = both_none (replace_stop c.args.rows) rest o judged c.in-Ok.ensures.stop told c.in-None.is;
      ok = subst (λ (given : List TableRow). new ≡ changed_at c.args.time c.args.table.now (table_with_values c.args.time given) old) c.in-Ok.ensures.rows c.in_ok-commit_replace.ensures.ok;
      now = subst (λ (given : List TableRow). tables_now new ≡ with_changed c.args.table.now (with_replaced given) db) c.in-Ok.ensures.rows c.in_ok-commit_replace.ensures.now;
      earlier = c.in_ok-commit_replace.ensures.earlier;
      err = tt;
    }

pub returns-in-Some : goal.returns-in-Some
returns-in-Some c =
    let db : List Table = tables_now c.args.self.now in
    let o : Option Table = table_at c.args.table.now db in
    let due : List TableRow → Table → Option StoreStop = λ (given : List TableRow) (own : Table).
    option_or (missing_stop own.schema.foreign given (with_changed own.name (with_replaced given) db)) (orphan_stop (is_of given) own (with_replaced given own) db) in
    let rest : Table → Option StoreStop = due c.args.rows in
    let judged : Option StoreStop = c.in_ok-judged.judged.stop in
    let told : option_map rest o ≡ Some judged = subst (λ (given : List TableRow). option_map (due given) o ≡ Some judged) c.in-Ok.ensures.rows c.in_ok-judged.ensures.stop in
    record {
      stop = later_stops (replace_stop c.args.rows) rest (Unit {0}) o judged c.in-Some.stop c.in-Ok.ensures.stop told c.in-Some.is;
      ok = tt;
      now = tt;
      earlier = tt;
      err = refl;
    }

pub returns-in-Err : goal.returns-in-Err
returns-in-Err c =
    let db : List Table = tables_now c.args.self.now in
    let o : Option Table = table_at c.args.table.now db in
    let due : List TableRow → Table → Option StoreStop = λ (given : List TableRow) (own : Table).
    option_or (missing_stop own.schema.foreign given (with_changed own.name (with_replaced given) db)) (orphan_stop (is_of given) own (with_replaced given own) db) in
    let rest : Table → Option StoreStop = due c.args.rows in
    record {
      stop = first_stops (replace_stop c.args.rows) rest ReplacePlan (Unit {0}) o c.in-Err.stop c.in-Err.ensures.stop;
      ok = tt;
      now = tt;
      earlier = tt;
      err = refl;
    }
