use Rattle.std.proofs.Common.{◌≡◌, sym, subst, Option, None, true}
use Rattle.std.specs.Prelude.{Err}
use Rattle.std.specs.Option.{option_and_then}
use Rattle.table_store.specs.Stops.{have_shape, had_rows, replace_stop, values_of, StopsAs}
use Rattle.table_store.specs.Types.{Table}
use Rattle.table_store.specs.declared.plans.ReplacePlan.{ReplacePlan}
use Rattle.table_store.proofs.NowLaws.{given_now, not_absent, now_at}
use Rattle.table_store.proofs.store.Store.plan_replace.Goals as goal

pub unreachable-requires : goal.unreachable-requires
unreachable-requires c = not_absent c.args.table.now c.args.self.now c.requires.there c.in-None.ensures.table

pub plan_replace-requires-clause-shape : goal.plan_replace-requires-clause-shape
plan_replace-requires-clause-shape c =
    given_now (λ table. have_shape (values_of c.args.rows) table ≡ true) c.args.table.now c.args.self.now c.in-Some.own.now c.in-Some.ensures.table c.requires.shape

pub plan_replace-requires-clause-stand : goal.plan_replace-requires-clause-stand
plan_replace-requires-clause-stand c =
    given_now (λ table. had_rows c.args.rows table ≡ true) c.args.table.now c.args.self.now c.in-Some.own.now c.in-Some.ensures.table c.requires.stand

pub returns-in-Ok-clause-stop : goal.returns-in-Ok-clause-stop
returns-in-Ok-clause-stop c =
    subst (λ (o : Option Table). option_and_then (replace_stop c.args.rows) o ≡ None) (sym (now_at c.args.table.now c.args.self.now c.in-Some.own.now c.in-Some.ensures.table))
    c.in-Ok.ensures.stop

pub returns-in-Err-clause-stop : goal.returns-in-Err-clause-stop
returns-in-Err-clause-stop c =
    subst (λ (o : Option Table). StopsAs {X = ReplacePlan} (option_and_then (replace_stop c.args.rows) o) (Err c.in-Err.stop))
    (sym (now_at c.args.table.now c.args.self.now c.in-Some.own.now c.in-Some.ensures.table))
    c.in-Err.ensures.stop

pub returns-in-Ok-clause-plan : goal.returns-in-Ok-clause-plan
returns-in-Ok-clause-plan c = record {
  table = c.in-Some.own.now;
  there = sym c.in-Some.ensures.table;
  fits = c.in-Ok.ensures.plan;
}
