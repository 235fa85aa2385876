use Rattle.std.proofs.Common.{◌≡◌, ◌≤◌, [], ◌∷◌, refl, sym, ap, ◌∙◌, subst, arith}
use Rattle.std.specs.Prelude.{Some, IsSome}
use Rattle.sql_engine.specs.Asking.{database}
use Rattle.sql_engine.specs.Types.{StoreHistory}
use Rattle.sql_model.specs.Scope.{table_at}
use Rattle.replay_db.specs.Types.{Table}
use Rattle.run_laws.proofs.TableSteps.{first_or, kept_not, kept_there, no_table}
use Rattle.replay_db.proofs.table.table_now.Goals as goal

pub unreachable-requires : goal.unreachable-requires
unreachable-requires c =
    kept_not (λ x. first_or no_table (database (record { tables = x ∷ []; time = 0 })).tables) _ c.args.name.now c.store.result.now.tables (λ y. refl) c.in-None.ensures.table
    (subst (λ (e : StoreHistory). IsSome (table_at c.args.name.now (database e).tables)) (sym c.store.ensures) c.requires.there)

pub returns : goal.returns
returns c =
    let same : c.store.result.now.time ≡ c.args.engine.now.time = ap (λ (e : StoreHistory). e.time) c.store.ensures in
    let table : Table = record {
      name = c.in_ok-of-in-Some.field-0;
      schema = c.in_ok-copy_item-in-Some.field-0;
      rows = c.in_ok-rows_at-in-Some.field-0;
      next = c.next_at.result;
    } in
    subst (λ (e : StoreHistory). table_at c.args.name.now (database e).tables ≡ Some table) c.store.ensures
    (kept_there (λ x. first_or no_table (database (record { tables = x ∷ []; time = 0 })).tables) _ c.args.name.now c.store.result.now.tables c.in-Some.held.now (λ y. refl) c.in-Some.ensures.table table (λ i. record {
      name = sym (c.in_ok-of-in-Some.ensures ∙ c.name.ensures) i;
      schema = sym (c.in_ok-copy_item-in-Some.ensures ∙ c.schema.ensures) i;
      rows = sym (c.in_ok-rows_at-in-Some.ensures.last (omega (arith, c.in-Some.ensures.timed, same, c.requires.late))) i;
      next = sym (c.next_at.ensures.last (omega (arith, c.in-Some.ensures.timed, same, c.requires.late))) i;
    }))
