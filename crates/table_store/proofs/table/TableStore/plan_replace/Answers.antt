use Rattle.std.proofs.Common.{◌≡◌, ◌∙◌, ◌==◌, ap, sym, subst, List, None, true, map}
use Rattle.std.specs.Prelude.{Err}
use Rattle.std.specs.List.{list_all, list_any}
use Rattle.table_store.specs.Types.{TableRow}
use Rattle.table_store.specs.Histories.{TableHistory, rows_now, table_now}
use Rattle.table_store.specs.GivenKeys.{TakeOver}
use Rattle.table_store.specs.IndexView.{held_in}
use Rattle.table_store.specs.inner.Nexts.{nexts_of}
use Rattle.table_store.specs.Plans.{IsReplacePlan}
use Rattle.table_store.specs.Stops.{have_shape, values_of, had_rows, replaced_by, replace_stop, StopsAs}
use Rattle.table_store.specs.declared.keys.index.Index.{Index}
use Rattle.table_store.specs.declared.plans.ReplacePlan.{ReplacePlan}
use Rattle.table_store.proofs.RekeyLaws.{stop_as}
use Rattle.table_store.proofs.table.TableStore.plan_replace.Goals as goal

pub claim_given-requires-clause-stand : goal.claim_given-requires-clause-stand
claim_given-requires-clause-stand c =
    subst (λ (l : List TableRow). list_all (λ row. list_any (λ old. old.number == row.number) (rows_now c.self.inside.rows.slots)) l ≡ true) (sym c.items.ensures)
    (subst (λ (t : TableHistory). had_rows c.args.rows (table_now t) ≡ true) (sym c.self.view_is) c.requires.stand)

pub returns-in-Err-clause-stop : goal.returns-in-Err-clause-stop
returns-in-Err-clause-stop c =
    let a = c.self.inside in
    let made : TableHistory = record { name = a.name; schema = a.schema; slots = a.rows.slots; nexts = nexts_of a.nexts.items } in
    let stop = subst (λ (l : List TableRow). StopsAs {X = Index} (replace_stop l (table_now made)) (Err c.in-Err.stop)) c.items.ensures (c.in-Err.ensures.stop made.name (table_now made).next) in
    subst (λ (t : TableHistory). StopsAs {X = ReplacePlan} (replace_stop c.args.rows (table_now t)) (Err c.in-Err.stop)) c.self.view_is
    (stop_as Index ReplacePlan (replace_stop c.args.rows (table_now made)) c.in-Err.stop stop)

pub returns-in-Ok-clause-stop : goal.returns-in-Ok-clause-stop
returns-in-Ok-clause-stop c =
    let a = c.self.inside in
    let made : TableHistory = record { name = a.name; schema = a.schema; slots = a.rows.slots; nexts = nexts_of a.nexts.items } in
    subst (λ (t : TableHistory). replace_stop c.args.rows (table_now t) ≡ None) c.self.view_is
    (subst (λ (l : List TableRow). replace_stop l (table_now made) ≡ None) c.items.ensures (c.in-Ok.ensures.stop made.name (table_now made).next))

pub returns-in-Ok-clause-plan : goal.returns-in-Ok-clause-plan
returns-in-Ok-clause-plan c =
    let a = c.self.inside in
    let made : TableHistory = record { name = a.name; schema = a.schema; slots = a.rows.slots; nexts = nexts_of a.nexts.items } in
    subst (λ (t : TableHistory). IsReplacePlan t (record { rows = c.args.rows; claims = c.in-Ok.claims })) c.self.view_is (record {
      shape = subst (λ (t : TableHistory). have_shape (values_of c.args.rows) (table_now t) ≡ true) (sym c.self.view_is) c.requires.shape;
      sorted = c.requires.sorted;
      stand = subst (λ (t : TableHistory). had_rows c.args.rows (table_now t) ≡ true) (sym c.self.view_is) c.requires.stand;
      stop = subst (λ (l : List TableRow). replace_stop l (table_now made) ≡ None) c.items.ensures (c.in-Ok.ensures.stop made.name (table_now made).next);
      claimed = subst (λ (l : List TableRow). TakeOver a.schema.key (rows_now a.rows.slots) (map (replaced_by l) (rows_now a.rows.slots)) (λ key. held_in c.in-Ok.claims key)) c.items.ensures c.in-Ok.ensures.ok;
    })
