use Rattle.std.proofs.Common.{◌≡◌, ◌∙◌, ◌==◌, ◌<◌, ap, sym, subst, List, map, true, None, refl}
use Rattle.std.specs.Prelude.{Err}
use Rattle.std.specs.List.{list_all, list_any}
use Rattle.std.specs.Option.{option_or}
use Rattle.table_store.specs.Types.{TableRow}
use Rattle.table_store.specs.GivenKeys.{with_claims}
use Rattle.table_store.specs.Histories.{TableHistory, last_since, table_with_values, rows_now, table_now}
use Rattle.table_store.specs.IndexView.{held_in}
use Rattle.table_store.specs.KeyIndex.{AreIndexed}
use Rattle.table_store.specs.inner.Nexts.{nexts_of}
use Rattle.table_store.specs.Stops.{have_shape, values_of, had_rows, replaced_by, with_replaced, replace_stop, StopsAs}
use Rattle.table_store.specs.declared.keys.index.Index.{Index}
use Rattle.table_store.specs.Plans.{IsReplacePlan}
use Rattle.table_store.proofs.TableChangeLaws.{GivenStand, given_stand, replaced_now}
use Rattle.table_store.proofs.table.TableStore.commit_replace.Goals as goal

pub put_given-requires-clause-stored : goal.put_given-requires-clause-stored
put_given-requires-clause-stored c = c.self.invariant

pub put_given-requires-clause-later : goal.put_given-requires-clause-later
put_given-requires-clause-later c = subst (λ (t : TableHistory). last_since t.nexts < c.args.time) (sym c.self.view_is) c.requires.later

pub put_given-requires-clause-shape : goal.put_given-requires-clause-shape
put_given-requires-clause-shape c = subst (λ (t : TableHistory). have_shape (values_of c.args.plan.rows) (table_now t) ≡ true) (sym c.self.view_is) c.requires.plan.shape

pub put_given-requires-clause-sorted : goal.put_given-requires-clause-sorted
put_given-requires-clause-sorted c = c.requires.plan.sorted

pub put_given-requires-clause-stand : goal.put_given-requires-clause-stand
put_given-requires-clause-stand c = subst (λ (t : TableHistory). had_rows c.args.plan.rows (table_now t) ≡ true) (sym c.self.view_is) c.requires.plan.stand

pub put_given-requires-clause-claimed : goal.put_given-requires-clause-claimed
put_given-requires-clause-claimed c =
    let a = c.self.inside in
    let plan = subst (λ (t : TableHistory). IsReplacePlan t c.args.plan) (sym c.self.view_is) c.requires.plan in
    plan.claimed (λ key. held_in a.index key) c.self.invariant.indexed

pub invariant_of-self : goal.invariant_of-self
invariant_of-self c = c.put_given.ensures.stored

pub returns-clause-ok : goal.returns-clause-ok
returns-clause-ok c =
    let a = c.self.inside in
    (λ j. record { name = a.name; schema = a.schema; slots = c.in_ok-put_given.ensures.ok j; nexts = c.in_ok-put_given.ensures.nexts j }) ∙ ap (table_with_values c.args.time c.args.plan.rows) c.self.view_is

pub returns-clause-now : goal.returns-clause-now
returns-clause-now c =
    let a = c.self.inside in
    let made : TableHistory = record { name = a.name; schema = a.schema; slots = a.rows.slots; nexts = nexts_of a.nexts.items } in
    let stood = subst (λ (t : TableHistory). had_rows c.args.plan.rows (table_now t) ≡ true) (sym c.self.view_is) c.requires.plan.stand in
    let stand : GivenStand c.args.plan.rows a.rows.slots = given_stand c.args.time c.args.plan.rows (table_now made) a.rows.slots a.rows.next refl c.tell_order.ensures.order stood in
    subst (λ (t : TableHistory). table_now (table_with_values c.args.time c.args.plan.rows t) ≡ with_replaced c.args.plan.rows (table_now t)) c.self.view_is (replaced_now c.args.time c.args.plan.rows made stand)
