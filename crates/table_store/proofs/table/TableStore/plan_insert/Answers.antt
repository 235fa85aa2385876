use Rattle.std.proofs.Common.{◌≡◌, ◌∙◌, ap, sym, subst, ℕ, List, None, Option, true, length}
use Rattle.std.specs.Prelude.{Err}
use Rattle.table_store.specs.Types.{Value}
use Rattle.table_store.specs.Histories.{TableHistory, last_next_number, rows_now, table_now}
use Rattle.table_store.specs.NewKeys.{new_in, AreBelow, AreClaimed}
use Rattle.table_store.specs.inner.Nexts.{nexts_of}
use Rattle.table_store.specs.Plans.{IsInsertPlan}
use Rattle.table_store.specs.Stops.{have_shape, insert_stop, StopsAs}
use Rattle.table_store.specs.declared.keys.new_keys.NewKeys.{NewKeys}
use Rattle.table_store.specs.declared.plans.InsertPlan.{InsertPlan}
use Rattle.table_store.proofs.RekeyLaws.{stop_as}
use Rattle.table_store.proofs.table.TableStore.plan_insert.Goals as goal

pub returns-in-Err-clause-stop : goal.returns-in-Err-clause-stop
returns-in-Err-clause-stop c =
    let a = c.self.inside in
    let rows : List (List Value) = c.args.rows in
    let made : TableHistory = record { name = a.name; schema = a.schema; slots = a.rows.slots; nexts = nexts_of a.nexts.items } in
    let stop = subst (λ (n : ℕ). StopsAs {X = NewKeys} (insert_stop c.items.result.now (record { name = a.name; schema = a.schema; rows = rows_now a.rows.slots; next = n })) (Err c.in-Err.stop)) (c.next-next.ensures ∙ sym c.self.invariant.next) (c.in-Err.ensures.stop a.name) in
    let own : StopsAs {X = NewKeys} (insert_stop rows (table_now made)) (Err c.in-Err.stop) = subst (λ (l : List (List Value)). StopsAs {X = NewKeys} (insert_stop l (table_now made)) (Err c.in-Err.stop)) c.items.ensures stop in
    subst (λ (t : TableHistory). StopsAs {X = InsertPlan} (insert_stop rows (table_now t)) (Err c.in-Err.stop)) c.self.view_is
    (stop_as NewKeys InsertPlan (insert_stop rows (table_now made)) c.in-Err.stop own)

pub returns-in-Ok-clause-stop : goal.returns-in-Ok-clause-stop
returns-in-Ok-clause-stop c =
    let a = c.self.inside in
    let rows : List (List Value) = c.args.rows in
    let made : TableHistory = record { name = a.name; schema = a.schema; slots = a.rows.slots; nexts = nexts_of a.nexts.items } in
    let none = subst (λ (n : ℕ). insert_stop c.items.result.now (record { name = a.name; schema = a.schema; rows = rows_now a.rows.slots; next = n }) ≡ None) (c.next-next.ensures ∙ sym c.self.invariant.next) (c.in-Ok.ensures.stop a.name) in
    subst (λ (t : TableHistory). insert_stop rows (table_now t) ≡ None) c.self.view_is
    (subst (λ (l : List (List Value)). insert_stop l (table_now made) ≡ None) c.items.ensures none)

pub returns-in-Ok-clause-plan : goal.returns-in-Ok-clause-plan
returns-in-Ok-clause-plan c =
    let a = c.self.inside in
    let rows : List (List Value) = c.args.rows in
    let made : TableHistory = record { name = a.name; schema = a.schema; slots = a.rows.slots; nexts = nexts_of a.nexts.items } in
    let next : c.next-next.result ≡ last_next_number made.nexts = c.next-next.ensures ∙ sym c.self.invariant.next in
    let none = subst (λ (n : ℕ). insert_stop c.items.result.now (record { name = a.name; schema = a.schema; rows = rows_now a.rows.slots; next = n }) ≡ None) next (c.in-Ok.ensures.stop a.name) in
    let keys = subst (λ (n : ℕ). AreClaimed a.schema.key n (rows_now a.rows.slots) c.items.result.now (new_in c.in-Ok.keys)) next c.in-Ok.ensures.ok in
    subst (λ (t : TableHistory). IsInsertPlan t (record { rows = rows; keys = c.in-Ok.keys })) c.self.view_is (record {
      shape = subst (λ (t : TableHistory). have_shape rows (table_now t) ≡ true) (sym c.self.view_is) c.requires.shape;
      stop = subst (λ (l : List (List Value)). insert_stop l (table_now made) ≡ None) c.items.ensures none;
      keys = subst (λ (l : List (List Value)). AreClaimed a.schema.key (last_next_number made.nexts) (rows_now a.rows.slots) l (new_in c.in-Ok.keys)) c.items.ensures keys;
      below = subst (λ (l : List (List Value)). AreBelow c.in-Ok.keys (length l)) c.items.ensures c.in-Ok.ensures.below;
    })
