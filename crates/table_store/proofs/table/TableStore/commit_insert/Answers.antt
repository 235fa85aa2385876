use Rattle.std.proofs.Common.{◌≡◌, ◌∙◌, ◌++◌, ◌+◌, ◌<◌, ◌≤◌, ap, sym, subst, ℕ, List, length, map, true, None, Option, arith}
use Rattle.std.specs.Prelude.{Err}
use Rattle.std.specs.List.{list_all}
use Rattle.std.specs.Option.{option_or}
use Rattle.sql_model.specs.Changes.{numbered_rows}
use Rattle.table_store.specs.Types.{Value, RowKey, TableRow}
use Rattle.table_store.specs.inner.Grid.{are_of_kinds, next_after}
use Rattle.table_store.specs.Histories.{NextSince, TableHistory, history_of_new_row, table_with_rows, last_next_number, last_since, rows_now, table_now}
use Rattle.table_store.specs.inner.ChildPairs.{Pairs, pair_by}
use Rattle.table_store.specs.IndexView.{held_in}
use Rattle.table_store.specs.KeyIndex.{HeldKeys, AreIndexed}
use Rattle.table_store.specs.inner.Nexts.{nexts_of}
use Rattle.table_store.specs.inner.RowHistories.{RowsHistory}
use Rattle.table_store.specs.Stops.{has_shape, insert_stop, StopsAs}
use Rattle.table_store.specs.TableView.{IsStored}
use Rattle.table_store.specs.declared.error.StoreStop.{StoreStop}
use Rattle.table_store.specs.NewKeys.{new_in, numbers_from, AreClaimed}
use Rattle.table_store.specs.Plans.{IsInsertPlan}
use Rattle.table_store.proofs.InsertLaws.{shapes_fit}
use Rattle.table_store.proofs.NewKeyLaws.{entered_indexed, kept_indexed, not_full}
use Rattle.table_store.proofs.TableChangeLaws.{referred_inserted, stored_claimed, stored_inserted, inserted_by}
use Rattle.table_store.proofs.table.TableStore.commit_insert.Goals as goal

pub enter-requires : goal.enter-requires
enter-requires c =
    let a = c.self.inside in
    let made : TableHistory = record { name = a.name; schema = a.schema; slots = a.rows.slots; nexts = nexts_of a.nexts.items } in
    let plan = subst (λ (t : TableHistory). IsInsertPlan t c.args.plan) (sym c.self.view_is) c.requires.plan in
    (length c.args.plan.rows, plan.below, omega (arith, not_full c.args.plan.rows (table_now made) plan.stop, c.next-next.ensures, c.self.invariant.next))

pub add_new-requires-clause-few : goal.add_new-requires-clause-few
add_new-requires-clause-few c =
    let a = c.self.inside in
    let made : TableHistory = record { name = a.name; schema = a.schema; slots = a.rows.slots; nexts = nexts_of a.nexts.items } in
    let plan = subst (λ (t : TableHistory). IsInsertPlan t c.args.plan) (sym c.self.view_is) c.requires.plan in
    omega (arith, not_full c.args.plan.rows (table_now made) plan.stop, c.self.invariant.next)

pub add_new-requires-clause-kinds : goal.add_new-requires-clause-kinds
add_new-requires-clause-kinds c =
    let a = c.self.inside in
    let plan = subst (λ (t : TableHistory). IsInsertPlan t c.args.plan) (sym c.self.view_is) c.requires.plan in
    (λ j. are_of_kinds (c.self.invariant.kinds j) (numbered_rows a.rows.next c.args.plan.rows)) ∙ shapes_fit a.schema.columns a.rows.next c.args.plan.rows plan.shape

pub invariant_of-self-2 : goal.invariant_of-self-2
invariant_of-self-2 c =
    let a = c.self.inside in
    let made : TableHistory = record { name = a.name; schema = a.schema; slots = a.rows.slots; nexts = nexts_of a.nexts.items } in
    let plan = subst (λ (t : TableHistory). IsInsertPlan t c.args.plan) (sym c.self.view_is) c.requires.plan in
    let rows : List (List Value) = c.args.plan.rows in
    let time = c.args.time in
    let nexts = nexts_of a.nexts.items in
    let more : List TableRow = numbered_rows a.rows.next rows in
    let places : HeldKeys = new_in c.args.plan.keys in
    let old : HeldKeys = λ q. held_in a.index q in
    let new : HeldKeys = λ q. held_in c.enter.new.self q in
    let later : last_since nexts < time = subst (λ (t : TableHistory). last_since t.nexts < time) (sym c.self.view_is) c.requires.later in
    let claimed : AreClaimed a.schema.key a.rows.next (rows_now a.rows.slots) rows places = subst (λ (n : ℕ). AreClaimed a.schema.key n (rows_now a.rows.slots) rows places) c.self.invariant.next plan.keys in
    let put : (q : RowKey) → new q ≡ option_or (numbers_from a.rows.next places q) (old q) = λ q. c.in_ok-enter.ensures.ok q ∙ ap (λ (n : ℕ). option_or (numbers_from n places q) (old q)) c.next-next.ensures in
    let indexed = entered_indexed a.schema.key a.rows.next (rows_now a.rows.slots) rows places old new claimed put c.self.invariant.indexed in
    let pairs : Pairs = pair_by a.children a.schema.foreign in
    let wider : Pairs = pair_by c.add_new.new.children a.schema.foreign in
    let referred = referred_inserted a.schema.foreign pairs wider (rows_now a.rows.slots) more c.add_new.ensures.kept c.self.invariant.referred c.in_ok-add_new.ensures.referred in
    subst (λ (r : RowsHistory). IsStored a.schema r new wider (nexts_of c.add_new.new.nexts.items)) (sym c.in_ok-add_new.ensures.ok)
    (subst (λ (n : List NextSince). IsStored a.schema (record a.rows { slots = a.rows.slots ++ map (history_of_new_row time) more; next = next_after a.rows.next more }) new wider n) (sym c.in_ok-add_new.ensures.nexts)
    (stored_inserted a.schema a.rows old new pairs wider nexts time rows c.self.invariant later indexed referred))

pub returns-clause-ok : goal.returns-clause-ok
returns-clause-ok c =
    let a = c.self.inside in
    let rows : List (List Value) = c.args.plan.rows in
    let slots = ap (λ (r : RowsHistory). r.slots) c.in_ok-add_new.ensures.ok in
    (λ j. record { name = a.name; schema = a.schema; slots = slots j; nexts = c.in_ok-add_new.ensures.nexts j })
    ∙ inserted_by a.name a.schema a.rows (nexts_of a.nexts.items) c.args.time rows c.self.invariant.next ∙ ap (table_with_rows c.args.time rows) c.self.view_is

pub invariant_of-self-in_err-add_new : goal.invariant_of-self-in_err-add_new
invariant_of-self-in_err-add_new c =
    let a = c.self.inside in
    let plan = subst (λ (t : TableHistory). IsInsertPlan t c.args.plan) (sym c.self.view_is) c.requires.plan in
    let places : HeldKeys = new_in c.args.plan.keys in
    let old : HeldKeys = λ q. held_in a.index q in
    let new : HeldKeys = λ q. held_in c.enter.new.self q in
    let wider : Pairs = pair_by c.add_new.new.children a.schema.foreign in
    let nexts : nexts_of a.nexts.items ≡ nexts_of c.add_new.new.nexts.items = ap nexts_of (sym c.in_err-add_new.ensures.nexts_err) in
    let kept = kept_indexed a.schema.key (last_next_number (nexts_of a.nexts.items)) (rows_now a.rows.slots) c.args.plan.rows places old new plan.keys c.enter.ensures.others c.self.invariant.indexed in
    subst (λ (r : RowsHistory). IsStored a.schema r new wider (nexts_of c.add_new.new.nexts.items)) (sym c.in_err-add_new.ensures.err)
    (subst (λ (n : List NextSince). IsStored a.schema a.rows new wider n) nexts
    (stored_claimed a.schema a.rows old new (pair_by a.children a.schema.foreign) wider (nexts_of a.nexts.items) kept c.add_new.ensures.kept c.self.invariant))

pub invariant_of-self : goal.invariant_of-self
invariant_of-self c =
    let a = c.self.inside in
    let plan = subst (λ (t : TableHistory). IsInsertPlan t c.args.plan) (sym c.self.view_is) c.requires.plan in
    let places : HeldKeys = new_in c.args.plan.keys in
    let old : HeldKeys = λ q. held_in a.index q in
    let new : HeldKeys = λ q. held_in c.enter.new.self q in
    let kept = kept_indexed a.schema.key (last_next_number (nexts_of a.nexts.items)) (rows_now a.rows.slots) c.args.plan.rows places old new plan.keys c.enter.ensures.others c.self.invariant.indexed in
    stored_claimed a.schema a.rows old new (pair_by a.children a.schema.foreign) (pair_by a.children a.schema.foreign) (nexts_of a.nexts.items) kept (λ place key number is. is) c.self.invariant
