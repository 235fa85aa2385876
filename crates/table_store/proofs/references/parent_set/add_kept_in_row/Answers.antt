use Rattle.std.proofs.Common.{◌≡◌, ◌∙◌, ◌||◌, ap, sym, List, arith, true}
use Rattle.std.specs.BTreeMap.{get}
use Rattle.std.specs.BTreeSet.{contains}
use Rattle.std.specs.List.{list_all}
use Rattle.std.specs.Ordering.{nat_cmp}
use Rattle.std.proofs.lemmas.List.{take_all}
use Rattle.ldv_value.proofs.Booleans.{or-false}
use Rattle.table_store.specs.Histories.{tables_now}
use Rattle.table_store.specs.Types.{Foreign}
use Rattle.table_store.specs.inner.Afterwards.{is_keyed}
use Rattle.table_store.specs.inner.ParentSet.{is_kept, kept_in_row, name_order}
use Rattle.table_store.proofs.FormedLaws.{all_at}
use Rattle.table_store.proofs.ParentSetLaws.{any_more}
use Rattle.table_store.proofs.references.parent_set.add_kept_in_row.Goals as goal

pub add_kept-requires : goal.add_kept-requires
add_kept-requires c =
    let db = tables_now c.args.store.now in
    let xs = c.items-foreign-items.result.now in
    let all : list_all (is_keyed db) xs ≡ true = ap (list_all (is_keyed db)) c.items-foreign-items.ensures ∙ c.requires in
    ap (is_keyed db) c.foreign-item.is ∙ all_at (is_keyed db) xs c.loop-foreign.foreign-index c.foreign-item.result all c.loop-foreign-test.true

pub loop-foreign-init : goal.loop-foreign-init
loop-foreign-init c = λ row. sym (or-false (contains name_order c.args.found.now row))

pub loop-foreign-preserved : goal.loop-foreign-preserved
loop-foreign-preserved c = λ row.
    any_more (is_kept (get nat_cmp c.args.given.now) (tables_now c.args.store.now) c.args.own.now c.args.values.now row)
    c.items-foreign-items.result.now c.loop-foreign.foreign-index c.foreign-item.result
    (contains name_order c.args.found.now row) (contains name_order c.loop-foreign.found row) (contains name_order c.add_kept.new.found row)
    c.loop-foreign-test.true c.foreign-item.is (c.loop-foreign.invariant row) (c.in_ok-add_kept.ensures row)

pub returns : goal.returns
returns c = λ row.
    c.loop-foreign.invariant row
    ∙ ap (λ (fs : List Foreign). contains name_order c.args.found.now row
    || kept_in_row (get nat_cmp c.args.given.now) (tables_now c.args.store.now) c.args.own.now fs c.args.values.now row)
    (take_all c.loop-foreign.foreign-index c.items-foreign-items.result.now (omega arith) ∙ c.items-foreign-items.ensures)
