use Rattle.std.proofs.Common.{◌∙◌, ◌||◌, ap, sym, List, arith}
use Rattle.std.proofs.lemmas.List.{take_all}
use Rattle.ldv_value.proofs.Booleans.{or-false}
use Rattle.table_store.specs.Types.{Foreign}
use Rattle.table_store.specs.inner.Afterwards.{in_set}
use Rattle.table_store.specs.inner.ParentSet.{asks, asks_in_row}
use Rattle.table_store.proofs.ParentSetLaws.{any_more}
use Rattle.table_store.proofs.references.parent_set.ask_in_row.Goals as goal

pub loop-foreign-init : goal.loop-foreign-init
loop-foreign-init c = λ key. sym (or-false (in_set c.args.asked.now key))

pub loop-foreign-preserved : goal.loop-foreign-preserved
loop-foreign-preserved c = λ key.
    any_more (asks c.args.own.now c.args.values.now key) c.items-foreign-items.result.now c.loop-foreign.foreign-index c.foreign-item.result
    (in_set c.args.asked.now key) (in_set c.loop-foreign.asked key) (in_set c.ask_by.new.asked key)
    c.loop-foreign-test.true c.foreign-item.is (c.loop-foreign.invariant key) (c.in_ok-ask_by.ensures key)

pub returns : goal.returns
returns c = λ key.
    c.loop-foreign.invariant key
    ∙ ap (λ (fs : List Foreign). in_set c.args.asked.now key || asks_in_row c.args.own.now fs c.args.values.now key)
    (take_all c.loop-foreign.foreign-index c.items-foreign-items.result.now (omega arith) ∙ c.items-foreign-items.ensures)
