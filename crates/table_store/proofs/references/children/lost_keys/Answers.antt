use Rattle.std.proofs.Common.{◌∙◌, ap, List, ℕ, arith}
use Rattle.std.proofs.lemmas.List.{take_all}
use Rattle.table_store.specs.inner.Afterwards.{in_set, loses}
use Rattle.table_store.specs.inner.Judging.{holds}
use Rattle.table_store.specs.Histories.{table_now}
use Rattle.table_store.specs.Types.{Table}
use Rattle.table_store.proofs.ChildLaws.{loses_more, loses_none, none_in}
use Rattle.table_store.proofs.references.children.lost_keys.Goals as goal

pub loop-number-init : goal.loop-number-init
loop-number-init c = λ key.
    none_in c.new-lost.result c.new-lost.ensures.empty key ∙ loses_none (holds c.args.given.now) (table_now c.args.held.now) key

pub loop-number-preserved : goal.loop-number-preserved
loop-number-preserved c = λ key.
    loses_more (holds c.args.given.now) (table_now c.args.held.now) key c.args.numbers.now c.loop-number.number-index 0
    (in_set c.loop-number.lost key) (in_set c.add_lost.new.lost key) c.loop-number-test.true (c.loop-number.invariant key) (c.in_ok-add_lost.ensures key)

pub returns : goal.returns
returns c = λ key.
    let t : Table = table_now c.args.held.now in
    c.loop-number.invariant key
    ∙ ap (λ (numbers : List ℕ). loses (holds c.args.given.now) numbers t key) (take_all c.loop-number.number-index c.args.numbers.now (omega arith))
