use Rattle.std.proofs.Common.{◌∙◌, ap, List, arith}
use Rattle.std.specs.BTreeMap.{get, is_at}
use Rattle.std.specs.Map.{lookup}
use Rattle.std.specs.Ordering.{nat_cmp}
use Rattle.std.proofs.lemmas.List.{take_all}
use Rattle.table_store.specs.Types.{TableRow}
use Rattle.table_store.specs.inner.ParentSet.{key_put}
use Rattle.table_store.proofs.ParentSetLaws.{key_more}
use Rattle.table_store.proofs.references.parent_set.keys_put.Goals as goal

pub loop-row-init : goal.loop-row-init
loop-row-init c = λ number. ap (lookup (is_at (nat_cmp number))) c.new-given.ensures.empty

pub loop-row-preserved : goal.loop-row-preserved
loop-row-preserved c = λ number.
    key_more c.args.key.now c.args.rows.now c.loop-row.row-index c.row-item.result (get nat_cmp c.loop-row.given number) (get nat_cmp c.put_first.new.given number) number
    c.loop-row-test.true c.row-item.is (c.loop-row.invariant number) (c.in_ok-put_first.ensures number)

pub returns : goal.returns
returns c = λ number.
    c.loop-row.invariant number
    ∙ ap (λ (rows : List TableRow). key_put c.args.key.now rows number) (take_all c.loop-row.row-index c.args.rows.now (omega arith))
