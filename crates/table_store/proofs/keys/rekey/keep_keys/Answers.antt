use Rattle.std.proofs.Common.{rules, ◌≡◌, subst, List, true, arith}
use Rattle.std.specs.List.{AllByRecursion}
use Rattle.std.proofs.lemmas.List.{take_all}
use Rattle.table_store.specs.Types.{TableRow}
use Rattle.table_store.specs.Claims.{KeepsKey}
use Rattle.table_store.specs.Histories.{rows_now}
use Rattle.table_store.proofs.KeptKeyLaws.{all_more}
use Rattle.table_store.proofs.keys.rekey.keep_keys.Goals as goal

pub loop-row-preserved : goal.loop-row-preserved
loop-row-preserved c =
    let given = c.args.given.now in
    let kept = KeepsKey c.args.places.now (rows_now c.args.stored.now.slots) in
    let i = c.loop-row.row-index in
    let row : TableRow = c.row-item.result in
    let keeps : c.in_ok-keeps.keeps ≡ true = search rules in
    all_more kept given i row c.loop-row-test.true c.loop-row.invariant (subst (λ (r : TableRow). kept r) c.row-item.is (c.in_ok-keeps.ensures keeps))

pub returns : goal.returns
returns c = λ yes_all.
    let kept = KeepsKey c.args.places.now (rows_now c.args.stored.now.slots) in
    subst (λ (l : List TableRow). AllByRecursion kept l) (take_all c.loop-row.row-index c.args.given.now (omega arith)) c.loop-row.invariant
