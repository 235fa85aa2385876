use Rattle.std.proofs.Common.{◌≡◌, ◌+◌, ◌∷◌, ap, drop}
use Rattle.ldv_value.proofs.Places.{drop_item}
use Rattle.sql_engine.proofs.UnionLaws.{count_on}
use Rattle.sql_engine.proofs.cores.count_merged.Goals as goal

pub loop-core-preserved : goal.loop-core-preserved
loop-core-preserved c =
    let cores = c.args.cores.now in
    let i = c.loop-core.core-index in
    let item = c.core-item.result in
    let split : drop i cores ≡ item ∷ drop (i + 1) cores = drop_item cores i item c.loop-core-test.true c.core-item.is in
    let after : c.loop-core.place + 1 ≡ i + 1 = ap (λ n. n + 1) c.loop-core.invariant.0 in (
      after,
      count_on cores (drop (i + 1) cores) item i (c.loop-core.place + 1) c.loop-core.count c.count_with-count.result split after c.count_with-count.ensures c.loop-core.invariant.1,
    )
