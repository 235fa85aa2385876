use Rattle.std.proofs.Common.{rules, arith}
use Rattle.std.proofs.lemmas.List.Sorted.{IsPartitionPoint-from_clause}
use Rattle.ldv_value.specs.Sorted.{text_precedes}
use Rattle.replay_log.specs.Types.{Log}
use Rattle.replay_log.specs.inner.Places.{no_log}
use Rattle.replay_log.proofs.SortedLogs.{logs_parted}
use Rattle.replay_log.proofs.find.first_from.Goals as goal

pub returns-clause-before : goal.returns-clause-before
returns-clause-before c =
    let process = c.args.process.now in
    let parted = logs_parted process c.args.logs.now c.requires in
    let point = IsPartitionPoint-from_clause (λ (log : Log). text_precedes log.process.parts process) _ _ c.partition_point.ensures.partitioned parted (λ a r q k. search rules) in
    λ k below. point.0 k no_log (omega arith) below

pub returns-clause-after : goal.returns-clause-after
returns-clause-after c =
    let process = c.args.process.now in
    let parted = logs_parted process c.args.logs.now c.requires in
    let point = IsPartitionPoint-from_clause (λ (log : Log). text_precedes log.process.parts process) _ _ c.partition_point.ensures.partitioned parted (λ a r q k. search rules) in
    λ k from below. point.1 k no_log from below
