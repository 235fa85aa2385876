use Rattle.std.proofs.Common.{leb, ap, ◌∙◌, rules, sym, arith}
use Rattle.std.proofs.lemmas.List.Sorted.{IsPartitionPoint-from_clause, IsPartitionedBy-leb}
use Rattle.row_version.proofs.Timed.{kept-in-front}
use Rattle.table_store.specs.Histories.{NextSince as Since, last_next_number}
use Rattle.table_store.specs.inner.Nexts.{since_of}
use Rattle.table_store.specs.declared.nexts.NextSince.{NextSince}
use Rattle.table_store.proofs.NextLaws.{times_sorted}
use Rattle.table_store.proofs.nexts.next_as_of.Goals as goal

pub returns : goal.returns
returns c =
    let nexts = c.args.nexts.now in
    let parted = IsPartitionedBy-leb (λ (n : NextSince). n.time) nexts c.args.time (times_sorted nexts c.requires) in
    let point = IsPartitionPoint-from_clause (λ (n : NextSince). leb n.time c.args.time) _ _ c.partition_point-after.ensures.partitioned parted (λ a r q k. search rules) in
    c.last_next_number.ensures ∙ ap last_next_number (sym (kept-in-front (λ (since : Since). since.time) since_of nexts c.args.time c.partition_point-after.result (λ k d below. point.0 k d (omega arith) below) point.1))
