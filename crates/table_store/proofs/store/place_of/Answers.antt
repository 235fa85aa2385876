use Rattle.std.proofs.Common.{rules, arith}
use Rattle.std.proofs.lemmas.List.Sorted.{IsPartitionPoint-from_clause}
use Rattle.ldv_value.specs.Sorted.{text_precedes}
use Rattle.table_store.specs.Histories.{TableHistory}
use Rattle.table_store.specs.StoreView.{no_table}
use Rattle.table_store.proofs.NamedLaws.{named_parted}
use Rattle.table_store.proofs.store.place_of.Goals as goal

pub returns-clause-before : goal.returns-clause-before
returns-clause-before c =
    let tables = c.args.tables.now in
    let name = c.args.name.now in
    let parted = named_parted (λ (t : TableHistory). t.name) name tables c.requires in
    let point = IsPartitionPoint-from_clause (λ (t : TableHistory). text_precedes t.name name) _ _ c.partition_point.ensures.partitioned parted (λ a r q k. search rules) in
    λ k below. point.0 k no_table (omega arith) below

pub returns-clause-after : goal.returns-clause-after
returns-clause-after c =
    let tables = c.args.tables.now in
    let name = c.args.name.now in
    let parted = named_parted (λ (t : TableHistory). t.name) name tables c.requires in
    let point = IsPartitionPoint-from_clause (λ (t : TableHistory). text_precedes t.name name) _ _ c.partition_point.ensures.partitioned parted (λ a r q k. search rules) in
    λ k from below. point.1 k no_table from below
