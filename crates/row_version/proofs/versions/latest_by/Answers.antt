use Rattle.std.proofs.Common.{leb, ap, ◌∙◌, rules, sym, arith}
use Rattle.std.proofs.lemmas.List.Sorted.{IsPartitionPoint-from_clause, IsPartitionedBy-leb}
use Rattle.row_version.specs.History.{Change, current_values}
use Rattle.row_version.specs.inner.Versions.{change_of}
use Rattle.row_version.specs.declared.versions.Version.{Version}
use Rattle.row_version.proofs.Parts.{times_sorted}
use Rattle.row_version.proofs.Timed.{kept-in-front}
use Rattle.row_version.proofs.versions.latest_by.Goals as goal

pub returns : goal.returns
returns c =
    let versions = c.args.versions.now in
    let parted = IsPartitionedBy-leb (λ (v : Version). v.time) versions c.args.time (times_sorted versions c.requires) in
    let point = IsPartitionPoint-from_clause (λ (v : Version). leb v.time c.args.time) _ _ c.partition_point-after.ensures.partitioned parted (λ a r q k. search rules) in
    c.last_values.ensures ∙ ap current_values (sym (kept-in-front (λ (change : Change). change.time) change_of versions c.args.time c.partition_point-after.result (λ k d below. point.0 k d (omega arith) below) point.1))
