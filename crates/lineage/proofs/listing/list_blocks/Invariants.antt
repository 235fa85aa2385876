use Rattle.std.proofs.Common.{◌≡◌, ◌++◌, map}
use Rattle.std.specs.BTreeMap as tree
use Rattle.std.specs.Map.{keys_of}
use Rattle.lineage.specs.Lineage.{member, row_cmp}
use Rattle.lineage.specs.inner.Blocks.{rows_under, all_rows}
use Rattle.lineage.proofs.listing.list_blocks.Given as goal

abbrev pub invariant-loop-place : goal.invariant-loop-place
invariant-loop-place l =
    l.members ++ map (member l.names) (rows_under (tree.get row_cmp l.blocks) (keys_of l.place-iterator)) ≡ map (member l.names) (all_rows l.blocks)
