use Rattle.lineage.specs.inner.Blocks.{AreKept, Stays}
use Rattle.lineage.proofs.RoomLaws.{UnitesOnto}
use Rattle.lineage.proofs.table_blocks.unite.Given as goal

abbrev pub invariant-loop-place : goal.invariant-loop-place
invariant-loop-place l = AreKept l.blocks × Stays l.fn.blocks l.blocks × UnitesOnto l.fn.blocks l.others l.blocks l.place-iterator
