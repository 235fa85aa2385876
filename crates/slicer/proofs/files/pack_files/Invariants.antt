use Rattle.std.proofs.Common.{◌≡◌, ◌++◌, drop}
use Rattle.std.specs.List.{filter_map}
use Rattle.slicer.specs.inner.Marks.{packed_by}
use Rattle.slicer.proofs.files.pack_files.Given as goal

abbrev pub invariant-loop-file : goal.invariant-loop-file
invariant-loop-file l = l.packed ++ filter_map (packed_by l.whole l.present) (drop l.file-index l.files) ≡ filter_map (packed_by l.whole l.present) l.files
