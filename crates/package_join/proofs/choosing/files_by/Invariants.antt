use Rattle.std.proofs.Common.{◌≡◌, ◌++◌, drop}
use Rattle.std.specs.List.{filter_map}
use Rattle.run_model.specs.Packing.{has_name}
use Rattle.package_join.specs.inner.Picked.{file_by}
use Rattle.package_join.proofs.choosing.files_by.Given as goal

abbrev pub invariant-loop-file : goal.invariant-loop-file
invariant-loop-file l =
    l.picked ++ filter_map (file_by (has_name l.wholes) (has_name l.presents)) (drop l.file-index l.files)
    ≡ filter_map (file_by (has_name l.wholes) (has_name l.presents)) l.files
