use Rattle.std.proofs.Common.{◌≡◌, ◌++◌}
use Rattle.std.specs.List.{filter_map}
use Rattle.run_model.specs.Packing.{has_name}
use Rattle.package_join.specs.Worlds.{seen_by}
use Rattle.package_join.proofs.worlds.files_seen.Given as goal

abbrev pub invariant-loop-file : goal.invariant-loop-file
invariant-loop-file l =
    l.seen ++ filter_map (seen_by (has_name l.presents)) l.file-iterator.rest.items ≡ filter_map (seen_by (has_name l.presents)) l.fn.files
