use Rattle.std.proofs.Common.{◌≡◌, ◌++◌, take}
use Rattle.std.specs.List.{flat_map}
use Rattle.inspect.specs.FileReports.{file_line}
use Rattle.inspect.proofs.files.append_files.Given as goal

abbrev pub invariant-loop-file : goal.invariant-loop-file
invariant-loop-file l = l.to ≡ l.fn.to ++ flat_map file_line (take l.file-index l.files)
