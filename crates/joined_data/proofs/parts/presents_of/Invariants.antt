use Rattle.std.proofs.Common.{◌≡◌, ◌++◌, drop}
use Rattle.joined_data.specs.Joined.{presents_of}
use Rattle.joined_data.proofs.parts.presents_of.Given as goal

abbrev pub invariant-loop-file : goal.invariant-loop-file
invariant-loop-file l = l.paths ++ presents_of (drop l.file-index l.file-items) ≡ presents_of l.files
