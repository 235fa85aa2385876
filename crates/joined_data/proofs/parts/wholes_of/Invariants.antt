use Rattle.std.proofs.Common.{◌≡◌, ◌++◌, drop}
use Rattle.joined_data.specs.Joined.{wholes_of}
use Rattle.joined_data.proofs.parts.wholes_of.Given as goal

abbrev pub invariant-loop-file : goal.invariant-loop-file
invariant-loop-file l = l.paths ++ wholes_of (drop l.file-index l.file-items) ≡ wholes_of l.files
