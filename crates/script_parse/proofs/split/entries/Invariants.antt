use Rattle.std.proofs.Common.{◌≡◌, ◌+◌, ◌++◌, ◌≤◌, length}
use Rattle.script_parse.specs.Lines.{lines_of}
use Rattle.script_parse.specs.Script.{entries_from, entries_of}
use Rattle.script_parse.proofs.split.entries.Given as goal

-- each line that is done was a byte at least
abbrev pub invariant-loop-rest : goal.invariant-loop-rest
invariant-loop-rest l = record {
  all : l.entries ++ entries_from (l.done + 1) (lines_of l.rest) ≡ entries_of l.bytes;
  numbers : l.done + length l.rest ≤ length l.bytes;
}

abbrev pub decreases-loop-rest : goal.decreases-loop-rest
decreases-loop-rest l = length l.rest
