use Rattle.std.proofs.Common.{◌≡◌, map, take}
use Rattle.proc_core.specs.Types.{Text}
use Rattle.proc_core.proofs.start.arguments_of.Given as goal

abbrev pub invariant-loop-word : goal.invariant-loop-word
invariant-loop-word l = l.values ≡ map Text (take l.word-index l.words)
