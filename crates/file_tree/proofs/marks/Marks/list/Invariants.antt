use Rattle.std.proofs.Common.{◌≡◌, map, string_bytes}
use Rattle.file_tree.proofs.marks.Marks.list.Given as goal

abbrev pub invariant-loop-path : goal.invariant-loop-path
invariant-loop-path l = l.paths ≡ map (λ p. string_bytes p.now) l.yielded
