use Rattle.std.proofs.Common.{◌≡◌, ◌++◌, map}
use Rattle.lineage.specs.Needing.{need_by}
use Rattle.lineage.proofs.needs.needed_by.Given as goal

abbrev pub invariant-loop-member : goal.invariant-loop-member
invariant-loop-member l = l.needs ++ map (need_by l.rule) l.member-iterator.rest.items ≡ map (need_by l.rule) l.fn.members
