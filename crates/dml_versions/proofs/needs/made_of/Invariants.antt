use Rattle.std.proofs.Common.{◌≡◌, ◌++◌, ◌+◌, ◌<◌, ◌^◌, map, length}
use Rattle.std.specs.List.{AllByRecursion}
use Rattle.dml_versions.specs.inner.Needing.{updated_member}
use Rattle.dml_versions.proofs.needs.made_of.Given as goal

abbrev pub invariant-loop-left : goal.invariant-loop-left
invariant-loop-left l = record {
  fits : AllByRecursion (λ row. row.version + 1 < 2 ^ 32) l.left;
  made : l.made ++ map (updated_member l.name) l.left ≡ map (updated_member l.name) l.found;
}

abbrev pub decreases-loop-left : goal.decreases-loop-left
decreases-loop-left l = length l.left
