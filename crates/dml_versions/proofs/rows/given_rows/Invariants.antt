use Rattle.std.proofs.Common.{◌≡◌, ◌++◌, map, length}
use Rattle.std.specs.List.{AllByRecursion}
use Rattle.dml_versions.specs.inner.Making.{ArePlain, value_from}
use Rattle.dml_versions.proofs.rows.given_rows.Given as goal

abbrev pub invariant-loop-left : goal.invariant-loop-left
invariant-loop-left l = record {
  plain : AllByRecursion ArePlain l.left;
  made : l.made ++ map (λ exprs. map (value_from exprs) l.sources) l.left ≡ map (λ exprs. map (value_from exprs) l.sources) l.rows;
}

abbrev pub decreases-loop-left : goal.decreases-loop-left
decreases-loop-left l = length l.left
