use Rattle.std.proofs.Common.{◌≡◌, drop, map}
use Rattle.lineage.specs.Lineage.{union_of}
use Rattle.group_eval.specs.inner.Uniting.{lineage_of_picks}
use Rattle.group_eval.proofs.lineages.add_lineages.Given as goal

abbrev pub invariant-loop-pick : goal.invariant-loop-pick
invariant-loop-pick l = union_of l.lineage (lineage_of_picks (map (λ r. r.now) (drop l.pick-index l.group))) ≡ union_of l.fn.lineage (lineage_of_picks (map (λ r. r.now) l.group))
