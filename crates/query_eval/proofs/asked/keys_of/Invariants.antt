use Rattle.std.proofs.Common.{◌≡◌, ◌*◌, length, Some}
use Rattle.std.specs.BTreeSet.{BTreeSet}
use Rattle.lineage.specs.Flat.{rows_in}
use Rattle.query_eval.specs.inner.Asked.{AreAsked, KeepKeys}
use Rattle.query_eval.specs.inner.Joining.{TieValues}
use Rattle.query_eval.proofs.asked.keys_of.Given as goal

-- larger sets that have the keys of the rows that are left have those of all
abbrev pub invariant-rows : goal.invariant-rows
invariant-rows l = record {
  same : l.width ≡ l.prefixes.width;
  long : length l.left ≡ l.count * l.width;
  all : (final : BTreeSet TieValues) → KeepKeys l.keys final → AreAsked (Some final) l.sources l.ties (rows_in l.count l.width l.left)
      → AreAsked (Some final) l.sources l.ties l.prefixes.rows;
}

abbrev pub decreases-rows : goal.decreases-rows
decreases-rows l = l.count
