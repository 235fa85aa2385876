use Rattle.std.proofs.Common.{◌≡◌, drop}
use Rattle.std.specs.List.{list_any}
use Rattle.query_eval.specs.StoredSources.{is_name}
use Rattle.query_eval.proofs.sources.place_of.Given as goal

abbrev pub invariant-loop-place : goal.invariant-loop-place
invariant-loop-place l = list_any (is_name l.name) (drop l.place l.names) ≡ list_any (is_name l.name) l.names
