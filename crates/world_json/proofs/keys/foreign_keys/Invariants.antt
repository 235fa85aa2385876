use Rattle.std.proofs.Common.{◌≡◌, ◌++◌, map}
use Rattle.world_json.specs.Faults.{foreign_key}
use Rattle.world_json.proofs.keys.foreign_keys.Given as goal

abbrev pub invariant-loop-draft : goal.invariant-loop-draft
invariant-loop-draft l = record {
  made : map (foreign_key l.columns) l.fn.drafts ≡ l.foreigns ++ map (foreign_key l.columns) l.draft-iterator.rest.items;
}
