use Rattle.std.proofs.Common.{◌≡◌, true, take}
use Rattle.std.specs.List.{list_all}
use Rattle.world_json.specs.inner.NameSets.{is_foreign_known}
use Rattle.world_json.proofs.name_rules.each_foreign_known.Given as goal

abbrev pub invariant-loop-foreign : goal.invariant-loop-foreign
invariant-loop-foreign l = list_all (is_foreign_known l.columns l.tables) (take l.foreign-index l.foreign-items) ≡ true
