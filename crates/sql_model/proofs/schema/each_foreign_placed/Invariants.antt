use Rattle.std.proofs.Common.{◌≡◌, true, take}
use Rattle.std.specs.List.{list_all}
use Rattle.sql_model.specs.Tables.{foreign_key_test}
use Rattle.sql_model.proofs.schema.each_foreign_placed.Given as goal

abbrev pub invariant-loop-foreign : goal.invariant-loop-foreign
invariant-loop-foreign l = list_all (foreign_key_test l.columns) (take l.foreign-index l.foreign-items) ≡ true
