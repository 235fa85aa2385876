use Rattle.std.proofs.Common.{take}
use Rattle.std.specs.List.{AllByRecursion}
use Rattle.package_codec.specs.Typed.{TypedForeign}
use Rattle.package_codec.proofs.parts.table.tell_typed.Given as goal

abbrev pub invariant-loop-foreign : goal.invariant-loop-foreign
invariant-loop-foreign l = AllByRecursion TypedForeign (take l.foreign-index l.foreigns)
