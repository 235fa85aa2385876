-- The types of other crates that the definitions here are about.
pub use Rattle.run_model.specs.Types.{File, OpenMode, Value, Null, Int, Text, Operand, Constant, Variable}
pub use Rattle.run_model.specs.Types.{CalcOp, Instr, Reply}
pub use Rattle.run_model.specs.declared.event.Act.{Act}
pub use Rattle.run_model.specs.declared.event.Act.TheVariants.{Started, Spawned, Unspawned, OpenedRead}
pub use Rattle.run_model.specs.declared.event.Act.TheVariants.{OpenedWrite, OpenedAppend, OpenedNew, Unopened}
pub use Rattle.run_model.specs.declared.event.Act.TheVariants.{Read, Wrote, Removed, Tested, Waited, Ended}
pub use Rattle.run_model.specs.declared.event.Event.{Event}
pub use Rattle.run_model.specs.declared.package.Entry.{Entry}
