-- The types that the definitions of runs are about: those of this crate, and of the crates below it.
pub use Rattle.ldv_value.specs.declared.file.File.{File}
pub use Rattle.ldv_value.specs.declared.file.OpenMode.{OpenMode}
pub use Rattle.ldv_value.specs.declared.value.Value.{Value}
pub use Rattle.ldv_value.specs.declared.value.Value.TheVariants.{Null, Int, Text}
pub use Rattle.script_parse.specs.declared.script.Operand.{Operand}
pub use Rattle.script_parse.specs.declared.script.Operand.TheVariants.{Constant, Variable}
pub use Rattle.script_parse.specs.declared.script.CalcOp.{CalcOp}
pub use Rattle.script_parse.specs.declared.script.CalcOp.TheVariants.{Add, Subtract, Multiply}
pub use Rattle.script_parse.specs.declared.script.Instr.{Instr}
pub use Rattle.script_parse.specs.declared.script.Instr.TheVariants.{Let, Calc, Glue, ToInt, Cut, Jump}
pub use Rattle.script_parse.specs.declared.script.Instr.TheVariants.{JumpIf, Print, Exit, OpenPath, ReadLine}
pub use Rattle.script_parse.specs.declared.script.Instr.TheVariants.{WriteLine, CopyRest, Close, Remove}
pub use Rattle.script_parse.specs.declared.script.Instr.TheVariants.{Exists, Spawn, Wait, Sql, Fetch, Count}
pub use Rattle.script_parse.specs.declared.script.Instr.TheVariants.{Status}
pub use Rattle.sql_model.specs.declared.need.Member.{Member}
pub use Rattle.sql_model.specs.declared.need.Need.{Need}
pub use Rattle.sql_model.specs.declared.need.Rule.{Rule}
pub use Rattle.sql_model.specs.declared.reply.Reply.{Reply}
pub use Rattle.sql_model.specs.declared.reply.Reply.TheVariants.{Rows, Changed, Refused}
pub use Rattle.sql_model.specs.declared.statement.Statement.{Statement}
pub use Rattle.sql_model.specs.declared.table.Table.{Table}
pub use Rattle.sql_model.specs.declared.table.TableRow.{TableRow}
pub use Rattle.run_model.specs.declared.event.Act.{Act}
pub use Rattle.run_model.specs.declared.event.Act.TheVariants.{Started, Spawned, Unspawned}
pub use Rattle.run_model.specs.declared.event.Act.TheVariants.{OpenedRead, OpenedWrite, OpenedAppend}
pub use Rattle.run_model.specs.declared.event.Act.TheVariants.{OpenedNew, Unopened}
pub use Rattle.run_model.specs.declared.event.Act.TheVariants.{Read, Wrote, Removed, Tested, Waited, Ended}
pub use Rattle.run_model.specs.declared.event.Act.TheVariants.{Asked}
pub use Rattle.run_model.specs.declared.event.Event.{Event}
pub use Rattle.run_model.specs.declared.name.ProcName.{ProcName}
pub use Rattle.run_model.specs.declared.outcome.Outcome.{Outcome}
pub use Rattle.run_model.specs.declared.outcome.ProcOutcome.{ProcOutcome}
pub use Rattle.run_model.specs.declared.outcome.PathOutcome.{PathOutcome}
pub use Rattle.run_model.specs.declared.package.Entry.{Entry}
pub use Rattle.run_model.specs.declared.package.Log.{Log}
pub use Rattle.run_model.specs.declared.package.Mode.{Mode}
pub use Rattle.run_model.specs.declared.package.Mode.TheVariants.{Included, Excluded}
pub use Rattle.run_model.specs.declared.package.Package.{Package}
pub use Rattle.run_model.specs.declared.package.PackedFile.{PackedFile}
pub use Rattle.run_model.specs.declared.package.PackedRow.{PackedRow}
pub use Rattle.run_model.specs.declared.package.PackedTable.{PackedTable}
pub use Rattle.run_model.specs.declared.world.World.{World}
