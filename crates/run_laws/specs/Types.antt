-- The types that the laws are about, of the crates below.
pub use Rattle.ldv_value.specs.declared.file.File.{File}
pub use Rattle.ldv_value.specs.declared.file.OpenMode.{OpenMode}
pub use Rattle.ldv_value.specs.declared.value.Value.{Value}
pub use Rattle.ldv_value.specs.declared.value.Value.TheVariants.{Null, Int, Text}
pub use Rattle.script_parse.specs.declared.script.Operand.{Operand}
pub use Rattle.script_parse.specs.declared.script.Operand.TheVariants.{Variable}
pub use Rattle.script_parse.specs.declared.script.Instr.{Instr}
pub use Rattle.sql_model.specs.declared.need.Member.{Member}
pub use Rattle.sql_model.specs.declared.need.Need.{Need}
pub use Rattle.sql_model.specs.declared.reply.Reply.{Reply}
pub use Rattle.sql_model.specs.declared.statement.Statement.{Statement}
pub use Rattle.sql_model.specs.declared.table.Table.{Table}
pub use Rattle.sql_model.specs.declared.table.TableRow.{TableRow}
pub use Rattle.run_model.specs.declared.event.Act.{Act}
pub use Rattle.run_model.specs.declared.event.Act.TheVariants.{Started, Spawned, Unspawned}
pub use Rattle.run_model.specs.declared.event.Act.TheVariants.{OpenedRead, OpenedWrite, OpenedAppend}
pub use Rattle.run_model.specs.declared.event.Act.TheVariants.{OpenedNew, Unopened}
pub use Rattle.run_model.specs.declared.event.Act.TheVariants.{Read, Wrote, Removed, Tested, Waited, Ended}
pub use Rattle.run_model.specs.declared.event.Act.TheVariants.{Asked}
pub use Rattle.run_model.specs.declared.event.Event.{Event}
pub use Rattle.run_model.specs.declared.outcome.Outcome.{Outcome}
pub use Rattle.run_model.specs.declared.package.Entry.{Entry}
pub use Rattle.run_model.specs.declared.package.Log.{Log}
pub use Rattle.run_model.specs.declared.package.Mode.{Mode}
pub use Rattle.run_model.specs.declared.package.Mode.TheVariants.{Included, Excluded}
pub use Rattle.run_model.specs.declared.package.Package.{Package}
pub use Rattle.run_model.specs.declared.package.PackedFile.{PackedFile}
pub use Rattle.run_model.specs.declared.package.PackedRow.{PackedRow}
pub use Rattle.run_model.specs.declared.package.PackedTable.{PackedTable}
pub use Rattle.run_model.specs.declared.world.World.{World}
