-- The types that the definitions are about, of the crates below.
pub use Rattle.ldv_value.specs.declared.value.Value.{Value}
pub use Rattle.sql_model.specs.declared.table.Table.{Table}
pub use Rattle.sql_model.specs.declared.table.TableRow.{TableRow}
pub use Rattle.run_model.specs.declared.event.Event.{Event}
pub use Rattle.run_model.specs.declared.package.Mode.TheVariants.{Included}
pub use Rattle.run_model.specs.declared.package.Package.{Package}
pub use Rattle.run_model.specs.declared.package.PackedFile.{PackedFile}
pub use Rattle.run_model.specs.declared.package.PackedRow.{PackedRow}
pub use Rattle.run_model.specs.declared.package.PackedTable.{PackedTable}
