-- The types of the crates below, each under one name.
pub use Rattle.ldv_value.specs.declared.value.Cmp.{Cmp}
pub use Rattle.ldv_value.specs.declared.value.Value.{Value}
pub use Rattle.ldv_value.specs.declared.value.Value.TheVariants.{Null, Int, Text}
pub use Rattle.sql_model.specs.declared.catalog.Catalog.{Catalog}
pub use Rattle.sql_model.specs.declared.key.RowKey.{RowKey}
pub use Rattle.sql_model.specs.declared.need.Member.{Member}
pub use Rattle.sql_model.specs.declared.table.Column.{Column}
pub use Rattle.sql_model.specs.declared.table.Foreign.{Foreign}
pub use Rattle.sql_model.specs.declared.table.Schema.{Schema}
pub use Rattle.sql_model.specs.declared.table.Table.{Table}
pub use Rattle.sql_model.specs.declared.table.TableRow.{TableRow}
