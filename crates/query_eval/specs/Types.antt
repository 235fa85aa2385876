-- The types of the crates below, each under one name.
pub use Rattle.ldv_value.specs.declared.value.Value.{Value}
pub use Rattle.ldv_value.specs.declared.value.Value.TheVariants.{Null, Int, Text}
pub use Rattle.sql_model.specs.declared.catalog.Catalog.{Catalog}
pub use Rattle.sql_model.specs.declared.catalog.Checked.{Checked}
pub use Rattle.sql_model.specs.declared.expr.ColumnName.{ColumnName}
pub use Rattle.sql_model.specs.declared.expr.Expr.{Expr}
pub use Rattle.sql_model.specs.declared.expr.Operator.{Operator}
pub use Rattle.sql_model.specs.declared.expr.Operator.TheVariants.{Add, Subtract, Multiply, Compare, And, Or}
pub use Rattle.sql_model.specs.declared.statement.Core.{Core}
pub use Rattle.sql_model.specs.declared.statement.FromItem.{FromItem}
pub use Rattle.sql_model.specs.declared.statement.Item.{Item}
pub use Rattle.sql_model.specs.declared.statement.Order.{Order}
pub use Rattle.sql_model.specs.declared.statement.Query.{Query}
pub use Rattle.sql_model.specs.declared.statement.Statement.{Statement}
pub use Rattle.sql_model.specs.declared.statement.Statement.TheVariants.{Query as TheQuery}
pub use Rattle.sql_model.specs.declared.table.Column.{Column}
pub use Rattle.sql_model.specs.declared.table.Schema.{Schema}
pub use Rattle.sql_model.specs.declared.table.Table.{Table}
pub use Rattle.sql_model.specs.declared.table.TableRow.{TableRow}
