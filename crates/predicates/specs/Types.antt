-- The types of the crates below, each under one name.
pub use Rattle.ldv_value.specs.declared.value.Truth.{Truth}
pub use Rattle.ldv_value.specs.declared.value.Truth.TheVariants.{True, False, Unknown}
pub use Rattle.ldv_value.specs.declared.value.Value.{Value}
pub use Rattle.ldv_value.specs.declared.value.Value.TheVariants.{Null, Int, Text}
pub use Rattle.sql_model.specs.declared.catalog.Catalog.{Catalog}
pub use Rattle.sql_model.specs.declared.catalog.Checked.{Checked}
pub use Rattle.sql_model.specs.declared.expr.ColumnName.{ColumnName}
pub use Rattle.sql_model.specs.declared.expr.Expr.{Expr}
pub use Rattle.sql_model.specs.declared.expr.Fold.{Fold}
pub use Rattle.sql_model.specs.declared.expr.Operator.{Operator}
pub use Rattle.sql_model.specs.declared.expr.Operator.TheVariants.{And, Compare}
pub use Rattle.sql_model.specs.declared.need.Member.{Member}
pub use Rattle.sql_model.specs.declared.need.Need.{Need}
pub use Rattle.sql_model.specs.declared.need.Rule.{Rule}
pub use Rattle.sql_model.specs.declared.reply.SqlRefusal.{SqlRefusal}
pub use Rattle.sql_model.specs.declared.reply.SqlRefusal.TheVariants.{NoTable, NoColumn, TypeClash}
pub use Rattle.sql_model.specs.declared.statement.Core.{Core}
pub use Rattle.sql_model.specs.declared.statement.Item.{Item}
pub use Rattle.sql_model.specs.declared.statement.Query.{Query}
pub use Rattle.sql_model.specs.declared.statement.Statement.{Statement}
pub use Rattle.sql_model.specs.declared.statement.Statement.TheVariants.{Query as TheQuery}
pub use Rattle.sql_model.specs.declared.statement.Statement.TheVariants.{Insert as TheInsert}
pub use Rattle.sql_model.specs.declared.statement.Statement.TheVariants.{Update as TheUpdate}
pub use Rattle.sql_model.specs.declared.statement.Statement.TheVariants.{Delete as TheDelete}
pub use Rattle.sql_model.specs.declared.table.Column.{Column}
