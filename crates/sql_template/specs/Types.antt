-- The types that the laws are about, of the crates below, under one name each.
pub use Rattle.ldv_value.specs.declared.value.Value.{Value}
pub use Rattle.ldv_value.specs.declared.value.Value.TheVariants.{Null, Int, Text}
pub use Rattle.sql_model.specs.declared.catalog.Catalog.{Catalog}
pub use Rattle.sql_model.specs.declared.catalog.Checked.{Checked}
pub use Rattle.sql_model.specs.declared.expr.ColumnName.{ColumnName}
pub use Rattle.sql_model.specs.declared.expr.Expr.{Expr}
pub use Rattle.sql_model.specs.declared.expr.Expr.TheOpen.{Expr-F}
pub use Rattle.sql_model.specs.declared.expr.Fold.{Fold}
pub use Rattle.sql_model.specs.declared.expr.Operator.{Operator}
pub use Rattle.sql_model.specs.declared.expr.Operator.TheVariants.{Add, Subtract, Multiply, Compare, And, Or}
pub use Rattle.sql_model.specs.declared.kind.Kind.{Kind}
pub use Rattle.sql_model.specs.declared.reply.SqlRefusal.{SqlRefusal}
pub use Rattle.sql_model.specs.declared.reply.SqlRefusal.TheVariants.{NoTable, NoColumn, TypeClash}
pub use Rattle.sql_model.specs.declared.statement.Core.{Core}
pub use Rattle.sql_model.specs.declared.statement.Delete.{Delete}
pub use Rattle.sql_model.specs.declared.statement.FromItem.{FromItem}
pub use Rattle.sql_model.specs.declared.statement.Insert.{Insert}
pub use Rattle.sql_model.specs.declared.statement.Item.{Item}
pub use Rattle.sql_model.specs.declared.statement.Order.{Order}
pub use Rattle.sql_model.specs.declared.statement.OrderKey.{OrderKey}
pub use Rattle.sql_model.specs.declared.statement.Query.{Query}
pub use Rattle.sql_model.specs.declared.statement.Set.{Set}
pub use Rattle.sql_model.specs.declared.statement.Statement.{Statement}
pub use Rattle.sql_model.specs.declared.statement.Statement.TheVariants.{Query as TheQuery}
pub use Rattle.sql_model.specs.declared.statement.Statement.TheVariants.{Insert as TheInsert}
pub use Rattle.sql_model.specs.declared.statement.Statement.TheVariants.{Update as TheUpdate}
pub use Rattle.sql_model.specs.declared.statement.Statement.TheVariants.{Delete as TheDelete}
pub use Rattle.sql_model.specs.declared.statement.Update.{Update}
pub use Rattle.sql_model.specs.declared.table.Column.{Column}
