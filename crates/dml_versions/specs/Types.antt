-- The types of the crates below, each under one name.
pub use Rattle.ldv_value.specs.declared.value.Value.{Value}
pub use Rattle.sql_model.specs.declared.catalog.Catalog.{Catalog}
pub use Rattle.sql_model.specs.declared.catalog.Checked.{Checked}
pub use Rattle.sql_model.specs.declared.expr.ColumnName.{ColumnName}
pub use Rattle.sql_model.specs.declared.expr.Expr.{Expr}
pub use Rattle.sql_model.specs.declared.need.Member.{Member}
pub use Rattle.sql_model.specs.declared.need.Need.{Need}
pub use Rattle.sql_model.specs.declared.need.Rule.{Rule}
pub use Rattle.sql_model.specs.declared.need.Rule.TheVariants.{L, H, K, P, C}
pub use Rattle.sql_model.specs.declared.reply.Reply.{Reply}
pub use Rattle.sql_model.specs.declared.reply.Reply.TheVariants.{Rows, Changed, Refused}
pub use Rattle.sql_model.specs.declared.reply.SqlRefusal.{SqlRefusal}
pub use Rattle.sql_model.specs.declared.reply.SqlRefusal.TheVariants.{NotNull, KeyTaken, Full}
pub use Rattle.sql_model.specs.declared.reply.SqlRefusal.TheVariants.{NoParent, HasChild}
pub use Rattle.sql_model.specs.declared.statement.Delete.{Delete}
pub use Rattle.sql_model.specs.declared.statement.Insert.{Insert}
pub use Rattle.sql_model.specs.declared.statement.Set.{Set}
pub use Rattle.sql_model.specs.declared.statement.Statement.{Statement}
pub use Rattle.sql_model.specs.declared.statement.Statement.TheVariants.{Query as TheQuery}
pub use Rattle.sql_model.specs.declared.statement.Statement.TheVariants.{Insert as TheInsert}
pub use Rattle.sql_model.specs.declared.statement.Statement.TheVariants.{Update as TheUpdate}
pub use Rattle.sql_model.specs.declared.statement.Statement.TheVariants.{Delete as TheDelete}
pub use Rattle.sql_model.specs.declared.statement.Update.{Update}
pub use Rattle.sql_model.specs.declared.table.Column.{Column}
pub use Rattle.sql_model.specs.declared.table.Schema.{Schema}
pub use Rattle.sql_model.specs.declared.table.Table.{Table}
pub use Rattle.sql_model.specs.declared.table.TableRow.{TableRow}
pub use Rattle.table_store.specs.Histories.{RowHistory, TableHistory, StoreHistory}
