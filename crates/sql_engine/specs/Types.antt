-- The types of the crates below, under one name each.
pub use Rattle.ldv_value.specs.declared.value.Value.{Value}
pub use Rattle.lineage.specs.declared.answer.Answer.{Answer}
pub use Rattle.lineage.specs.declared.answer.Pick.{Pick}
pub use Rattle.run_model.specs.Database.{Lists}
pub use Rattle.sql_model.specs.declared.catalog.Catalog.{Catalog}
pub use Rattle.sql_model.specs.declared.catalog.Checked.{Checked}
pub use Rattle.sql_model.specs.declared.need.Member.{Member}
pub use Rattle.sql_model.specs.declared.need.Need.{Need}
pub use Rattle.sql_model.specs.declared.need.Rule.{Rule}
pub use Rattle.sql_model.specs.declared.need.Rule.TheVariants.{L, H}
pub use Rattle.sql_model.specs.declared.reply.Reply.{Reply}
pub use Rattle.sql_model.specs.declared.reply.Reply.TheVariants.{Rows, Refused}
pub use Rattle.sql_model.specs.declared.reply.SqlRefusal.{SqlRefusal}
pub use Rattle.sql_model.specs.declared.reply.SqlRefusal.TheVariants.{Syntax, NoTable, NoColumn, TypeClash}
pub use Rattle.sql_model.specs.declared.statement.Core.{Core}
pub use Rattle.sql_model.specs.declared.statement.Query.{Query}
pub use Rattle.sql_model.specs.declared.statement.Statement.{Statement}
pub use Rattle.sql_model.specs.declared.statement.Statement.TheVariants.{Query as TheQuery}
pub use Rattle.sql_model.specs.declared.statement.Statement.TheVariants.{Insert as TheInsert}
pub use Rattle.sql_model.specs.declared.statement.Statement.TheVariants.{Update as TheUpdate}
pub use Rattle.sql_model.specs.declared.statement.Statement.TheVariants.{Delete as TheDelete}
pub use Rattle.sql_model.specs.declared.table.Schema.{Schema}
pub use Rattle.sql_model.specs.declared.table.Table.{Table}
pub use Rattle.table_store.specs.Histories.{StoreHistory}
