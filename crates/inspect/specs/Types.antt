-- The types that the definitions of reports are about: those of this crate, and of the crates below it.
pub use Rattle.sql_model.specs.declared.need.Member.{Member}
pub use Rattle.sql_model.specs.declared.need.Rule.{Rule}
pub use Rattle.sql_model.specs.declared.need.Rule.TheVariants.{L, H, K, P, C}
pub use Rattle.run_model.specs.declared.event.Act.{Act}
pub use Rattle.run_model.specs.declared.event.Event.{Event}
pub use Rattle.run_model.specs.declared.package.PackedFile.{PackedFile}
pub use Rattle.run_model.specs.declared.package.PackedRow.{PackedRow}
pub use Rattle.run_model.specs.declared.package.PackedTable.{PackedTable}
pub use Rattle.trace_graph.specs.declared.node.Node.{Node}
pub use Rattle.trace_graph.specs.declared.node.Node.TheVariants.{Path, Process, Row, Ask, Reply}
pub use Rattle.inspect.specs.inner.Named.{NamedProcess}
