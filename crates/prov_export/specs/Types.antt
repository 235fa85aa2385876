-- The types that the definitions of documents are about: those of this crate, and of the crates below it.
pub use Rattle.sql_model.specs.declared.need.Member.{Member}
pub use Rattle.trace_graph.specs.declared.node.Node.{Node}
pub use Rattle.trace_graph.specs.declared.node.Node.TheVariants.{Path, Process, Row, Ask, Reply}
pub use Rattle.trace_graph.specs.declared.edge.Edge.{Edge}
pub use Rattle.prov_export.specs.declared.relation.Relation.{Relation}
pub use Rattle.prov_export.specs.declared.relation.Relation.TheVariants.{Used, Generated, Derived, Informed}
