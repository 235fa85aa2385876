use Rattle.std.proofs.Common.{rules, ◌≡◌, ◌∙◌, ap, List}
use Rattle.run_model.specs.declared.package.PackedTable.{PackedTable}
use Rattle.run_model.specs.Slice.{tables_needed}
use Rattle.slicer.specs.InitialRows.{is_packed}
use Rattle.slicer.specs.inner.Rows.{tables_from}
use Rattle.slicer.proofs.InitialLaws.{tables_same, nodes_same}
use Rattle.slicer.proofs.needed.slice.Goals as goal

pub returns-clause-tables : goal.returns-clause-tables
returns-clause-tables c =
    let is : c.in_ok-tables.tables ≡ tables_from c.args.events.now c.args.graph.now c.args.world.now.tables = search rules in
    is ∙ tables_same c.args.events.now c.args.graph.now c.args.world.now.tables c.graph_law.ensures.versions c.graph_law.ensures.made c.requires.graph c.requires.rows

pub returns-clause-nodes : goal.returns-clause-nodes
returns-clause-nodes c = λ version.
    let is : c.in_ok-tables.tables ≡ tables_from c.args.events.now c.args.graph.now c.args.world.now.tables = search rules in
    let same : c.in_ok-tables.tables ≡ tables_needed c.args.events.now c.args.world.now.tables =
    is ∙ tables_same c.args.events.now c.args.graph.now c.args.world.now.tables c.graph_law.ensures.versions c.graph_law.ensures.made c.requires.graph c.requires.rows in
    ap (λ (ts : List PackedTable). is_packed ts version) same
    ∙ nodes_same c.args.events.now c.args.graph.now c.args.world.now.tables c.graph_law.ensures.versions c.graph_law.ensures.made c.requires.graph c.requires.rows version
