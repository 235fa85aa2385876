-- The lines of reports on nodes. Each report names processes in its own way.
use Rattle.std.specs.Prelude.{ℕ, List, ◌++◌, codes}
use Rattle.std.specs.Fmt.{decimal}
use Rattle.run_model.specs.OutcomeText.{line}
use Rattle.trace_graph.specs.Types.{Member, Node, Path, Process, Row, Ask, Reply}

-- `TABLE ROW VERSION`
abbrev pub version_text : Member → List ℕ
version_text member =
    member.table ++ codes " " ++ decimal member.row ++ codes " " ++ decimal member.version

-- a node, by what processes are called
abbrev pub node_line : (ℕ → List ℕ) → Node → List ℕ
node_line called (Path path) = line (codes "path " ++ path)
node_line called (Process process) = line (codes "process " ++ called process)
node_line called (Row member) = line (codes "row " ++ version_text member)
node_line called (Ask statement) = line (codes "ask " ++ decimal statement)
node_line called (Reply statement) = line (codes "reply " ++ decimal statement)
