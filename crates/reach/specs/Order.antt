-- The order of nodes in reports: paths by their bytes, processes by number, rows by table, row and version,
-- and then statements and replies by number.
use Rattle.std.specs.Prelude.{ℕ}
use Rattle.std.specs.Ordering.{nat_cmp, ordering_then}
use Rattle.std.specs.Cmp.Lexicographic.{slice_cmp}
use Rattle.std.specs.declared.cmp.Ordering.{Ordering}
use Rattle.reach.specs.Types.{Member, Node, Path, Process, Row, Ask, Reply}

abbrev pub version_cmp : Member → Member → Ordering
version_cmp a b = ordering_then (slice_cmp nat_cmp a.table b.table)
    (ordering_then (nat_cmp a.row b.row) (nat_cmp a.version b.version))

-- the place of a kind of nodes among the kinds
abbrev pub kind_of : Node → ℕ
kind_of (Path path) = 0
kind_of (Process process) = 1
kind_of (Row member) = 2
kind_of (Ask statement) = 3
kind_of (Reply statement) = 4

abbrev pub node_cmp : Node → Node → Ordering
node_cmp (Path a) (Path b) = slice_cmp nat_cmp a b
node_cmp (Process a) (Process b) = nat_cmp a b
node_cmp (Row a) (Row b) = version_cmp a b
node_cmp (Ask a) (Ask b) = nat_cmp a b
node_cmp (Reply a) (Reply b) = nat_cmp a b
node_cmp a b = nat_cmp (kind_of a) (kind_of b)
