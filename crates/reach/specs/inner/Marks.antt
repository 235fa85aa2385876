-- Marks at places of nodes, and the marked nodes.
use Rattle.std.specs.Prelude.{◌↔◌, ℕ, zero, suc, List, [], ◌++◌, Bool, true, false, Option, None, Contains}
use Rattle.std.specs.Prelude.{slice_get, slice_set, slice_index_or, replicate, fold, option_to_list, if◌then◌else◌}
use Rattle.reach.specs.Types.{Node, Edge}
use Rattle.reach.specs.Found.{Times, is_open}

abbrev pub Marks : Type 0
Marks = List Bool

-- with a mark at the place that an edge comes from, if the edge is open
abbrev pub with_mark : Times → Marks → Edge → Marks
with_mark latest marks edge = if is_open latest edge then slice_set marks edge.source true else marks

-- for each place, whether an open edge comes from it
abbrev pub marks_of : ℕ → Times → List Edge → Marks
marks_of count latest edges = fold (with_mark latest) (replicate count false) edges

abbrev pub is_marked : Marks → ℕ → Bool
is_marked marks place = slice_index_or marks place false

-- the node at a place, if that is marked
abbrev pub marked_at : List Node → Marks → ℕ → Option Node
marked_at nodes marks place = if is_marked marks place then slice_get nodes place else None

-- the marked nodes of the first places
abbrev pub marked_below : List Node → Marks → ℕ → List Node
marked_below nodes marks zero = []
marked_below nodes marks (suc n) = marked_below nodes marks n ++ option_to_list (marked_at nodes marks n)

-- two lists have the same nodes
abbrev pub SameNodes : List Node → List Node → Type 0
SameNodes a b = (n : Node) → Contains a n ↔ Contains b n
