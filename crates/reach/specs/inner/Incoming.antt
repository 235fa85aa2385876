-- The edges to each place, chained through the list of edges.
use Rattle.std.specs.Prelude.{◌≡◌, ℕ, ◌+◌, ◌<◌, ◌≤◌, List, [], ◌∷◌, Some, drop, length, slice_get, slice_index_or}
use Rattle.reach.specs.Types.{Edge}
use Rattle.reach.specs.inner.Search.{edges_into}

abbrev pub value_at : List ℕ → ℕ → ℕ
value_at values place = slice_index_or values place 0

-- edges one after another: the first is at a place, not below `low`, and each of the others at the place that
-- is noted as the next of the one before it. Their places rise, and what is noted of the last is past the end
abbrev pub IsChain : List Edge → List ℕ → ℕ → ℕ → List Edge → Type 0
IsChain edges nexts low at [] = length edges ≤ at
IsChain edges nexts low at (e ∷ es) =
    (low ≤ at) × (slice_get edges at ≡ Some e) × IsChain edges nexts (at + 1) (value_at nexts at) es

-- from what is noted as the first of each place on: the edges to the place, of those that aren't below `low`
abbrev pub AreChains : List Edge → List ℕ → ℕ → List ℕ → Type 0
AreChains edges nexts low firsts = (place : ℕ) → place < length firsts
    → IsChain edges nexts low (value_at firsts place) (edges_into (drop low edges) place)
