-- The indexes of a column at which a comparison holds.
use Rattle.std.specs.Prelude.{◌≡◌, ◌*◌, ◌<◌, ℕ, ℤ, Bool, false, List, map, slice_get, slice_index}
use Rattle.std.specs.Simd.Lanes.{chunk, mask_l}
use Rattle.std.specs.Ordering.{int_cmp}
use Rattle.std.specs.Option.{option_map_or}
use Rattle.ldv_value.specs.declared.value.Cmp.{Cmp}
use Rattle.ldv_value.specs.Order.{meets}
use Rattle.lanes.specs.Sets.{member}

-- whether the comparison of a number of a column with the constant holds
abbrev pub passes : Cmp → ℤ → ℤ → Bool
passes op constant number = meets op (int_cmp number constant)

-- whether the comparison holds at an index; past the column's end it doesn't
abbrev pub holds_at : Cmp → List ℤ → ℤ → ℕ → Bool
holds_at op column constant place = option_map_or (passes op constant) (slice_get column place) false

-- a set has exactly the indexes at which the comparison holds
abbrev pub IsSelection : Cmp → List ℤ → ℤ → List ℕ → Type 0
IsSelection op column constant mask = (n : ℕ) → member mask n ≡ holds_at op column constant n

-- the words below an index have the bits of their 64 numbers each
abbrev pub IsSelectedTo : Cmp → List ℤ → ℤ → List ℕ → ℕ → Type 0
IsSelectedTo op column constant mask place =
    (k : ℕ) → k < place → slice_index mask k ≡ mask_l (map (passes op constant) (chunk (k * 64) 64 column))
