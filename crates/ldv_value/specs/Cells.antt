-- Values by their places, and numbers as values.
use Rattle.std.specs.Prelude.{ℕ, ℤ, List, Option, Some, None, slice_get, unwrap_or}
use Rattle.ldv_value.specs.declared.value.Value.{Value}
use Rattle.ldv_value.specs.declared.value.Value.TheVariants.{Null, Int}

-- the value at a place; past the last there is NULL
abbrev pub value_at : List Value → ℕ → Value
value_at values place = unwrap_or (slice_get values place) Null

-- a number, or NULL where there is none
abbrev pub int_value : Option ℤ → Value
int_value None = Null
int_value (Some number) = Int number
