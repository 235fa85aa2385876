-- The cells of a column of numbers or of texts.
use Rattle.std.specs.Prelude.{ℕ, ◌-◌, Bool, true, false, not, List, map, vec_len, vec_capacity}
use Rattle.ldv_value.specs.Cells.{int_value}
use Rattle.column_store.specs.Types.{Value, Null, Int, Text}
use Rattle.column_store.specs.declared.column.Held.{Held}
use Rattle.column_store.specs.declared.column.Held.TheVariants.{Ints, Texts}

-- a cell for each slot, of texts or of numbers, and for how many more there is room
pub record Cells : Type 0 where
  pub text : Bool
  pub items : List Value
  pub spare : ℕ

abbrev pub held_cells : Held → Cells
held_cells (Ints ints) = record { text = false; items = map int_value ints.items; spare = ints.spare }
held_cells (Texts values) =
    record { text = true; items = values.items; spare = vec_capacity values - vec_len values }

-- a value has the kind of a column of texts, or of one of numbers; NULL has both
abbrev pub is_of_kind : Bool → Value → Bool
is_of_kind text Null = true
is_of_kind text (Int number) = not text
is_of_kind text (Text bytes) = text
