-- The rows in columns, each in its slot.
use Rattle.std.specs.Prelude.{◌≡◌, ◌==◌, ℕ, ℤ, ◌+◌, ◌<◌, ◌≤◌, ◌^◌, Bool, true, false, ◌&&◌, List, [], ◌∷◌}
use Rattle.std.specs.Prelude.{◌++◌, length, map, zip, slice_index, slice_index_or, slice_set}
use Rattle.std.specs.List.{range_with_len, list_all}
use Rattle.table_store.specs.Types.{Cmp, Value, Null, TableRow}
use Rattle.column_store.specs.Cells.{Cells, is_of_kind}
use Rattle.column_store.specs.Columns.{AreLong, kinds_of, values_at}
use Rattle.table_store.specs.Scans.{null_passes, passes_test}
use Rattle.table_store.specs.declared.rows.grid.Grid.TheInside.{Inside}

-- a row in its slot: its last values, since when it has them, and whether it stands
pub record Slot : Type 0 where
  pub number : ℕ
  pub since : ℕ
  pub stands : Bool
  pub values : List Value

-- the slots, which columns are of texts, and the number of the next row
pub record Rows : Type 0 where
  pub slots : List Slot
  pub kinds : List Bool
  pub next : ℕ

abbrev pub no_slot : Slot
no_slot = record { number = 0; since = 0; stands = false; values = [] }

abbrev pub slot_of : List ℕ → List ℕ → List Bool → List Cells → ℕ → Slot
slot_of numbers since standing columns slot = record {
  number = slice_index numbers slot;
  since = slice_index since slot;
  stands = slice_index_or standing slot false;
  values = values_at columns slot;
}

abbrev pub slots_of : List ℕ → List ℕ → List Bool → List Cells → List Slot
slots_of numbers since standing columns =
    map (slot_of numbers since standing columns) (range_with_len 0 (length numbers))

abbrev pub seen_rows : Inside → Rows
seen_rows a = record {
  slots = slots_of a.numbers.items a.since.items a.standing.items a.columns.items;
  kinds = kinds_of a.columns.items;
  next = a.next;
}

-- each number is above those before it
abbrev pub IsRising : List ℕ → Type 0
IsRising numbers = (i j : ℕ) → i < j → j < length numbers → slice_index numbers i < slice_index numbers j

-- the parts fit together
pub record IsGrid (numbers since : List ℕ) (standing : List Bool) (columns : List Cells) (next : ℕ)
    : Type 0 where
  pub begins : length since ≡ length numbers
  pub stands : length standing ≡ length numbers
  pub long : AreLong (length numbers) columns
  pub rising : IsRising numbers
  pub below : (i : ℕ) → i < length numbers → slice_index numbers i < next
  pub few : length numbers ≤ next

abbrev pub IsTable : Inside → Type 0
IsTable a = IsGrid a.numbers.items a.since.items a.standing.items a.columns.items a.next

-- a value for each column, of its kind
abbrev pub fits_kinds : List Bool → List Value → Bool
fits_kinds kinds values = (length values == length kinds)
    && list_all (λ p. is_of_kind p.0 p.1) (zip kinds values)

-- ---- rows that are added

abbrev pub new_slot : ℕ → TableRow → Slot
new_slot since row = record { number = row.number; since = since; stands = true; values = row.values }

-- numbers are strictly increasing, from a number on, and none is the greatest of its type
abbrev pub AreNumberedFrom : ℕ → List TableRow → Type 0
AreNumberedFrom next [] = Unit {0}
AreNumberedFrom next (row ∷ rows) = (next ≤ row.number) × (row.number + 1 < 2 ^ 32)
    × AreNumberedFrom (row.number + 1) rows

-- the number after those of rows
abbrev pub next_after : ℕ → List TableRow → ℕ
next_after next [] = next
next_after next (row ∷ rows) = next_after (row.number + 1) rows

abbrev pub are_of_kinds : List Bool → List TableRow → Bool
are_of_kinds kinds rows = list_all (λ row. fits_kinds kinds row.values) rows

-- ---- rows that pass

-- whether the row of a slot stands and its value in a column compares so to a constant
abbrev pub slot_passes : ℕ → Cmp → ℤ → Slot → Bool
slot_passes column op constant slot =
    slot.stands && passes_test op constant (slice_index_or slot.values column Null)

-- whether the row of a slot stands and has NULL in a column, or, where that is asked, another value
abbrev pub slot_null : ℕ → Bool → Slot → Bool
slot_null column is_null slot = slot.stands && null_passes is_null (slice_index_or slot.values column Null)
