-- Changes of rows, each by the number of its row.
use Rattle.std.specs.Prelude.{◌≡◌, ◌≢◌, ℕ, ◌+◌, ◌<◌, ◌≤◌, ◌^◌, Bool, true, List, [], ◌∷◌, length, map}
use Rattle.std.specs.Prelude.{Option, Some, None, IsSome, slice_index_or}
use Rattle.row_version.specs.History.{Change, current_values, last_time, IsSorted}
use Rattle.table_store.specs.Types.{Value, TableRow}
use Rattle.table_store.specs.inner.Grid.{Rows, Slot, no_slot, fits_kinds}
use Rattle.table_store.specs.inner.RowHistories.{Past, Ends, AreKept, histories_of}
use Rattle.table_store.specs.Histories.{RowHistory, changed_by, no_history}
use Rattle.table_store.specs.declared.rows.rewrites.RowRewrite.{RowRewrite}

-- the new values of the row with a number; none: it is deleted
pub record RowChange : Type 0 where
  pub number : ℕ
  pub values : Option (List Value)

-- the row of a number is dropped
abbrev pub removal : ℕ → RowChange
removal number = record { number = number; values = None }

-- the row of a number gets other values
abbrev pub rewrite : TableRow → RowChange
rewrite row = record { number = row.number; values = Some row.values }

abbrev pub no_change : RowChange
no_change = removal 0

abbrev pub change_given : ℕ → RowChange → ℕ × Change
change_given time given = (given.number, record { time = time; values = given.values })

abbrev pub changes_given : ℕ → List RowChange → List (ℕ × Change)
changes_given time given = map (change_given time) given

-- numbers are strictly increasing, from a number on
abbrev pub RiseFrom : ℕ → List RowChange → Type 0
RiseFrom low [] = Unit {0}
RiseFrom low (first ∷ rest) = (low ≤ first.number) × RiseFrom (first.number + 1) rest

-- there is a value for each column, of its kind
abbrev pub FitKinds : List Bool → Option (List Value) → Type 0
FitKinds kinds None = Unit {0}
FitKinds kinds (Some values) = fits_kinds kinds values ≡ true

abbrev pub AllFitKinds : List Bool → List RowChange → Type 0
AllFitKinds kinds [] = Unit {0}
AllFitKinds kinds (first ∷ rest) = FitKinds kinds first.values × AllFitKinds kinds rest

-- a slot has the row of a number, which stands
abbrev pub HasRow : List RowHistory → ℕ → Type 0
HasRow slots number =
    (k : ℕ) × (k < length slots) × ((slice_index_or slots k no_history).number ≡ number)
    × IsSome (current_values (slice_index_or slots k no_history).changes)

abbrev pub AllStand : List RowHistory → List RowChange → Type 0
AllStand slots given = (j : ℕ) → j < length given → HasRow slots (slice_index_or given j no_change).number

-- all changes so far are earlier than a time
abbrev pub AreBefore : ℕ → List RowHistory → Type 0
AreBefore time slots =
    (k : ℕ) → k < length slots → IsSorted (slice_index_or slots k no_history).changes
    × (last_time (slice_index_or slots k no_history).changes < time)

-- a slot has the row of a number
abbrev pub HasSlot : List Slot → ℕ → Type 0
HasSlot slots number = (k : ℕ) × (k < length slots) × ((slice_index_or slots k no_slot).number ≡ number)

abbrev pub AllHaveSlots : List Slot → List TableRow → Type 0
AllHaveSlots slots [] = Unit {0}
AllHaveSlots slots (first ∷ rest) = HasSlot slots first.number × AllHaveSlots slots rest

-- ---- rows that get other values, by their slots

abbrev pub row_given : RowRewrite → TableRow
row_given given = record { number = given.number; values = given.new }

abbrev pub rewrite_given : RowRewrite → RowChange
rewrite_given given = rewrite (row_given given)

-- the slot has the row, with its values
pub record IsInSlot (slots : List Slot) (given : RowRewrite) : Type 0 where
  pub within : given.slot < length slots
  pub number : (slice_index_or slots given.slot no_slot).number ≡ given.number
  pub values : (slice_index_or slots given.slot no_slot).values ≡ given.old

abbrev pub AreInSlots : List Slot → List RowRewrite → Type 0
AreInSlots slots [] = Unit {0}
AreInSlots slots (first ∷ rest) = IsInSlot slots first × AreInSlots slots rest

-- a row that stands and can change once more
abbrev pub IsReady : List Change → ℕ → Type 0
IsReady earlier ended = (ended ≡ 0) × (length earlier + 2 ≤ 2 ^ 32)

-- the rows in the slots
abbrev pub AreReady : Past → Ends → List RowRewrite → Type 0
AreReady earlier ends [] = Unit {0}
AreReady earlier ends (first ∷ rest) = IsReady (earlier first.slot) (ends first.slot)
    × AreReady earlier ends rest

-- what other values of a row since a time make of the slots and of the log
pub record RewritesRow (time : ℕ) (given : RowRewrite) (earlier after : Past) (ends : Ends) (old new : Rows)
    : Type 0 where
  pub kept : AreKept after ends new.slots
  pub seen : histories_of after ends new.slots
      ≡ map (changed_by (change_given time (rewrite_given given) ∷ [])) (histories_of earlier ends old.slots)
  pub slots : (one : RowRewrite) → one.number ≢ given.number → IsInSlot old.slots one
      → IsInSlot new.slots one
  pub ready : (one : RowRewrite) → one.number ≢ given.number → IsInSlot old.slots one
      → IsReady (earlier one.slot) (ends one.slot) → IsReady (after one.slot) (ends one.slot)
  pub count : length new.slots ≡ length old.slots
  pub kinds : new.kinds ≡ old.kinds
  pub next : new.next ≡ old.next

-- ---- rows that are deleted

-- a slot has the row of a number, which stands and can change once more
abbrev pub HasOpenSlot : Past → Ends → List Slot → ℕ → Type 0
HasOpenSlot earlier ends slots number =
    (k : ℕ) × (k < length slots) × ((slice_index_or slots k no_slot).number ≡ number)
    × IsReady (earlier k) (ends k)

abbrev pub AllOpen : Past → Ends → List Slot → List ℕ → Type 0
AllOpen earlier ends slots [] = Unit {0}
AllOpen earlier ends slots (first ∷ rest) = HasOpenSlot earlier ends slots first
    × AllOpen earlier ends slots rest

-- what the end of a row at a time makes of the slots and of the log
pub record EndsRow (time number : ℕ) (earlier : Past) (ends : Ends) (old : Rows) (after : Past) (left : Ends)
    (new : Rows) : Type 0 where
  pub kept : AreKept after left new.slots
  pub seen : histories_of after left new.slots
      ≡ map (changed_by (change_given time (removal number) ∷ [])) (histories_of earlier ends old.slots)
  pub others : (other : ℕ) → other ≢ number → HasOpenSlot earlier ends old.slots other
      → HasOpenSlot after left new.slots other
  pub count : length new.slots ≡ length old.slots
  pub kinds : new.kinds ≡ old.kinds
  pub next : new.next ≡ old.next
