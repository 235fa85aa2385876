-- The index over the key: from the key of each live row to the row's number.
--
-- It may have more keys: those of rows that are deleted or have another key now. So each look-up of a key
-- checks the row too.
use Rattle.std.specs.Prelude.{◌≡◌, ℕ, ℤ, List, [], ◌∷◌, Option, Some, None, find}
use Rattle.std.specs.Map.{update_all}
use Rattle.std.specs.Ordering.{int_cmp, eq_by_cmp}
use Rattle.sql_model.specs.Keys.{key_at}
use Rattle.sql_model.specs.References.{has_key}
use Rattle.table_store.specs.Types.{Value, Null, Int, Text, RowKey, TableRow}

-- the row of a key
abbrev pub row_of_key : List ℕ → List Value → List TableRow → Option TableRow
row_of_key places key rows = find (has_key places key) rows

abbrev pub HeldKeys : Type 0
HeldKeys = RowKey → Option ℕ

-- each row is held under its key
abbrev pub AreHeld : List ℕ → HeldKeys → List TableRow → Type 0
AreHeld places held [] = Unit {0}
AreHeld places held (row ∷ rows) = (held (key_at places row.values) ≡ Some row.number)
    × AreHeld places held rows

-- the same where there is a key
abbrev pub AreIndexed : List ℕ → HeldKeys → List TableRow → Type 0
AreIndexed [] held rows = Unit {0}
AreIndexed (place ∷ places) held rows = AreHeld (place ∷ places) held rows

-- the number that a value is
abbrev pub int_of : Value → Option ℤ
int_of Null = None
int_of (Int n) = Some n
int_of (Text t) = None

-- the number that is a whole key
abbrev pub int_key : List Value → Option ℤ
int_key [] = None
int_key (value ∷ []) = int_of value
int_key (value ∷ other ∷ values) = None

-- the last number under a key
abbrev pub last_under : List (ℤ × ℕ) → ℤ → Option ℕ
last_under pairs = update_all (eq_by_cmp int_cmp) (λ key. None) pairs

-- a number in the place of another, where there is another
abbrev pub in_place : Option ℕ → Option ℕ → Option ℕ
in_place None old = old
in_place (Some n) None = None
in_place (Some n) (Some old) = Some n
