-- The rows of a table under the keys that they refer to: pairs of a key and a row's number, for each list of
-- columns by which the rows refer. They are kept by the place of the first foreign key over these columns.
--
-- There may be more pairs: those of rows that are deleted or refer to another key now. So each look-up of a
-- key checks the row too.
use Rattle.std.specs.Prelude.{◌≡◌, ℕ, ℤ, ◌<◌, ◌≤◌, ◌&&◌, Bool, true, false, not, List, [], length}
use Rattle.std.specs.Prelude.{Option, Some, None, IfSome, slice_index_or, if◌then◌else◌, min, find, nat_eq}
use Rattle.std.specs.BTreeSet.{BTreeSet, contains}
use Rattle.std.specs.Cmp.Lexicographic.{pointwise}
use Rattle.std.specs.List.{AllByRecursion, list_any, position_or_len}
use Rattle.std.specs.Option.{option_map, option_map_or}
use Rattle.std.specs.Ordering.{int_cmp, nat_cmp, ordering_then}
use Rattle.std.specs.declared.cmp.Ordering.{Ordering}
use Rattle.sql_model.specs.KeyOrder.{key_order}
use Rattle.sql_model.specs.Keys.{same_values}
use Rattle.sql_model.specs.References.{reference}
use Rattle.sql_model.specs.Scope.{same_text}
use Rattle.table_store.specs.KeyIndex.{int_key}
use Rattle.table_store.specs.Stops.{is_among}
use Rattle.table_store.specs.Types.{Foreign, RowKey, TableRow, Value}
use Rattle.table_store.specs.declared.references.child_index.ChildIndex.{ChildIndex}

-- ---- pairs in order

abbrev pub pair_order : {K : Type 0} → (K → K → Ordering) → K × ℕ → K × ℕ → Ordering
pair_order cmp x y = ordering_then (cmp x.0 y.0) (nat_cmp x.1 y.1)

-- of keys by the place of a foreign key
abbrev pub placed_order : {K : Type 0} → (K → K → Ordering) → ℕ × K → ℕ × K → Ordering
placed_order cmp x y = ordering_then (nat_cmp x.0 y.0) (cmp x.1 y.1)

abbrev pub has_pair : {K : Type 0} → (K → K → Ordering) → BTreeSet (K × ℕ) → K → ℕ → Bool
has_pair cmp set key number = contains (pair_order cmp) set (key, number)

-- the least number from one on that passes a test
abbrev pub IsFirstFrom : (ℕ → Bool) → ℕ → Option ℕ → Type 0
IsFirstFrom has from None = (n : ℕ) → from ≤ n → has n ≡ false
IsFirstFrom has from (Some least) =
    (from ≤ least) × (has least ≡ true) × ((n : ℕ) → from ≤ n → n < least → has n ≡ false)

-- ---- what an index has

-- a number under a key, by the place of a foreign key
abbrev pub Pairs : Type 0
Pairs = ℕ → List Value → ℕ → Bool

-- keys of one number are held apart from others
abbrev pub pair_as : Bool → (ℤ → Bool) → Option ℤ → Bool
pair_as other ints None = other
pair_as other ints (Some n) = ints n

abbrev pub pair_in : ChildIndex → Pairs
pair_in index place key number =
    pair_as (has_pair (placed_order key_order) index.others.held (place, record { values = key }) number)
    (λ n. has_pair (placed_order int_cmp) index.ints.held (place, n) number) (int_key key)

abbrev pub no_foreign : Foreign
no_foreign = record { columns = []; parent = [] }

-- a foreign key is over these columns
abbrev pub has_columns : List ℕ → Foreign → Bool
has_columns columns foreign = pointwise nat_eq foreign.columns columns

-- the place of the first foreign key over the columns of the one at a place
abbrev pub first_place : List Foreign → ℕ → ℕ
first_place foreigns place =
    position_or_len (has_columns (slice_index_or foreigns place no_foreign).columns) foreigns

-- under a key of a foreign key are the numbers of the first one over the same columns
abbrev pub pair_by : ChildIndex → List Foreign → Pairs
pair_by index foreigns place key number = pair_in index (first_place foreigns place) key number

-- pairs stay
abbrev pub KeepPairs : Pairs → Pairs → Type 0
KeepPairs old new = (place : ℕ) (key : List Value) (number : ℕ) → old place key number ≡ true
    → new place key number ≡ true

-- all pairs but one stay
abbrev pub KeepBut : ℕ → List Value → ℕ → Pairs → Pairs → Type 0
KeepBut place key number old new = (p : ℕ) (k : List Value) (n : ℕ)
    → ((p ≡ place) → (k ≡ key) → (n ≡ number) → ⊥)
    → old p k n ≡ true → new p k n ≡ true

-- a row is there under each key to which it refers
abbrev pub IsReferred : Pairs → List Foreign → TableRow → Type 0
IsReferred pairs foreigns row = (place : ℕ) → place < length foreigns
    → IfSome (reference (slice_index_or foreigns place no_foreign) row.values)
    (λ key. pairs place key row.number ≡ true)

abbrev pub AreReferred : Pairs → List Foreign → List TableRow → Type 0
AreReferred pairs foreigns rows = AllByRecursion (IsReferred pairs foreigns) rows

-- if they were there, they stay
abbrev pub StayReferred : List Foreign → List TableRow → Pairs → Pairs → Type 0
StayReferred foreigns rows old new = AreReferred old foreigns rows → AreReferred new foreigns rows

-- ---- what is looked up

-- each row from a number on that passes a test has the least number or a higher one
abbrev pub IsNextOf : (TableRow → Bool) → List TableRow → ℕ → Option ℕ → Type 0
IsNextOf test rows from None = AllByRecursion (λ row. test row ≡ true → row.number < from) rows
IsNextOf test rows from (Some least) =
    (from ≤ least) × AllByRecursion (λ row. test row ≡ true → from ≤ row.number → least ≤ row.number) rows

-- a row refers to a key by a foreign key
abbrev pub refers : Foreign → List Value → TableRow → Bool
refers foreign key row = option_map_or (λ own. same_values own key) (reference foreign row.values) false

-- one that isn't given does
abbrev pub is_child : List ℕ → Foreign → List Value → TableRow → Bool
is_child given foreign key row = not (is_among given row) && refers foreign key row

-- to one of some keys
abbrev pub is_child_of : List ℕ → Foreign → List RowKey → TableRow → Bool
is_child_of given foreign keys row =
    not (is_among given row) && list_any (λ key. refers foreign key.values row) keys

-- by a foreign key whose parent is the table of a name
abbrev pub is_child_by : List ℕ → List ℕ → List RowKey → Foreign → TableRow → Bool
is_child_by given target keys foreign row =
    same_text foreign.parent target && is_child_of given foreign keys row

-- by one of some foreign keys
abbrev pub is_child_in : List ℕ → List ℕ → List RowKey → List Foreign → TableRow → Bool
is_child_in given target keys foreigns row =
    list_any (λ foreign. is_child_by given target keys foreign row) foreigns

-- the number of the first row that passes a test
abbrev pub first_number : (TableRow → Bool) → List TableRow → Option ℕ
first_number test rows = option_map (λ row. row.number) (find test rows)

-- the lower of two numbers, where there are two
abbrev pub lower_of : Option ℕ → Option ℕ → Option ℕ
lower_of None other = other
lower_of (Some number) None = Some number
lower_of (Some number) (Some other) = Some (min number other)

-- the numbers of the rows that are given of a table: those of the target
abbrev pub given_in : Bool → List ℕ → List ℕ
given_in own numbers = if own then numbers else []
