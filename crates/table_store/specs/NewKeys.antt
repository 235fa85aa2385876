-- Keys of new rows, each with the place of its row.
use Rattle.std.specs.Prelude.{◌≡◌, ℕ, ℤ, ◌+◌, ◌<◌, IfSome, cond, List, [], ◌∷◌, Option, Some, None, IsSome, Result, Ok, Err}
use Rattle.std.specs.List.{AllByRecursion}
use Rattle.std.specs.Option.{option_map}
use Rattle.std.specs.BTreeMap.{get, is_at}
use Rattle.std.specs.Ordering.{int_cmp}
use Rattle.ldv_value.specs.Order.{values_order}
use Rattle.sql_model.specs.Changes.{numbered_rows}
use Rattle.sql_model.specs.KeyOrder.{key_order}
use Rattle.sql_model.specs.Keys.{values_at}
use Rattle.table_store.specs.Types.{Value, RowKey, TableRow}
use Rattle.table_store.specs.Claims.{IsIndexOf}
use Rattle.table_store.specs.IndexView.{held_as}
use Rattle.table_store.specs.KeyIndex.{HeldKeys, int_key, row_of_key}
use Rattle.table_store.specs.declared.keys.new_keys.NewKeys.{NewKeys}
use Rattle.table_store.specs.declared.error.StoreStop.{StoreStop}
use Rattle.table_store.specs.declared.error.StoreStop.TheVariants.{KeyTaken, NoMemory}

-- the place of the new row with a key
abbrev pub new_in : NewKeys → HeldKeys
new_in keys key =
    held_as (λ n. get int_cmp keys.ints n) (get values_order keys.others key.values) (int_key key.values)

-- each place is below a number
pub record AreBelow (keys : NewKeys) (bound : ℕ) : Type 0 where
  pub ints : (n : ℤ) → IfSome (get int_cmp keys.ints n) (λ place. place < bound)
  pub others : (key : List Value) → IfSome (get values_order keys.others key) (λ place. place < bound)

-- the numbers that new rows get, by their keys
abbrev pub numbers_from : ℕ → HeldKeys → HeldKeys
numbers_from next places key = option_map (λ place. next + place) (places key)

-- no row has the key of new values
abbrev pub IsFree : List ℕ → List TableRow → List Value → Type 0
IsFree key rows values = row_of_key key (values_at key values) rows ≡ None

-- the keys of new rows, of which neither two have one key nor a row that stands has one
pub record AreNewKeys (key : List ℕ) (next : ℕ) (rows : List TableRow) (values : List (List Value))
    (places : HeldKeys) : Type 0 where
  pub index : IsIndexOf key (numbers_from next places) (numbered_rows next values)
  pub free : AllByRecursion (IsFree key rows) values

-- the same where there is a key
abbrev pub AreClaimed : List ℕ → ℕ → List TableRow → List (List Value) → HeldKeys → Type 0
AreClaimed [] next rows values places = Unit {0}
AreClaimed (column ∷ columns) next rows values places = AreNewKeys (column ∷ columns) next rows values places

-- a key is added with the place of its row, unless a new row has it; memory may be out
abbrev pub AddsKey : RowKey → ℕ → NewKeys → NewKeys → Result (Unit {0}) StoreStop → Type 0
AddsKey key place old new (Ok u) = (new_in old key ≡ None)
    × ((q : RowKey) → new_in new q ≡ cond (is_at (key_order key) q) (Some place) (new_in old q))
AddsKey key place old new (Err NoMemory) = Unit {0}
AddsKey key place old new (Err stop) = (stop ≡ KeyTaken None None key.values) × IsSome (new_in old key)
