-- The view of an index: the number of a row, or none, at each key.
use Rattle.std.specs.Prelude.{ℕ, ℤ, Option, None, Some}
use Rattle.std.specs.BTreeMap.{get}
use Rattle.std.specs.Ordering.{int_cmp}
use Rattle.ldv_value.specs.Order.{values_order}
use Rattle.table_store.specs.KeyIndex.{HeldKeys, int_key}
use Rattle.table_store.specs.declared.keys.index.Index.{Index}

-- keys of one number are held apart from others
abbrev pub held_as : (ℤ → Option ℕ) → Option ℕ → Option ℤ → Option ℕ
held_as ints other None = other
held_as ints other (Some n) = ints n

abbrev pub held_in : Index → HeldKeys
held_in index key =
    held_as (λ n. get int_cmp index.ints.held n) (get values_order index.others.held key.values)
    (int_key key.values)
