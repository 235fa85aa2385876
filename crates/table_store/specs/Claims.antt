-- Keys of new rows, and of rows that replace others.
use Rattle.std.specs.Prelude.{◌≡◌, ◌==◌, ◌&&◌, ◌+◌, ◌^◌, ℕ, List, Option, Some, None, find, if◌then◌else◌}
use Rattle.std.specs.Prelude.{nat_lt}
use Rattle.std.specs.Option.{option_map}
use Rattle.sql_model.specs.Changes.{KeyClash}
use Rattle.sql_model.specs.Keys.{values_at}
use Rattle.sql_model.specs.References.{has_key}
use Rattle.table_store.specs.Types.{Value, RowKey, TableRow}
use Rattle.table_store.specs.KeyIndex.{HeldKeys, AreHeld, row_of_key}
use Rattle.table_store.specs.declared.error.StoreStop.{StoreStop}
use Rattle.table_store.specs.declared.error.StoreStop.TheVariants.{KeyTaken}

-- a number that is below those of the new rows
abbrev pub old_number : ℕ → ℕ → Option ℕ
old_number next number = if nat_lt number next then Some number else None

-- what refuses one new row, whose key an earlier one may have
abbrev pub taken_stop : List ℕ → ℕ → List Value → Option TableRow → Option StoreStop
taken_stop key next values None = None
taken_stop key next values (Some earlier) =
    Some (KeyTaken (old_number next earlier.number) None (values_at key values))

-- what refuses the keys of new rows, of which none stood before
abbrev pub claim_stop : List ℕ → ℕ → Option KeyClash → Option StoreStop
claim_stop key next None = None
claim_stop key next (Some clash) =
    Some (KeyTaken (old_number next clash.earlier.number) None (values_at key clash.later.values))

-- ---- keys after rows took the place of others

-- what is held is each row under its key, and nothing else
pub record IsIndexOf (places : List ℕ) (held : HeldKeys) (rows : List TableRow) : Type 0 where
  pub each : AreHeld places held rows
  pub only : (q : RowKey) → held q ≡ option_map (λ row. row.number) (row_of_key places q.values rows)

-- what refuses two rows of one key, of which both stood before
abbrev pub both_stop : List ℕ → Option KeyClash → Option StoreStop
both_stop key None = None
both_stop key (Some clash) =
    Some (KeyTaken (Some clash.earlier.number) (Some clash.later.number) (values_at key clash.later.values))

-- ---- rows that keep their keys

-- the row that has a given one's number among some has its key too
abbrev pub KeepsKey : List ℕ → List TableRow → TableRow → Type 0
KeepsKey places rows given =
    option_map (λ row. row.number)
    (find (λ row. (row.number == given.number)
    && has_key places (values_at places given.values) row) rows) ≡ Some given.number
