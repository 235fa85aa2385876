-- The keys of given rows after these have replaced the rows with their numbers: the keys that are claimed,
-- and the first two rows that clash.
use Rattle.std.specs.Prelude.{◌≡◌, ◌==◌, ◌&&◌, ℕ, ◌<◌, Bool, true, false, List, Option, Some, None}
use Rattle.std.specs.Prelude.{find, map, nat_lt, is_some, if◌then◌else◌}
use Rattle.std.specs.List.{list_any, AllByRecursion}
use Rattle.std.specs.Option.{option_map, option_or}
use Rattle.sql_model.specs.Keys.{values_at}
use Rattle.sql_model.specs.References.{has_key}
use Rattle.table_store.specs.Types.{Value, TableRow}
use Rattle.table_store.specs.Claims.{IsIndexOf}
use Rattle.table_store.specs.KeyIndex.{HeldKeys, AreIndexed, row_of_key}
use Rattle.table_store.specs.Stops.{replaced_by}
use Rattle.table_store.specs.declared.keys.clash.Clash.{Clash}

-- what is held once other numbers were put
abbrev pub with_claims : HeldKeys → HeldKeys → HeldKeys
with_claims claims held q = option_or (claims q) (held q)

-- an index that has rows under their keys has those that they become, once it has the claimed numbers
abbrev pub TakeOver : List ℕ → List TableRow → List TableRow → HeldKeys → Type 0
TakeOver key rows after claims =
    (held : HeldKeys) → AreIndexed key held rows → AreIndexed key (with_claims claims held) after

-- a number that no given row has
abbrev pub unless_given : List TableRow → Option ℕ → Option ℕ
unless_given given None = None
unless_given given (Some number) =
    if is_some (find (λ new. new.number == number) given) then None else Some number

-- the number of the row that has a key and isn't given, so that it keeps the key
abbrev pub keeper : List ℕ → List TableRow → List TableRow → List Value → Option ℕ
keeper places rows given key = unless_given given
    (option_map (λ row. row.number) (row_of_key places key rows))

-- ---- clashes

-- two rows of a key, whichever comes first
abbrev pub clash_of : ℕ → ℕ → List Value → Clash
clash_of a b key =
    if nat_lt a b then record { earlier = a; later = b; key = key }
    else record { earlier = b; later = a; key = key }

-- of two clashes the one whose later row comes first
abbrev pub earlier_clash : Option Clash → Clash → Clash
earlier_clash None clash = clash
earlier_clash (Some other) clash = if nat_lt clash.later other.later then clash else other

-- the first clash, after a given row and the one that keeps its key, if any
abbrev pub first_clash : Option Clash → Option ℕ → ℕ → List Value → Option Clash
first_clash first None number key = first
first_clash first (Some kept) number key = Some (earlier_clash first (clash_of number kept key))

-- ---- what is known once some of the given rows were looked at

-- a number below that of the later row of the first clash
abbrev pub is_below : Option Clash → ℕ → Bool
is_below None number = true
is_below (Some clash) number = nat_lt number clash.later

-- a row and the one that keeps its key, if any, aren't both below
abbrev pub IsLate : Option Clash → ℕ → Option ℕ → Type 0
IsLate first number None = Unit {0}
IsLate first number (Some kept) = is_below first number ≡ true → is_below first kept ≡ false

-- a row of a number has a key
abbrev pub HasKeyAt : List ℕ → List Value → List TableRow → ℕ → Type 0
HasKeyAt places key rows number =
    list_any (λ row. (row.number == number) && has_key places key row) rows ≡ true

abbrev pub IsClash : List ℕ → List TableRow → Option Clash → Type 0
IsClash places rows None = Unit {0}
IsClash places rows (Some clash) =
    (clash.earlier < clash.later) × HasKeyAt places clash.key rows clash.earlier
    × HasKeyAt places clash.key rows clash.later

-- the keys of some of the given rows are apart and claimed, and no clash of one with a row that keeps its key
-- comes before the first one
pub record AreJudged (places : List ℕ) (rows given : List TableRow) (claims : HeldKeys) (first : Option Clash)
    (some : List TableRow) : Type 0 where
  pub index : IsIndexOf places claims some
  pub late : AllByRecursion (λ row. IsLate first row.number
      (keeper places rows given (values_at places row.values))) some
  pub clash : IsClash places (map (replaced_by given) rows) first
