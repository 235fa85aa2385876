-- The names of members by their places, as they lie in memory.
use Rattle.std.specs.Prelude.{ℕ, List, Option, option_map}
use Rattle.std.specs.Borrow.{Bor}
use Rattle.std.specs.BTreeMap.{BTreeMap, get}
use Rattle.std.specs.Ordering.{nat_cmp}

abbrev pub names_of : BTreeMap ℕ (Bor (List ℕ)) → ℕ → Option (List ℕ)
names_of names place = option_map (λ name. name.now) (get nat_cmp names place)
