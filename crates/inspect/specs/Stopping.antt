-- The reasons why there is no report on an item: there is no such item, or memory ran out.
use Rattle.std.specs.Prelude.{◌≡◌, ℕ, List, Option, None}
use Rattle.inspect.specs.declared.error.InspectStop.{InspectStop}
use Rattle.inspect.specs.declared.error.InspectStop.TheVariants.{NoSuch, NoMemory}

abbrev pub Stops : InspectStop → Option (List ℕ) → Type 0
Stops NoSuch due = due ≡ None
Stops NoMemory due = Unit {0}
