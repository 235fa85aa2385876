-- The reasons why there is no graph: the bytes are no document, or memory ran out.
use Rattle.std.specs.Prelude.{◌≡◌, Option, None}
use Rattle.prov_export.specs.declared.error.ProvStop.{ProvStop}
use Rattle.prov_export.specs.declared.error.ProvStop.TheVariants.{NotProv, NoMemory}

abbrev pub Stops : {X : Type 0} → ProvStop → Option X → Type 0
Stops NotProv due = due ≡ None
Stops NoMemory due = Unit {0}
