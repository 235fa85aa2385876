-- The reasons why words aren't read as a command: they are none, or memory ran out.
use Rattle.std.specs.Prelude.{◌≡◌, true, Option, None, is_some}
use Rattle.ldv_top.specs.declared.word_stop.WordStop.{WordStop}
use Rattle.ldv_top.specs.declared.word_stop.WordStop.TheVariants.{Usage, NoMemory}

-- memory is wanted only for words that are a command
abbrev pub Stops : {X : Type 0} → WordStop → Option X → Type 0
Stops Usage due = due ≡ None
Stops NoMemory due = is_some due ≡ true
