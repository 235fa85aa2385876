-- The result of a call is the value of a definition, unless memory runs out.
use Rattle.std.specs.Prelude.{◌≡◌, Option, Some, None, Result, Ok, Err}
use Rattle.ldv_value.specs.Gives.{Gives as GivesOf, GivesBy as GivesByOf}
use Rattle.script_parse.specs.declared.line_stop.LineStop.{LineStop}
use Rattle.script_parse.specs.declared.line_stop.LineStop.TheVariants.{Malformed, NoMemory}

abbrev pub Fails : {X : Type 0} → LineStop → Option X → Type 0
Fails Malformed due = due ≡ None
Fails NoMemory due = Unit {0}

-- the result is the value that is due, or `Malformed` where none is, or out of memory
abbrev pub GivesLine : {X : Type 0} → Result X LineStop → Option X → Type 0
GivesLine = GivesOf Fails

-- the same of a result as a contract sees it by `view`
abbrev pub GivesLineBy : {X Y : Type 0} → (X → Y) → Result X LineStop → Option Y → Type 0
GivesLineBy = GivesByOf Fails
