-- Results of calls that may run out of memory, compared with a definition.
use Rattle.std.specs.Prelude.{◌≡◌, List, Option, Some, None, Result, Ok, Err}
use Rattle.ldv_value.specs.Gives.{Gives as GivesOf}
use Rattle.sql_parse.specs.declared.error.ParseStop.{ParseStop}
use Rattle.sql_parse.specs.declared.error.ParseStop.TheVariants.{Syntax, NoMemory}
use Rattle.sql_model.specs.declared.token.Token.{Token}

abbrev pub Fails : {X : Type 0} → ParseStop → Option X → Type 0
Fails Syntax due = due ≡ None
Fails NoMemory due = Unit {0}

-- the result is the value that is due, or `Syntax` where none is, or out of memory
abbrev pub GivesParsed : {X : Type 0} → Result X ParseStop → Option X → Type 0
GivesParsed = GivesOf Fails

-- the same of a call that reads from the front of tokens and leaves a rest of them
abbrev pub ReadsPart : {X : Type 0} → Result X ParseStop → List Token → Option (X × List Token) → Type 0
ReadsPart (Ok x) rest due = due ≡ Some (x, rest)
ReadsPart (Err e) rest due = Fails e due

-- the same of a call whose one result is the rest
abbrev pub Passes : {X : Type 0} → Result X ParseStop → List Token → Option (List Token) → Type 0
Passes (Ok x) rest due = due ≡ Some rest
Passes (Err e) rest due = Fails e due
