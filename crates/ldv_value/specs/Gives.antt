-- Results of calls that may run out of memory, compared with a definition.
use Rattle.std.specs.Prelude.{◌≡◌, Option, Some, Result, Ok, Err}

-- The result is the value that the definition gives. `Fails` says what follows from an error: mostly that
-- there is no such value, and from out of memory nothing.
abbrev pub Gives : {X E : Type 0} → (E → Option X → Type 0) → Result X E → Option X → Type 0
Gives Fails (Ok x) due = due ≡ Some x
Gives Fails (Err e) due = Fails e due

-- the same of a result as a contract sees it by `view`
abbrev pub GivesBy : {X Y E : Type 0} → (E → Option Y → Type 0) → (X → Y) → Result X E → Option Y → Type 0
GivesBy Fails view (Ok x) due = due ≡ Some (view x)
GivesBy Fails view (Err e) due = Fails e due

-- the same of a definition that gives a value or one of its own refusals
abbrev pub GivesOr : {X E F : Type 0} → (E → Result X F → Type 0) → Result X E → Result X F → Type 0
GivesOr Fails (Ok x) due = due ≡ Ok x
GivesOr Fails (Err e) due = Fails e due
