-- The code of each refusal.
use Rattle.std.specs.Prelude.{ℕ}
use Rattle.sql_model.specs.Types.{SqlRefusal, Syntax, NoTable, NoColumn, TypeClash, NotNull, KeyTaken, Full}
use Rattle.sql_model.specs.Types.{NoParent, HasChild}

abbrev pub code_of : SqlRefusal → ℕ
code_of Syntax = 1
code_of NoTable = 2
code_of NoColumn = 3
code_of TypeClash = 4
code_of NotNull = 5
code_of (KeyTaken table key) = 6
code_of Full = 7
code_of (NoParent table key) = 8
code_of (HasChild table key) = 9
