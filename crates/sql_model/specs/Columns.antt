-- The column at the front of tokens.
use Rattle.std.specs.Prelude.{ℕ, List, if◌then◌else◌, Option, Some, None, codes}
use Rattle.sql_model.specs.declared.expr.ColumnName.{ColumnName}
use Rattle.sql_model.specs.declared.token.Token.{Token}
use Rattle.ldv_value.specs.Options.{◌>>=◌}
use Rattle.sql_model.specs.Reader.{starts, tail, reads_name}

-- after a name: the column that it names, or a column of the source that it names
abbrev pub column_after : List ℕ → List Token → Option (ColumnName × List Token)
column_after n ts =
    if starts (codes ".") ts then (reads_name (tail ts)
    >>= λ r. Some (record { table = Some n; name = r.0 }, r.1))
    else Some (record { table = None; name = n }, ts)

abbrev pub reads_column : List Token → Option (ColumnName × List Token)
reads_column ts = reads_name ts >>= λ n. column_after n.0 n.1
