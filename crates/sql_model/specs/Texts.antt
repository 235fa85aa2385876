-- The statement that a text spells with its parameters.
use Rattle.std.specs.Prelude.{ℕ, ◌+◌, List, [], ◌∷◌, length, Bool, ◌==◌, if◌then◌else◌, Option, Some, None}
use Rattle.std.specs.Prelude.{codes, slice_get}
use Rattle.ldv_value.specs.declared.value.Value.{Value}
use Rattle.sql_model.specs.declared.statement.Delete.{Delete}
use Rattle.sql_model.specs.declared.statement.Insert.{Insert}
use Rattle.sql_model.specs.declared.statement.Set.{Set}
use Rattle.sql_model.specs.declared.statement.Statement.{Statement}
use Rattle.sql_model.specs.declared.statement.Statement.TheVariants as statement
use Rattle.sql_model.specs.declared.statement.Update.{Update}
use Rattle.sql_model.specs.declared.token.Token.{Token}
use Rattle.sql_model.specs.declared.token.Token.TheVariants.{Given}
use Rattle.sql_model.specs.Expressions.{reads_expr}
use Rattle.ldv_value.specs.Options.{◌>>=◌, only_if}
use Rattle.sql_model.specs.Parts.{list_of_parts, reads_names, reads_optional, reads_tuple}
use Rattle.sql_model.specs.Queries.{reads_query}
use Rattle.sql_model.specs.Reader.{is_word, starts, tail, tokens_past, after_word, reads_name}
use Rattle.sql_model.specs.Tokens.{tokens_of}

-- INSERT, UPDATE, DELETE, each after its word

abbrev pub reads_columns : List Token → Option (Option (List (List ℕ)) × List Token)
reads_columns ts =
    if starts (codes "(") ts then (reads_names (tail ts) >>= λ r. after_word (codes ")") r.1
    >>= λ rest. Some (Some r.0, rest))
    else Some (None, ts)

abbrev pub reads_insert : List Token → Option (Insert × List Token)
reads_insert ts = after_word (codes "into") ts >>= λ into. reads_name into >>= λ t. reads_columns t.1
    >>= λ c. after_word (codes "values") c.1 >>= λ rest. list_of_parts reads_tuple rest >>= λ r.
    Some (record { table = t.0; columns = c.0; rows = r.0 }, r.1)

abbrev pub reads_set : List Token → Option (Set × List Token)
reads_set ts = reads_name ts >>= λ n. after_word (codes "=") n.1 >>= λ rest. reads_expr rest
    >>= λ e. Some (record { column = n.0; expr = e.0 }, e.1)

abbrev pub reads_update : List Token → Option (Update × List Token)
reads_update ts = reads_name ts >>= λ t. after_word (codes "set") t.1 >>= λ rest. list_of_parts reads_set rest
    >>= λ s. reads_optional (codes "where") s.1 >>= λ w.
    Some (record { table = t.0; sets = s.0; pick = w.0 }, w.1)

abbrev pub reads_delete : List Token → Option (Delete × List Token)
reads_delete ts = after_word (codes "from") ts >>= λ rest. reads_name rest
    >>= λ t. reads_optional (codes "where") t.1 >>= λ w. Some (record { table = t.0; pick = w.0 }, w.1)

abbrev pub reads_statement : List Token → Option (Statement × List Token)
reads_statement ts =
    if starts (codes "select") ts then (reads_query ts >>= λ r. Some (statement.Query r.0, r.1))
    else if starts (codes "insert") ts then (reads_insert (tail ts) >>= λ r. Some (statement.Insert r.0, r.1))
    else if starts (codes "update") ts then (reads_update (tail ts) >>= λ r. Some (statement.Update r.0, r.1))
    else if starts (codes "delete") ts then (reads_delete (tail ts) >>= λ r. Some (statement.Delete r.0, r.1))
    else None

-- PARAMETERS

-- A token with the value of its parameter, where it is a `?`, and the place of the next parameter.
abbrev pub placed_token : List Value → ℕ → Token → Option (Token × ℕ)
placed_token params place t = if is_word (codes "?") t
    then (slice_get params place >>= λ v. Some (Given v, place + 1)) else Some (t, place)

-- The k-th `?` is the k-th parameter, and there are as many of both.
abbrev pub with_parameters : List Value → ℕ → List Token → Option (List Token)
with_parameters params place [] = only_if (place == length params) (Some [])
with_parameters params place (t ∷ ts) = placed_token params place t >>= λ r. with_parameters params r.1 ts
    >>= λ rest. Some (r.0 ∷ rest)

-- TEXTS

-- a statement and an optional `;`, and then nothing
abbrev pub is_end : List Token → Bool
is_end ts = length (tokens_past (codes ";") ts) == 0

abbrev pub whole_statement : List Token → Option Statement
whole_statement ts = reads_statement ts >>= λ r. only_if (is_end r.1) (Some r.0)

-- the statement that a text is, with these parameters
abbrev pub statement_of : List ℕ → List Value → Option Statement
statement_of text params = tokens_of text
    >>= λ ts. with_parameters params 0 ts >>= λ given. whole_statement given
