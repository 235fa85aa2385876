-- The steps of `sql`, `fetch`, `count` and `status`.
use Rattle.std.specs.Prelude.{ℕ, ◌+◌, pos, List, [], ◌∷◌, ◌++◌, length, slice_get, ◌==◌, if◌then◌else◌}
use Rattle.std.specs.Prelude.{Option, Some, None}
use Rattle.sql_model.specs.Codes.{code_of}
use Rattle.run_model.specs.Types.{Value, Null, Int, Text, Reply, Rows, Changed, Refused, Entry}
use Rattle.run_model.specs.Core.{lookup, bind, Cursor, Process}
use Rattle.run_model.specs.Database.{Question}
use Rattle.run_model.specs.StepBase.{with_exit_status, went_on, went_to, with_variable, wrong_kind}
use Rattle.run_model.specs.StepBase.{Computation, Yields}
use Rattle.run_model.specs.StepBase.{Misused, number_within, assign}

-- ---- `sql c v v*`: c means the reply to the statement of a text, with the other values as parameters

-- a question, and the cursor that means the reply
pub record Ask : Type 0 where
  pub cursor : List ℕ
  pub question : Question

-- what isn't a text is misuse, and isn't asked
abbrev pub ask : List ℕ → Value → List Value → Process → Option Ask
ask cursor Null params p = None
ask cursor (Int n) params p = None
ask cursor (Text text) params p = Some (record {
  cursor = cursor;
  question = record { process = p.name; text = text; params = params };
})

abbrev pub entry_of : Question → Reply → Entry
entry_of q reply = record { text = q.text; params = q.params; reply = reply }

-- the cursor means the reply, of which no row was fetched
abbrev pub process_with_reply : Ask → Reply → Process → Process
process_with_reply a reply p = went_on (record p {
  cursors = bind a.cursor (record { reply = reply; fetched = 0 }) p.cursors;
  entries = p.entries ++ entry_of a.question reply ∷ [];
})

-- ---- `fetch c x x* else L`: the values of the next row go to the variables, in order

-- only a query has rows
abbrev pub rows_in : Reply → List (List Value)
rows_in (Rows rows) = rows
rows_in (Changed count) = []
rows_in (Refused refusal) = []

abbrev pub next_row : Cursor → Option (List Value)
next_row cursor = slice_get (rows_in cursor.reply) cursor.fetched

-- of a variable that is named twice the later value stands
abbrev pub with_values : List (List ℕ) → List Value → Process → Process
with_values [] values p = p
with_values (name ∷ names) [] p = p
with_values (name ∷ names) (v ∷ values) p = with_values names values (with_variable name v p)

abbrev pub one_more : List ℕ → Cursor → Process → Process
one_more name cursor p =
    record p { cursors = bind name (record cursor { fetched = cursor.fetched + 1 }) p.cursors }

-- none is left, or it has a value for each variable, else it's misuse
abbrev pub fetch_row : Option (List Value) → Cursor → List ℕ → List (List ℕ) → ℕ → Process → Process
fetch_row None cursor name to place p = went_to place p
fetch_row (Some row) cursor name to place p =
    if length row == length to then went_on (with_values to row (one_more name cursor p))
    else with_exit_status wrong_kind p

abbrev pub fetch_from : Option Cursor → List ℕ → List (List ℕ) → ℕ → Process → Process
fetch_from None name to place p = with_exit_status wrong_kind p
fetch_from (Some cursor) name to place p = fetch_row (next_row cursor) cursor name to place p

abbrev pub fetch : List ℕ → List (List ℕ) → ℕ → Process → Process
fetch name to place p = fetch_from (lookup name p.cursors) name to place p

-- ---- `count x c`: x gets the number of all rows of the reply, or of changed rows, or 0

abbrev pub count_in : Reply → ℕ
count_in (Rows rows) = length rows
count_in (Changed count) = count
count_in (Refused refusal) = 0

abbrev pub row_count : Option Cursor → Computation
row_count None = Misused wrong_kind
row_count (Some cursor) = number_within (pos (count_in cursor.reply))

abbrev pub count : List ℕ → List ℕ → Process → Process
count to name p = assign to (row_count (lookup name p.cursors)) p

-- ---- `status x c`: x gets 0, or the code of the refusal

abbrev pub code_in : Reply → ℕ
code_in (Rows rows) = 0
code_in (Changed count) = 0
code_in (Refused refusal) = code_of refusal

abbrev pub status_value : Option Cursor → Computation
status_value None = Misused wrong_kind
status_value (Some cursor) = Yields (Int (pos (code_in cursor.reply)))

abbrev pub status : List ℕ → List ℕ → Process → Process
status to name p = assign to (status_value (lookup name p.cursors)) p
