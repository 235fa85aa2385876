-- Limits. Those of inputs, files, texts, paths and names are in bytes. `src/limits.rt` has constants of the
-- same names.
use Rattle.std.specs.Prelude.{ℕ}

-- an input, and a written package
abbrev pub input_limit : ℕ
input_limit = 67108864

-- a file
abbrev pub file_limit : ℕ
file_limit = 16777216

-- what one process prints
abbrev pub printed_limit : ℕ
printed_limit = 16777216

-- a TEXT value, a text of a script, a start word, a line that is read
abbrev pub text_limit : ℕ
text_limit = 65536

-- a path
abbrev pub path_limit : ℕ
path_limit = 255

-- a name of SQL or of a script
abbrev pub name_limit : ℕ
name_limit = 63

-- steps of a run, and how many there are where none are given
abbrev pub max_steps : ℕ
max_steps = 10000000

abbrev pub default_steps : ℕ
default_steps = 1000000

-- processes of a run
abbrev pub max_processes : ℕ
max_processes = 65535

-- files of a world or package
abbrev pub max_files : ℕ
max_files = 65536

-- tables, and columns of one
abbrev pub max_tables : ℕ
max_tables = 256

abbrev pub max_columns : ℕ
max_columns = 64

-- rows of a table in a world document
abbrev pub max_rows : ℕ
max_rows = 1000000

-- the number that the next row of a table gets
abbrev pub max_next : ℕ
max_next = 4294967295

-- words that a run starts with
abbrev pub max_start_words : ℕ
max_start_words = 256

-- operands in one list of an instruction, and parameters of a statement
abbrev pub max_operands : ℕ
max_operands = 255

abbrev pub max_params : ℕ
max_params = 255

-- sources of a SELECT in FROM, and the depth of an expression
abbrev pub max_sources : ℕ
max_sources = 8

abbrev pub max_depth : ℕ
max_depth = 64
