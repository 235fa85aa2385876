-- The words of `inspect`.
use Rattle.std.specs.Prelude.{ℕ, List, [], ◌∷◌, codes, bytes_eq, ◌&&◌, if◌then◌else◌, Option, Some, None}
use Rattle.std.specs.Prelude.{option_map}
use Rattle.ldv_value.specs.Names.{path_test}
use Rattle.sql_model.specs.SqlNames.{sql_name_test}
use Rattle.ldv_top.specs.declared.command.Report.{Report}
use Rattle.ldv_top.specs.declared.command.Report.TheVariants.{Rows, Files, Trace, Why, Depends}
use Rattle.ldv_top.specs.WordNumbers.{number_within}

-- the largest number of a row
abbrev pub max_row : ℕ
max_row = 4294967294

-- `rows`, `files` or `trace`
abbrev pub report_named : List ℕ → Option Report
report_named word =
    if bytes_eq word (codes "rows") then Some Rows
    else (if bytes_eq word (codes "files") then Some Files
    else (if bytes_eq word (codes "trace") then Some Trace else None))

-- `depends PATH`
abbrev pub depends_named : List ℕ → List ℕ → Option Report
depends_named word path =
    if bytes_eq word (codes "depends") && path_test path then Some (Depends path) else None

-- `why TABLE ROW`
abbrev pub why_named : List ℕ → List ℕ → List ℕ → Option Report
why_named word table row =
    if bytes_eq word (codes "why") && sql_name_test table
    then option_map (λ number. Why table number) (number_within max_row row) else None

-- by the words after `inspect`
abbrev pub report_of : List (List ℕ) → Option Report
report_of [] = None
report_of (word ∷ []) = report_named word
report_of (word ∷ path ∷ []) = depends_named word path
report_of (word ∷ table ∷ row ∷ []) = why_named word table row
report_of (word ∷ table ∷ row ∷ more ∷ words) = None
