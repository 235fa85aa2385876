-- `inspect files`: the files of a package, whole, or present if the run only needed them to be there.
use Rattle.std.specs.Prelude.{ℕ, List, ◌++◌, length, codes, Option, Some, None}
use Rattle.std.specs.List.{flat_map}
use Rattle.std.specs.Fmt.{decimal}
use Rattle.inspect.specs.Types.{PackedFile}
use Rattle.run_model.specs.OutcomeText.{line}

-- `present PATH`, or `whole LENGTH PATH`
abbrev pub content_line : List ℕ → Option (List ℕ) → List ℕ
content_line path None = line (codes "present " ++ path)
content_line path (Some bytes) = line (codes "whole " ++ decimal (length bytes) ++ codes " " ++ path)

abbrev pub file_line : PackedFile → List ℕ
file_line file = content_line file.path file.content

-- files are sorted by path
abbrev pub files_report : List PackedFile → List ℕ
files_report files = flat_map file_line files
