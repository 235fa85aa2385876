-- The meaning of maps and sets by `String`: files sorted by path, and sorted paths.
use Rattle.std.specs.Prelude.{◌≡◌, ℕ, List, [], ◌∷◌, map, String, string_bytes}
use Rattle.std.proofs.Common.{refl, ap}
use Rattle.std.specs.declared.alloc.Global.{Global}
use Rattle.std.specs.Coded.{Coded, code_by, coded×, coded_list, coded_ℕ}
use Rattle.std.specs.FinMap.{FinMap, from_entries, entries, keys}
use Rattle.ldv_value.specs.declared.file.File.{File}
use Rattle.ldv_value.specs.FileState.{path_cmp, file_of, FileState, FileRefusal, NotFound, AlreadyExists}
use Rattle.file_tree.specs.declared.error.TreeStop.{TreeStop}
use Rattle.file_tree.specs.declared.error.TreeStop.TheVariants.{Absent, Taken}

-- ---- as finite maps by the bytes of the texts

abbrev pub FileMap : Type 0
FileMap = FinMap path_cmp (List ℕ)

-- a set of paths: a map with nothing at each
abbrev pub PathSet : Type 0
PathSet = FinMap path_cmp (Unit {0})

-- entries by the bytes of their keys
abbrev pub texts : List (String Global × List ℕ) → List (List ℕ × List ℕ)
texts = map (λ e. (string_bytes e.0, e.1))

abbrev pub map_by_bytes : List (String Global × List ℕ) → FileMap
map_by_bytes es = from_entries (texts es)

-- the keys of a set, with nothing at each
abbrev pub marks : List (String Global) → List (List ℕ × Unit {0})
marks = map (λ k. (string_bytes k, tt))

abbrev pub set_by_bytes : List (String Global) → PathSet
set_by_bytes ks = from_entries (marks ks)

-- ---- as sorted lists

abbrev pub file_from : List ℕ × List ℕ → File
file_from e = file_of e.0 e.1

abbrev pub files_in : FileMap → List File
files_in m = map file_from (entries m)

abbrev pub paths_in : PathSet → List (List ℕ)
paths_in m = keys m

-- a refusal as an error of a tree
abbrev pub stop_of : FileRefusal → TreeStop
stop_of NotFound = Absent
stop_of AlreadyExists = Taken

-- ---- codes

abbrev pub Entries : Type 0
Entries = List (List ℕ × List ℕ)

abbrev pub entry_of : File → List ℕ × List ℕ
entry_of f = (f.path, f.content)

pub files_back : (files : List File) → map file_from (map entry_of files) ≡ files
files_back [] = refl
files_back (f ∷ fs) = ap (λ (l : List File). f ∷ l) (files_back fs)

abbrev pub files_code : Coded (List File)
files_code =
    code_by Entries (coded_list (coded× (coded_list coded_ℕ) (coded_list coded_ℕ)))
    (map entry_of) (map file_from) files_back

abbrev pub state_code : Coded FileState
state_code =
    code_by (List File × List (List ℕ)) (coded× files_code (coded_list (coded_list coded_ℕ)))
    (λ s. (s.files, s.touched)) (λ p. record { files = p.0; touched = p.1 }) (λ _. refl)
