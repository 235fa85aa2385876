-- Files in a list that passed the test for valid files.
use Rattle.std.proofs.Common.{◌≡◌, List, [], ◌∷◌, length, true}
use Rattle.std.specs.List.{All, list_all}
use Rattle.std.proofs.lemmas.Bool.{leb-true}
use Rattle.std.proofs.lemmas.List.Elements.{All-nil, All-cons}
use Rattle.ldv_value.specs.FileState.{IsFile, file_test, file_precedes, files_test}
use Rattle.ldv_value.specs.Limits.{file_limit}
use Rattle.ldv_value.specs.Sorted.{is_strictly_sorted}
use Rattle.ldv_value.specs.declared.file.File.{File}
use Rattle.ldv_value.proofs.Booleans.{and-parts, and-first, and-second}

pub file_is : (f : File) → file_test f ≡ true → IsFile f.path f.content
file_is f met =
    let parts = and-parts _ _ met in
    (parts.0, leb-true (length f.content) file_limit parts.1)

all_files : (files : List File) → list_all file_test files ≡ true → All (λ f. IsFile f.path f.content) files
all_files [] met = All-nil (λ (f : File). IsFile f.path f.content)
all_files (f ∷ files) met =
    let parts = and-parts (file_test f) (list_all file_test files) met in
    All-cons (λ (f : File). IsFile f.path f.content) f files (file_is f parts.0) (all_files files parts.1)

pub files_are : (files : List File) → files_test files ≡ true → All (λ f. IsFile f.path f.content) files
files_are files met = all_files files (and-first (list_all file_test files) (is_strictly_sorted file_precedes files) met)

pub files_sorted : (files : List File) → files_test files ≡ true → is_strictly_sorted file_precedes files ≡ true
files_sorted files met = and-second (list_all file_test files) (is_strictly_sorted file_precedes files) met
