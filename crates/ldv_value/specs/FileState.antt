-- The files of a run and the paths that it touched, and how opening, reading, appending, copying and removing
-- change them. Both lists are sorted by path.
use Rattle.std.specs.Prelude.{ℕ, ◌+◌, ◌≤◌, min, List, [], ◌∷◌, ◌++◌, length, drop, find, Bool, true, false}
use Rattle.std.specs.Prelude.{not, ◌&&◌, ◌==◌, nat_le, nat_lt, IsTrue, if◌then◌else◌, Option, Some, None}
use Rattle.std.specs.Prelude.{is_some, option_map, unwrap_or, bytes_eq}
use Rattle.std.specs.List.{list_any, list_all, filter, before_first, position_or_len}
use Rattle.std.specs.Str.{is_utf8}
use Rattle.std.specs.declared.cmp.Ordering.{Ordering}
use Rattle.std.specs.Ordering.{nat_cmp, match_ordering}
use Rattle.std.specs.Cmp.Lexicographic.{slice_cmp}
use Rattle.ldv_value.specs.declared.file.File.{File}
use Rattle.ldv_value.specs.declared.file.OpenMode.{OpenMode}
use Rattle.ldv_value.specs.declared.file.OpenMode.TheVariants.{Read, Write, Append, New}
use Rattle.ldv_value.specs.declared.line.LineRead.{LineRead}
use Rattle.ldv_value.specs.declared.line.LineRead.TheVariants.{End, Line, TooLong, NotText}
use Rattle.ldv_value.specs.Limits.{file_limit, text_limit}
use Rattle.ldv_value.specs.Names.{path_test}
use Rattle.ldv_value.specs.Sorted.{is_strictly_sorted, text_precedes}

-- ---- lists of files, sorted by path

-- paths are compared by their bytes
abbrev pub path_cmp : List ℕ → List ℕ → Ordering
path_cmp = slice_cmp nat_cmp

-- a path and bytes that a file may have
abbrev pub IsFile : List ℕ → List ℕ → Type 0
IsFile path bytes = IsTrue (path_test path) × (length bytes ≤ file_limit)

abbrev pub file_test : File → Bool
file_test file = path_test file.path && nat_le (length file.content) file_limit

abbrev pub file_precedes : File → File → Bool
file_precedes a b = text_precedes a.path b.path

-- valid files, sorted by path
abbrev pub files_test : List File → Bool
files_test files = list_all file_test files && is_strictly_sorted file_precedes files

abbrev pub file_at : List ℕ → List File → Option File
file_at path files = find (λ file. bytes_eq path file.path) files

-- the bytes at a path
abbrev pub content_in : List File → List ℕ → Option (List ℕ)
content_in files path = option_map (λ file. file.content) (file_at path files)

abbrev pub file_of : List ℕ → List ℕ → File
file_of path bytes = record { path = path; content = bytes }

-- with these bytes at a path, in place of those that were there
abbrev pub put_file : List ℕ → List ℕ → List File → List File
put_file path bytes [] = file_of path bytes ∷ []
put_file path bytes (f ∷ fs) =
    match_ordering (path_cmp path f.path)
    (file_of path bytes ∷ f ∷ fs)
    (file_of f.path bytes ∷ fs)
    (f ∷ put_file path bytes fs)

-- without the file at a path
abbrev pub remove_file : List ℕ → List File → List File
remove_file path files = filter (λ file. not (bytes_eq path file.path)) files

-- with a path in its place, once
abbrev pub add_path : List ℕ → List (List ℕ) → List (List ℕ)
add_path path [] = path ∷ []
add_path path (p ∷ ps) = match_ordering (path_cmp path p) (path ∷ p ∷ ps) (p ∷ ps) (p ∷ add_path path ps)

-- ---- states

pub record FileState : Type 0 where
  pub files : List File
  -- opened with success for writing, appending or as new, or removed
  pub touched : List (List ℕ)

-- the bytes of a file, where there is one at the path
abbrev pub content_at : FileState → List ℕ → Option (List ℕ)
content_at s path = content_in s.files path

-- whether there is a file at a path
abbrev pub is_there : FileState → List ℕ → Bool
is_there s path = is_some (content_at s path)

-- the bytes of a file; no bytes where it is absent
abbrev pub bytes_at : FileState → List ℕ → List ℕ
bytes_at s path = unwrap_or (content_at s path) []

-- the bytes of a file from a place on; none at and past its end
abbrev pub rest_at : FileState → List ℕ → ℕ → List ℕ
rest_at s path at = drop at (bytes_at s path)

-- whether a path was touched
abbrev pub is_touched : FileState → List ℕ → Bool
is_touched s path = list_any (bytes_eq path) s.touched

-- what every state keeps: valid files sorted by path, and valid touched paths, sorted
pub record IsFileState (s : FileState) : Type 0 where
  pub files : IsTrue (files_test s.files)
  pub paths : IsTrue (list_all path_test s.touched)
  pub sorted : IsTrue (is_strictly_sorted text_precedes s.touched)

-- these files, and no path touched
abbrev pub initial_files : List File → FileState
initial_files files = record { files = files; touched = [] }

-- the state with a file of these bytes at a path
abbrev pub put : FileState → List ℕ → List ℕ → FileState
put s path bytes = record s { files = put_file path bytes s.files }

-- the state with a path touched
abbrev pub touch : FileState → List ℕ → FileState
touch s path = record s { touched = add_path path s.touched }

-- ---- opening and removing

-- why a path isn't opened or removed
pub data FileRefusal : Type 0 where
  NotFound : FileRefusal
  AlreadyExists : FileRefusal

-- by the mode and by whether the file is there
abbrev pub open_refusal : OpenMode → Bool → Option FileRefusal
open_refusal Read true = None
open_refusal Read false = Some NotFound
open_refusal Write found = None
open_refusal Append found = None
open_refusal New true = Some AlreadyExists
open_refusal New false = None

-- after an open that isn't refused
abbrev pub after_open : OpenMode → FileState → List ℕ → FileState
after_open Read s path = s
after_open Write s path = touch (put s path []) path
after_open Append s path = touch (put s path (bytes_at s path)) path
after_open New s path = touch (put s path []) path

-- after the removal of a file that is there
abbrev pub after_remove : FileState → List ℕ → FileState
after_remove s path = touch (record s { files = remove_file path s.files }) path

-- ---- appending and copying

-- whether the file at a path has room for `count` bytes more
abbrev pub has_room : FileState → List ℕ → ℕ → Bool
has_room s path count = nat_le (length (bytes_at s path) + count) file_limit

-- with bytes appended to a file; an absent file counts as empty and is made
abbrev pub after_append : FileState → List ℕ → List ℕ → FileState
after_append s path more = put s path (bytes_at s path ++ more)

-- the rest of one file from a place on, appended to another; the bytes are those before the copy
abbrev pub after_copy : FileState → List ℕ → ℕ → List ℕ → FileState
after_copy s source at target = after_append s target (rest_at s source at)

-- the place after what was copied
abbrev pub copy_end : FileState → List ℕ → ℕ → ℕ
copy_end s source at = at + length (rest_at s source at)

-- ---- reading a line

abbrev pub is_line_feed : ℕ → Bool
is_line_feed b = b == 10

-- how many bytes come before the first LF, or to the end
abbrev pub line_length : List ℕ → ℕ
line_length = position_or_len is_line_feed

-- a line, if it is text, and the place after it
abbrev pub text_read : List ℕ → ℕ → LineRead
text_read line next = if is_utf8 line then Line line next else NotText

-- the first line of the bytes at a place: too long, or else not UTF-8, or else read, without its LF and with
-- the place after the LF or at the end
abbrev pub first_read : ℕ → List ℕ → LineRead
first_read at bytes =
    if nat_lt text_limit (line_length bytes) then TooLong
    else text_read (before_first is_line_feed bytes) (at + min (line_length bytes + 1) (length bytes))

-- the line at a place, by the bytes from there on
abbrev pub line_read : ℕ → List ℕ → LineRead
line_read at [] = End
line_read at (b ∷ bytes) = first_read at (b ∷ bytes)

-- the line at a place of a file
abbrev pub read_line : FileState → List ℕ → ℕ → LineRead
read_line s path at = line_read at (rest_at s path at)
