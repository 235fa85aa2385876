-- Files as a tree begins with them.
use Rattle.std.specs.Prelude.{List, [], ◌∷◌}
use Rattle.ldv_value.specs.declared.file.File.{File}
use Rattle.ldv_value.specs.FileState.{put_file}

-- files put in from the last to the first, so that of two at one path the first is kept
abbrev pub files_from : List File → List File
files_from [] = []
files_from (f ∷ fs) = put_file f.path f.content (files_from fs)
