-- Files that are inserted one after another.
use Rattle.std.proofs.Common.{◌≡◌, ap, refl, List, [], ◌∷◌, ◌++◌}
use Rattle.ldv_value.specs.declared.file.File.{File}
use Rattle.ldv_value.specs.FileState.{put_file}
use Rattle.file_tree.specs.Files.{files_from}

-- the files of a list put over others, the first last
abbrev pub files_onto : List File → List File → List File
files_onto m [] = m
files_onto m (f ∷ fs) = put_file f.path f.content (files_onto m fs)

pub files_onto_push : (m fs : List File) (f : File) → files_onto m (fs ++ f ∷ []) ≡ files_onto (put_file f.path f.content m) fs
files_onto_push m [] f = refl
files_onto_push m (g ∷ fs) f = ap (put_file g.path g.content) (files_onto_push m fs f)

pub files_onto_empty : (m fs : List File) → m ≡ [] → files_onto m fs ≡ files_from fs
files_onto_empty m [] is = is
files_onto_empty m (f ∷ fs) is = ap (put_file f.path f.content) (files_onto_empty m fs is)
