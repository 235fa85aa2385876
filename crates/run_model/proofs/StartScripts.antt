-- The script of the file at the first start word: that of a package is that of its own world.
use Rattle.std.proofs.Common.{◌≡◌, ℕ, ◌<◌, List, [], ◌∷◌, length, true, arith, refl, inl, inr}
use Rattle.std.specs.Prelude.{map, find, nat_le, bytes_eq, slice_get, Option, Some, None, is_some, option_and_then, option_map}
use Rattle.std.proofs.lemmas.Bool.{cases_Bool}
use Rattle.ldv_value.proofs.Booleans.{and-parts}
use Rattle.ldv_value.proofs.Options.{is_some-true}
use Rattle.ldv_value.specs.FileState.{file_at}
use Rattle.ldv_value.specs.Limits.{file_limit}
use Rattle.ldv_value.specs.declared.file.File.{File}
use Rattle.script_parse.specs.Script.{script_of}
use Rattle.script_parse.specs.declared.script.Instr.{Instr}
use Rattle.run_model.specs.Package.{or_empty, own_file}
use Rattle.run_model.specs.Start.{start_script}
use Rattle.run_model.specs.ValidPackage.{is_script, is_script_file, script_rule}
use Rattle.run_model.specs.declared.package.PackedFile.{PackedFile}
use Rattle.run_model.specs.declared.world.World.{World}

-- as `start_script` has it, of any words and files
abbrev pub first_script : List (List ℕ) → List File → Option (List Instr)
first_script start files =
    option_and_then (λ (file : File). script_of file.content) (option_and_then (λ word. file_at word files) (slice_get start 0))

-- ---- of a world

some_word : (start : List (List ℕ)) (files : List File) → is_some (first_script start files) ≡ true → 0 < length start
some_word [] files some = absurd cc
some_word (word ∷ words) files some = omega arith

pub has_word : (w : World) → is_some (start_script w) ≡ true → 0 < length w.start
has_word w some = some_word w.start w.files some

pub has_script : (w : World) → is_some (start_script w) ≡ true → (script : List Instr) × (start_script w ≡ Some script)
has_script w some = is_some-true (start_script w) some

-- ---- of a package

content_script : (content : Option (List ℕ)) → is_script content ≡ true → is_some (script_of (or_empty content)) ≡ true
content_script None rule = absurd cc
content_script (Some bytes) rule = (and-parts (nat_le (length bytes) file_limit) (is_some (script_of bytes)) rule).1

-- the script of a file, where there is one
abbrev pub world_script : Option File → Option (List Instr)
world_script o = option_and_then (λ (file : File). script_of file.content) o

-- the own world's file of a path is that of the package's file of this path
pub own_at : (word : List ℕ) (files : List PackedFile)
    → file_at word (map own_file files) ≡ option_map own_file (find (λ f. bytes_eq word f.path) files)
own_at word [] = refl
own_at word (file ∷ files) = elim (cases_Bool (bytes_eq word file.path)) [
  | inl hit ↦ rw hit refl
  | inr miss ↦ rw miss (own_at word files)
]

script_found : (word : List ℕ) (files : List PackedFile) → is_script_file (find (λ f. bytes_eq word f.path) files) ≡ true
    → is_some (world_script (file_at word (map own_file files))) ≡ true
script_found word [] rule = absurd cc
script_found word (file ∷ files) rule = elim (cases_Bool (bytes_eq word file.path)) [
  | inl hit ↦ rw hit (content_script file.content (rw hit at rule))
  | inr miss ↦ rw miss (script_found word files (rw miss at rule))
]

pub own_script : (start : List (List ℕ)) (files : List PackedFile) → script_rule start files ≡ true
    → is_some (first_script start (map own_file files)) ≡ true
own_script [] files rule = absurd cc
own_script (word ∷ words) files rule = script_found word files rule
