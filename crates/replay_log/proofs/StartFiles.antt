-- The first script of a package's own world is that of the package's file.
use Rattle.std.proofs.Common.{◌≡◌, ℕ, List, map, find, refl, sym, ap, ◌∙◌, true, false}
use Rattle.std.specs.Prelude.{bytes_eq, slice_get, Option, Some, None, is_some, option_map, option_and_then, IsSome}
use Rattle.ldv_value.specs.FileState.{file_at}
use Rattle.script_parse.specs.Script.{script_of}
use Rattle.run_model.proofs.StartScripts.{own_at, world_script}
use Rattle.run_model.specs.Package.{or_empty, own_file, own_world}
use Rattle.run_model.specs.Start.{start_script}
use Rattle.run_model.specs.declared.package.PackedFile.{PackedFile}
use Rattle.replay_log.specs.Types.{Instr, Package}
use Rattle.replay_log.specs.inner.Starts.{packed_start, script_in}

by_file : (o : Option PackedFile) → world_script (option_map own_file o) ≡ script_in o
by_file None = refl
by_file (Some file) = refl

by_word : (o : Option (List ℕ)) (files : List PackedFile)
    → world_script (option_and_then (λ (word : List ℕ). file_at word (map own_file files)) o)
    ≡ script_in (option_and_then (λ (word : List ℕ). find (λ f. bytes_eq word f.path) files) o)
by_word None files = refl
by_word (Some word) files = ap world_script (own_at word files) ∙ by_file (find (λ f. bytes_eq word f.path) files)

module _ (p : Package) where
  own_start : start_script (own_world p) ≡ script_in (packed_start p)
  own_start = by_word (slice_get p.start 0) p.files

  pub never_absent : None ≡ packed_start p → IsSome (start_script (own_world p)) → ⊥
  never_absent none some =
      let never : false ≡ true = sym (ap (λ (o : Option (List Instr)). is_some o) (own_start ∙ ap script_in (sym none))) ∙ some in
      cc

  module _ (file : PackedFile) (bytes : List ℕ) (at : Some file ≡ packed_start p) (same : bytes ≡ or_empty file.content) where
    found_is : start_script (own_world p) ≡ script_of bytes
    found_is = own_start ∙ ap script_in (sym at) ∙ ap script_of (sym same)

    pub found_there : IsSome (start_script (own_world p)) → IsSome (script_of bytes)
    found_there some = sym (ap (λ (o : Option (List Instr)). is_some o) found_is) ∙ some

    pub found_script : (script : List Instr) → script_of bytes ≡ Some script → start_script (own_world p) ≡ Some script
    found_script script is = found_is ∙ is
