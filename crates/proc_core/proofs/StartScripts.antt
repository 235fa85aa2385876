-- The script that a run starts with is that of the world's first start word.
use Rattle.std.proofs.Common.{◌≡◌, ℕ, List, [], ◌∷◌, refl, sym, ◌∙◌, subst}
use Rattle.std.specs.Prelude.{Option, Some, None, option_map, option_and_then}
use Rattle.ldv_value.specs.FileState.{FileState, file_at, initial_files}
use Rattle.ldv_value.specs.declared.file.File.{File}
use Rattle.script_parse.specs.Script.{script_of}
use Rattle.script_parse.specs.declared.script.Instr.{Instr}
use Rattle.run_model.specs.Start.{start_script}
use Rattle.run_model.specs.declared.world.World.{World}
use Rattle.run_model.proofs.StartScripts.{first_script}
use Rattle.proc_core.specs.Stands.{IsStartScript}

script_in : (o : Option File) → option_and_then script_of (option_map (λ (f : File). f.content) o)
    ≡ option_and_then (λ (f : File). script_of f.content) o
script_in None = refl
script_in (Some f) = refl

starts_on : (start : List (List ℕ)) (files : List File) (script : List Instr) → first_script start files ≡ Some script
    → IsStartScript start (initial_files files) script
starts_on [] files script is = absurd cc
starts_on (word ∷ words) files script is = script_in (file_at word files) ∙ is

pub start_script_is : (w : World) (script : List Instr) (tree : FileState) → tree ≡ initial_files w.files
    → start_script w ≡ Some script → IsStartScript w.start tree script
start_script_is w script tree is starts =
    subst (λ (s : FileState). IsStartScript w.start s script) (sym is) (starts_on w.start w.files script starts)
