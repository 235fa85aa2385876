-- The references of a document, and the fault of its start, by the world made from it.
use Rattle.std.proofs.Common.{◌≡◌, List, Bool, true, false, if◌then◌else◌, Option, Some, None, Ok, Err, sym, ap, subst, ◌∙◌}
use Rattle.std.specs.Prelude.{option_and_then}
use Rattle.ldv_value.proofs.Booleans.{and-first}
use Rattle.ldv_value.specs.declared.file.File.{File}
use Rattle.run_model.specs.declared.world.World.{World}
use Rattle.script_parse.specs.Script.{script_of}
use Rattle.script_parse.specs.declared.script.Instr.{Instr}
use Rattle.world_json.specs.declared.document.Document.{Document}
use Rattle.world_json.specs.declared.fault.WorldFault.{WorldFault}
use Rattle.world_json.specs.declared.fault.WorldFault.TheVariants.{Reference}
use Rattle.world_json.specs.declared.fault.WorldStop.{WorldStop}
use Rattle.world_json.specs.declared.fault.WorldStop.TheVariants.{Fault, NoMemory}
use Rattle.world_json.specs.Faults.{are_files_within, is_within, start_of}
use Rattle.world_json.specs.Reading.{world_as, have_references, is_referring, script_fault, start_fault_of, start_fault, ending, referring_of}
use Rattle.world_json.specs.Reading.{IsFaultOf, IsStopFor}

pub within_files : (doc : Document) (world : World) → world ≡ world_as doc → is_within doc ≡ true → are_files_within world.files ≡ true
within_files doc world is within =
    subst (λ (w : World). are_files_within w.files ≡ true) (sym is) (and-first _ _ (and-first _ _ (and-first _ _ within)))

abbrev script_in : Option File → Option (List Instr)
script_in file = option_and_then (λ (file : File). script_of file.content) file

-- a file that is a script has no fault
no_fault : (file : Option File) (script : List Instr) → script_in file ≡ Some script → start_fault_of file ≡ None
no_fault None script is = cc
no_fault (Some file) script is = ap (script_fault file.content) is

module _ (doc : Document) (world : World) (is : world ≡ world_as doc) where
  of_test : (b : Bool) → have_references world.tables ≡ b
      → referring_of doc ≡ (if b then ending doc (start_fault doc) else Err Reference)
  of_test b refers =
      let same : is_referring doc ≡ b = ap (λ (w : World). have_references w.tables) (sym is) ∙ refers in
      ap (λ (b : Bool). if b then ending doc (start_fault doc) else Err Reference) same

  pub unreferring : have_references world.tables ≡ false → referring_of doc ≡ Err Reference
  unreferring lacks = of_test false lacks

  starts_badly : (fault : WorldFault) → have_references world.tables ≡ true
      → start_fault_of (start_of world.start world.files) ≡ Some fault → referring_of doc ≡ Err fault
  starts_badly fault refers stops =
      let start : start_fault doc ≡ Some fault = ap (λ (w : World). start_fault_of (start_of w.start w.files)) (sym is) ∙ stops in
      of_test true refers ∙ ap (ending doc) start

  pub stops_so : (stop : WorldStop) → have_references world.tables ≡ true
      → IsStopFor (start_fault_of (start_of world.start world.files)) stop → IsFaultOf (referring_of doc) stop
  stops_so (Fault fault) refers stops = starts_badly fault refers (sym stops)
  stops_so NoMemory refers stops = tt

  pub starts : (script : List Instr) → have_references world.tables ≡ true
      → script_in (start_of world.start world.files) ≡ Some script → referring_of doc ≡ Ok world
  starts script refers parsed =
      let none = no_fault (start_of world.start world.files) script parsed in
      let start : start_fault doc ≡ None = ap (λ (w : World). start_fault_of (start_of w.start w.files)) (sym is) ∙ none in
      of_test true refers ∙ ap (ending doc) start ∙ ap (λ (w : World). Ok w) (sym is)

pub ruleset referring_rules = (within_files, unreferring, stops_so, starts)
