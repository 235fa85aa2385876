-- The state in which a run begins.
use Rattle.std.proofs.Common.{◌≡◌, ℕ, zero, suc, List, [], ◌∷◌, length, map, refl, sym, ap, ◌∙◌, subst, Bool, true}
use Rattle.std.specs.Prelude.{Option, Some, None, slice_get, is_some, option_and_then, IsSome}
use Rattle.std.specs.List.{AllByRecursion}
use Rattle.ldv_value.specs.FileState.{FileState, content_at, initial_files}
use Rattle.ldv_value.proofs.Options.{same-some}
use Rattle.script_parse.specs.Script.{script_of}
use Rattle.script_code.specs.declared.code.Code.{Code}
use Rattle.script_code.specs.Resolved.{IsCode}
use Rattle.proc_core.proofs.FlagLaws.{new_runs}
use Rattle.proc_core.specs.Types.{File, Instr, Text}
use Rattle.run_model.specs.Core.{Process, new_process, start_core}
use Rattle.run_model.specs.RunLaw.{start_state_of}
use Rattle.proc_core.specs.declared.machine.Machine.{Machine}
use Rattle.proc_core.specs.declared.process.SlotProcess.{SlotProcess}
use Rattle.proc_core.specs.Running.{Stands, IsKin, IsReady}
use Rattle.proc_core.specs.Stands.{Holds, AreProcesses, HasStartScript, IsCore, IsStartScript}

module _ (m : Machine) (path : List ℕ) (words : List (List ℕ)) (seed : ℕ) (files : List File) (script : List Instr) where
  abbrev first : Process
  first = new_process (0 ∷ []) script (map Text words)

  pub started_core : (code : Code) (r : SlotProcess) → m.codes ≡ code ∷ [] → m.processes.items ≡ r ∷ [] → IsCode code script
      → Holds code.scope 0 script r (new_process (0 ∷ []) script (map Text words)) → m.tree ≡ initial_files files → m.seed ≡ seed → m.last ≡ 0
      → m.generator ≡ seed → m.asked ≡ 0 → IsCore m (start_core (path ∷ words) seed files script)
  started_core code r codes items coded held tree seeds last x asked =
      let all : AreProcesses (code ∷ []) (r ∷ []) (first ∷ []) = ((0, script, code, refl, coded, held), tt) in
      record {
        files = tree;
        processes = subst (λ (l : List SlotProcess). AreProcesses m.codes l (first ∷ [])) (sym items)
            (subst (λ (k : List Code). AreProcesses k (r ∷ []) (first ∷ [])) (sym codes) all);
        seed = seeds;
        last = last;
        generator = x;
        asked = asked;
        going = refl;
      }

  kin_first : (k : ℕ) (p : Process) → slice_get (first ∷ []) k ≡ Some p → AllByRecursion (IsKin m.parents k) p.children
  kin_first zero p at = let same : first ≡ p = cc in subst (λ (q : Process). AllByRecursion (IsKin m.parents 0) q.children) same tt
  kin_first (suc k) p at = absurd cc

  pub started_ready : m.ready.flags ≡ true ∷ [] → m.parents ≡ 0 ∷ [] → IsReady m (start_core (path ∷ words) seed files script)
  started_ready flags parents = record {
    flags = flags ∙ ap (λ (b : Bool). b ∷ []) (sym (new_runs (first ∷ []) (0 ∷ []) script (map Text words)));
    count = ap length parents;
    kin = kin_first;
  }

  pub begun : {Db : Type 0} (db : Db) (tree : FileState)
      → ((script : List Instr) (files : List File) → tree ≡ initial_files files → option_and_then script_of (content_at tree path) ≡ Some script
      → IsCore m (start_core (path ∷ words) seed files script))
      → ((script : List Instr) (files : List File) → IsReady m (start_core (path ∷ words) seed files script))
      → tree ≡ initial_files files → IsStartScript (path ∷ words) tree script → Stands m db (start_state_of (path ∷ words) seed files script db)
  begun db tree core ready same is = record { state = (core script files same is, refl); ready = ready script files }

-- ---- the script of a file

pub script_there : (bytes : List ℕ) (o : Option (List ℕ)) (script : List Instr) → Some bytes ≡ o → script_of bytes ≡ Some script
    → option_and_then script_of o ≡ Some script
script_there bytes o script at is = ap (option_and_then script_of) (sym at) ∙ is

pub parsed_there : (bytes : List ℕ) (o : Option (List ℕ)) (script : List Instr) → Some bytes ≡ o → option_and_then script_of o ≡ Some script
    → script_of bytes ≡ Some script
parsed_there bytes o script at is = ap (option_and_then script_of) at ∙ is

-- no file has none
pub parsed_absent : (o : Option (List ℕ)) (script : List Instr) → None ≡ o → option_and_then script_of o ≡ Some script → ⊥
parsed_absent o script at is = let never : None ≡ Some script = ap (option_and_then script_of) at ∙ is in cc

pub code_due : (o : Option (List ℕ)) (script : List Instr) (code : Code) (due : List Instr) → IsCode code script
    → option_and_then script_of o ≡ Some script → option_and_then script_of o ≡ Some due → IsCode code due
code_due o script code due coded at is =
    let both : Some script ≡ Some due = sym at ∙ is in
    subst (IsCode code) (same-some script due both) coded

-- ---- the script of the file at the first start word

pub first_there : (path : List ℕ) (words start : List (List ℕ)) (tree : FileState) → start ≡ path ∷ words → HasStartScript start tree
    → IsSome (option_and_then script_of (content_at tree path))
first_there path words start tree is has =
    let here : HasStartScript (path ∷ words) tree = subst (λ (l : List (List ℕ)). HasStartScript l tree) is has in
    ap (λ (o : Option (List Instr)). is_some o) here.1

pub first_parsed : (path : List ℕ) (words start : List (List ℕ)) (tree : FileState) (script : List Instr) → start ≡ path ∷ words
    → IsStartScript start tree script → option_and_then script_of (content_at tree path) ≡ Some script
first_parsed path words start tree script is parsed = subst (λ (l : List (List ℕ)). IsStartScript l tree script) is parsed

pub first_found : (path : List ℕ) (words start : List (List ℕ)) (tree : FileState) (script : List Instr) → start ≡ path ∷ words
    → option_and_then script_of (content_at tree path) ≡ Some script → IsStartScript start tree script
first_found path words start tree script is found = subst (λ (l : List (List ℕ)). IsStartScript l tree script) (sym is) found
