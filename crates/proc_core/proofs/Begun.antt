-- A run that begins, by its start words.
use Rattle.std.proofs.Common.{◌≡◌, ℕ, ◌≤◌, List, [], ◌∷◌, length, get_or, take, drop, refl, sym, ap, ◌∙◌, ◌-◌, subst, Bool, arith}
use Rattle.std.proofs.lemmas.List.{take_rest}
use Rattle.std.specs.Prelude.{Some, slice_get, option_and_then}
use Rattle.ldv_value.specs.FileState.{FileState, content_at, initial_files}
use Rattle.script_parse.specs.Script.{script_of}
use Rattle.proc_core.specs.Types.{File, Instr, Event}
use Rattle.run_model.specs.Core.{start_core}
use Rattle.run_model.specs.Events.{event_at, start_events}
use Rattle.run_model.specs.RunLaw.{start_state_of}
use Rattle.proc_core.specs.inner.Acts.{path_act}
use Rattle.proc_core.specs.declared.machine.Machine.{Machine}
use Rattle.proc_core.specs.declared.tell.PathAct.TheVariants as kinds
use Rattle.proc_core.specs.Running.{Stands, IsReady}
use Rattle.proc_core.specs.Stands.{IsCore, IsStartScript, AppendsEvents}

module _ {Db : Type 0} (m : Machine) (db : Db) (path : List ℕ) (words : List (List ℕ)) (seed : ℕ) (tree : FileState)
    (core : (script : List Instr) (files : List File) → tree ≡ initial_files files → option_and_then script_of (content_at tree path) ≡ Some script
    → IsCore m (start_core (path ∷ words) seed files script))
    (ready : (script : List Instr) (files : List File) → IsReady m (start_core (path ∷ words) seed files script)) where
  abbrev pub Begins : List (List ℕ) → Type 0
  Begins start =
      (script : List Instr) (files : List File) → tree ≡ initial_files files → IsStartScript start tree script
      → Stands m db (start_state_of start seed files script db)

  pub begins : (start : List (List ℕ)) → start ≡ path ∷ words → Begins start
  begins start is =
      let here : Begins (path ∷ words) = λ script files same by. record { state = (core script files same by, refl); ready = ready script files } in
      subst Begins (sym is) here

pub begins_told : (start : List (List ℕ)) (path : List ℕ) (words : List (List ℕ)) (keeps : Bool) (old new : List Event) → start ≡ path ∷ words
    → AppendsEvents keeps old new (event_at 0 0 (path_act kinds.Started path) ∷ []) → AppendsEvents keeps old new (start_events (slice_get start 0))
begins_told start path words keeps old new is told =
    subst (λ (l : List (List ℕ)). AppendsEvents keeps old new (start_events (slice_get l 0))) (sym is) told

-- a list by its first item, as a slice pattern has the others
pub parted : (xs : List (List ℕ)) (x : List ℕ) → 1 ≤ length xs → x ≡ get_or xs 0 x → xs ≡ x ∷ take (length xs - 1) (drop 1 xs)
parted [] x some is = absurd (omega (arith, some))
parted (y ∷ ys) x some is = (λ i. sym is i ∷ ys) ∙ ap (λ (l : List (List ℕ)). x ∷ l) (sym (take_rest (y ∷ ys) 1))
