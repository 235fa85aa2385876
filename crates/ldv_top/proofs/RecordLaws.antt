-- The results of recording a world.
use Rattle.std.proofs.Common.{◌≡◌, ℕ, ◌≤◌, ◌<◌, List, length, refl, sym, ap, ◌∙◌, true, false, arith, inl, inr}
use Rattle.std.specs.Prelude.{Some, None, Result, Ok, Err, OnOk}
use Rattle.std.proofs.lemmas.Bool.{cases_Bool}
use Rattle.std.proofs.lemmas.Bool.Decides.{nat_tests}
use Rattle.ldv_value.specs.Limits.{input_limit}
use Rattle.run_model.specs.declared.package.Mode.{Mode}
use Rattle.run_model.specs.declared.package.Package.{Package}
use Rattle.run_model.specs.declared.world.World.{World}
use Rattle.run_model.specs.Package.{package_of}
use Rattle.run_model.specs.WorldRun.{ends_within}
use Rattle.package_layout.specs.Whole.{spelling}
use Rattle.replay_db.specs.Runs.{package_within}
use Rattle.run_laws.proofs.BudgetLaw.{ended_outcome, going_outcome}
use Rattle.replay_db.proofs.RecordedRuns.{package_is, package_none}
use Rattle.ldv_top.specs.declared.exit.Exit.TheVariants.{Done, NotEnded, PackageTooLong}
use Rattle.ldv_top.specs.Due.{DueOutput, due_refusal, due_bytes, due_outcome, is_too_long, due_spelling, package_due, recorded_world}

-- ---- the limit of a spelling

pub not_too_long : (bytes : List ℕ) → length bytes ≤ input_limit → is_too_long bytes ≡ false
not_too_long bytes short = grind (arith, nat_tests)

pub too_long : (bytes : List ℕ) → input_limit < length bytes → is_too_long bytes ≡ true
too_long bytes long = grind (arith, nat_tests)

pub spelled_whole : (bytes : List ℕ) → length bytes ≤ input_limit → due_spelling bytes ≡ due_bytes bytes
spelled_whole bytes short = rw (not_too_long bytes short) refl

pub spelled_long : (bytes : List ℕ) → input_limit < length bytes → due_spelling bytes ≡ due_refusal PackageTooLong
spelled_long bytes long = rw (too_long bytes long) refl

pub ruleset spelling_ends = (spelled_whole, spelled_long)

pub not_long : (bytes : List ℕ) → is_too_long bytes ≡ false → length bytes ≤ input_limit
not_long bytes is = grind (arith, nat_tests)

-- bytes that are due are the spelling, within the limit
abbrev pub Spelled : DueOutput → List ℕ → Type 0
Spelled due bytes = (length bytes ≤ input_limit) × (due.bytes ≡ bytes)

pub spelling_done : (bytes : List ℕ) → (due_spelling bytes).exit ≡ Done → Spelled (due_spelling bytes) bytes
spelling_done bytes done = elim (cases_Bool (is_too_long bytes)) [
  | inl long ↦ let never : PackageTooLong ≡ Done = rw long at done in cc
  | inr short ↦ (not_long bytes short, rw short refl)
]

-- ---- the package of a run

-- a package that is there is that of a run that has ended
pub recorded_in_time : (mode : Mode) (n : ℕ) (w : World) (p : Package) → package_within mode n w ≡ Some p
    → due_spelling (spelling p) ≡ recorded_world mode n w
recorded_in_time mode n w p is = elim (cases_Bool (ends_within n w)) [
  | inr going ↦ let never : None ≡ Some p = sym (package_none mode n w going) ∙ is in absurd cc
  | inl ended ↦
      let both : Some p ≡ Some (package_of mode n w) = sym is ∙ package_is mode n w ended in
      let same : p ≡ package_of mode n w = cc in
      let outcome = ended_outcome n w ended in
      ap (λ (q : Package). due_spelling (spelling q)) same ∙ sym (ap (due_outcome n (package_due mode n w)) outcome.1)
]

pub recorded_late : (mode : Mode) (n : ℕ) (w : World) → package_within mode n w ≡ None
    → due_refusal (NotEnded n) ≡ recorded_world mode n w
recorded_late mode n w is = elim (cases_Bool (ends_within n w)) [
  | inl ended ↦ let never : None ≡ Some (package_of mode n w) = sym is ∙ package_is mode n w ended in absurd cc
  | inr going ↦ sym (ap (due_outcome n (package_due mode n w)) (going_outcome n w going))
]

-- what holds whatever a call gives
pub whatever : {A E P : Type 0} (r : Result A E) → P → OnOk r P
whatever (Ok x) holds = holds
whatever (Err x) holds = tt
