-- A run that stops on its way and goes on, and the names of its tables.
use Rattle.std.proofs.Common.{◌≡◌, ℕ, zero, suc, ◌+◌, List, [], ◌∷◌, refl, sym, ap, ◌∙◌, Bool, true, false, arith, inl, inr}
use Rattle.std.specs.Prelude.{Option, Some, None, IsSome, bytes_eq, find, is_some, map, option_map}
use Rattle.std.specs.List.{list_any}
use Rattle.std.proofs.Math.Nat.{suc-add}
use Rattle.std.proofs.lemmas.Bool.{cases_Bool}
use Rattle.sql_model.specs.Needs.{table_name}
use Rattle.sql_model.specs.Scope.{is_table, same_text, table_at}
use Rattle.sql_model.specs.Texts.{statement_of}
use Rattle.run_model.specs.Core.{Divergence, is_over}
use Rattle.run_model.specs.Database.{Base}
use Rattle.run_model.specs.Package.{own_table}
use Rattle.run_model.specs.Run.{first_pick, later_picks, chosen, move, run, steps}
use Rattle.run_model.specs.Schedule.{choose}
use Rattle.run_model.specs.SqlDatabase.{SqlDatabase, sql_base}
use Rattle.run_model.specs.State.{State}
use Rattle.run_model.specs.Step.{Ask, next_ask, asking}
use Rattle.run_model.proofs.Equations.{run-zero, run-over, run-suc, steps-zero, steps-over, steps-suc}
use Rattle.run_laws.specs.Types.{PackedTable, Table}
use Rattle.run_laws.proofs.SqlAnswers.{never_diverged}
use Rattle.run_laws.proofs.StatementNames.{names_after}

-- ---- some steps, and then some more

module _ {Db : Type 0} (base : Base Db) where
  pub run_on : (n more : ℕ) (s : State Db) → run base (n + more) [] s ≡ run base more [] (run base n [] s)
  run_on zero more s =
      let all : 0 + more ≡ more = omega arith in
      ap (λ (k : ℕ). run base k [] s) all ∙ ap (λ (t : State Db). run base more [] t) (sym (run-zero base [] s))
  run_on (suc n) more s = elim (cases_Bool (is_over s.core)) [
    | inl over ↦
        run-over base (suc n + more) [] s over
        ∙ sym (run-over base more [] s over)
        ∙ ap (λ (t : State Db). run base more [] t) (sym (run-over base (suc n) [] s over))
    | inr going ↦
        let next : State Db = (move base None s).state in
        ap (λ (k : ℕ). run base k [] s) (suc-add n more)
        ∙ run-suc base (n + more) [] s going
        ∙ run_on n more next
        ∙ ap (λ (t : State Db). run base more [] t) (sym (run-suc base n [] s going))
  ]

  pub steps_on : (n more : ℕ) (s : State Db)
      → steps base (n + more) [] s ≡ steps base n [] s + steps base more [] (run base n [] s)
  steps_on zero more s =
      let all : 0 + more ≡ more = omega arith in
      let same : steps base more [] (run base 0 [] s) ≡ steps base more [] s =
      ap (λ (t : State Db). steps base more [] t) (run-zero base [] s) in
      omega (arith, ap (λ (k : ℕ). steps base k [] s) all, steps-zero base [] s, same)
  steps_on (suc n) more s = elim (cases_Bool (is_over s.core)) [
    | inl over ↦
        let same : steps base more [] (run base (suc n) [] s) ≡ steps base more [] s =
        ap (λ (t : State Db). steps base more [] t) (run-over base (suc n) [] s over) in
        omega
        (arith, steps-over base (suc n + more) [] s over, steps-over base (suc n) [] s over, steps-over base more [] s over, same)
    | inr going ↦
        let next : State Db = (move base None s).state in
        let all : steps base (suc n + more) [] s ≡ steps base (suc (n + more)) [] s =
        ap (λ (k : ℕ). steps base k [] s) (suc-add n more) in
        let same : steps base more [] (run base (suc n) [] s) ≡ steps base more [] (run base n [] next) =
        ap (λ (t : State Db). steps base more [] t) (run-suc base n [] s going) in
        omega
        (arith, all, steps-suc base (n + more) [] s going, steps-suc base n [] s going, steps_on n more next, same)
  ]

-- no step of a run over SQL stops for want of an answer
pub step_answered : (s : State SqlDatabase) → s.core.diverged ≡ None → is_over s.core ≡ false → (d : Divergence)
    → (move sql_base None s).state.core.diverged ≡ Some d → ⊥
step_answered s none going d is =
    let one : run sql_base 1 [] s ≡ (move sql_base None s).state =
    run-suc sql_base 0 [] s going ∙ run-zero sql_base [] (move sql_base None s).state in
    never_diverged 1 [] s none d (ap (λ (t : State SqlDatabase). t.core.diverged) one ∙ is)

-- ---- the names of the tables

asking_names : (number : ℕ) (s : State SqlDatabase) (o : Option Ask)
    → map table_name (asking sql_base number s o).state.db.tables ≡ map table_name s.db.tables
asking_names number s None = refl
asking_names number s (Some a) = names_after (statement_of a.question.text a.question.params) s.db.tables

move_names : (pick : Option ℕ) (s : State SqlDatabase)
    → map table_name (move sql_base pick s).state.db.tables ≡ map table_name s.db.tables
move_names pick s =
    let number : ℕ = choose pick s.core in
    asking_names number (chosen number s) (next_ask number (chosen number s).core)

run_names : (n : ℕ) (picks : List ℕ) (s : State SqlDatabase)
    → map table_name (run sql_base n picks s).db.tables ≡ map table_name s.db.tables
run_names zero picks s = ap (λ (t : State SqlDatabase). map table_name t.db.tables) (run-zero sql_base picks s)
run_names (suc n) picks s = elim (cases_Bool (is_over s.core)) [
  | inl over ↦ ap (λ (t : State SqlDatabase). map table_name t.db.tables) (run-over sql_base (suc n) picks s over)
  | inr going ↦
      ap (λ (t : State SqlDatabase). map table_name t.db.tables) (run-suc sql_base n picks s going)
      ∙ run_names n (later_picks picks) (move sql_base (first_pick picks) s).state
      ∙ move_names (first_pick picks) s
]

-- ---- a table of a name

abbrev is_among : List ℕ → List (List ℕ) → Bool
is_among name names = list_any (λ other. same_text other name) names

is_there : (name : List ℕ) (ts : List Table) → is_some (table_at name ts) ≡ is_among name (map table_name ts)
is_there name [] = refl
is_there name (t ∷ ts) = elim (cases_Bool (is_table name t)) [
  | inl hit ↦ rw hit refl
  | inr miss ↦ rw miss (is_there name ts)
]

abbrev pub first_or : Table → List Table → Table
first_or other [] = other
first_or other (t ∷ ts) = t

abbrev pub no_table : Table
no_table = record { name = []; schema = record { columns = []; key = []; foreign = [] }; rows = []; next = 0 }

-- one that is found where it is kept
pub kept_there : {X : Type 0} (f : X → Table) (test : X → Bool) (name : List ℕ) (xs : List X) (x : X)
    → ((y : X) → test y ≡ is_table name (f y)) → Some x ≡ find test xs
    → (t : Table) → f x ≡ t → table_at name (map f xs) ≡ Some t
kept_there f test name [] x tests is t same = absurd cc
kept_there f test name (y ∷ ys) x tests is t same = elim (cases_Bool (test y)) [
  | inl hit ↦
      let here : is_table name (f y) ≡ true = sym (tests y) ∙ hit in
      let first : Some x ≡ Some y = rw hit at is in
      rw here (ap (option_map f) (sym first) ∙ ap Some same)
  | inr miss ↦
      let other : is_table name (f y) ≡ false = sym (tests y) ∙ miss in
      let later : Some x ≡ find test ys = rw miss at is in
      rw other (kept_there f test name ys x tests later t same)
]

pub kept_not : {X : Type 0} (f : X → Table) (test : X → Bool) (name : List ℕ) (xs : List X)
    → ((y : X) → test y ≡ is_table name (f y)) → None ≡ find test xs
    → IsSome (table_at name (map f xs)) → ⊥
kept_not f test name [] tests is there = cc
kept_not f test name (y ∷ ys) tests is there = elim (cases_Bool (test y)) [
  | inl hit ↦ let first : None ≡ Some y = rw hit at is in cc
  | inr miss ↦
      let other : is_table name (f y) ≡ false = sym (tests y) ∙ miss in
      let later : None ≡ find test ys = rw miss at is in
      kept_not f test name ys tests later (rw other at there)
]

-- no run loses one
pub there_after : (name : List ℕ) (n : ℕ) (s : State SqlDatabase) → IsSome (table_at name s.db.tables)
    → IsSome (table_at name (run sql_base n [] s).db.tables)
there_after name n s there =
    is_there name (run sql_base n [] s).db.tables
    ∙ ap (is_among name) (run_names n [] s)
    ∙ sym (is_there name s.db.tables)
    ∙ there

-- one of a package is one of its own world
pub own_there : (name : List ℕ) (ts : List PackedTable) → list_any (λ (t : PackedTable). bytes_eq t.name name) ts ≡ true
    → IsSome (table_at name (map own_table ts))
own_there name [] there = absurd cc
own_there name (t ∷ ts) there = elim (cases_Bool (bytes_eq t.name name)) [
  | inl hit ↦ rw hit refl
  | inr miss ↦ let later : list_any (λ (u : PackedTable). bytes_eq u.name name) ts ≡ true = rw miss at there in rw miss (own_there name ts later)
]
