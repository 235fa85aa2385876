-- Replaying each run of a joined package gives the outcome of its world's run.
use Rattle.std.proofs.Common.{◌≡◌, ℕ, ◌≤◌, List, [], ◌++◌, length, refl, sym, ap, ◌∙◌, subst, true, arith, append-nil}
use Rattle.std.specs.Prelude.{Some, Ok}
use Rattle.ldv_value.specs.Limits.{input_limit, max_steps}
use Rattle.run_model.proofs.ValidWorlds.{valid_runs}
use Rattle.run_model.specs.Between.{Between}
use Rattle.run_model.specs.ValidWorld.{ValidWorld}
use Rattle.run_model.specs.WorldRun.{ends_within, outcome_within, steps_by}
use Rattle.run_model.specs.declared.package.Mode.TheVariants.{Included}
use Rattle.run_model.specs.declared.package.Package.{Package}
use Rattle.run_model.specs.declared.world.World.{World}
use Rattle.run_laws.proofs.BudgetLaw.{ended_outcome, enough_outcome}
use Rattle.run_laws.proofs.EndedLaw.{ended_starts}
use Rattle.run_laws.specs.Laws.{BetweenLaw, SameRun}
use Rattle.package_codec.proofs.Numbers.{sized_law}
use Rattle.package_codec.specs.Fields.{sized_at, text_spelling}
use Rattle.package_layout.specs.Valid.{IsValidPackage, reading}
use Rattle.package_layout.specs.Whole.{IsTyped}
use Rattle.package_join.proofs.TypedJoins.{together_typed}
use Rattle.joined_data.specs.declared.joined.Joined.{Joined}
use Rattle.joined_data.specs.declared.joined.Which.{Which}
use Rattle.joined_data.specs.declared.joined.Which.TheVariants.{First, Second}
use Rattle.package_join.specs.Laws.{IsJoined, JoinLaw, RoundTripLaw, ValidLaw}
use Rattle.package_join.specs.Layout.{joined_spelling}
use Rattle.package_join.specs.Valid.{IsValidJoined, joined_reading}
use Rattle.package_join.specs.Worlds.{joined_world}
use Rattle.replay_db.specs.Worlds.{WorldTablesLaw, ValidPackageLaw, TypedPackageLaw}
use Rattle.ldv_top.specs.Due.{due_world}
use Rattle.ldv_top.specs.DueOfJoins.{due_join_bytes, pair_in}
use Rattle.ldv_top.specs.TwoRuns.{AnyJoinedLaw, AreTwo, IsInVersion, PairLaw, TwoRunsLaw, included_of, its_due, its_steps, two_joined}
use Rattle.ldv_top.proofs.HeadlineLaw.{same_due}
use Rattle.ldv_top.proofs.JoinResponses.{both_found, pair_due, pair_read, run_due}
use Rattle.ldv_top.proofs.ReadBack.{ReadAgain, ShortCounted, read_back}

-- ---- the input of both

two_read : (first second : List ℕ) → length first ≤ input_limit → length second ≤ input_limit
    → pair_in (text_spelling first ++ text_spelling second) ≡ Some (first, second)
two_read first second one two =
    let a : sized_at (text_spelling first ++ text_spelling second) ≡ Some (first, text_spelling second) =
    sized_law.again first (text_spelling second) tt refl (omega (arith, one)) in
    let b : sized_at (text_spelling second ++ []) ≡ Some (second, []) = sized_law.again second [] tt refl (omega (arith, two)) in
    let c : sized_at (text_spelling second) ≡ Some (second, []) = ap sized_at (sym (append-nil (text_spelling second))) ∙ b in
    sym (both_found (text_spelling first ++ text_spelling second) first (text_spelling second) second [] a c refl)

module _ (again : ReadAgain) (counted : ShortCounted) (valid : ValidPackageLaw) (typed : TypedPackageLaw) (valid_tables : WorldTablesLaw)
    (between : BetweenLaw) (join : JoinLaw) (valid_joined : ValidLaw) (round_trip : RoundTripLaw) where
  -- ---- one of the two worlds

  module _ (n : ℕ) (w : World) (valid_world : ValidWorld w) (bounded : n ≤ max_steps) (ended : ends_within n w ≡ true) where
    pub package_valid : IsValidPackage (included_of n w)
    package_valid = valid Included n w valid_world.ruled (valid_tables w valid_world) tt bounded ended

    pub package_typed : IsTyped (included_of n w)
    package_typed = typed Included n w valid_world bounded ended

    pub package_read : (bytes : List ℕ) → IsInVersion (included_of n w) bytes → reading bytes ≡ Ok (included_of n w)
    package_read bytes is =
        ap reading is.same
        ∙ read_back again counted valid typed valid_tables Included n w valid_world bounded ended is.version is.fits
        (subst (λ (l : List ℕ). length l ≤ input_limit) is.same is.short)

    -- a world between runs as it does
    pub between_due : (v : World) (budget : ℕ) → Between n v w → steps_by n [] w ≤ budget → due_world budget v ≡ due_world n w
    between_due v budget lies enough =
        let script = ended_starts n [] w ended in
        let comes = ended_outcome n w ended in
        let same : SameRun n [] v w script.0 = between n w v script.0 script.1 (valid_tables w valid_world) lies in
        let steps : steps_by n [] v ≤ budget = subst (λ (k : ℕ). k ≤ budget) (sym (ap (λ (p : Package). p.steps) (same.packed Included))) enough in
        let in_v : outcome_within budget v ≡ Some comes.0 = enough_outcome n v (same.ends ∙ ended) budget steps ∙ same.outcome ∙ comes.1 in
        same_due budget n v w comes.0 in_v comes.1

  -- ---- both

  module _ (n m : ℕ) (v w : World) (two : AreTwo n m v w) where
    pub joined_two : IsJoined n m v w
    joined_two =
        join n m v w two.files two.tables (valid_runs v two.first_valid).files (valid_tables v two.first_valid)

    pub two_valid : IsValidJoined (two_joined n m v w)
    two_valid =
        valid_joined (included_of n v) (included_of m w) (two_joined n m v w)
        (package_valid n v two.first_valid two.first_bounded two.first_ends) (package_valid m w two.second_valid two.second_bounded two.second_ends)
        refl refl joined_two.joined

    pub two_again : length (joined_spelling (two_joined n m v w)) ≤ input_limit → joined_reading (joined_spelling (two_joined n m v w)) ≡ Ok (two_joined n m v w)
    two_again short =
        round_trip (two_joined n m v w)
        (together_typed (included_of n v) (included_of m w) (package_typed n v two.first_valid two.first_bounded two.first_ends)
        (package_typed m w two.second_valid two.second_bounded two.second_ends)) two_valid short

    pub run_of_two : (which : Which) (budget : ℕ) → its_steps which n m v w ≤ budget
        → due_world budget (joined_world which (two_joined n m v w)) ≡ its_due which n m v w
    run_of_two First budget enough = between_due n v two.first_valid two.first_bounded two.first_ends (joined_world First (two_joined n m v w)) budget joined_two.first enough
    run_of_two Second budget enough = between_due m w two.second_valid two.second_bounded two.second_ends (joined_world Second (two_joined n m v w)) budget joined_two.second enough

  pub pair_law : PairLaw
  pair_law n m v w input pair =
      let a : Package = included_of n v in
      let b : Package = included_of m w in
      let two = pair.two in
      let p : List ℕ = pair.first_bytes in
      let q : List ℕ = pair.second_bytes in
      let first : reading p ≡ Ok a = package_read n v two.first_valid two.first_bounded two.first_ends p pair.first in
      let second : reading q ≡ Ok b = package_read m w two.second_valid two.second_bounded two.second_ends q pair.second in
      let found : pair_in input ≡ Some (p, q) = ap pair_in pair.same ∙ two_read p q pair.first.short pair.second.short in
      sym (pair_due input a b pair.short (pair_read input p q a b found first second))
      ∙ ap due_join_bytes (joined_two n m v w two).joined

  pub two_runs_law : TwoRunsLaw
  two_runs_law which n m budget v w input is enough =
      let J : Joined = two_joined n m v w in
      let short : length (joined_spelling J) ≤ input_limit = subst (λ (l : List ℕ). length l ≤ input_limit) is.same is.short in
      let read : joined_reading input ≡ Ok J = ap joined_reading is.same ∙ two_again n m v w is.two short in
      sym (run_due which budget J input is.short read) ∙ run_of_two n m v w is.two which budget enough

  pub any_joined_law : AnyJoinedLaw
  any_joined_law which budget j input is =
      let short : length (joined_spelling j) ≤ input_limit = subst (λ (l : List ℕ). length l ≤ input_limit) is.same is.short in
      let read : joined_reading input ≡ Ok j = ap joined_reading is.same ∙ round_trip j is.typed is.valid short in
      sym (run_due which budget j input is.short read)
