-- The law of `join` and `replay --run`.
use Rattle.std.specs.Prelude.{◌≡◌, ◌≤◌, ℕ, List, [], ◌++◌, length, true, IsTrue}
use Rattle.ldv_value.specs.Limits.{input_limit, max_steps}
use Rattle.run_model.specs.declared.package.Mode.TheVariants.{Included}
use Rattle.run_model.specs.declared.package.Package.{Package}
use Rattle.run_model.specs.declared.world.World.{World}
use Rattle.run_model.specs.Package.{package_of}
use Rattle.run_model.specs.ValidWorld.{ValidWorld}
use Rattle.run_model.specs.WorldRun.{ends_within, steps_by}
use Rattle.joined_data.specs.declared.joined.Joined.{Joined}
use Rattle.joined_data.specs.declared.joined.Which.{Which}
use Rattle.joined_data.specs.declared.joined.Which.TheVariants.{First, Second}
use Rattle.joined_data.specs.Joined.{put_together}
use Rattle.package_join.specs.Layout.{joined_spelling}
use Rattle.joined_data.specs.Rooms.{IsTypedJoined}
use Rattle.package_join.specs.Valid.{IsValidJoined}
use Rattle.package_join.specs.Worlds.{joined_world}
use Rattle.package_codec.specs.Fields.{text_spelling}
use Rattle.package_codec.specs.Plain.{fits_version}
use Rattle.package_codec.specs.declared.version.Version.{Version}
use Rattle.package_layout.specs.Whole.{spelling_as}
use Rattle.ldv_top.specs.Due.{due_replay_run, due_world}
use Rattle.ldv_top.specs.DueOfJoins.{due_join}
use Rattle.ldv_top.specs.DueParts.{DueOutput, due_spelling}

-- Two valid worlds with the same files and tables, whatever their starts and seeds, whose runs end within
-- their budgets.
pub record AreTwo (n m : ℕ) (v w : World) : Type 0 where
  pub first_valid : ValidWorld v
  pub second_valid : ValidWorld w
  pub files : v.files ≡ w.files
  pub tables : v.tables ≡ w.tables
  pub first_bounded : n ≤ max_steps
  pub second_bounded : m ≤ max_steps
  pub first_ends : ends_within n v ≡ true
  pub second_ends : ends_within m w ≡ true

abbrev pub included_of : ℕ → World → Package
included_of n w = package_of Included n w

-- what their included packages are joined to
abbrev pub two_joined : ℕ → ℕ → World → World → Joined
two_joined n m v w = put_together (included_of n v) (included_of m w)

-- a package's bytes in a version that has all of it
pub record IsInVersion («package» : Package) (bytes : List ℕ) : Type 0 where
  pub version : Version
  pub fits : IsTrue (fits_version version «package»)
  pub short : length bytes ≤ input_limit
  pub same : bytes ≡ spelling_as version «package»

-- The input is their included packages, each with its length before it. Either may be of either version.
pub record IsPair (n m : ℕ) (v w : World) (input : List ℕ) : Type 0 where
  pub two : AreTwo n m v w
  pub first_bytes : List ℕ
  pub second_bytes : List ℕ
  pub first : IsInVersion (included_of n v) first_bytes
  pub second : IsInVersion (included_of m w) second_bytes
  pub same : input ≡ text_spelling first_bytes ++ text_spelling second_bytes
  pub short : length input ≤ input_limit

-- the input is what they are joined to
pub record IsJoinOf (n m : ℕ) (v w : World) (input : List ℕ) : Type 0 where
  pub two : AreTwo n m v w
  pub same : input ≡ joined_spelling (two_joined n m v w)
  pub short : length input ≤ input_limit

-- the input is a valid joined package
pub record IsJoinedInput (j : Joined) (input : List ℕ) : Type 0 where
  pub typed : IsTypedJoined j
  pub valid : IsValidJoined j
  pub same : input ≡ joined_spelling j
  pub short : length input ≤ input_limit

-- of one of two
abbrev pub chosen_of : {X : Type 0} → Which → X → X → X
chosen_of First a b = a
chosen_of Second a b = b

abbrev pub its_steps : Which → ℕ → ℕ → World → World → ℕ
its_steps which n m v w = chosen_of which (steps_by n [] v) (steps_by m [] w)

-- what is due for `run` of the world of a run
abbrev pub its_due : Which → ℕ → ℕ → World → World → DueOutput
its_due which n m v w = chosen_of which (due_world n v) (due_world m w)

-- ---- for all such worlds

abbrev pub PairLaw : Type 0
PairLaw = (n m : ℕ) (v w : World) (input : List ℕ) → IsPair n m v w input
    → due_join input ≡ due_spelling (joined_spelling (two_joined n m v w))

abbrev pub TwoRunsLaw : Type 0
TwoRunsLaw = (which : Which) (n m budget : ℕ) (v w : World) (input : List ℕ) → IsJoinOf n m v w input
    → its_steps which n m v w ≤ budget → due_replay_run which budget input ≡ its_due which n m v w

abbrev pub AnyJoinedLaw : Type 0
AnyJoinedLaw = (which : Which) (budget : ℕ) (j : Joined) (input : List ℕ) → IsJoinedInput j input
    → due_replay_run which budget input ≡ due_world budget (joined_world which j)
