-- The law of `record` and `replay`.
use Rattle.std.specs.Prelude.{◌≡◌, ◌≤◌, ℕ, List, [], length, true, Ok, IsTrue, codes}
use Rattle.ldv_value.specs.Limits.{input_limit, max_steps}
use Rattle.run_model.specs.declared.package.Mode.{Mode}
use Rattle.run_model.specs.declared.package.Mode.TheVariants.{Included}
use Rattle.run_model.specs.declared.world.World.{World}
use Rattle.run_model.specs.Package.{package_of}
use Rattle.run_model.specs.WorldRun.{ends_within, steps_by}
use Rattle.package_codec.specs.Plain.{fits_version}
use Rattle.package_codec.specs.declared.version.Version.{Version}
use Rattle.package_layout.specs.Valid.{reading}
use Rattle.package_layout.specs.Whole.{spelling, spelling_as}
use Rattle.replay_db.specs.Worlds.{ValidWorld}
use Rattle.world_json.specs.Reading.{world_reading}
use Rattle.ldv_top.specs.Due.{due_run, due_replay}
use Rattle.ldv_top.specs.DueOfAudits.{due_audit}
use Rattle.ldv_top.specs.DueParts.{due_bytes}
use Rattle.ldv_top.specs.declared.exit.Exit.TheVariants.{Done}

-- The input is the package of a valid world whose run ends within a budget, in a version that has all of it.
-- Version 2 has all of every package.
pub record IsPackageOf (mode : Mode) (budget : ℕ) (w : World) (input : List ℕ) : Type 0 where
  pub valid : ValidWorld w
  pub bounded : budget ≤ max_steps
  pub ends : ends_within budget w ≡ true
  pub version : Version
  pub fits : IsTrue (fits_version version (package_of mode budget w))
  pub short : length (spelling_as version (package_of mode budget w)) ≤ input_limit
  pub same : input ≡ spelling_as version (package_of mode budget w)

-- The bytes are what record writes of a document: the package of the document's world. They are read back as
-- that package, whole: its files, tables and rows are exactly those that the run needed, each row with the
-- first statement that needed it and its rule; an excluded one has no table, and exactly what each process
-- asked, with the replies. Its replay within at least the steps of that run, which are within its budget,
-- gives what run gives, and its audit within as many finds one with the needed rows sound.
pub record IsRecording (mode : Mode) (budget : ℕ) (document bytes : List ℕ) : Type 0 where
  pub world : World
  pub is_world : world_reading document ≡ Ok world
  pub spelled : bytes ≡ spelling (package_of mode budget world)
  pub read_back : reading bytes ≡ Ok (package_of mode budget world)
  pub within : steps_by budget [] world ≤ budget
  pub replayed : (steps : ℕ) → steps_by budget [] world ≤ steps → due_replay steps bytes
      ≡ due_run budget document
  pub ends : (due_run budget document).exit ≡ Done
  -- one with the needed rows is found sound
  pub sound : mode ≡ Included → (steps : ℕ) → steps_by budget [] world ≤ steps
      → due_audit steps bytes ≡ due_bytes (codes "sound\n")
