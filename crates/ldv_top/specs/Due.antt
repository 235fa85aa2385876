-- The due output for words and an input: an exit, and the bytes that are written if it is Done.
use Rattle.std.specs.Prelude.{ℕ, List, [], if◌then◌else◌, Option, Some, None, Result, Ok, Err}
use Rattle.run_model.specs.declared.outcome.Outcome.{Outcome}
use Rattle.run_model.specs.declared.package.Mode.{Mode}
use Rattle.run_model.specs.declared.package.Mode.TheVariants.{Included, Excluded}
use Rattle.run_model.specs.declared.package.Package.{Package}
use Rattle.run_model.specs.declared.world.World.{World}
use Rattle.run_model.specs.OutcomeText.{outcome_text_of}
use Rattle.run_model.specs.Package.{package_of, own_world}
use Rattle.run_model.specs.Core.{Divergence as DivergedAt}
use Rattle.run_model.specs.LogRun.{log_outcome, log_divergence}
use Rattle.free_order.specs.OtherSeed.{is_free}
use Rattle.joined_data.specs.declared.joined.Joined.{Joined}
use Rattle.joined_data.specs.declared.joined.Which.{Which}
use Rattle.package_join.specs.Valid.{joined_reading}
use Rattle.package_join.specs.Worlds.{joined_world}
use Rattle.package_layout.specs.declared.damage.DamageKind.{DamageKind}
use Rattle.package_layout.specs.Whole.{spelling}
use Rattle.replay_log.specs.Replays.{with_seed}
use Rattle.world_json.specs.Reading.{world_reading}
use Rattle.world_json.specs.declared.fault.WorldFault.{WorldFault}
use Rattle.ldv_top.specs.declared.response.Response.{Response}
use Rattle.ldv_top.specs.declared.response.Response.TheVariants as responses
use Rattle.ldv_top.specs.declared.command.Command.{Command}
use Rattle.ldv_top.specs.declared.command.Command.TheVariants.{Run, Record, Replay, ReplaySeed, Audit, Table}
use Rattle.ldv_top.specs.declared.command.Command.TheVariants.{Inspect, Generate, Migrate, Prov, ProvDepends}
use Rattle.ldv_top.specs.declared.command.Command.TheVariants.{Join, ReplayRun}
use Rattle.ldv_top.specs.declared.exit.Exit.TheVariants.{Usage, TooLong, NotWorld, NotEnded, Damaged}
use Rattle.ldv_top.specs.declared.exit.Exit.TheVariants.{Diverged, NoSuch, PackageTooLong, NotPrivate}
use Rattle.ldv_top.specs.declared.exit.Exit.TheVariants.{NotProv, Clash}
use Rattle.ldv_top.specs.DueOfAudits.{due_audit}
use Rattle.ldv_top.specs.DueOfGenerate.{due_generate}
use Rattle.ldv_top.specs.DueOfJoins.{due_join}
use Rattle.ldv_top.specs.DueOfMigrations.{due_migrate}
use Rattle.ldv_top.specs.DueOfProv.{due_prov, due_prov_depends}
use Rattle.ldv_top.specs.DueOfReports.{due_inspect}
use Rattle.ldv_top.specs.DueOfTables.{due_table}
use Rattle.ldv_top.specs.Words.{command_of}
pub use Rattle.ldv_top.specs.DueParts.{DueOutput, due_refusal, due_bytes, due_outcome, due_of_run, due_of_package}
pub use Rattle.ldv_top.specs.DueParts.{due_spelling, is_too_long}

-- ---- run: the outcome

abbrev pub outcome_due : Outcome → DueOutput
outcome_due outcome = due_bytes (outcome_text_of outcome)

abbrev pub due_world : ℕ → World → DueOutput
due_world budget w = due_of_run budget w outcome_due

abbrev pub due_reading : ℕ → Result World WorldFault → DueOutput
due_reading budget (Ok w) = due_world budget w
due_reading budget (Err fault) = due_refusal (NotWorld fault)

abbrev pub due_run : ℕ → List ℕ → DueOutput
due_run budget input = if is_too_long input then due_refusal TooLong
    else due_reading budget (world_reading input)

-- ---- record: the package of the run

abbrev pub package_due : Mode → ℕ → World → Outcome → DueOutput
package_due mode budget w outcome = due_spelling (spelling (package_of mode budget w))

abbrev pub recorded_world : Mode → ℕ → World → DueOutput
recorded_world mode budget w = due_of_run budget w (package_due mode budget w)

abbrev pub recorded_reading : Mode → ℕ → Result World WorldFault → DueOutput
recorded_reading mode budget (Ok w) = recorded_world mode budget w
recorded_reading mode budget (Err fault) = due_refusal (NotWorld fault)

abbrev pub due_record : Mode → ℕ → List ℕ → DueOutput
due_record mode budget input = if is_too_long input then due_refusal TooLong
    else recorded_reading mode budget (world_reading input)

-- ---- replay: the outcome of the package's own world, which is run again

-- over recorded replies, a run may ask what wasn't recorded
abbrev pub due_divergence : DueOutput → Option DivergedAt → DueOutput
due_divergence other None = other
due_divergence other (Some at) = due_refusal (Diverged (record { parts = at.process }) at.index)

abbrev pub due_log : ℕ → Package → DueOutput
due_log budget p = due_divergence (due_outcome budget outcome_due (log_outcome budget [] p))
    (log_divergence budget [] p)

-- a package with the needed rows is run over these, one without over the replies
abbrev pub replayed_as : Mode → ℕ → Package → DueOutput
replayed_as Included budget p = due_world budget (own_world p)
replayed_as Excluded budget p = due_log budget p

abbrev pub replayed_package : ℕ → Package → DueOutput
replayed_package budget p = replayed_as p.mode budget p

abbrev pub due_replay : ℕ → List ℕ → DueOutput
due_replay budget input = due_of_package (replayed_package budget) input

-- under another seed, which only recorded replies of processes that share no written path can be run by
abbrev pub reseeded_package : ℕ → ℕ → Package → DueOutput
reseeded_package seed budget p =
    if is_free p then due_log budget (with_seed seed p) else due_refusal NotPrivate

abbrev pub due_replay_seed : ℕ → ℕ → List ℕ → DueOutput
due_replay_seed seed budget input = due_of_package (reseeded_package seed budget) input

-- ---- replay of a run: the outcome of its world

abbrev pub replayed_run : Which → ℕ → Result Joined DamageKind → DueOutput
replayed_run which budget (Ok j) = due_world budget (joined_world which j)
replayed_run which budget (Err kind) = due_refusal (Damaged kind)

abbrev pub due_replay_run : Which → ℕ → List ℕ → DueOutput
due_replay_run which budget input = if is_too_long input then due_refusal TooLong
    else replayed_run which budget (joined_reading input)

-- ---- all commands

abbrev pub due_of : Option Command → List ℕ → DueOutput
due_of None input = due_refusal Usage
due_of (Some (Run budget)) input = due_run budget input
due_of (Some (Record mode budget)) input = due_record mode budget input
due_of (Some (Replay budget)) input = due_replay budget input
due_of (Some (ReplaySeed seed budget)) input = due_replay_seed seed budget input
due_of (Some (ReplayRun which budget)) input = due_replay_run which budget input
due_of (Some Join) input = due_join input
due_of (Some (Audit budget)) input = due_audit budget input
due_of (Some (Table name step budget)) input = due_table name step budget input
due_of (Some (Inspect report)) input = due_inspect report input
due_of (Some (Generate orders)) input = due_generate orders
due_of (Some Migrate) input = due_migrate input
due_of (Some Prov) input = due_prov input
due_of (Some (ProvDepends path)) input = due_prov_depends path input

abbrev pub due : List (List ℕ) → List ℕ → DueOutput
due words input = due_of (command_of words) input

-- ---- a response as what is due

abbrev pub response_due : Response → DueOutput
response_due (responses.Written bytes) = due_bytes bytes
response_due (responses.NotWorld fault) = due_refusal (NotWorld fault)
response_due (responses.NotEnded budget) = due_refusal (NotEnded budget)
response_due (responses.Diverged process index) = due_refusal (Diverged process index)
response_due (responses.Damaged kind) = due_refusal (Damaged kind)
response_due responses.NoSuch = due_refusal NoSuch
response_due (responses.Clash clash) = due_refusal (Clash clash)
response_due responses.PackageTooLong = due_refusal PackageTooLong
response_due responses.NotPrivate = due_refusal NotPrivate
response_due responses.NotProv = due_refusal NotProv
