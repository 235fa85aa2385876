-- The words of the command line.
use Rattle.std.specs.Prelude.{ℕ, ◌≤◌, List, [], ◌∷◌, codes, Bool, true, false, bytes_eq, if◌then◌else◌}
use Rattle.std.specs.Prelude.{Option, Some, None, option_map}
use Rattle.ldv_value.specs.Limits.{max_steps, default_steps}
use Rattle.ldv_top.specs.declared.command.Command.{Command}
use Rattle.ldv_top.specs.declared.command.Command.TheVariants.{Run, Record, Replay, ReplaySeed, Audit, Table}
use Rattle.ldv_top.specs.declared.command.Command.TheVariants.{Inspect, Generate, Migrate, Prov, ProvDepends}
use Rattle.ldv_top.specs.declared.command.Command.TheVariants.{Join, ReplayRun}
use Rattle.ldv_top.specs.WordsOfGenerate.{generate_of}
use Rattle.ldv_top.specs.WordsOfJoins.{join_of}
use Rattle.ldv_top.specs.WordsOfMigrations.{migrate_of}
use Rattle.ldv_top.specs.WordsOfProv.{prov_of}
use Rattle.ldv_top.specs.WordsOfReports.{report_of}
use Rattle.ldv_top.specs.WordsOfRuns.{run_of}
use Rattle.ldv_top.specs.WordsOfTables.{table_of}

abbrev pub inspect_of : List (List ℕ) → Option Command
inspect_of words = option_map (λ report. Inspect report) (report_of words)

-- by the first word
abbrev pub command_of : List (List ℕ) → Option Command
command_of [] = None
command_of (word ∷ words) =
    if bytes_eq word (codes "table") then table_of words
    else (if bytes_eq word (codes "inspect") then inspect_of words
    else (if bytes_eq word (codes "gen") then generate_of words
    else (if bytes_eq word (codes "migrate") then migrate_of words
    else (if bytes_eq word (codes "prov") then prov_of words
    else (if bytes_eq word (codes "join") then join_of words else run_of word words)))))

-- whether the command reads its input
abbrev pub reads : Option Command → Bool
reads None = false
reads (Some (Run budget)) = true
reads (Some (Record mode budget)) = true
reads (Some (Replay budget)) = true
reads (Some (ReplaySeed seed budget)) = true
reads (Some (ReplayRun which budget)) = true
reads (Some Join) = true
reads (Some (Audit budget)) = true
reads (Some (Table name step budget)) = true
reads (Some (Inspect report)) = true
reads (Some (Generate orders)) = false
reads (Some Migrate) = true
reads (Some Prov) = true
reads (Some (ProvDepends path)) = true

-- the steps that a run of the command may take; `inspect`, `join`, `migrate` and `prov` make no run
abbrev pub budget_of : Command → ℕ
budget_of (Run budget) = budget
budget_of (Record mode budget) = budget
budget_of (Replay budget) = budget
budget_of (ReplaySeed seed budget) = budget
budget_of (ReplayRun which budget) = budget
budget_of Join = 0
budget_of (Audit budget) = budget
budget_of (Table name step budget) = budget
budget_of (Inspect report) = 0
budget_of (Generate orders) = default_steps
budget_of Migrate = 0
budget_of Prov = 0
budget_of (ProvDepends path) = 0

-- the words give a budget that a run can have
abbrev pub IsBounded : Command → Type 0
IsBounded command = budget_of command ≤ max_steps
