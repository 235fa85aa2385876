-- The world of a run of a joined package: it has all tables, all whole files, and the present files of the
-- run.
use Rattle.std.specs.Prelude.{ℕ, List, [], Bool, if◌then◌else◌, Option, Some, None}
use Rattle.std.specs.List.{filter_map}
use Rattle.package_join.specs.Types.{File, PackedFile, Table, World}
use Rattle.joined_data.specs.declared.joined.Joined.{Joined}
use Rattle.joined_data.specs.declared.joined.JoinedRun.{JoinedRun}
use Rattle.joined_data.specs.declared.joined.Which.{Which}
use Rattle.joined_data.specs.Joined.{is_among, run_of}

abbrev pub empty_if : Bool → List ℕ → Option File
empty_if present path = if present then Some (record { path = path; content = [] }) else None

-- whole, or empty where its path is to be present
abbrev pub seen_file : (List ℕ → Bool) → List ℕ → Option (List ℕ) → Option File
seen_file present path (Some bytes) = Some (record { path = path; content = bytes })
seen_file present path None = empty_if (present path) path

abbrev pub seen_by : (List ℕ → Bool) → PackedFile → Option File
seen_by present file = seen_file present file.path file.content

abbrev pub file_with : List (List ℕ) → List ℕ → Option (List ℕ) → Option File
file_with presents = seen_file (λ path. is_among path presents)

abbrev pub world_file : JoinedRun → PackedFile → Option File
world_file run file = file_with run.presents file.path file.content

-- over files and tables of which the run may need a part
abbrev pub world_by : JoinedRun → List PackedFile → List Table → World
world_by run files tables = record {
  start = run.start;
  seed = run.seed;
  files = filter_map (world_file run) files;
  tables = tables;
}

abbrev pub world_of : JoinedRun → Joined → World
world_of run j = world_by run j.files j.tables

-- the world of the first or the second run
abbrev pub joined_world : Which → Joined → World
joined_world which j = world_of (run_of which j) j
