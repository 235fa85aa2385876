-- The links of each event. A link is an edge at one time, the step of its event. Information flows from its
-- source to its target: from the content of a path to the process that reads it, from a row version to the
-- reply of the statement that read it.
use Rattle.std.specs.Prelude.{ℕ, ◌-◌, ◌==◌, List, [], ◌∷◌, ◌++◌, map, if◌then◌else◌}
use Rattle.std.specs.Prelude.{Option, Some, None, option_map}
use Rattle.std.specs.List.{filter_map}
use Rattle.run_model.specs.declared.event.Act.TheVariants as acts
use Rattle.run_model.specs.ValidTrace.{made_after}
use Rattle.trace_graph.specs.Types.{Member, Need, Act, Event, Node, Path, Process, Row, Ask, Reply}

pub record Link : Type 0 where
  pub source : Node
  pub target : Node
  pub time : ℕ

abbrev pub link : ℕ → Node → Node → Link
link time source target = record { source = source; target = target; time = time }

-- ---- files and processes

-- what is at a path goes to a process: it is read, or it is found there or not
abbrev pub from_path : ℕ → List ℕ → ℕ → Link
from_path time path process = link time (Path path) (Process process)

-- a process decides what is at a path
abbrev pub to_path : ℕ → ℕ → List ℕ → Link
to_path time process path = link time (Process process) (Path path)

abbrev pub between_processes : ℕ → ℕ → ℕ → Link
between_processes time source target = link time (Process source) (Process target)

-- ---- statements

-- a process asks, and gets the reply
abbrev pub statement_links : ℕ → ℕ → ℕ → List Link
statement_links time process statement =
    link time (Process process) (Ask statement) ∷ link time (Ask statement) (Reply statement)
    ∷ link time (Reply statement) (Process process) ∷ []

-- a version that was read goes to the reply
abbrev pub read_link : ℕ → ℕ → Need → Link
read_link time statement need = link time (Row need.member) (Reply statement)

-- the statement makes a version. No link goes from a reply to a version
abbrev pub made_link : ℕ → ℕ → Member → Link
made_link time statement made = link time (Ask statement) (Row made)

abbrev pub version_before : ℕ → Option ℕ
version_before version = if version == 0 then None else Some (version - 1)

abbrev pub at_version : Member → ℕ → Member
at_version member version = record { table = member.table; row = member.row; version = version }

-- the version one less of the same row, where there is one
abbrev pub member_before : Member → Option Member
member_before member = option_map (at_version member) (version_before member.version)

-- a version goes to the one that is made of it
abbrev pub change_link : ℕ → Member → Option Link
change_link time made = option_map (λ before. link time (Row before) (Row made)) (member_before made)

abbrev pub asked_links : ℕ → ℕ → ℕ → List Need → List Member → List Link
asked_links time process statement reads made =
    statement_links time process statement ++ (map (read_link time statement) reads
    ++ (map (made_link time statement) made ++ filter_map (change_link time) made))

-- ---- events

-- what a process links by an act at a time; `made` is how many processes were made before, and so the number
-- of the child that it makes
abbrev pub act_links : ℕ → ℕ → ℕ → Act → List Link
-- the script at the path is read by the process that it starts
act_links time p made (acts.Started path) = from_path time path p ∷ []
-- the child reads the script, the parent finds it there, and the child gets its arguments from the parent
act_links time p made (acts.Spawned path) =
    from_path time path made ∷ from_path time path p ∷ between_processes time p made ∷ []
-- it finds no file there, or one that it can't start
act_links time p made (acts.Unspawned path found) = from_path time path p ∷ []
-- it finds the file there
act_links time p made (acts.OpenedRead path) = from_path time path p ∷ []
-- it empties or makes the file, whether it was there or not
act_links time p made (acts.OpenedWrite path) = to_path time p path ∷ []
-- it keeps or makes the file, and doesn't learn which
act_links time p made (acts.OpenedAppend path found) = to_path time p path ∷ []
-- it finds no file there, and makes it
act_links time p made (acts.OpenedNew path) = from_path time path p ∷ to_path time p path ∷ []
-- it finds a file there that was to be new, or none that was to be read
act_links time p made (acts.Unopened path found) = from_path time path p ∷ []
-- it gets what is there to be read
act_links time p made (acts.Read path) = from_path time path p ∷ []
-- it appends to what is there
act_links time p made (acts.Wrote path) = to_path time p path ∷ []
-- it finds the file there, and removes it
act_links time p made (acts.Removed path) = from_path time path p ∷ to_path time p path ∷ []
-- it finds the file there, or none
act_links time p made (acts.Tested path found) = from_path time path p ∷ []
-- the process that waits gets the child's status
act_links time p made (acts.Waited child) = between_processes time child p ∷ []
-- its end goes to nobody: who waits for it gets the status then
act_links time p made (acts.Ended status) = []
-- the statement, then all reads, then all versions made, and then what each was made of
act_links time p made (acts.Asked statement tables reads written) =
    asked_links time p statement reads written

abbrev pub event_links : ℕ → Event → List Link
event_links made e = act_links e.step e.process made e.act

-- of events before which a number of processes was made
abbrev pub links_after : ℕ → List Event → List Link
links_after made [] = []
links_after made (e ∷ es) = event_links made e ++ links_after (made_after made e.act) es

-- of a trace, whose first event is the start of the first process
abbrev pub links_of : List Event → List Link
links_of events = links_after 1 events
