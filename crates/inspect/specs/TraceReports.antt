-- `inspect trace`: the events of a package.
use Rattle.std.specs.Prelude.{ℕ, List, ◌++◌, length, codes, Bool, true, false}
use Rattle.std.specs.List.{flat_map}
use Rattle.std.specs.Fmt.{decimal}
use Rattle.inspect.specs.Types.{Act, Event, NamedProcess}
use Rattle.run_model.specs.declared.event.Act.TheVariants as acts
use Rattle.run_model.specs.OutcomeText.{line}
use Rattle.inspect.specs.ProcessNames.{processes_of, name_in}

abbrev pub found_text : Bool → List ℕ
found_text true = codes "found "
found_text false = codes "absent "

-- an act that has a path alone, and one that also says whether a file was found there
abbrev pub path_act : List ℕ → List ℕ → List ℕ
path_act name path = name ++ path

abbrev pub found_act : List ℕ → Bool → List ℕ → List ℕ
found_act name found path = name ++ found_text found ++ path

abbrev pub waited_text : List NamedProcess → ℕ → List ℕ
waited_text processes child = codes "waited " ++ name_in processes child

-- `asked S tables N reads N made N`, with the numbers of tables, of versions read and of versions made
abbrev pub asked_text : ℕ → ℕ → ℕ → ℕ → List ℕ
asked_text statement tables reads made =
    codes "asked " ++ decimal statement ++ codes " tables " ++ decimal tables ++ codes " reads "
    ++ decimal reads ++ codes " made " ++ decimal made

-- an act and its fields
abbrev pub act_text : List NamedProcess → Act → List ℕ
act_text processes (acts.Started path) = path_act (codes "started ") path
act_text processes (acts.Spawned path) = path_act (codes "spawned ") path
act_text processes (acts.Unspawned path found) = found_act (codes "unspawned ") found path
act_text processes (acts.OpenedRead path) = path_act (codes "openedread ") path
act_text processes (acts.OpenedWrite path) = path_act (codes "openedwrite ") path
act_text processes (acts.OpenedAppend path found) = found_act (codes "openedappend ") found path
act_text processes (acts.OpenedNew path) = path_act (codes "openednew ") path
act_text processes (acts.Unopened path found) = found_act (codes "unopened ") found path
act_text processes (acts.Read path) = path_act (codes "read ") path
act_text processes (acts.Wrote path) = path_act (codes "wrote ") path
act_text processes (acts.Removed path) = path_act (codes "removed ") path
act_text processes (acts.Tested path found) = found_act (codes "tested ") found path
act_text processes (acts.Waited child) = waited_text processes child
act_text processes (acts.Ended status) = codes "ended " ++ decimal status
act_text processes (acts.Asked statement tables reads made) =
    asked_text statement (length tables) (length reads) (length made)

-- `STEP NAME ACT` and the fields
abbrev pub event_line : List NamedProcess → Event → List ℕ
event_line processes e =
    line (decimal e.step ++ codes " " ++ name_in processes e.process ++ codes " " ++ act_text processes e.act)

abbrev pub trace_report : List Event → List ℕ
trace_report events = flat_map (event_line (processes_of events)) events
