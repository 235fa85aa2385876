-- The names of the processes of a trace, made from its Spawned events in order. A run names its processes in
-- the same way (`child_of` of `run_model`), so a trace has the names of its run.
use Rattle.std.specs.Prelude.{ℕ, ◌+◌, List, [], ◌∷◌, ◌++◌, if◌then◌else◌, Option}
use Rattle.std.specs.Prelude.{Some, None, slice_get, slice_set}
use Rattle.inspect.specs.Types.{Event, NamedProcess}
use Rattle.run_model.specs.Acts.{is_spawn}
use Rattle.run_model.specs.OutcomeText.{name_text}

-- the first process of a run, before it has children
abbrev pub first_process : NamedProcess
first_process = record { parts = 0 ∷ []; children = 0 }

-- children are named by their parent's name and their number among its children, from 0
abbrev pub child_of : NamedProcess → NamedProcess
child_of parent = record { parts = parent.parts ++ parent.children ∷ []; children = 0 }

abbrev pub parent_of : NamedProcess → NamedProcess
parent_of parent = record parent { children = parent.children + 1 }

-- with a child of the process of a number, which comes last; none where there is no such process
abbrev pub with_child : ℕ → Option NamedProcess → List NamedProcess → List NamedProcess
with_child number None processes = processes
with_child number (Some parent) processes =
    slice_set processes number (parent_of parent) ++ child_of parent ∷ []

-- after an event
abbrev pub named_after : List NamedProcess → Event → List NamedProcess
named_after processes e =
    if is_spawn e.act then with_child e.process (slice_get processes e.process) processes else processes

-- after events
abbrev pub named_with : List NamedProcess → List Event → List NamedProcess
named_with processes [] = processes
named_with processes (e ∷ es) = named_with (named_after processes e) es

-- the processes of a trace, by creation number
abbrev pub processes_of : List Event → List NamedProcess
processes_of events = named_with (first_process ∷ []) events

-- the name of the process of a creation number; a valid trace names no other
abbrev pub text_of : Option NamedProcess → List ℕ
text_of None = []
text_of (Some process) = name_text process.parts

abbrev pub name_in : List NamedProcess → ℕ → List ℕ
name_in processes number = text_of (slice_get processes number)
