-- The number of children of each process stays within its type while the processes of a trace are made.
use Rattle.std.specs.Prelude.{ℕ, ◌+◌, ◌<◌, ◌^◌, List, [], ◌∷◌}
use Rattle.std.specs.List.{All}
use Rattle.run_model.specs.Acts.{spawned_by}
use Rattle.inspect.specs.Types.{Event, NamedProcess}

-- how many children an event makes, and events
abbrev pub births : Event → ℕ
births e = spawned_by e.act

abbrev pub all_births : List Event → ℕ
all_births [] = 0
all_births (e ∷ es) = births e + all_births es

-- a process may get a number of children more
abbrev pub HasRoom : ℕ → NamedProcess → Type 0
HasRoom more process = process.children + more < 2 ^ 32

abbrev pub HaveRoom : ℕ → List NamedProcess → Type 0
HaveRoom more processes = All (HasRoom more) processes
