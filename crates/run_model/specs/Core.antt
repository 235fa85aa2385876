-- The core of a run: all of its state but the database.
use Rattle.std.specs.Prelude.{ℕ, pos, ◌+◌, List, [], ◌∷◌, ◌++◌, length, map, find, filter, slice_set, Bool}
use Rattle.std.specs.Prelude.{not, ◌||◌, Option, None, is_some, codes, bytes_eq, option_map}
use Rattle.std.specs.List.{list_all}
use Rattle.std.specs.Fmt.{decimal}
use Rattle.ldv_value.specs.FileState.{FileState, initial_files}
use Rattle.run_model.specs.Types.{File, OpenMode, Value, Int, Text, Instr, Reply, Entry}

-- ---- names of a process, each kind in a name space of its own

pub record NameBinding (X : Type 0) : Type 0 where
  pub name : List ℕ
  pub bound : X

module _ {X : Type 0} where
  abbrev pub is_bound : List ℕ → NameBinding X → Bool
  is_bound name binding = bytes_eq binding.name name

  abbrev pub lookup : List ℕ → List (NameBinding X) → Option X
  lookup name bindings = option_map (λ binding. binding.bound) (find (is_bound name) bindings)

  -- the name means nothing any more
  abbrev pub unbind : List ℕ → List (NameBinding X) → List (NameBinding X)
  unbind name bindings = filter (λ binding. not (is_bound name binding)) bindings

  -- in place of what the name meant
  abbrev pub bind : List ℕ → X → List (NameBinding X) → List (NameBinding X)
  bind name bound bindings = record { name = name; bound = bound } ∷ unbind name bindings

-- ---- processes

-- an open file names its path, so that it sees what any process writes there
pub record OpenFile : Type 0 where
  pub path : List ℕ
  pub mode : OpenMode
  pub place : ℕ

-- a reply, and how many of its rows were fetched
pub record Cursor : Type 0 where
  pub reply : Reply
  pub fetched : ℕ

pub record Process : Type 0 where
  -- the parts of its name
  pub name : List ℕ
  pub script : List Instr
  -- of its next instruction
  pub place : ℕ
  pub variables : List (NameBinding Value)
  pub files : List (NameBinding OpenFile)
  pub cursors : List (NameBinding Cursor)
  -- creation numbers
  pub children : List (NameBinding ℕ)
  -- how many children it made
  pub spawned : ℕ
  pub printed : List ℕ
  -- what it asked, with the replies, in order
  pub entries : List Entry
  -- none while the process runs
  pub status : Option ℕ

abbrev pub has_ended : Process → Bool
has_ended p = is_some p.status

-- ---- the core

-- where the database had no reply: the name of the process, and the number of its replies so far
pub record Divergence : Type 0 where
  pub process : List ℕ
  pub index : ℕ

pub record Core : Type 0 where
  pub files : FileState
  -- in creation order
  pub processes : List Process
  pub seed : ℕ
  -- the scheduler: the process that ran last, and the state of its generator
  pub last : ℕ
  pub x : ℕ
  -- how many statements were asked
  pub asked : ℕ
  pub diverged : Option Divergence

abbrev pub have_all_ended : Core → Bool
have_all_ended c = list_all has_ended c.processes

-- no step is made any more
abbrev pub is_over : Core → Bool
is_over c = is_some c.diverged || have_all_ended c

abbrev pub with_process : ℕ → Process → Core → Core
with_process number p c = record c { processes = slice_set c.processes number p }

-- ---- the start

abbrev pub argument_name : ℕ → List ℕ
argument_name n = codes "arg" ++ decimal n

-- arg1, arg2 and so on, from a number on
abbrev pub arguments_from : ℕ → List Value → List (NameBinding Value)
arguments_from n [] = []
arguments_from n (v ∷ vs) = record { name = argument_name n; bound = v } ∷ arguments_from (n + 1) vs

-- the arguments of a process, and argc, their count
abbrev pub argument_variables : List Value → List (NameBinding Value)
argument_variables vs = record { name = codes "argc"; bound = Int (pos (length vs)) } ∷ arguments_from 1 vs

abbrev pub new_process : List ℕ → List Instr → List Value → Process
new_process name script arguments = record {
  name = name;
  script = script;
  place = 0;
  variables = argument_variables arguments;
  files = [];
  cursors = [];
  children = [];
  spawned = 0;
  printed = [];
  entries = [];
  status = None;
}

abbrev pub after_first_word : List (List ℕ) → List (List ℕ)
after_first_word [] = []
after_first_word (word ∷ words) = words

-- of the script that the first start word names; the other start words are its arguments
abbrev pub first_process : List (List ℕ) → List Instr → Process
first_process start script = new_process (0 ∷ []) script (map Text (after_first_word start))

-- one process, and no path is touched
abbrev pub start_core : List (List ℕ) → ℕ → List File → List Instr → Core
start_core start seed files script = record {
  files = initial_files files;
  processes = first_process start script ∷ [];
  seed = seed;
  last = 0;
  x = seed;
  asked = 0;
  diverged = None;
}
