-- The processes of a trace in memory, without their names: the place of the parent of each, and its number
-- among the parent's children. A name is made from these if a report has it.
use Rattle.std.specs.Prelude.{ℕ, ◌+◌, ◌<◌, ◌^◌, List, [], ◌∷◌, ◌++◌, length, Option, Some, None}
use Rattle.std.specs.Prelude.{slice_index_or, slice_set}
use Rattle.std.specs.List.{All}
use Rattle.inspect.specs.declared.process_names.Made.{Made}
use Rattle.inspect.specs.inner.Named.{NamedProcess}

-- ---- names

-- the name of a process that was made after those of some names: that of its parent, if it has one, and its
-- number
abbrev pub name_after : List (List ℕ) → Made → List ℕ
name_after names made = slice_index_or names made.parent [] ++ made.number ∷ []

abbrev pub names_after : List (List ℕ) → List Made → List (List ℕ)
names_after names [] = names
names_after names (m ∷ ms) = names_after (names ++ name_after names m ∷ []) ms

-- the names of all processes, in the order in which they were made
abbrev pub names_of : List Made → List (List ℕ)
names_of ms = names_after [] ms

abbrev pub name_at : List Made → ℕ → List ℕ
name_at ms place = slice_index_or (names_of ms) place []

-- ---- as the definitions have them

abbrev pub named_by : List ℕ → Made → NamedProcess
named_by name made = record { parts = name; children = made.children }

abbrev pub named_by_all : List (List ℕ) → List Made → List NamedProcess
named_by_all [] ms = []
named_by_all (name ∷ names) [] = []
named_by_all (name ∷ names) (m ∷ ms) = named_by name m ∷ named_by_all names ms

abbrev pub named_of : List Made → List NamedProcess
named_of ms = named_by_all (names_of ms) ms

-- the parent of each but the first comes before it
abbrev pub ComeAfter : List Made → Type 0
ComeAfter ms = (place : ℕ) (d : Made) → place < length ms → 0 < place
    → (slice_index_or ms place d).parent < place

-- ---- one child more

-- the first process is named by its number alone, as no name comes before it
abbrev pub made_of_first : Made
made_of_first = record { parent = 0; number = 0; children = 0 }

abbrev pub MayGrow : Made → Type 0
MayGrow made = made.children + 1 < 2 ^ 32

abbrev pub MayAllGrow : List Made → Type 0
MayAllGrow ms = All MayGrow ms

abbrev pub next_child : ℕ → Made → Made
next_child place parent = record { parent = place; number = parent.children; children = 0 }

abbrev pub made_with_child : Made → Made
made_with_child parent = record parent { children = parent.children + 1 }

-- with a child of the process at a place, which comes last; none where there is no such process
abbrev pub made_with : ℕ → Option Made → List Made → List Made
made_with place None ms = ms
made_with place (Some parent) ms = slice_set ms place (made_with_child parent) ++ next_child place parent ∷ []
