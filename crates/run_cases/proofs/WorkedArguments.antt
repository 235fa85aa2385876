-- The arguments of the first process, and the order of processes by name.
use Rattle.std.specs.Prelude.{◌≡◌, refl, ℕ, pos, List, [], ◌∷◌, map, Some, None, codes}
use Rattle.std.specs.Fmt.{digits}
use Rattle.run_model.specs.Types.{Value, Int, Text}
use Rattle.run_model.specs.Core.{NameBinding, Process, lookup, argument_name, first_process, new_process}
use Rattle.run_model.specs.Outcome.{by_name}

-- ---- arguments: argc is their count, and arg1, arg2 and so on are the start words after the first, as text

abbrev variables : List (List ℕ) → List (NameBinding Value)
variables start = (first_process start []).variables

abbrev binding : List ℕ → Value → NameBinding Value
binding name bound = record { name = name; bound = bound }

-- the first word is the script's path and no argument
two_arguments : variables (codes "main" ∷ codes "a" ∷ codes "b" ∷ [])
    ≡ binding (codes "argc") (Int (pos 2))
    ∷ binding (codes "arg1") (Text (codes "a"))
    ∷ binding (codes "arg2") (Text (codes "b"))
    ∷ []
unfolding digits
two_arguments = refl

no_arguments : variables (codes "main" ∷ []) ≡ binding (codes "argc") (Int (pos 0)) ∷ []
no_arguments = refl

-- a word of digits stays a text
word_of_digits : lookup (codes "arg1") (variables (codes "main" ∷ codes "12" ∷ [])) ≡ Some (Text (codes "12"))
unfolding digits
word_of_digits = refl

-- they are numbered from 1, and there are no more of them than words
no_argument_0 : lookup (codes "arg0") (variables (codes "main" ∷ codes "a" ∷ [])) ≡ None
unfolding digits
no_argument_0 = refl

no_argument_2 : lookup (codes "arg2") (variables (codes "main" ∷ codes "a" ∷ [])) ≡ None
unfolding digits
no_argument_2 = refl

-- in decimal
tenth_argument : argument_name 10 ≡ codes "arg10"
unfolding digits
tenth_argument = refl

-- the first process is 0
first_name : (first_process (codes "main" ∷ []) []).name ≡ 0 ∷ []
first_name = refl

-- ---- processes by name: part by part as numbers, a name before its extensions

abbrev named : List ℕ → Process
named name = new_process name [] []

abbrev sorted : List (List ℕ) → List (List ℕ)
sorted names = map (λ p. p.name) (by_name (map named names))

-- 0 is a beginning of 0.0, and 0.0 of 0.0.7; at their second part 0 is below 1, 1 below 9 and 9 below 10
in_order : sorted ((0 ∷ 10 ∷ []) ∷ (0 ∷ 9 ∷ []) ∷ (0 ∷ 1 ∷ []) ∷ (0 ∷ 0 ∷ 7 ∷ []) ∷ (0 ∷ 0 ∷ []) ∷ (0 ∷ []) ∷ [])
    ≡ (0 ∷ []) ∷ (0 ∷ 0 ∷ []) ∷ (0 ∷ 0 ∷ 7 ∷ []) ∷ (0 ∷ 1 ∷ []) ∷ (0 ∷ 9 ∷ []) ∷ (0 ∷ 10 ∷ []) ∷ []
in_order = refl

-- in the order in which they were made, a grandchild comes after its parent's younger brother
grandchild : sorted ((0 ∷ []) ∷ (0 ∷ 0 ∷ []) ∷ (0 ∷ 1 ∷ []) ∷ (0 ∷ 0 ∷ 0 ∷ []) ∷ [])
    ≡ (0 ∷ []) ∷ (0 ∷ 0 ∷ []) ∷ (0 ∷ 0 ∷ 0 ∷ []) ∷ (0 ∷ 1 ∷ []) ∷ []
grandchild = refl
