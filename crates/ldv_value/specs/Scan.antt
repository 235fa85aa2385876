-- Scanners, which turn bytes into tokens by a state. Each byte gives the next state, and perhaps a token that
-- ends before the byte.
use Rattle.std.specs.Prelude.{ℕ, List, [], ◌∷◌, ◌++◌, Option, Some, option_to_list}
use Rattle.ldv_value.specs.Options.{◌>>=◌}

-- these tokens, and then those of the rest
abbrev pub before : {Token : Type 0} → List Token → Option (List Token) → Option (List Token)
before front rest = rest >>= λ ts. Some (front ++ ts)

-- the state after a byte, with the token that ended before it
abbrev pub Transition : Type 0 → Type 0 → Type 0
Transition State Token = State → ℕ → Option (State × Option Token)

-- the token that the end of the bytes ends
abbrev pub FinalOutput : Type 0 → Type 0 → Type 0
FinalOutput State Token = State → Option (Option Token)

module _ {State Token : Type 0} (step : Transition State Token) (finish : FinalOutput State Token) where
  -- the tokens of bytes from a state on
  abbrev pub tokens_from : List ℕ → State → Option (List Token)
  tokens_from [] state = finish state >>= λ t. Some (option_to_list t)
  tokens_from (b ∷ bs) state = step state b >>= λ s. before (option_to_list s.1) (tokens_from bs s.0)
