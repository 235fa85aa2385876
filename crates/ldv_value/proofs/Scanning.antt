-- A scanner byte by byte, as a loop over the bytes runs it.
use Rattle.std.proofs.Common.{◌≡◌, ℕ, ◌+◌, ◌<◌, List, [], ◌∷◌, ◌++◌, refl, length, get_or, drop, drop-cons, append_assoc, append-nil, add-one, ap, ◌∙◌, sym, Some, None}
use Rattle.std.specs.Prelude.{Option, option_to_list}
use Rattle.std.specs.List.{AllByRecursion}
use Rattle.ldv_value.specs.Options.{◌>>=◌}
use Rattle.ldv_value.specs.Scan.{Transition, FinalOutput, before, tokens_from}

pub before-none : {Token : Type 0} (o : Option (List Token)) → before [] o ≡ o
before-none None = refl
before-none (Some ts) = refl

pub before-before : {Token : Type 0} (a b : List Token) (o : Option (List Token)) → before a (before b o) ≡ before (a ++ b) o
before-before a b None = refl
before-before a b (Some ts) = ap Some (sym (append_assoc a b ts))

module _ {State Token : Type 0} (step : Transition State Token) (finish : FinalOutput State Token) where
  pub tokens_from-drop : (state : State) (bs : List ℕ) (i : ℕ) → i < length bs
      → tokens_from step finish (drop i bs) state
      ≡ (step state (get_or bs i 0) >>= λ s. before (option_to_list s.1) (tokens_from step finish (drop (i + 1) bs) s.0))
  tokens_from-drop state bs i h = rw (add-one, drop-cons bs i 0 h) refl

  -- a step that fails, after these tokens
  pub step-none : (front : List Token) (state : State) (bs : List ℕ) (i : ℕ) → i < length bs → step state (get_or bs i 0) ≡ None
      → before front (tokens_from step finish (drop i bs) state) ≡ None
  step-none front state bs i h none =
      ap (before front) (tokens_from-drop state bs i h
      ∙ ap (λ o. o >>= λ s. before (option_to_list s.1) (tokens_from step finish (drop (i + 1) bs) s.0)) none)

  -- a step that goes on, after these tokens
  pub step-some : (front : List Token) (state next : State) (token : Option Token) (bs : List ℕ) (i : ℕ) → i < length bs
      → step state (get_or bs i 0) ≡ Some (next, token)
      → before front (tokens_from step finish (drop i bs) state)
      ≡ before (front ++ option_to_list token) (tokens_from step finish (drop (i + 1) bs) next)
  step-some front state next token bs i h some =
      ap (before front) (tokens_from-drop state bs i h
      ∙ ap (λ o. o >>= λ s. before (option_to_list s.1) (tokens_from step finish (drop (i + 1) bs) s.0)) some)
      ∙ before-before front (option_to_list token) (tokens_from step finish (drop (i + 1) bs) next)

  -- bytes that leave a state as it is, and end no token there
  pub stays-run : (Stays : ℕ → Type 0) (state : State) (stays : (b : ℕ) → Stays b → step state b ≡ Some (state, None)) (front rest : List ℕ) → AllByRecursion Stays front
      → tokens_from step finish (front ++ rest) state ≡ tokens_from step finish rest state
  stays-run Stays state stays [] rest h = refl
  stays-run Stays state stays (b ∷ front) rest h =
      ap (λ o. o >>= λ s. before (option_to_list s.1) (tokens_from step finish (front ++ rest) s.0)) (stays b h.0)
      ∙ before-none (tokens_from step finish (front ++ rest) state) ∙ stays-run Stays state stays front rest h.1

  -- the same, where no other byte follows
  pub stays-only : (Stays : ℕ → Type 0) (state : State) (stays : (b : ℕ) → Stays b → step state b ≡ Some (state, None)) (bs : List ℕ) → AllByRecursion Stays bs
      → tokens_from step finish bs state ≡ tokens_from step finish [] state
  stays-only Stays state stays bs h = ap (λ (l : List ℕ). tokens_from step finish l state) (sym (append-nil bs)) ∙ stays-run Stays state stays bs [] h
