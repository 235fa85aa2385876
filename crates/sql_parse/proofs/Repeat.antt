-- Steps, one after another.
use Rattle.std.proofs.Common.{◌≡◌, ℕ, suc, ◌+◌, ◌-◌, ◌<◌, ◌≤◌, List, refl, ap, ◌∙◌, sym, subst, Some, None, Bool, true, false, arith}
use Rattle.std.specs.Prelude.{Option, if◌then◌else◌}
use Rattle.sql_parse.specs.declared.error.ParseStop.{ParseStop}
use Rattle.sql_parse.specs.declared.error.ParseStop.TheVariants.{Syntax, NoMemory}
use Rattle.sql_model.specs.declared.token.Token.{Token}
use Rattle.ldv_value.specs.Options.{◌>>=◌}
use Rattle.sql_parse.specs.inner.Gives.{Fails}
use Rattle.sql_model.specs.Reader.{repeat}

-- what a step leaves to do
abbrev pub after : {A : Type 0} → (A → List Token → Option ((A × Bool) × List Token)) → ℕ → Option ((A × Bool) × List Token) → Option (A × List Token)
after step k o = o >>= λ r. if r.0.1 then repeat step k r.0.0 r.1 else Some (r.0.0, r.1)

one_less : (most made : ℕ) → made < most → most - made ≡ suc (most - (made + 1))
one_less most made h = omega (arith, h)

pub repeat_none : {A : Type 0} (step : A → List Token → Option ((A × Bool) × List Token)) (a : A) (ts : List Token) → repeat step 0 a ts ≡ None
unfolding repeat
repeat_none step a ts = refl

pub repeat_suc : {A : Type 0} (step : A → List Token → Option ((A × Bool) × List Token)) (k : ℕ) (a : A) (ts : List Token) → repeat step (suc k) a ts ≡ after step k (step a ts)
unfolding repeat
repeat_suc step k a ts = refl

repeat_at : {A : Type 0} (step : A → List Token → Option ((A × Bool) × List Token)) (most made : ℕ) (a : A) (ts : List Token) → made < most
    → repeat step (most - made) a ts ≡ after step (most - (made + 1)) (step a ts)
repeat_at step most made a ts h = ap (λ k. repeat step k a ts) (one_less most made h) ∙ repeat_suc step (most - (made + 1)) a ts

pub repeat_fails : {A : Type 0} (e : ParseStop) (step : A → List Token → Option ((A × Bool) × List Token)) (most made : ℕ) (a : A) (ts : List Token) → made < most
    → Fails e (step a ts) → Fails e (repeat step (most - made) a ts)
repeat_fails Syntax step most made a ts h is = repeat_at step most made a ts h ∙ ap (after step (most - (made + 1))) is
repeat_fails NoMemory step most made a ts h is = tt

pub repeat_stops : {A : Type 0} (step : A → List Token → Option ((A × Bool) × List Token)) (most made : ℕ) (a b : A) (going : Bool) (ts rest : List Token) → made < most
    → going ≡ false → step a ts ≡ Some ((b, going), rest) → repeat step (most - made) a ts ≡ Some (b, rest)
repeat_stops step most made a b going ts rest h stops is =
    repeat_at step most made a ts h ∙ ap (after step (most - (made + 1))) is ∙ ap (λ (g : Bool). after step (most - (made + 1)) (Some ((b, g), rest))) stops

pub repeat_goes : {A : Type 0} (step : A → List Token → Option ((A × Bool) × List Token)) (most made : ℕ) (a b : A) (going : Bool) (ts rest : List Token) → made < most
    → going ≡ true → step a ts ≡ Some ((b, going), rest) → repeat step (most - made) a ts ≡ repeat step (most - (made + 1)) b rest
repeat_goes step most made a b going ts rest h goes is =
    repeat_at step most made a ts h ∙ ap (after step (most - (made + 1))) is ∙ ap (λ (g : Bool). after step (most - (made + 1)) (Some ((b, g), rest))) goes

pub repeat_ends : {A : Type 0} (step : A → List Token → Option ((A × Bool) × List Token)) (most made : ℕ) (a : A) (ts : List Token) → most ≤ made
    → repeat step (most - made) a ts ≡ None
repeat_ends step most made a ts h = let none : most - made ≡ 0 = omega (arith, h) in ap (λ k. repeat step k a ts) none ∙ repeat_none step a ts

-- The same of a loop, of which it is known what its steps from here make.

module _ {A : Type 0} (step : A → List Token → Option ((A × Bool) × List Token)) where
  pub steps_fail : (e : ParseStop) (most made : ℕ) (a : A) (ts : List Token) (due : Option (A × List Token)) → repeat step (most - made) a ts ≡ due → made < most
      → Fails e (step a ts) → Fails e due
  steps_fail e most made a ts due so_far h is = subst (Fails e) so_far (repeat_fails e step most made a ts h is)

  pub steps_stop : (most made : ℕ) (a b : A) (going : Bool) (ts rest : List Token) (due : Option (A × List Token)) → repeat step (most - made) a ts ≡ due → made < most
      → going ≡ false → step a ts ≡ Some ((b, going), rest) → due ≡ Some (b, rest)
  steps_stop most made a b going ts rest due so_far h stops is = sym so_far ∙ repeat_stops step most made a b going ts rest h stops is

  pub steps_go : (most made : ℕ) (a b : A) (going : Bool) (ts rest : List Token) (due : Option (A × List Token)) → repeat step (most - made) a ts ≡ due → made < most
      → going ≡ true → step a ts ≡ Some ((b, going), rest) → repeat step (most - (made + 1)) b rest ≡ due
  steps_go most made a b going ts rest due so_far h goes is = sym (repeat_goes step most made a b going ts rest h goes is) ∙ so_far

  pub steps_end : (most made : ℕ) (a : A) (ts : List Token) (due : Option (A × List Token)) → repeat step (most - made) a ts ≡ due → most ≤ made → due ≡ None
  steps_end most made a ts due so_far h = sym so_far ∙ repeat_ends step most made a ts h

pub repeat_starts : {A : Type 0} (step : A → List Token → Option ((A × Bool) × List Token)) (most : ℕ) (a : A) (ts : List Token)
    → repeat step (most - 0) a ts ≡ repeat step most a ts
repeat_starts step most a ts = let all : most - 0 ≡ most = omega arith in ap (λ k. repeat step k a ts) all

pub ruleset repeat_rules = (steps_fail, steps_stop, steps_go, steps_end, repeat_starts)
