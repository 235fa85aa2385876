-- Conditions whose columns are among the first values of a row.
use Rattle.std.proofs.Common.{◌≡◌, ℕ, zero, suc, ◌<◌, List, [], ◌∷◌, ◌++◌, length, refl, ap, arith}
use Rattle.std.specs.Prelude.{Option, slice_get, unwrap_or}
use Rattle.std.specs.List.{AllByRecursion}
use Rattle.predicates.proofs.Agree.{alike}
use Rattle.ldv_value.specs.declared.value.Value.{Value}
use Rattle.ldv_value.specs.declared.value.Value.TheVariants.{Null}
use Rattle.sql_model.specs.declared.expr.ColumnName.{ColumnName}
use Rattle.sql_model.specs.declared.expr.Expr.{Expr}
use Rattle.sql_model.specs.Kinds.{names_in}
use Rattle.ldv_value.specs.Cells.{value_at}
use Rattle.sql_model.specs.Scope.{InScope, place_of, environment}
use Rattle.sql_model.specs.Meaning.{Meaning, truth}

-- all columns are among the first values
abbrev pub IsWithin : List InScope → Expr → List Value → Type 0
IsWithin scope e first = AllByRecursion (λ c. place_of scope c < length first) (names_in e)

got_first : (first more : List Value) (i : ℕ) → i < length first → slice_get (first ++ more) i ≡ slice_get first i
got_first [] more i below = absurd (omega (arith, below))
got_first (v ∷ first) more zero below = refl
got_first (v ∷ first) more (suc i) below = got_first first more i (omega (arith, below))

pub value_first : (first more : List Value) (i : ℕ) → i < length first → value_at (first ++ more) i ≡ value_at first i
value_first first more i below = ap (λ (o : Option Value). unwrap_or o Null) (got_first first more i below)

agree_first : (scope : List InScope) (first more : List Value) (names : List ColumnName) → AllByRecursion (λ c. place_of scope c < length first) names
    → AllByRecursion (λ c. environment scope (first ++ more) c ≡ environment scope first c) names
agree_first scope first more [] h = tt
agree_first scope first more (c ∷ names) h = (value_first first more (place_of scope c) h.0, agree_first scope first more names h.1)

pub first_rows_tell : (scope : List InScope) (e : Expr) (first more : List Value) → IsWithin scope e first → truth e (environment scope (first ++ more)) ≡ truth e (environment scope first)
first_rows_tell scope e first more h = ap (λ (s : Meaning). s.truth) (alike (environment scope (first ++ more)) (environment scope first) e (agree_first scope first more (names_in e) h))
