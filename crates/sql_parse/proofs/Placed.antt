-- Parameters in place of their `?`.
use Rattle.std.proofs.Common.{◌≡◌, ℕ, List, [], ◌∷◌, ◌++◌, refl, append_assoc, ap, sym, Some, None}
use Rattle.std.specs.Prelude.{Option}
use Rattle.ldv_value.specs.declared.value.Value.{Value}
use Rattle.sql_model.specs.declared.token.Token.{Token}
use Rattle.ldv_value.specs.Options.{◌>>=◌}
use Rattle.sql_model.specs.Texts.{placed_token, with_parameters}
use Rattle.ldv_value.specs.Scan.{before}

joined_one : (front : List Token) (t : Token) (o : Option (List Token)) → before front (o >>= λ rest. Some (t ∷ rest)) ≡ before (front ++ t ∷ []) o
joined_one front t None = refl
joined_one front t (Some rest) = ap Some (sym (append_assoc front (t ∷ []) rest))

no_rest : (params : List Value) (front : List Token) (o : Option (Token × ℕ)) → None ≡ (o >>= λ r. before (front ++ r.0 ∷ []) (None >>= λ ts. with_parameters params r.1 ts))
no_rest params front None = refl
no_rest params front (Some r) = refl

some_rest : (params : List Value) (front ts : List Token) (o : Option (Token × ℕ))
    → before front (o >>= λ r. with_parameters params r.1 ts >>= λ rest. Some (r.0 ∷ rest)) ≡ (o >>= λ r. before (front ++ r.0 ∷ []) (with_parameters params r.1 ts))
some_rest params front ts None = refl
some_rest params front ts (Some r) = joined_one front r.0 (with_parameters params r.1 ts)

-- what these tokens and a rest come to, of which the first one is this
pub placed_first : (params : List Value) (place : ℕ) (front : List Token) (t : Token) (rest : Option (List Token))
    → before front (before (t ∷ []) rest >>= λ ts. with_parameters params place ts)
    ≡ (placed_token params place t >>= λ r. before (front ++ r.0 ∷ []) (rest >>= λ ts. with_parameters params r.1 ts))
placed_first params place front t None = no_rest params front (placed_token params place t)
placed_first params place front t (Some ts) = some_rest params front ts (placed_token params place t)
