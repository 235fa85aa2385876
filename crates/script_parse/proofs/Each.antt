-- A list item by item.
use Rattle.std.proofs.Common.{◌≡◌, ℕ, ◌+◌, ◌<◌, List, [], ◌∷◌, ◌++◌, refl, length, get_or, drop, drop-cons, append_assoc, add-one, ap, ◌∙◌, sym, Some, None}
use Rattle.std.specs.Prelude.{Option}
use Rattle.script_parse.specs.declared.line_stop.LineStop.{LineStop}
use Rattle.script_parse.specs.declared.line_stop.LineStop.TheVariants.{Malformed, NoMemory}
use Rattle.ldv_value.specs.Options.{◌>>=◌}
use Rattle.ldv_value.specs.Scan.{before}
use Rattle.script_parse.specs.inner.Gives.{Fails}
use Rattle.script_parse.specs.Forms.{each}

each_at : {A B : Type 0} (f : A → Option B) (xs : List A) (i : ℕ) (d : A) → i < length xs → each f (drop i xs) ≡ (f (get_or xs i d) >>= λ y. each f (drop (i + 1) xs) >>= λ ys. Some (y ∷ ys))
each_at f xs i d h = rw (add-one, drop-cons xs i d h) refl

joined_push : {B : Type 0} (front : List B) (y : B) (o : Option (List B)) → before front (o >>= λ ys. Some (y ∷ ys)) ≡ before (front ++ y ∷ []) o
joined_push front y None = refl
joined_push front y (Some ys) = ap Some (sym (append_assoc front (y ∷ []) ys))

pub each_fails : {A B : Type 0} (e : LineStop) (f : A → Option B) (front : List B) (xs : List A) (i : ℕ) (d : A) → i < length xs → Fails e (f (get_or xs i d)) → Fails e (before front (each f (drop i xs)))
each_fails Malformed f front xs i d h is = ap (before front) (each_at f xs i d h ∙ ap (λ o. o >>= λ y. each f (drop (i + 1) xs) >>= λ ys. Some (y ∷ ys)) is)
each_fails NoMemory f front xs i d h is = tt

pub each_goes : {A B : Type 0} (f : A → Option B) (front : List B) (y : B) (xs : List A) (i : ℕ) (d : A) → i < length xs → f (get_or xs i d) ≡ Some y → before front (each f (drop i xs)) ≡ before (front ++ y ∷ []) (each f (drop (i + 1) xs))
each_goes f front y xs i d h is =
    ap (before front) (each_at f xs i d h ∙ ap (λ o. o >>= λ y. each f (drop (i + 1) xs) >>= λ ys. Some (y ∷ ys)) is) ∙ joined_push front y (each f (drop (i + 1) xs))

pub ruleset each_rules = (each_fails, each_goes)
