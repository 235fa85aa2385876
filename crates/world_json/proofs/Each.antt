-- Items and members that are read one after another.
use Rattle.std.proofs.Common.{◌≡◌, List, [], ◌∷◌, ◌++◌, Option, Some, None, option_map, refl, sym, ap, ◌∙◌, append_assoc}
use Rattle.std.specs.List.{AllByRecursion}
use Rattle.world_json.specs.Shape.{◌>>=◌}

append_none : {X : Type 0} (xs : List X) → xs ++ [] ≡ xs
append_none [] = refl
append_none (x ∷ xs) = ap (λ l. x ∷ l) (append_none xs)

map_same : {X : Type 0} (o : Option (List X)) → o ≡ option_map (λ xs. [] ++ xs) o
map_same None = refl
map_same (Some xs) = refl

map_more : {X : Type 0} (found : List X) (x : X) (o : Option (List X)) → option_map (λ xs. found ++ xs) (o >>= λ xs. Some (x ∷ xs)) ≡ option_map (λ xs. (found ++ x ∷ []) ++ xs) o
map_more found x None = refl
map_more found x (Some xs) = ap Some (sym (append_assoc found (x ∷ []) xs))

-- what was found so far, before what the rest gives, is what all gives
abbrev pub IsSoFar : {X : Type 0} → Option (List X) → List X → Option (List X) → Type 0
IsSoFar all found rest = all ≡ option_map (λ xs. found ++ xs) rest

pub none_so_far : {X : Type 0} (all : Option (List X)) → IsSoFar all [] all
none_so_far all = map_same all

pub all_found : {X : Type 0} (all : Option (List X)) (found : List X) → IsSoFar all found (Some []) → all ≡ Some found
all_found all found so_far = so_far ∙ ap Some (append_none found)

-- the next one has a reading
pub one_more : {X : Type 0} (all : Option (List X)) (found : List X) (o : Option X) (rest : Option (List X)) (x : X)
    → IsSoFar all found (o >>= λ x. rest >>= λ xs. Some (x ∷ xs)) → o ≡ Some x → IsSoFar all (found ++ x ∷ []) rest
one_more all found o rest x so_far is =
    so_far ∙ ap (λ (o : Option _). option_map (λ xs. found ++ xs) (o >>= λ x. rest >>= λ xs. Some (x ∷ xs))) is ∙ map_more found x rest

-- the next one has none
pub none_more : {X : Type 0} (all : Option (List X)) (found : List X) (o : Option X) (rest : Option (List X))
    → IsSoFar all found (o >>= λ x. rest >>= λ xs. Some (x ∷ xs)) → o ≡ None → all ≡ None
none_more all found o rest so_far is =
    so_far ∙ ap (λ (o : Option _). option_map (λ xs. found ++ xs) (o >>= λ x. rest >>= λ xs. Some (x ∷ xs))) is

-- ---- what holds of each

pub all_push : {X : Type 0} (P : X → Type 0) (xs : List X) (x : X) → AllByRecursion P xs → P x → AllByRecursion P (xs ++ x ∷ [])
all_push P [] x all one = (one, tt)
all_push P (y ∷ ys) x all one = (all.0, all_push P ys x all.1 one)
