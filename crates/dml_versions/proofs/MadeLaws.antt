-- The values of new and of updated rows, by the places of names and of SETs.
use Rattle.std.proofs.Common.{◌≡◌, ℕ, zero, suc, ◌+◌, inl, inr, Bool, true, false, cond, List, [], ◌∷◌, map, length, refl, ap, sym, ◌∙◌, subst, arith, Option, Some, None}
use Rattle.std.specs.Prelude.{find, zip, slice_get, nat_lt}
use Rattle.std.specs.List.{position, position_or_len, AllByRecursion}
use Rattle.std.specs.Option.{option_map, option_and_then}
use Rattle.std.proofs.lemmas.Bool.{cases_lt, lt-ltb, le-ltb}
use Rattle.std.proofs.lemmas.Option.{slice_get-map}
use Rattle.ldv_value.proofs.Cases.{cases-bool}
use Rattle.ldv_value.proofs.Lists.{map-map}
use Rattle.ldv_value.proofs.Options.{none-some, same-some}
use Rattle.sql_model.specs.Changes.{plain_value, given_value, is_given, value_given, new_values, sets_column, value_set, updated_value, updated_values, updated_row}
use Rattle.sql_model.specs.Kinds.{names_in}
use Rattle.sql_model.specs.Evaluation.{IsValue}
use Rattle.sql_model.specs.Meaning.{or_null}
use Rattle.sql_model.specs.Scope.{InScope, same_text, environment, places_in}
use Rattle.dml_versions.specs.inner.Making.{place_given, places_given, value_from, values_from, place_set, value_by_set, values_by_set, AreSetsPlaced, IsPlain, ArePlain}
use Rattle.dml_versions.specs.Types.{Column, Expr, Set, TableRow, Update, Value}

-- ---- places of what passes a test

module _ {X : Type 0} (p : X → Bool) where
  pub position-here : (x : X) (xs : List X) → p x ≡ true → position p (x ∷ xs) ≡ Some 0
  position-here x xs hit = rw hit (ap (λ (b : Bool). cond b (Some 0) None) (lt-ltb 0 (length (x ∷ xs)) (omega arith)))

  pub position-later : (x : X) (xs : List X) → p x ≡ false → position p (x ∷ xs) ≡ option_map suc (position p xs)
  position-later x xs miss = elim (cases_lt (position_or_len p xs) (length xs)) [
    | inl within ↦
        let out : nat_lt (1 + position_or_len p xs) (length (x ∷ xs)) ≡ true = lt-ltb (1 + position_or_len p xs) (length (x ∷ xs)) (omega (arith, within)) in
        let in_ : nat_lt (position_or_len p xs) (length xs) ≡ true = lt-ltb (position_or_len p xs) (length xs) within in
        let one : 1 + position_or_len p xs ≡ suc (position_or_len p xs) = omega arith in
        rw (miss, in_) (ap (λ (b : Bool). cond b (Some (1 + position_or_len p xs)) None) out ∙ ap Some one)
    | inr past ↦
        let out : nat_lt (1 + position_or_len p xs) (length (x ∷ xs)) ≡ false = le-ltb (1 + position_or_len p xs) (length (x ∷ xs)) (omega (arith, past)) in
        let in_ : nat_lt (position_or_len p xs) (length xs) ≡ false = le-ltb (position_or_len p xs) (length xs) past in
        rw (miss, in_) (ap (λ (b : Bool). cond b (Some (1 + position_or_len p xs)) None) out)
  ]

after_first : {Y : Type 0} (y : Y) (ys : List Y) (o : Option ℕ) → option_and_then (slice_get (y ∷ ys)) (option_map suc o) ≡ option_and_then (slice_get ys) o
after_first y ys None = refl
after_first y ys (Some k) = refl

none_there : {Y : Type 0} (o : Option ℕ) → option_and_then (slice_get {X = Y} []) o ≡ None
none_there None = refl
none_there (Some zero) = refl
none_there (Some (suc k)) = refl

-- what is at the place is what is found
at_place : {X : Type 0} (p : X → Bool) (xs : List X) → option_and_then (slice_get xs) (position p xs) ≡ find p xs
at_place p [] = none_there (position p [])
at_place p (x ∷ xs) = elim (cases-bool (p x)) [
  | inl hit ↦ ap (option_and_then (slice_get (x ∷ xs))) (position-here p x xs hit) ∙ sym (ap (λ (b : Bool). cond b (Some x) (find p xs)) hit)
  | inr miss ↦
      ap (option_and_then (slice_get (x ∷ xs))) (position-later p x xs miss)
      ∙ after_first x xs (position p xs)
      ∙ at_place p xs
      ∙ sym (ap (λ (b : Bool). cond b (Some x) (find p xs)) miss)
]

-- and so in a second list beside
beside : {X Y : Type 0} (p : X → Bool) (xs : List X) (ys : List Y) → option_and_then (slice_get ys) (position p xs) ≡ option_map (λ both. both.1) (find (λ both. p both.0) (zip xs ys))
beside p [] ys = by ys
  where
    by : {Y : Type 0} (ys : List Y) → option_and_then (slice_get ys) (position p []) ≡ None
    by ys = refl
beside p (x ∷ xs) [] = none_there (position p (x ∷ xs))
beside p (x ∷ xs) (y ∷ ys) = elim (cases-bool (p x)) [
  | inl hit ↦
      ap (option_and_then (slice_get (y ∷ ys))) (position-here p x xs hit)
      ∙ sym (ap (λ (b : Bool). option_map (λ both. both.1) (cond b (Some (x, y)) (find (λ both. p both.0) (zip xs ys)))) hit)
  | inr miss ↦
      ap (option_and_then (slice_get (y ∷ ys))) (position-later p x xs miss)
      ∙ after_first y ys (position p xs)
      ∙ beside p xs ys
      ∙ sym (ap (λ (b : Bool). option_map (λ both. both.1) (cond b (Some (x, y)) (find (λ both. p both.0) (zip xs ys)))) miss)
]

-- ---- INSERT

given_is : (names : List (List ℕ)) (exprs : List Expr) (column : Column) → value_from exprs (place_given names column) ≡ value_given (zip names exprs) column
given_is names exprs column =
    ap (λ (o : Option Expr). or_null (option_map plain_value o)) (beside (λ (name : List ℕ). same_text name column.name) names exprs)
    ∙ by (find (is_given column.name) (zip names exprs))
  where
    by : (o : Option (List ℕ × Expr)) → or_null (option_map plain_value (option_map (λ both. both.1) o)) ≡ or_null (option_map given_value o)
    by None = refl
    by (Some both) = refl

pub values-new : (names : Option (List (List ℕ))) (columns : List Column) (exprs : List Expr) → values_from (places_given names columns) exprs ≡ new_values names columns exprs
values-new None columns exprs = refl
values-new (Some names) columns exprs =
    map-map (value_from exprs) (place_given names) columns
    ∙ ap (λ (f : Column → Value). map f columns) (λ j column. given_is names exprs column j)

pub rows-new : (names : Option (List (List ℕ))) (columns : List Column) (rows : List (List Expr)) → map (values_from (places_given names columns)) rows ≡ map (new_values names columns) rows
rows-new names columns rows = ap (λ (f : List Expr → List Value). map f rows) (λ j exprs. values-new names columns exprs j)

-- ---- UPDATE

pub values-updated : (scope : List InScope) (sets : List Set) (columns : List Column) (values : List Value)
    → values_by_set scope sets (map (place_set sets) columns) values ≡ updated_values scope sets columns values
values-updated scope sets columns values = by columns values
  where
    by : (cs : List Column) (vs : List Value) → map (value_by_set scope sets values) (zip (map (place_set sets) cs) vs) ≡ map (updated_value sets (environment scope values)) (zip cs vs)
    by [] vs = refl
    by (c ∷ cs) [] = refl
    by (c ∷ cs) (v ∷ vs) = λ j. value_set (at_place (sets_column c) sets j) (environment scope values) v ∷ by cs vs j

-- ---- values by places

-- the value of an expression that names no column
pub plain_is : (expr : Expr) (value : Value) → IsPlain expr → IsValue expr [] [] value → value ≡ plain_value expr
plain_is expr value plain is = is [] (ap (places_in []) plain)

-- what holds of all items holds of the one at a place
one-of : {X : Type 0} (P : X → Type 0) (xs : List X) (place : ℕ) (x : X) → AllByRecursion P xs → Some x ≡ slice_get xs place → P x
one-of P [] place x all is = cc
one-of P (y ∷ xs) zero x all is = let same : y ≡ x = cc in subst P same all.0
one-of P (y ∷ xs) (suc place) x all is = one-of P xs place x all.1 is

pub plain_of : (exprs : List Expr) (place : ℕ) (expr : Expr) → ArePlain exprs → Some expr ≡ slice_get exprs place → IsPlain expr
plain_of exprs place expr all is = one-of IsPlain exprs place expr all is

module _ (scope : List InScope) (sets : List Set) (lists : List (List ℕ)) (placed : AreSetsPlaced scope sets lists) (place : ℕ) (set : Set)
    (is : Some set ≡ slice_get sets place) where
  list_is : slice_get lists place ≡ Some (places_in scope (names_in set.expr))
  list_is =
      ap (λ (l : List (List ℕ)). slice_get l place) (sym placed)
      ∙ slice_get-map (λ (one : Set). places_in scope (names_in one.expr)) sets place
      ∙ ap (option_map (λ (one : Set). places_in scope (names_in one.expr))) (sym is)

  -- each SET has its places
  pub set-unplaced : None ≡ slice_get lists place → ⊥
  set-unplaced none = none-some (places_in scope (names_in set.expr)) (none ∙ list_is)

  pub set-placed : (own : List ℕ) → Some own ≡ slice_get lists place → places_in scope (names_in set.expr) ≡ own
  set-placed own there = same-some (places_in scope (names_in set.expr)) own (sym list_is ∙ sym there)

-- an updated row, by the places of the SETs
pub row-updated : (scope : List InScope) (update : Update) (columns : List Column) (sources : List (Option ℕ)) (row : TableRow) (values : List Value)
    → sources ≡ map (place_set update.sets) columns → values ≡ values_by_set scope update.sets sources row.values
    → ◌≡◌ {A = TableRow} (record { number = row.number; values = values }) (updated_row scope update columns row)
row-updated scope update columns sources row values are is =
    let made : values ≡ updated_values scope update.sets columns row.values =
    is ∙ ap (λ (s : List (Option ℕ)). values_by_set scope update.sets s row.values) are ∙ values-updated scope update.sets columns row.values in
    λ j. record { number = row.number; values = made j }
