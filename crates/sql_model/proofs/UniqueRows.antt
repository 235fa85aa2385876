-- Rows with pairwise different keys: the key of one is the key of no other.
use Rattle.std.proofs.Common.{◌≡◌, ℕ, List, [], ◌∷◌, refl, sym, ap, ◌∙◌, Bool, true, false, inl, inr}
use Rattle.std.specs.Prelude.{map, filter, length, not, ◌&&◌, ◌==◌}
use Rattle.std.specs.List.{list_any}
use Rattle.std.specs.Ordering.{is_eq, ordering_reverse}
use Rattle.std.specs.declared.cmp.Ordering.TheVariants.{Equal}
use Rattle.std.specs.Cmp.Lexicographic.{slice_cmp}
use Rattle.std.proofs.lemmas.Bool.{cases_Bool, not-true}
use Rattle.ldv_value.specs.Order.{order, values_total}
use Rattle.ldv_value.proofs.Booleans.{or-parts, or-left, or-right, not-so, true≢false}
use Rattle.ldv_value.proofs.Orderings.{is_eq-true}
use Rattle.sql_model.specs.Keys.{same_values, values_at, repeats}
use Rattle.sql_model.specs.References.{has_key}
use Rattle.sql_model.specs.Tables.{are_keys_unique}
use Rattle.sql_model.specs.Types.{Value, TableRow}
use Rattle.sql_model.proofs.ReferenceLists.{any_fewer}
use Rattle.sql_model.proofs.UniqueKeys.{values_in}

-- ---- two rows of one key

-- what is the same as a third is the same as each other
pub same_both : (a b k : List Value) → same_values a k ≡ true → same_values b k ≡ true → same_values a b ≡ true
same_both a b k one two =
    let first : slice_cmp order a k ≡ Equal = is_eq-true (slice_cmp order a k) one in
    let second : slice_cmp order b k ≡ Equal = is_eq-true (slice_cmp order b k) two in
    let turned : slice_cmp order k b ≡ Equal = values_total.antisymm k b ∙ ap ordering_reverse second in
    ap is_eq (values_total.congr a k b first ∙ turned)

pub found_same : {X Y : Type 0} (same : Y → Y → Bool) (f : X → Y) (p : X → Bool) → ((x y : X) → p x ≡ true → p y ≡ true → same (f x) (f y) ≡ true)
    → (x : X) → p x ≡ true → (ys : List X) → list_any p ys ≡ true → list_any (same (f x)) (map f ys) ≡ true
found_same same f p alike x here [] some = some
found_same same f p alike x here (y ∷ ys) some = elim (cases_Bool (p y)) [
  | inl too ↦ or-left (same (f x) (f y)) (list_any (same (f x)) (map f ys)) (alike x y here too)
  | inr other ↦ or-right (same (f x) (f y)) (list_any (same (f x)) (map f ys)) (found_same same f p alike x here ys (rw other at some))
]

-- of rows of which no two are the same, one passes at most: not one of some, and one of the others
pub unique_one : {X Y : Type 0} (same : Y → Y → Bool) (f : X → Y) (p q : X → Bool)
    → ((x y : X) → p x ≡ true → p y ≡ true → same (f x) (f y) ≡ true) → (xs : List X) → repeats same (map f xs) ≡ false
    → list_any p (filter (λ x. not (q x)) xs) ≡ true → list_any p (filter q xs) ≡ false
unique_one same f p q alike [] apart hit = refl
unique_one same f p q alike (x ∷ xs) apart hit = elim (cases_Bool (p x)) [
  | inl here ↦
      let parts = or-parts (list_any (same (f x)) (map f xs)) (repeats same (map f xs)) apart in
      let none : list_any p xs ≡ false = not-so (list_any p xs) (λ some. true≢false (sym (found_same same f p alike x here xs some) ∙ parts.0)) in
      elim (cases_Bool (q x)) [
        | inl changes ↦
            let more : list_any p (filter (λ y. not (q y)) xs) ≡ true = rw changes at hit in
            absurd (true≢false (sym (any_fewer p (λ y. not (q y)) xs more) ∙ none))
        | inr stays ↦ rw stays (not-so (list_any p (filter q xs)) (λ more. true≢false (sym (any_fewer p q xs more) ∙ none)))
      ]
  | inr other ↦
      let parts = or-parts (list_any (same (f x)) (map f xs)) (repeats same (map f xs)) apart in
      elim (cases_Bool (q x)) [
        | inl changes ↦ rw (changes, other) (unique_one same f p q alike xs parts.1 (rw changes at hit))
        | inr stays ↦ rw stays (unique_one same f p q alike xs parts.1 (rw (stays, other) at hit))
      ]
]

-- ---- rows of a table

pub keys_apart : (key : List ℕ) (rows : List TableRow) (b : Bool) → (length key == 0) ≡ b → b ≡ false → are_keys_unique key (values_in rows) ≡ true
    → repeats same_values (map (values_at key) (values_in rows)) ≡ false
keys_apart key rows true is off unique = absurd (true≢false off)
keys_apart key rows false is off unique =
    let twice : Bool = repeats same_values (map (values_at key) (values_in rows)) in
    let other : not (not (length key == 0) && twice) ≡ true = unique in
    not-true twice (ap (λ b. not (not b && twice)) (sym is) ∙ other)

pub repeats_map : (key : List ℕ) (rows : List TableRow)
    → map (values_at key) (values_in rows) ≡ map (λ (row : TableRow). values_at key row.values) rows
repeats_map key [] = refl
repeats_map key (row ∷ rows) = ap (λ (l : List (List Value)). values_at key row.values ∷ l) (repeats_map key rows)

-- of rows of which no two have one key, none that is left out has the key of one that isn't
pub apart_from : (key : List ℕ) (rows : List TableRow) → (length key == 0) ≡ false → are_keys_unique key (values_in rows) ≡ true
    → (q : TableRow → Bool) (k : List Value) → list_any (has_key key k) (filter (λ row. not (q row)) rows) ≡ true
    → list_any (has_key key k) (filter q rows) ≡ false
apart_from key rows keyed unique q k is =
    unique_one same_values (λ row. values_at key row.values) (has_key key k) q
    (λ x y one two. same_both (values_at key x.values) (values_at key y.values) k one two) rows
    (ap (repeats same_values) (sym (repeats_map key rows)) ∙ keys_apart key rows (length key == 0) refl keyed unique) is
