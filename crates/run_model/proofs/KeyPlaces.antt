-- The places of a key: places of columns, none twice, so no more than there are columns.
use Rattle.std.proofs.Common.{◌≡◌, ℕ, ◌<◌, ◌≤◌, List, [], ◌∷◌, length, refl, Bool, true, false, arith, inl, inr}
use Rattle.std.specs.Prelude.{find, Some, not, nat_eq, nat_lt}
use Rattle.std.specs.List.{list_all, list_any, AllByRecursion, IsDistinct}
use Rattle.std.proofs.lemmas.Bool.{cases_Bool, ltb-true}
use Rattle.std.proofs.lemmas.Bool.Decides.{Decides-eqb}
use Rattle.std.proofs.lemmas.Map.Steps.{length-le_from_distinct_below}
use Rattle.ldv_value.proofs.Booleans.{and-parts, or-parts, not-true}
use Rattle.ldv_value.proofs.Lists.{found-all}
use Rattle.sql_model.specs.Keys.{repeats}
use Rattle.sql_model.specs.Tables.{key_places_test}
use Rattle.sql_model.specs.declared.table.Column.{Column}

-- what passes a test somewhere is found
pub find-of-list_any : {X : Type 0} (p : X → Bool) (xs : List X) → list_any p xs ≡ true
    → (x : X) × (find p xs ≡ Some x) × (p x ≡ true)
find-of-list_any p [] any = cc
find-of-list_any p (x ∷ xs) any = elim (cases_Bool (p x)) [
  | inl hit ↦ (x, rw hit refl, hit)
  | inr miss ↦ let later = find-of-list_any p xs (rw miss at any) in (later.0, rw miss later.1, later.2)
]

none_equal : (n : ℕ) (ns : List ℕ) → list_any (nat_eq n) ns ≡ false
    → AllByRecursion (λ m. nat_eq n m ≡ false) ns
none_equal n [] none = tt
none_equal n (m ∷ ns) none =
    let parts = or-parts (nat_eq n m) (list_any (nat_eq n) ns) none in
    (parts.0, none_equal n ns parts.1)

distinct : (ns : List ℕ) → repeats nat_eq ns ≡ false → IsDistinct nat_eq ns
unfolding IsDistinct
distinct [] none = tt
distinct (n ∷ ns) none =
    let parts = or-parts (list_any (nat_eq n) ns) (repeats nat_eq ns) none in
    (none_equal n ns parts.0, distinct ns parts.1)

each_below : (limit : ℕ) (ns : List ℕ) → list_all (λ n. nat_lt n limit) ns ≡ true
    → (q : ℕ) → list_any (nat_eq q) ns ≡ true → q < limit
each_below limit ns all q any =
    let one = find-of-list_any (nat_eq q) ns any in
    let below : nat_lt one.0 limit ≡ true = found-all (nat_eq q) (λ n. nat_lt n limit) ns one.0 all one.1 in
    let same : q ≡ one.0 = (Decides-eqb q one.0).0 one.2 in
    let less : one.0 < limit = ltb-true one.0 limit below in
    omega arith

pub key_within : (columns : List Column) (key : List ℕ) → key_places_test columns key ≡ true
    → length key ≤ length columns
key_within columns key met =
    let parts = and-parts (list_all (λ p. nat_lt p (length columns)) key) (not (repeats nat_eq key)) met in
    length-le_from_distinct_below key (length columns) (distinct key (not-true (repeats nat_eq key) parts.1))
    (each_below (length columns) key parts.0)
