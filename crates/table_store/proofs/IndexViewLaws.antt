-- The view of an index, by its two maps.
use Rattle.std.proofs.Common.{◌≡◌, ℕ, inl, inr, Bool, true, false, cond, List, [], ◌∷◌, refl, ap, sym, ◌∙◌, Option, Some, None}
use Rattle.std.specs.Prelude.{ℤ, IsSome}
use Rattle.std.specs.Option.{option_or}
use Rattle.std.specs.Ordering.{int_cmp, is_eq, ordering_then}
use Rattle.std.specs.BTreeMap.{is_at}
use Rattle.std.specs.Cmp.Lexicographic.{slice_cmp}
use Rattle.std.specs.declared.cmp.Ordering.{Ordering}
use Rattle.std.specs.declared.cmp.Ordering.TheVariants.{Less, Equal, Greater}
use Rattle.std.proofs.lemmas.Bool.{cases_Bool}
use Rattle.ldv_value.specs.Order.{order}
use Rattle.sql_model.specs.KeyOrder.{key_order}
use Rattle.sql_model.proofs.SameValues.{same_exact}
use Rattle.table_store.specs.Types.{Value, Null, Int, Text, RowKey}
use Rattle.table_store.specs.IndexView.{held_as}
use Rattle.table_store.specs.KeyIndex.{HeldKeys, in_place, int_key}
use Rattle.table_store.proofs.KeyMapLaws.{entered}

abbrev pub Ints : Type 0
Ints = ℤ → Option ℕ

-- ---- keys of one number

same_int : (m n : ℤ) → Some m ≡ Some n → m ≡ n
same_int m n is = cc

int_key_is : (values : List Value) (n : ℤ) → int_key values ≡ Some n → values ≡ Int n ∷ []
int_key_is [] n is = cc
int_key_is (Null ∷ []) n is = cc
int_key_is (Int m ∷ []) n is = ap (λ (z : ℤ). Int z ∷ []) (same_int m n is)
int_key_is (Text t ∷ []) n is = cc
int_key_is (value ∷ other ∷ values) n is = cc

abbrev hits : ℤ → Option ℤ → Bool
hits n None = false
hits n (Some m) = is_eq (int_cmp n m)

then_equal : (o : Ordering) → is_eq (ordering_then o Equal) ≡ is_eq o
then_equal Less = refl
then_equal Equal = refl
then_equal Greater = refl

then_less : (o : Ordering) → is_eq (ordering_then o Less) ≡ false
then_less Less = refl
then_less Equal = refl
then_less Greater = refl

at_int : (n : ℤ) (values : List Value) → is_eq (slice_cmp order (Int n ∷ []) values) ≡ hits n (int_key values)
at_int n [] = refl
at_int n (Null ∷ []) = refl
at_int n (Int m ∷ []) = then_equal (int_cmp n m)
at_int n (Text t ∷ []) = refl
at_int n (Null ∷ other ∷ values) = refl
at_int n (Int m ∷ other ∷ values) = then_less (int_cmp n m)
at_int n (Text t ∷ other ∷ values) = refl

-- two keys of one number that ties are the same
pub int_tied : (key other : List Value) (m n : ℤ) → int_key key ≡ Some m → int_key other ≡ Some n → is_eq (int_cmp m n) ≡ true → key ≡ other
int_tied key other m n one two tied =
    same_exact key other (ap (λ (values : List Value). is_eq (slice_cmp order values other)) (int_key_is key m one) ∙ at_int m other ∙ ap (hits m) two ∙ tied)

-- ---- a key that is put

pub put_int : (old new : Ints) (others : HeldKeys) (k : RowKey) (n : ℤ) (number : ℕ) → int_key k.values ≡ Some n
    → ((m : ℤ) → new m ≡ cond (is_at (int_cmp n) m) (Some number) (old m))
    → (q : RowKey) → held_as new (others q) (int_key q.values) ≡ cond (is_at (key_order k) q) (Some number) (held_as old (others q) (int_key q.values))
put_int old new others k n number is put q =
    by (int_key q.values) ∙ ap (λ b. cond b (Some number) (held_as old (others q) (int_key q.values))) (sym tie) where
      tie : is_at (key_order k) q ≡ hits n (int_key q.values)
      tie = ap (λ (values : List Value). is_eq (slice_cmp order values q.values)) (int_key_is k.values n is) ∙ at_int n q.values

      by : (o : Option ℤ) → held_as new (others q) o ≡ cond (hits n o) (Some number) (held_as old (others q) o)
      by None = refl
      by (Some m) = put m

pub put_other : (ints : Ints) (old new : HeldKeys) (k : RowKey) (number : ℕ) → int_key k.values ≡ None
    → ((q : RowKey) → new q ≡ cond (is_at (key_order k) q) (Some number) (old q))
    → (q : RowKey) → held_as ints (new q) (int_key q.values) ≡ cond (is_at (key_order k) q) (Some number) (held_as ints (old q) (int_key q.values))
put_other ints old new k number is put q = elim (cases_Bool (is_at (key_order k) q)) [
  | inl hit ↦
      let none : int_key q.values ≡ None = ap int_key (sym (same_exact k.values q.values hit)) ∙ is in
      ap (held_as ints (new q)) none ∙ put q ∙ ap (λ b. cond b (Some number) (old q)) hit
      ∙ sym (ap (λ b. cond b (Some number) (held_as ints (old q) (int_key q.values))) hit)
  | inr miss ↦
      ap (λ (o : Option ℕ). held_as ints o (int_key q.values)) (put q ∙ ap (λ b. cond b (Some number) (old q)) miss)
      ∙ sym (ap (λ b. cond b (Some number) (held_as ints (old q) (int_key q.values))) miss)
]

-- ---- both maps at once

pub same_both : (old new : Ints) (others more : HeldKeys) → ((m : ℤ) → new m ≡ old m) → ((q : RowKey) → more q ≡ others q)
    → (q : RowKey) → held_as new (more q) (int_key q.values) ≡ held_as old (others q) (int_key q.values)
same_both old new others more same_ints same q = by (int_key q.values) where
  by : (o : Option ℤ) → held_as new (more q) o ≡ held_as old (others q) o
  by None = same q
  by (Some m) = same_ints m

pub none_both : (ints : Ints) (others : HeldKeys) → ((m : ℤ) → ints m ≡ None) → ((q : RowKey) → others q ≡ None)
    → (q : RowKey) → held_as ints (others q) (int_key q.values) ≡ None
none_both ints others no_ints none q = by (int_key q.values) where
  by : (o : Option ℤ) → held_as ints (others q) o ≡ None
  by None = none q
  by (Some m) = no_ints m

pub kept_both : (old new : Ints) (others more : HeldKeys) → ((m : ℤ) (n : ℕ) → old m ≡ Some n → new m ≡ Some n) → ((q : RowKey) (n : ℕ) → others q ≡ Some n → more q ≡ Some n)
    → (q : RowKey) (n : ℕ) → held_as old (others q) (int_key q.values) ≡ Some n → held_as new (more q) (int_key q.values) ≡ Some n
kept_both old new others more keeps_ints keeps q n = by (int_key q.values) where
  by : (o : Option ℤ) → held_as old (others q) o ≡ Some n → held_as new (more q) o ≡ Some n
  by None is = keeps q n is
  by (Some m) is = keeps_ints m n is

pub some_both : (old new : Ints) (others more : HeldKeys) → ((m : ℤ) → IsSome (old m) → IsSome (new m)) → ((q : RowKey) → IsSome (others q) → IsSome (more q))
    → (q : RowKey) → IsSome (held_as old (others q) (int_key q.values)) → IsSome (held_as new (more q) (int_key q.values))
some_both old new others more some_ints some q = by (int_key q.values) where
  by : (o : Option ℤ) → IsSome (held_as old (others q) o) → IsSome (held_as new (more q) o)
  by None is = some q is
  by (Some m) is = some_ints m is

-- ---- numbers that are taken over

in_place_or : (a b : Option ℕ) → (IsSome a → IsSome b) → in_place a b ≡ option_or a b
in_place_or None b some = refl
in_place_or (Some n) None some = let wrong : false ≡ true = some refl in cc
in_place_or (Some n) (Some m) some = refl

pub taken_both : (left old new : Ints) (others held more : HeldKeys) → ((m : ℤ) → new m ≡ in_place (left m) (old m)) → ((q : RowKey) → more q ≡ in_place (others q) (held q))
    → ((q : RowKey) → IsSome (held_as left (others q) (int_key q.values)) → IsSome (held_as old (held q) (int_key q.values)))
    → (q : RowKey) → held_as new (more q) (int_key q.values) ≡ option_or (held_as left (others q) (int_key q.values)) (held_as old (held q) (int_key q.values))
taken_both left old new others held more set_ints set some q =
    by (int_key q.values) ∙ in_place_or (held_as left (others q) (int_key q.values)) (held_as old (held q) (int_key q.values)) (some q) where
      by : (o : Option ℤ) → held_as new (more q) o ≡ in_place (held_as left (others q) o) (held_as old (held q) o)
      by None = set q
      by (Some m) = set_ints m

-- ---- places that are entered

pub entered_both : (next : ℕ) (left old new : Ints) (others held more : HeldKeys) → ((m : ℤ) → new m ≡ entered next (left m) (old m)) → ((q : RowKey) → more q ≡ entered next (others q) (held q))
    → (q : RowKey) → held_as new (more q) (int_key q.values) ≡ entered next (held_as left (others q) (int_key q.values)) (held_as old (held q) (int_key q.values))
entered_both next left old new others held more ints rest q = by (int_key q.values) where
  by : (o : Option ℤ) → held_as new (more q) o ≡ entered next (held_as left (others q) o) (held_as old (held q) o)
  by None = rest q
  by (Some m) = ints m

pub others_both : (left old new : Ints) (others held more : HeldKeys) → ((m : ℤ) → left m ≡ None → new m ≡ old m) → ((q : RowKey) → others q ≡ None → more q ≡ held q)
    → (q : RowKey) → held_as left (others q) (int_key q.values) ≡ None → held_as new (more q) (int_key q.values) ≡ held_as old (held q) (int_key q.values)
others_both left old new others held more ints rest q = by (int_key q.values) where
  by : (o : Option ℤ) → held_as left (others q) o ≡ None → held_as new (more q) o ≡ held_as old (held q) o
  by None none = rest q none
  by (Some m) none = ints m none
