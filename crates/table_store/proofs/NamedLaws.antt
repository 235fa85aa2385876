-- Lists of tables that are sorted by name.
use Rattle.std.proofs.Common.{◌≡◌, ◌≢◌, ℕ, zero, suc, ◌<◌, inl, inr, Bool, true, false, cond, ◌&&◌, List, [], ◌∷◌, map, length, get_or, set, refl, ap, sym, ◌∙◌, arith, Some, None}
use Rattle.std.specs.Prelude.{find}
use Rattle.std.specs.Ordering.{nat_cmp, is_lt, is_eq, ordering_reverse}
use Rattle.std.specs.List.Sorted.{IsPartitionedBy}
use Rattle.std.specs.Option.{option_map}
use Rattle.std.specs.declared.cmp.Ordering.{Ordering}
use Rattle.std.specs.declared.cmp.Ordering.TheVariants.{Less, Equal, Greater}
use Rattle.std.specs.Cmp.Lexicographic.{slice_cmp, nat_list_cmp_total}
use Rattle.std.proofs.lemmas.Bool.{cases_lt}
use Rattle.std.proofs.lemmas.Map.Text.{is_eq-slice_cmp}
use Rattle.ldv_value.proofs.Booleans.{and-parts}
use Rattle.ldv_value.specs.Sorted.{is_strictly_sorted, precedes_first, text_precedes}
use Rattle.ldv_value.proofs.SameBytes.{bytes_eq-true, bytes_eq-itself, bytes_eq-other}
use Rattle.ldv_value.proofs.TextOrders.{text_trans, text_apart}
use Rattle.sql_model.specs.Scope.{same_text}

-- ---- names

-- a name that isn't before another, and isn't that one, is after it
pub text_after : (a b : List ℕ) → text_precedes a b ≡ false → a ≢ b → text_precedes b a ≡ true
text_after a b not_before apart = by (slice_cmp nat_cmp a b) refl where
  by : (o : Ordering) → slice_cmp nat_cmp a b ≡ o → text_precedes b a ≡ true
  by Less is = let wrong : true ≡ false = sym (ap is_lt is) ∙ not_before in cc
  by Equal is = absurd (apart (bytes_eq-true a b (sym (is_eq-slice_cmp a b) ∙ ap is_eq is)))
  by Greater is = ap is_lt (nat_list_cmp_total.antisymm b a ∙ ap ordering_reverse is)

-- ---- lists of what has a name

module _ {X : Type 0} (name_of : X → List ℕ) (d : X) where
  abbrev pub is_sorted : List X → Bool
  is_sorted xs = is_strictly_sorted (λ a b. text_precedes (name_of a) (name_of b)) xs

  abbrev pub first_is_before : X → List X → Bool
  first_is_before x xs = precedes_first (λ a b. text_precedes (name_of a) (name_of b)) x xs

  abbrev pub name_at : List X → ℕ → List ℕ
  name_at xs k = name_of (get_or xs k d)

  pub after_first : (x : X) (xs : List X) → first_is_before x xs ≡ true → is_sorted xs ≡ true → (k : ℕ) → k < length xs → text_precedes (name_of x) (name_at xs k) ≡ true
  after_first x [] first sorted k below = absurd (omega (arith, below))
  after_first x (y ∷ ys) first sorted zero below = first
  after_first x (y ∷ ys) first sorted (suc k) below =
      let both = and-parts (first_is_before y ys) (is_sorted ys) sorted in
      text_trans (name_of x) (name_of y) (name_at ys k) first (after_first y ys both.0 both.1 k (omega (arith, below)))

  -- names rise along the list
  pub names_rise : (xs : List X) → is_sorted xs ≡ true → (i j : ℕ) → i < j → j < length xs → text_precedes (name_at xs i) (name_at xs j) ≡ true
  names_rise [] sorted i j less below = absurd (omega (arith, below))
  names_rise (x ∷ xs) sorted i zero less below = absurd (omega (arith, less))
  names_rise (x ∷ xs) sorted zero (suc j) less below =
      let both = and-parts (first_is_before x xs) (is_sorted xs) sorted in after_first x xs both.0 both.1 j (omega (arith, below))
  names_rise (x ∷ xs) sorted (suc i) (suc j) less below =
      let both = and-parts (first_is_before x xs) (is_sorted xs) sorted in names_rise xs both.1 i j (omega (arith, less)) (omega (arith, below))

  module _ (name : List ℕ) where
    abbrev pub is_named : X → Bool
    is_named x = same_text (name_of x) name

    other_before : (x y : X) → text_precedes (name_of x) (name_of y) ≡ true → is_named y ≡ true → is_named x ≡ false
    other_before x y before is = bytes_eq-other (name_of x) name (λ same. text_apart (name_of x) (name_of y) before (same ∙ sym (bytes_eq-true (name_of y) name is)))

    other_after : (x y : X) → text_precedes (name_of x) (name_of y) ≡ true → is_named x ≡ true → is_named y ≡ false
    other_after x y before is = bytes_eq-other (name_of y) name (λ same. text_apart (name_of x) (name_of y) before (bytes_eq-true (name_of x) name is ∙ sym same))

    none_changed : (f : X → X) (xs : List X) → ((k : ℕ) → k < length xs → is_named (get_or xs k d) ≡ false) → xs ≡ map (λ x. cond (is_named x) (f x) x) xs
    none_changed f [] apart = refl
    none_changed f (x ∷ xs) apart =
        let away : is_named x ≡ false = apart 0 (omega arith) in
        λ j. sym (ap (λ b. cond b (f x) x) away) j ∷ none_changed f xs (λ k below. apart (suc k) (omega (arith, below))) j

    -- the one of a name is changed
    pub named_set : (f : X → X) (xs : List X) (place : ℕ) → is_sorted xs ≡ true → place < length xs → is_named (get_or xs place d) ≡ true
        → set xs place (f (get_or xs place d)) ≡ map (λ x. cond (is_named x) (f x) x) xs
    named_set f [] place sorted within is = absurd (omega (arith, within))
    named_set f (x ∷ xs) zero sorted within is =
        let both = and-parts (first_is_before x xs) (is_sorted xs) sorted in
        λ j. sym (ap (λ b. cond b (f x) x) is) j ∷ none_changed f xs (λ k below. other_after x (get_or xs k d) (after_first x xs both.0 both.1 k below) is) j
    named_set f (x ∷ xs) (suc place) sorted within is =
        let both = and-parts (first_is_before x xs) (is_sorted xs) sorted in
        let below : place < length xs = omega (arith, within) in
        let away : is_named x ≡ false = other_before x (get_or xs place d) (after_first x xs both.0 both.1 place below) is in
        λ j. sym (ap (λ b. cond b (f x) x) away) j ∷ named_set f xs place both.1 below is j

    -- it is the one that is found
    pub named_found : (xs : List X) (place : ℕ) → is_sorted xs ≡ true → place < length xs → is_named (get_or xs place d) ≡ true → find (λ x. is_named x) xs ≡ Some (get_or xs place d)
    named_found [] place sorted within is = absurd (omega (arith, within))
    named_found (x ∷ xs) zero sorted within is = ap (λ b. cond b (Some x) (find (λ y. is_named y) xs)) is
    named_found (x ∷ xs) (suc place) sorted within is =
        let both = and-parts (first_is_before x xs) (is_sorted xs) sorted in
        let below : place < length xs = omega (arith, within) in
        let away : is_named x ≡ false = other_before x (get_or xs place d) (after_first x xs both.0 both.1 place below) is in
        ap (λ b. cond b (Some x) (find (λ y. is_named y) xs)) away ∙ named_found xs place both.1 below is

    pub none_found : (xs : List X) → ((k : ℕ) → k < length xs → is_named (get_or xs k d) ≡ false) → find (λ x. is_named x) xs ≡ None
    none_found [] apart = refl
    none_found (x ∷ xs) apart =
        ap (λ b. cond b (Some x) (find (λ y. is_named y) xs)) (apart 0 (omega arith)) ∙ none_found xs (λ k below. apart (suc k) (omega (arith, below)))

    before_apart : (x : X) → text_precedes (name_of x) name ≡ true → is_named x ≡ false
    before_apart x before = bytes_eq-other (name_of x) name (text_apart (name_of x) name before)

    -- no name is found where all are before it
    pub all_before : (xs : List X) → ((k : ℕ) → k < length xs → text_precedes (name_at xs k) name ≡ true) → find (λ x. is_named x) xs ≡ None
    all_before xs before = none_found xs (λ k below. before_apart (get_or xs k d) (before k below))

    -- nor where it isn't at its place
    pub not_at : (xs : List X) (place : ℕ) → is_sorted xs ≡ true → place < length xs → ((k : ℕ) → k < place → text_precedes (name_at xs k) name ≡ true) → text_precedes (name_at xs place) name ≡ false → is_named (get_or xs place d) ≡ false
        → find (λ x. is_named x) xs ≡ None
    not_at xs place sorted within before after other = none_found xs (λ k below. elim (cases_lt k place) [
      | inl low ↦ before_apart (get_or xs k d) (before k low)
      | inr from ↦ elim (cases_lt place k) [
        | inl high ↦
            let apart : name_at xs place ≢ name = λ same. (let wrong : true ≡ false = sym (bytes_eq-itself name) ∙ ap (λ (n : List ℕ). same_text n name) (sym same) ∙ other in cc) in
            let past : text_precedes name (name_at xs k) ≡ true = text_trans name (name_at xs place) (name_at xs k) (text_after (name_at xs place) name after apart) (names_rise xs sorted place k high below) in
            bytes_eq-other (name_at xs k) name (λ same. text_apart name (name_at xs k) past (sym same))
        | inr to ↦ let here : k ≡ place = omega (arith, from, to) in ap (λ (n : ℕ). is_named (get_or xs n d)) here ∙ other
      ]
    ])

    -- where names are the same, what is found is
    pub found_set : {Y : Type 0} (g : X → Y) (xs : List X) (place : ℕ) (new : X) → name_of new ≡ name_at xs place → g new ≡ g (get_or xs place d)
        → option_map g (find (λ x. is_named x) (set xs place new)) ≡ option_map g (find (λ x. is_named x) xs)
    found_set g [] place new named same = refl
    found_set {Y = Y} g (x ∷ xs) zero new named same =
        (λ j. option_map g (cond (same_text (named j) name) (Some new) (find (λ y. is_named y) xs))) ∙ by (is_named x) where
          by : (b : Bool) → option_map g (cond b (Some new) (find (λ y. is_named y) xs)) ≡ option_map g (cond b (Some x) (find (λ y. is_named y) xs))
          by true = ap (λ (y : Y). Some y) same
          by false = refl
    found_set g (x ∷ xs) (suc place) new named same = by (is_named x) (found_set g xs place new named same) where
      by : (b : Bool) → option_map g (find (λ y. is_named y) (set xs place new)) ≡ option_map g (find (λ y. is_named y) xs)
          → option_map g (cond b (Some x) (find (λ y. is_named y) (set xs place new))) ≡ option_map g (cond b (Some x) (find (λ y. is_named y) xs))
      by true rest = refl
      by false rest = rest

  set_first : (x : X) (xs : List X) (place : ℕ) (new : X) → name_of new ≡ name_at xs place → first_is_before x (set xs place new) ≡ first_is_before x xs
  set_first x [] place new named = refl
  set_first x (y ∷ ys) zero new named = ap (λ (n : List ℕ). text_precedes (name_of x) n) named
  set_first x (y ∷ ys) (suc place) new named = refl

  -- the list is sorted as before
  pub set_sorted : (xs : List X) (place : ℕ) (new : X) → name_of new ≡ name_at xs place → is_sorted (set xs place new) ≡ is_sorted xs
  set_sorted [] place new named = refl
  set_sorted (x ∷ xs) zero new named = ap (λ b. b && is_sorted xs) (first_same new x xs named) where
    first_same : (a b : X) (ys : List X) → name_of a ≡ name_of b → first_is_before a ys ≡ first_is_before b ys
    first_same a b [] same = refl
    first_same a b (y ∷ ys) same = ap (λ (n : List ℕ). text_precedes n (name_of y)) same
  set_sorted (x ∷ xs) (suc place) new named = λ j. set_first x xs place new named j && set_sorted xs place new named j

-- those that are before a name come first
pub named_parted : {X : Type 0} (name_of : X → List ℕ) (name : List ℕ) (xs : List X) → is_strictly_sorted (λ (a b : X). text_precedes (name_of a) (name_of b)) xs ≡ true → IsPartitionedBy (λ (x : X). text_precedes (name_of x) name) xs
named_parted name_of name xs sorted i j d to within before = elim (cases_lt i j) [
  | inl less ↦ text_trans (name_of (get_or xs i d)) (name_of (get_or xs j d)) name (names_rise name_of d xs sorted i j less within) before
  | inr from ↦ let same : i ≡ j = omega (arith, from, to) in ap (λ (k : ℕ). text_precedes (name_of (get_or xs k d)) name) same ∙ before
]
