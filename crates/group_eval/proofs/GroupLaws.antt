-- Picks that are grouped one after another.
use Rattle.std.proofs.Common.{◌≡◌, ◌∙◌, sym, ap, refl, ℕ, zero, suc, ◌<◌, Bool, true, false, cond, not, List, [], ◌∷◌, ◌++◌, map, length, Option, Some, None, get_or, set, inl, inr, arith, append_assoc, append-nil}
use Rattle.std.specs.Prelude.{filter}
use Rattle.std.specs.List.{AllByRecursion}
use Rattle.std.specs.Option.{option_map}
use Rattle.std.specs.BTreeMap as tree
use Rattle.std.specs.BTreeMap.{BTreeMap}
use Rattle.std.proofs.lemmas.Bool.{cases_Bool}
use Rattle.std.proofs.lemmas.Simd.{map-map}
use Rattle.ldv_value.proofs.Booleans.{true≢false}
use Rattle.lineage.specs.declared.answer.Pick.{Pick}
use Rattle.predicates.proofs.Lists.{both_filters, kept_twice, all_kept}
use Rattle.predicates.proofs.CountedOn.{not_some, some_more, none_zero, later_some}
use Rattle.ldv_value.specs.Order.{values_order}
use Rattle.sql_model.specs.Keys.{same_values}
use Rattle.sql_model.specs.QueryAnswer.{distinct_values}
use Rattle.sql_model.proofs.SameValues.{same_turned, is_same, same_exact}
use Rattle.group_eval.specs.inner.Grouping.{key_of, is_under, picks_under, keyed_groups, own_picks, group_of}
use Rattle.group_eval.specs.inner.Grouping.{number_of, with_pick, groups_with_pick, grouped_onto, IsIndex}
use Rattle.group_eval.specs.Types.{Value}
use Rattle.group_eval.specs.declared.groups.KeyedGroup.{KeyedGroup}

-- ---- the number of a group

missed : (m : KeyedGroup) (ms : List KeyedGroup) (v : List Value) → number_of v (m ∷ ms) ≡ None → same_values m.key v ≡ false
missed m ms v is = elim (cases_Bool (same_values m.key v)) [
  | inl hit ↦
      let no : Some zero ≡ None = sym (ap (λ b. cond b (Some zero) (option_map suc (number_of v ms))) hit) ∙ is in
      cc
  | inr miss ↦ miss
]

missed_rest : (m : KeyedGroup) (ms : List KeyedGroup) (v : List Value) → number_of v (m ∷ ms) ≡ None → number_of v ms ≡ None
missed_rest m ms v is = not_some (number_of v ms) (sym (ap (λ b. cond b (Some zero) (option_map suc (number_of v ms))) (missed m ms v is)) ∙ is)

pub number_within : (ms : List KeyedGroup) (v : List Value) (i : ℕ) → number_of v ms ≡ Some i → i < length ms
number_within [] v i is = cc
number_within (m ∷ ms) v zero is = let more : length (m ∷ ms) ≡ suc (length ms) = refl in omega (arith, more)
number_within (m ∷ ms) v (suc i) is = elim (cases_Bool (same_values m.key v)) [
  | inl hit ↦
      let no : Some zero ≡ Some (suc i) = sym (ap (λ b. cond b (Some zero) (option_map suc (number_of v ms))) hit) ∙ is in
      let same : zero ≡ suc i = cc in
      absurd (omega (arith, same))
  | inr miss ↦
      let rest = number_within ms v i (some_more (number_of v ms) i (sym (ap (λ b. cond b (Some zero) (option_map suc (number_of v ms))) miss) ∙ is)) in
      let more : length (m ∷ ms) ≡ suc (length ms) = refl in
      omega (arith, rest, more)
]

module _ (places : List ℕ) where
  -- a group that is there takes the pick
  with_pick_again : (ms : List KeyedGroup) (p : Pick) (d : KeyedGroup) (i : ℕ) → number_of (key_of places p) ms ≡ Some i → groups_with_pick places ms p ≡ set ms i (with_pick (get_or ms i d) p)
  with_pick_again [] p d i is = cc
  with_pick_again (m ∷ ms) p d zero is = elim (cases_Bool (same_values m.key (key_of places p))) [
    | inl hit ↦ ap (λ b. cond b (with_pick m p ∷ ms) (m ∷ groups_with_pick places ms p)) hit
    | inr miss ↦ absurd (none_zero (number_of (key_of places p) ms) (sym (ap (λ b. cond b (Some zero) (option_map suc (number_of (key_of places p) ms))) miss) ∙ is))
  ]
  with_pick_again (m ∷ ms) p d (suc i) is = elim (cases_Bool (same_values m.key (key_of places p))) [
    | inl hit ↦
        let no : Some zero ≡ Some (suc i) = sym (ap (λ b. cond b (Some zero) (option_map suc (number_of (key_of places p) ms))) hit) ∙ is in
        let same : zero ≡ suc i = cc in
        absurd (omega (arith, same))
    | inr miss ↦
        ap (λ b. cond b (with_pick m p ∷ ms) (m ∷ groups_with_pick places ms p)) miss
        ∙ ap (λ l. m ∷ l) (with_pick_again ms p d i (some_more (number_of (key_of places p) ms) i (sym (ap (λ b. cond b (Some zero) (option_map suc (number_of (key_of places p) ms))) miss) ∙ is)))
  ]

  -- and stays where it is
  numbers_again : (ms : List KeyedGroup) (p : Pick) (i : ℕ) → number_of (key_of places p) ms ≡ Some i → (v : List Value) → number_of v (groups_with_pick places ms p) ≡ number_of v ms
  numbers_again [] p i is v = cc
  numbers_again (m ∷ ms) p i is v = elim (cases_Bool (same_values m.key (key_of places p))) [
    | inl hit ↦ ap (λ b. number_of v (cond b (with_pick m p ∷ ms) (m ∷ groups_with_pick places ms p))) hit
    | inr miss ↦
        ap (λ b. number_of v (cond b (with_pick m p ∷ ms) (m ∷ groups_with_pick places ms p))) miss
        ∙ ap (λ (o : Option ℕ). cond (same_values m.key v) (Some zero) (option_map suc o))
        (later_some (number_of (key_of places p) ms) (number_of v (groups_with_pick places ms p) ≡ number_of v ms) (λ k at. numbers_again ms p k at v) i
        (sym (ap (λ b. cond b (Some zero) (option_map suc (number_of (key_of places p) ms))) miss) ∙ is))
  ]

  pub set_again : (ms : List KeyedGroup) (p : Pick) (found more : KeyedGroup) (i : ℕ) → number_of (key_of places p) ms ≡ Some i → found ≡ get_or ms i found
      → more ≡ with_pick found p → set ms i more ≡ groups_with_pick places ms p
  set_again ms p found more i is here grown = ap (set ms i) (grown ∙ ap (λ (m : KeyedGroup). with_pick m p) here) ∙ sym (with_pick_again ms p found i is)

  pub numbers_set : (ms : List KeyedGroup) (p : Pick) (found more : KeyedGroup) (i : ℕ) → number_of (key_of places p) ms ≡ Some i → found ≡ get_or ms i found
      → more ≡ with_pick found p → (v : List Value) → number_of v (set ms i more) ≡ number_of v ms
  numbers_set ms p found more i is here grown v = ap (number_of v) (set_again ms p found more i is here grown) ∙ numbers_again ms p i is v

  -- the first pick of its values makes the last group
  abbrev alone : Pick → KeyedGroup
  alone p = group_of (key_of places p) (p ∷ [])

  pub with_pick_first : (ms : List KeyedGroup) (p : Pick) → number_of (key_of places p) ms ≡ None → groups_with_pick places ms p ≡ ms ++ group_of (key_of places p) (p ∷ []) ∷ []
  with_pick_first [] p none = refl
  with_pick_first (m ∷ ms) p none =
      ap (λ b. cond b (with_pick m p ∷ ms) (m ∷ groups_with_pick places ms p)) (missed m ms (key_of places p) none)
      ∙ ap (λ l. m ∷ l) (with_pick_first ms p (missed_rest m ms (key_of places p) none))

  numbers_first : (ms : List KeyedGroup) (p : Pick) → number_of (key_of places p) ms ≡ None → (v : List Value)
      → number_of v (ms ++ group_of (key_of places p) (p ∷ []) ∷ []) ≡ cond (same_values (key_of places p) v) (Some (length ms)) (number_of v ms)
  numbers_first [] p none v = refl
  numbers_first (m ∷ ms) p none v =
      ap (λ (o : Option ℕ). cond (same_values m.key v) (Some zero) (option_map suc o)) (numbers_first ms p (missed_rest m ms (key_of places p) none) v)
      ∙ elim (cases_Bool (same_values (key_of places p) v)) [
        | inl hit ↦
            let gone : same_values m.key v ≡ false = ap (same_values m.key) (sym (same_exact (key_of places p) v hit)) ∙ missed m ms (key_of places p) none in
            rw (hit, gone) refl
        | inr miss ↦ rw miss refl
      ]

  pub index_first : (m n : BTreeMap (List Value) ℕ) (ms new : List KeyedGroup) (p : Pick) (key : List Value) (number : ℕ) → IsIndex m ms → number_of (key_of places p) ms ≡ None
      → key ≡ key_of places p → number ≡ length ms
      → ((v : List Value) → tree.get values_order n v ≡ cond (same_values key v) (Some number) (tree.get values_order m v))
      → new ≡ ms ++ group_of (key_of places p) (p ∷ []) ∷ [] → IsIndex n new
  index_first m n ms new p key number index none own last wrote is v =
      wrote v ∙ (λ j. cond (same_values (own j) v) (Some (last j)) (index v j))
      ∙ sym (ap (number_of v) is ∙ numbers_first ms p none v)

  -- ---- all of them

  -- a group with the picks of its values
  abbrev grown : List Pick → KeyedGroup → KeyedGroup
  grown rest m = group_of m.key (m.picks ++ filter (is_under places m.key) rest)

  abbrev differs : List Value → Pick → Bool
  differs v p = not (is_under places v p)

  first_grows : (m : KeyedGroup) (rest : List Pick) (ms : List KeyedGroup) → grouped_onto places (m ∷ ms) rest ≡ grown rest m ∷ grouped_onto places ms (filter (differs m.key) rest)
  first_grows m [] ms = ap (λ l. group_of m.key l ∷ ms) (sym (append-nil m.picks))
  first_grows m (p ∷ rest) ms = elim (cases_Bool (same_values m.key (key_of places p))) [
    | inl hit ↦
        let back : is_under places m.key p ≡ true = same_turned (key_of places p) m.key ∙ hit in
        ap (λ b. grouped_onto places (cond b (with_pick m p ∷ ms) (m ∷ groups_with_pick places ms p)) rest) hit
        ∙ first_grows (with_pick m p) rest ms
        ∙ ap (λ l. group_of m.key l ∷ grouped_onto places ms (filter (differs m.key) rest))
        (append_assoc m.picks (p ∷ []) (filter (is_under places m.key) rest))
        ∙ sym (ap (λ b. group_of m.key (m.picks ++ cond b (p ∷ filter (is_under places m.key) rest) (filter (is_under places m.key) rest))
        ∷ grouped_onto places ms (cond (not b) (p ∷ filter (differs m.key) rest) (filter (differs m.key) rest))) back)
    | inr miss ↦
        let back : is_under places m.key p ≡ false = same_turned (key_of places p) m.key ∙ miss in
        ap (λ b. grouped_onto places (cond b (with_pick m p ∷ ms) (m ∷ groups_with_pick places ms p)) rest) miss
        ∙ first_grows m rest (groups_with_pick places ms p)
        ∙ sym (ap (λ b. group_of m.key (m.picks ++ cond b (p ∷ filter (is_under places m.key) rest) (filter (is_under places m.key) rest))
        ∷ grouped_onto places ms (cond (not b) (p ∷ filter (differs m.key) rest) (filter (differs m.key) rest))) back)
  ]

  twice : {X : Type 0} (p q : X → Bool) → ((x : X) → p x ≡ true → q x ≡ true) → (xs : List X) → filter p (filter q xs) ≡ filter p xs
  twice {X} p q implied xs = kept_twice p q xs (each xs)
    where
      each : (ys : List X) → AllByRecursion (λ y. p y ≡ true → q y ≡ true) ys
      each [] = tt
      each (y ∷ ys) = (implied y, each ys)

  map_kept : {X Y : Type 0} (p : X → Bool) (f g : X → Y) → ((x : X) → p x ≡ true → f x ≡ g x) → (xs : List X) → map f (filter p xs) ≡ map g (filter p xs)
  map_kept p f g same [] = refl
  map_kept p f g same (x ∷ xs) = elim (cases_Bool (p x)) [
    | inl hit ↦ rw hit (λ j. same x hit j ∷ map_kept p f g same xs j)
    | inr miss ↦ rw miss (map_kept p f g same xs)
  ]

  -- the group of some values, from all picks
  abbrev whole : List Pick → List Value → KeyedGroup
  whole picks v = group_of v (picks_under places picks v)

  -- a pick of other values makes no difference
  whole_past : (p : Pick) (rest : List Pick) (v : List Value) → same_values (key_of places p) v ≡ false → whole rest v ≡ whole (p ∷ rest) v
  whole_past p rest v miss = sym (ap (λ b. group_of v (cond b (p ∷ filter (is_under places v) rest) (filter (is_under places v) rest))) miss)

  apart_from : (q : List Value → Bool) (p : Pick) (v : List Value) → q (key_of places p) ≡ false → q v ≡ true → same_values (key_of places p) v ≡ false
  apart_from q p v none some = elim (cases_Bool (same_values (key_of places p) v)) [
    | inl hit ↦ absurd (true≢false (sym some ∙ ap q (sym (same_exact (key_of places p) v hit)) ∙ none))
    | inr miss ↦ miss
  ]

  not_is : (b : Bool) → not b ≡ true → b ≡ false
  not_is true is = cc
  not_is false is = refl

  and_first : (a b : Bool) → cond a b false ≡ true → a ≡ true
  and_first true b is = refl
  and_first false b is = cc

  swapped : (o q : Bool) → cond o q false ≡ cond q o false
  swapped true true = refl
  swapped true false = refl
  swapped false true = refl
  swapped false false = refl

  groups_kept : (picks : List Pick) (q : List Value → Bool)
      → grouped_onto places [] (filter (λ p. q (key_of places p)) picks) ≡ map (whole picks) (filter q (distinct_values (map (key_of places) picks)))
  groups_kept [] q = refl
  groups_kept (p ∷ rest) q =
      let own : List Value = key_of places p in
      let values : List (List Value) = distinct_values (map (key_of places) rest) in
      let other : List Value → Bool = λ o. not (same_values o own) in
      let kept : List Pick = filter (λ b. q (key_of places b)) rest in
      elim (cases_Bool (q own)) [
        | inl hit ↦
            let both : List Value → Bool = λ v. cond (other v) (q v) false in
            ap (λ b. grouped_onto places [] (cond b (p ∷ kept) kept)) hit
            ∙ first_grows (alone p) kept []
            ∙ (λ j. group_of own (p ∷ twice (is_under places own) (λ b. q (key_of places b)) (λ b same. ap q (same_exact (key_of places b) own same) ∙ hit) rest j)
            ∷ grouped_onto places [] (both_filters (differs own) (λ b. q (key_of places b)) (λ b. both (key_of places b)) (λ b. swapped (other (key_of places b)) (q (key_of places b))) rest j))
            ∙ ap (λ l. group_of own (p ∷ filter (is_under places own) rest) ∷ l)
            (groups_kept rest both
            ∙ map_kept both (whole rest) (whole (p ∷ rest)) (λ v is. whole_past p rest v (same_turned own v ∙ not_is (same_values v own) (and_first (other v) (q v) is))) values
            ∙ ap (map (whole (p ∷ rest))) (sym (both_filters q other both (λ v. refl) values)))
            ∙ ap (λ b. group_of own (cond b (p ∷ filter (is_under places own) rest) (filter (is_under places own) rest)) ∷ map (whole (p ∷ rest)) (filter q (filter other values)))
            (sym (is_same own own refl))
            ∙ ap (λ b. map (whole (p ∷ rest)) (cond b (own ∷ filter q (filter other values)) (filter q (filter other values)))) (sym hit)
        | inr miss ↦
            ap (λ b. grouped_onto places [] (cond b (p ∷ kept) kept)) miss
            ∙ groups_kept rest q
            ∙ map_kept q (whole rest) (whole (p ∷ rest)) (λ v is. whole_past p rest v (apart_from q p v miss is)) values
            ∙ ap (map (whole (p ∷ rest))) (sym (twice q other (λ v is. ap not (same_turned v own ∙ apart_from q p v miss is)) values))
            ∙ ap (λ b. map (whole (p ∷ rest)) (cond b (own ∷ filter q (filter other values)) (filter q (filter other values)))) (sym miss)
      ]

  pub keyed_are : (picks : List Pick) → map own_picks (grouped_onto places [] picks) ≡ keyed_groups places picks
  keyed_are picks =
      let values : List (List Value) = distinct_values (map (key_of places) picks) in
      ap (map own_picks)
      (ap (grouped_onto places []) (sym (all_kept (λ (p : Pick). true) (λ p. refl) picks))
      ∙ groups_kept picks (λ v. true)
      ∙ ap (map (whole picks)) (all_kept (λ (v : List Value). true) (λ v. refl) values))
      ∙ map-map own_picks (whole picks) values
