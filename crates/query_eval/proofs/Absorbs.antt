-- Answers merged one after another.
use Rattle.std.proofs.Common.{◌≡◌, ◌∙◌, sym, ap, refl, ℕ, zero, suc, ◌<◌, Bool, true, false, cond, not, List, [], ◌∷◌, ◌++◌, map, length, Option, Some, None, get_or, set, inl, inr, arith}
use Rattle.std.specs.Prelude.{filter}
use Rattle.std.specs.List.{AllByRecursion}
use Rattle.std.specs.Option.{option_map}
use Rattle.std.specs.BTreeMap as tree
use Rattle.std.specs.BTreeMap.{BTreeMap}
use Rattle.std.proofs.lemmas.Bool.{cases_Bool}
use Rattle.ldv_value.proofs.Booleans.{true≢false, not-true}
use Rattle.lineage.specs.Lineage.{Lineage, union_of}
use Rattle.lineage.specs.declared.answer.Answer.{Answer}
use Rattle.lineage.proofs.Unions.{union_assoc, none_union}
use Rattle.predicates.proofs.Lists.{both_filters, kept_twice, all_kept}
use Rattle.predicates.proofs.CountedOn.{not_some, some_more, none_zero, later_some}
use Rattle.ldv_value.specs.Order.{values_order}
use Rattle.sql_model.specs.Keys.{same_values}
use Rattle.sql_model.specs.QueryAnswer.{distinct_values}
use Rattle.sql_model.proofs.SameValues.{same_turned, is_same, same_exact}
use Rattle.lineage.specs.Rows.{with_more}
use Rattle.query_eval.specs.Merging.{lineage_of_answers, own_values, with_values, merged_answer, place_of, with_answer, merged_onto, IsIndex}
use Rattle.query_eval.specs.Types.{Value}

-- ---- the place of an answer

missed : (m : Answer) (ms : List Answer) (v : List Value) → place_of v (m ∷ ms) ≡ None → same_values m.values v ≡ false
missed m ms v is = elim (cases_Bool (same_values m.values v)) [
  | inl hit ↦
      let no : Some zero ≡ None = sym (ap (λ b. cond b (Some zero) (option_map suc (place_of v ms))) hit) ∙ is in
      cc
  | inr miss ↦ miss
]

missed_rest : (m : Answer) (ms : List Answer) (v : List Value) → place_of v (m ∷ ms) ≡ None → place_of v ms ≡ None
missed_rest m ms v is = not_some (place_of v ms) (sym (ap (λ b. cond b (Some zero) (option_map suc (place_of v ms))) (missed m ms v is)) ∙ is)

pub place_within : (ms : List Answer) (v : List Value) (i : ℕ) → place_of v ms ≡ Some i → i < length ms
place_within [] v i is = cc
place_within (m ∷ ms) v zero is = let more : length (m ∷ ms) ≡ suc (length ms) = refl in omega (arith, more)
place_within (m ∷ ms) v (suc i) is = elim (cases_Bool (same_values m.values v)) [
  | inl hit ↦
      let no : Some zero ≡ Some (suc i) = sym (ap (λ b. cond b (Some zero) (option_map suc (place_of v ms))) hit) ∙ is in
      let same : zero ≡ suc i = cc in
      absurd (omega (arith, same))
  | inr miss ↦
      let rest = place_within ms v i (some_more (place_of v ms) i (sym (ap (λ b. cond b (Some zero) (option_map suc (place_of v ms))) miss) ∙ is)) in
      let more : length (m ∷ ms) ≡ suc (length ms) = refl in
      omega (arith, rest, more)
]

-- an answer that is there takes the lineage
pub absorbed_again : (ms : List Answer) (a d : Answer) (i : ℕ) → place_of a.values ms ≡ Some i → with_answer ms a ≡ set ms i (with_more (get_or ms i d) a)
absorbed_again [] a d i is = cc
absorbed_again (m ∷ ms) a d zero is = elim (cases_Bool (same_values m.values a.values)) [
  | inl hit ↦ ap (λ b. cond b (with_more m a ∷ ms) (m ∷ with_answer ms a)) hit
  | inr miss ↦ absurd (none_zero (place_of a.values ms) (sym (ap (λ b. cond b (Some zero) (option_map suc (place_of a.values ms))) miss) ∙ is))
]
absorbed_again (m ∷ ms) a d (suc i) is = elim (cases_Bool (same_values m.values a.values)) [
  | inl hit ↦
      let no : Some zero ≡ Some (suc i) = sym (ap (λ b. cond b (Some zero) (option_map suc (place_of a.values ms))) hit) ∙ is in
      let same : zero ≡ suc i = cc in
      absurd (omega (arith, same))
  | inr miss ↦
      ap (λ b. cond b (with_more m a ∷ ms) (m ∷ with_answer ms a)) miss
      ∙ ap (λ l. m ∷ l) (absorbed_again ms a d i (some_more (place_of a.values ms) i (sym (ap (λ b. cond b (Some zero) (option_map suc (place_of a.values ms))) miss) ∙ is)))
]

-- and stays where it is
pub places_again : (ms : List Answer) (a : Answer) (i : ℕ) → place_of a.values ms ≡ Some i → (v : List Value) → place_of v (with_answer ms a) ≡ place_of v ms
places_again [] a i is v = cc
places_again (m ∷ ms) a i is v = elim (cases_Bool (same_values m.values a.values)) [
  | inl hit ↦ ap (λ b. place_of v (cond b (with_more m a ∷ ms) (m ∷ with_answer ms a))) hit
  | inr miss ↦
      ap (λ b. place_of v (cond b (with_more m a ∷ ms) (m ∷ with_answer ms a))) miss
      ∙ ap (λ (o : Option ℕ). cond (same_values m.values v) (Some zero) (option_map suc o))
      (later_some (place_of a.values ms) (place_of v (with_answer ms a) ≡ place_of v ms) (λ k at. places_again ms a k at v) i
      (sym (ap (λ b. cond b (Some zero) (option_map suc (place_of a.values ms))) miss) ∙ is))
]

pub set_again : (ms : List Answer) (a found more : Answer) (i : ℕ) → place_of a.values ms ≡ Some i → found ≡ get_or ms i found
    → more ≡ with_more found a → set ms i more ≡ with_answer ms a
set_again ms a found more i is here grown = ap (set ms i) (grown ∙ ap (λ (m : Answer). with_more m a) here) ∙ sym (absorbed_again ms a found i is)

pub places_set : (ms : List Answer) (a found more : Answer) (i : ℕ) → place_of a.values ms ≡ Some i → found ≡ get_or ms i found
    → more ≡ with_more found a → (v : List Value) → place_of v (set ms i more) ≡ place_of v ms
places_set ms a found more i is here grown v = ap (place_of v) (set_again ms a found more i is here grown) ∙ places_again ms a i is v

-- one that isn't comes last
pub absorbed_first : (ms : List Answer) (a : Answer) → place_of a.values ms ≡ None → with_answer ms a ≡ ms ++ a ∷ []
absorbed_first [] a none = refl
absorbed_first (m ∷ ms) a none =
    ap (λ b. cond b (with_more m a ∷ ms) (m ∷ with_answer ms a)) (missed m ms a.values none)
    ∙ ap (λ l. m ∷ l) (absorbed_first ms a (missed_rest m ms a.values none))

pub places_first : (ms : List Answer) (a : Answer) → place_of a.values ms ≡ None → (v : List Value)
    → place_of v (ms ++ a ∷ []) ≡ cond (same_values a.values v) (Some (length ms)) (place_of v ms)
places_first [] a none v = refl
places_first (m ∷ ms) a none v =
    ap (λ (o : Option ℕ). cond (same_values m.values v) (Some zero) (option_map suc o)) (places_first ms a (missed_rest m ms a.values none) v)
    ∙ elim (cases_Bool (same_values a.values v)) [
      | inl hit ↦
          let gone : same_values m.values v ≡ false = ap (same_values m.values) (sym (same_exact a.values v hit)) ∙ missed m ms a.values none in
          rw (hit, gone) refl
      | inr miss ↦ rw miss refl
    ]

pub index_first : (m n : BTreeMap (List Value) ℕ) (ms new : List Answer) (a : Answer) (key : List Value) (place : ℕ) → IsIndex m ms → place_of a.values ms ≡ None
    → key ≡ a.values → place ≡ length ms
    → ((v : List Value) → tree.get values_order n v ≡ cond (same_values key v) (Some place) (tree.get values_order m v)) → new ≡ ms ++ a ∷ [] → IsIndex n new
index_first m n ms new a key place index none own last wrote is v =
    wrote v ∙ (λ j. cond (same_values (own j) v) (Some (last j)) (index v j))
    ∙ sym (ap (place_of v) is ∙ places_first ms a none v)

-- ---- all of them

abbrev answer_of : List Value → Lineage → Answer
answer_of values lineage = record { values = values; lineage = lineage }

-- an answer with the lineages of those of its values
abbrev grown : List Answer → Answer → Answer
grown rest m = answer_of m.values (union_of m.lineage (lineage_of_answers (filter (with_values m.values) rest)))

abbrev differs : List Value → Answer → Bool
differs v a = not (same_values a.values v)

first_grows : (m : Answer) (rest ms : List Answer) → merged_onto (m ∷ ms) rest ≡ grown rest m ∷ merged_onto ms (filter (differs m.values) rest)
first_grows m [] ms = ap (λ l. answer_of m.values l ∷ ms) (sym (none_union m.lineage))
first_grows m (a ∷ rest) ms = elim (cases_Bool (same_values m.values a.values)) [
  | inl hit ↦
      let back : same_values a.values m.values ≡ true = same_turned a.values m.values ∙ hit in
      ap (λ b. merged_onto (cond b (with_more m a ∷ ms) (m ∷ with_answer ms a)) rest) hit
      ∙ first_grows (with_more m a) rest ms
      ∙ ap (λ l. answer_of m.values l ∷ merged_onto ms (filter (differs m.values) rest))
      (union_assoc m.lineage a.lineage (lineage_of_answers (filter (with_values m.values) rest)))
      ∙ sym (ap (λ b. answer_of m.values (union_of m.lineage (lineage_of_answers (cond b (a ∷ filter (with_values m.values) rest) (filter (with_values m.values) rest))))
      ∷ merged_onto ms (cond (not b) (a ∷ filter (differs m.values) rest) (filter (differs m.values) rest))) back)
  | inr miss ↦
      let back : same_values a.values m.values ≡ false = same_turned a.values m.values ∙ miss in
      ap (λ b. merged_onto (cond b (with_more m a ∷ ms) (m ∷ with_answer ms a)) rest) miss
      ∙ first_grows m rest (with_answer ms a)
      ∙ sym (ap (λ b. answer_of m.values (union_of m.lineage (lineage_of_answers (cond b (a ∷ filter (with_values m.values) rest) (filter (with_values m.values) rest))))
      ∷ merged_onto ms (cond (not b) (a ∷ filter (differs m.values) rest) (filter (differs m.values) rest))) back)
]

filter-of-implied : {X : Type 0} (p q : X → Bool) → ((x : X) → p x ≡ true → q x ≡ true) → (xs : List X) → filter p (filter q xs) ≡ filter p xs
filter-of-implied {X} p q implied xs = kept_twice p q xs (each xs)
  where
    each : (ys : List X) → AllByRecursion (λ y. p y ≡ true → q y ≡ true) ys
    each [] = tt
    each (y ∷ ys) = (implied y, each ys)

map_kept : {X Y : Type 0} (p : X → Bool) (f g : X → Y) → ((x : X) → p x ≡ true → f x ≡ g x) → (xs : List X) → map f (filter p xs) ≡ map g (filter p xs)
map_kept p f g same [] = refl
map_kept p f g same (x ∷ xs) = elim (cases_Bool (p x)) [
  | inl hit ↦ rw hit (λ j. same x hit j ∷ map_kept p f g same xs j)
  | inr miss ↦ rw miss (map_kept p f g same xs)
]

-- an answer of other values makes no difference
merged_past : (a : Answer) (rest : List Answer) (v : List Value) → same_values a.values v ≡ false → merged_answer rest v ≡ merged_answer (a ∷ rest) v
merged_past a rest v miss = sym (ap (λ b. answer_of v (lineage_of_answers (cond b (a ∷ filter (with_values v) rest) (filter (with_values v) rest)))) miss)

apart_from : (p : List Value → Bool) (a : Answer) (v : List Value) → p a.values ≡ false → p v ≡ true → same_values a.values v ≡ false
apart_from p a v none some = elim (cases_Bool (same_values a.values v)) [
  | inl hit ↦ absurd (true≢false (sym some ∙ ap p (sym (same_exact a.values v hit)) ∙ none))
  | inr miss ↦ miss
]

and_first : (a b : Bool) → cond a b false ≡ true → a ≡ true
and_first true b is = refl
and_first false b is = cc

and_second : (a b : Bool) → cond a b false ≡ true → b ≡ true
and_second true b is = is
and_second false b is = cc

swapped : (o q : Bool) → cond o q false ≡ cond q o false
swapped true true = refl
swapped true false = refl
swapped false true = refl
swapped false false = refl

merges_kept : (answers : List Answer) (p : List Value → Bool) → merged_onto [] (filter (λ a. p a.values) answers) ≡ map (merged_answer answers) (filter p (distinct_values (map own_values answers)))
merges_kept [] p = refl
merges_kept (a ∷ rest) p =
    let values : List (List Value) = distinct_values (map own_values rest) in
    let other : List Value → Bool = λ o. not (same_values o a.values) in
    elim (cases_Bool (p a.values)) [
      | inl hit ↦
          let both : List Value → Bool = λ v. cond (other v) (p v) false in
          let kept : List Answer = filter (λ b. p b.values) rest in
          ap (λ b. merged_onto [] (cond b (a ∷ kept) kept)) hit
          ∙ first_grows a kept []
          ∙ (λ j. answer_of a.values (union_of a.lineage (lineage_of_answers (filter-of-implied (with_values a.values) (λ b. p b.values) (λ b same. ap p (same_exact b.values a.values same) ∙ hit) rest j)))
          ∷ merged_onto [] (both_filters (differs a.values) (λ b. p b.values) (λ b. both b.values) (λ b. swapped (other b.values) (p b.values)) rest j))
          ∙ ap (λ l. answer_of a.values (union_of a.lineage (lineage_of_answers (filter (with_values a.values) rest))) ∷ l)
          (merges_kept rest both
          ∙ map_kept both (merged_answer rest) (merged_answer (a ∷ rest)) (λ v is. merged_past a rest v (same_turned a.values v ∙ not-true (same_values v a.values) (and_first (other v) (p v) is))) values
          ∙ ap (map (merged_answer (a ∷ rest))) (sym (both_filters p other both (λ v. refl) values)))
          ∙ ap (λ b. answer_of a.values (lineage_of_answers (cond b (a ∷ filter (with_values a.values) rest) (filter (with_values a.values) rest))) ∷ map (merged_answer (a ∷ rest)) (filter p (filter other values)))
          (sym (is_same a.values a.values refl))
          ∙ ap (λ b. map (merged_answer (a ∷ rest)) (cond b (a.values ∷ filter p (filter other values)) (filter p (filter other values)))) (sym hit)
      | inr miss ↦
          ap (λ b. merged_onto [] (cond b (a ∷ filter (λ b. p b.values) rest) (filter (λ b. p b.values) rest))) miss
          ∙ merges_kept rest p
          ∙ map_kept p (merged_answer rest) (merged_answer (a ∷ rest)) (λ v is. merged_past a rest v (apart_from p a v miss is)) values
          ∙ ap (map (merged_answer (a ∷ rest))) (sym (filter-of-implied p other (λ v is. ap not (same_turned v a.values ∙ apart_from p a v miss is)) values))
          ∙ ap (λ b. map (merged_answer (a ∷ rest)) (cond b (a.values ∷ filter p (filter other values)) (filter p (filter other values)))) (sym miss)
    ]

pub merges : (answers : List Answer) → merged_onto [] answers ≡ map (merged_answer answers) (distinct_values (map own_values answers))
merges answers =
    ap (merged_onto []) (sym (all_kept (λ (a : Answer). true) (λ a. refl) answers))
    ∙ merges_kept answers (λ v. true)
    ∙ ap (map (merged_answer answers)) (all_kept (λ (v : List Value). true) (λ v. refl) (distinct_values (map own_values answers)))
