-- Rows that are merged, and again with more, are those that are merged with more alone. So UNION without ALL
-- may wait for the last one.
use Rattle.std.proofs.Common.{◌≡◌, ◌∙◌, sym, ap, refl, ℕ, zero, suc, ◌+◌, ◌<◌, ◌≤◌, Bool, true, false, cond, List, [], ◌∷◌, ◌++◌, map, drop, inl, inr, arith}
use Rattle.std.specs.Prelude.{filter, not, ◌||◌, nat_lt, if◌then◌else◌}
use Rattle.std.specs.List.{flat_map, list_any, AllByRecursion}
use Rattle.std.proofs.lemmas.Bool.{cases_Bool}
use Rattle.std.proofs.lemmas.List.{append-nil, map-append, map-id}
use Rattle.std.proofs.lemmas.Simd.{map-map}
use Rattle.std.proofs.lemmas.Grind.{flat_map-append}
use Rattle.ldv_value.proofs.Booleans.{true≢false, or-parts, or-right}
use Rattle.ldv_value.proofs.Lists.{filter-append, filter-filter}
use Rattle.predicates.proofs.Lists.{kept_twice}
use Rattle.sql_engine.specs.inner.Answering.{merges_later}
use Rattle.sql_engine.specs.Types.{Core, Table, Value}
use Rattle.sql_model.proofs.SameValues.{same_exact}
use Rattle.sql_model.specs.Keys.{same_values}
use Rattle.sql_model.specs.QueryAnswer.{Origin, AnswerRow, answer_values, lineage_of, distinct_values, has_values, merged_row, merge, once, union_answers, core_rows, rows_after}

-- ---- values, each once

abbrev differs : List Value → List Value → Bool
differs v other = not (same_values other v)

kept_all : {X : Type 0} (p q : X → Bool) → ((x : X) → p x ≡ true → q x ≡ true) → (xs : List X) → filter p (filter q xs) ≡ filter p xs
kept_all {X} p q implied xs = kept_twice p q xs (each xs)
  where
    each : (ys : List X) → AllByRecursion (λ y. p y ≡ true → q y ≡ true) ys
    each [] = tt
    each (y ∷ ys) = (implied y, each ys)

-- what passes a test isn't the same as what fails it
apart_from : (p : List Value → Bool) (v other : List Value) → p v ≡ false → p other ≡ true → same_values other v ≡ false
apart_from p v other fails passes = elim (cases_Bool (same_values other v)) [
  | inl hit ↦ absurd (true≢false (sym passes ∙ ap p (same_exact other v hit) ∙ fails))
  | inr miss ↦ miss
]

distinct_kept : (p : List Value → Bool) (vs : List (List Value)) → filter p (distinct_values vs) ≡ distinct_values (filter p vs)
distinct_kept p [] = refl
distinct_kept p (v ∷ vs) = elim (cases_Bool (p v)) [
  | inl hit ↦ rw hit (ap (λ l. v ∷ l) (filter-filter p (differs v) (distinct_values vs) ∙ ap (filter (differs v)) (distinct_kept p vs)))
  | inr miss ↦ rw miss (kept_all p (differs v) (λ other passes. ap not (apart_from p v other miss passes)) (distinct_values vs) ∙ distinct_kept p vs)
]

distinct_twice : (vs ws : List (List Value)) → distinct_values (distinct_values vs ++ ws) ≡ distinct_values (vs ++ ws)
distinct_twice [] ws = refl
distinct_twice (v ∷ vs) ws =
    let left : List (List Value) = distinct_values vs in
    ap (λ l. v ∷ l)
    (distinct_kept (differs v) (filter (differs v) left ++ ws)
    ∙ ap distinct_values (filter-append (differs v) (filter (differs v) left) ws
    ∙ ap (λ l. l ++ filter (differs v) ws) (kept_all (differs v) (differs v) (λ other is. is) left)
    ∙ sym (filter-append (differs v) left ws))
    ∙ sym (distinct_kept (differs v) (left ++ ws))
    ∙ ap (filter (differs v)) (distinct_twice vs ws))

-- ---- those of some values

abbrev is_at : List Value → List Value → Bool
is_at v other = same_values other v

none_left : (v w : List Value) → w ≡ v → (vs : List (List Value)) → filter (is_at v) (filter (differs w) vs) ≡ []
none_left v w same [] = refl
none_left v w same (x ∷ vs) = elim (cases_Bool (same_values x w)) [
  | inl hit ↦ rw hit (none_left v w same vs)
  | inr miss ↦
      let gone : same_values x v ≡ false = ap (same_values x) (sym same) ∙ miss in
      rw (miss, gone) (none_left v w same vs)
]

once_found : {X : Type 0} (f : List Value → List X) (v : List Value) (vs : List (List Value))
    → flat_map f (filter (is_at v) (distinct_values vs)) ≡ (if list_any (is_at v) vs then f v else [])
once_found f v [] = refl
once_found f v (w ∷ vs) = elim (cases_Bool (same_values w v)) [
  | inl hit ↦
      let same : w ≡ v = same_exact w v hit in
      rw hit (ap (λ l. f w ++ flat_map f l) (none_left v w same (distinct_values vs)) ∙ append-nil (f w) ∙ ap f same)
  | inr miss ↦
      rw miss (ap (flat_map f) (kept_all (is_at v) (differs w) (λ other passes. ap not (apart_from (is_at v) w other miss passes)) (distinct_values vs))
      ∙ once_found f v vs)
]

-- the lineage of the rows of some values
abbrev lineage_at : List Value → List AnswerRow → List Origin
lineage_at v rows = lineage_of (filter (has_values v) rows)

none_there : (v : List Value) (rows : List AnswerRow) → list_any (is_at v) (map answer_values rows) ≡ false → lineage_at v rows ≡ []
none_there v [] none = refl
none_there v (row ∷ rows) none =
    let both = or-parts (same_values row.values v) (list_any (is_at v) (map answer_values rows)) none in
    ap (λ b. lineage_of (cond b (row ∷ filter (has_values v) rows) (filter (has_values v) rows))) both.0 ∙ none_there v rows both.1

merged_at : (rows : List AnswerRow) (v : List Value) (vs : List (List Value))
    → lineage_at v (map (merged_row rows) vs) ≡ flat_map (λ w. lineage_at w rows) (filter (is_at v) vs)
merged_at rows v [] = refl
merged_at rows v (w ∷ vs) = elim (cases_Bool (same_values w v)) [
  | inl hit ↦ rw hit (ap (λ l. lineage_at w rows ++ l) (merged_at rows v vs))
  | inr miss ↦ rw miss (merged_at rows v vs)
]

lineage_kept : (v : List Value) (rows : List AnswerRow) → lineage_at v (merge rows) ≡ lineage_at v rows
lineage_kept v rows =
    let values : List (List Value) = map answer_values rows in
    merged_at rows v (distinct_values values) ∙ once_found (λ w. lineage_at w rows) v values
    ∙ elim (cases_Bool (list_any (is_at v) values)) [
      | inl hit ↦ ap (λ b. if b then lineage_at v rows else []) hit
      | inr miss ↦ ap (λ b. if b then lineage_at v rows else []) miss ∙ sym (none_there v rows miss)
    ]

-- ---- merging again

abbrev row_of : List Value → List Origin → AnswerRow
row_of values lineage = record { values = values; lineage = lineage }

pub merge_twice : (rows more : List AnswerRow) → merge (merge rows ++ more) ≡ merge (rows ++ more)
merge_twice rows more =
    let own : map answer_values (merge rows) ≡ distinct_values (map answer_values rows) =
    map-map answer_values (merged_row rows) (distinct_values (map answer_values rows)) ∙ map-id (distinct_values (map answer_values rows)) in
    let values : distinct_values (map answer_values (merge rows ++ more)) ≡ distinct_values (map answer_values (rows ++ more)) =
    ap distinct_values (map-append answer_values (merge rows) more ∙ ap (λ l. l ++ map answer_values more) own)
    ∙ distinct_twice (map answer_values rows) (map answer_values more)
    ∙ ap distinct_values (sym (map-append answer_values rows more)) in
    let joined : (v : List Value) (all : List AnswerRow) → lineage_at v (all ++ more) ≡ lineage_at v all ++ lineage_at v more = λ v all.
    ap lineage_of (filter-append (has_values v) all more)
    ∙ flat_map-append (λ (row : AnswerRow). row.lineage) (filter (has_values v) all) (filter (has_values v) more) in
    let same : (v : List Value) → merged_row (merge rows ++ more) v ≡ merged_row (rows ++ more) v = λ v.
    ap (row_of v) (joined v (merge rows) ∙ ap (λ l. l ++ lineage_at v more) (lineage_kept v rows) ∙ sym (joined v rows)) in
    λ j. map (λ v. same v j) (values j)

-- ---- cores

module _ (db : List Table) where
  later_merged : (cores : List Core) → merges_later cores ≡ true → (rows : List AnswerRow) → rows_after db (merge rows) cores ≡ rows_after db rows cores
  later_merged [] some rows = cc
  later_merged (core ∷ cores) some rows =
      let more : List AnswerRow = core_rows db core in
      elim (cases_Bool core.joined_all) [
        | inl all ↦
            let later : merges_later cores ≡ true = sym (ap (λ b. not b || merges_later cores) all) ∙ some in
            ap (λ b. rows_after db (union_answers b (merge rows) more) cores) all
            ∙ sym (later_merged cores later (merge rows ++ more))
            ∙ ap (λ l. rows_after db l cores) (merge_twice rows more)
            ∙ later_merged cores later (rows ++ more)
            ∙ sym (ap (λ b. rows_after db (union_answers b rows more) cores) all)
        | inr one ↦
            ap (λ b. rows_after db (union_answers b (merge rows) more) cores) one
            ∙ ap (λ l. rows_after db l cores) (merge_twice rows more)
            ∙ sym (ap (λ b. rows_after db (union_answers b rows more) cores) one)
      ]

  once_later : (cores : List Core) → merges_later cores ≡ true → (merges : Bool) (rows : List AnswerRow) → rows_after db (once merges rows) cores ≡ rows_after db rows cores
  once_later cores some true rows = later_merged cores some rows
  once_later cores some false rows = refl

  once_united : (all : Bool) (now after : List AnswerRow) → once (not all) (now ++ after) ≡ union_answers all now after
  once_united true now after = refl
  once_united false now after = refl

  -- whether rows are merged here or later is the same
  pub united_once : (core : Core) (left : List Core) (now : List AnswerRow) (merges : Bool) (place merged : ℕ)
      → (merged ≤ place → merges ≡ not core.joined_all) → (place < merged → merges_later left ≡ true)
      → rows_after db (once merges (now ++ core_rows db core)) left ≡ rows_after db now (core ∷ left)
  united_once core left now merges place merged choice later =
      let both : List AnswerRow = now ++ core_rows db core in
      let own : rows_after db (once (not core.joined_all) both) left ≡ rows_after db now (core ∷ left) =
      ap (λ l. rows_after db l left) (once_united core.joined_all now (core_rows db core)) in
      elim (cases_Bool (nat_lt place merged)) [
        | inl before ↦
            let some : merges_later left ≡ true = later (grind (arith, before)) in
            once_later left some merges both ∙ sym (once_later left some (not core.joined_all) both) ∙ own
        | inr after ↦ ap (λ b. rows_after db (once b both) left) (choice (grind (arith, after))) ∙ own
      ]

-- ---- the last of them

any_before : (cores : List Core) (i k : ℕ) → k ≤ i → merges_later (drop i cores) ≡ true → merges_later (drop k cores) ≡ true
any_before cores zero zero le some = some
any_before cores zero (suc k) le some = absurd (omega (arith, le))
any_before [] (suc i) zero le some = cc
any_before (core ∷ cores) (suc i) zero le some = or-right (not core.joined_all) (merges_later cores) (any_before cores i zero (omega arith) some)
any_before [] (suc i) (suc k) le some = cc
any_before (core ∷ cores) (suc i) (suc k) le some = any_before cores i k (omega (arith, le)) some

pub count_on : (cores rest : List Core) (core : Core) (i after count next : ℕ) → drop i cores ≡ core ∷ rest → after ≡ i + 1
    → next ≡ (if core.joined_all then count else after)
    → ((place : ℕ) → place < count → merges_later (drop place cores) ≡ true)
    → (place : ℕ) → place < next → merges_later (drop place cores) ≡ true
count_on cores rest core i after count next split is made before place below = elim (cases_Bool core.joined_all) [
  | inl all ↦
      let same : next ≡ count = made ∙ ap (λ b. if b then count else after) all in
      before place (omega (arith, below, same))
  | inr one ↦
      let same : next ≡ after = made ∙ ap (λ b. if b then count else after) one in
      let here : merges_later (drop i cores) ≡ true = ap merges_later split ∙ ap (λ b. not b || merges_later rest) one in
      any_before cores i place (omega (arith, below, is, same)) here
]
