-- Merging, sorting and cutting answer rows, and lists of needed rows, look at lineages as sets.
use Rattle.std.proofs.Common.{◌≡◌, zero, suc, List, [], ◌∷◌, refl, sym, ap, ◌∙◌, subst, Bool, true, false, inl, inr}
use Rattle.std.specs.Prelude.{map, filter, not, ◌&&◌, ◌||◌}
use Rattle.std.specs.List.{list_any, list_all}
use Rattle.std.specs.Ordering.{is_gt}
use Rattle.std.specs.declared.cmp.Ordering.{Ordering}
use Rattle.ldv_value.proofs.Booleans.{or-from, not-so}
use Rattle.ldv_value.proofs.Cases.{cases-bool}
use Rattle.sql_laws.specs.LineageLaw.{MergeLaw, UnitesLaw, MergeSetsLaw, SortLaw, SortSetsLaw, CutSetsLaw}
use Rattle.sql_laws.specs.QueryLaw.{Keep}
use Rattle.sql_laws.specs.Types.{Value}
use Rattle.sql_laws.proofs.QueryKeeps.{all_kept, kept_row, lineage_kept}
use Rattle.sql_laws.proofs.QueryMerging.{merged_kept}
use Rattle.sql_model.proofs.OriginSets.{has_origin-lineage, rows-lineage, rows-values}
use Rattle.sql_model.specs.QueryAnswer.{Origin, AnswerRow, SortKey, order_by, answer_values, lineage_of, distinct_values, has_values, merged_row, merge, sort_rows}
use Rattle.sql_model.specs.Keys.{same_values}
use Rattle.sql_model.specs.Origins.{is_origin, has_origin, SameSet, SameRows}
use Rattle.sql_model.specs.Sorting.{put_sorted, sorted_by}
use Rattle.ldv_value.proofs.Lists.{list_any-filter}

-- ---- merging loses no row

-- every row stays but one
all_but : Origin → Keep
all_but o table row = not (is_origin o (record { table = table; row = row }))

kept_unless : (o : Origin) (os : List Origin) → all_kept (all_but o) os ≡ not (has_origin o os)
unfolding all_but
kept_unless o [] = refl
kept_unless o (p ∷ ps) = ap (λ b. not (is_origin o p) && b) (kept_unless o ps) ∙ by (is_origin o p) (has_origin o ps)
  where
    by : (a b : Bool) → (not a && not b) ≡ not (a || b)
    by true b = refl
    by false b = refl

none_merged : (o : Origin) (rows : List AnswerRow) → has_origin o (lineage_of rows) ≡ false
    → has_origin o (lineage_of (merge rows)) ≡ false
none_merged o rows none =
    let has : AnswerRow → Bool = λ row. has_origin o row.lineage in
    let among : list_any has rows ≡ false = sym (has_origin-lineage o rows) ∙ none in
    let each : (v : List Value) → has (merged_row rows v) ≡ false = λ v. has_origin-lineage o (filter (has_values v) rows) ∙ list_any-filter has (has_values v) rows among in
    has_origin-lineage o (merge rows) ∙ by has each (distinct_values (map answer_values rows))
  where
    by : (has : AnswerRow → Bool) → ((v : List Value) → has (merged_row rows v) ≡ false) → (vs : List (List Value))
        → list_any has (map (merged_row rows) vs) ≡ false
    by has each [] = refl
    by has each (v ∷ vs) = or-from (has (merged_row rows v)) (list_any has (map (merged_row rows) vs)) (each v) (by has each vs)

none_lost : (o : Origin) (rows : List AnswerRow) → has_origin o (lineage_of (merge rows)) ≡ false
    → has_origin o (lineage_of rows) ≡ false
none_lost o rows none =
    let kept : list_all (kept_row (all_but o)) (merge rows) ≡ true = sym (lineage_kept (all_but o) (merge rows)) ∙ kept_unless o (lineage_of (merge rows)) ∙ ap not none in
    let all : not (has_origin o (lineage_of rows)) ≡ true = sym (kept_unless o (lineage_of rows)) ∙ lineage_kept (all_but o) rows ∙ merged_kept (all_but o) rows kept in
    not-so (has_origin o (lineage_of rows)) (λ is. by (sym (ap not is) ∙ all))
  where
    by : false ≡ true → ⊥
    by wrong = cc

same_by : (a b : Bool) → (a ≡ false → b ≡ false) → (b ≡ false → a ≡ false) → a ≡ b
same_by true true there back = refl
same_by true false there back = sym (sym (back refl))
same_by false true there back = sym (there refl)
same_by false false there back = refl

pub merge_law : MergeLaw
merge_law rows o = same_by (has_origin o (lineage_of (merge rows))) (has_origin o (lineage_of rows)) (none_lost o rows) (none_merged o rows)

any_among : {X : Type 0} (p q : X → Bool) (xs : List X) → list_any p (filter q xs) ≡ list_any (λ x. q x && p x) xs
any_among p q [] = refl
any_among p q (x ∷ xs) = elim (cases-bool (q x)) [
  | inl here ↦ rw here (ap (λ b. p x || b) (any_among p q xs))
  | inr gone ↦ rw gone (any_among p q xs)
]

pub unites_law : UnitesLaw
unites_law rows values o =
    has_origin-lineage o (filter (has_values values) rows)
    ∙ any_among (λ row. has_origin o row.lineage) (has_values values) rows

-- ---- and looks at lineages as sets

filter_same : (v : List Value) (a b : List AnswerRow) → SameRows a b
    → SameRows (filter (has_values v) a) (filter (has_values v) b)
filter_same v [] [] same = tt
filter_same v [] (s ∷ ss) same = absurd same
filter_same v (r ∷ rs) [] same = absurd same
filter_same v (r ∷ rs) (s ∷ ss) same =
    let more : SameRows (filter (has_values v) rs) (filter (has_values v) ss) = filter_same v rs ss same.2 in
    let alike : has_values v r ≡ has_values v s = λ j. same_values (same.0 j) v in
    elim (cases-bool (has_values v s)) [
      | inl here ↦ rw (alike ∙ here, here) (same.0, same.1, more)
      | inr gone ↦ rw (alike ∙ gone, gone) more
    ]

merged_same : (a b : List AnswerRow) → SameRows a b → (vs : List (List Value))
    → SameRows (map (merged_row a) vs) (map (merged_row b) vs)
merged_same a b same [] = tt
merged_same a b same (v ∷ vs) =
    (refl, rows-lineage (filter (has_values v) a) (filter (has_values v) b) (filter_same v a b same), merged_same a b same vs)

pub merge_sets_law : MergeSetsLaw
merge_sets_law a b same =
    subst (λ vs. SameRows (merge a) (map (merged_row b) vs)) (ap distinct_values (rows-values a b same))
    (merged_same a b same (distinct_values (map answer_values a)))

-- ---- sorting

any_put : {A : Type 0} (cmp : A → A → Ordering) (p : A → Bool) (x : A) (ys : List A)
    → list_any p (put_sorted cmp x ys) ≡ (p x || list_any p ys)
any_put cmp p x [] = refl
any_put cmp p x (y ∷ ys) = elim (cases-bool (is_gt (cmp x y))) [
  | inl after ↦ rw after (ap (λ b. p y || b) (any_put cmp p x ys) ∙ by (p y) (p x) (list_any p ys))
  | inr before ↦ rw before refl
]
  where
    by : (a b c : Bool) → (a || (b || c)) ≡ (b || (a || c))
    by true true c = refl
    by true false c = refl
    by false b c = refl

any_sorted : {A : Type 0} (cmp : A → A → Ordering) (p : A → Bool) (xs : List A)
    → list_any p (sorted_by cmp xs) ≡ list_any p xs
any_sorted cmp p [] = refl
any_sorted cmp p (x ∷ xs) = any_put cmp p x (sorted_by cmp xs) ∙ ap (λ b. p x || b) (any_sorted cmp p xs)

pub sort_law : SortLaw
sort_law keys rows o =
    has_origin-lineage o (sort_rows keys rows)
    ∙ any_sorted (λ a b. order_by keys a.values b.values) (λ row. has_origin o row.lineage) rows
    ∙ sym (has_origin-lineage o rows)

module _ (keys : List SortKey) where
  abbrev by_keys : AnswerRow → AnswerRow → Ordering
  by_keys a b = order_by keys a.values b.values

  put_same : (r s : AnswerRow) → r.values ≡ s.values → SameSet r.lineage s.lineage → (a b : List AnswerRow) → SameRows a b
      → SameRows (put_sorted by_keys r a) (put_sorted by_keys s b)
  put_same r s values lineage [] [] same = (values, lineage, tt)
  put_same r s values lineage [] (t ∷ ts) same = absurd same
  put_same r s values lineage (q ∷ qs) [] same = absurd same
  put_same r s values lineage (q ∷ qs) (t ∷ ts) same =
      let alike : is_gt (by_keys r q) ≡ is_gt (by_keys s t) = λ j. is_gt (order_by keys (values j) (same.0 j)) in
      elim (cases-bool (is_gt (by_keys s t))) [
        | inl after ↦ rw (alike ∙ after, after) (same.0, same.1, put_same r s values lineage qs ts same.2)
        | inr before ↦ rw (alike ∙ before, before) (values, lineage, same)
      ]

  sorted_same : (a b : List AnswerRow) → SameRows a b → SameRows (sort_rows keys a) (sort_rows keys b)
  sorted_same [] [] same = tt
  sorted_same [] (s ∷ ss) same = absurd same
  sorted_same (r ∷ rs) [] same = absurd same
  sorted_same (r ∷ rs) (s ∷ ss) same =
      put_same r s same.0 same.1 (sort_rows keys rs) (sort_rows keys ss) (sorted_same rs ss same.2)

pub sort_sets_law : SortSetsLaw
sort_sets_law keys a b same = sorted_same keys a b same

-- ---- the first rows and the others

pub cut_sets_law : CutSetsLaw
cut_sets_law zero a b same = (tt, same)
cut_sets_law (suc n) [] [] same = (tt, tt)
cut_sets_law (suc n) [] (s ∷ ss) same = absurd same
cut_sets_law (suc n) (r ∷ rs) [] same = absurd same
cut_sets_law (suc n) (r ∷ rs) (s ∷ ss) same =
    let more = cut_sets_law n rs ss same.2 in ((same.0, same.1, more.0), more.1)
