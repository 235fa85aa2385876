-- If all rows in the lineage of a merged row stay, so do those of each row that was merged into it.
use Rattle.std.proofs.Common.{◌≡◌, List, [], ◌∷◌, refl, sym, ◌∙◌, Bool, true, inl, inr}
use Rattle.std.specs.Prelude.{map, filter, not, ◌&&◌}
use Rattle.std.specs.List.{list_all}
use Rattle.std.specs.Cmp.{IsEquivalence}
use Rattle.std.specs.Cmp.Lexicographic.{lists_total}
use Rattle.std.proofs.lemmas.Cmp.{eq_by_cmp_equiv}
use Rattle.ldv_value.proofs.Booleans.{and-parts}
use Rattle.ldv_value.proofs.Cases.{cases-bool}
use Rattle.ldv_value.proofs.Lists.{list_all-map, list_all-weaker}
use Rattle.sql_laws.specs.Types.{Value}
use Rattle.sql_model.specs.QueryAnswer.{AnswerRow, answer_values, has_values, merged_row, distinct_values, merge}
use Rattle.ldv_value.specs.Order.{order_total}
use Rattle.sql_model.specs.Keys.{same_values}
use Rattle.sql_laws.specs.QueryLaw.{Keep}
use Rattle.sql_laws.proofs.QueryKeeps.{kept_row, lineage_kept}

same_equivalence : IsEquivalence same_values
same_equivalence = eq_by_cmp_equiv (lists_total order_total)

-- ---- a test of values that agrees on the same values

module _ (q : List Value → Bool) (alike : (v w : List Value) → same_values w v ≡ true → q v ≡ true → q w ≡ true) where
  same_too : (v : List Value) (ws : List (List Value)) → q v ≡ true
      → list_all q (filter (λ other. not (same_values other v)) ws) ≡ true → list_all q ws ≡ true
  same_too v [] here all = refl
  same_too v (w ∷ ws) here all = elim (cases-bool (same_values w v)) [
    | inl same ↦
        let kk : list_all q (filter (λ other. not (same_values other v)) ws) ≡ true = rw same at all in
        (λ j. alike v w same here j && same_too v ws here kk j)
    | inr other ↦
        let kk : (q w && list_all q (filter (λ other. not (same_values other v)) ws)) ≡ true = rw other at all in
        let both = and-parts (q w) (list_all q (filter (λ other. not (same_values other v)) ws)) kk in
        (λ j. both.0 j && same_too v ws here both.1 j)
  ]

  -- what each of the values passes all of them pass
  distinct_all : (vs : List (List Value)) → list_all q (distinct_values vs) ≡ true → list_all q vs ≡ true
  distinct_all [] all = refl
  distinct_all (v ∷ vs) all =
      let both = and-parts (q v) (list_all q (filter (λ other. not (same_values other v)) (distinct_values vs))) all in
      (λ j. both.0 j && distinct_all vs (same_too v (distinct_values vs) both.0 both.1) j)

-- ---- items that are taken together by their values

module _ {X : Type 0} (values_of : X → List Value) (p : X → Bool) where
  -- the items of the values
  abbrev pub those : List X → List Value → List X
  those items values = filter (λ item. same_values (values_of item) values) items

  -- all items of the values pass
  abbrev pub all_pass : List X → List Value → Bool
  all_pass items values = list_all p (those items values)

  pass_alike : (items : List X) (v w : List Value) → same_values w v ≡ true → all_pass items v ≡ true
      → all_pass items w ≡ true
  pass_alike items v w same all =
      let alike : (item : X) → same_values (values_of item) w ≡ same_values (values_of item) v = λ item.
      same_equivalence.symm (values_of item) w ∙ same_equivalence.congr w v (values_of item) same ∙ same_equivalence.symm v (values_of item) in
      (λ j. list_all p (filter (λ item. alike item j) items)) ∙ all

  first_passes : (item : X) (items : List X) → all_pass (item ∷ items) (values_of item) ≡ true → p item ≡ true
  first_passes item items all =
      let hit : same_values (values_of item) (values_of item) ≡ true = same_equivalence.refl (values_of item) in
      let kk : (p item && all_pass items (values_of item)) ≡ true = rw hit at all in
      (and-parts (p item) (all_pass items (values_of item)) kk).0

  others_pass : (item : X) (items : List X) (values : List Value) → all_pass (item ∷ items) values ≡ true
      → all_pass items values ≡ true
  others_pass item items values all = elim (cases-bool (same_values (values_of item) values)) [
    | inl hit ↦
        let kk : (p item && all_pass items values) ≡ true = rw hit at all in
        (and-parts (p item) (all_pass items values) kk).1
    | inr miss ↦ rw miss at all
  ]

  each_passes : (items : List X) → list_all (all_pass items) (map values_of items) ≡ true → list_all p items ≡ true
  each_passes [] all = refl
  each_passes (item ∷ items) all =
      let both = and-parts (all_pass (item ∷ items) (values_of item)) (list_all (all_pass (item ∷ items)) (map values_of items)) all in
      let more : list_all (all_pass items) (map values_of items) ≡ true = list_all-weaker (all_pass (item ∷ items)) (all_pass items) (others_pass item items) (map values_of items) both.1 in
      (λ j. first_passes item items both.0 j && each_passes items more j)

  -- where all items of each of the values pass, all pass
  pub parts_pass : (items : List X) → list_all (all_pass items) (distinct_values (map values_of items)) ≡ true
      → list_all p items ≡ true
  parts_pass items all = each_passes items (distinct_all (all_pass items) (pass_alike items) (map values_of items) all)

-- ---- answer rows

module _ (keep : Keep) where
  pub merged_kept : (rows : List AnswerRow) → list_all (kept_row keep) (merge rows) ≡ true
      → list_all (kept_row keep) rows ≡ true
  merged_kept rows all =
      let values : List (List Value) = map answer_values rows in
      let mapped : list_all (kept_row keep) (merge rows) ≡ list_all (λ v. kept_row keep (merged_row rows v)) (distinct_values values) = list_all-map (kept_row keep) (merged_row rows) (distinct_values values) in
      let tested : list_all (λ v. kept_row keep (merged_row rows v)) (distinct_values values) ≡ list_all (all_pass answer_values (kept_row keep) rows) (distinct_values values) = (λ j. list_all (λ v. lineage_kept keep (filter (has_values v) rows) j) (distinct_values values)) in
      parts_pass answer_values (kept_row keep) rows (sym tested ∙ sym mapped ∙ all)
