-- Two lists cut from one sorted list merge to the items that either of them has.
use Rattle.std.proofs.Common.{◌≡◌, List, [], ◌∷◌, refl, ap, ◌∙◌, Bool, true, inl, inr}
use Rattle.std.specs.Prelude.{Option, Some, None}
use Rattle.std.specs.List.{filter_map, cons_option}
use Rattle.std.specs.Option.{option_or}
use Rattle.std.specs.Cmp.{IsTotalOrder}
use Rattle.std.specs.Ordering.{ordering_reverse}
use Rattle.std.specs.declared.cmp.Ordering.{Ordering}
use Rattle.std.specs.declared.cmp.Ordering.TheVariants.{Less, Equal}
use Rattle.std.proofs.lemmas.Bool.{and_parts}
use Rattle.std.proofs.lemmas.Cmp.{tied_itself}
use Rattle.ldv_value.specs.Sorted.{precedes_first, is_strictly_sorted}
use Rattle.run_model.specs.Between.{IsIn}
use Rattle.run_laws.proofs.ListMembers.{filter_map_in}
use Rattle.joined_data.specs.Merging.{merged, first_clash}
use Rattle.joined_data.proofs.MergeLaws.{Before, After, first_alone, second_alone, together, first_passed, second_passed, compared}

-- ---- sorted lists

module _ {S K : Type 0} (key_of : S → K) (key_cmp : K → K → Ordering) where
  -- each item before all that follow
  abbrev pub Rising : List S → Type 0
  Rising [] = Unit {0}
  Rising (s ∷ ss) = ((t : S) → IsIn t ss → key_cmp (key_of s) (key_of t) ≡ Less) × Rising ss

  module _ (total : IsTotalOrder key_cmp) (lower : K → K → Bool) (less : (a b : K) → lower a b ≡ true → key_cmp a b ≡ Less) where
    abbrev under : S → S → Bool
    under s t = lower (key_of s) (key_of t)

    all_after : (s : S) (ss : List S) → precedes_first under s ss ≡ true → is_strictly_sorted under ss ≡ true
        → (t : S) → IsIn t ss → key_cmp (key_of s) (key_of t) ≡ Less
    all_after s [] first sorted t is = absurd is
    all_after s (u ∷ us) first sorted t (inl same) = ap (λ v. key_cmp (key_of s) (key_of v)) same ∙ less (key_of s) (key_of u) first
    all_after s (u ∷ us) first sorted t (inr more) =
        let parts = and_parts (precedes_first under u us) (is_strictly_sorted under us) sorted in
        total.trans (key_of s) (key_of u) (key_of t) (less (key_of s) (key_of u) first) (all_after u us parts.0 parts.1 t more)

    pub rising : (ss : List S) → is_strictly_sorted under ss ≡ true → Rising ss
    rising [] sorted = tt
    rising (s ∷ ss) sorted =
        let parts = and_parts (precedes_first under s ss) (is_strictly_sorted under ss) sorted in
        (all_after s ss parts.0 parts.1, rising ss parts.1)

-- ---- two cuts of one list

-- of either, or what is made of both
abbrev pub either : {X : Type 0} → (X → X → X) → Option X → Option X → Option X
either both None b = b
either both (Some x) None = Some x
either both (Some x) (Some y) = Some (both x y)

module _ {S X K : Type 0} (key_of : S → K) (key : X → K) (key_cmp : K → K → Ordering) (total : IsTotalOrder key_cmp)
    (f g : S → Option X)
    (f_keeps : (s : S) (x : X) → f s ≡ Some x → key x ≡ key_of s)
    (g_keeps : (s : S) (x : X) → g s ≡ Some x → key x ≡ key_of s) where
  abbrev pub by_key : X → X → Ordering
  by_key x y = key_cmp (key x) (key y)

  first_before : (s : S) (ss : List S) → ((t : S) → IsIn t ss → key_cmp (key_of s) (key_of t) ≡ Less)
      → (x : X) → f s ≡ Some x → Before by_key x (filter_map g ss)
  first_before s ss later x is y there =
      let from = filter_map_in g ss y there in
      (λ j. key_cmp (f_keeps s x is j) (g_keeps from.0 y from.1.1 j)) ∙ later from.0 from.1.0

  second_after : (s : S) (ss : List S) → ((t : S) → IsIn t ss → key_cmp (key_of s) (key_of t) ≡ Less)
      → (y : X) → g s ≡ Some y → After by_key y (filter_map f ss)
  second_after s ss later y is x there =
      let from = filter_map_in f ss x there in
      let less : key_cmp (key y) (key x) ≡ Less = (λ j. key_cmp (g_keeps s y is j) (f_keeps from.0 x from.1.1 j)) ∙ later from.0 from.1.0 in
      total.antisymm (key x) (key y) ∙ ap ordering_reverse less

  of_one : (s : S) (x y : X) → f s ≡ Some x → g s ≡ Some y → by_key x y ≡ Equal
  of_one s x y fs gs = (λ j. key_cmp (f_keeps s x fs j) (g_keeps s y gs j)) ∙ tied_itself total (key_of s)

  module _ (both : X → X → X) where
    pub merged_cut : (ss : List S) → Rising key_of key_cmp ss
        → merged by_key both (filter_map f ss) (filter_map g ss) ≡ filter_map (λ s. either both (f s) (g s)) ss
    merged_cut [] sorted = refl
    merged_cut (s ∷ ss) sorted = by (merged_cut ss sorted.1) (f s) (g s) refl refl
      where
        by : merged by_key both (filter_map f ss) (filter_map g ss) ≡ filter_map (λ (t : S). either both (f t) (g t)) ss
            → (a b : Option X) → f s ≡ a → g s ≡ b
            → merged by_key both (cons_option a (filter_map f ss)) (cons_option b (filter_map g ss))
            ≡ cons_option (either both a b) (filter_map (λ (t : S). either both (f t) (g t)) ss)
        by rest None None fs gs = rest
        by rest (Some x) None fs gs =
            first_alone by_key both x (filter_map f ss) (filter_map g ss) (first_before s ss sorted.0 x fs) ∙ ap (λ (l : List X). x ∷ l) rest
        by rest None (Some y) fs gs =
            second_alone by_key both (filter_map f ss) y (filter_map g ss) (second_after s ss sorted.0 y gs) ∙ ap (λ (l : List X). y ∷ l) rest
        by rest (Some x) (Some y) fs gs =
            together by_key both x (filter_map f ss) y (filter_map g ss) (of_one s x y fs gs) ∙ ap (λ (l : List X). both x y ∷ l) rest

  module _ {C : Type 0} (differ : X → X → Option C) where
    pub no_clash : (ss : List S) → Rising key_of key_cmp ss
        → ((s : S) → IsIn s ss → (x y : X) → f s ≡ Some x → g s ≡ Some y → differ x y ≡ None)
        → first_clash by_key differ (filter_map f ss) (filter_map g ss) ≡ None
    no_clash [] sorted none = refl
    no_clash (s ∷ ss) sorted none = by (no_clash ss sorted.1 (λ t is. none t (inr is))) (f s) (g s) refl refl
      where
        by : first_clash by_key differ (filter_map f ss) (filter_map g ss) ≡ None
            → (a b : Option X) → f s ≡ a → g s ≡ b
            → first_clash by_key differ (cons_option a (filter_map f ss)) (cons_option b (filter_map g ss)) ≡ None
        by rest None None fs gs = rest
        by rest (Some x) None fs gs =
            first_passed by_key differ x (filter_map f ss) (filter_map g ss) (first_before s ss sorted.0 x fs) ∙ rest
        by rest None (Some y) fs gs =
            second_passed by_key differ (filter_map f ss) y (filter_map g ss) (second_after s ss sorted.0 y gs) ∙ rest
        by rest (Some x) (Some y) fs gs =
            compared by_key differ x (filter_map f ss) y (filter_map g ss) (of_one s x y fs gs)
            ∙ ap (λ (o : Option C). option_or o (first_clash by_key differ (filter_map f ss) (filter_map g ss))) (none s (inl refl) x y fs gs)
            ∙ rest
