-- The items of one of two merged lists are picked out again.
use Rattle.std.proofs.Common.{◌≡◌, List, [], ◌∷◌, refl, sym, ap, ◌∙◌, inl, inr}
use Rattle.std.specs.Prelude.{Option, Some, None, map}
use Rattle.std.specs.List.{filter_map, cons_option}
use Rattle.std.specs.Cmp.{IsTotalOrder}
use Rattle.std.specs.Ordering.{ordering_reverse}
use Rattle.std.specs.declared.cmp.Ordering.{Ordering}
use Rattle.std.specs.declared.cmp.Ordering.TheVariants.{Less, Equal, Greater}
use Rattle.std.proofs.lemmas.Cmp.{tied_back}
use Rattle.run_model.specs.Between.{IsIn}
use Rattle.joined_data.specs.Merging.{merged}
use Rattle.joined_data.proofs.Cuts.{Rising}

module _ {X K : Type 0} (key : X → K) (key_cmp : K → K → Ordering) (total : IsTotalOrder key_cmp) where
  abbrev pub keyed : X → X → Ordering
  keyed x y = key_cmp (key x) (key y)

  -- ---- the lists may change places

  module _ (both : X → X → X) where
    pub merged_none : (xs : List X) → merged keyed both xs [] ≡ xs
    merged_none [] = refl
    merged_none (x ∷ xs) = ap (λ (l : List X). x ∷ l) (merged_none xs)

  module _ (both : X → X → X) where
    abbrev flipped : X → X → X
    flipped x y = both y x

    pub merged_flip : (xs ys : List X) → merged keyed both xs ys ≡ merged keyed flipped ys xs
    merged_flip [] ys = sym (merged_none flipped ys)
    merged_flip (x ∷ xs) ys = inner ys (λ zs. merged_flip xs zs)
      where
        inner : (zs : List X) → ((us : List X) → merged keyed both xs us ≡ merged keyed flipped us xs) → merged keyed both (x ∷ xs) zs ≡ merged keyed flipped zs (x ∷ xs)
        inner [] later = ap (λ (l : List X). x ∷ l) (merged_none both xs)
        inner (z ∷ zs) later = by (keyed x z) refl (inner zs later)
          where
            by : (o : Ordering) → keyed x z ≡ o → merged keyed both (x ∷ xs) zs ≡ merged keyed flipped zs (x ∷ xs)
                → merged keyed both (x ∷ xs) (z ∷ zs) ≡ merged keyed flipped (z ∷ zs) (x ∷ xs)
            by Less is rest =
                let back : keyed z x ≡ Greater = total.antisymm (key z) (key x) ∙ ap ordering_reverse is in
                rw (is, back) (ap (λ (l : List X). x ∷ l) (later (z ∷ zs)))
            by Equal is rest =
                let back : keyed z x ≡ Equal = tied_back total (key x) (key z) is in
                rw (is, back) (ap (λ (l : List X). both x z ∷ l) (later zs))
            by Greater is rest =
                let back : keyed z x ≡ Less = total.antisymm (key z) (key x) ∙ ap ordering_reverse is in
                rw (is, back) (ap (λ (l : List X). z ∷ l) rest)

  -- ---- the items of the first list

  module _ (both : X → X → X) {Z : Type 0} (own : Z → X) (pick : X → Option Z) where
    none_picked : (ys : List X) → ((y : X) → IsIn y ys → pick y ≡ None) → filter_map pick ys ≡ []
    none_picked [] none = refl
    none_picked (y ∷ ys) none = λ j. cons_option (none y (inl refl) j) (none_picked ys (λ u is. none u (inr is)) j)

    -- each item of the first list is picked, alone or with one of the second, and no other of the second
    pub record PicksFirst (zs : List Z) (ys : List X) : Type 0 where
      pub alone : (z : Z) → IsIn z zs → pick (own z) ≡ Some z
      pub shared : (z : Z) (y : X) → IsIn z zs → IsIn y ys → keyed (own z) y ≡ Equal → pick (both (own z) y) ≡ Some z
      pub others : (y : X) → IsIn y ys → ((z : Z) → IsIn z zs → keyed (own z) y ≡ Equal → ⊥) → pick y ≡ None

    abbrev own_key : Z → K
    own_key z = key (own z)

    -- without the first item, which is before the rest of the second list
    fewer : (z : Z) (zs : List Z) (us ys : List X) → ((y : X) → IsIn y us → IsIn y ys) → ((y : X) → IsIn y us → keyed (own z) y ≡ Less)
        → PicksFirst (z ∷ zs) ys → PicksFirst zs us
    fewer z zs us ys among before p = record {
      alone = λ u is. p.alone u (inr is);
      shared = λ u y is there. p.shared u y (inr is) (among y there);
      others = λ y there apart. p.others y (among y there) (differ y there apart);
    }
      where
        differ : (y : X) → IsIn y us → ((u : Z) → IsIn u zs → keyed (own u) y ≡ Equal → ⊥) → (u : Z) → IsIn u (z ∷ zs) → keyed (own u) y ≡ Equal → ⊥
        differ y there apart u (inl same) equal =
            let never : Less ≡ Equal = sym (before y there) ∙ ap (λ (v : Z). keyed (own v) y) (sym same) ∙ equal in cc
        differ y there apart u (inr more) equal = apart u more equal

    shorter : (zs : List Z) (y : X) (ys : List X) → PicksFirst zs (y ∷ ys) → PicksFirst zs ys
    shorter zs y ys p = record {
      alone = p.alone;
      shared = λ u x is there. p.shared u x is (inr there);
      others = λ x there. p.others x (inr there);
    }

    pub first_picked : (zs : List Z) (ys : List X) → Rising own_key key_cmp zs → Rising key key_cmp ys → PicksFirst zs ys
        → filter_map pick (merged keyed both (map own zs) ys) ≡ zs
    first_picked [] ys rz ry p = none_picked ys (λ y is. p.others y is (λ z never. absurd never))
    first_picked (z ∷ zs) ys rz ry p = inner ys ry p (λ us ru q. first_picked zs us rz.1 ru q)
      where
        one_more : (o : Option Z) (rest : List Z) → o ≡ Some z → rest ≡ zs → cons_option o rest ≡ z ∷ zs
        one_more o rest is same = λ j. cons_option (is j) (same j)

        inner : (us : List X) → Rising key key_cmp us → PicksFirst (z ∷ zs) us
            → ((vs : List X) → Rising key key_cmp vs → PicksFirst zs vs → filter_map pick (merged keyed both (map own zs) vs) ≡ zs)
            → filter_map pick (merged keyed both (map own (z ∷ zs)) us) ≡ z ∷ zs
        inner [] ru q later =
            one_more (pick (own z)) (filter_map pick (merged keyed both (map own zs) [])) (q.alone z (inl refl))
            (later [] tt (fewer z zs [] [] (λ y is. is) (λ y never. absurd never) q))
        inner (u ∷ us) ru q later = by (keyed (own z) u) refl (inner us ru.1 (shorter (z ∷ zs) u us q) later)
          where
            after_less : keyed (own z) u ≡ Less → (y : X) → IsIn y (u ∷ us) → keyed (own z) y ≡ Less
            after_less is y (inl same) = ap (keyed (own z)) same ∙ is
            after_less is y (inr more) = total.trans (key (own z)) (key u) (key y) is (ru.0 y more)

            after_equal : keyed (own z) u ≡ Equal → (y : X) → IsIn y us → keyed (own z) y ≡ Less
            after_equal is y more = total.congr (key (own z)) (key u) (key y) is ∙ ru.0 y more

            -- u is before all of the first list
            before_all : keyed (own z) u ≡ Greater → (v : Z) → IsIn v (z ∷ zs) → keyed (own v) u ≡ Equal → ⊥
            before_all is v (inl same) equal =
                let never : Greater ≡ Equal = sym is ∙ ap (λ (w : Z). keyed (own w) u) (sym same) ∙ equal in cc
            before_all is v (inr more) equal =
                let back : key_cmp (key u) (key (own z)) ≡ Less = total.antisymm (key u) (key (own z)) ∙ ap ordering_reverse is in
                let less : key_cmp (key u) (key (own v)) ≡ Less = total.trans (key u) (key (own z)) (key (own v)) back (rz.0 v more) in
                let tied : key_cmp (key u) (key (own v)) ≡ Equal = tied_back total (key (own v)) (key u) equal in
                let never : Less ≡ Equal = sym less ∙ tied in cc

            by : (o : Ordering) → keyed (own z) u ≡ o → filter_map pick (merged keyed both (map own (z ∷ zs)) us) ≡ z ∷ zs
                → filter_map pick (merged keyed both (map own (z ∷ zs)) (u ∷ us)) ≡ z ∷ zs
            by Less is rest =
                rw is (one_more (pick (own z)) (filter_map pick (merged keyed both (map own zs) (u ∷ us))) (q.alone z (inl refl))
                (later (u ∷ us) ru (fewer z zs (u ∷ us) (u ∷ us) (λ y there. there) (after_less is) q)))
            by Equal is rest =
                rw is (one_more (pick (both (own z) u)) (filter_map pick (merged keyed both (map own zs) us)) (q.shared z u (inl refl) (inl refl) is)
                (later us ru.1 (fewer z zs us (u ∷ us) (λ y there. inr there) (after_equal is) q)))
            by Greater is rest =
                rw is (let none : pick u ≡ None = q.others u (inl refl) (before_all is) in
                ap (λ (o : Option Z). cons_option o (filter_map pick (merged keyed both (map own (z ∷ zs)) us))) none ∙ rest)
