-- Two lists that rise merge to one that rises; each of its items is from one of them, or made from one of
-- each.
use Rattle.std.proofs.Common.{◌≡◌, List, [], ◌∷◌, refl, ap, ◌∙◌, inl, inr}
use Rattle.std.specs.Prelude.{◌⊎◌}
use Rattle.std.specs.Cmp.{IsTotalOrder}
use Rattle.std.specs.Ordering.{ordering_reverse, match_ordering}
use Rattle.std.specs.declared.cmp.Ordering.{Ordering}
use Rattle.std.specs.declared.cmp.Ordering.TheVariants.{Less, Equal, Greater}
use Rattle.run_model.specs.Between.{IsIn}
use Rattle.joined_data.specs.Merging.{merged}
use Rattle.joined_data.proofs.Cuts.{Rising}

module _ {X K : Type 0} (key : X → K) (key_cmp : K → K → Ordering) (total : IsTotalOrder key_cmp) (both : X → X → X)
    (keeps : (x y : X) → key_cmp (key x) (key y) ≡ Equal → key (both x y) ≡ key x) where
  abbrev by_key : X → X → Ordering
  by_key x y = key_cmp (key x) (key y)

  abbrev IsOfBoth : X → List X → List X → Type 0
  IsOfBoth z xs ys = (x : X) × ((y : X) × (IsIn x xs × (IsIn y ys × ((by_key x y ≡ Equal) × (z ≡ both x y)))))

  abbrev pub IsOf : X → List X → List X → Type 0
  IsOf z xs ys = IsIn z xs ⊎ (IsIn z ys ⊎ IsOfBoth z xs ys)

  wider : (z : X) (xs us ys vs : List X) → ((x : X) → IsIn x xs → IsIn x us) → ((y : X) → IsIn y ys → IsIn y vs) → IsOf z xs ys → IsOf z us vs
  wider z xs us ys vs first second (inl is) = inl (first z is)
  wider z xs us ys vs first second (inr (inl is)) = inr (inl (second z is))
  wider z xs us ys vs first second (inr (inr made)) =
      inr (inr (made.0, (made.1.0, (first made.0 made.1.1.0, (second made.1.0 made.1.1.1.0, made.1.1.1.1)))))

  pub in_merged : (z : X) (xs ys : List X) → IsIn z (merged by_key both xs ys) → IsOf z xs ys
  in_merged z [] ys is = inr (inl is)
  in_merged z (x ∷ xs) ys is = inner ys (λ us. in_merged z xs us) is
    where
      inner : (us : List X) → ((vs : List X) → IsIn z (merged by_key both xs vs) → IsOf z xs vs) → IsIn z (merged by_key both (x ∷ xs) us) → IsOf z (x ∷ xs) us
      inner [] later (inl same) = inl (inl same)
      inner [] later (inr more) = wider z xs (x ∷ xs) [] [] (λ u there. inr there) (λ u there. there) (later [] more)
      inner (u ∷ us) later is = by (by_key x u) refl (inner us later) is
        where
          by : (o : Ordering) → by_key x u ≡ o → (IsIn z (merged by_key both (x ∷ xs) us) → IsOf z (x ∷ xs) us)
              → IsIn z (match_ordering o (x ∷ merged by_key both xs (u ∷ us)) (both x u ∷ merged by_key both xs us) (u ∷ merged by_key both (x ∷ xs) us))
              → IsOf z (x ∷ xs) (u ∷ us)
          by Less e rest (inl same) = inl (inl same)
          by Less e rest (inr more) = wider z xs (x ∷ xs) (u ∷ us) (u ∷ us) (λ v there. inr there) (λ v there. there) (later (u ∷ us) more)
          by Equal e rest (inl same) = inr (inr (x, (u, (inl refl, (inl refl, (e, same))))))
          by Equal e rest (inr more) = wider z xs (x ∷ xs) us (u ∷ us) (λ v there. inr there) (λ v there. inr there) (later us more)
          by Greater e rest (inl same) = inr (inl (inl same))
          by Greater e rest (inr more) = wider z (x ∷ xs) (x ∷ xs) us (u ∷ us) (λ v there. there) (λ v there. inr there) (rest more)

  -- what is before all of both lists is before all that is merged
  before_all : (k : K) (xs ys : List X) → ((x : X) → IsIn x xs → key_cmp k (key x) ≡ Less) → ((y : X) → IsIn y ys → key_cmp k (key y) ≡ Less)
      → (z : X) → IsIn z (merged by_key both xs ys) → key_cmp k (key z) ≡ Less
  before_all k xs ys first second z is = by (in_merged z xs ys is)
    where
      by : IsOf z xs ys → key_cmp k (key z) ≡ Less
      by (inl there) = first z there
      by (inr (inl there)) = second z there
      by (inr (inr made)) =
          ap (λ (u : X). key_cmp k (key u)) made.1.1.1.1.1 ∙ ap (key_cmp k) (keeps made.0 made.1.0 made.1.1.1.1.0) ∙ first made.0 made.1.1.0

  pub merged_rises : (xs ys : List X) → Rising key key_cmp xs → Rising key key_cmp ys → Rising key key_cmp (merged by_key both xs ys)
  merged_rises [] ys rx ry = ry
  merged_rises (x ∷ xs) ys rx ry = inner ys ry (λ us ru. merged_rises xs us rx.1 ru)
    where
      inner : (us : List X) → Rising key key_cmp us → ((vs : List X) → Rising key key_cmp vs → Rising key key_cmp (merged by_key both xs vs))
          → Rising key key_cmp (merged by_key both (x ∷ xs) us)
      inner [] ru later = (before_all (key x) xs [] rx.0 (λ y never. absurd never), later [] tt)
      inner (u ∷ us) ru later = by (by_key x u) refl (inner us ru.1 later)
        where
          after : (y : X) → by_key x u ≡ Less → IsIn y (u ∷ us) → by_key x y ≡ Less
          after y less (inl same) = ap (by_key x) same ∙ less
          after y less (inr more) = total.trans (key x) (key u) (key y) less (ru.0 y more)

          before : (v : X) → by_key x u ≡ Greater → IsIn v (x ∷ xs) → key_cmp (key u) (key v) ≡ Less
          before v greater (inl same) = ap (λ (w : X). key_cmp (key u) (key w)) same ∙ total.antisymm (key u) (key x) ∙ ap ordering_reverse greater
          before v greater (inr more) =
              total.trans (key u) (key x) (key v) (total.antisymm (key u) (key x) ∙ ap ordering_reverse greater) (rx.0 v more)

          by : (o : Ordering) → by_key x u ≡ o → Rising key key_cmp (merged by_key both (x ∷ xs) us)
              → Rising key key_cmp (match_ordering o (x ∷ merged by_key both xs (u ∷ us)) (both x u ∷ merged by_key both xs us) (u ∷ merged by_key both (x ∷ xs) us))
          by Less e rest = (before_all (key x) xs (u ∷ us) rx.0 (λ y there. after y e there), later (u ∷ us) ru)
          by Equal e rest = (
            before_all (key (both x u)) xs us
                (λ v there. ap (λ (k : K). key_cmp k (key v)) (keeps x u e) ∙ rx.0 v there)
                (λ v there. ap (λ (k : K). key_cmp k (key v)) (keeps x u e) ∙ total.congr (key x) (key u) (key v) e ∙ ru.0 v there),
            later us ru.1,
          )
          by Greater e rest = (before_all (key u) (x ∷ xs) us (λ v there. before v e there) ru.0, rest)
