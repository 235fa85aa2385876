-- How a walk over the words of two sets goes on.
use Rattle.std.proofs.Common.{◌≡◌, ℕ, ◌+◌, ◌-◌, ◌<◌, ◌≤◌, ◌≢◌, inl, inr, List, [], ◌∷◌, length, get_or, set, refl, ap, sym, subst, ◌∙◌, arith, get_or-set_same, get_or-set_other, below_more, map, w64, bit_and}
use Rattle.std.specs.Int.{bit_not}
use lib.Lanes.{zip2, chunk, put_chunk}
use Rattle.std.proofs.lemmas.Simd.{length-zip2, length-chunk, get_or-chunk, get_or-put_chunk_below, get_or-put_chunk_at, get_or-put_chunk_above, get_or-zip2}
use Rattle.std.proofs.lemmas.Bool.{cases_lt}
use Rattle.lanes.specs.inner.Merged.{IsMergedTo, without}

pub none_merged : (merge : ℕ → ℕ → ℕ) (old other : List ℕ) → IsMergedTo merge old other old 0
none_merged merge old other = record { merged = λ k below. absurd (omega arith); kept = λ k from. refl }

module _ (merge : ℕ → ℕ → ℕ) (old other now : List ℕ) (at : ℕ) (far : IsMergedTo merge old other now at) where
  abbrev eight : List ℕ
  eight = zip2 merge (chunk at 8 now) (chunk at 8 other)

  eight_long : at + 8 ≤ length now → at + 8 ≤ length other → length eight ≡ 8
  eight_long room more = length-zip2 merge (chunk at 8 now) (chunk at 8 other) (length-chunk at 8 now room ∙ sym (length-chunk at 8 other more)) ∙ length-chunk at 8 now room

  eight_at : at + 8 ≤ length now → at + 8 ≤ length other → (j : ℕ) → j < 8 → get_or (put_chunk at now eight) (at + j) 0 ≡ merge (get_or old (at + j) 0) (get_or other (at + j) 0)
  eight_at room more j below =
      let long : length eight ≡ 8 = eight_long room more in
      get_or-put_chunk_at at now eight j 0 (omega arith) (omega arith)
      ∙ get_or-zip2 merge (chunk at 8 now) (chunk at 8 other) j 0 0 0 (omega (arith, length-chunk at 8 now room)) (omega (arith, length-chunk at 8 other more))
      ∙ ap (λ (x : ℕ). merge x (get_or (chunk at 8 other) j 0)) (get_or-chunk at 8 now j 0 below ∙ far.kept (at + j) (omega arith))
      ∙ ap (merge (get_or old (at + j) 0)) (get_or-chunk at 8 other j 0 below)

  pub more_by_eight : at + 8 ≤ length now → at + 8 ≤ length other → IsMergedTo merge old other (put_chunk at now eight) (at + 8)
  more_by_eight room more = record {
    merged = λ k below. elim (cases_lt k at) [
      | inl early ↦ get_or-put_chunk_below at now eight k 0 early ∙ far.merged k early
      | inr late ↦
          let is : at + (k - at) ≡ k = omega arith in
          subst (λ (n : ℕ). get_or (put_chunk at now eight) n 0 ≡ merge (get_or old n 0) (get_or other n 0)) is (eight_at room more (k - at) (omega arith))
    ];
    kept = λ k from. get_or-put_chunk_above at now eight k 0 (omega (arith, eight_long room more)) ∙ far.kept k (omega arith);
  }

  pub more_by_one : at < length now → IsMergedTo merge old other (set now at (merge (get_or now at 0) (get_or other at 0))) (at + 1)
  more_by_one within =
      let word : ℕ = merge (get_or now at 0) (get_or other at 0) in
      record {
        merged = below_more (λ (k : ℕ). get_or (set now at word) k 0 ≡ merge (get_or old k 0) (get_or other k 0)) at
            (λ k below. let apart : k ≢ at = omega arith in rw get_or-set_other (far.merged k below))
            (rw get_or-set_same (ap (λ (x : ℕ). merge x (get_or other at 0)) (far.kept at (omega arith))));
        kept = λ k from. let apart : k ≢ at = omega arith in rw get_or-set_other (far.kept k (omega arith));
      }

pub lanes_without : (a b : List ℕ) → zip2 bit_and a (map (bit_not w64) b) ≡ zip2 without a b
lanes_without [] b = refl
lanes_without (x ∷ a) [] = refl
lanes_without (x ∷ a) (y ∷ b) = ap (λ (l : List ℕ). without x y ∷ l) (lanes_without a b)
