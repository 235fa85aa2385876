-- Sets that stand for lineages: the empty one, an addition and a union. Each lineage has one set, whatever
-- the order of its rows.
use Rattle.std.proofs.Common.{◌≡◌, ◌≢◌, ◌∙◌, sym, ap, subst, refl, ℕ, ◌<◌, List, [], ◌∷◌, ◌++◌, length, ◌&&◌, ◌||◌, ◌==◌, Bool, true, false, cond, Option, Some, None, is_some, inl, inr, arith}
use Rattle.std.specs.Prelude.{nat_lt, if◌then◌else◌, IsTrue}
use Rattle.std.specs.Option.{option_or}
use Rattle.std.specs.Cmp.{both_ways, unsigned_tied}
use Rattle.std.specs.Cmp.Lexicographic.{slice_cmp}
use Rattle.std.specs.FinMap.{empty}
use Rattle.std.specs.List.Sorted.{IsStrictlySortedBy}
use Rattle.std.specs.Ordering.{nat_cmp, is_eq, eq_by_cmp}
use Rattle.std.specs.declared.cmp.Ordering.{Ordering}
use Rattle.std.specs.declared.cmp.Ordering.TheVariants.{Less, Equal, Greater}
use Rattle.std.proofs.lemmas.Bool.{cases_lt}
use Rattle.std.proofs.lemmas.Map.Text.{is_eq-slice_cmp}
use Rattle.std.proofs.lemmas.Bool.Decides.{Decides-eqb, Decides-ltb}
use Rattle.ldv_value.proofs.Booleans.{or-false, true≢false}
use Rattle.ldv_value.proofs.SameBytes.{bytes_eq-true, bytes_eq-itself}
use Rattle.lineage.specs.Lineage.{Row, row_cmp, Lineage, with_version, IsUnion, IsNamed, name_at}
use Rattle.lineage.specs.StandsFor.{origin_at, StandsFor}
use Rattle.lineage.proofs.Laws.{same_row, same_set, version_at-empty, version_at-with_version}
use Rattle.lineage.proofs.Listed.{names-increase}
use Rattle.sql_model.proofs.OriginSets.{has_origin-append}
use Rattle.sql_model.specs.QueryAnswer.{Origin}
use Rattle.sql_model.specs.Needs.{Versions}
use Rattle.sql_model.specs.Origins.{is_origin, has_origin, SameSet}
use Rattle.sql_model.specs.Scope.{same_text}
use Rattle.ldv_value.proofs.Orderings.{then-tied}

-- ---- tables by places and by names

-- no two tables have one name
abbrev pub AreDistinct : List (List ℕ) → Type 0
AreDistinct names = (i j : ℕ) → i < length names → j < length names → name_at names i ≡ name_at names j → i ≡ j

module _ (names : List (List ℕ)) where
  less_apart : (r : Ordering) → r ≡ Less → is_eq r ≡ false
  less_apart Less is = refl
  less_apart Equal is = cc
  less_apart Greater is = cc

  never_less : (a : List ℕ) → slice_cmp nat_cmp a a ≢ Less
  never_less a is = true≢false (sym (bytes_eq-itself a) ∙ sym (is_eq-slice_cmp a a) ∙ less_apart (slice_cmp nat_cmp a a) is)

  pub distinct-sorted : IsStrictlySortedBy (slice_cmp nat_cmp) names → AreDistinct names
  distinct-sorted sorted i j first second same = elim (cases_lt i j) [
    | inl below ↦ absurd (never_less (name_at names j) (sym (ap (λ n. slice_cmp nat_cmp n (name_at names j)) same) ∙ names-increase names sorted i j below second))
    | inr over ↦ elim (cases_lt j i) [
      | inl below ↦ absurd (never_less (name_at names i) (ap (λ n. slice_cmp nat_cmp n (name_at names i)) same ∙ names-increase names sorted j i below first))
      | inr under ↦ omega (arith, over, under)
    ]
  ]

  -- two rows are the same by places where they are by names
  row-origin : AreDistinct names → (a b : Row) → a.0 < length names → b.0 < length names
      → eq_by_cmp row_cmp a b ≡ is_origin (origin_at names a) (origin_at names b)
  row-origin distinct a b first second =
      let table : (a.0 == b.0) ≡ same_text (name_at names a.0) (name_at names b.0) = both_ways (a.0 == b.0) (same_text (name_at names a.0) (name_at names b.0))
      (λ is. ap (λ n. same_text (name_at names a.0) (name_at names n)) (sym ((Decides-eqb a.0 b.0).0 is)) ∙ bytes_eq-itself (name_at names a.0))
      (λ is. (Decides-eqb a.0 b.0).1 (distinct a.0 b.0 first second (bytes_eq-true (name_at names a.0) (name_at names b.0) is))) in
      then-tied (nat_cmp a.0 b.0) (nat_cmp a.1 b.1)
      ∙ (λ j. (unsigned_tied a.0 b.0 ∙ table) j && unsigned_tied a.1 b.1 j)

  -- ---- sets that stand for lineages

  module _ (versions : Versions) where
    abbrev version_of : Row → ℕ
    version_of row = versions (name_at names row.0) row.1

    none_in : (b : Bool) (v : ℕ) → (if b && false then Some v else None) ≡ None
    none_in true v = refl
    none_in false v = refl

    pub stands-empty : StandsFor names versions empty []
    stands-empty row = version_at-empty row ∙ sym (none_in (nat_lt row.0 (length names)) (version_of row))

    either_in : (w a b : Bool) (v : ℕ)
        → option_or (if w && a then Some v else None) (if w && b then Some v else None)
        ≡ (if w && (a || b) then Some v else None)
    either_in true true b v = refl
    either_in true false b v = refl
    either_in false a b v = refl

    -- a union stands for both lineages
    pub stands-union : (one other both : Lineage) (a b : List Origin) → IsUnion one other both
        → StandsFor names versions one a → StandsFor names versions other b
        → StandsFor names versions both (a ++ b)
    stands-union one other both a b is first second row =
        is row
        ∙ (λ j. option_or (first row j) (second row j))
        ∙ either_in (nat_lt row.0 (length names)) (has_origin (origin_at names row) a) (has_origin (origin_at names row) b) (version_of row)
        ∙ sym (ap (λ h. if nat_lt row.0 (length names) && h then Some (version_of row) else None) (has_origin-append (origin_at names row) a b))

    -- the order of rows, or how often a row is there, makes no difference
    pub stands-same : (set : Lineage) (a b : List Origin) → SameSet a b → StandsFor names versions set a
        → StandsFor names versions set b
    stands-same set a b same stands row =
        stands row
        ∙ ap (λ h. if nat_lt row.0 (length names) && h then Some (version_of row) else None) (same (origin_at names row))

    pub stands-once : (one other : Lineage) (a b : List Origin) → SameSet a b → StandsFor names versions one a
        → StandsFor names versions other b → one ≡ other
    stands-once one other a b same first second =
        same_set one other (λ row. stands-same one a b same first row ∙ sym (second row))

    is_some_in : (w h : Bool) (v : ℕ) → IsTrue (is_some (if w && h then Some v else None)) → w ≡ true
    is_some_in true h v there = refl
    is_some_in false h v there = cc

    -- its tables have names
    pub stands-named : (set : Lineage) (a : List Origin) → StandsFor names versions set a → IsNamed names set
    stands-named set a stands row there =
        (Decides-ltb row.0 (length names)).0
        (is_some_in (nat_lt row.0 (length names)) (has_origin (origin_at names row) a) (version_of row) (sym (ap is_some (stands row)) ∙ there))

    -- a row more, at its version
    added_in : (w h e : Bool) (v u : ℕ) → (e ≡ true → w ≡ true) → (e ≡ true → u ≡ v)
        → option_or (if w && h then Some v else None) (cond e (Some u) None)
        ≡ (if w && (h || e) then Some v else None)
    added_in true true e v u within same = refl
    added_in true false true v u within same = ap Some (same refl)
    added_in true false false v u within same = refl
    added_in false h true v u within same = absurd (true≢false (sym (within refl)))
    added_in false h false v u within same = refl

    alike : (w h x y : Bool) (v : ℕ) → (w ≡ true → x ≡ y)
        → (if w && (h || x) then Some v else None) ≡ (if w && (h || y) then Some v else None)
    alike true h x y v same = ap (λ b. if h || b then Some v else None) (same refl)
    alike false h x y v same = refl

    pub stands-with_version : AreDistinct names → (set : Lineage) (a : List Origin) (row : Row) → row.0 < length names
        → StandsFor names versions set a
        → StandsFor names versions (with_version set row (version_of row)) (a ++ origin_at names row ∷ [])
    stands-with_version distinct set a row within stands other =
        let w : Bool = nat_lt other.0 (length names) in
        let h : Bool = has_origin (origin_at names other) a in
        let e : Bool = eq_by_cmp row_cmp other row in
        let same : e ≡ true → other ≡ row = λ is. same_row other row is in
        version_at-with_version set row (version_of row) other
        ∙ ap (λ (o : Option ℕ). option_or o (cond e (Some (version_of row)) None)) (stands other)
        ∙ added_in w h e (version_of other) (version_of row)
        (λ is. (Decides-ltb other.0 (length names)).1 (subst (λ (r : Row). r.0 < length names) (sym (same is)) within))
        (λ is. sym (ap version_of (same is)))
        ∙ alike w h e (is_origin (origin_at names other) (origin_at names row)) (version_of other)
        (λ is. row-origin distinct other row ((Decides-ltb other.0 (length names)).0 is) within)
        ∙ sym (ap (λ b. if w && b then Some (version_of other) else None)
        (has_origin-append (origin_at names other) a (origin_at names row ∷ []) ∙ ap (λ b. h || b) (or-false (is_origin (origin_at names other) (origin_at names row)))))
