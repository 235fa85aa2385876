-- The rows that an accepted UPDATE or DELETE matches are the rows that it needs by rule L.
use Rattle.std.proofs.Common.{◌≡◌, ℕ, List, [], ◌∷◌, ◌++◌, refl, sym, ap, ◌∙◌, subst, Bool, true, false, arith, inl, inr}
use Rattle.std.specs.Prelude.{map, filter, ◌==◌, nat_lt}
use Rattle.std.specs.List.{list_all, AllByRecursion}
use Rattle.std.specs.Ordering.{nat_cmp, is_lt}
use Rattle.std.proofs.lemmas.Bool.{cases_Bool}
use Rattle.std.proofs.lemmas.Bool.Decides.{nat_tests}
use Rattle.ldv_value.proofs.Booleans.{and-parts}
use Rattle.ldv_value.proofs.SameBytes.{bytes_eq-itself}
use Rattle.ldv_value.specs.Sorted.{precedes_first, is_strictly_sorted}
use Rattle.sql_model.specs.Needs.{NeededRow, needed_by, matched_row, is_same_row, is_earlier_row, put_row, sorted_needs}
use Rattle.sql_model.specs.QueryAnswer.{Origin}
use Rattle.sql_model.specs.declared.need.Rule.{Rule}
use Rattle.sql_model.specs.declared.need.Rule.TheVariants.{L, H, K, P, C}
use Rattle.sql_model.proofs.SortedLists.{sorted-all, sorted-filter}
use Rattle.sql_model.proofs.NewNumbers.{row_precedes, row-trans}
use Rattle.run_laws.specs.Types.{Table, TableRow}

abbrev pub rows_sorted : List TableRow → Bool
rows_sorted rows = is_strictly_sorted row_precedes rows

pub filter_sorted : (p : TableRow → Bool) (rows : List TableRow) → rows_sorted rows ≡ true → rows_sorted (filter p rows) ≡ true
filter_sorted p rows sorted = sorted-filter row_precedes row-trans p rows sorted

-- ---- as needed rows

differ : (m n : ℕ) → nat_lt m n ≡ true → (m == n) ≡ false
differ m n above = grind (arith, nat_tests)

module _ (t : Table) where
  put_first : (row : TableRow) (rows : List TableRow) → precedes_first row_precedes row rows ≡ true
      → put_row (matched_row t row) (map (matched_row t) rows) ≡ matched_row t row ∷ map (matched_row t) rows
  put_first row [] above = refl
  put_first row (other ∷ rows) above = rw (bytes_eq-itself t.name, differ row.number other.number above, above) refl

  pub rising_matched : (rows : List TableRow) → rows_sorted rows ≡ true
      → sorted_needs (map (matched_row t) rows) ≡ map (matched_row t) rows
  rising_matched [] sorted = refl
  rising_matched (row ∷ rows) sorted =
      let both = and-parts (precedes_first row_precedes row rows) (rows_sorted rows) sorted in
      ap (put_row (matched_row t row)) (rising_matched rows both.1) ∙ put_first row rows both.0

-- ---- among other needed rows

abbrev pub by_lineage : Rule → Bool
by_lineage L = true
by_lineage H = false
by_lineage K = false
by_lineage P = false
by_lineage C = false

abbrev pub is_lineage : NeededRow → Bool
is_lineage n = by_lineage n.rule

-- those of rule L
abbrev pub lineage : List NeededRow → List NeededRow
lineage ns = filter is_lineage ns

-- a row of another rule takes no place of rule L where there is none
put_other : (n : NeededRow) → is_lineage n ≡ false → (ms : List NeededRow) → lineage ms ≡ [] → lineage (put_row n ms) ≡ []
put_other n other [] none = rw other refl
put_other n other (m ∷ ms) none = elim (cases_Bool (is_lineage m)) [
  | inl hit ↦ let never : m ∷ lineage ms ≡ [] = rw hit at none in absurd cc
  | inr miss ↦
      let rest : lineage ms ≡ [] = rw miss at none in
      elim (cases_Bool (is_same_row n m)) [
        | inl same ↦ rw (same, other) rest
        | inr unlike ↦ elim (cases_Bool (is_earlier_row n m)) [
          | inl earlier ↦ rw (unlike, earlier, other, miss) rest
          | inr later ↦ rw (unlike, later, miss) (put_other n other ms rest)
        ]
      ]
]

-- parents are needed by rule P
pub parents_other : (origins : List Origin) → lineage (sorted_needs (map (needed_by P) origins)) ≡ []
parents_other [] = refl
parents_other (o ∷ os) = put_other (needed_by P o) refl (sorted_needs (map (needed_by P) os)) (parents_other os)

-- a row is another, and comes before it
pub record Above (m n : NeededRow) : Type 0 where
  pub apart : is_same_row m n ≡ false
  pub before : is_earlier_row m n ≡ true

-- one of rule L before all others of rule L comes before them whatever else is there
module _ (m : NeededRow) (here : is_lineage m ≡ true) where
  put_lineage : (ns : List NeededRow) → AllByRecursion (Above m) (lineage ns) → lineage (put_row m ns) ≡ m ∷ lineage ns
  put_lineage [] above = rw here refl
  put_lineage (n ∷ ns) above = elim (cases_Bool (is_lineage n)) [
    | inl hit ↦
        let all : AllByRecursion (Above m) (n ∷ lineage ns) = rw hit at above in
        rw (all.0.apart, all.0.before, here, hit) refl
    | inr miss ↦
        let all : AllByRecursion (Above m) (lineage ns) = rw miss at above in
        elim (cases_Bool (is_same_row m n)) [
          | inl same ↦ rw (same, here, miss) refl
          | inr unlike ↦ elim (cases_Bool (is_earlier_row m n)) [
            | inl earlier ↦ rw (unlike, earlier, here, miss) refl
            | inr later ↦ rw (unlike, later, miss) (put_lineage ns all)
          ]
        ]
  ]

below_number : (m n : ℕ) → nat_lt m n ≡ true → is_lt (nat_cmp m n) ≡ true
below_number m n below = rw below refl

module _ (t : Table) where
  one_above : (row other : TableRow) → row_precedes row other ≡ true → Above (matched_row t row) (matched_row t other)
  one_above row other below = record {
    apart = rw (bytes_eq-itself t.name) (differ row.number other.number below);
    before = rw (bytes_eq-itself t.name) (below_number row.number other.number below);
  }

  all_above : (row : TableRow) (rows : List TableRow) → list_all (row_precedes row) rows ≡ true
      → AllByRecursion (Above (matched_row t row)) (map (matched_row t) rows)
  all_above row [] below = tt
  all_above row (other ∷ rows) below =
      let both = and-parts (row_precedes row other) (list_all (row_precedes row) rows) below in
      (one_above row other both.0, all_above row rows both.1)

  -- of matched rows and of others that aren't of rule L, those of rule L are the matched ones
  pub lineage_matched : (others : List NeededRow) → lineage (sorted_needs others) ≡ [] → (rows : List TableRow)
      → rows_sorted rows ≡ true → lineage (sorted_needs (map (matched_row t) rows ++ others)) ≡ map (matched_row t) rows
  lineage_matched others none [] sorted = none
  lineage_matched others none (row ∷ rows) sorted =
      let both = and-parts (precedes_first row_precedes row rows) (rows_sorted rows) sorted in
      let rest : lineage (sorted_needs (map (matched_row t) rows ++ others)) ≡ map (matched_row t) rows =
      lineage_matched others none rows both.1 in
      let above : AllByRecursion (Above (matched_row t row)) (map (matched_row t) rows) =
      all_above row rows (sorted-all row_precedes row-trans row rows sorted) in
      put_lineage (matched_row t row) refl (sorted_needs (map (matched_row t) rows ++ others))
      (subst (AllByRecursion (Above (matched_row t row))) (sym rest) above)
      ∙ ap (λ (l : List NeededRow). matched_row t row ∷ l) rest
