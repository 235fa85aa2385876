-- The first foreign key over the columns of another: it refers as this does, and is the first itself.
use Rattle.std.proofs.Common.{◌≡◌, ℕ, ◌<◌, ◌≤◌, List, length, get_or, refl, sym, ap, ◌∙◌, Bool, true, false, cond, inl, inr, arith, Option, Some, None}
use Rattle.std.specs.Prelude.{if◌then◌else◌}
use Rattle.std.specs.List.{list_any, position_or_len}
use Rattle.std.proofs.lemmas.Bool.{cases_lt}
use Rattle.std.proofs.lemmas.List.Sums.{fails_before_first, passes_at_first}
use Rattle.ldv_value.proofs.Booleans.{true≢false}
use Rattle.ldv_value.proofs.SameBytes.{bytes_eq-itself, bytes_eq-true}
use Rattle.sql_model.specs.Keys.{values_at}
use Rattle.sql_model.specs.Meaning.{is_null}
use Rattle.sql_model.specs.References.{reference}
use Rattle.table_store.specs.inner.ChildPairs.{first_place, has_columns, no_foreign}
use Rattle.table_store.specs.Types.{Foreign, Value}

module _ (foreigns : List Foreign) (place : ℕ) (within : place < length foreigns) where
  abbrev columns : List ℕ
  columns = (get_or foreigns place no_foreign).columns

  abbrev first : ℕ
  first = first_place foreigns place

  has_own : has_columns columns (get_or foreigns place no_foreign) ≡ true
  has_own = bytes_eq-itself columns

  not_later : first ≤ place
  not_later = elim (cases_lt place first) [
    | inl before ↦ absurd (true≢false (sym has_own ∙ fails_before_first (has_columns columns) foreigns place no_foreign before))
    | inr from ↦ from
  ]

  pub first_within : first < length foreigns
  first_within = omega (arith, not_later, within)

  same : (get_or foreigns first no_foreign).columns ≡ columns
  same = bytes_eq-true (get_or foreigns first no_foreign).columns columns (passes_at_first (has_columns columns) foreigns no_foreign first_within)

  pub first_of_first : first_place foreigns first ≡ first
  first_of_first = ap (λ (l : List ℕ). position_or_len (has_columns l) foreigns) same

  pub first_refers : (values : List Value) → reference (get_or foreigns first no_foreign) values ≡ reference (get_or foreigns place no_foreign) values
  first_refers values = ap (λ (l : List ℕ). if list_any is_null (values_at l values) then None else Some (values_at l values)) same
