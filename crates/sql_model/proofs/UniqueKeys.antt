-- If no row has the key of an earlier one, no two rows of a table have the same key. The same holds for a
-- part of the rows.
use Rattle.std.proofs.Common.{◌≡◌, ℕ, List, [], ◌∷◌, ◌++◌, refl, sym, ap, ◌∙◌, Bool, true, false, inl, inr}
use Rattle.std.specs.Prelude.{Option, Some, None, map, filter, find, length, not, ◌&&◌, ◌==◌}
use Rattle.std.specs.Option.{option_or}
use Rattle.std.specs.List.{list_any}
use Rattle.ldv_value.proofs.Booleans.{and-false, or-from, or-parts}
use Rattle.ldv_value.proofs.Cases.{cases-bool}
use Rattle.ldv_value.proofs.Lists.{find-append}
use Rattle.ldv_value.proofs.Options.{none-some}
use Rattle.sql_model.specs.Types.{Value, TableRow}
use Rattle.sql_model.specs.Changes.{KeyClash, shares_key, clash_or, clash_after, clash_by}
use Rattle.sql_model.specs.Keys.{same_values, repeats, values_at}
use Rattle.sql_model.specs.Tables.{are_keys_unique}

abbrev pub values_in : List TableRow → List (List Value)
values_in rows = map (λ row. row.values) rows

pub or_none : {A : Type 0} (a b : Option A) → option_or a b ≡ None → (a ≡ None) × (b ≡ None)
or_none None b is = (refl, is)
or_none (Some x) b is = absurd (none-some x (sym is))

missed : {X : Type 0} (p : X → Bool) (x : X) → find p (x ∷ []) ≡ None → p x ≡ false
missed p x is = elim (cases-bool (p x)) [
  | inl hit ↦ let e : Some x ≡ None = rw hit at is in absurd (none-some x (sym e))
  | inr miss ↦ miss
]

module _ (key : List ℕ) where
  abbrev key_of : TableRow → List Value
  key_of row = values_at key row.values

  abbrev keys : List TableRow → List (List Value)
  keys rows = map (values_at key) (values_in rows)

  -- a search that finds none among rows doesn't pass the row
  abbrev Among : TableRow → List TableRow → Type 0
  Among row before = (p : TableRow → Bool) → find p before ≡ None → p row ≡ false

  among_more : (row next : TableRow) (before : List TableRow) → Among row before → Among row (before ++ next ∷ [])
  among_more row next before among p is = among p (or_none (find p before) (find p (next ∷ [])) (sym (find-append p before (next ∷ [])) ∙ is)).0

  among_last : (next : TableRow) (before : List TableRow) → Among next (before ++ next ∷ [])
  among_last next before p is = missed p next (or_none (find p before) (find p (next ∷ [])) (sym (find-append p before (next ∷ [])) ∙ is)).1

  clash_parts : (o : Option TableRow) (row : TableRow) (rest : Option KeyClash) → clash_or o row rest ≡ None
      → (o ≡ None) × (rest ≡ None)
  clash_parts None row rest is = (refl, is)
  clash_parts (Some earlier) row rest is = absurd (none-some _ (sym is))

  -- no later row has the key of an earlier one
  apart : (row : TableRow) (before rows : List TableRow) → Among row before → clash_after key before rows ≡ None
      → list_any (same_values (key_of row)) (keys rows) ≡ false
  apart row before [] among is = refl
  apart row before (next ∷ rows) among is =
      let parts = clash_parts (find (shares_key key next) before) next (clash_after key (before ++ next ∷ []) rows) is in
      or-from (same_values (key_of row) (key_of next)) (list_any (same_values (key_of row)) (keys rows))
      (among (shares_key key next) parts.0)
      (apart row (before ++ next ∷ []) rows (among_more row next before among) parts.1)

  pub none_repeats : (before rows : List TableRow) → clash_after key before rows ≡ None
      → repeats same_values (keys rows) ≡ false
  none_repeats before [] is = refl
  none_repeats before (row ∷ rows) is =
      let parts = clash_parts (find (shares_key key row) before) row (clash_after key (before ++ row ∷ []) rows) is in
      or-from (list_any (same_values (key_of row)) (keys rows)) (repeats same_values (keys rows))
      (apart row (before ++ row ∷ []) rows (among_last row before) parts.1)
      (none_repeats (before ++ row ∷ []) rows parts.1)

  -- ---- fewer rows

  module _ (keep : TableRow → Bool) where
    any_fewer : (p : List Value → Bool) (rows : List TableRow) → list_any p (keys rows) ≡ false
        → list_any p (keys (filter keep rows)) ≡ false
    any_fewer p [] is = refl
    any_fewer p (row ∷ rows) is =
        let parts = or-parts (p (key_of row)) (list_any p (keys rows)) is in
        elim (cases-bool (keep row)) [
          | inl stays ↦ rw stays (or-from (p (key_of row)) (list_any p (keys (filter keep rows))) parts.0 (any_fewer p rows parts.1))
          | inr goes ↦ rw goes (any_fewer p rows parts.1)
        ]

    fewer_repeat : (rows : List TableRow) → repeats same_values (keys rows) ≡ false
        → repeats same_values (keys (filter keep rows)) ≡ false
    fewer_repeat [] is = refl
    fewer_repeat (row ∷ rows) is =
        let parts = or-parts (list_any (same_values (key_of row)) (keys rows)) (repeats same_values (keys rows)) is in
        elim (cases-bool (keep row)) [
          | inl stays ↦ rw stays (or-from (list_any (same_values (key_of row)) (keys (filter keep rows))) (repeats same_values (keys (filter keep rows))) (any_fewer (same_values (key_of row)) rows parts.0) (fewer_repeat rows parts.1))
          | inr goes ↦ rw goes (fewer_repeat rows parts.1)
        ]

unique_from : (b twice : Bool) → twice ≡ false → not (b && twice) ≡ true
unique_from b twice is = ap (λ t. not (b && t)) is ∙ ap not (and-false b)

pub unique-clash : (key : List ℕ) (rows : List TableRow) → clash_by key rows ≡ None
    → are_keys_unique key (values_in rows) ≡ true
unique-clash [] rows is = refl
unique-clash (place ∷ places) rows is =
    unique_from (not (length (place ∷ places) == 0)) (repeats same_values (keys (place ∷ places) rows)) (none_repeats (place ∷ places) [] rows is)

unique_by : (b : Bool) (few all : Bool) → (all ≡ false → few ≡ false) → not (b && all) ≡ true → not (b && few) ≡ true
unique_by false few all fewer is = refl
unique_by true few false fewer is = ap not (fewer refl)
unique_by true few true fewer is = cc

pub unique-fewer : (key : List ℕ) (keep : TableRow → Bool) (rows : List TableRow)
    → are_keys_unique key (values_in rows) ≡ true
    → are_keys_unique key (values_in (filter keep rows)) ≡ true
unique-fewer key keep rows is =
    unique_by (not (length key == 0)) (repeats same_values (keys key (filter keep rows))) (repeats same_values (keys key rows)) (fewer_repeat key keep rows) is
