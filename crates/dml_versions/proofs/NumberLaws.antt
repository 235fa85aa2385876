-- Rows in the order of their numbers: searches and tests by a number.
use Rattle.std.proofs.Common.{◌≡◌, ◌==◌, ◌≢◌, ℕ, inl, inr, Bool, true, false, ◌||◌, not, cond, List, [], ◌∷◌, map, refl, ap, sym, ◌∙◌, subst, arith, Option, Some, None, eq-eqb}
use Rattle.std.specs.Prelude.{filter, find, nat_lt, unwrap_or, if◌then◌else◌}
use Rattle.std.specs.List.{list_any, list_all, AllByRecursion}
use Rattle.std.proofs.lemmas.Bool.{ne_eqb, ltb-true}
use Rattle.ldv_value.proofs.Booleans.{and-parts, or-true}
use Rattle.ldv_value.proofs.Cases.{cases-bool}
use Rattle.ldv_value.proofs.Lists.{list_all-filter, list_all-map, list_all-weaker, sorted-map}
use Rattle.sql_model.proofs.SortedLists.{sorted-all, sorted-tail, sorted-filter}
use Rattle.sql_model.proofs.NewNumbers.{row-trans, row_precedes}
use Rattle.table_store.specs.Stops.{replaced_by, is_among, are_sorted_rows, are_sorted_numbers}
use Rattle.dml_versions.specs.Types.{TableRow}

abbrev pub AreSorted : List TableRow → Type 0
AreSorted rows = are_sorted_rows rows ≡ true

pub after-first : (row : TableRow) (rows : List TableRow) → AreSorted (row ∷ rows) → list_all (row_precedes row) rows ≡ true
after-first row rows sorted = sorted-all row_precedes row-trans row rows sorted

pub others-sorted : (row : TableRow) (rows : List TableRow) → AreSorted (row ∷ rows) → AreSorted rows
others-sorted row rows sorted = sorted-tail row_precedes row-trans row rows sorted

pub some-sorted : (test : TableRow → Bool) (rows : List TableRow) → AreSorted rows → AreSorted (filter test rows)
some-sorted test rows sorted = sorted-filter row_precedes row-trans test rows sorted

pub made-sorted : (f : TableRow → TableRow) → ((row : TableRow) → (f row).number ≡ row.number) → (rows : List TableRow) → AreSorted rows → AreSorted (map f rows)
made-sorted f same rows sorted = sorted-map row_precedes row_precedes f (λ a b j. nat_lt (same a j) (same b j)) rows ∙ sorted

pub numbers-sorted : (rows : List TableRow) → AreSorted rows → are_sorted_numbers (map (λ row. row.number) rows) ≡ true
numbers-sorted rows sorted = sorted-map row_precedes nat_lt (λ row. row.number) (λ a b. refl) rows ∙ sorted

-- a row before another has another number
apart : (a b : TableRow) → row_precedes a b ≡ true → a.number ≢ b.number
apart a b less same = absurd (omega (arith, ltb-true a.number b.number less, same))

-- ---- each row has the number of a row

abbrev number_in : List TableRow → TableRow → Bool
number_in rows row = list_any (λ old. old.number == row.number) rows

pub all-in : (rows : List TableRow) → list_all (number_in rows) rows ≡ true
all-in [] = refl
all-in (row ∷ rows) =
    let more : list_all (number_in (row ∷ rows)) rows ≡ true =
    list_all-weaker (number_in rows) (number_in (row ∷ rows)) (λ other is. ap (λ b. (row.number == other.number) || b) is ∙ or-true (row.number == other.number)) rows (all-in rows) in
    rw (eq-eqb row.number row.number refl) more

pub made-in : (f : TableRow → TableRow) → ((row : TableRow) → (f row).number ≡ row.number) → (test : TableRow → Bool) (rows : List TableRow)
    → list_all (number_in rows) (map f (filter test rows)) ≡ true
made-in f same test rows =
    list_all-map (number_in rows) f (filter test rows)
    ∙ list_all-weaker (number_in rows) (λ row. number_in rows (f row)) (λ row is. ap (λ (n : ℕ). list_any (λ old. old.number == n) rows) (same row) ∙ is) (filter test rows)
    (list_all-filter (number_in rows) test rows (all-in rows))

pub numbers-in : (test : TableRow → Bool) (rows : List TableRow)
    → list_all (λ number. list_any (λ old. old.number == number) rows) (map (λ row. row.number) (filter test rows)) ≡ true
numbers-in test rows =
    list_all-map (λ (number : ℕ). list_any (λ old. old.number == number) rows) (λ row. row.number) (filter test rows)
    ∙ list_all-filter (number_in rows) test rows (all-in rows)

-- ---- a row replaced by the one of its number

-- rows after one don't find one of its number
module _ (row : TableRow) where
  none_by : (f : TableRow → TableRow) → ((one : TableRow) → (f one).number ≡ one.number) → (test : TableRow → Bool) (rows : List TableRow)
      → list_all (row_precedes row) rows ≡ true → find (λ new. new.number == row.number) (map f (filter test rows)) ≡ None
  none_by f same test [] after = refl
  none_by f same test (next ∷ rows) after =
      let both = and-parts (row_precedes row next) (list_all (row_precedes row) rows) after in
      let other : ((f next).number == row.number) ≡ false = ne_eqb (f next).number row.number (λ is. apart row next both.0 (sym is ∙ same next)) in
      elim (cases-bool (test next)) [
        | inl hit ↦ rw (hit, other) (none_by f same test rows both.1)
        | inr miss ↦ rw miss (none_by f same test rows both.1)
      ]

  skip_all : (new : TableRow) → new.number ≡ row.number → (news rows : List TableRow) → list_all (row_precedes row) rows ≡ true
      → map (replaced_by (new ∷ news)) rows ≡ map (replaced_by news) rows
  skip_all new is news [] after = refl
  skip_all new is news (next ∷ rows) after =
      let both = and-parts (row_precedes row next) (list_all (row_precedes row) rows) after in
      let other : (new.number == next.number) ≡ false = ne_eqb new.number next.number (λ same. apart row next both.0 (sym is ∙ same)) in
      rw other (ap (λ (l : List TableRow). replaced_by news next ∷ l) (skip_all new is news rows both.1))

  none_among : (test : TableRow → Bool) (rows : List TableRow) → list_all (row_precedes row) rows ≡ true
      → is_among (map (λ one. one.number) (filter test rows)) row ≡ false
  none_among test [] after = refl
  none_among test (next ∷ rows) after =
      let both = and-parts (row_precedes row next) (list_all (row_precedes row) rows) after in
      let other : (next.number == row.number) ≡ false = ne_eqb next.number row.number (λ is. apart row next both.0 (sym is)) in
      elim (cases-bool (test next)) [
        | inl hit ↦ rw (hit, other) (none_among test rows both.1)
        | inr miss ↦ rw miss (none_among test rows both.1)
      ]

  skip_among : (numbers : List ℕ) (rows : List TableRow) → list_all (row_precedes row) rows ≡ true
      → filter (λ one. not (is_among (row.number ∷ numbers) one)) rows ≡ filter (λ one. not (is_among numbers one)) rows
  skip_among numbers [] after = refl
  skip_among numbers (next ∷ rows) after =
      let both = and-parts (row_precedes row next) (list_all (row_precedes row) rows) after in
      let other : (row.number == next.number) ≡ false = ne_eqb row.number next.number (apart row next both.0) in
      rw other (ap (λ (l : List TableRow). cond (not (is_among numbers next)) (next ∷ l) l) (skip_among numbers rows both.1))

both_cons : {X : Type 0} (x y : X) (xs ys : List X) → x ≡ y → xs ≡ ys → x ∷ xs ≡ y ∷ ys
both_cons x y xs ys one more = λ j. one j ∷ more j

-- the rows that pass a test are replaced by what is made of them
module _ (f : TableRow → TableRow) (same : (row : TableRow) → (f row).number ≡ row.number) (test : TableRow → Bool) where
  abbrev made : TableRow → TableRow
  made row = if test row then f row else row

  pub replaced-some : (rows : List TableRow) → AreSorted rows → map (replaced_by (map f (filter test rows))) rows ≡ map made rows
  replaced-some [] sorted = refl
  replaced-some (row ∷ rows) sorted =
      let after = after-first row rows sorted in
      let news : List TableRow = map f (filter test rows) in
      let more : map (replaced_by news) rows ≡ map made rows = replaced-some rows (others-sorted row rows sorted) in
      elim (cases-bool (test row)) [
        | inl hit ↦
            let mine : ((f row).number == row.number) ≡ true = eq-eqb (f row).number row.number (same row) in
            let all : map f (filter test (row ∷ rows)) ≡ f row ∷ news = ap (λ (b : Bool). map f (cond b (row ∷ filter test rows) (filter test rows))) hit in
            let head : replaced_by (f row ∷ news) row ≡ f row =
            ap (λ (b : Bool). unwrap_or (cond b (Some (f row)) (find (λ new. new.number == row.number) news)) row) mine in
            ap (λ (l : List TableRow). map (replaced_by l) (row ∷ rows)) all
            ∙ both_cons (replaced_by (f row ∷ news) row) (f row) (map (replaced_by (f row ∷ news)) rows) (map made rows) head (skip_all row (f row) (same row) news rows after ∙ more)
            ∙ sym (ap (λ (b : Bool). (if b then f row else row) ∷ map made rows) hit)
        | inr miss ↦
            let all : map f (filter test (row ∷ rows)) ≡ news = ap (λ (b : Bool). map f (cond b (row ∷ filter test rows) (filter test rows))) miss in
            let head : replaced_by news row ≡ row = ap (λ (o : Option TableRow). unwrap_or o row) (none_by row f same test rows after) in
            ap (λ (l : List TableRow). map (replaced_by l) (row ∷ rows)) all
            ∙ both_cons (replaced_by news row) row (map (replaced_by news) rows) (map made rows) head more
            ∙ sym (ap (λ (b : Bool). (if b then f row else row) ∷ map made rows) miss)
      ]

-- the rows that pass a test are removed by their numbers
module _ (test : TableRow → Bool) where
  abbrev numbers_of : List TableRow → List ℕ
  numbers_of rows = map (λ one. one.number) (filter test rows)

  abbrev others : List ℕ → TableRow → Bool
  others numbers row = not (is_among numbers row)

  abbrev kept : TableRow → Bool
  kept row = not (test row)

  pub removed-some : (rows : List TableRow) → AreSorted rows → filter (others (numbers_of rows)) rows ≡ filter kept rows
  removed-some [] sorted = refl
  removed-some (row ∷ rows) sorted =
      let after = after-first row rows sorted in
      let numbers : List ℕ = numbers_of rows in
      let more : filter (others numbers) rows ≡ filter kept rows = removed-some rows (others-sorted row rows sorted) in
      elim (cases-bool (test row)) [
        | inl hit ↦
            let all : numbers_of (row ∷ rows) ≡ row.number ∷ numbers = ap (λ (b : Bool). map (λ one. one.number) (cond b (row ∷ filter test rows) (filter test rows))) hit in
            let keep : TableRow → Bool = others (row.number ∷ numbers) in
            ap (λ (l : List ℕ). filter (others l) (row ∷ rows)) all
            ∙ ap (λ (b : Bool). cond (not (b || is_among numbers row)) (row ∷ filter keep rows) (filter keep rows)) (eq-eqb row.number row.number refl)
            ∙ skip_among row numbers rows after
            ∙ more
            ∙ sym (ap (λ (b : Bool). cond (not b) (row ∷ filter kept rows) (filter kept rows)) hit)
        | inr miss ↦
            let all : numbers_of (row ∷ rows) ≡ numbers = ap (λ (b : Bool). map (λ one. one.number) (cond b (row ∷ filter test rows) (filter test rows))) miss in
            ap (λ (l : List ℕ). filter (others l) (row ∷ rows)) all
            ∙ ap (λ (b : Bool). cond (not b) (row ∷ filter (others numbers) rows) (filter (others numbers) rows)) (none_among row test rows after)
            ∙ ap (λ (l : List TableRow). row ∷ l) more
            ∙ sym (ap (λ (b : Bool). cond (not b) (row ∷ filter kept rows) (filter kept rows)) miss)
      ]

  -- the rows that pass a test are those whose numbers theirs are
  skip_one : (row : TableRow) (numbers : List ℕ) (rows : List TableRow) → list_all (row_precedes row) rows ≡ true
      → AllByRecursion (λ one. is_among numbers one ≡ test one) rows
      → AllByRecursion (λ one. is_among (row.number ∷ numbers) one ≡ test one) rows
  skip_one row numbers [] after all = tt
  skip_one row numbers (next ∷ rows) after all =
      let both = and-parts (row_precedes row next) (list_all (row_precedes row) rows) after in
      let other : (row.number == next.number) ≡ false = ne_eqb row.number next.number (apart row next both.0) in
      (ap (λ (b : Bool). b || is_among numbers next) other ∙ all.0, skip_one row numbers rows both.1 all.1)

  pub among-some : (rows : List TableRow) → AreSorted rows → AllByRecursion (λ one. is_among (numbers_of rows) one ≡ test one) rows
  among-some [] sorted = tt
  among-some (row ∷ rows) sorted =
      let after = after-first row rows sorted in
      let numbers : List ℕ = numbers_of rows in
      let more = among-some rows (others-sorted row rows sorted) in
      elim (cases-bool (test row)) [
        | inl hit ↦
            let all : numbers_of (row ∷ rows) ≡ row.number ∷ numbers = ap (λ (b : Bool). map (λ one. one.number) (cond b (row ∷ filter test rows) (filter test rows))) hit in
            subst (λ (l : List ℕ). AllByRecursion (λ one. is_among l one ≡ test one) (row ∷ rows)) (sym all)
            (ap (λ (b : Bool). b || is_among numbers row) (eq-eqb row.number row.number refl) ∙ sym hit, skip_one row numbers rows after more)
        | inr miss ↦
            let all : numbers_of (row ∷ rows) ≡ numbers = ap (λ (b : Bool). map (λ one. one.number) (cond b (row ∷ filter test rows) (filter test rows))) miss in
            subst (λ (l : List ℕ). AllByRecursion (λ one. is_among l one ≡ test one) (row ∷ rows)) (sym all)
            (none_among row test rows after ∙ sym miss, more)
      ]
