-- The numbers of a table's rows stay strictly increasing and below the next one.
use Rattle.std.proofs.Common.{◌≡◌, ℕ, suc, ◌+◌, ◌≤◌, ◌<◌, arith, List, [], ◌∷◌, ◌++◌, refl, ◌∙◌, Bool, true, false}
use Rattle.std.specs.Prelude.{length, map, filter, ◌&&◌, nat_lt, nat_le}
use Rattle.std.specs.List.{list_all}
use Rattle.std.proofs.lemmas.Bool.Decides.{Decides-ltb, nat_tests}
use Rattle.ldv_value.proofs.Booleans.{and-parts, and-from}
use Rattle.ldv_value.proofs.Lists.{list_all-append, list_all-weaker, list_all-filter, sorted-map}
use Rattle.ldv_value.specs.Limits.{max_next}
use Rattle.ldv_value.specs.Sorted.{is_strictly_sorted}
use Rattle.sql_model.specs.Types.{Value, TableRow}
use Rattle.sql_model.proofs.SortedLists.{sorted-all, sorted-from, sorted-tail, sorted-filter}
use Rattle.sql_model.specs.Changes.{numbered_rows}
use Rattle.sql_model.specs.Tables.{numbers_test}

abbrev number_of : TableRow → ℕ
number_of row = row.number

abbrev pub row_precedes : TableRow → TableRow → Bool
row_precedes a b = nat_lt a.number b.number

abbrev pub is_under : ℕ → TableRow → Bool
is_under next row = nat_lt row.number next

pub row-trans : (a b c : TableRow) → row_precedes a b ≡ true → row_precedes b c ≡ true → row_precedes a c ≡ true
row-trans a b c first second =
    let one : a.number < b.number = (Decides-ltb a.number b.number).0 first in
    let two : b.number < c.number = (Decides-ltb b.number c.number).0 second in
    (Decides-ltb a.number c.number).1 (omega (arith, one, two))

-- ---- new rows

over_numbered : (m n : ℕ) → m < n → (rows : List (List Value)) → list_all (λ row. nat_lt m row.number) (numbered_rows n rows) ≡ true
over_numbered m n less [] = refl
over_numbered m n less (values ∷ rows) =
    and-from (nat_lt m n) (list_all (λ (row : TableRow). nat_lt m row.number) (numbered_rows (n + 1) rows))
    ((Decides-ltb m n).1 less) (over_numbered m (n + 1) (omega (arith, less)) rows)

numbered_sorted : (n : ℕ) (rows : List (List Value)) → is_strictly_sorted row_precedes (numbered_rows n rows) ≡ true
numbered_sorted n [] = refl
numbered_sorted n (values ∷ rows) =
    sorted-from row_precedes row-trans (record { number = n; values = values }) (numbered_rows (n + 1) rows)
    (over_numbered n (n + 1) (omega arith) rows) (numbered_sorted (n + 1) rows)

under_numbered : (n m : ℕ) (rows : List (List Value)) → n + length rows ≤ m → list_all (is_under m) (numbered_rows n rows) ≡ true
under_numbered n m [] fit = refl
under_numbered n m (values ∷ rows) fit =
    let long : length (values ∷ rows) ≡ suc (length rows) = refl in
    and-from (nat_lt n m) (list_all (is_under m) (numbered_rows (n + 1) rows))
    ((Decides-ltb n m).1 (omega (arith, fit, long))) (under_numbered (n + 1) m rows (omega (arith, fit, long)))

joined_sorted : (next : ℕ) (rows : List TableRow) (more : List (List Value)) → list_all (is_under next) rows ≡ true
    → is_strictly_sorted row_precedes rows ≡ true
    → is_strictly_sorted row_precedes (rows ++ numbered_rows next more) ≡ true
joined_sorted next [] more under sorted = numbered_sorted next more
joined_sorted next (row ∷ rows) more under sorted =
    let both = and-parts (is_under next row) (list_all (is_under next) rows) under in
    let less : row.number < next = (Decides-ltb row.number next).0 both.0 in
    sorted-from row_precedes row-trans row (rows ++ numbered_rows next more)
    (list_all-append (row_precedes row) rows (numbered_rows next more)
    ∙ and-from (list_all (row_precedes row) rows) (list_all (row_precedes row) (numbered_rows next more))
    (sorted-all row_precedes row-trans row rows sorted) (over_numbered row.number next less more))
    (joined_sorted next rows more both.1 (sorted-tail row_precedes row-trans row rows sorted))

pub numbers-insert : (next : ℕ) (rows : List TableRow) (more : List (List Value))
    → numbers_test number_of next rows ≡ true
    → numbers_test number_of (next + length more) (rows ++ numbered_rows next more) ≡ true
numbers-insert next rows more is =
    let both = and-parts (is_strictly_sorted row_precedes rows) (list_all (is_under next) rows) is in
    let later : list_all (is_under (next + length more)) rows ≡ true =
    list_all-weaker (is_under next) (is_under (next + length more))
    (λ row under. let less : row.number < next = (Decides-ltb row.number next).0 under in (Decides-ltb row.number (next + length more)).1 (omega (arith, less))) rows both.1 in
    and-from (is_strictly_sorted row_precedes (rows ++ numbered_rows next more)) (list_all (is_under (next + length more)) (rows ++ numbered_rows next more))
    (joined_sorted next rows more both.1 both.0)
    (list_all-append (is_under (next + length more)) rows (numbered_rows next more)
    ∙ and-from (list_all (is_under (next + length more)) rows) (list_all (is_under (next + length more)) (numbered_rows next more))
    later (under_numbered next (next + length more) more (omega arith)))

-- ---- rows that keep their numbers, and fewer rows

pub numbers-map : (change : TableRow → TableRow) → ((row : TableRow) → (change row).number ≡ row.number)
    → (next : ℕ) (rows : List TableRow)
    → numbers_test number_of next (map change rows) ≡ numbers_test number_of next rows
numbers-map change same next rows = λ j. sorted j && under rows j
  where
    sorted : is_strictly_sorted row_precedes (map change rows) ≡ is_strictly_sorted row_precedes rows
    sorted = sorted-map row_precedes row_precedes change (λ a b j. nat_lt (same a j) (same b j)) rows

    under : (rows : List TableRow) → list_all (is_under next) (map change rows) ≡ list_all (is_under next) rows
    under [] = refl
    under (row ∷ rows) = λ j. nat_lt (same row j) next && under rows j

pub numbers-filter : (keep : TableRow → Bool) (next : ℕ) (rows : List TableRow)
    → numbers_test number_of next rows ≡ true
    → numbers_test number_of next (filter keep rows) ≡ true
numbers-filter keep next rows is =
    let both = and-parts (is_strictly_sorted row_precedes rows) (list_all (is_under next) rows) is in
    and-from (is_strictly_sorted row_precedes (filter keep rows)) (list_all (is_under next) (filter keep rows))
    (sorted-filter row_precedes row-trans keep rows both.0) (list_all-filter (is_under next) keep rows both.1)

-- ---- the next number

pub next-within : (n : ℕ) → nat_lt max_next n ≡ false → nat_le n max_next ≡ true
next-within n is = let t : nat_le n 4294967295 ≡ true = grind (arith, nat_tests) in t
