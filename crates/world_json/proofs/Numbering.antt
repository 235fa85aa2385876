-- Rows that were numbered as they were read.
use Rattle.std.proofs.Common.{◌≡◌, ℕ, ◌+◌, ◌≤◌, List, [], ◌∷◌, ◌++◌, length, Bool, ◌&&◌, refl, ap, arith, subst}
use Rattle.std.specs.List.{list_all}
use Rattle.ldv_value.specs.Limits.{max_rows}
use Rattle.ldv_value.specs.declared.value.Value.{Value}
use Rattle.sql_model.specs.declared.table.TableRow.{TableRow}
use Rattle.sql_model.proofs.UniqueKeys.{values_in}
use Rattle.world_json.specs.inner.Numbers.{AreNumberedFrom}
use Rattle.world_json.specs.Reading.{numbered_from}

-- a row at the end, with its place as its number
pub numbered_push : (n : ℕ) (rows : List TableRow) (row : TableRow) → AreNumberedFrom n rows → (n + length rows ≤ max_rows → row.number ≡ n + length rows) → AreNumberedFrom n (rows ++ row ∷ [])
numbered_push n [] row numbered is =
    let sum : n + length {A = TableRow} [] ≡ n = omega arith in
    (subst (λ (at : ℕ). at ≤ max_rows → row.number ≡ at) sum is, tt)
numbered_push n (first ∷ rows) row numbered is =
    let sum : n + length (first ∷ rows) ≡ (n + 1) + length rows = omega arith in
    (numbered.0, numbered_push (n + 1) rows row numbered.1 (subst (λ (at : ℕ). at ≤ max_rows → row.number ≡ at) sum is))

pub values_push : (rows : List TableRow) (row : TableRow) → values_in (rows ++ row ∷ []) ≡ values_in rows ++ row.values ∷ []
values_push [] row = refl
values_push (first ∷ rows) row = ap (λ l. first.values ∷ l) (values_push rows row)

row_at : (row : TableRow) (n : ℕ) → row.number ≡ n → row ≡ record { number = n; values = row.values }
row_at row n is = (λ i. record { number = is i; values = row.values })

-- rows within the limit are those of the table
pub numbered_rows : (n : ℕ) (rows : List TableRow) → AreNumberedFrom n rows → n + length (values_in rows) ≤ max_rows → rows ≡ numbered_from n (values_in rows)
numbered_rows n [] numbered few = refl
numbered_rows n (row ∷ rows) numbered few =
    let at : n ≤ max_rows = omega arith in
    let rest : (n + 1) + length (values_in rows) ≤ max_rows = omega arith in
    (λ i. row_at row n (numbered.0 at) i ∷ numbered_rows (n + 1) rows numbered.1 rest i)

-- a test of each row's values
pub all_values : (test : List Value → Bool) (rows : List TableRow) → list_all (λ row. test row.values) rows ≡ list_all test (values_in rows)
all_values test [] = refl
all_values test (row ∷ rows) = ap (λ rest. test row.values && rest) (all_values test rows)
