-- The slots that a scan of a column selects.
use Rattle.std.proofs.Common.{◌≡◌, ℕ, ◌+◌, ◌/◌, ◌<◌, ◌≤◌, inl, inr, Bool, true, false, not, ◌&&◌, List, [], ◌∷◌, length, map, get_or, refl, ap, sym, ◌∙◌, arith}
use Rattle.std.specs.Prelude.{ℤ, Option, Some, None, is_none, is_some, slice_get}
use Rattle.std.specs.Option.{option_map_or}
use Rattle.std.specs.Ordering.{int_cmp}
use Rattle.std.proofs.lemmas.Bool.{cases_lt}
use Rattle.std.proofs.lemmas.Option.{slice_get_past}
use Rattle.ldv_value.proofs.Booleans.{and-false, and-true}
use Rattle.ldv_value.specs.Order.{meets, truth_of_bool}
use Rattle.lanes.specs.Selection.{passes, holds_at}
use Rattle.lanes.specs.Sets.{member, IsDifference}
use Rattle.sql_model.specs.Meaning.{is_true}
use Rattle.ldv_value.specs.Cells.{value_at, int_value}
use Rattle.column_store.specs.Cells.{Cells}
use Rattle.column_store.specs.Columns.{no_cells, values_at}
use Rattle.column_store.proofs.CellLaws.{ints_get, ints_len}
use Rattle.column_store.proofs.ColumnLaws as laws
use Rattle.table_store.specs.Scans.{null_passes, passes_test}
use Rattle.table_store.specs.Types.{Cmp, Value, Null}

-- ---- cells of numbers

is_known : (b : Bool) → is_true (truth_of_bool b) ≡ b
is_known true = refl
is_known false = refl

int_passes : (op : Cmp) (constant : ℤ) (cell : Option ℤ) → passes_test op constant (int_value cell) ≡ option_map_or (passes op constant) cell false
int_passes op constant None = refl
int_passes op constant (Some number) = is_known (meets op (int_cmp number constant))

-- a comparison of the numbers is one of the values
pub select_seen : (op : Cmp) (constant : ℤ) (ints : List (Option ℤ)) (cells : List Value) → map int_value ints ≡ cells → (n : ℕ)
    → option_map_or (passes op constant) (get_or ints n None) false ≡ passes_test op constant (get_or cells n Null)
select_seen op constant ints cells seen n =
    sym (int_passes op constant (get_or ints n None)) ∙ ap (passes_test op constant) (sym (ints_get ints n)) ∙ ap (λ (l : List Value). passes_test op constant (get_or l n Null)) seen

-- a word passes, and its cell isn't NULL
pub select_cell : (p : ℤ → Bool) (cell word : Option ℤ) → ((number : ℤ) → cell ≡ Some number → word ≡ Some number) → (option_map_or p word false && is_some cell) ≡ option_map_or p cell false
select_cell p None word same = and-false (option_map_or p word false)
select_cell p (Some number) word same = ap (λ (o : Option ℤ). option_map_or p o false && true) (same number refl) ∙ and-true (p number)

-- past the last word nothing is selected
pub select_past : (op : Cmp) (constant : ℤ) (words : List ℤ) (n : ℕ) → length words ≤ n → holds_at op words constant n ≡ false
select_past op constant words n past = ap (λ (o : Option ℤ). option_map_or (passes op constant) o false) (slice_get_past words n past)

none_is : (cell : Option ℤ) → is_none cell ≡ null_passes true (int_value cell)
none_is None = refl
none_is (Some number) = refl

some_is : (cell : Option ℤ) → not (is_none cell) ≡ is_some cell
some_is None = refl
some_is (Some number) = refl

pub some_passes : (cell : Option ℤ) → is_some cell ≡ null_passes false (int_value cell)
some_passes None = refl
some_passes (Some number) = refl

module _ (cells : List (Option ℤ)) (old nulls new : List ℕ) (bits : (n : ℕ) → n < length cells → member nulls n ≡ is_none (get_or cells n None)) (clear : (n : ℕ) → length cells ≤ n → member old n ≡ false) where
  -- the slots of the cells that are NULL are taken out
  pub nulls_dropped : IsDifference old nulls new → (n : ℕ) → member new n ≡ (member old n && is_some (get_or cells n None))
  nulls_dropped made n = made n ∙ elim (cases_lt n (length cells)) [
    | inl within ↦ ap (λ (b : Bool). member old n && b) (ap not (bits n within) ∙ some_is (get_or cells n None))
    | inr past ↦
        let gone : member old n ≡ false = clear n (omega (arith, past)) in
        ap (λ (b : Bool). b && not (member nulls n)) gone ∙ ap (λ (b : Bool). b && is_some (get_or cells n None)) (sym gone)
  ]

  -- just these slots are kept
  pub nulls_kept : (n : ℕ) → (member old n && member nulls n) ≡ (member old n && null_passes true (int_value (get_or cells n None)))
  nulls_kept n = elim (cases_lt n (length cells)) [
    | inl within ↦ ap (λ (b : Bool). member old n && b) (bits n within ∙ none_is (get_or cells n None))
    | inr past ↦
        let gone : member old n ≡ false = clear n (omega (arith, past)) in
        ap (λ (b : Bool). b && member nulls n) gone ∙ ap (λ (b : Bool). b && null_passes true (int_value (get_or cells n None))) (sym gone)
  ]

pub ruleset scan_rules = (ints_get, ints_len)

-- ---- cells by their places

pub row_past : (columns : List Cells) (slot place : ℕ) → length columns ≤ place → value_at (values_at columns slot) place ≡ Null
row_past columns slot place past = laws.row_past columns slot place past

pub row_place : (columns : List Cells) (slot place : ℕ) → place < length columns → value_at (values_at columns slot) place ≡ get_or (get_or columns place no_cells).items slot Null
row_place columns slot place within = laws.row_place columns slot place within

pub ruleset place_rules = (row_past, row_place)
