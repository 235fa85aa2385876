-- Rows that get other values and keep their keys.
use Rattle.std.proofs.Common.{◌≡◌, ◌==◌, ℕ, zero, suc, ◌+◌, ◌<◌, ◌≤◌, inl, inr, Bool, true, cond, ◌&&◌, List, [], ◌∷◌, map, length, take, get_or, add-one, refl, ap, sym, subst, ◌∙◌, arith, Option, Some, None, eq-eqb, append-nil}
use Rattle.std.specs.Prelude.{find, unwrap_or}
use Rattle.std.specs.List.{AllByRecursion}
use Rattle.std.specs.Option.{option_map}
use Rattle.std.proofs.lemmas.Bool.{cases_Bool, ne_eqb}
use Rattle.table_store.proofs.TableLaws.{number_found}
use Rattle.sql_model.specs.Changes.{clash_after, clash_by}
use Rattle.sql_model.specs.Keys.{values_at, key_at}
use Rattle.sql_model.specs.References.{has_key}
use Rattle.table_store.specs.Types.{TableRow}
use Rattle.table_store.specs.Claims.{KeepsKey}
use Rattle.table_store.specs.Histories.{RowHistory, rows_now}
use Rattle.table_store.specs.KeyIndex.{HeldKeys, AreHeld, AreIndexed}
use Rattle.table_store.specs.RowOrder.{AreInOrder}
use Rattle.table_store.specs.Stops.{replaced_by}
use Rattle.table_store.proofs.IndexLaws.{Alike, alike_held}
use Rattle.table_store.proofs.InsertLaws.{AllRows, RisesFrom, rows_rise, clash_front}
use Rattle.table_store.proofs.RekeyLaws.{number_kept}

some_row : {a b : TableRow} → Some a ≡ Some b → a ≡ b
some_row same = cc

none_above : (number low : ℕ) (p : TableRow → Bool) (rows : List TableRow) → number < low → RisesFrom low rows → find (λ row. (row.number == number) && p row) rows ≡ None
none_above number low p [] below rises = refl
none_above number low p (row ∷ rows) below rises =
    ap (λ b. cond (b && p row) (Some row) (find (λ one. (one.number == number) && p one) rows)) (ne_eqb row.number number (omega (arith, below, rises.0)))
    ∙ none_above number (row.number + 1) p rows (omega (arith, below, rises.0)) rises.1

-- of the first row with a number
first_has : (number : ℕ) (p : TableRow → Bool) (row : TableRow) (rows : List TableRow) → row.number ≡ number → RisesFrom (row.number + 1) rows
    → option_map (λ (one : TableRow). one.number) (find (λ one. (one.number == number) && p one) (row ∷ rows)) ≡ Some number → p row ≡ true
first_has number p row rows same rises is = elim (cases_Bool (p row)) [
  | inl hit ↦ hit
  | inr miss ↦
      let gone : find (λ one. (one.number == number) && p one) (row ∷ rows) ≡ None =
      ap (λ b. cond (b && p row) (Some row) (find (λ one. (one.number == number) && p one) rows)) (eq-eqb row.number number same)
      ∙ ap (λ b. cond b (Some row) (find (λ one. (one.number == number) && p one) rows)) miss
      ∙ none_above number (row.number + 1) p rows (omega (arith, same)) rises in
      let wrong : None ≡ Some number = sym (ap (option_map (λ (one : TableRow). one.number)) gone) ∙ is in
      cc
]

-- of a later one
later_has : (number : ℕ) (p : TableRow → Bool) (row : TableRow) (rows : List TableRow) → row.number < number
    → option_map (λ (one : TableRow). one.number) (find (λ one. (one.number == number) && p one) (row ∷ rows)) ≡ Some number
    → option_map (λ (one : TableRow). one.number) (find (λ one. (one.number == number) && p one) rows) ≡ Some number
later_has number p row rows less is =
    sym (ap (λ b. option_map (λ (one : TableRow). one.number) (cond (b && p row) (Some row) (find (λ one. (one.number == number) && p one) rows))) (ne_eqb row.number number (omega (arith, less)))) ∙ is

module _ (places : List ℕ) (given : List TableRow) where
  -- a row has the key of the one that takes its place
  abbrev pub Keeps : TableRow → Type 0
  Keeps row = (new : TableRow) → find (λ one. one.number == row.number) given ≡ Some new → has_key places (values_at places new.values) row ≡ true

  keep_found : (rows : List TableRow) (some : List TableRow) → AllByRecursion (KeepsKey places rows) some → (number : ℕ) (new : TableRow) → find (λ one. one.number == number) some ≡ Some new → KeepsKey places rows new
  keep_found rows [] keep number new is = cc
  keep_found rows (first ∷ some) keep number new is = elim (cases_Bool (first.number == number)) [
    | inl hit ↦ subst (λ (row : TableRow). KeepsKey places rows row) (some_row (sym (ap (λ b. cond b (Some first) (find (λ one. one.number == number) some)) hit) ∙ is)) keep.0
    | inr miss ↦ keep_found rows some keep.1 number new (sym (ap (λ b. cond b (Some first) (find (λ one. one.number == number) some)) miss) ∙ is)
  ]

  all_keep : (low : ℕ) (rows : List TableRow) → RisesFrom low rows
      → ((number : ℕ) (new : TableRow) → low ≤ number → find (λ one. one.number == number) given ≡ Some new → KeepsKey places rows new) → AllRows Keeps rows
  all_keep low [] rises keep = tt
  all_keep low (row ∷ rows) rises keep = (
    (λ new is.
        let same : new.number ≡ row.number = number_found row.number given new is in
        first_has new.number (has_key places (values_at places new.values)) row rows (sym same) rises.1 (keep row.number new rises.0 is)),
    all_keep (row.number + 1) rows rises.1 (λ number new from is.
        let same : new.number ≡ number = number_found number given new is in
        later_has new.number (has_key places (values_at places new.values)) row rows (omega (arith, from, same)) (keep number new (omega (arith, from, rises.0)) is)),
  )

  module _ (held : HeldKeys) (alike : Alike held) where
    one_held : (row : TableRow) → Keeps row → held (key_at places row.values) ≡ Some row.number → held (key_at places (replaced_by given row).values) ≡ Some (replaced_by given row).number
    one_held row keeps is = by (find (λ one. one.number == row.number) given) refl ∙ ap (λ (n : ℕ). Some n) (sym (number_kept given row)) where
      by : (o : Option TableRow) → find (λ one. one.number == row.number) given ≡ o → held (key_at places (unwrap_or o row).values) ≡ Some row.number
      by None found = is
      by (Some new) found = sym (alike_held held alike (key_at places row.values) (key_at places new.values) (keeps new found)) ∙ is

    held_replaced : (rows : List TableRow) → AllRows Keeps rows → AreHeld places held rows → AreHeld places held (map (replaced_by given) rows)
    held_replaced [] keep are = tt
    held_replaced (row ∷ rows) keep are = (one_held row keep.0 are.0, held_replaced rows keep.1 are.1)

  pub rises_replaced : (low : ℕ) (rows : List TableRow) → RisesFrom low rows → RisesFrom low (map (replaced_by given) rows)
  rises_replaced low [] rises = tt
  rises_replaced low (row ∷ rows) rises =
      let same : (replaced_by given row).number ≡ row.number = number_kept given row in
      (omega (arith, same, rises.0), subst (λ (n : ℕ). RisesFrom (n + 1) (map (replaced_by given) rows)) (sym same) (rises_replaced (row.number + 1) rows rises.1))

module _ (given : List TableRow) (held : HeldKeys) (alike : Alike held) (slots : List RowHistory) (next : ℕ) (order : AreInOrder slots next) where
  rise : RisesFrom 0 (rows_now slots)
  rise = rows_rise 0 slots (λ i below. omega arith) order.rising

  keyed_kept : (places : List ℕ) → AllByRecursion (KeepsKey places (rows_now slots)) given → AreHeld places held (rows_now slots) → AreHeld places held (map (replaced_by given) (rows_now slots))
  keyed_kept places keep are =
      held_replaced places given held alike (rows_now slots) (all_keep places given 0 (rows_now slots) rise (λ number new from is. keep_found places given (rows_now slots) given keep number new is)) are

  -- the index stays right
  pub still_indexed : (places : List ℕ) → AllByRecursion (KeepsKey places (rows_now slots)) given → AreIndexed places held (rows_now slots) → AreIndexed places held (map (replaced_by given) (rows_now slots))
  still_indexed [] keep are = tt
  still_indexed (place ∷ places) keep are = keyed_kept (place ∷ places) keep are

  -- and no two rows have the same key
  pub none_clash : (places : List ℕ) → AllByRecursion (KeepsKey places (rows_now slots)) given → AreIndexed places held (rows_now slots) → clash_by places (map (replaced_by given) (rows_now slots)) ≡ None
  none_clash [] keep are = refl
  none_clash (place ∷ places) keep are =
      let rows : List TableRow = map (replaced_by given) (rows_now slots) in
      ap (clash_after (place ∷ places) []) (sym (append-nil rows))
      ∙ clash_front (place ∷ places) held alike [] rows [] 0 tt (keyed_kept (place ∷ places) keep are) tt (rises_replaced (place ∷ places) given 0 (rows_now slots) rise)

pub all_more : (P : TableRow → Type 0) (rows : List TableRow) (i : ℕ) (d : TableRow) → i < length rows → AllByRecursion P (take i rows) → P (get_or rows i d) → AllByRecursion P (take (i + 1) rows)
all_more P rows i d within front one = rw add-one (by rows i within front one) where
  by : (some : List TableRow) (k : ℕ) → k < length some → AllByRecursion P (take k some) → P (get_or some k d) → AllByRecursion P (take (suc k) some)
  by [] k inside before here = absurd (omega (arith, inside))
  by (row ∷ some) zero inside before here = (here, tt)
  by (row ∷ some) (suc k) inside before here = (before.0, by some k (omega (arith, inside)) before.1 here)
