-- Rows with their log.
use Rattle.std.proofs.Common.{◌≡◌, ◌==◌, ◌≢◌, ℕ, zero, suc, ◌+◌, ◌-◌, ◌<◌, ◌≤◌, inl, inr, Bool, true, false, cond, List, [], ◌∷◌, ◌++◌, map, length, get_or, refl, ap, sym, subst, ◌∙◌, arith, Option, Some, None, is_some}
use Rattle.std.specs.Prelude.{ℤ, IsSome, IfSome, ◌&&◌, ◌^◌, nat_le, if◌then◌else◌}
use Rattle.std.specs.Option.{option_map, option_map_or}
use Rattle.std.proofs.lemmas.Bool.{cases_lt, eq-eqb, ne_eqb}
use Rattle.std.proofs.lemmas.List.{append_assoc, append-nil, length-append, length-map, get_or-map, get_or_past, get_or_append_left, get_or-append_right}
use Rattle.row_version.specs.History.{Change, write_at, delete_at, current_values, as_of, version}
use Rattle.row_version.proofs.Later.{current_after, as_of_after}
use Rattle.table_store.specs.Types.{Cmp, Value, Null, TableRow}
use Rattle.table_store.specs.Scans.{null_passes, passes_test}
use Rattle.table_store.specs.inner.Grid.{Slot, no_slot, new_slot, slot_null, slot_passes}
use Rattle.table_store.specs.RowOrder.{AreInOrder}
use Rattle.table_store.specs.Histories.{RowHistory, no_history, history_of_new_row}
use Rattle.table_store.specs.inner.RowHistories.{Past, Ends, end_of, is_ended, changes_at, history_of, histories_of, AreKept}

pub none_kept : (earlier : Past) (ends : Ends) → ((k : ℕ) → earlier k ≡ []) → ((k : ℕ) → ends k ≡ 0) → AreKept earlier ends []
none_kept earlier ends none unended = record {
  stands = λ k below. absurd (omega (arith, below));
  few = λ k below. absurd (omega (arith, below));
  fresh = λ k from. none k;
  open_ended = λ k from. unended k;
}

-- ---- what is seen of a row

histories_len : (earlier : Past) (ends : Ends) (slots : List Slot) → length (histories_of earlier ends slots) ≡ length slots
histories_len earlier ends [] = refl
histories_len earlier ends (slot ∷ slots) = ap suc (histories_len (λ k. earlier (suc k)) (λ k. ends (suc k)) slots)

pub history_in : (earlier : Past) (ends : Ends) (slots : List Slot) (k : ℕ) → k < length slots → get_or (histories_of earlier ends slots) k no_history ≡ history_of (earlier k) (ends k) (get_or slots k no_slot)
history_in earlier ends [] k within = absurd (omega (arith, within))
history_in earlier ends (slot ∷ slots) zero within = refl
history_in earlier ends (slot ∷ slots) (suc k) within = history_in (λ n. earlier (suc n)) (λ n. ends (suc n)) slots k (omega (arith, within))

module _ (earlier : Past) (ends : Ends) (slots : List Slot) (kept : AreKept earlier ends slots) (seen : List RowHistory) (same : histories_of earlier ends slots ≡ seen) where
  pub rows_len : length seen ≡ length slots
  rows_len = ap length (sym same) ∙ histories_len earlier ends slots

  pub in_slots : (slot : ℕ) → slot < length seen → slot < length slots
  in_slots slot within = omega (arith, within, rows_len)

  pub row_is : (slot : ℕ) → slot < length seen → get_or seen slot no_history ≡ history_of (earlier slot) (ends slot) (get_or slots slot no_slot)
  row_is slot within = ap (λ (l : List RowHistory). get_or l slot no_history) (sym same) ∙ history_in earlier ends slots slot (in_slots slot within)

-- ---- the changes of a row

-- without an end, and with one
pub with_end : (earlier : List Change) (time : ℕ) (slot : Slot) → changes_at earlier (suc time) slot ≡ changes_at earlier 0 slot ++ delete_at (suc time) ∷ []
with_end earlier time slot = sym (append_assoc earlier (write_at slot.since slot.values ∷ []) (delete_at (suc time) ∷ []))

pub current_by : (earlier : List Change) (ended : ℕ) (slot : Slot) → slot.stands ≡ (ended == 0) → current_values (changes_at earlier ended slot) ≡ cond slot.stands (Some slot.values) None
current_by earlier zero slot stands =
    current_after earlier (write_at slot.since slot.values) ∙ sym (ap (λ b. cond b (Some slot.values) None) (stands ∙ eq-eqb 0 0 refl))
current_by earlier (suc time) slot stands =
    ap current_values (with_end earlier time slot) ∙ current_after (changes_at earlier 0 slot) (delete_at (suc time))
    ∙ sym (ap (λ b. cond b (Some slot.values) None) (stands ∙ ne_eqb (suc time) 0 (λ is. omega (arith, is))))

-- how often the row has changed
pub version_open : (earlier : List Change) (ended : ℕ) (slot : Slot) → ended ≡ 0 → version (changes_at earlier ended slot) ≡ length earlier
version_open earlier zero slot unended = omega (arith, length-append earlier (write_at slot.since slot.values ∷ []))
version_open earlier (suc time) slot unended = absurd (omega (arith, unended))

pub version_ended : (earlier : List Change) (ended : ℕ) (slot : Slot) → ended ≢ 0 → version (changes_at earlier ended slot) ≡ length earlier + 1
version_ended earlier zero slot over = absurd (over refl)
version_ended earlier (suc time) slot over = omega (arith, length-append earlier (write_at slot.since slot.values ∷ delete_at (suc time) ∷ []))

pub length_open : (earlier : List Change) (ended : ℕ) (slot : Slot) → ended ≡ 0 → length (changes_at earlier ended slot) ≡ length earlier + 1
length_open earlier zero slot unended = length-append earlier (write_at slot.since slot.values ∷ [])
length_open earlier (suc time) slot unended = absurd (omega (arith, unended))

pub length_ended : (earlier : List Change) (ended : ℕ) (slot : Slot) → ended ≢ 0 → length (changes_at earlier ended slot) ≡ length earlier + 2
length_ended earlier zero slot over = absurd (over refl)
length_ended earlier (suc time) slot over = length-append earlier (write_at slot.since slot.values ∷ delete_at (suc time) ∷ [])

-- the values as of a time: none from the end on, the last ones from when they were written on, and else earlier ones
last_as_of : (earlier : List Change) (slot : Slot) (time : ℕ) → as_of (changes_at earlier 0 slot) time ≡ (if nat_le slot.since time then Some slot.values else as_of earlier time)
last_as_of earlier slot time = as_of_after earlier (write_at slot.since slot.values) time

pub values_at_time : (earlier : List Change) (ended : ℕ) (slot : Slot) (time : ℕ)
    → as_of (changes_at earlier ended slot) time ≡ (if is_ended ended time then None else (if nat_le slot.since time then Some slot.values else as_of earlier time))
values_at_time earlier zero slot time = last_as_of earlier slot time
values_at_time earlier (suc end) slot time =
    ap (λ (l : List Change). as_of l time) (with_end earlier end slot)
    ∙ as_of_after (changes_at earlier 0 slot) (delete_at (suc end)) time
    ∙ ap (λ (o : Option (List Value)). cond (nat_le (suc end) time) None o) (last_as_of earlier slot time)

stands_by : (b : Bool) (values : List Value) → is_some (cond b (Some values) None) ≡ b
stands_by true values = refl
stands_by false values = refl

values_by : (b : Bool) (values : List Value) (now : Option (List Value)) → now ≡ cond b (Some values) None → IsSome now → Some values ≡ now
values_by true values now is some = sym is
values_by false values None is some = cc
values_by false values (Some other) is some = cc

module _ (earlier : Past) (ends : Ends) (slots : List Slot) (kept : AreKept earlier ends slots) (seen : List RowHistory) (same : histories_of earlier ends slots ≡ seen) where
  pub current_is : (slot : ℕ) → slot < length seen → current_values (get_or seen slot no_history).changes ≡ cond (get_or slots slot no_slot).stands (Some (get_or slots slot no_slot).values) None
  current_is slot within =
      ap (λ (h : RowHistory). current_values h.changes) (row_is earlier ends slots kept seen same slot within)
      ∙ current_by (earlier slot) (ends slot) (get_or slots slot no_slot) (kept.stands slot (in_slots earlier ends slots kept seen same slot within))

  pub stands_is : (slot : ℕ) → slot < length seen → (get_or slots slot no_slot).stands ≡ is_some (current_values (get_or seen slot no_history).changes)
  stands_is slot within = sym (ap is_some (current_is slot within) ∙ stands_by (get_or slots slot no_slot).stands (get_or slots slot no_slot).values)

  pub values_are : (slot : ℕ) → slot < length seen → IsSome (current_values (get_or seen slot no_history).changes) → Some (get_or slots slot no_slot).values ≡ current_values (get_or seen slot no_history).changes
  values_are slot within some = values_by (get_or slots slot no_slot).stands (get_or slots slot no_slot).values (current_values (get_or seen slot no_history).changes) (current_is slot within) some

  pub number_is : (slot : ℕ) → slot < length seen → (get_or slots slot no_slot).number ≡ (get_or seen slot no_history).number
  number_is slot within = sym (ap (λ (h : RowHistory). h.number) (row_is earlier ends slots kept seen same slot within))

pub ruleset row_rules = (rows_len, in_slots)

-- ---- rows that are added

new_histories : (time : ℕ) (earlier : Past) (ends : Ends) → ((k : ℕ) → earlier k ≡ []) → ((k : ℕ) → ends k ≡ 0) → (rows : List TableRow)
    → histories_of earlier ends (map (new_slot time) rows) ≡ map (history_of_new_row time) rows
new_histories time earlier ends none unended [] = refl
new_histories time earlier ends none unended (row ∷ rows) =
    λ j. record { number = row.number; changes = changes_at (none 0 j) (unended 0 j) (new_slot time row) }
    ∷ new_histories time (λ k. earlier (suc k)) (λ k. ends (suc k)) (λ k. none (suc k)) (λ k. unended (suc k)) rows j

added_histories : (time : ℕ) (earlier : Past) (ends : Ends) (slots : List Slot) → ((k : ℕ) → length slots ≤ k → earlier k ≡ []) → ((k : ℕ) → length slots ≤ k → ends k ≡ 0) → (rows : List TableRow)
    → histories_of earlier ends (slots ++ map (new_slot time) rows) ≡ histories_of earlier ends slots ++ map (history_of_new_row time) rows
added_histories time earlier ends [] none unended rows = new_histories time earlier ends (λ k. none k (omega arith)) (λ k. unended k (omega arith)) rows
added_histories time earlier ends (slot ∷ slots) none unended rows =
    ap (λ (l : List RowHistory). history_of (earlier 0) (ends 0) slot ∷ l)
    (added_histories time (λ k. earlier (suc k)) (λ k. ends (suc k)) slots (λ k from. none (suc k) (omega (arith, from))) (λ k from. unended (suc k) (omega (arith, from))) rows)

module _ (earlier : Past) (ends : Ends) (time : ℕ) (slots : List Slot) (kept : AreKept earlier ends slots) (rows : List TableRow) where
  pub rows_added : histories_of earlier ends (slots ++ map (new_slot time) rows) ≡ histories_of earlier ends slots ++ map (history_of_new_row time) rows
  rows_added = added_histories time earlier ends slots kept.fresh kept.open_ended rows

  new_here : (k : ℕ) → length slots ≤ k → k < length (slots ++ map (new_slot time) rows) → (get_or (slots ++ map (new_slot time) rows) k no_slot).stands ≡ true
  new_here k from below =
      let new : k - length slots < length rows = omega (arith, from, below, length-append slots (map (new_slot time) rows), length-map rows (new_slot time)) in
      ap (λ (s : Slot). s.stands) (get_or-append_right slots (map (new_slot time) rows) (length slots) k no_slot refl from ∙ get_or-map (new_slot time) rows (k - length slots) (record { number = 0; values = [] }) no_slot new)

  pub kept_added : AreKept earlier ends (slots ++ map (new_slot time) rows)
  kept_added = record {
    stands = λ k below. elim (cases_lt k (length slots)) [
      | inl within ↦ subst (λ (s : Slot). s.stands ≡ (ends k == 0)) (sym (get_or_append_left slots (map (new_slot time) rows) no_slot k within)) (kept.stands k within)
      | inr from ↦ new_here k from below ∙ sym (eq-eqb (ends k) 0 (kept.open_ended k from))
    ];
    few = λ k below. elim (cases_lt k (length slots)) [
      | inl within ↦ subst (λ (s : Slot). length (changes_at (earlier k) (ends k) s) ≤ 2 ^ 32) (sym (get_or_append_left slots (map (new_slot time) rows) no_slot k within)) (kept.few k within)
      | inr from ↦
          let none : length (earlier k) ≡ 0 = ap length (kept.fresh k from) in
          omega (arith, none, length_open (earlier k) (ends k) (get_or (slots ++ map (new_slot time) rows) k no_slot) (kept.open_ended k from))
    ];
    fresh = λ k from. kept.fresh k (omega (arith, from, length-append slots (map (new_slot time) rows)));
    open_ended = λ k from. kept.open_ended k (omega (arith, from, length-append slots (map (new_slot time) rows)));
  }

-- ---- where rows are

module _ (earlier : Past) (ends : Ends) (slots : List Slot) (kept : AreKept earlier ends slots) (seen : List RowHistory) (same : histories_of earlier ends slots ≡ seen) where
  pub found_row : (number : ℕ) (place : Option ℕ) → IfSome place (λ slot. (slot < length slots) × ((get_or slots slot no_slot).number ≡ number)) → IfSome place (λ slot. (slot < length seen) × ((get_or seen slot no_history).number ≡ number))
  found_row number None found = tt
  found_row number (Some k) found =
      let within : k < length seen = omega (arith, found.0, rows_len earlier ends slots kept seen same) in
      (within, sym (number_is earlier ends slots kept seen same k within) ∙ found.1)

  pub absent_row : (number : ℕ) → ((k : ℕ) → k < length slots → (get_or slots k no_slot).number ≢ number) → (k : ℕ) → k < length seen → (get_or seen k no_history).number ≢ number
  absent_row number absent k within is = absent k (in_slots earlier ends slots kept seen same k within) (number_is earlier ends slots kept seen same k within ∙ is)

  pub in_order : (next : ℕ) → ((i j : ℕ) → i < j → j < length slots → (get_or slots i no_slot).number < (get_or slots j no_slot).number) → ((i : ℕ) → i < length slots → (get_or slots i no_slot).number < next) → AreInOrder seen next
  in_order next rising below = record {
    rising = λ i j less within.
        let inside : j < length slots = in_slots earlier ends slots kept seen same j within in
        omega (arith, rising i j less inside, number_is earlier ends slots kept seen same i (omega (arith, less, within)), number_is earlier ends slots kept seen same j within);
    below = λ i within. omega (arith, below i (in_slots earlier ends slots kept seen same i within), number_is earlier ends slots kept seen same i within);
  }

  pub key_is : {Y : Type 0} (slot : ℕ) → slot < length seen → IsSome (current_values (get_or seen slot no_history).changes) → (f : List Value → Y)
      → Some (f (get_or slots slot no_slot).values) ≡ option_map f (current_values (get_or seen slot no_history).changes)
  key_is slot within some f = ap (option_map f) (values_are earlier ends slots kept seen same slot within some)

  pub scan_is : (column : ℕ) (op : Cmp) (constant : ℤ) (n : ℕ) → slot_passes column op constant (get_or slots n no_slot) ≡ option_map_or (λ row. passes_test op constant (get_or row column Null)) (current_values (get_or seen n no_history).changes) false
  scan_is column op constant n = elim (cases_lt n (length seen)) [
    | inl within ↦ by (get_or slots n no_slot).stands (get_or slots n no_slot).values ∙ ap (λ (o : Option (List Value)). option_map_or (λ row. passes_test op constant (get_or row column Null)) o false) (sym (current_is earlier ends slots kept seen same n within))
    | inr past ↦
        ap (slot_passes column op constant) (get_or_past slots n no_slot (omega (arith, past, rows_len earlier ends slots kept seen same)))
        ∙ ap (λ (h : RowHistory). option_map_or (λ row. passes_test op constant (get_or row column Null)) (current_values h.changes) false) (sym (get_or_past seen n no_history past))
  ] where
    by : (b : Bool) (values : List Value) → (b && passes_test op constant (get_or values column Null)) ≡ option_map_or (λ row. passes_test op constant (get_or row column Null)) (cond b (Some values) None) false
    by true values = refl
    by false values = refl

  pub nulls_are : (column : ℕ) (is_null : Bool) (n : ℕ) → slot_null column is_null (get_or slots n no_slot) ≡ option_map_or (λ row. null_passes is_null (get_or row column Null)) (current_values (get_or seen n no_history).changes) false
  nulls_are column is_null n = elim (cases_lt n (length seen)) [
    | inl within ↦ by (get_or slots n no_slot).stands (get_or slots n no_slot).values ∙ ap (λ (o : Option (List Value)). option_map_or (λ row. null_passes is_null (get_or row column Null)) o false) (sym (current_is earlier ends slots kept seen same n within))
    | inr past ↦
        ap (slot_null column is_null) (get_or_past slots n no_slot (omega (arith, past, rows_len earlier ends slots kept seen same)))
        ∙ ap (λ (h : RowHistory). option_map_or (λ row. null_passes is_null (get_or row column Null)) (current_values h.changes) false) (sym (get_or_past seen n no_history past))
  ] where
    by : (b : Bool) (values : List Value) → (b && null_passes is_null (get_or values column Null)) ≡ option_map_or (λ row. null_passes is_null (get_or row column Null)) (cond b (Some values) None) false
    by true values = refl
    by false values = refl

  pub standing_is : (n : ℕ) → (get_or slots n no_slot).stands ≡ is_some (current_values (get_or seen n no_history).changes)
  standing_is n = elim (cases_lt n (length seen)) [
    | inl within ↦ stands_is earlier ends slots kept seen same n within
    | inr past ↦
        ap (λ (s : Slot). s.stands) (get_or_past slots n no_slot (omega (arith, past, rows_len earlier ends slots kept seen same)))
        ∙ ap (λ (h : RowHistory). is_some (current_values h.changes)) (sym (get_or_past seen n no_history past))
  ]
