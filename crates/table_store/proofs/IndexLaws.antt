-- Rows by their keys.
use Rattle.std.proofs.Common.{◌≡◌, ◌==◌, ◌≢◌, ℕ, zero, suc, ◌+◌, ◌<◌, inl, inr, Bool, true, false, cond, not, ◌&&◌, List, [], ◌∷◌, ◌++◌, map, length, get_or, take, drop, refl, ap, sym, subst, ◌∙◌, arith, Option, Some, None, eq-eqb}
use Rattle.std.specs.Prelude.{find, IsSome, is_some, if◌then◌else◌}
use Rattle.std.specs.List.{cons_option, list_any}
use Rattle.std.specs.Option.{option_map, option_to_list}
use Rattle.std.specs.Ordering.{is_eq}
use Rattle.std.specs.declared.cmp.Ordering.{Ordering}
use Rattle.std.specs.Cmp.{eq_by_cmp_equiv}
use Rattle.std.specs.Cmp.Lexicographic.{slice_cmp}
use Rattle.std.specs.BTreeMap.{is_at}
use Rattle.std.proofs.lemmas.Bool.{cases_Bool, cases_lt, ne_eqb, eqb-true}
use Rattle.ldv_value.proofs.Booleans.{and-false, not-true, or-parts}
use Rattle.ldv_value.specs.Order.{order}
use Rattle.row_version.specs.History.{current_values}
use Rattle.sql_model.specs.KeyOrder.{key_order, key_order_total}
use Rattle.sql_model.specs.Keys.{same_values, values_at, key_at, repeats}
use Rattle.sql_model.specs.Tables.{are_keys_unique}
use Rattle.sql_model.specs.References.{has_key}
use Rattle.sql_model.proofs.SameValues.{same_exact, same_turned}
use Rattle.table_store.specs.Types.{Value, RowKey, TableRow}
use Rattle.table_store.specs.Histories.{RowHistory, no_history, row_of, row_now, rows_now}
use Rattle.table_store.specs.IndexView.{held_in}
use Rattle.table_store.specs.KeyIndex.{HeldKeys, AreHeld, AreIndexed}
use Rattle.table_store.specs.RowOrder.{AreInOrder}
use Rattle.table_store.specs.declared.keys.index.Index.{Index}

-- ---- the same key

abbrev pub key : List Value → RowKey
key values = record { values = values }

pub same_itself : (a : List Value) → same_values a a ≡ true
same_itself a = (eq_by_cmp_equiv key_order_total).refl (key a)

-- the same keys are held alike
pub Alike : HeldKeys → Type 0
Alike held = (a b : RowKey) → same_values a.values b.values ≡ true → held a ≡ held b

pub alike_held : (held : HeldKeys) → Alike held → (a b : RowKey) → same_values a.values b.values ≡ true → held a ≡ held b
unfolding Alike
alike_held held alike = alike

number_some : (a b : ℕ) → Some a ≡ Some b → a ≡ b
number_some a b is = cc

-- ---- keys that are the same are equal

pub any_alike : (held : HeldKeys) → Alike held
unfolding Alike
any_alike held a b same = ap (λ (values : List Value). held (record { values = values })) (same_exact a.values b.values same)

pub index_alike : (index : Index) → Alike (λ q. held_in index q)
index_alike index = any_alike (λ q. held_in index q)

-- ---- rows that are looked up

-- a key that isn't held is no row's
pub absent_key : (places : List ℕ) (held : HeldKeys) → Alike held → (k : RowKey) (rows : List TableRow) → AreHeld places held rows → held k ≡ None → find (has_key places k.values) rows ≡ None
unfolding Alike
absent_key places held alike k [] are none = refl
absent_key places held alike k (row ∷ rows) are none = elim (cases_Bool (has_key places k.values row)) [
  | inl has ↦ let wrong : Some row.number ≡ None = sym are.0 ∙ alike (key_at places row.values) k has ∙ none in cc
  | inr not_here ↦ ap (λ b. cond b (Some row) (find (has_key places k.values) rows)) not_here ∙ absent_key places held alike k rows are.1 none
]

-- a key that is held is at most the key of the row of that number
pub held_key : (places : List ℕ) (held : HeldKeys) → Alike held → (k : RowKey) (number : ℕ) (rows : List TableRow) → AreHeld places held rows → held k ≡ Some number
    → find (has_key places k.values) rows ≡ find (λ row. (row.number == number) && has_key places k.values row) rows
unfolding Alike
held_key places held alike k number [] are is = refl
held_key places held alike k number (row ∷ rows) are is = elim (cases_Bool (has_key places k.values row)) [
  | inl has ↦
      let one : Some row.number ≡ Some number = sym are.0 ∙ alike (key_at places row.values) k has ∙ is in
      let same : (row.number == number) ≡ true = eq-eqb row.number number (number_some row.number number one) in
      ap (λ b. cond b (Some row) (find (has_key places k.values) rows)) has
      ∙ sym (ap (λ b. cond (b && has_key places k.values row) (Some row) (find (λ row. (row.number == number) && has_key places k.values row) rows)) same
      ∙ ap (λ b. cond (true && b) (Some row) (find (λ row. (row.number == number) && has_key places k.values row) rows)) has)
  | inr not_here ↦
      ap (λ b. cond b (Some row) (find (has_key places k.values) rows)) not_here
      ∙ held_key places held alike k number rows are.1 is
      ∙ sym (ap (λ b. cond ((row.number == number) && b) (Some row) (find (λ row. (row.number == number) && has_key places k.values row) rows)) not_here
      ∙ ap (λ b. cond b (Some row) (find (λ row. (row.number == number) && has_key places k.values row) rows)) (and-false (row.number == number)))
]

-- ---- a key that is put

found_tail : (p : TableRow → Bool) (row : TableRow) (rows : List TableRow) → find p (row ∷ rows) ≡ None → (p row ≡ false) × (find p rows ≡ None)
found_tail p row rows none = elim (cases_Bool (p row)) [
  | inl hit ↦ let wrong : Some row ≡ None = sym (ap (λ b. cond b (Some row) (find p rows)) hit) ∙ none in cc
  | inr miss ↦ (miss, sym (ap (λ b. cond b (Some row) (find p rows)) miss) ∙ none)
]

pub still_held : (places : List ℕ) (old new : HeldKeys) (k : RowKey) (number : ℕ) (rows : List TableRow) → ((q : RowKey) → new q ≡ cond (is_at (key_order k) q) (Some number) (old q))
    → AreHeld places old rows → find (has_key places k.values) rows ≡ None → AreHeld places new rows
still_held places old new k number [] put are none = tt
still_held places old new k number (row ∷ rows) put are none =
    let apart = found_tail (has_key places k.values) row rows none in
    let other : is_at (key_order k) (key_at places row.values) ≡ false = same_turned k.values (values_at places row.values) ∙ apart.0 in
    (put (key_at places row.values) ∙ ap (λ b. cond b (Some number) (old (key_at places row.values))) other ∙ are.0, still_held places old new k number rows put are.1 apart.1)

pub held_more : (places : List ℕ) (held : HeldKeys) (rows : List TableRow) (row : TableRow) → AreHeld places held rows → held (key_at places row.values) ≡ Some row.number → AreHeld places held (rows ++ row ∷ [])
held_more places held [] row are is = (is, tt)
held_more places held (first ∷ rows) row are is = (are.0, held_more places held rows row are.1 is)

-- a row more, with a key that no other row has
pub held_pushed : (places : List ℕ) (old new : HeldKeys) (row : TableRow) (rows : List TableRow) → ((q : RowKey) → new q ≡ cond (is_at (key_order (key_at places row.values)) q) (Some row.number) (old q))
    → AreHeld places old rows → find (has_key places (values_at places row.values)) rows ≡ None → AreHeld places new (rows ++ row ∷ [])
held_pushed places old new row rows put are none =
    held_more places new rows row (still_held places old new (key_at places row.values) row.number rows put are none)
    (put (key_at places row.values) ∙ ap (λ b. cond b (Some row.number) (old (key_at places row.values))) (same_itself (values_at places row.values)))

-- ---- keys that are unique

no_earlier : (places : List ℕ) (front : List TableRow) (row : TableRow) (rest : List TableRow)
    → repeats same_values (map (values_at places) (map (λ (one : TableRow). one.values) (front ++ row ∷ rest))) ≡ false → find (has_key places (values_at places row.values)) front ≡ None
no_earlier places [] row rest is = refl
no_earlier places (first ∷ front) row rest is =
    let both = or-parts (list_any (same_values (values_at places first.values)) (map (values_at places) (map (λ (one : TableRow). one.values) (front ++ row ∷ rest))))
    (repeats same_values (map (values_at places) (map (λ (one : TableRow). one.values) (front ++ row ∷ rest)))) is in
    ap (λ b. cond b (Some first) (find (has_key places (values_at places row.values)) front)) (apart front both.0)
    ∙ no_earlier places front row rest both.1 where
      apart : (others : List TableRow) → list_any (same_values (values_at places first.values)) (map (values_at places) (map (λ (one : TableRow). one.values) (others ++ row ∷ rest))) ≡ false
          → same_values (values_at places first.values) (values_at places row.values) ≡ false
      apart [] none = (or-parts _ _ none).0
      apart (other ∷ others) none = apart others (or-parts _ _ none).1

pub unique_by : (places : List ℕ) (rows : List (List Value)) → are_keys_unique places rows ≡ true → (length places == 0) ≡ false → repeats same_values (map (values_at places) rows) ≡ false
unique_by places rows unique keyed = by (length places == 0) (repeats same_values (map (values_at places) rows)) keyed (not-true _ unique) where
  by : (a b : Bool) → a ≡ false → (not a && b) ≡ false → b ≡ false
  by true b none is = cc
  by false b none is = is

pub split_at : (rows : List TableRow) (i : ℕ) (d : TableRow) → i < length rows → rows ≡ take i rows ++ get_or rows i d ∷ drop (i + 1) rows
split_at [] i d within = absurd (omega (arith, within))
split_at (row ∷ rows) zero d within = refl
split_at (row ∷ rows) (suc i) d within =
    let more : suc (i + 1) ≡ suc i + 1 = omega arith in
    ap (λ (l : List TableRow). row ∷ l) (split_at rows i d (omega (arith, within)))
    ∙ ap (λ (n : ℕ). row ∷ (take i rows ++ get_or rows i d ∷ drop n (row ∷ rows))) more

pub earlier_none : (places : List ℕ) (rows : List TableRow) (i : ℕ) (d : TableRow) → are_keys_unique places (map (λ (row : TableRow). row.values) rows) ≡ true → (length places == 0) ≡ false → i < length rows
    → find (has_key places (values_at places (get_or rows i d).values)) (take i rows) ≡ None
earlier_none places rows i d unique keyed within =
    no_earlier places (take i rows) (get_or rows i d) (drop (i + 1) rows)
    (subst (λ (l : List TableRow). repeats same_values (map (values_at places) (map (λ (row : TableRow). row.values) l)) ≡ false) (split_at rows i d within)
    (unique_by places (map (λ (row : TableRow). row.values) rows) unique keyed))

pub indexed_by : (places : List ℕ) (held : HeldKeys) (rows : List TableRow) → AreHeld places held rows → AreIndexed places held rows
indexed_by [] held rows are = tt
indexed_by (place ∷ places) held rows are = are

pub indexed_none : (places : List ℕ) (held : HeldKeys) (rows : List TableRow) → (length places == 0) ≡ true → AreIndexed places held rows
indexed_none [] held rows is = tt
indexed_none (place ∷ places) held rows is = absurd (omega (arith, eqb-true (length (place ∷ places)) 0 is))

-- ---- rows that stand, by their slots

find_cons : (p : TableRow → Bool) (o : Option TableRow) (rows : List TableRow) → find p (cons_option o rows) ≡ (if is_some (find p (option_to_list o)) then o else find p rows)
find_cons p None rows = refl
find_cons p (Some row) rows = by (p row) where
  by : (b : Bool) → cond b (Some row) (find p rows) ≡ (if is_some (cond b (Some row) None) then Some row else find p rows)
  by true = refl
  by false = refl

module _ (places : List ℕ) (k : List Value) (number : ℕ) where
  abbrev is_it : TableRow → Bool
  is_it row = (row.number == number) && has_key places k row

  gone_by : (row : RowHistory) → row.number ≢ number → find is_it (option_to_list (row_now row)) ≡ None
  gone_by row apart = by (current_values row.changes) where
    by : (now : Option (List Value)) → find is_it (option_to_list (row_of row.number now)) ≡ None
    by None = refl
    by (Some values) = ap (λ b. cond (b && has_key places k (record { number = row.number; values = values })) (Some (record { number = row.number; values = values })) None) (ne_eqb row.number number apart)

  here_by : (row : RowHistory) → row.number ≡ number → find is_it (option_to_list (row_now row)) ≡ find (has_key places k) (option_to_list (row_now row))
  here_by row is = by (current_values row.changes) where
    by : (now : Option (List Value)) → find is_it (option_to_list (row_of row.number now)) ≡ find (has_key places k) (option_to_list (row_of row.number now))
    by None = refl
    by (Some values) = ap (λ b. cond (b && has_key places k (record { number = row.number; values = values })) (Some (record { number = row.number; values = values })) None) (eq-eqb row.number number is)

  pub no_slot_has : (slots : List RowHistory) → ((i : ℕ) → i < length slots → (get_or slots i no_history).number ≢ number) → find is_it (rows_now slots) ≡ None
  no_slot_has [] apart = refl
  no_slot_has (row ∷ slots) apart =
      find_cons is_it (row_now row) (rows_now slots)
      ∙ ap (λ (o : Option TableRow). if is_some o then row_now row else find is_it (rows_now slots)) (gone_by row (apart 0 (omega arith)))
      ∙ no_slot_has slots (λ i below. apart (suc i) (omega (arith, below)))

  slot_has : (slots : List RowHistory) (slot : ℕ) → slot < length slots → (get_or slots slot no_history).number ≡ number → ((i : ℕ) → i < length slots → i ≢ slot → (get_or slots i no_history).number ≢ number)
      → find is_it (rows_now slots) ≡ find (has_key places k) (option_to_list (row_now (get_or slots slot no_history)))
  slot_has [] slot within is apart = absurd (omega (arith, within))
  slot_has (row ∷ slots) zero within is apart =
      find_cons is_it (row_now row) (rows_now slots)
      ∙ ap (λ (o : Option TableRow). if is_some (find is_it (option_to_list (row_now row))) then row_now row else o) (no_slot_has slots (λ i below. apart (suc i) (omega (arith, below)) (omega arith)))
      ∙ itself (row_now row) ∙ here_by row is where
        itself : (o : Option TableRow) → (if is_some (find is_it (option_to_list o)) then o else None) ≡ find is_it (option_to_list o)
        itself None = refl
        itself (Some one) = by (is_it one) where
          by : (b : Bool) → (if is_some (cond b (Some one) None) then Some one else None) ≡ cond b (Some one) None
          by true = refl
          by false = refl
  slot_has (row ∷ slots) (suc slot) within is apart =
      find_cons is_it (row_now row) (rows_now slots)
      ∙ ap (λ (o : Option TableRow). if is_some o then row_now row else find is_it (rows_now slots)) (gone_by row (apart 0 (omega arith) (omega arith)))
      ∙ slot_has slots slot (omega (arith, within)) is (λ i below other. apart (suc i) (omega (arith, below)) (λ same. other (omega (arith, same))))

  pub row_in_slot : (slots : List RowHistory) (next slot : ℕ) → AreInOrder slots next → slot < length slots → (get_or slots slot no_history).number ≡ number
      → find is_it (rows_now slots) ≡ find (has_key places k) (option_to_list (row_now (get_or slots slot no_history)))
  row_in_slot slots next slot order within is = slot_has slots slot within is (λ i below other same. elim (cases_lt i slot) [
    | inl low ↦ absurd (omega (arith, order.rising i slot low within, is, same))
    | inr from ↦ elim (cases_lt slot i) [
      | inl high ↦ absurd (omega (arith, order.rising slot i high below, is, same))
      | inr to ↦ other (omega (arith, from, to))
    ]
  ])

pub number_of_row : (row : RowHistory) (b : Bool) (o : Option TableRow) → o ≡ (if b then row_now row else None) → (b ≡ true → IsSome (row_now row)) → option_map (λ (one : TableRow). one.number) o ≡ (if b then Some row.number else None)
number_of_row row b o is stands = ap (option_map (λ (one : TableRow). one.number)) is ∙ by (current_values row.changes) b stands where
  by : (now : Option (List Value)) (b : Bool) → (b ≡ true → IsSome (row_of row.number now)) → option_map (λ (one : TableRow). one.number) (if b then row_of row.number now else None) ≡ (if b then Some row.number else None)
  by None true some = let none : false ≡ true = some refl in cc
  by None false some = refl
  by (Some values) true some = refl
  by (Some values) false some = refl

-- the key of the row in a slot, compared
pub compared : (places : List ℕ) (k : List Value) (row : RowHistory) (o : Ordering)
    → Some o ≡ option_map (λ values. slice_cmp order (values_at places values) k) (current_values row.changes)
    → find (has_key places k) (option_to_list (row_now row)) ≡ (if is_eq o then row_now row else None)
compared places k row o is = by (current_values row.changes) is where
  by : (now : Option (List Value)) → Some o ≡ option_map (λ values. slice_cmp order (values_at places values) k) now
      → find (has_key places k) (option_to_list (row_of row.number now)) ≡ (if is_eq o then row_of row.number now else None)
  by None is = cc
  by (Some values) is = let same : o ≡ slice_cmp order (values_at places values) k = some_is is in
      ap (λ (p : Ordering). if is_eq p then Some (record { number = row.number; values = values }) else None) (sym same) where
        some_is : {a b : Ordering} → Some a ≡ Some b → a ≡ b
        some_is same = cc
