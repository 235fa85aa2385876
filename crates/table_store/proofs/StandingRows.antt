-- Live rows: their slots, and the row with a key.
use Rattle.std.proofs.Common.{◌≡◌, ◌==◌, ◌∙◌, sym, ap, subst, refl, ℕ, suc, ◌<◌, Bool, true, false, List, [], ◌∷◌, map, length, get_or, inl, inr, arith, Option, Some, None}
use Rattle.std.specs.Prelude.{filter, find}
use Rattle.std.specs.Cmp.{eq_by_cmp_equiv}
use Rattle.std.specs.List.{cons_option, list_any, AllByRecursion}
use Rattle.std.specs.Option.{option_map, option_and_then, option_to_list}
use Rattle.std.proofs.lemmas.Bool.{ne_eqb}
use Rattle.ldv_value.proofs.Booleans.{or-parts, true≢false}
use Rattle.ldv_value.proofs.Cases.{cases-bool}
use Rattle.ldv_value.proofs.Lists.{all-weaker}
use Rattle.ldv_value.proofs.Options.{none-some, same-some}
use Rattle.row_version.specs.History.{current_values}
use Rattle.ldv_value.specs.Order.{values_total}
use Rattle.sql_model.specs.Keys.{repeats, same_values, values_at}
use Rattle.sql_model.specs.Tables.{are_keys_unique}
use Rattle.sql_model.specs.References.{has_key}
use Rattle.table_store.proofs.IndexLaws.{unique_by}
use Rattle.table_store.proofs.TableLaws.{slot_here_is}
use Rattle.table_store.specs.Histories.{RowHistory, no_history, row_now, row_of, rows_now, slot_of_row}
use Rattle.table_store.specs.RowOrder.{AreInOrder}
use Rattle.table_store.specs.Types.{TableRow, Value}

-- ---- slots

-- a row that stands is in a slot
pub record InSlot (slots : List RowHistory) (row : TableRow) : Type 0 where
  pub slot : ℕ
  pub within : slot < length slots
  pub now : row_now (get_or slots slot no_history) ≡ Some row

slot-after : (first : RowHistory) (slots : List RowHistory) (row : TableRow) → InSlot slots row → InSlot (first ∷ slots) row
slot-after first slots row there = record { slot = suc there.slot; within = omega (arith, there.within); now = there.now }

pub all-in-slots : (slots : List RowHistory) → AllByRecursion (InSlot slots) (rows_now slots)
all-in-slots [] = tt
all-in-slots (first ∷ slots) = by (row_now first) refl (all-weaker (InSlot slots) (InSlot (first ∷ slots)) (slot-after first slots) (rows_now slots) (all-in-slots slots))
  where
    by : (o : Option TableRow) → row_now first ≡ o → AllByRecursion (InSlot (first ∷ slots)) (rows_now slots) → AllByRecursion (InSlot (first ∷ slots)) (cons_option o (rows_now slots))
    by None now later = later
    by (Some row) now later = (record { slot = 0; within = omega arith; now = now }, later)

found-of-all : (P : TableRow → Type 0) (p : TableRow → Bool) (rows : List TableRow) (row : TableRow) → AllByRecursion P rows → find p rows ≡ Some row → P row
found-of-all P p [] row all is = cc
found-of-all P p (next ∷ rows) row all is = elim (cases-bool (p next)) [
  | inl hit ↦ let e : Some next ≡ Some row = rw hit at is in subst P (same-some next row e) all.0
  | inr miss ↦ found-of-all P p rows row all.1 (rw miss at is)
]

pub found-in-slot : (p : TableRow → Bool) (slots : List RowHistory) (row : TableRow) → find p (rows_now slots) ≡ Some row → InSlot slots row
found-in-slot p slots row is = found-of-all (InSlot slots) p (rows_now slots) row (all-in-slots slots) is

number_by : (number : ℕ) (row : TableRow) (now : Option (List Value)) → row_of number now ≡ Some row → number ≡ row.number
number_by number row None is = cc
number_by number row (Some values) is = ap (λ (r : TableRow). r.number) (same-some (record { number = number; values = values }) row is)

pub number-is : (slot : RowHistory) (row : TableRow) → row_now slot ≡ Some row → slot.number ≡ row.number
number-is slot row is = number_by slot.number row (current_values slot.changes) is

-- ---- a row that is known by its number

pub not-there : (o : Option TableRow) → None ≡ option_map (λ row. row.number) o → o ≡ None
not-there None is = refl
not-there (Some row) is = cc

pub there-by-number : (o : Option TableRow) (number : ℕ) → Some number ≡ option_map (λ row. row.number) o → (row : TableRow) × (o ≡ Some row) × (number ≡ row.number)
there-by-number None number is = cc
there-by-number (Some row) number is = (row, refl, same-some number row.number is)

module _ (slots : List RowHistory) (next : ℕ) (order : AreInOrder slots next) where
  pub slot-of-row : (row : TableRow) (s : InSlot slots row) → slot_of_row row.number slots ≡ Some s.slot
  slot-of-row row s = slot_here_is slots next order row.number s.slot s.within (number-is (get_or slots s.slot no_history) row s.now)

  -- the row that is found and has a number is in the slot of this number
  module _ (p : TableRow → Bool) (number : ℕ) (named : Some number ≡ option_map (λ row. row.number) (find p (rows_now slots))) where
    abbrev the_row : (row : TableRow) × (find p (rows_now slots) ≡ Some row) × (number ≡ row.number)
    the_row = there-by-number (find p (rows_now slots)) number named

    abbrev its_slot : InSlot slots the_row.0
    its_slot = found-in-slot p slots the_row.0 the_row.1

    slot-of-number : slot_of_row number slots ≡ Some its_slot.slot
    slot-of-number = ap (λ (n : ℕ). slot_of_row n slots) the_row.2 ∙ slot-of-row the_row.0 its_slot

    pub slot-there : None ≡ slot_of_row number slots → ⊥
    slot-there none = none-some its_slot.slot (none ∙ slot-of-number)

    pub slot-has : (o : Option ℕ) → o ≡ slot_of_row number slots → find p (rows_now slots) ≡ option_and_then (λ slot. row_now (get_or slots slot no_history)) o
    slot-has o is = the_row.1 ∙ sym (ap (option_and_then (λ slot. row_now (get_or slots slot no_history))) (is ∙ slot-of-number) ∙ its_slot.now)

-- ---- the row that has a key, where no two have the same

pub none-twice : (key : List ℕ) (rows : List (List Value)) → 0 < length key → are_keys_unique key rows ≡ true → repeats same_values (map (values_at key) rows) ≡ false
none-twice key rows some unique =
    let there : (length key == 0) ≡ false = ne_eqb (length key) 0 (λ none. absurd (omega (arith, none, some))) in
    unique_by key rows unique there

module _ (key : List ℕ) (values : List Value) where
  abbrev keys : List TableRow → List (List Value)
  keys rows = map (values_at key) (map (λ row. row.values) rows)

  both-have : (a b : TableRow) → has_key key values a ≡ true → has_key key values b ≡ true → same_values (values_at key a.values) (values_at key b.values) ≡ true
  both-have a b first second =
      let same = eq_by_cmp_equiv values_total in
      same.congr (values_at key a.values) values (values_at key b.values) first ∙ same.symm values (values_at key b.values) ∙ second

  none-else : (row : TableRow) → has_key key values row ≡ true → (rows : List TableRow) → list_any (same_values (values_at key row.values)) (keys rows) ≡ false → [] ≡ filter (has_key key values) rows
  none-else row mine [] apart = refl
  none-else row mine (next ∷ rows) apart =
      let parts = or-parts (same_values (values_at key row.values) (values_at key next.values)) (list_any (same_values (values_at key row.values)) (keys rows)) apart in
      elim (cases-bool (has_key key values next)) [
        | inl hit ↦ absurd (true≢false (sym (both-have row next mine hit) ∙ parts.0))
        | inr miss ↦ rw miss (none-else row mine rows parts.1)
      ]

  pub only-one : (rows : List TableRow) → repeats same_values (keys rows) ≡ false → option_to_list (find (has_key key values) rows) ≡ filter (has_key key values) rows
  only-one [] apart = refl
  only-one (row ∷ rows) apart =
      let parts = or-parts (list_any (same_values (values_at key row.values)) (keys rows)) (repeats same_values (keys rows)) apart in
      elim (cases-bool (has_key key values row)) [
        | inl hit ↦ rw hit (ap (λ (l : List TableRow). row ∷ l) (none-else row hit rows parts.0))
        | inr miss ↦ rw miss (only-one rows parts.1)
      ]
