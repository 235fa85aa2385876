-- New rows of a table: their numbers, their kinds, and their clashes.
use Rattle.std.proofs.Common.{◌≡◌, ◌==◌, ℕ, zero, suc, ◌+◌, ◌<◌, ◌≤◌, inl, inr, Bool, true, false, cond, ◌&&◌, ◌||◌, List, [], ◌∷◌, ◌++◌, map, length, get_or, refl, ap, sym, subst, ◌∙◌, arith, Option, Some, None, eq-eqb, append_assoc, append-nil}
use Rattle.std.specs.Prelude.{find, if◌then◌else◌, nat_lt, zip, ◌^◌}
use Rattle.std.specs.List.{list_all, list_any, cons_option}
use Rattle.std.specs.Option.{option_or}
use Rattle.ldv_value.specs.Limits.{max_next}
use Rattle.std.proofs.lemmas.Bool.{cases_Bool, ne_eqb, lt-ltb, le-ltb}
use Rattle.std.proofs.lemmas.List.Elements.{filter_map-append}
use Rattle.ldv_value.proofs.Booleans.{and-parts, or-right}
use Rattle.sql_model.specs.Changes.{KeyClash, key_clash, clash_or, clash_after, clash_by, numbered_rows, shares_key, has_null, refuses_null}
use Rattle.sql_model.specs.Keys.{values_at, key_at}
use Rattle.row_version.specs.History.{current_values}
use Rattle.table_store.specs.Types.{Value, Column, Foreign, TableRow}
use Rattle.table_store.specs.Claims.{claim_stop}
use Rattle.table_store.specs.inner.Grid.{are_of_kinds, AreNumberedFrom, next_after}
use Rattle.table_store.specs.Histories.{RowHistory, TableHistory, no_history, row_of, row_now, rows_now, history_of_new_row, table_now, last_next_number}
use Rattle.table_store.specs.KeyIndex.{HeldKeys, AreHeld, AreIndexed}
use Rattle.table_store.specs.RowOrder.{AreInOrder}
use Rattle.table_store.specs.Stops.{has_shape, key_stop, stop_if, insert_stop, with_inserted}
use Rattle.table_store.specs.TableView.{kinds_in, AreTimed}
use Rattle.table_store.specs.declared.error.StoreStop.{StoreStop}
use Rattle.table_store.specs.declared.error.StoreStop.TheVariants.{NotNull, KeyTaken, Full}
use Rattle.table_store.proofs.IndexLaws.{Alike, alike_held}
use Rattle.table_store.proofs.TableLaws.{added_now, added_timed, shape_fits}

-- ---- numbers

pub numbered_order : (next : ℕ) (rows : List (List Value)) → next + length rows < 2 ^ 32 → AreNumberedFrom next (numbered_rows next rows)
numbered_order next [] few = tt
numbered_order next (values ∷ rows) few = (omega arith, omega (arith, few), numbered_order (next + 1) rows (omega (arith, few)))

pub numbered_after : (next : ℕ) (rows : List (List Value)) → next_after next (numbered_rows next rows) ≡ next + length rows
numbered_after next [] = omega arith
numbered_after next (values ∷ rows) = numbered_after (next + 1) rows ∙ (omega arith)

pub numbered_len : (next : ℕ) (rows : List (List Value)) → length (numbered_rows next rows) ≡ length rows
numbered_len next [] = refl
numbered_len next (values ∷ rows) = ap suc (numbered_len (next + 1) rows)

-- ---- kinds

pub shapes_fit : (columns : List Column) (next : ℕ) (rows : List (List Value)) → list_all (has_shape columns) rows ≡ true → are_of_kinds (kinds_in columns) (numbered_rows next rows) ≡ true
shapes_fit columns next [] is = refl
shapes_fit columns next (values ∷ rows) is =
    let both = and-parts (has_shape columns values) (list_all (has_shape columns) rows) is in
    λ j. (shape_fits columns values both.0 j && shapes_fit columns (next + 1) rows both.1 j)

-- ---- code 5

pub lacks_numbered : (columns : List Column) (next : ℕ) (rows : List (List Value)) → list_any (has_null columns) (numbered_rows next rows) ≡ list_any (λ values. list_any refuses_null (zip columns values)) rows
lacks_numbered columns next [] = refl
lacks_numbered columns next (values ∷ rows) = ap (λ b. list_any refuses_null (zip columns values) || b) (lacks_numbered columns (next + 1) rows)

-- ---- properties of all rows

abbrev pub AllRows : (TableRow → Type 0) → List TableRow → Type 0
AllRows P [] = Unit {0}
AllRows P (row ∷ rows) = P row × AllRows P rows

pub all_append : (P : TableRow → Type 0) (xs ys : List TableRow) → AllRows P xs → AllRows P ys → AllRows P (xs ++ ys)
all_append P [] ys front back = back
all_append P (x ∷ xs) ys front back = (front.0, all_append P xs ys front.1 back)

pub all_weaker : (P Q : TableRow → Type 0) → ((row : TableRow) → P row → Q row) → (rows : List TableRow) → AllRows P rows → AllRows Q rows
all_weaker P Q from [] all = tt
all_weaker P Q from (row ∷ rows) all = (from row all.0, all_weaker P Q from rows all.1)

pub found_all : (P : TableRow → Type 0) (p : TableRow → Bool) (rows : List TableRow) → AllRows P rows → (row : TableRow) → find p rows ≡ Some row → P row
found_all P p [] all row is = cc
found_all P p (first ∷ rows) all row is = elim (cases_Bool (p first)) [
  | inl hit ↦ let same : Some first ≡ Some row = sym (ap (λ b. cond b (Some first) (find p rows)) hit) ∙ is in subst P (some_is same) all.0
  | inr miss ↦ found_all P p rows all.1 row (sym (ap (λ b. cond b (Some first) (find p rows)) miss) ∙ is)
] where
  some_is : {a b : TableRow} → Some a ≡ Some b → a ≡ b
  some_is same = cc

-- of both rows of a clash
pub clash_all : (P Q : TableRow → Type 0) (key : List ℕ) (before rows : List TableRow) → AllRows P before → AllRows P rows → AllRows Q rows → (clash : KeyClash) → clash_after key before rows ≡ Some clash → P clash.earlier × Q clash.later
clash_all P Q key before [] front back late clash is = cc
clash_all P Q key before (row ∷ rows) front back late clash is =
    by (find (shares_key key row) before) refl (clash_all P Q key (before ++ row ∷ []) rows (all_append P before (row ∷ []) front (back.0, tt)) back.1 late.1 clash) is where
      by : (o : Option TableRow) → find (shares_key key row) before ≡ o → (clash_after key (before ++ row ∷ []) rows ≡ Some clash → P clash.earlier × Q clash.later)
          → clash_or o row (clash_after key (before ++ row ∷ []) rows) ≡ Some clash → P clash.earlier × Q clash.later
      by None found rest same = rest same
      by (Some earlier) found rest same =
          let both : record { earlier = earlier; later = row } ≡ clash = some_is same in
          (subst P (ap (λ (c : KeyClash). c.earlier) both) (found_all P (shares_key key row) before front earlier found), subst Q (ap (λ (c : KeyClash). c.later) both) late.0) where
            some_is : {a b : KeyClash} → Some a ≡ Some b → a ≡ b
            some_is one = cc

-- ---- rows that stand, in the order of their numbers

abbrev pub RisesFrom : ℕ → List TableRow → Type 0
RisesFrom low [] = Unit {0}
RisesFrom low (row ∷ rows) = (low ≤ row.number) × RisesFrom (row.number + 1) rows

rises_lower : (low lower : ℕ) (rows : List TableRow) → lower ≤ low → RisesFrom low rows → RisesFrom lower rows
rises_lower low lower [] below rises = tt
rises_lower low lower (row ∷ rows) below rises = (omega (arith, below, rises.0), rises.1)

pub rows_rise : (low : ℕ) (slots : List RowHistory) → ((i : ℕ) → i < length slots → low ≤ (get_or slots i no_history).number)
    → ((i j : ℕ) → i < j → j < length slots → (get_or slots i no_history).number < (get_or slots j no_history).number) → RisesFrom low (rows_now slots)
rows_rise low [] above rising = tt
rows_rise low (row ∷ slots) above rising =
    by (current_values row.changes)
    (rows_rise (row.number + 1) slots (λ i below. omega (arith, rising 0 (suc i) (omega arith) (omega (arith, below)))) (λ i j less below. rising (suc i) (suc j) (omega (arith, less)) (omega (arith, below)))) where
      by : (now : Option (List Value)) → RisesFrom (row.number + 1) (rows_now slots) → RisesFrom low (cons_option (row_of row.number now) (rows_now slots))
      by None rises = rises_lower (row.number + 1) low (rows_now slots) (omega (arith, above 0 (omega arith))) rises
      by (Some values) rises = (above 0 (omega arith), rises)

pub rows_below : (next : ℕ) (slots : List RowHistory) → ((i : ℕ) → i < length slots → (get_or slots i no_history).number < next) → AllRows (λ row. row.number < next) (rows_now slots)
rows_below next [] below = tt
rows_below next (row ∷ slots) below = by (current_values row.changes) (rows_below next slots (λ i within. below (suc i) (omega (arith, within)))) where
  by : (now : Option (List Value)) → AllRows (λ one. one.number < next) (rows_now slots) → AllRows (λ one. one.number < next) (cons_option (row_of row.number now) (rows_now slots))
  by None all = all
  by (Some values) all = (below 0 (omega arith), all)

pub numbered_from_next : (next : ℕ) (rows : List (List Value)) → AllRows (λ row. next ≤ row.number) (numbered_rows next rows)
numbered_from_next next [] = tt
numbered_from_next next (values ∷ rows) = (omega arith, all_weaker (λ row. next + 1 ≤ row.number) (λ row. next ≤ row.number) (λ row from. omega (arith, from)) (numbered_rows (next + 1) rows) (numbered_from_next (next + 1) rows))

-- ---- rows that stand don't clash

pub apart_key : (places : List ℕ) (held : HeldKeys) → Alike held → (row : TableRow) (before : List TableRow) → AreHeld places held before → held (key_at places row.values) ≡ Some row.number → AllRows (λ one. one.number < row.number) before
    → find (shares_key places row) before ≡ None
apart_key places held alike row [] are here below = refl
apart_key places held alike row (first ∷ before) are here below = elim (cases_Bool (shares_key places row first)) [
  | inl same ↦
      let one : Some first.number ≡ Some row.number = sym are.0 ∙ alike_held held alike (key_at places first.values) (key_at places row.values) same ∙ here in
      absurd (omega (arith, below.0, number_is one))
  | inr apart ↦ ap (λ b. cond b (Some first) (find (shares_key places row) before)) apart ∙ apart_key places held alike row before are.1 here below.1
] where
  number_is : {a b : ℕ} → Some a ≡ Some b → a ≡ b
  number_is same = cc

pub clash_front : (places : List ℕ) (held : HeldKeys) → Alike held → (before rows more : List TableRow) (low : ℕ) → AreHeld places held before → AreHeld places held rows → AllRows (λ one. one.number < low) before → RisesFrom low rows
    → clash_after places before (rows ++ more) ≡ clash_after places (before ++ rows) more
clash_front places held alike before [] more low front are below rises = ap (λ (l : List TableRow). clash_after places l more) (sym (append-nil before))
clash_front places held alike before (row ∷ rows) more low front are below rises =
    let under : AllRows (λ one. one.number < row.number) before = all_weaker (λ one. one.number < low) (λ one. one.number < row.number) (λ one less. omega (arith, less, rises.0)) before below in
    ap (λ (o : Option TableRow). clash_or o row (clash_after places (before ++ row ∷ []) (rows ++ more))) (apart_key places held alike row before front are.0 under)
    ∙ clash_front places held alike (before ++ row ∷ []) rows more (row.number + 1) (held_append before (row ∷ []) front (are.0, tt)) are.1
    (all_append (λ one. one.number < row.number + 1) before (row ∷ []) (all_weaker (λ one. one.number < row.number) (λ one. one.number < row.number + 1) (λ one less. omega (arith, less)) before under) (omega arith, tt)) rises.1
    ∙ ap (λ (l : List TableRow). clash_after places l more) (append_assoc before (row ∷ []) rows) where
      held_append : (xs ys : List TableRow) → AreHeld places held xs → AreHeld places held ys → AreHeld places held (xs ++ ys)
      held_append [] ys one two = two
      held_append (x ∷ xs) ys one two = (one.0, held_append xs ys one.1 two)

-- the first clash is one of a new row
pub clash_new : (places : List ℕ) (held : HeldKeys) → Alike held → (slots : List RowHistory) (next : ℕ) → AreInOrder slots next → AreHeld places held (rows_now slots) → (more : List TableRow)
    → clash_after places [] (rows_now slots ++ more) ≡ clash_after places (rows_now slots) more
clash_new places held alike slots next order are more =
    clash_front places held alike [] (rows_now slots) more 0 tt are tt (rows_rise 0 slots (λ i below. omega arith) order.rising)

-- ---- which row of a clash stood before

pub any_self : (rows : List TableRow) → AllRows (λ row. list_any (λ old. old.number == row.number) rows ≡ true) rows
any_self [] = tt
any_self (row ∷ rows) = (
  ap (λ b. b || list_any (λ old. old.number == row.number) rows) (eq-eqb row.number row.number refl),
  all_weaker (λ one. list_any (λ old. old.number == one.number) rows ≡ true) (λ one. ((row.number == one.number) || list_any (λ old. old.number == one.number) rows) ≡ true)
      (λ one is. or-right (row.number == one.number) (list_any (λ old. old.number == one.number) rows) is) rows (any_self rows),
)

none_equal : (number : ℕ) (rows : List TableRow) → AllRows (λ row. row.number < number) rows → list_any (λ old. old.number == number) rows ≡ false
none_equal number [] below = refl
none_equal number (row ∷ rows) below =
    ap (λ b. b || list_any (λ old. old.number == number) rows) (ne_eqb row.number number (omega (arith, below.0))) ∙ none_equal number rows below.1

abbrev Stood : List TableRow → ℕ → TableRow → Type 0
Stood rows next row = list_any (λ old. old.number == row.number) rows ≡ nat_lt row.number next

old_stood : (rows : List TableRow) (next : ℕ) → AllRows (λ row. row.number < next) rows → AllRows (Stood rows next) rows
old_stood rows next below = join rows (any_self rows) below where
  join : (some : List TableRow) → AllRows (λ row. list_any (λ old. old.number == row.number) rows ≡ true) some → AllRows (λ row. row.number < next) some → AllRows (Stood rows next) some
  join [] one two = tt
  join (row ∷ some) one two = (one.0 ∙ sym (lt-ltb row.number next two.0), join some one.1 two.1)

not_stood : (rows : List TableRow) (next : ℕ) → AllRows (λ row. row.number < next) rows → (more : List TableRow) → AllRows (λ row. next ≤ row.number) more → AllRows (λ row. list_any (λ old. old.number == row.number) rows ≡ false) more
not_stood rows next below [] from = tt
not_stood rows next below (row ∷ more) from =
    (none_equal row.number rows (all_weaker (λ one. one.number < next) (λ one. one.number < row.number) (λ one less. omega (arith, less, from.0)) rows below), not_stood rows next below more from.1)

new_stood : (rows : List TableRow) (next : ℕ) (more : List TableRow) → AllRows (λ row. next ≤ row.number) more → AllRows (λ row. list_any (λ old. old.number == row.number) rows ≡ false) more → AllRows (Stood rows next) more
new_stood rows next [] from none = tt
new_stood rows next (row ∷ more) from none = (none.0 ∙ sym (le-ltb row.number next from.0), new_stood rows next more from.1 none.1)

-- of a table with rows that stand, and new ones
module _ (name : List ℕ) (columns : List Column) (foreign : List Foreign) (slots : List RowHistory) (next : ℕ) (order : AreInOrder slots next) (values : List (List Value)) where
  key_after : (key : List ℕ) (clash : Option KeyClash) → clash_after key (rows_now slots) (numbered_rows next values) ≡ clash
      → key_stop (record { name = name; schema = record { columns = columns; key = key; foreign = foreign }; rows = rows_now slots; next = next }) clash ≡ claim_stop key next clash
  key_after key None is = refl
  key_after key (Some clash) is =
      let old = rows_below next slots order.below in
      let fresh = numbered_from_next next values in
      let gone = not_stood (rows_now slots) next old (numbered_rows next values) fresh in
      let both = clash_all (Stood (rows_now slots) next) (λ row. list_any (λ one. one.number == row.number) (rows_now slots) ≡ false) key (rows_now slots) (numbered_rows next values)
      (old_stood (rows_now slots) next old) (new_stood (rows_now slots) next (numbered_rows next values) fresh gone) gone clash is in
      λ j. Some (KeyTaken (if both.0 j then Some clash.earlier.number else None) (if both.1 j then Some clash.later.number else None) (values_at key clash.later.values))

  pub key_is : (key : List ℕ) (held : HeldKeys) → Alike held → AreIndexed key held (rows_now slots)
      → key_stop (record { name = name; schema = record { columns = columns; key = key; foreign = foreign }; rows = rows_now slots; next = next }) (clash_by key (rows_now slots ++ numbered_rows next values))
      ≡ claim_stop key next (clash_by key (rows_now slots ++ numbered_rows next values))
  key_is [] held alike indexed = refl
  key_is (place ∷ places) held alike indexed =
      let same = clash_new (place ∷ places) held alike slots next order indexed (numbered_rows next values) in
      ap (key_stop (record { name = name; schema = record { columns = columns; key = place ∷ places; foreign = foreign }; rows = rows_now slots; next = next })) same
      ∙ key_after (place ∷ places) (clash_after (place ∷ places) (rows_now slots) (numbered_rows next values)) refl
      ∙ ap (claim_stop (place ∷ places) next) (sym same)

-- ---- what refuses new rows

pub null_stop : (rows : List (List Value)) (t : TableHistory) → list_any (λ values. list_any refuses_null (zip t.schema.columns values)) rows ≡ true → insert_stop rows (table_now t) ≡ Some NotNull
null_stop rows t is =
    ap (λ b. option_or (stop_if b NotNull) (option_or (key_stop (table_now t) (key_clash (with_inserted rows (table_now t)))) (stop_if (nat_lt max_next (last_next_number t.nexts + length rows)) Full)))
    (lacks_numbered t.schema.columns (last_next_number t.nexts) rows ∙ is)

pub insert_stop_is : (rows : List (List Value)) (t : TableHistory) (held : HeldKeys) → Alike held → AreInOrder t.slots (last_next_number t.nexts) → AreIndexed t.schema.key held (rows_now t.slots)
    → list_any (λ values. list_any refuses_null (zip t.schema.columns values)) rows ≡ false
    → insert_stop rows (table_now t) ≡ option_or (claim_stop t.schema.key (last_next_number t.nexts) (clash_by t.schema.key (rows_now t.slots ++ numbered_rows (last_next_number t.nexts) rows))) (stop_if (nat_lt max_next (last_next_number t.nexts + length rows)) Full)
insert_stop_is rows t held alike order indexed is =
    ap (λ b. option_or (stop_if b NotNull) (option_or (key_stop (table_now t) (key_clash (with_inserted rows (table_now t)))) (stop_if (nat_lt max_next (last_next_number t.nexts + length rows)) Full)))
    (lacks_numbered t.schema.columns (last_next_number t.nexts) rows ∙ is)
    ∙ ap (λ (o : Option StoreStop). option_or o (stop_if (nat_lt max_next (last_next_number t.nexts + length rows)) Full))
    (key_is t.name t.schema.columns t.schema.foreign t.slots (last_next_number t.nexts) order rows t.schema.key held alike indexed)

-- where the number after the last is told in another way
pub insert_stop_by : (rows : List (List Value)) (t : TableHistory) (next : ℕ) (items : List (List Value)) (held : HeldKeys) → Alike held → AreInOrder t.slots next → AreIndexed t.schema.key held (rows_now t.slots) → next ≡ last_next_number t.nexts → items ≡ rows
    → list_any (λ values. list_any refuses_null (zip t.schema.columns values)) rows ≡ false
    → insert_stop rows (table_now t) ≡ option_or (claim_stop t.schema.key next (clash_by t.schema.key (rows_now t.slots ++ numbered_rows next items))) (stop_if (nat_lt max_next (next + length rows)) Full)
insert_stop_by rows t next items held alike order indexed same given is =
    insert_stop_is rows t held alike (subst (λ (n : ℕ). AreInOrder t.slots n) same order) indexed is
    ∙ ap (λ (n : ℕ). option_or (claim_stop t.schema.key n (clash_by t.schema.key (rows_now t.slots ++ numbered_rows n rows))) (stop_if (nat_lt max_next (n + length rows)) Full)) (sym same)
    ∙ ap (λ (l : List (List Value)). option_or (claim_stop t.schema.key next (clash_by t.schema.key (rows_now t.slots ++ numbered_rows next l))) (stop_if (nat_lt max_next (next + length rows)) Full)) (sym given)

-- ---- times of new rows

pub timed_more : (last time : ℕ) (slots : List RowHistory) (rows : List TableRow) → last < time → AreTimed last slots → AreTimed time (slots ++ map (history_of_new_row time) rows)
timed_more last time [] rows later timed k below = added_timed time rows k below
timed_more last time (slot ∷ slots) rows later timed zero below = record { sorted = (timed 0 (omega arith)).sorted; by = omega (arith, (timed 0 (omega arith)).by, later) }
timed_more last time (slot ∷ slots) rows later timed (suc k) below = timed_more last time slots rows later (λ i within. timed (suc i) (omega (arith, within))) k (omega (arith, below))

pub now_more : (time : ℕ) (slots : List RowHistory) (rows : List TableRow) → rows_now (slots ++ map (history_of_new_row time) rows) ≡ rows_now slots ++ rows
now_more time slots rows = filter_map-append row_now slots (map (history_of_new_row time) rows) ∙ ap (λ (l : List TableRow). rows_now slots ++ l) (added_now time rows)
