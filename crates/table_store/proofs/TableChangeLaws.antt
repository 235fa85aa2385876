-- Changes of a table: its rows before and after.
use Rattle.std.proofs.Common.{◌≡◌, ◌==◌, ℕ, zero, suc, ◌+◌, ◌<◌, ◌≤◌, inl, inr, Bool, true, false, cond, not, ◌||◌, List, [], ◌∷◌, ◌++◌, map, length, get_or, refl, ap, sym, subst, ◌∙◌, arith, Option, Some, None, eqb-true, append-nil}
use Rattle.std.specs.Prelude.{find, filter, IfSome, IsSome, nat_le, nat_lt, unwrap_or}
use Rattle.std.specs.List.{cons_option, list_any, list_all, last_or}
use Rattle.std.specs.Option.{option_map, option_map_or}
use Rattle.std.proofs.lemmas.Bool.{cases_Bool, cases_lt, ltb-true, lt-leb}
use Rattle.std.proofs.lemmas.List.Elements.{filter-append, filter_map-append}
use Rattle.ldv_value.proofs.Booleans.{and-parts}
use Rattle.ldv_value.proofs.Lists.{all-weaker}
use Rattle.ldv_value.proofs.Options.{same-some}
use Rattle.ldv_value.specs.Sorted.{is_strictly_sorted, precedes_first}
use Rattle.row_version.specs.History.{Change, write_at, delete_at, current_values, as_of, last_time, IsSorted}
use Rattle.row_version.proofs.Later.{current_after, last_time_after, as_of_earlier, sorted_after}
use Rattle.sql_model.specs.Changes.{numbered_rows}
use Rattle.sql_model.specs.Needs.{had_row}
use Rattle.sql_model.specs.References.{reference}
use Rattle.table_store.specs.Types.{Value, RowKey, Column, Foreign, Schema, Table, TableRow}
use Rattle.table_store.specs.inner.ChildPairs.{Pairs, AreReferred, IsReferred, KeepPairs, no_foreign}
use Rattle.table_store.specs.inner.Grid.{next_after}
use Rattle.table_store.specs.Histories.{RowHistory, NextSince, TableHistory, no_history, row_of, row_now, rows_now, row_as_of, rows_as_of, history_of_new_row, with_change, changed_by, row_write, row_delete, rows_with_values, rows_without, last_next_number, last_since, next_as_of, nexts_with, table_now, table_with_rows, table_with_values, table_without}
use Rattle.table_store.specs.KeyIndex.{HeldKeys, AreHeld, AreIndexed}
use Rattle.table_store.specs.inner.RowChanges.{RowChange, removal, rewrite, change_given, changes_given, RiseFrom, AllFitKinds, HasRow, AllStand, AreBefore}
use Rattle.table_store.specs.RowOrder.{AreInOrder}
use Rattle.table_store.specs.Stops.{has_shape, values_of, are_sorted_rows, are_sorted_numbers, replaced_by, is_among, with_inserted, with_replaced, with_removed}
use Rattle.table_store.specs.inner.RowHistories.{RowsHistory}
use Rattle.table_store.specs.TableView.{kinds_in, IsTimed, AreTimed, IsStored}
use Rattle.table_store.proofs.IndexChangeLaws.{indexed_wider}
use Rattle.table_store.proofs.InsertLaws.{timed_more, now_more, numbered_after}
use Rattle.table_store.proofs.NextLaws.{noted_in_time}
use Rattle.table_store.proofs.TableLaws.{added_now, number_found, shape_fits}

-- ---- what is given

pub changes_removed : (time : ℕ) (numbers : List ℕ) → changes_given time (map removal numbers) ≡ map (row_delete time) numbers
changes_removed time [] = refl
changes_removed time (number ∷ numbers) = ap (λ (l : List (ℕ × Change)). row_delete time number ∷ l) (changes_removed time numbers)

pub changes_written : (time : ℕ) (rows : List TableRow) → changes_given time (map rewrite rows) ≡ map (row_write time) rows
changes_written time [] = refl
changes_written time (row ∷ rows) = ap (λ (l : List (ℕ × Change)). row_write time row ∷ l) (changes_written time rows)

-- the first item, if there is one, is at least a number
abbrev AtLeast : {X : Type 0} → (X → ℕ) → ℕ → List X → Type 0
AtLeast number low [] = Unit {0}
AtLeast number low (first ∷ rest) = low ≤ number first

rise_numbers : (low : ℕ) (numbers : List ℕ) → AtLeast (λ n. n) low numbers → are_sorted_numbers numbers ≡ true → RiseFrom low (map removal numbers)
rise_numbers low [] first sorted = tt
rise_numbers low (number ∷ numbers) first sorted =
    let both = and-parts (precedes_first nat_lt number numbers) (is_strictly_sorted nat_lt numbers) sorted in
    (first, rise_numbers (number + 1) numbers (next numbers both.0) both.1) where
      next : (rest : List ℕ) → precedes_first nat_lt number rest ≡ true → AtLeast (λ n. n) (number + 1) rest
      next [] is = tt
      next (other ∷ rest) is = omega (arith, ltb-true number other is)

rise_rows : (low : ℕ) (rows : List TableRow) → AtLeast (λ (row : TableRow). row.number) low rows → are_sorted_rows rows ≡ true → RiseFrom low (map rewrite rows)
rise_rows low [] first sorted = tt
rise_rows low (row ∷ rows) first sorted =
    let both = and-parts (precedes_first (λ (a b : TableRow). nat_lt a.number b.number) row rows) (is_strictly_sorted (λ (a b : TableRow). nat_lt a.number b.number) rows) sorted in
    (first, rise_rows (row.number + 1) rows (next rows both.0) both.1) where
      next : (rest : List TableRow) → precedes_first (λ (a b : TableRow). nat_lt a.number b.number) row rest ≡ true → AtLeast (λ (one : TableRow). one.number) (row.number + 1) rest
      next [] is = tt
      next (other ∷ rest) is = omega (arith, ltb-true row.number other.number is)

pub removals_rise : (numbers : List ℕ) → are_sorted_numbers numbers ≡ true → RiseFrom 0 (map removal numbers)
removals_rise numbers sorted = rise_numbers 0 numbers (from numbers) sorted where
  from : (l : List ℕ) → AtLeast (λ n. n) 0 l
  from [] = tt
  from (x ∷ l) = omega arith

pub rewrites_rise : (rows : List TableRow) → are_sorted_rows rows ≡ true → RiseFrom 0 (map rewrite rows)
rewrites_rise rows sorted = rise_rows 0 rows (from rows) sorted where
  from : (l : List TableRow) → AtLeast (λ (row : TableRow). row.number) 0 l
  from [] = tt
  from (x ∷ l) = omega arith

pub rewrites_fit : (columns : List Column) (rows : List TableRow) → list_all (has_shape columns) (values_of rows) ≡ true → AllFitKinds (kinds_in columns) (map rewrite rows)
rewrites_fit columns [] shape = tt
rewrites_fit columns (row ∷ rows) shape =
    let both = and-parts (has_shape columns row.values) (list_all (has_shape columns) (values_of rows)) shape in
    (shape_fits columns row.values both.0, rewrites_fit columns rows both.1)

-- ---- rows that stand

stands_later : (slot : RowHistory) (slots : List RowHistory) (number : ℕ) → HasRow slots number → HasRow (slot ∷ slots) number
stands_later slot slots number stands = (suc stands.0, omega (arith, stands.1), stands.2, stands.3)

stands_among : (number : ℕ) (slots : List RowHistory) → list_any (λ (row : TableRow). row.number == number) (rows_now slots) ≡ true → HasRow slots number
stands_among number [] is = cc
stands_among number (slot ∷ slots) is = by (current_values slot.changes) refl (stands_among number slots) is where
  by : (now : Option (List Value)) → current_values slot.changes ≡ now → (list_any (λ (row : TableRow). row.number == number) (rows_now slots) ≡ true → HasRow slots number)
      → list_any (λ (row : TableRow). row.number == number) (cons_option (row_of slot.number now) (rows_now slots)) ≡ true → HasRow (slot ∷ slots) number
  by None at rest found = stands_later slot slots number (rest found)
  by (Some values) at rest found = elim (cases_Bool (slot.number == number)) [
    | inl same ↦ (0, omega arith, eqb-true slot.number number same, subst (λ (o : Option (List Value)). IsSome o) (sym at) refl)
    | inr apart ↦ stands_later slot slots number (rest (sym (ap (λ b. b || list_any (λ (row : TableRow). row.number == number) (rows_now slots)) apart) ∙ found))
  ]

pub removals_stand : (slots : List RowHistory) (numbers : List ℕ) → list_all (λ number. list_any (λ (row : TableRow). row.number == number) (rows_now slots)) numbers ≡ true → AllStand slots (map removal numbers)
removals_stand slots [] all j below = absurd (omega (arith, below))
removals_stand slots (number ∷ numbers) all zero below =
    stands_among number slots (and-parts _ (list_all (λ n. list_any (λ (row : TableRow). row.number == n) (rows_now slots)) numbers) all).0
removals_stand slots (number ∷ numbers) all (suc j) below =
    removals_stand slots numbers (and-parts (list_any (λ (row : TableRow). row.number == number) (rows_now slots)) _ all).1 j (omega (arith, below))

pub rewrites_stand : (slots : List RowHistory) (rows : List TableRow) → list_all (λ (one : TableRow). list_any (λ (row : TableRow). row.number == one.number) (rows_now slots)) rows ≡ true → AllStand slots (map rewrite rows)
rewrites_stand slots [] all j below = absurd (omega (arith, below))
rewrites_stand slots (one ∷ rows) all zero below =
    stands_among one.number slots (and-parts _ (list_all (λ (other : TableRow). list_any (λ (row : TableRow). row.number == other.number) (rows_now slots)) rows) all).0
rewrites_stand slots (one ∷ rows) all (suc j) below =
    rewrites_stand slots rows (and-parts (list_any (λ (row : TableRow). row.number == one.number) (rows_now slots)) _ all).1 j (omega (arith, below))

pub before_all : (last time : ℕ) (slots : List RowHistory) → AreTimed last slots → last < time → AreBefore time slots
before_all last time slots timed later k below = let one = timed k below in (one.sorted, omega (arith, one.by, later))

-- ---- times after a change

module _ (time : ℕ) (given : List RowChange) where
  change_time : (number : ℕ) (rest : List RowChange) (change : ℕ × Change) → find (λ one. one.0 == number) (changes_given time rest) ≡ Some change → change.1.time ≡ time
  change_time number [] change is = cc
  change_time number (first ∷ rest) change is = elim (cases_Bool (first.number == number)) [
    | inl hit ↦ let same : change_given time first ≡ change = some_is (sym (ap (λ b. cond b (Some (change_given time first)) (find (λ one. one.0 == number) (changes_given time rest))) hit) ∙ is) in
        ap (λ (c : ℕ × Change). c.1.time) (sym same)
    | inr miss ↦ change_time number rest change (sym (ap (λ b. cond b (Some (change_given time first)) (find (λ one. one.0 == number) (changes_given time rest))) miss) ∙ is)
  ] where
    some_is : {a b : ℕ × Change} → Some a ≡ Some b → a ≡ b
    some_is e = cc

  row_timed : (row : RowHistory) → IsSorted row.changes → last_time row.changes < time → IsTimed time (changed_by (changes_given time given) row)
  row_timed row sorted early = by (find (λ change. change.0 == row.number) (changes_given time given)) refl where
    by : (o : Option (ℕ × Change)) → find (λ change. change.0 == row.number) (changes_given time given) ≡ o → IsTimed time (with_change o row)
    by None is = record { sorted = sorted; by = omega (arith, early) }
    by (Some change) is =
        let at : change.1.time ≡ time = change_time row.number given change is in
        record { sorted = sorted_after row.changes change.1 sorted (omega (arith, early, at)); by = omega (arith, last_time_after row.changes change.1, at) }

  pub changed_timed : (slots : List RowHistory) → AreBefore time slots → AreTimed time (map (changed_by (changes_given time given)) slots)
  changed_timed [] before k below = absurd (omega (arith, below))
  changed_timed (row ∷ slots) before zero below = row_timed row (before 0 (omega arith)).0 (before 0 (omega arith)).1
  changed_timed (row ∷ slots) before (suc k) below = changed_timed slots (λ i within. before (suc i) (omega (arith, within))) k (omega (arith, below))

  row_earlier : (earlier : ℕ) → earlier < time → (row : RowHistory) → row_as_of earlier (changed_by (changes_given time given) row) ≡ row_as_of earlier row
  row_earlier earlier less row = by (find (λ change. change.0 == row.number) (changes_given time given)) refl where
    by : (o : Option (ℕ × Change)) → find (λ change. change.0 == row.number) (changes_given time given) ≡ o → row_as_of earlier (with_change o row) ≡ row_as_of earlier row
    by None is = refl
    by (Some change) is = ap (row_of row.number) (as_of_earlier row.changes change.1 earlier (omega (arith, less, change_time row.number given change is)))

  -- what stood before the time of the change stands there as it did
  pub changed_earlier : (earlier : ℕ) → earlier < time → (slots : List RowHistory) → rows_as_of earlier (map (changed_by (changes_given time given)) slots) ≡ rows_as_of earlier slots
  changed_earlier earlier less [] = refl
  changed_earlier earlier less (row ∷ slots) = λ j. cons_option (row_earlier earlier less row j) (changed_earlier earlier less slots j)

pub added_earlier : (time earlier : ℕ) (rows : List TableRow) → earlier < time → rows_as_of earlier (map (history_of_new_row time) rows) ≡ []
added_earlier time earlier [] less = refl
added_earlier time earlier (row ∷ rows) less =
    let gone : as_of (write_at time row.values ∷ []) earlier ≡ None = as_of_earlier [] (write_at time row.values) earlier less in
    ap (λ (o : Option (List Value)). cons_option (row_of row.number o) (rows_as_of earlier (map (history_of_new_row time) rows))) gone ∙ added_earlier time earlier rows less

-- ---- the number of the next row

last_more : (o : Option NextSince) (nexts : List NextSince) (since : NextSince) → last_or o (nexts ++ since ∷ []) ≡ Some since
last_more o [] since = refl
last_more o (first ∷ nexts) since = last_more (Some first) nexts since

pub noted_next : (time next : ℕ) (nexts : List NextSince) → last_next_number (nexts_with time next nexts) ≡ next
noted_next time next nexts = ap (λ (o : Option NextSince). option_map_or (λ (since : NextSince). since.next) o 0) (last_more None nexts (record { time = time; next = next }))

pub noted_since : (time next : ℕ) (nexts : List NextSince) → last_since (nexts_with time next nexts) ≡ time
noted_since time next nexts = ap (λ (o : Option NextSince). option_map_or (λ (since : NextSince). since.time) o 0) (last_more None nexts (record { time = time; next = next }))

pub noted_earlier : (time next earlier : ℕ) (nexts : List NextSince) → earlier < time → next_as_of earlier (nexts_with time next nexts) ≡ next_as_of earlier nexts
noted_earlier time next earlier nexts less =
    ap last_next_number (filter-append (λ (since : NextSince). nat_le since.time earlier) nexts (record { time = time; next = next } ∷ [])
    ∙ ap (λ b. filter (λ (since : NextSince). nat_le since.time earlier) nexts ++ cond b (record { time = time; next = next } ∷ []) []) (lt-leb time earlier less)
    ∙ append-nil (filter (λ (since : NextSince). nat_le since.time earlier) nexts))

-- ---- rows now, without some

module _ (time : ℕ) (numbers : List ℕ) where
  find_dropped : (number : ℕ) (some : List ℕ) → find (λ change. change.0 == number) (map (row_delete time) some) ≡ cond (list_any (λ n. n == number) some) (Some (row_delete time number)) None
  find_dropped number [] = refl
  find_dropped number (first ∷ some) = elim (cases_Bool (first == number)) [
    | inl hit ↦
        ap (λ b. cond b (Some (row_delete time first)) (find (λ change. change.0 == number) (map (row_delete time) some))) hit
        ∙ ap (λ (n : ℕ). Some (row_delete time n)) (eqb-true first number hit)
        ∙ sym (ap (λ b. cond (b || list_any (λ n. n == number) some) (Some (row_delete time number)) None) hit)
    | inr miss ↦
        ap (λ b. cond b (Some (row_delete time first)) (find (λ change. change.0 == number) (map (row_delete time) some))) miss
        ∙ find_dropped number some
        ∙ sym (ap (λ b. cond (b || list_any (λ n. n == number) some) (Some (row_delete time number)) None) miss)
  ]

  row_dropped : (row : RowHistory) → row_now (changed_by (map (row_delete time) numbers) row) ≡ cond (list_any (λ n. n == row.number) numbers) None (row_now row)
  row_dropped row = ap (λ (o : Option (ℕ × Change)). row_now (with_change o row)) (find_dropped row.number numbers) ∙ by (list_any (λ n. n == row.number) numbers) where
    by : (b : Bool) → row_now (with_change (cond b (Some (row_delete time row.number)) None) row) ≡ cond b None (row_now row)
    by true = ap (row_of row.number) (current_after row.changes (delete_at time))
    by false = refl

  pub now_dropped : (slots : List RowHistory) → rows_now (rows_without time numbers slots) ≡ filter (λ row. not (is_among numbers row)) (rows_now slots)
  now_dropped [] = refl
  now_dropped (row ∷ slots) =
      (λ j. cons_option (row_dropped row j) (now_dropped slots j)) ∙ by (list_any (λ n. n == row.number) numbers) refl (current_values row.changes) where
        by : (b : Bool) → list_any (λ n. n == row.number) numbers ≡ b → (now : Option (List Value)) → cons_option (cond b None (row_of row.number now)) (filter (λ one. not (is_among numbers one)) (rows_now slots)) ≡ filter (λ one. not (is_among numbers one)) (cons_option (row_of row.number now) (rows_now slots))
        by true is None = refl
        by false is None = refl
        by true is (Some values) = sym (ap (λ b. cond (not b) (record { number = row.number; values = values } ∷ filter (λ one. not (is_among numbers one)) (rows_now slots)) (filter (λ one. not (is_among numbers one)) (rows_now slots))) is)
        by false is (Some values) = sym (ap (λ b. cond (not b) (record { number = row.number; values = values } ∷ filter (λ one. not (is_among numbers one)) (rows_now slots)) (filter (λ one. not (is_among numbers one)) (rows_now slots))) is)

-- ---- rows now, some with other values

-- rows that get other values stand
abbrev pub GivenStand : List TableRow → List RowHistory → Type 0
GivenStand rows slots = (k : ℕ) → k < length slots → IsSome (find (λ new. new.number == (get_or slots k no_history).number) rows) → IsSome (current_values (get_or slots k no_history).changes)

module _ (time : ℕ) (rows : List TableRow) where
  find_written : (number : ℕ) (some : List TableRow) → find (λ change. change.0 == number) (map (row_write time) some) ≡ option_map (row_write time) (find (λ new. new.number == number) some)
  find_written number [] = refl
  find_written number (first ∷ some) = elim (cases_Bool (first.number == number)) [
    | inl hit ↦
        ap (λ b. cond b (Some (row_write time first)) (find (λ change. change.0 == number) (map (row_write time) some))) hit
        ∙ sym (ap (λ b. option_map (row_write time) (cond b (Some first) (find (λ new. new.number == number) some))) hit)
    | inr miss ↦
        ap (λ b. cond b (Some (row_write time first)) (find (λ change. change.0 == number) (map (row_write time) some))) miss
        ∙ find_written number some
        ∙ sym (ap (λ b. option_map (row_write time) (cond b (Some first) (find (λ new. new.number == number) some))) miss)
  ]

  row_written : (row : RowHistory) → (IsSome (find (λ new. new.number == row.number) rows) → IsSome (current_values row.changes)) → row_now (changed_by (map (row_write time) rows) row) ≡ option_map (replaced_by rows) (row_now row)
  row_written row stands = ap (λ (o : Option (ℕ × Change)). row_now (with_change o row)) (find_written row.number rows) ∙ by (find (λ new. new.number == row.number) rows) refl where
    kept : (now : Option (List Value)) → find (λ new. new.number == row.number) rows ≡ None → row_of row.number now ≡ option_map (replaced_by rows) (row_of row.number now)
    kept None is = refl
    kept (Some values) is = sym (ap (λ (o : Option TableRow). Some (unwrap_or o (record { number = row.number; values = values }))) is)

    put : (now : Option (List Value)) (new : TableRow) → IsSome now → find (λ one. one.number == row.number) rows ≡ Some new → Some (record { number = row.number; values = new.values }) ≡ option_map (replaced_by rows) (row_of row.number now)
    put None new some is = cc
    put (Some values) new some is =
        let same : new.number ≡ row.number = number_found row.number rows new is in
        (λ j. Some (record { number = sym same j; values = new.values }))
        ∙ sym (ap (λ (o : Option TableRow). Some (unwrap_or o (record { number = row.number; values = values }))) is)

    by : (o : Option TableRow) → find (λ new. new.number == row.number) rows ≡ o → row_now (with_change (option_map (row_write time) o) row) ≡ option_map (replaced_by rows) (row_now row)
    by None is = kept (current_values row.changes) is
    by (Some new) is =
        ap (row_of row.number) (current_after row.changes (write_at time new.values))
        ∙ put (current_values row.changes) new (stands (subst (λ (o : Option TableRow). IsSome o) (sym is) refl)) is

  map_cons : (o : Option TableRow) (some : List TableRow) → cons_option (option_map (replaced_by rows) o) (map (replaced_by rows) some) ≡ map (replaced_by rows) (cons_option o some)
  map_cons None some = refl
  map_cons (Some row) some = refl

  pub now_rewritten : (slots : List RowHistory) → GivenStand rows slots → rows_now (rows_with_values time rows slots) ≡ map (replaced_by rows) (rows_now slots)
  now_rewritten [] stand = refl
  now_rewritten (row ∷ slots) stand =
      (λ j. cons_option (row_written row (stand 0 (omega arith)) j) (now_rewritten slots (λ k below. stand (suc k) (omega (arith, below))) j)) ∙ map_cons (row_now row) (rows_now slots)

  given_stood : (table : Table) (number : ℕ) (some : List TableRow) → list_all (had_row table) some ≡ true → IsSome (find (λ new. new.number == number) some) → list_any (λ (old : TableRow). old.number == number) table.rows ≡ true
  given_stood table number [] all is = cc
  given_stood table number (first ∷ some) all is =
      let both = and-parts (had_row table first) (list_all (had_row table) some) all in
      elim (cases_Bool (first.number == number)) [
        | inl hit ↦ subst (λ (n : ℕ). list_any (λ (old : TableRow). old.number == n) table.rows ≡ true) (eqb-true first.number number hit) both.0
        | inr miss ↦ given_stood table number some both.1 (subst (λ (o : Option TableRow). IsSome o) (ap (λ b. cond b (Some first) (find (λ new. new.number == number) some)) miss) is)
      ]

  pub given_stand : (table : Table) (slots : List RowHistory) (next : ℕ) → table.rows ≡ rows_now slots → AreInOrder slots next → list_all (had_row table) rows ≡ true → GivenStand rows slots
  given_stand table slots next are order all k below found =
      let number = (get_or slots k no_history).number in
      let stands : HasRow slots number = stands_among number slots (subst (λ (l : List TableRow). list_any (λ (old : TableRow). old.number == number) l ≡ true) are (given_stood table number rows all found)) in
      let here : stands.0 ≡ k = elim (cases_lt stands.0 k) [
        | inl low ↦ absurd (omega (arith, order.rising stands.0 k low below, stands.2))
        | inr from ↦ elim (cases_lt k stands.0) [
          | inl high ↦ absurd (omega (arith, order.rising k stands.0 high stands.1, stands.2))
          | inr to ↦ omega (arith, from, to)
        ]
      ] in
      subst (λ (i : ℕ). IsSome (current_values (get_or slots i no_history).changes)) here stands.3

-- ---- the index afterwards

pub held_kept : (places : List ℕ) (held : HeldKeys) (p : TableRow → Bool) (rows : List TableRow) → AreHeld places held rows → AreHeld places held (filter p rows)
held_kept places held p [] are = tt
held_kept places held p (row ∷ rows) are = by (p row) (held_kept places held p rows are.1) where
  by : (b : Bool) → AreHeld places held (filter p rows) → AreHeld places held (cond b (row ∷ filter p rows) (filter p rows))
  by true rest = (are.0, rest)
  by false rest = rest

pub indexed_kept : (key : List ℕ) (held : HeldKeys) (p : TableRow → Bool) (rows : List TableRow) → AreIndexed key held rows → AreIndexed key held (filter p rows)
indexed_kept [] held p rows are = tt
indexed_kept (place ∷ places) held p rows are = held_kept (place ∷ places) held p rows are

-- ---- tables now

pub inserted_now : (time : ℕ) (rows : List (List Value)) (table : TableHistory) → table_now (table_with_rows time rows table) ≡ with_inserted rows (table_now table)
inserted_now time rows table =
    let slots : rows_now (table_with_rows time rows table).slots ≡ rows_now table.slots ++ numbered_rows (last_next_number table.nexts) rows =
    filter_map-append row_now table.slots (map (history_of_new_row time) (numbered_rows (last_next_number table.nexts) rows)) ∙ ap (λ (l : List TableRow). rows_now table.slots ++ l) (added_now time (numbered_rows (last_next_number table.nexts) rows)) in
    λ j. record { name = table.name; schema = table.schema; rows = slots j; next = noted_next time (last_next_number table.nexts + length rows) table.nexts j }

pub removed_now : (time : ℕ) (numbers : List ℕ) (table : TableHistory) → table_now (table_without time numbers table) ≡ with_removed numbers (table_now table)
removed_now time numbers table =
    λ j. record { name = table.name; schema = table.schema; rows = now_dropped time numbers table.slots j; next = noted_next time (last_next_number table.nexts) table.nexts j }

pub replaced_now : (time : ℕ) (rows : List TableRow) (table : TableHistory) → GivenStand rows table.slots → table_now (table_with_values time rows table) ≡ with_replaced rows (table_now table)
replaced_now time rows table stand =
    λ j. record { name = table.name; schema = table.schema; rows = now_rewritten time rows table.slots stand j; next = noted_next time (last_next_number table.nexts) table.nexts j }

-- ---- the parts afterwards

pub stored_changed : (schema : Schema) (rows : RowsHistory) (held new : HeldKeys) (pairs more : Pairs) (nexts : List NextSince) (time : ℕ) (given : List RowChange) → IsStored schema rows held pairs nexts → last_since nexts < time
    → AreIndexed schema.key new (rows_now (map (changed_by (changes_given time given)) rows.slots))
    → AreReferred more schema.foreign (rows_now (map (changed_by (changes_given time given)) rows.slots))
    → IsStored schema (record rows { slots = map (changed_by (changes_given time given)) rows.slots }) new more (nexts_with time rows.next nexts)
stored_changed schema rows held new pairs more nexts time given stored later indexed referred = record {
  kinds = stored.kinds;
  next = noted_next time rows.next nexts;
  in_time = noted_in_time time rows.next nexts later stored.in_time;
  timed = subst (λ (t : ℕ). AreTimed t (map (changed_by (changes_given time given)) rows.slots)) (sym (noted_since time rows.next nexts))
      (changed_timed time given rows.slots (before_all (last_since nexts) time rows.slots stored.timed later));
  indexed = indexed;
  referred = referred;
}

pub indexed_removed : (key : List ℕ) (held : HeldKeys) (time : ℕ) (numbers : List ℕ) (slots : List RowHistory) → AreIndexed key held (rows_now slots) → AreIndexed key held (rows_now (map (changed_by (changes_given time (map removal numbers))) slots))
indexed_removed key held time numbers slots indexed =
    subst (λ (l : List TableRow). AreIndexed key held l) (sym (ap (λ (changes : List (ℕ × Change)). rows_now (map (changed_by changes) slots)) (changes_removed time numbers) ∙ now_dropped time numbers slots))
    (indexed_kept key held (λ row. not (is_among numbers row)) (rows_now slots) indexed)

-- ---- references afterwards

referred_wider : (foreigns : List Foreign) (old new : Pairs) (rows : List TableRow) → KeepPairs old new → AreReferred old foreigns rows → AreReferred new foreigns rows
referred_wider foreigns old new rows keep = all-weaker (IsReferred old foreigns) (IsReferred new foreigns) (λ row is place within. by place row.number (reference (get_or foreigns place no_foreign) row.values) (is place within)) rows
  where
    by : (place number : ℕ) (o : Option (List Value)) → IfSome o (λ key. old place key number ≡ true) → IfSome o (λ key. new place key number ≡ true)
    by place number None is = tt
    by place number (Some key) is = keep place key number is

pub referred_removed : (foreigns : List Foreign) (pairs : Pairs) (time : ℕ) (numbers : List ℕ) (slots : List RowHistory) → AreReferred pairs foreigns (rows_now slots)
    → AreReferred pairs foreigns (rows_now (map (changed_by (changes_given time (map removal numbers))) slots))
referred_removed foreigns pairs time numbers slots referred =
    subst (λ (l : List TableRow). AreReferred pairs foreigns l) (sym (ap (λ (changes : List (ℕ × Change)). rows_now (map (changed_by changes) slots)) (changes_removed time numbers) ∙ now_dropped time numbers slots))
    (left (λ row. not (is_among numbers row)) (rows_now slots) referred)
  where
    left : (p : TableRow → Bool) (rows : List TableRow) → AreReferred pairs foreigns rows → AreReferred pairs foreigns (filter p rows)
    left p [] all = tt
    left p (row ∷ rows) all = by (p row) (left p rows all.1)
      where
        by : (b : Bool) → AreReferred pairs foreigns (filter p rows) → AreReferred pairs foreigns (cond b (row ∷ filter p rows) (filter p rows))
        by true rest = (all.0, rest)
        by false rest = rest

-- each given row, and each that was there
pub referred_replaced : (foreigns : List Foreign) (old new : Pairs) (time : ℕ) (rows : List TableRow) (slots : List RowHistory) → GivenStand rows slots → KeepPairs old new
    → AreReferred old foreigns (rows_now slots) → AreReferred new foreigns rows
    → AreReferred new foreigns (rows_now (map (changed_by (changes_given time (map rewrite rows))) slots))
referred_replaced foreigns old new time rows slots stand keep there given =
    subst (λ (l : List TableRow). AreReferred new foreigns l) (sym (ap (λ (changes : List (ℕ × Change)). rows_now (map (changed_by changes) slots)) (changes_written time rows) ∙ now_rewritten time rows slots stand))
    (put (rows_now slots) (referred_wider foreigns old new (rows_now slots) keep there))
  where
    found : (number : ℕ) (some : List TableRow) (row : TableRow) → AreReferred new foreigns some → find (λ (one : TableRow). one.number == number) some ≡ Some row → IsReferred new foreigns row
    found number [] row all is = cc
    found number (first ∷ some) row all is = elim (cases_Bool (first.number == number)) [
      | inl hit ↦
          let e : Some first ≡ Some row = sym (ap (λ b. cond b (Some first) (find (λ (one : TableRow). one.number == number) some)) hit) ∙ is in
          subst (λ (r : TableRow). IsReferred new foreigns r) (same-some first row e) all.0
      | inr miss ↦ found number some row all.1 (sym (ap (λ b. cond b (Some first) (find (λ (one : TableRow). one.number == number) some)) miss) ∙ is)
    ]

    one : (row : TableRow) (o : Option TableRow) → find (λ (new : TableRow). new.number == row.number) rows ≡ o → IsReferred new foreigns row → IsReferred new foreigns (unwrap_or o row)
    one row None is own = own
    one row (Some next) is own = found row.number rows next given is

    put : (some : List TableRow) → AreReferred new foreigns some → AreReferred new foreigns (map (replaced_by rows) some)
    put [] all = tt
    put (row ∷ some) all = (one row (find (λ (new : TableRow). new.number == row.number) rows) refl all.0, put some all.1)

pub referred_inserted : (foreigns : List Foreign) (old new : Pairs) (rows more : List TableRow) → KeepPairs old new → AreReferred old foreigns rows → AreReferred new foreigns more
    → AreReferred new foreigns (rows ++ more)
referred_inserted foreigns old new rows more keep there given = both rows (referred_wider foreigns old new rows keep there)
  where
    both : (some : List TableRow) → AreReferred new foreigns some → AreReferred new foreigns (some ++ more)
    both [] all = given
    both (row ∷ some) all = (all.0, both some all.1)

-- an index in which keys were claimed, and more references
pub stored_claimed : (schema : Schema) (rows : RowsHistory) (old new : HeldKeys) (pairs more : Pairs) (nexts : List NextSince) → AreIndexed schema.key new (rows_now rows.slots) → KeepPairs pairs more
    → IsStored schema rows old pairs nexts → IsStored schema rows new more nexts
stored_claimed schema rows old new pairs more nexts indexed keep stored = record {
  kinds = stored.kinds;
  next = stored.next;
  in_time = stored.in_time;
  timed = stored.timed;
  indexed = indexed;
  referred = referred_wider schema.foreign pairs more (rows_now rows.slots) keep stored.referred;
}

-- an index with more keys, and more references
pub stored_wider : (schema : Schema) (rows : RowsHistory) (old new : HeldKeys) (pairs more : Pairs) (nexts : List NextSince) → ((q : RowKey) (n : ℕ) → old q ≡ Some n → new q ≡ Some n) → KeepPairs pairs more
    → IsStored schema rows old pairs nexts → IsStored schema rows new more nexts
stored_wider schema rows old new pairs more nexts keeps keep stored = record {
  referred = referred_wider schema.foreign pairs more (rows_now rows.slots) keep stored.referred;
  kinds = stored.kinds;
  next = stored.next;
  in_time = stored.in_time;
  timed = stored.timed;
  indexed = indexed_wider schema.key old new keeps (rows_now rows.slots) stored.indexed;
}

pub indexed_replaced : (key : List ℕ) (held : HeldKeys) (time : ℕ) (rows : List TableRow) (slots : List RowHistory) → GivenStand rows slots → AreIndexed key held (map (replaced_by rows) (rows_now slots))
    → AreIndexed key held (rows_now (map (changed_by (changes_given time (map rewrite rows))) slots))
indexed_replaced key held time rows slots stand indexed =
    subst (λ (l : List TableRow). AreIndexed key held l) (sym (ap (λ (changes : List (ℕ × Change)). rows_now (map (changed_by changes) slots)) (changes_written time rows) ∙ now_rewritten time rows slots stand)) indexed

-- ---- before the change

pub inserted_before : (time : ℕ) (rows : List (List Value)) (table : TableHistory) (earlier : ℕ) → earlier < time → rows_as_of earlier (table_with_rows time rows table).slots ≡ rows_as_of earlier table.slots
inserted_before time rows table earlier less =
    filter_map-append (row_as_of earlier) table.slots (map (history_of_new_row time) (numbered_rows (last_next_number table.nexts) rows))
    ∙ ap (λ (l : List TableRow). rows_as_of earlier table.slots ++ l) (added_earlier time earlier (numbered_rows (last_next_number table.nexts) rows) less)
    ∙ append-nil (rows_as_of earlier table.slots)

pub removed_before : (time : ℕ) (numbers : List ℕ) (table : TableHistory) (earlier : ℕ) → earlier < time → rows_as_of earlier (table_without time numbers table).slots ≡ rows_as_of earlier table.slots
removed_before time numbers table earlier less =
    ap (λ (changes : List (ℕ × Change)). rows_as_of earlier (map (changed_by changes) table.slots)) (sym (changes_removed time numbers))
    ∙ changed_earlier time (map removal numbers) earlier less table.slots

pub replaced_before : (time : ℕ) (rows : List TableRow) (table : TableHistory) (earlier : ℕ) → earlier < time → rows_as_of earlier (table_with_values time rows table).slots ≡ rows_as_of earlier table.slots
replaced_before time rows table earlier less =
    ap (λ (changes : List (ℕ × Change)). rows_as_of earlier (map (changed_by changes) table.slots)) (sym (changes_written time rows))
    ∙ changed_earlier time (map rewrite rows) earlier less table.slots

pub stored_inserted : (schema : Schema) (rows : RowsHistory) (old new : HeldKeys) (pairs more : Pairs) (nexts : List NextSince) (time : ℕ) (values : List (List Value)) → IsStored schema rows old pairs nexts → last_since nexts < time
    → AreIndexed schema.key new (rows_now rows.slots ++ numbered_rows rows.next values)
    → AreReferred more schema.foreign (rows_now rows.slots ++ numbered_rows rows.next values)
    → IsStored schema (record rows { slots = rows.slots ++ map (history_of_new_row time) (numbered_rows rows.next values); next = next_after rows.next (numbered_rows rows.next values) }) new more (nexts_with time (next_after rows.next (numbered_rows rows.next values)) nexts)
stored_inserted schema rows old new pairs more nexts time values stored later indexed referred = record {
  referred = subst (λ (l : List TableRow). AreReferred more schema.foreign l) (sym (now_more time rows.slots (numbered_rows rows.next values))) referred;
  kinds = stored.kinds;
  next = noted_next time (next_after rows.next (numbered_rows rows.next values)) nexts;
  in_time = noted_in_time time (next_after rows.next (numbered_rows rows.next values)) nexts later stored.in_time;
  timed = subst (λ (t : ℕ). AreTimed t (rows.slots ++ map (history_of_new_row time) (numbered_rows rows.next values))) (sym (noted_since time (next_after rows.next (numbered_rows rows.next values)) nexts))
      (timed_more (last_since nexts) time rows.slots (numbered_rows rows.next values) later stored.timed);
  indexed = subst (λ (l : List TableRow). AreIndexed schema.key new l) (sym (now_more time rows.slots (numbered_rows rows.next values))) indexed;
}

-- the table after new rows, by its parts
pub inserted_by : (name : List ℕ) (schema : Schema) (rows : RowsHistory) (nexts : List NextSince) (time : ℕ) (values : List (List Value)) → last_next_number nexts ≡ rows.next
    → record { name = name; schema = schema; slots = rows.slots ++ map (history_of_new_row time) (numbered_rows rows.next values); nexts = nexts_with time (next_after rows.next (numbered_rows rows.next values)) nexts }
    ≡ table_with_rows time values (record { name = name; schema = schema; slots = rows.slots; nexts = nexts })
inserted_by name schema rows nexts time values is =
    ap (λ (n : ℕ). record { name = name; schema = schema; slots = rows.slots ++ map (history_of_new_row time) (numbered_rows rows.next values); nexts = nexts_with time n nexts }) (numbered_after rows.next values)
    ∙ ap (λ (n : ℕ). record { name = name; schema = schema; slots = rows.slots ++ map (history_of_new_row time) (numbered_rows n values); nexts = nexts_with time (n + length values) nexts }) (sym is)
