-- The first row of a table that refers to one of some keys: by one key after the other, and by one foreign key
-- after the other.
use Rattle.std.proofs.Common.{◌≡◌, ◌==◌, ℕ, zero, suc, ◌+◌, ◌<◌, ◌≤◌, List, [], ◌∷◌, take, length, get_or, refl, sym, ap, ◌∙◌, Bool, true, false, cond, not, ◌&&◌, ◌||◌, inl, inr, arith, Option, Some, None, is_some, eq-eqb}
use Rattle.std.specs.Prelude.{IfSome, find, min, if◌then◌else◌, ◌^◌}
use Rattle.std.specs.BTreeSet.{BTreeSet}
use Rattle.std.specs.List.{AllByRecursion, cons_option, list_any}
use Rattle.std.specs.Option.{option_map, option_map_or, option_and_then, option_or}
use Rattle.std.proofs.lemmas.Bool.{cases_Bool, cases_lt, eqb-true, ne_eqb}
use Rattle.std.proofs.lemmas.List.{take_more}
use Rattle.ldv_value.proofs.Booleans.{and-false, or-false, or-parts, true≢false}
use Rattle.ldv_value.proofs.Lists.{all-weaker, list_any-append, list_any-false}
use Rattle.ldv_value.proofs.Options.{none-some}
use Rattle.ldv_value.specs.Options.{first_some}
use Rattle.row_version.specs.History.{current_values}
use Rattle.sql_model.specs.Keys.{same_values}
use Rattle.sql_model.specs.References.{Orphan, child_of, orphan_by, reference}
use Rattle.sql_model.specs.Scope.{is_table, same_text}
use Rattle.table_store.specs.inner.Afterwards.{in_set, is_other, orphan_in_other, orphan_in_row, orphan_in_slot, orphan_in_table}
use Rattle.table_store.specs.inner.ChildPairs.{AreReferred, IsNextOf, IsReferred, Pairs, first_number, given_in, is_child, is_child_by, is_child_in, is_child_of, lower_of, refers}
use Rattle.table_store.specs.inner.ChildSteps.{AreFrom, IsStep, after}
use Rattle.table_store.specs.Histories.{RowHistory, TableHistory, no_history, row_now, row_of, rows_now, slot_of_row, table_now}
use Rattle.table_store.specs.RowOrder.{AreInOrder}
use Rattle.table_store.specs.Stops.{are_sorted_numbers, is_among}
use Rattle.table_store.specs.Types.{Foreign, RowKey, Table, TableRow, Value}
use Rattle.table_store.specs.declared.references.child_rows.Search.TheVariants.{Ends, GoesOn}
use Rattle.table_store.proofs.FirstLaws.{first_filtered}
use Rattle.table_store.proofs.InsertLaws.{AllRows, RisesFrom, rows_below, rows_rise}
use Rattle.table_store.proofs.StandingRows.{slot-has}
use Rattle.table_store.proofs.GivenKeyLaws.{some_is}

-- ---- the first of two

first_above : (p : TableRow → Bool) (low : ℕ) (rows : List TableRow) → RisesFrom low rows → (n : ℕ) → first_number p rows ≡ Some n → low ≤ n
first_above p low [] rises n is = cc
first_above p low (row ∷ rows) rises n is = elim (cases_Bool (p row)) [
  | inl hit ↦
      let e : row.number ≡ n = some_is (sym (ap (λ b. option_map (λ (r : TableRow). r.number) (cond b (Some row) (find p rows))) hit) ∙ is) in
      omega (arith, e, rises.0)
  | inr miss ↦
      let later : row.number + 1 ≤ n = first_above p (row.number + 1) rows rises.1 n (sym (ap (λ b. option_map (λ (r : TableRow). r.number) (cond b (Some row) (find p rows))) miss) ∙ is) in
      omega (arith, later, rises.0)
]

lower_left : (n : ℕ) (o : Option ℕ) → ((m : ℕ) → o ≡ Some m → n ≤ m) → Some n ≡ lower_of (Some n) o
lower_left n None above = refl
lower_left n (Some m) above =
    let less : n ≤ m = above m refl in
    let same : n ≡ min n m = omega (arith, less) in
    ap (λ (k : ℕ). Some k) same

lower_right : (n : ℕ) (o : Option ℕ) → ((m : ℕ) → o ≡ Some m → n ≤ m) → Some n ≡ lower_of o (Some n)
lower_right n None above = refl
lower_right n (Some m) above =
    let less : n ≤ m = above m refl in
    let same : n ≡ min m n = omega (arith, less) in
    ap (λ (k : ℕ). Some k) same

lower_none : (o : Option ℕ) → o ≡ lower_of o None
lower_none None = refl
lower_none (Some n) = refl

pub lower_assoc : (a b c : Option ℕ) → lower_of (lower_of a b) c ≡ lower_of a (lower_of b c)
lower_assoc None b c = refl
lower_assoc (Some x) None c = refl
lower_assoc (Some x) (Some y) None = refl
lower_assoc (Some x) (Some y) (Some z) =
    let same : min (min x y) z ≡ min x (min y z) = omega arith in
    ap (λ (k : ℕ). Some k) same

lower_or : (p q : TableRow → Bool) (low : ℕ) (rows : List TableRow) → RisesFrom low rows
    → first_number (λ row. p row || q row) rows ≡ lower_of (first_number p rows) (first_number q rows)
lower_or p q low [] rises = refl
lower_or p q low (row ∷ rows) rises =
    by (p row) (q row) refl refl (lower_or p q (row.number + 1) rows rises.1)
  where
    number : Option TableRow → Option ℕ
    number o = option_map (λ (r : TableRow). r.number) o

    past : (t : TableRow → Bool) (m : ℕ) → first_number t rows ≡ Some m → row.number ≤ m
    past t m is = let later : row.number + 1 ≤ m = first_above t (row.number + 1) rows rises.1 m is in omega (arith, later)

    by : (a b : Bool) → p row ≡ a → q row ≡ b → first_number (λ r. p r || q r) rows ≡ lower_of (first_number p rows) (first_number q rows)
        → option_map (λ (r : TableRow). r.number) (cond (a || b) (Some row) (find (λ r. p r || q r) rows))
        ≡ lower_of (option_map (λ (r : TableRow). r.number) (cond a (Some row) (find p rows))) (option_map (λ (r : TableRow). r.number) (cond b (Some row) (find q rows)))
    by true true ip iq more = lower_left row.number (Some row.number) (λ m is. let e : row.number ≡ m = some_is is in omega (arith, e))
    by true false ip iq more = lower_left row.number (first_number q rows) (past q)
    by false true ip iq more = lower_right row.number (first_number p rows) (past p)
    by false false ip iq more = more

first_alike : (p q : TableRow → Bool) → ((row : TableRow) → p row ≡ q row) → (rows : List TableRow) → first_number p rows ≡ first_number q rows
first_alike p q same rows = ap (λ (t : TableRow → Bool). first_number t rows) (λ j row. same row j)

none_passes : (p : TableRow → Bool) (rows : List TableRow) → AllByRecursion (λ row. p row ≡ false) rows → None ≡ first_number p rows
none_passes p [] all = refl
none_passes p (row ∷ rows) all =
    none_passes p rows all.1 ∙ sym (ap (λ b. option_map (λ (r : TableRow). r.number) (cond b (Some row) (find p rows))) all.0)

all_so : (P : TableRow → Type 0) → ((row : TableRow) → P row) → (rows : List TableRow) → AllByRecursion P rows
all_so P so [] = tt
all_so P so (row ∷ rows) = (so row, all_so P so rows)

both_so : (P Q R : TableRow → Type 0) → ((row : TableRow) → P row → Q row → R row) → (rows : List TableRow) → AllByRecursion P rows → AllByRecursion Q rows → AllByRecursion R rows
both_so P Q R so [] one two = tt
both_so P Q R so (row ∷ rows) one two = (so row one.0 two.0, both_so P Q R so rows one.1 two.1)

below_so : (P : TableRow → Type 0) (rows : List TableRow) → AllRows P rows → AllByRecursion P rows
below_so P [] all = tt
below_so P (row ∷ rows) all = (all.0, below_so P rows all.1)

-- ---- by one key: number after number

module _ (p : TableRow → Bool) (rows : List TableRow) where
  pub start_from : AreFrom p rows 0
  start_from = all_so (λ row. p row ≡ true → 0 ≤ row.number) (λ row is. omega arith) rows

  -- where each row that passes is below a number, and none is
  none_left : (n : ℕ) → AreFrom p rows n → AllByRecursion (λ row. p row ≡ true → row.number < n) rows → None ≡ first_number p rows
  none_left n from below = none_passes p rows (both_so (λ row. p row ≡ true → n ≤ row.number) (λ row. p row ≡ true → row.number < n) (λ row. p row ≡ false) one rows from below)
    where
      one : (row : TableRow) → (p row ≡ true → n ≤ row.number) → (p row ≡ true → row.number < n) → p row ≡ false
      one row above less = elim (cases_Bool (p row)) [
        | inl hit ↦ absurd (omega (arith, above hit, less hit))
        | inr miss ↦ miss
      ]

  abbrev at : ℕ → List TableRow → Bool
  at n some = list_any (λ (row : TableRow). (row.number == n) && p row) some

  none_at : (n low : ℕ) (some : List TableRow) → n < low → RisesFrom low some → at n some ≡ false
  none_at n low [] below rises = refl
  none_at n low (row ∷ some) below rises =
      λ j. (ne_eqb row.number n (λ same. omega (arith, same, below, rises.0)) j && p row) || none_at n (row.number + 1) some (omega (arith, below, rises.0)) rises.1 j

  first_at : (n low : ℕ) (some : List TableRow) → RisesFrom low some → AllByRecursion (λ row. p row ≡ true → n ≤ row.number) some → at n some ≡ true → Some n ≡ first_number p some
  first_at n low [] rises from is = cc
  first_at n low (row ∷ some) rises from is = elim (cases_Bool (p row)) [
    | inl hit ↦ elim (cases_lt n row.number) [
      | inl less ↦
          let none : at n (row ∷ some) ≡ false = none_at n (n + 1) (row ∷ some) (omega arith) (omega (arith, less), rises.1) in
          absurd (true≢false (sym is ∙ none))
      | inr within ↦
          let above : n ≤ row.number = from.0 hit in
          let same : n ≡ row.number = omega (arith, within, above) in
          ap (λ (k : ℕ). Some k) same ∙ sym (ap (λ b. option_map (λ (r : TableRow). r.number) (cond b (Some row) (find p some))) hit)
    ]
    | inr miss ↦
        let here : ((row.number == n) && p row) ≡ false = ap (λ (b : Bool). (row.number == n) && b) miss ∙ and-false (row.number == n) in
        first_at n (row.number + 1) some rises.1 from.1 (sym (ap (λ (b : Bool). b || at n some) here) ∙ is)
        ∙ sym (ap (λ b. option_map (λ (r : TableRow). r.number) (cond b (Some row) (find p some))) miss)
  ]

  on_from : (n : ℕ) (some : List TableRow) → AllByRecursion (λ row. p row ≡ true → n ≤ row.number) some → at n some ≡ false
      → AllByRecursion (λ row. p row ≡ true → n + 1 ≤ row.number) some
  on_from n [] from none = tt
  on_from n (row ∷ some) from none =
      let parts = or-parts ((row.number == n) && p row) (at n some) none in (
        (λ hit.
            let above : n ≤ row.number = from.0 hit in
            elim (cases_lt n row.number) [
              | inl less ↦ omega (arith, less)
              | inr within ↦
                  let same : row.number ≡ n = omega (arith, above, within) in
                  absurd (true≢false (sym (λ j. eq-eqb row.number n same j && hit j) ∙ parts.0))
            ]),
        on_from n some from.1 parts.1,
      )

  -- what comes of a number, of which it is known whether its row passes
  step_by : (low from n : ℕ) → RisesFrom low rows → AllByRecursion (λ row. row.number < 2 ^ 32) rows → from ≤ n → AreFrom p rows n
      → (b : Bool) → at n rows ≡ b → IsStep p rows from (if b then Ends (Some n) else after n)
  step_by low from n rises small above are true hit = first_at n low rows rises are hit
  step_by low from n rises small above are false miss = by (n == 4294967295) refl
    where
      on : AreFrom p rows (n + 1)
      on = on_from n rows are miss

      by : (b : Bool) → (n == 4294967295) ≡ b → IsStep p rows from (if b then Ends None else GoesOn (n + 1))
      by true last =
          let end : n ≡ 4294967295 = eqb-true n 4294967295 last in
          none_left (n + 1) on (both_so (λ row. row.number < 2 ^ 32) (λ row. p row ≡ true → n + 1 ≤ row.number) (λ row. p row ≡ true → row.number < n + 1) (λ row few more is. omega (arith, few, end)) rows small on)
      by false other = (omega (arith, above), on)

  -- by the least number of rows that may pass
  pub step_none : (q : TableRow → Bool) → ((row : TableRow) → p row ≡ true → q row ≡ true) → (from : ℕ) → AreFrom p rows from → IsNextOf q rows from None → IsStep p rows from (Ends None)
  step_none q may from are none =
      none_left from are (both_so (λ row. p row ≡ true → from ≤ row.number) (λ row. q row ≡ true → row.number < from) (λ row. p row ≡ true → row.number < from) (λ row above below is. below (may row is)) rows are none)

  pub step_some : (q : TableRow → Bool) → ((row : TableRow) → p row ≡ true → q row ≡ true) → (low from n : ℕ) → RisesFrom low rows → AllByRecursion (λ row. row.number < 2 ^ 32) rows
      → AreFrom p rows from → IsNextOf q rows from (Some n) → IsStep p rows from (if at n rows then Ends (Some n) else after n)
  step_some q may low from n rises small are next =
      step_by low from n rises small next.0
      (both_so (λ row. p row ≡ true → from ≤ row.number) (λ row. q row ≡ true → from ≤ row.number → n ≤ row.number) (λ row. p row ≡ true → n ≤ row.number) (λ row above least is. least (may row is) (above is)) rows are next.1)
      (at n rows) refl

pub small_rows : (slots : List RowHistory) (next : ℕ) → AreInOrder slots next → next < 2 ^ 32 → AllByRecursion (λ row. row.number < 2 ^ 32) (rows_now slots)
small_rows slots next order few =
    below_so (λ row. row.number < 2 ^ 32) (rows_now slots) (rows_below (2 ^ 32) slots (λ i within. omega (arith, order.below i within, few)))

pub rising_rows : (slots : List RowHistory) (next : ℕ) → AreInOrder slots next → RisesFrom 0 (rows_now slots)
rising_rows slots next order = rows_rise 0 slots (λ i below. omega arith) order.rising

-- ---- by one key after the other

and_or : (c a b : Bool) → (c && (a || b)) ≡ ((c && a) || (c && b))
and_or true a b = refl
and_or false a b = refl

module _ (given : List ℕ) (f : Foreign) (rows : List TableRow) (rises : RisesFrom 0 rows) where
  pub keys_none : None ≡ first_number (is_child_of given f []) rows
  keys_none = none_passes (is_child_of given f []) rows (all_so (λ row. is_child_of given f [] row ≡ false) (λ row. and-false (not (is_among given row))) rows)

  pub keys_more : (key : RowKey) (keys : List RowKey) (first : Option ℕ) (found : Option ℕ) → found ≡ first_number (is_child given f key.values) rows
      → lower_of (lower_of first found) (first_number (is_child_of given f keys) rows) ≡ lower_of first (first_number (is_child_of given f (key ∷ keys)) rows)
  keys_more key keys first found is =
      lower_assoc first found (first_number (is_child_of given f keys) rows)
      ∙ ap (lower_of first)
      (ap (λ (o : Option ℕ). lower_of o (first_number (is_child_of given f keys) rows)) is
      ∙ sym (first_alike (is_child_of given f (key ∷ keys)) (λ row. is_child given f key.values row || is_child_of given f keys row)
      (λ row. and_or (not (is_among given row)) (refers f key.values row) (list_any (λ (k : RowKey). refers f k.values row) keys)) rows
      ∙ lower_or (is_child given f key.values) (is_child_of given f keys) 0 rows rises))

  pub keys_end : (first : Option ℕ) → first ≡ lower_of first (first_number (is_child_of given f []) rows)
  keys_end first = lower_none first ∙ ap (lower_of first) keys_none

-- ---- by one foreign key after the other

module _ (given target : List ℕ) (keys : List RowKey) (rows : List TableRow) where
  pub by_none : (f : Foreign) → same_text f.parent target ≡ false → None ≡ first_number (is_child_by given target keys f) rows
  by_none f away = none_passes (is_child_by given target keys f) rows (all_so (λ row. is_child_by given target keys f row ≡ false) (λ row. ap (λ (b : Bool). b && is_child_of given f keys row) away) rows)

  pub by_some : (f : Foreign) → same_text f.parent target ≡ true → first_number (is_child_of given f keys) rows ≡ first_number (is_child_by given target keys f) rows
  by_some f there = first_alike (is_child_of given f keys) (is_child_by given target keys f) (λ row. sym (ap (λ (b : Bool). b && is_child_of given f keys row) there)) rows

  pub foreigns_none : None ≡ first_number (is_child_in given target keys []) rows
  foreigns_none = none_passes (is_child_in given target keys []) rows (all_so (λ row. is_child_in given target keys [] row ≡ false) (λ row. refl) rows)

  pub foreigns_more : RisesFrom 0 rows → (fs : List Foreign) (i : ℕ) (f d : Foreign) → i < length fs → f ≡ get_or fs i d → (first found : Option ℕ)
      → first ≡ first_number (is_child_in given target keys (take i fs)) rows → found ≡ first_number (is_child_by given target keys f) rows
      → lower_of first found ≡ first_number (is_child_in given target keys (take (i + 1) fs)) rows
  foreigns_more rises fs i f d within is first found so_far one =
      (λ j. lower_of (so_far j) (one j))
      ∙ sym (first_alike (is_child_in given target keys (take (i + 1) fs)) (λ row. is_child_in given target keys (take i fs) row || is_child_by given target keys f row) next rows
      ∙ lower_or (is_child_in given target keys (take i fs)) (is_child_by given target keys f) 0 rows rises)
    where
      next : (row : TableRow) → is_child_in given target keys (take (i + 1) fs) row ≡ (is_child_in given target keys (take i fs) row || is_child_by given target keys f row)
      next row =
          ap (λ (l : List Foreign). is_child_in given target keys l row) (take_more fs i d within)
          ∙ list_any-append (λ (g : Foreign). is_child_by given target keys g row) (take i fs) (get_or fs i d ∷ [])
          ∙ ap (λ (b : Bool). is_child_in given target keys (take i fs) row || b) (or-false (is_child_by given target keys (get_or fs i d) row))
          ∙ ap (λ (g : Foreign). is_child_in given target keys (take i fs) row || is_child_by given target keys g row) (sym is)

-- ---- the row of a number

module _ (q : TableRow → Bool) (number : ℕ) where
  abbrev is_it : TableRow → Bool
  is_it row = (row.number == number) && q row

  in_option : (o : Option TableRow) (rows : List TableRow) → list_any is_it (cons_option o rows) ≡ (option_map_or is_it o false || list_any is_it rows)
  in_option None rows = refl
  in_option (Some row) rows = refl

  other_by : (n : ℕ) → (n ≡ number → ⊥) → (now : Option (List Value)) → option_map_or is_it (row_of n now) false ≡ false
  other_by n other None = refl
  other_by n other (Some values) = ap (λ (b : Bool). b && q (record { number = n; values = values })) (ne_eqb n number other)

  here_by : (n : ℕ) → n ≡ number → (now : Option (List Value)) → option_map_or is_it (row_of n now) false ≡ option_map_or q (row_of n now) false
  here_by n same None = refl
  here_by n same (Some values) = ap (λ (b : Bool). b && q (record { number = n; values = values })) (eq-eqb n number same)

  pub none_of_number : (slots : List RowHistory) → ((i : ℕ) → i < length slots → (get_or slots i no_history).number ≡ number → ⊥) → list_any is_it (rows_now slots) ≡ false
  none_of_number [] apart = refl
  none_of_number (h ∷ slots) apart =
      in_option (row_now h) (rows_now slots)
      ∙ (λ j. other_by h.number (apart 0 (omega arith)) (current_values h.changes) j || none_of_number slots (λ i below. apart (suc i) (omega (arith, below))) j)

  one_of_number : (slots : List RowHistory) (slot : ℕ) → slot < length slots → (get_or slots slot no_history).number ≡ number
      → ((i : ℕ) → i < length slots → (i ≡ slot → ⊥) → (get_or slots i no_history).number ≡ number → ⊥)
      → list_any is_it (rows_now slots) ≡ option_map_or q (row_now (get_or slots slot no_history)) false
  one_of_number [] slot within is apart = absurd (omega (arith, within))
  one_of_number (h ∷ slots) zero within is apart =
      in_option (row_now h) (rows_now slots)
      ∙ (λ j. here_by h.number is (current_values h.changes) j || none_of_number slots (λ i below. apart (suc i) (omega (arith, below)) (λ same. omega (arith, same))) j)
      ∙ or-false (option_map_or q (row_now h) false)
  one_of_number (h ∷ slots) (suc slot) within is apart =
      in_option (row_now h) (rows_now slots)
      ∙ (λ j. other_by h.number (apart 0 (omega arith) (λ same. omega (arith, same))) (current_values h.changes) j
      || one_of_number slots slot (omega (arith, within)) is (λ i below other. apart (suc i) (omega (arith, below)) (λ same. other (omega (arith, same)))) j)

  pub row_of_number : (slots : List RowHistory) (next slot : ℕ) → AreInOrder slots next → slot < length slots → (get_or slots slot no_history).number ≡ number
      → list_any is_it (rows_now slots) ≡ option_map_or q (row_now (get_or slots slot no_history)) false
  row_of_number slots next slot order within is = one_of_number slots slot within is (λ i below other same. elim (cases_lt i slot) [
    | inl low ↦ absurd (omega (arith, order.rising i slot low within, is, same))
    | inr from ↦ elim (cases_lt slot i) [
      | inl high ↦ absurd (omega (arith, order.rising slot i high below, is, same))
      | inr to ↦ other (omega (arith, from, to))
    ]
  ])

-- a given row is no child
pub given_no_child : (given : List ℕ) (f : Foreign) (key : List Value) (number : ℕ) → list_any (λ (g : ℕ). g == number) given ≡ true → (rows : List TableRow)
    → false ≡ list_any (λ (row : TableRow). (row.number == number) && is_child given f key row) rows
given_no_child given f key number is [] = refl
given_no_child given f key number is (row ∷ rows) = sym (λ j. one j || sym (given_no_child given f key number is rows) j)
  where
    one : ((row.number == number) && is_child given f key row) ≡ false
    one = elim (cases_Bool (row.number == number)) [
      | inl hit ↦
          let same : row.number ≡ number = eqb-true row.number number hit in
          let taken : is_among given row ≡ true = ap (λ (n : ℕ). list_any (λ (g : ℕ). g == n) given) same ∙ is in
          λ j. hit j && (not (taken j) && refers f key row)
      | inr miss ↦ λ j. miss j && is_child given f key row
    ]

pub child_not_given : (given : List ℕ) (f : Foreign) (key : List Value) (number : ℕ) → list_any (λ (g : ℕ). g == number) given ≡ false → (rows : List TableRow)
    → list_any (λ (row : TableRow). (row.number == number) && refers f key row) rows ≡ list_any (λ (row : TableRow). (row.number == number) && is_child given f key row) rows
child_not_given given f key number is [] = refl
child_not_given given f key number is (row ∷ rows) = λ j. one j || child_not_given given f key number is rows j
  where
    one : ((row.number == number) && refers f key row) ≡ ((row.number == number) && is_child given f key row)
    one = elim (cases_Bool (row.number == number)) [
      | inl hit ↦
          let same : row.number ≡ number = eqb-true row.number number hit in
          let other : is_among given row ≡ false = ap (λ (n : ℕ). list_any (λ (g : ℕ). g == n) given) same ∙ is in
          ap (λ (b : Bool). (row.number == number) && (not b && refers f key row)) (sym other)
      | inr miss ↦ (λ j. miss j && refers f key row) ∙ sym (λ j. miss j && is_child given f key row)
    ]

-- ---- the first child, by its number

some_first : {X Y : Type 0} (f : X → Option Y) (xs : List X) → is_some (first_some f xs) ≡ list_any (λ x. is_some (f x)) xs
some_first f [] = refl
some_first {Y = Y} f (x ∷ xs) = by (f x) ∙ ap (λ (b : Bool). is_some (f x) || b) (some_first f xs)
  where
    by : (o : Option Y) → is_some (option_or o (first_some f xs)) ≡ (is_some o || is_some (first_some f xs))
    by None = refl
    by (Some y) = refl

first_by_test : {X Y : Type 0} (g : X → Option Y) (p : X → Bool) → ((x : X) → is_some (g x) ≡ p x) → (xs : List X) → first_some g xs ≡ option_and_then g (find p xs)
first_by_test g p same [] = refl
first_by_test {X = X} {Y = Y} g p same (x ∷ xs) = by (p x) (same x) (first_by_test g p same xs)
  where
    over : (o : Option Y) → is_some o ≡ true → option_or o (first_some g xs) ≡ o
    over None none = absurd (true≢false (sym none))
    over (Some y) some = refl

    under : (o : Option Y) → is_some o ≡ false → option_or o (first_some g xs) ≡ first_some g xs
    under None none = refl
    under (Some y) some = absurd (true≢false some)

    by : (b : Bool) → is_some (g x) ≡ b → first_some g xs ≡ option_and_then g (find p xs) → option_or (g x) (first_some g xs) ≡ option_and_then g (cond b (Some x) (find p xs))
    by true some more = over (g x) some
    by false none more = under (g x) none ∙ more

module _ (target : List ℕ) (numbers : List ℕ) (set : BTreeSet RowKey) (h : TableHistory) where
  abbrev t : Table
  t = table_now h

  abbrev lost : List Value → Bool
  lost = in_set set

  abbrev test : TableRow → Bool
  test = is_child_in (given_in (is_table target t) numbers) target set.keys h.schema.foreign

  abbrev other : TableRow → Option Orphan
  other = orphan_in_other (is_among numbers) target lost t

  abbrev its_orphan : TableRow → List Value → Orphan
  its_orphan row key = record { table = h.name; row = row.number; key = key }

  by_ref : (f : Foreign) (row : TableRow) (o : Option (List Value))
      → is_some (orphan_by target lost (child_of t row) f o) ≡ (same_text f.parent target && list_any (λ (k : RowKey). option_map_or (λ own. same_values own k.values) o false) set.keys)
  by_ref f row None = sym (ap (λ (b : Bool). same_text f.parent target && b) (list_any-false set.keys) ∙ and-false (same_text f.parent target))
  by_ref f row (Some key) = by (same_text f.parent target && lost key)
    where
      by : (b : Bool) → is_some (if b then Some (its_orphan row key) else None) ≡ b
      by true = refl
      by false = refl

  abbrev by_any : TableRow → Foreign → Bool
  by_any row f = same_text f.parent target && list_any (λ (k : RowKey). refers f k.values row) set.keys

  in_row : (row : TableRow) → is_some (orphan_in_row target lost t row) ≡ list_any (by_any row) h.schema.foreign
  in_row row =
      some_first (λ (f : Foreign). orphan_by target lost (child_of t row) f (reference f row.values)) h.schema.foreign
      ∙ ap (λ (p : Foreign → Bool). list_any p h.schema.foreign) (λ j f. by_ref f row (reference f row.values) j)

  spread : (c : Bool) (row : TableRow) (fs : List Foreign)
      → (c && list_any (by_any row) fs) ≡ list_any (λ (f : Foreign). same_text f.parent target && (c && list_any (λ (k : RowKey). refers f k.values row) set.keys)) fs
  spread true row fs = refl
  spread false row [] = refl
  spread false row (f ∷ fs) = sym ((λ j. and-false (same_text f.parent target) j || sym (spread false row fs) j))

  if_some : (b : Bool) (o : Option Orphan) → is_some (if b then o else None) ≡ (b && is_some o)
  if_some true o = refl
  if_some false o = refl

  given_by : (own : Bool) (row : TableRow) → not (own && is_among numbers row) ≡ not (is_among (given_in own numbers) row)
  given_by true row = refl
  given_by false row = refl

  passes_is : (row : TableRow) → is_some (other row) ≡ test row
  passes_is row =
      if_some (is_other (is_among numbers) target t row) (orphan_in_row target lost t row)
      ∙ (λ j. given_by (is_table target t) row j && in_row row j)
      ∙ spread (not (is_among (given_in (is_table target t) numbers) row)) row h.schema.foreign

  whole : orphan_in_table (is_among numbers) target lost h ≡ option_and_then other (find test (rows_now h.slots))
  whole = sym (first_filtered other row_now h.slots) ∙ first_by_test other test passes_is (rows_now h.slots)

  pub no_child : None ≡ first_number test (rows_now h.slots) → None ≡ orphan_in_table (is_among numbers) target lost h
  no_child none = sym (whole ∙ by (find test (rows_now h.slots)) none)
    where
      by : (o : Option TableRow) → None ≡ option_map (λ (row : TableRow). row.number) o → option_and_then other o ≡ None
      by None is = refl
      by (Some row) is = absurd (none-some row.number is)

  pub one_child : (next : ℕ) → AreInOrder h.slots next → (number : ℕ) → Some number ≡ first_number test (rows_now h.slots)
      → option_and_then (λ (slot : ℕ). orphan_in_slot (is_among numbers) target lost t (get_or h.slots slot no_history)) (slot_of_row number h.slots)
      ≡ orphan_in_table (is_among numbers) target lost h
  one_child next order number named =
      sym (whole
      ∙ ap (option_and_then other) (slot-has h.slots next order test number named (slot_of_row number h.slots) refl)
      ∙ by (slot_of_row number h.slots))
    where
      by : (o : Option ℕ) → option_and_then other (option_and_then (λ (slot : ℕ). row_now (get_or h.slots slot no_history)) o)
          ≡ option_and_then (λ (slot : ℕ). orphan_in_slot (is_among numbers) target lost t (get_or h.slots slot no_history)) o
      by None = refl
      by (Some slot) = refl

pub given_sorted : (own : Bool) (numbers : List ℕ) → are_sorted_numbers numbers ≡ true → are_sorted_numbers (given_in own numbers) ≡ true
given_sorted true numbers sorted = sorted
given_sorted false numbers sorted = refl

-- ---- where no row refers to a key

-- no number under any key
abbrev pub HaveNone : Pairs → Type 0
HaveNone pairs = (place : ℕ) (key : List Value) (number : ℕ) → pairs place key number ≡ false

module _ (given target : List ℕ) (keys : List RowKey) (row : TableRow) where
  abbrev is_one : Option (List Value) → Bool
  is_one o = list_any (λ (key : RowKey). option_map_or (λ own. same_values own key.values) o false) keys

  -- by a foreign key by which the row refers to none
  none_by : (f : Foreign) → reference f row.values ≡ None → is_child_by given target keys f row ≡ false
  none_by f is =
      ap (λ (b : Bool). same_text f.parent target && (not (is_among given row) && b))
      (ap is_one is ∙ list_any-false keys)
      ∙ ap (λ (b : Bool). same_text f.parent target && b) (and-false (not (is_among given row)))
      ∙ and-false (same_text f.parent target)

  -- by one foreign key, if its keys have no row
  none_at_key : (at : List Value → Bool) → ((key : List Value) → at key ≡ false)
      → (f : Foreign) (o : Option (List Value)) → reference f row.values ≡ o
      → IfSome o (λ key. at key ≡ true) → is_child_by given target keys f row ≡ false
  none_at_key at none f None is pair = none_by f is
  none_at_key at none f (Some key) is pair = absurd (true≢false (sym pair ∙ none key))

  none_in : (pairs : Pairs) → HaveNone pairs → (fs : List Foreign) → IsReferred pairs fs row
      → is_child_in given target keys fs row ≡ false
  none_in pairs none [] there = refl
  none_in pairs none (f ∷ fs) there = λ j.
      none_at_key (λ key. pairs 0 key row.number) (λ key. none 0 key row.number) f (reference f row.values)
      refl (there 0 (omega arith)) j
      || none_in (λ place. pairs (suc place)) (λ place. none (suc place)) fs
      (λ place within. there (suc place) (omega (arith, within))) j

pub none_referred : (pairs : Pairs) → HaveNone pairs → (fs : List Foreign) (rows : List TableRow)
    → AreReferred pairs fs rows → (given target : List ℕ) (keys : List RowKey)
    → None ≡ first_number (is_child_in given target keys fs) rows
none_referred pairs none fs rows there given target keys =
    none_passes (is_child_in given target keys fs) rows
    (all-weaker (IsReferred pairs fs) (λ row. is_child_in given target keys fs row ≡ false)
    (λ row its. none_in given target keys row pairs none fs its) rows there)
