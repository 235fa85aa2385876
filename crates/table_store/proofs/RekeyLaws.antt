-- Keys of rows after others have replaced some of them.
use Rattle.std.proofs.Common.{◌≡◌, ◌==◌, ℕ, zero, suc, ◌<◌, ◌≤◌, inl, inr, true, false, cond, List, [], ◌∷◌, ◌++◌, map, length, get_or, refl, ap, sym, subst, ◌∙◌, arith, Option, Some, None, eq-eqb}
use Rattle.std.specs.Prelude.{find, IfOk, Result, Ok, Err, nat_lt, unwrap_or, slice_get, if◌then◌else◌}
use Rattle.std.specs.List.{list_any}
use Rattle.std.specs.Option.{option_map, option_or}
use Rattle.std.specs.List.Sorted.{IsPartitionedBy}
use Rattle.std.specs.Ordering.{is_eq}
use Rattle.std.specs.BTreeMap.{is_at}
use Rattle.std.proofs.lemmas.Bool.{cases_Bool, cases_lt, ne_eqb, ltb-true, lt-ltb}
use Rattle.std.proofs.lemmas.List.Folds.{find-append}
use Rattle.ldv_value.proofs.Orderings.{is_eq-true}
use Rattle.ldv_value.proofs.Booleans.{and-parts}
use Rattle.sql_model.specs.Changes.{KeyClash, key_clash, clash_after, clash_by, has_null}
use Rattle.sql_model.specs.KeyOrder.{key_order, key_order_total}
use Rattle.sql_model.specs.Keys.{same_values, values_at, key_at}
use Rattle.sql_model.specs.References.{has_key}
use Rattle.sql_model.proofs.SameValues.{same_turned}
use Rattle.ldv_value.specs.Sorted.{precedes_first}
use Rattle.ldv_value.proofs.Options.{option_or-none}
use Rattle.table_store.specs.Types.{Value, RowKey, Table, TableRow}
use Rattle.table_store.specs.Claims.{IsIndexOf, both_stop}
use Rattle.table_store.specs.Histories.{TableHistory, rows_now, table_now}
use Rattle.table_store.specs.KeyIndex.{row_of_key, HeldKeys}
use Rattle.table_store.specs.Stops.{replaced_by, with_replaced, are_sorted_rows, key_stop, stop_if, replace_stop, StopsAs}
use Rattle.table_store.specs.declared.error.StoreStop.{StoreStop}
use Rattle.table_store.specs.declared.error.StoreStop.TheVariants.{NotNull, KeyTaken}
use Rattle.table_store.proofs.IndexLaws.{key, held_pushed}
use Rattle.table_store.proofs.ClaimLaws.{keyed_clash, unkeyed_clash, stop_kept}
use Rattle.table_store.proofs.InsertLaws.{AllRows, clash_all, any_self}
use Rattle.table_store.proofs.TableLaws.{number_found}

-- ---- the same key

alike_left : (k q : List Value) → same_values k q ≡ true → (x : List Value) → same_values k x ≡ same_values q x
alike_left k q same x = ap is_eq (key_order_total.congr (key k) (key q) (key x) (is_eq-true (key_order (key k) (key q)) same))

alike_right : (k q : List Value) → same_values k q ≡ true → (x : List Value) → same_values x k ≡ same_values x q
alike_right k q same x = same_turned x k ∙ alike_left k q same x ∙ same_turned q x

find_alike : (places : List ℕ) (k q : List Value) → same_values k q ≡ true → (rows : List TableRow) → find (has_key places k) rows ≡ find (has_key places q) rows
find_alike places k q same [] = refl
find_alike places k q same (row ∷ rows) = λ j. cond (alike_right k q same (values_at places row.values) j) (Some row) (find_alike places k q same rows j)

-- ---- an index of just these rows

pub index_none : (places : List ℕ) (held : HeldKeys) → ((q : RowKey) → held q ≡ None) → IsIndexOf places held []
index_none places held none = record { each = tt; only = none }

pub index_more : (places : List ℕ) (old new : HeldKeys) (row : TableRow) (rows : List TableRow) → IsIndexOf places old rows → row_of_key places (values_at places row.values) rows ≡ None
    → ((q : RowKey) → new q ≡ cond (is_at (key_order (key_at places row.values)) q) (Some row.number) (old q)) → IsIndexOf places new (rows ++ row ∷ [])
index_more places old new row rows index none put = record {
  each = held_pushed places old new row rows put index.each none;
  only = λ q. elim (cases_Bool (same_values (values_at places row.values) q.values)) [
    | inl same ↦
        let gone : find (has_key places q.values) rows ≡ None = sym (find_alike places (values_at places row.values) q.values same rows) ∙ none in
        put q ∙ ap (λ b. cond b (Some row.number) (old q)) same
        ∙ sym (ap (option_map (λ (one : TableRow). one.number))
        (find-append (has_key places q.values) rows (row ∷ []) ∙ ap (λ (o : Option TableRow). option_or o (find (has_key places q.values) (row ∷ []))) gone ∙ ap (λ b. cond b (Some row) None) same))
    | inr apart ↦
        put q ∙ ap (λ b. cond b (Some row.number) (old q)) apart ∙ index.only q
        ∙ sym (ap (option_map (λ (one : TableRow). one.number))
        (find-append (has_key places q.values) rows (row ∷ []) ∙ ap (λ b. option_or (find (has_key places q.values) rows) (cond b (Some row) None)) apart ∙ option_or-none (find (has_key places q.values) rows)))
  ];
}

pub stop_as : (X Y : Type 0) (due : Option StoreStop) (stop : StoreStop) → StopsAs {X = X} due (Err stop) → StopsAs {X = Y} due (Err stop)
stop_as X Y due stop = stop_kept X Y due due stop (λ is same. same)

-- ---- rows that others take the place of

module _ (given : List TableRow) where
  pub number_kept : (row : TableRow) → (replaced_by given row).number ≡ row.number
  number_kept row = by (find (λ new. new.number == row.number) given) refl where
    by : (o : Option TableRow) → find (λ new. new.number == row.number) given ≡ o → (unwrap_or o row).number ≡ row.number
    by None is = refl
    by (Some new) is = number_found row.number given new is

-- ---- the given row of a number

abbrev pub at_number : ℕ → Option TableRow → Option TableRow
at_number number None = None
at_number number (Some row) = cond (row.number == number) (Some row) None

above_none : (number : ℕ) (row : TableRow) (rows : List TableRow) → number < row.number → are_sorted_rows (row ∷ rows) ≡ true → find (λ new. new.number == number) rows ≡ None
above_none number row [] above sorted = refl
above_none number row (next ∷ rows) above sorted =
    let both = and-parts (nat_lt row.number next.number) (are_sorted_rows (next ∷ rows)) sorted in
    let higher : row.number < next.number = ltb-true row.number next.number both.0 in
    ap (λ b. cond b (Some next) (find (λ new. new.number == number) rows)) (ne_eqb next.number number (omega (arith, above, higher)))
    ∙ above_none number next rows (omega (arith, above, higher)) both.1

pub given_found : (number : ℕ) (rows : List TableRow) (place : ℕ) → are_sorted_rows rows ≡ true → ((k : ℕ) (d : TableRow) → k < place → nat_lt (get_or rows k d).number number ≡ true)
    → ((k : ℕ) (d : TableRow) → place ≤ k → k < length rows → nat_lt (get_or rows k d).number number ≡ false) → find (λ new. new.number == number) rows ≡ at_number number (slice_get rows place)
given_found number [] place sorted before after = refl
given_found number (row ∷ rows) zero sorted before after = elim (cases_Bool (row.number == number)) [
  | inl hit ↦ (λ j. cond (hit j) (Some row) (find (λ new. new.number == number) rows)) ∙ sym (ap (λ b. cond b (Some row) None) hit)
  | inr miss ↦
      let from : number ≤ row.number = not_below row.number number (after 0 row (omega arith) (omega arith)) in
      let above : number < row.number = elim (cases_lt number row.number) [
        | inl less ↦ less
        | inr to ↦ let wrong : true ≡ false = sym (eq-eqb row.number number (omega (arith, from, to))) ∙ miss in absurd cc
      ] in
      ap (λ b. cond b (Some row) (find (λ new. new.number == number) rows)) miss ∙ above_none number row rows above sorted ∙ sym (ap (λ b. cond b (Some row) None) miss)
] where
  not_below : (a b : ℕ) → nat_lt a b ≡ false → b ≤ a
  not_below a b is = elim (cases_lt a b) [
    | inl less ↦ let wrong : true ≡ false = sym (lt-ltb a b less) ∙ is in absurd cc
    | inr from ↦ from
  ]
given_found number (row ∷ rows) (suc place) sorted before after =
    let both = and-parts (precedes_first (λ (a b : TableRow). nat_lt a.number b.number) row rows) (are_sorted_rows rows) sorted in
    let less : row.number < number = ltb-true row.number number (before 0 row (omega arith)) in
    ap (λ b. cond b (Some row) (find (λ new. new.number == number) rows)) (ne_eqb row.number number (omega (arith, less)))
    ∙ given_found number rows place both.1 (λ k d below. before (suc k) d (omega (arith, below))) (λ k d from below. after (suc k) d (omega (arith, from)) (omega (arith, below)))

-- ---- results

pub if_ok : {X E : Type 0} (P Q : X → Type 0) (r : Result X E) → ((x : X) → P x → Q x) → IfOk r P → IfOk r Q
if_ok P Q (Ok x) to holds = to x holds
if_ok P Q (Err e) to holds = tt

-- ---- both rows of a clash stood before

module _ (table : Table) (given : List TableRow) where
  abbrev Stood : TableRow → Type 0
  Stood row = list_any (λ old. old.number == row.number) table.rows ≡ true

  then_stood : (rows : List TableRow) → AllRows (λ row. list_any (λ old. old.number == row.number) table.rows ≡ true) rows → AllRows (λ row. list_any (λ old. old.number == row.number) table.rows ≡ true) (map (replaced_by given) rows)
  then_stood [] all = tt
  then_stood (row ∷ rows) all =
      (subst (λ (n : ℕ). list_any (λ old. old.number == n) table.rows ≡ true) (sym (number_kept given row)) all.0, then_stood rows all.1)

  key_by : (clash : Option KeyClash) → clash_after table.schema.key [] (map (replaced_by given) table.rows) ≡ clash → key_stop table clash ≡ both_stop table.schema.key clash
  key_by None is = refl
  key_by (Some clash) is =
      let stood = then_stood table.rows (any_self table.rows) in
      let both = clash_all (λ row. list_any (λ old. old.number == row.number) table.rows ≡ true) (λ row. list_any (λ old. old.number == row.number) table.rows ≡ true) table.schema.key [] (map (replaced_by given) table.rows) tt stood stood clash is in
      λ j. Some (KeyTaken (if both.0 j then Some clash.earlier.number else None) (if both.1 j then Some clash.later.number else None) (values_at table.schema.key clash.later.values))

  pub key_both : key_stop table (clash_by table.schema.key (map (replaced_by given) table.rows)) ≡ both_stop table.schema.key (clash_by table.schema.key (map (replaced_by given) table.rows))
  key_both = elim (cases_Bool (length table.schema.key == 0)) [
    | inl none ↦
        let is : clash_by table.schema.key (map (replaced_by given) table.rows) ≡ None = unkeyed_clash table.schema.key (map (replaced_by given) table.rows) none in
        ap (key_stop table) is ∙ sym (ap (both_stop table.schema.key) is)
    | inr some ↦
        let is : clash_by table.schema.key (map (replaced_by given) table.rows) ≡ clash_after table.schema.key [] (map (replaced_by given) table.rows) = keyed_clash table.schema.key (map (replaced_by given) table.rows) some in
        ap (key_stop table) is ∙ key_by (clash_after table.schema.key [] (map (replaced_by given) table.rows)) refl ∙ sym (ap (both_stop table.schema.key) is)
  ]

-- the smaller numbers come first
pub given_parted : (number : ℕ) (rows : List TableRow) → are_sorted_rows rows ≡ true → IsPartitionedBy (λ (row : TableRow). nat_lt row.number number) rows
given_parted number rows sorted i j d to within below = lt-ltb (get_or rows i d).number number (omega (arith, at_most rows sorted i j d to within, ltb-true (get_or rows j d).number number below)) where
  first_most : (row : TableRow) (some : List TableRow) → are_sorted_rows (row ∷ some) ≡ true → (k : ℕ) (e : TableRow) → k < length some → row.number ≤ (get_or some k e).number
  first_most row [] ok k e inside = absurd (omega (arith, inside))
  first_most row (next ∷ some) ok zero e inside = let both = and-parts (nat_lt row.number next.number) (are_sorted_rows (next ∷ some)) ok in omega (arith, ltb-true row.number next.number both.0)
  first_most row (next ∷ some) ok (suc k) e inside =
      let both = and-parts (nat_lt row.number next.number) (are_sorted_rows (next ∷ some)) ok in
      omega (arith, ltb-true row.number next.number both.0, first_most next some both.1 k e (omega (arith, inside)))

  at_most : (some : List TableRow) → are_sorted_rows some ≡ true → (a b : ℕ) (e : TableRow) → a ≤ b → b < length some → (get_or some a e).number ≤ (get_or some b e).number
  at_most [] ok a b e up inside = absurd (omega (arith, inside))
  at_most (row ∷ some) ok zero zero e up inside = omega arith
  at_most (row ∷ some) ok zero (suc b) e up inside = first_most row some ok b e (omega (arith, inside))
  at_most (row ∷ some) ok (suc a) zero e up inside = absurd (omega (arith, up))
  at_most (row ∷ some) ok (suc a) (suc b) e up inside =
      at_most some (and-parts (precedes_first (λ (x y : TableRow). nat_lt x.number y.number) row some) (are_sorted_rows some) ok).1 a b e (omega (arith, up)) (omega (arith, inside))

-- what refuses other values of rows
pub replace_stop_is : (rows : List TableRow) (t : TableHistory) → list_any (has_null t.schema.columns) rows ≡ false
    → replace_stop rows (table_now t) ≡ both_stop t.schema.key (clash_by t.schema.key (map (replaced_by rows) (rows_now t.slots)))
replace_stop_is rows t is =
    ap (λ b. option_or (stop_if b NotNull) (key_stop (table_now t) (key_clash (with_replaced rows (table_now t))))) is ∙ key_both (table_now t) rows
