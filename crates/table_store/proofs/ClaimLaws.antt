-- New rows after the live ones, and their keys.
use Rattle.std.proofs.Common.{◌≡◌, ◌==◌, ℕ, zero, suc, ◌+◌, ◌<◌, ◌≤◌, Bool, true, false, cond, ◌&&◌, List, [], ◌∷◌, ◌++◌, length, get_or, take, drop, refl, ap, sym, subst, ◌∙◌, arith, Option, Some, None, eq-eqb, append_assoc, add-one, drop-cons}
use Rattle.std.specs.Prelude.{find, if◌then◌else◌, Result, Ok, Err, OnOk}
use Rattle.std.specs.Option.{option_map, option_or}
use Rattle.std.specs.BTreeMap.{is_at}
use Rattle.std.proofs.lemmas.Bool.{ne_eqb, eqb-true}
use Rattle.std.proofs.lemmas.List.{take_more, length-take-le, drop_all}
use Rattle.std.proofs.lemmas.List.Folds.{find-append}
use Rattle.sql_model.specs.Changes.{KeyClash, clash_or, clash_after, clash_by, numbered_rows}
use Rattle.sql_model.specs.KeyOrder.{key_order}
use Rattle.sql_model.specs.Keys.{same_values, values_at, key_at}
use Rattle.sql_model.specs.References.{has_key}
use Rattle.table_store.specs.Types.{Value, RowKey, TableRow}
use Rattle.table_store.specs.Claims.{claim_stop, taken_stop, old_number}
use Rattle.table_store.specs.Histories.{RowHistory, rows_now}
use Rattle.table_store.specs.KeyIndex.{HeldKeys, AreHeld, AreIndexed}
use Rattle.table_store.specs.RowOrder.{AreInOrder}
use Rattle.table_store.specs.Stops.{StopsAs}
use Rattle.table_store.specs.declared.error.StoreStop.{StoreStop}
use Rattle.table_store.specs.declared.error.StoreStop.TheVariants.{NotNull, KeyTaken, Full, NoParent, HasChild, NoMemory}
use Rattle.table_store.proofs.IndexLaws.{no_slot_has, held_pushed, still_held}

-- ---- numbered rows

module _ (places : List ℕ) (k : List Value) (number : ℕ) where
  abbrev has_it : TableRow → Bool
  has_it row = (row.number == number) && has_key places k row

  pub numbered_below : (next : ℕ) (rows : List (List Value)) → number < next → find has_it (numbered_rows next rows) ≡ None
  numbered_below next [] below = refl
  numbered_below next (values ∷ rows) below =
      ap (λ b. cond (b && has_key places k (record { number = next; values = values })) (Some (record { number = next; values = values })) (find has_it (numbered_rows (next + 1) rows))) (ne_eqb next number (omega (arith, below)))
      ∙ numbered_below (next + 1) rows (omega (arith, below))

  pub numbered_past : (next : ℕ) (rows : List (List Value)) → next + length rows ≤ number → find has_it (numbered_rows next rows) ≡ None
  numbered_past next [] past = refl
  numbered_past next (values ∷ rows) past =
      ap (λ b. cond (b && has_key places k (record { number = next; values = values })) (Some (record { number = next; values = values })) (find has_it (numbered_rows (next + 1) rows))) (ne_eqb next number (omega (arith, past)))
      ∙ numbered_past (next + 1) rows (omega (arith, past))

  pub numbered_here : (next at : ℕ) (rows : List (List Value)) → at < length rows → number ≡ next + at
      → option_map (λ (row : TableRow). row.number) (find has_it (numbered_rows next rows)) ≡ (if same_values (values_at places (get_or rows at [])) k then Some number else None)
  numbered_here next at [] within is = absurd (omega (arith, within))
  numbered_here next zero (values ∷ rows) within is =
      let row : TableRow = record { number = next; values = values } in
      let same : next ≡ number = omega (arith, is) in
      ap (λ b. option_map (λ (row : TableRow). row.number) (cond (b && has_key places k row) (Some row) (find has_it (numbered_rows (next + 1) rows)))) (eq-eqb next number same)
      ∙ ap (λ (o : Option TableRow). option_map (λ (row : TableRow). row.number) (cond (has_key places k row) (Some row) o)) (numbered_below (next + 1) rows (omega (arith, same)))
      ∙ by (has_key places k row) ∙ ap (λ (n : ℕ). if has_key places k row then Some n else None) same where
        by : (b : Bool) → option_map (λ (row : TableRow). row.number) (cond b (Some (record { number = next; values = values })) None) ≡ (if b then Some next else None)
        by true = refl
        by false = refl
  numbered_here next (suc at) (values ∷ rows) within is =
      ap (λ b. option_map (λ (row : TableRow). row.number) (cond (b && has_key places k (record { number = next; values = values })) (Some (record { number = next; values = values })) (find has_it (numbered_rows (next + 1) rows)))) (ne_eqb next number (omega (arith, is)))
      ∙ numbered_here (next + 1) at rows (omega (arith, within)) (omega (arith, is))

  or_none : (o : Option TableRow) → option_or o None ≡ o
  or_none None = refl
  or_none (Some row) = refl

  -- an old number is no new row's
  pub found_old : (next : ℕ) (rows : List TableRow) (more : List (List Value)) → number < next → find has_it (rows ++ numbered_rows next more) ≡ find has_it rows
  found_old next rows more below = find-append has_it rows (numbered_rows next more) ∙ ap (option_or (find has_it rows)) (numbered_below next more below) ∙ or_none (find has_it rows)

  -- a new number is no old row's
  pub found_new : (next : ℕ) (slots : List RowHistory) (more : List (List Value)) → AreInOrder slots next → next ≤ number → find has_it (rows_now slots ++ numbered_rows next more) ≡ find has_it (numbered_rows next more)
  found_new next slots more order from =
      find-append has_it (rows_now slots) (numbered_rows next more)
      ∙ ap (λ (o : Option TableRow). option_or o (find has_it (numbered_rows next more))) (no_slot_has places k number slots (λ i below same. absurd (omega (arith, order.below i below, same, from))))

pub numbered_more : (next : ℕ) (rows : List (List Value)) (values : List Value) → numbered_rows next (rows ++ values ∷ []) ≡ numbered_rows next rows ++ record { number = next + length rows; values = values } ∷ []
numbered_more next [] values = ap (λ (n : ℕ). record { number = n; values = values } ∷ []) (omega arith)
numbered_more next (first ∷ rows) values =
    ap (λ (l : List TableRow). record { number = next; values = first } ∷ l)
    (numbered_more (next + 1) rows values ∙ ap (λ (n : ℕ). numbered_rows (next + 1) rows ++ record { number = n; values = values } ∷ []) (omega arith))

-- ---- answers

pub none_from : (o : Option TableRow) → option_map (λ (row : TableRow). row.number) o ≡ None → o ≡ None
none_from None is = refl
none_from (Some row) is = cc

pub taken_none : (places : List ℕ) (next : ℕ) (values : List Value) (o : Option TableRow) → option_map (λ (row : TableRow). row.number) o ≡ None → taken_stop places next values o ≡ None
taken_none places next values None is = refl
taken_none places next values (Some row) is = cc

pub taken_some : (places : List ℕ) (next number : ℕ) (values : List Value) (o : Option TableRow) → option_map (λ (row : TableRow). row.number) o ≡ Some number
    → taken_stop places next values o ≡ Some (KeyTaken (old_number next number) None (values_at places values))
taken_some places next number values None is = cc
taken_some places next number values (Some row) is =
    let same : row.number ≡ number = some_is is in
    ap (λ (n : ℕ). Some (KeyTaken (old_number next n) None (values_at places values))) same where
      some_is : {a b : ℕ} → Some a ≡ Some b → a ≡ b
      some_is same = cc

-- a refusal that stays one
pub stop_kept : (X Y : Type 0) (due more : Option StoreStop) (stop : StoreStop) → ((is : StoreStop) → due ≡ Some is → more ≡ Some is) → StopsAs {X = X} due (Err stop) → StopsAs {X = Y} more (Err stop)
stop_kept X Y due more NoMemory stays is = tt
stop_kept X Y due more NotNull stays is = stays NotNull is
stop_kept X Y due more (KeyTaken earlier later key) stays is = stays (KeyTaken earlier later key) is
stop_kept X Y due more Full stays is = stays Full is
stop_kept X Y due more (NoParent table key) stays is = stays (NoParent table key) is
stop_kept X Y due more (HasChild table row key) stays is = stays (HasChild table row key) is

-- a refusal that is due
pub stop_due : (X : Type 0) (stop : StoreStop) → StopsAs {X = X} (Some stop) (Err stop)
stop_due X NoMemory = tt
stop_due X NotNull = refl
stop_due X (KeyTaken earlier later key) = refl
stop_due X Full = refl
stop_due X (NoParent table key) = refl
stop_due X (HasChild table row key) = refl

-- a first refusal that is due, whatever comes after it
pub stop_before : (X Y : Type 0) (due later : Option StoreStop) (stop : StoreStop) → StopsAs {X = X} due (Err stop) → StopsAs {X = Y} (option_or due later) (Err stop)
stop_before X Y due later stop = stop_kept X Y due (option_or due later) stop (λ is same. ap (λ (o : Option StoreStop). option_or o later) same)

-- a later one, where there is no first
pub stop_later : (X : Type 0) (due later : Option StoreStop) (stop : StoreStop) → due ≡ None → later ≡ Some stop → StopsAs {X = X} (option_or due later) (Err stop)
stop_later X due later stop none is =
    subst (λ (o : Option StoreStop). StopsAs {X = X} o (Err stop)) (sym (ap (λ (o : Option StoreStop). option_or o later) none ∙ is)) (stop_due X stop)

pub claim_taken : (places : List ℕ) (next : ℕ) (row : TableRow) (o : Option TableRow) (rest : Option KeyClash) (stop : StoreStop)
    → StopsAs {X = Unit {0}} (taken_stop places next row.values o) (Err stop) → StopsAs {X = Unit {0}} (claim_stop places next (clash_or o row rest)) (Err stop)
claim_taken places next row o rest stop =
    stop_kept (Unit {0}) (Unit {0}) (taken_stop places next row.values o) (claim_stop places next (clash_or o row rest)) stop (by o)
  where
    by : (o : Option TableRow) (is : StoreStop) → taken_stop places next row.values o ≡ Some is → claim_stop places next (clash_or o row rest) ≡ Some is
    by None is due = cc
    by (Some other) is due = due

pub not_taken : (places : List ℕ) (next : ℕ) (values : List Value) (o : Option TableRow) → taken_stop places next values o ≡ None → o ≡ None
not_taken places next values None is = refl
not_taken places next values (Some row) is = cc

-- ---- rows that are held

pub held_front : (places : List ℕ) (held : HeldKeys) (xs ys : List TableRow) → AreHeld places held (xs ++ ys) → AreHeld places held xs
held_front places held [] ys are = tt
held_front places held (x ∷ xs) ys are = (are.0, held_front places held xs ys are.1)

pub held_same : (places : List ℕ) (old new : HeldKeys) (rows : List TableRow) → ((q : RowKey) → new q ≡ old q) → AreHeld places old rows → AreHeld places new rows
held_same places old new [] same are = tt
held_same places old new (row ∷ rows) same are = (same (key_at places row.values) ∙ are.0, held_same places old new rows same are.1)

-- ---- one new row

module _ (places : List ℕ) (next : ℕ) (rows : List TableRow) (values : List (List Value)) (count : ℕ) (within : count < length values) where
  pub new_more : rows ++ numbered_rows next (take (count + 1) values) ≡ (rows ++ numbered_rows next (take count values)) ++ record { number = next + count; values = get_or values count [] } ∷ []
  new_more =
      ap (λ (l : List (List Value)). rows ++ numbered_rows next l) (take_more values count [] within)
      ∙ ap (λ (l : List TableRow). rows ++ l) (numbered_more next (take count values) (get_or values count []))
      ∙ ap (λ (n : ℕ). rows ++ (numbered_rows next (take count values) ++ record { number = next + n; values = get_or values count [] } ∷ [])) (length-take-le count values (omega (arith, within)))
      ∙ sym (append_assoc rows (numbered_rows next (take count values)) (record { number = next + count; values = get_or values count [] } ∷ []))

  module _ (old new : HeldKeys) (k : RowKey) (same : k ≡ key_at places (get_or values count [])) (put : (q : RowKey) → new q ≡ cond (is_at (key_order k) q) (Some (next + count)) (old q))
      (are : AreHeld places old (rows ++ numbered_rows next (take count values))) (none : find (has_key places (values_at places (get_or values count []))) (rows ++ numbered_rows next (take count values)) ≡ None) where
    put_at : (q : RowKey) → new q ≡ cond (is_at (key_order (key_at places (get_or values count []))) q) (Some (next + count)) (old q)
    put_at q = put q ∙ ap (λ (one : RowKey). cond (is_at (key_order one) q) (Some (next + count)) (old q)) same

    pub put_kept : AreHeld places new (rows ++ numbered_rows next (take count values))
    put_kept = still_held places old new (key_at places (get_or values count [])) (next + count) (rows ++ numbered_rows next (take count values)) put_at are none

    pub put_more : AreHeld places new (rows ++ numbered_rows next (take (count + 1) values))
    put_more = subst (λ (l : List TableRow). AreHeld places new l) (sym new_more) (held_pushed places old new (record { number = next + count; values = get_or values count [] }) (rows ++ numbered_rows next (take count values)) put_at are none)

  drop_here : drop count values ≡ get_or values count [] ∷ drop (count + 1) values
  drop_here = rw add-one (drop-cons values count [] within)

  -- the clash of what is left, by that of the next row
  pub left_clash : clash_after places (rows ++ numbered_rows next (take count values)) (numbered_rows (next + count) (drop count values))
      ≡ clash_or (find (has_key places (values_at places (get_or values count []))) (rows ++ numbered_rows next (take count values))) (record { number = next + count; values = get_or values count [] })
      (clash_after places (rows ++ numbered_rows next (take (count + 1) values)) (numbered_rows (next + (count + 1)) (drop (count + 1) values)))
  left_clash =
      let shift : next + count + 1 ≡ next + (count + 1) = omega arith in
      ap (λ (l : List (List Value)). clash_after places (rows ++ numbered_rows next (take count values)) (numbered_rows (next + count) l)) drop_here
      ∙ ap (λ (l : List TableRow). clash_or (find (has_key places (values_at places (get_or values count []))) (rows ++ numbered_rows next (take count values))) (record { number = next + count; values = get_or values count [] })
      (clash_after places l (numbered_rows (next + count + 1) (drop (count + 1) values)))) (sym new_more)
      ∙ ap (λ (n : ℕ). clash_or (find (has_key places (values_at places (get_or values count []))) (rows ++ numbered_rows next (take count values))) (record { number = next + count; values = get_or values count [] })
      (clash_after places (rows ++ numbered_rows next (take (count + 1) values)) (numbered_rows n (drop (count + 1) values)))) shift

-- ---- with a key

pub keyed_held : (places : List ℕ) (held : HeldKeys) (rows : List TableRow) → (length places == 0) ≡ false → AreIndexed places held rows → AreHeld places held rows
keyed_held [] held rows keyed are = cc
keyed_held (place ∷ places) held rows keyed are = are

pub keyed_clash : (places : List ℕ) (rows : List TableRow) → (length places == 0) ≡ false → clash_by places rows ≡ clash_after places [] rows
keyed_clash [] rows keyed = cc
keyed_clash (place ∷ places) rows keyed = refl

pub unkeyed_clash : (places : List ℕ) (rows : List TableRow) → (length places == 0) ≡ true → clash_by places rows ≡ None
unkeyed_clash [] rows none = refl
unkeyed_clash (place ∷ places) rows none = absurd (omega (arith, eqb-true (length (place ∷ places)) 0 none))

-- the first of two that refuses
pub stop_first : (X Y : Type 0) (a b : Option StoreStop) (stop : StoreStop) → StopsAs {X = X} a (Err stop) → StopsAs {X = Y} (option_or a b) (Err stop)
stop_first X Y a b stop = stop_kept X Y a (option_or a b) stop (by a)
  where
    by : (o : Option StoreStop) (is : StoreStop) → o ≡ Some is → option_or o b ≡ Some is
    by None is due = cc
    by (Some one) is due = due

pub on_ok : {X E : Type 0} (P Q : Type 0) (r : Result X E) → (P → Q) → OnOk r P → OnOk r Q
on_ok P Q (Ok x) to holds = to holds
on_ok P Q (Err e) to holds = tt

pub clash_after-none : (places : List ℕ) (rows : List TableRow) (next : ℕ) (values : List (List Value)) (count : ℕ) → length values ≤ count → clash_after places rows (numbered_rows next (drop count values)) ≡ None
clash_after-none places rows next values count past = ap (λ (l : List (List Value)). clash_after places rows (numbered_rows next l)) (drop_all count values past)
