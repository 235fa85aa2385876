-- Keys of new rows, apart from the index.
use Rattle.std.proofs.Common.{◌≡◌, ◌==◌, ℕ, zero, suc, ◌+◌, ◌<◌, ◌≤◌, inl, inr, Bool, true, false, cond, List, [], ◌∷◌, ◌++◌, length, get_or, take, refl, ap, sym, subst, ◌∙◌, arith, Option, Some, None}
use Rattle.std.specs.Prelude.{find, IfSome, IsSome, OnOk, OnErr, Result, Ok, Err, ◌^◌, nat_lt}
use Rattle.std.specs.List.{AllByRecursion, list_any}
use Rattle.ldv_value.specs.Limits.{max_next}
use Rattle.std.specs.Option.{option_map, option_or}
use Rattle.std.specs.BTreeMap.{is_at}
use Rattle.std.proofs.lemmas.Bool.{cases_Bool, lt-ltb, le-ltb, ltb-false}
use Rattle.std.proofs.lemmas.List.{take_more, length-take-le}
use Rattle.std.proofs.lemmas.List.Folds.{find-append}
use Rattle.sql_model.specs.Changes.{has_null, key_clash, numbered_rows}
use Rattle.sql_model.specs.KeyOrder.{key_order}
use Rattle.sql_model.specs.Keys.{values_at, key_at}
use Rattle.sql_model.specs.References.{has_key}
use Rattle.sql_model.proofs.SameValues.{same_exact}
use Rattle.table_store.specs.Types.{Value, RowKey, Table, TableRow}
use Rattle.table_store.specs.Claims.{taken_stop, old_number, IsIndexOf}
use Rattle.table_store.specs.NewKeys.{new_in, numbers_from, IsFree, AreClaimed, AreNewKeys, AddsKey}
use Rattle.table_store.specs.Histories.{RowHistory, rows_now}
use Rattle.table_store.specs.KeyIndex.{HeldKeys, AreHeld, AreIndexed, row_of_key}
use Rattle.table_store.specs.RowOrder.{AreInOrder}
use Rattle.table_store.specs.declared.error.StoreStop.{StoreStop}
use Rattle.table_store.specs.declared.error.StoreStop.TheVariants.{NotNull, KeyTaken, Full, NoParent, HasChild, NoMemory}
use Rattle.table_store.specs.Stops.{insert_stop, key_stop, stop_if, with_inserted, StopsAs}
use Rattle.table_store.specs.declared.keys.new_keys.NewKeys.{NewKeys}
use Rattle.table_store.proofs.ClaimLaws.{numbered_more, none_from, taken_some}
use Rattle.table_store.proofs.IndexLaws.{same_itself}
use Rattle.table_store.proofs.InsertLaws.{AllRows, found_all, all_weaker, numbered_from_next, rows_below}
use Rattle.table_store.proofs.RekeyLaws.{index_none, index_more}

-- ---- no key yet

pub no_keys : (key : List ℕ) (next : ℕ) (rows : List TableRow) (places : HeldKeys) → ((q : RowKey) → places q ≡ None) → AreNewKeys key next rows [] places
no_keys key next rows places none = record { index = index_none key (numbers_from next places) (λ q. ap (option_map (λ place. next + place)) (none q)); free = tt }

-- ---- one key more

free_more : (key : List ℕ) (rows : List TableRow) (values : List (List Value)) (one : List Value) → AllByRecursion (IsFree key rows) values → IsFree key rows one → AllByRecursion (IsFree key rows) (values ++ one ∷ [])
free_more key rows [] one all is = (is, tt)
free_more key rows (first ∷ values) one all is = (all.0, free_more key rows values one all.1 is)

put_number : (next place : ℕ) (b : Bool) (old : Option ℕ) → option_map (λ n. next + n) (cond b (Some place) old) ≡ cond b (Some (next + place)) (option_map (λ n. next + n) old)
put_number next place true old = refl
put_number next place false old = refl

module _ (key : List ℕ) (next : ℕ) (rows : List TableRow) (values : List (List Value)) (count : ℕ) (within : count < length values) where
  abbrev given : List Value
  given = get_or values count []

  abbrev given_row : TableRow
  given_row = record { number = next + count; values = given }

  numbered_next : numbered_rows next (take (count + 1) values) ≡ numbered_rows next (take count values) ++ given_row ∷ []
  numbered_next =
      ap (numbered_rows next) (take_more values count [] within)
      ∙ numbered_more next (take count values) given
      ∙ ap (λ (n : ℕ). numbered_rows next (take count values) ++ record { number = next + n; values = given } ∷ []) (length-take-le count values (omega (arith, within)))

  module _ (old new : HeldKeys) (k : RowKey) (same : k ≡ key_at key given) (are : AreNewKeys key next rows (take count values) old) (none : old k ≡ None)
      (put : (q : RowKey) → new q ≡ cond (is_at (key_order k) q) (Some count) (old q)) where
    new_free : row_of_key key (values_at key given) (numbered_rows next (take count values)) ≡ None
    new_free =
        ap (λ (q : RowKey). row_of_key key q.values (numbered_rows next (take count values))) (sym same)
        ∙ none_from (row_of_key key k.values (numbered_rows next (take count values))) (sym (are.index.only k) ∙ ap (option_map (λ place. next + place)) none)

    numbers_put : (q : RowKey) → numbers_from next new q ≡ cond (is_at (key_order (key_at key given)) q) (Some (next + count)) (numbers_from next old q)
    numbers_put q =
        ap (option_map (λ place. next + place)) (put q)
        ∙ put_number next count (is_at (key_order k) q) (old q)
        ∙ ap (λ (r : RowKey). cond (is_at (key_order r) q) (Some (next + count)) (numbers_from next old q)) same

    pub keys_more : row_of_key key k.values rows ≡ None → AreNewKeys key next rows (take (count + 1) values) new
    keys_more stands = record {
      index = subst (λ (l : List TableRow). IsIndexOf key (numbers_from next new) l) (sym numbered_next)
          (index_more key (numbers_from next old) (numbers_from next new) given_row (numbered_rows next (take count values)) are.index new_free numbers_put);
      free = subst (λ (l : List (List Value)). AllByRecursion (IsFree key rows) l) (sym (take_more values count [] within))
          (free_more key rows (take count values) given are.free (ap (λ (q : RowKey). row_of_key key q.values rows) (sym same) ∙ stands));
    }

-- no row before has the key
pub none_before : (key : List ℕ) (next : ℕ) (rows : List TableRow) (values : List (List Value)) (count : ℕ) → count < length values → (old : HeldKeys) (k : RowKey) → k ≡ key_at key (get_or values count [])
    → AreNewKeys key next rows (take count values) old → old k ≡ None → row_of_key key k.values rows ≡ None
    → find (has_key key (values_at key (get_or values count []))) (rows ++ numbered_rows next (take count values)) ≡ None
none_before key next rows values count within old k same are none stands =
    let one : List Value = get_or values count [] in
    let fresh : row_of_key key (values_at key one) (numbered_rows next (take count values)) ≡ None =
    ap (λ (q : RowKey). row_of_key key q.values (numbered_rows next (take count values))) (sym same)
    ∙ none_from (row_of_key key k.values (numbered_rows next (take count values))) (sym (are.index.only k) ∙ ap (option_map (λ place. next + place)) none) in
    find-append (has_key key (values_at key one)) rows (numbered_rows next (take count values))
    ∙ ap (λ (o : Option TableRow). option_or o (row_of_key key (values_at key one) (numbered_rows next (take count values)))) (ap (λ (q : RowKey). row_of_key key q.values rows) (sym same) ∙ stands)
    ∙ fresh

-- ---- a key that is taken

-- by a row that stands
pub taken_by_row : (key : List ℕ) (slots : List RowHistory) (next : ℕ) → AreInOrder slots next → (more : List TableRow) (values : List Value) (k : RowKey) (number : ℕ) → k ≡ key_at key values
    → option_map (λ (row : TableRow). row.number) (row_of_key key k.values (rows_now slots)) ≡ Some number
    → taken_stop key next values (find (has_key key (values_at key values)) (rows_now slots ++ more)) ≡ Some (KeyTaken (Some number) None k.values)
taken_by_row key slots next order more values k number same is =
    by (row_of_key key (values_at key values) (rows_now slots)) refl (ap (λ (q : RowKey). option_map (λ (row : TableRow). row.number) (row_of_key key q.values (rows_now slots))) (sym same) ∙ is) where
      by : (o : Option TableRow) → row_of_key key (values_at key values) (rows_now slots) ≡ o → option_map (λ (row : TableRow). row.number) o ≡ Some number
          → taken_stop key next values (find (has_key key (values_at key values)) (rows_now slots ++ more)) ≡ Some (KeyTaken (Some number) None k.values)
      by None at some = cc
      by (Some row) at some =
          let number_is : row.number ≡ number = some_is some in
          let below : row.number < next = found_all (λ one. one.number < next) (has_key key (values_at key values)) (rows_now slots) (rows_below next slots order.below) row at in
          ap (taken_stop key next values) (find-append (has_key key (values_at key values)) (rows_now slots) more ∙ ap (λ (o : Option TableRow). option_or o (find (has_key key (values_at key values)) more)) at)
          ∙ ap (λ b. Some (KeyTaken (cond b (Some row.number) None) None (values_at key values))) (lt-ltb row.number next below)
          ∙ (λ j. Some (KeyTaken (Some (number_is j)) None (ap (λ (q : RowKey). q.values) (sym same) j))) where
            some_is : {a b : ℕ} → Some a ≡ Some b → a ≡ b
            some_is e = cc

-- by a new row before it
pub taken_by_new : (key : List ℕ) (rows : List TableRow) (next : ℕ) (before : List (List Value)) (values : List Value) (k : RowKey) (old : HeldKeys) → k ≡ key_at key values
    → AreNewKeys key next rows before old → row_of_key key k.values rows ≡ None → IsSome (old k)
    → taken_stop key next values (find (has_key key (values_at key values)) (rows ++ numbered_rows next before)) ≡ Some (KeyTaken None None k.values)
taken_by_new key rows next before values k old same are stands some =
    by (row_of_key key (values_at key values) (numbered_rows next before)) refl (ap (λ (q : RowKey). option_map (λ (row : TableRow). row.number) (row_of_key key q.values (numbered_rows next before))) (sym same) ∙ sym (are.index.only k)) where
      here : find (has_key key (values_at key values)) (rows ++ numbered_rows next before) ≡ row_of_key key (values_at key values) (numbered_rows next before)
      here =
          find-append (has_key key (values_at key values)) rows (numbered_rows next before)
          ∙ ap (λ (o : Option TableRow). option_or o (row_of_key key (values_at key values) (numbered_rows next before))) (ap (λ (q : RowKey). row_of_key key q.values rows) (sym same) ∙ stands)

      never : (o : Option ℕ) → IsSome o → None ≡ option_map (λ place. next + place) o → {X : Type 0} → X
      never None is gone = cc
      never (Some n) is gone = cc

      by : (o : Option TableRow) → row_of_key key (values_at key values) (numbered_rows next before) ≡ o
          → option_map (λ (row : TableRow). row.number) (row_of_key key (values_at key values) (numbered_rows next before)) ≡ numbers_from next old k
          → taken_stop key next values (find (has_key key (values_at key values)) (rows ++ numbered_rows next before)) ≡ Some (KeyTaken None None k.values)
      by None at is = never (old k) some (sym (ap (option_map (λ (row : TableRow). row.number)) at) ∙ is)
      by (Some row) at is =
          let from : next ≤ row.number = found_all (λ one. next ≤ one.number) (has_key key (values_at key values)) (numbered_rows next before) (numbered_from_next next before) row at in
          ap (taken_stop key next values) (here ∙ at)
          ∙ ap (λ b. Some (KeyTaken (cond b (Some row.number) None) None (values_at key values))) (le-ltb row.number next from)
          ∙ ap (λ (q : RowKey). Some (KeyTaken None None q.values)) (sym same)

-- ---- keys that are entered

-- each row is found by its key
found_itself : (key : List ℕ) (rows : List TableRow) → AllRows (λ row. IsSome (row_of_key key (values_at key row.values) rows)) rows
found_itself key [] = tt
found_itself key (row ∷ rows) = (
  subst (λ b. IsSome (cond b (Some row) (find (has_key key (values_at key row.values)) rows))) (sym (same_itself (values_at key row.values))) refl,
  all_weaker (λ one. IsSome (row_of_key key (values_at key one.values) rows)) (λ one. IsSome (row_of_key key (values_at key one.values) (row ∷ rows)))
      (λ one some. by (has_key key (values_at key one.values) row) (row_of_key key (values_at key one.values) rows) some) rows (found_itself key rows),
) where
  by : (b : Bool) (o : Option TableRow) → IsSome o → IsSome (cond b (Some row) o)
  by true o some = refl
  by false o some = some

free_numbered : (key : List ℕ) (rows : List TableRow) (next : ℕ) (values : List (List Value)) → AllByRecursion (IsFree key rows) values → AllRows (λ one. IsFree key rows one.values) (numbered_rows next values)
free_numbered key rows next [] all = tt
free_numbered key rows next (first ∷ values) all = (all.0, free_numbered key rows (next + 1) values all.1)

find_hits : (p : TableRow → Bool) (rows : List TableRow) (row : TableRow) → find p rows ≡ Some row → p row ≡ true
find_hits p [] row is = cc
find_hits p (first ∷ rows) row is = elim (cases_Bool (p first)) [
  | inl hit ↦
      let same : Some first ≡ Some row = sym (ap (λ b. cond b (Some first) (find p rows)) hit) ∙ is in
      ap p (sym (some_is same)) ∙ hit
  | inr miss ↦ find_hits p rows row (sym (ap (λ b. cond b (Some first) (find p rows)) miss) ∙ is)
] where
  some_is : {a b : TableRow} → Some a ≡ Some b → a ≡ b
  some_is same = cc

-- a key of a row that stands is none of a new row
module _ (key : List ℕ) (next : ℕ) (rows : List TableRow) (values : List (List Value)) (places : HeldKeys) (are : AreNewKeys key next rows values places) where
  gone : (k : List Value) (one : TableRow) → row_of_key key k (numbered_rows next values) ≡ Some one → row_of_key key k rows ≡ None
  gone k one found =
      let same : values_at key one.values ≡ k = same_exact (values_at key one.values) k (find_hits (has_key key k) (numbered_rows next values) one found) in
      ap (λ (v : List Value). row_of_key key v rows) (sym same)
      ∙ found_all (λ new. IsFree key rows new.values) (has_key key k) (numbered_rows next values) (free_numbered key rows next values are.free) one found

  not_new : (row : TableRow) → IsSome (row_of_key key (values_at key row.values) rows) → places (key_at key row.values) ≡ None
  not_new row some = by (places (key_at key row.values)) (row_of_key key (values_at key row.values) (numbered_rows next values)) refl (are.index.only (key_at key row.values)) where
    by : (o : Option ℕ) (new : Option TableRow) → row_of_key key (values_at key row.values) (numbered_rows next values) ≡ new
        → option_map (λ place. next + place) o ≡ option_map (λ (one : TableRow). one.number) (row_of_key key (values_at key row.values) (numbered_rows next values)) → o ≡ None
    by None new found is = refl
    by (Some place) None found is = let wrong : Some (next + place) ≡ None = is ∙ ap (option_map (λ (one : TableRow). one.number)) found in cc
    by (Some place) (Some one) found is =
        let none : IsSome {T = TableRow} None = subst (λ (o : Option TableRow). IsSome o) (gone (values_at key row.values) one found) some in cc

  -- once the keys are entered each row is under its key, those that stood and the new ones
  module _ (old new : HeldKeys) (put : (q : RowKey) → new q ≡ option_or (numbers_from next places q) (old q)) where
    old_held : (some : List TableRow) → AllRows (λ row. IsSome (row_of_key key (values_at key row.values) rows)) some → AreHeld key old some → AreHeld key new some
    old_held [] all held = tt
    old_held (row ∷ some) all held = (
      put (key_at key row.values) ∙ ap (λ (o : Option ℕ). option_or (option_map (λ place. next + place) o) (old (key_at key row.values))) (not_new row all.0) ∙ held.0,
      old_held some all.1 held.1,
    )

    new_held : (some : List TableRow) → AreHeld key (numbers_from next places) some → AreHeld key new some
    new_held [] held = tt
    new_held (row ∷ some) held = (
      put (key_at key row.values) ∙ ap (λ (o : Option ℕ). option_or o (old (key_at key row.values))) held.0,
      new_held some held.1,
    )

    both_held : (xs ys : List TableRow) → AreHeld key new xs → AreHeld key new ys → AreHeld key new (xs ++ ys)
    both_held [] ys front back = back
    both_held (x ∷ xs) ys front back = (front.0, both_held xs ys front.1 back)

    all_held : AreHeld key old rows → AreHeld key new (rows ++ numbered_rows next values)
    all_held held = both_held rows (numbered_rows next values) (old_held rows (found_itself key rows) held) (new_held (numbered_rows next values) are.index.each)

  -- also if memory runs out, the rows that stood are under their keys
  module _ (old new : HeldKeys) (others : (q : RowKey) → places q ≡ None → new q ≡ old q) where
    kept_held : (some : List TableRow) → AllRows (λ row. IsSome (row_of_key key (values_at key row.values) rows)) some → AreHeld key old some → AreHeld key new some
    kept_held [] all held = tt
    kept_held (row ∷ some) all held = (others (key_at key row.values) (not_new row all.0) ∙ held.0, kept_held some all.1 held.1)

    rows_held : AreHeld key old rows → AreHeld key new rows
    rows_held held = kept_held rows (found_itself key rows) held

-- the same where there is a key
pub entered_indexed : (key : List ℕ) (next : ℕ) (rows : List TableRow) (values : List (List Value)) (places old new : HeldKeys) → AreClaimed key next rows values places
    → ((q : RowKey) → new q ≡ option_or (numbers_from next places q) (old q)) → AreIndexed key old rows → AreIndexed key new (rows ++ numbered_rows next values)
entered_indexed [] next rows values places old new are put indexed = tt
entered_indexed (column ∷ columns) next rows values places old new are put indexed = all_held (column ∷ columns) next rows values places are old new put indexed

pub kept_indexed : (key : List ℕ) (next : ℕ) (rows : List TableRow) (values : List (List Value)) (places old new : HeldKeys) → AreClaimed key next rows values places
    → ((q : RowKey) → places q ≡ None → new q ≡ old q) → AreIndexed key old rows → AreIndexed key new rows
kept_indexed [] next rows values places old new are others indexed = tt
kept_indexed (column ∷ columns) next rows values places old new are others indexed = rows_held (column ∷ columns) next rows values places are old new others indexed

-- ---- a table that isn't full

pub not_full : (rows : List (List Value)) (table : Table) → insert_stop rows table ≡ None → table.next + length rows ≤ max_next
not_full rows table none = ltb-false max_next (table.next + length rows) (last (stop_if (list_any (has_null table.schema.columns) (numbered_rows table.next rows)) NotNull) (key_stop table (key_clash (with_inserted rows table))) (nat_lt max_next (table.next + length rows)) none) where
  last : (a b : Option StoreStop) (full : Bool) → option_or a (option_or b (stop_if full Full)) ≡ None → full ≡ false
  last None None false is = refl
  last None None true is = cc
  last None (Some stop) full is = cc
  last (Some stop) b full is = cc

-- ---- what adding a key gives

pub added_ok : (key : RowKey) (place : ℕ) (old new : NewKeys) (r : Result (Unit {0}) StoreStop) (P : Type 0)
    → (new_in old key ≡ None → ((q : RowKey) → new_in new q ≡ cond (is_at (key_order key) q) (Some place) (new_in old q)) → P) → AddsKey key place old new r → OnOk r P
added_ok key place old new (Ok u) P to adds = to adds.0 adds.1
added_ok key place old new (Err stop) P to adds = tt

pub added_stop : (key : RowKey) (place : ℕ) (old new : NewKeys) (r : Result (Unit {0}) StoreStop) (due : Option StoreStop) → (new_in old key ≡ None → due ≡ None)
    → (IsSome (new_in old key) → due ≡ Some (KeyTaken None None key.values)) → AddsKey key place old new r → StopsAs due r
added_stop key place old new (Ok u) due free taken adds = free adds.0
added_stop key place old new (Err NoMemory) due free taken adds = tt
added_stop key place old new (Err NotNull) due free taken adds = taken adds.1 ∙ ap (λ (s : StoreStop). Some s) (sym adds.0)
added_stop key place old new (Err (KeyTaken earlier later k)) due free taken adds = taken adds.1 ∙ ap (λ (s : StoreStop). Some s) (sym adds.0)
added_stop key place old new (Err Full) due free taken adds = taken adds.1 ∙ ap (λ (s : StoreStop). Some s) (sym adds.0)
added_stop key place old new (Err (NoParent table k)) due free taken adds = taken adds.1 ∙ ap (λ (s : StoreStop). Some s) (sym adds.0)
added_stop key place old new (Err (HasChild table row k)) due free taken adds = taken adds.1 ∙ ap (λ (s : StoreStop). Some s) (sym adds.0)

-- a place below a number gives a number that a row may have
pub fit_number : (next bound : ℕ) (o : Option ℕ) → next + bound ≤ 2 ^ 32 → IfSome o (λ place. place < bound) → IfSome o (λ place. next + place < 2 ^ 32)
fit_number next bound None fits below = tt
fit_number next bound (Some place) fits below = omega (arith, fits, below)

-- places stay below a number if one below it is put
pub below_put : {K E : Type 0} (place bound : ℕ) (at : K → Bool) (old new : K → Option ℕ) (r : Result (Unit {0}) E) → OnOk r ((q : K) → new q ≡ cond (at q) (Some place) (old q)) → OnErr r ((q : K) → new q ≡ old q)
    → place < bound → ((q : K) → IfSome (old q) (λ one. one < bound)) → (q : K) → IfSome (new q) (λ one. one < bound)
below_put place bound at old new (Ok u) ok err within below q = subst (λ (o : Option ℕ). IfSome o (λ one. one < bound)) (sym (ok q)) (by (at q)) where
  by : (b : Bool) → IfSome (cond b (Some place) (old q)) (λ one. one < bound)
  by true = within
  by false = below q
below_put place bound at old new (Err e) ok err within below q = subst (λ (o : Option ℕ). IfSome o (λ one. one < bound)) (sym (err q)) (below q)
