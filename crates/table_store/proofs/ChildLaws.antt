-- Look-ups for children: sets of keys, the keys of rows by their numbers, and the keys that the row in a slot
-- refers to.
use Rattle.std.proofs.Common.{◌≡◌, ◌==◌, ℕ, ◌+◌, ◌<◌, List, [], ◌∷◌, ◌++◌, take, length, get_or, refl, sym, ap, ◌∙◌, Bool, true, false, cond, not, ◌&&◌, ◌||◌, inl, inr, Option, Some, None, is_some}
use Rattle.std.specs.Prelude.{find, if◌then◌else◌}
use Rattle.std.specs.BTreeMap.{is_at}
use Rattle.std.specs.BTreeSet.{BTreeSet, IsEmpty, Updates}
use Rattle.std.specs.List.{list_any}
use Rattle.std.specs.Option.{option_map, option_map_or, option_and_then, option_to_list}
use Rattle.std.proofs.lemmas.Bool.{cases_Bool, eqb-true}
use Rattle.std.proofs.lemmas.List.{take_more}
use Rattle.std.proofs.lemmas.List.Quantifiers.{position-Some}
use Rattle.ldv_value.proofs.Booleans.{or-false}
use Rattle.ldv_value.proofs.Lists.{list_any-append, list_any-false}
use Rattle.ldv_value.proofs.Options.{none-some, same-some}
use Rattle.row_version.specs.History.{current_values}
use Rattle.sql_model.specs.KeyOrder.{key_order}
use Rattle.sql_model.specs.Keys.{same_values, values_at}
use Rattle.sql_model.specs.Meaning.{is_null}
use Rattle.sql_model.specs.References.{Child, Orphan, has_key, orphan_by, reference}
use Rattle.sql_model.specs.Scope.{is_table, same_text}
use Rattle.sql_model.proofs.SameValues.{same_exact}
use Rattle.table_store.specs.inner.Afterwards.{in_set, loses, orphan_in_row, orphan_in_other, orphan_in_slot}
use Rattle.table_store.specs.Histories.{RowHistory, is_of_number, no_history, numbered_row, row_now, row_of, rows_now, slot_of_row}
use Rattle.table_store.specs.RowOrder.{AreInOrder}
use Rattle.table_store.specs.Stops.{is_among}
use Rattle.table_store.specs.Types.{Foreign, RowKey, Table, TableRow, Value}
use Rattle.table_store.proofs.IndexLaws.{no_slot_has, row_in_slot}
use Rattle.table_store.proofs.PutLaws.{any_same}
use Rattle.table_store.proofs.StandingRows.{not-there, there-by-number}
use Rattle.table_store.proofs.TableLaws.{slot_here_is}
use Rattle.ldv_value.proofs.Numbers.{eq-turned}

-- ---- tests of lists

-- one item more
pub any_next : {X : Type 0} (p : X → Bool) (xs : List X) (i : ℕ) (x : X) → i < length xs → x ≡ get_or xs i x
    → (list_any p (take i xs) || p x) ≡ list_any p (take (i + 1) xs)
any_next {X = X} p xs i x within is =
    ap (λ (b : Bool). list_any p (take i xs) || b) (sym (or-false (p x)))
    ∙ sym (list_any-append p (take i xs) (x ∷ []))
    ∙ ap (λ (y : X). list_any p (take i xs ++ y ∷ [])) is
    ∙ ap (list_any p) (sym (take_more xs i x within))

any_or : {X : Type 0} (p q : X → Bool) (xs : List X) → list_any (λ x. p x || q x) xs ≡ (list_any p xs || list_any q xs)
any_or p q [] = refl
any_or p q (x ∷ xs) =
    ap (λ (b : Bool). (p x || q x) || b) (any_or p q xs)
    ∙ turned (p x) (q x) (list_any p xs) (list_any q xs)
  where
    turned : (a b c d : Bool) → ((a || b) || (c || d)) ≡ ((a || c) || (b || d))
    turned true b c d = refl
    turned false true true d = refl
    turned false true false d = refl
    turned false false c d = refl

and_or : (a b c : Bool) → ((a || b) && c) ≡ ((a && c) || (b && c))
and_or true b true = refl
and_or true true false = refl
and_or true false false = refl
and_or false b c = refl

pub any_found : {X : Type 0} (p : X → Bool) (xs : List X) → list_any p xs ≡ is_some (find p xs)
any_found p [] = refl
any_found p (x ∷ xs) = by (p x) (any_found p xs)
  where
    by : (b : Bool) → list_any p xs ≡ is_some (find p xs) → (b || list_any p xs) ≡ is_some (cond b (Some x) (find p xs))
    by true more = refl
    by false more = more

-- ---- sets of keys

pub none_in : (keys : BTreeSet RowKey) → IsEmpty keys → (key : List Value) → in_set keys key ≡ false
none_in keys empty key = ap (list_any (is_at (key_order (record { values = key })))) empty

-- a key that is put
pub put_in_set : (old new : BTreeSet RowKey) (made : RowKey) → Updates key_order old new made true → (key : List Value)
    → in_set new key ≡ (in_set old key || same_values made.values key)
put_in_set old new made updates key = updates.0 (record { values = key }) ∙ by (same_values made.values key) (in_set old key)
  where
    by : (b o : Bool) → cond b true o ≡ (o || b)
    by true true = refl
    by true false = refl
    by false true = refl
    by false false = refl

module _ (given : List Value → Bool) (made q : List Value) where
  -- a key that a given row has isn't lost
  pub kept_key : (old : Bool) → given made ≡ true → old ≡ (old || (same_values made q && not (given q)))
  kept_key old has = sym (or-false old) ∙ ap (λ (b : Bool). old || b) (sym none)
    where
      none : (same_values made q && not (given q)) ≡ false
      none = elim (cases_Bool (same_values made q)) [
        | inl same ↦
            let there : given q ≡ true = ap given (sym (same_exact made q same)) ∙ has in
            λ j. same j && not (there j)
        | inr other ↦ λ j. other j && not (given q)
      ]

  lost_is : given made ≡ false → same_values made q ≡ (same_values made q && not (given q))
  lost_is gone = elim (cases_Bool (same_values made q)) [
    | inl same ↦
        let none : given q ≡ false = ap given (sym (same_exact made q same)) ∙ gone in
        same ∙ sym (λ j. same j && not (none j))
    | inr other ↦ other ∙ sym (λ j. other j && not (given q))
  ]

pub lost_key : (given : List Value → Bool) (old new : BTreeSet RowKey) (made : RowKey) (q : List Value) → given made.values ≡ false → Updates key_order old new made true
    → in_set new q ≡ (in_set old q || (same_values made.values q && not (given q)))
lost_key given old new made q gone updates =
    put_in_set old new made updates q ∙ ap (λ (b : Bool). in_set old q || b) (lost_is given made.values q gone)

-- ---- the keys that the rows of some numbers had

module _ (given : List Value → Bool) (t : Table) (key : List Value) where
  abbrev p : TableRow → Bool
  p = has_key t.schema.key key

  abbrev had : List ℕ → Bool
  had numbers = list_any (λ row. is_among numbers row && p row) t.rows

  pub loses_none : false ≡ loses given [] t key
  loses_none = sym (ap (λ (b : Bool). b && not (given key)) (list_any-false t.rows))

  had_both : (ns ms : List ℕ) → had (ns ++ ms) ≡ (had ns || had ms)
  had_both ns ms =
      any_same (λ row. is_among (ns ++ ms) row && p row) (λ row. (is_among ns row && p row) || (is_among ms row && p row))
      (λ row. ap (λ (b : Bool). b && p row) (list_any-append (λ (n : ℕ). n == row.number) ns ms) ∙ and_or (is_among ns row) (is_among ms row) (p row)) t.rows
      ∙ any_or (λ row. is_among ns row && p row) (λ row. is_among ms row && p row) t.rows

  pub loses_more : (ns : List ℕ) (i d : ℕ) (old new : Bool) → i < length ns → old ≡ loses given (take i ns) t key
      → new ≡ (old || loses given (get_or ns i d ∷ []) t key) → new ≡ loses given (take (i + 1) ns) t key
  loses_more ns i d old new within before more =
      more ∙ ap (λ (b : Bool). b || loses given (get_or ns i d ∷ []) t key) before
      ∙ sym (and_or (had (take i ns)) (had (get_or ns i d ∷ [])) (not (given key)))
      ∙ ap (λ (b : Bool). b && not (given key)) (sym (had_both (take i ns) (get_or ns i d ∷ [])))
      ∙ ap (λ (l : List ℕ). loses given l t key) (sym (take_more ns i d within))

  abbrev its_key : Option RowKey → Bool
  its_key found = option_map_or (λ (k : RowKey). same_values k.values key) found false

  -- of a row that doesn't stand
  pub no_key : (found : Option RowKey) (n : ℕ) (old : Bool) → its_key found ≡ had (n ∷ []) → found ≡ None
      → old ≡ (old || loses given (n ∷ []) t key)
  no_key found n old has none = sym (or-false old) ∙ ap (λ (b : Bool). old || (b && not (given key))) (sym (ap its_key none) ∙ has)

  pub one_key : (found : Option RowKey) (made : RowKey) (n : ℕ) (old : Bool) → its_key found ≡ had (n ∷ []) → found ≡ Some made
      → (old || (same_values made.values key && not (given key))) ≡ (old || loses given (n ∷ []) t key)
  one_key found made n old has some = ap (λ (b : Bool). old || (b && not (given key))) (sym (ap its_key some) ∙ has)

-- ---- the row of a number

module _ (places : List ℕ) (key : List Value) (number : ℕ) where
  abbrev has_at : TableRow → Bool
  has_at row = is_among (number ∷ []) row && has_key places key row

  abbrev is_it : TableRow → Bool
  is_it row = (row.number == number) && has_key places key row

  turned : (rows : List TableRow) → list_any has_at rows ≡ is_some (find is_it rows)
  turned rows =
      any_same has_at is_it (λ row. ap (λ (b : Bool). b && has_key places key row) (or-false (number == row.number) ∙ eq-turned number row.number)) rows
      ∙ any_found is_it rows

  module _ (slots : List RowHistory) (next : ℕ) (order : AreInOrder slots next) where
    pub key_absent : None ≡ slot_of_row number slots → false ≡ list_any has_at (rows_now slots)
    key_absent none =
        sym (turned (rows_now slots)
        ∙ ap is_some (no_slot_has places key number slots (λ i below same. none-some i (none ∙ slot_here_is slots next order number i below same))))

    here_is : (o : Option TableRow) → is_some (find (has_key places key) (option_to_list o)) ≡ option_map_or (has_key places key) o false
    here_is None = refl
    here_is (Some row) = by (has_key places key row)
      where
        by : (b : Bool) → is_some (cond b (Some row) None) ≡ b
        by true = refl
        by false = refl

    pub key_here : (slot : ℕ) → Some slot ≡ slot_of_row number slots
        → option_map_or (has_key places key) (row_now (get_or slots slot no_history)) false ≡ list_any has_at (rows_now slots)
    key_here slot is =
        let at = position-Some (is_of_number number) slots slot no_history (sym is) in
        let same : (get_or slots slot no_history).number ≡ number = eqb-true (get_or slots slot no_history).number number at.1 in
        sym (turned (rows_now slots)
        ∙ ap is_some (row_in_slot places key number slots next slot order at.0 same)
        ∙ here_is (row_now (get_or slots slot no_history)))

  pub key_by : (found : Option RowKey) (o : Option TableRow)
      → option_map (λ (k : RowKey). k.values) found ≡ option_map (λ (row : TableRow). values_at places row.values) o
      → option_map_or (λ (k : RowKey). same_values k.values key) found false ≡ option_map_or (has_key places key) o false
  key_by None None is = refl
  key_by None (Some row) is = absurd (none-some (values_at places row.values) is)
  key_by (Some k) None is = absurd (none-some k.values (sym is))
  key_by (Some k) (Some row) is = ap (λ (values : List Value). same_values values key) (same-some k.values (values_at places row.values) is)

-- ---- the row in a slot

module _ (target : List ℕ) (lost : List Value → Bool) (t : Table) (slot : RowHistory) where
  pub gone_slot : (has : TableRow → Bool) → None ≡ option_map (λ (row : TableRow). row.number) (row_now slot) → None ≡ orphan_in_slot has target lost t slot
  gone_slot has none = sym (ap (option_and_then (orphan_in_other has target lost t)) (not-there (row_now slot) none))

  module _ (ns : List ℕ) (number : ℕ) (named : Some number ≡ option_map (λ (row : TableRow). row.number) (row_now slot)) where
    abbrev of_other : Option TableRow → Option Orphan
    of_other o = option_and_then (orphan_in_other (is_among ns) target lost t) o

    abbrev is_its : ℕ → Bool
    is_its n = is_table target t && list_any (λ (g : ℕ). g == n) ns

    abbrev if_other : TableRow → Bool → Option Orphan
    if_other row b = if not b then orphan_in_row target lost t row else None

    pub passed_slot : is_its number ≡ true → None ≡ orphan_in_slot (is_among ns) target lost t slot
    passed_slot passed =
        let there = there-by-number (row_now slot) number named in
        sym (ap of_other there.1 ∙ ap (if_other there.0) (ap is_its (sym there.2) ∙ passed))

    pub other_slot : (values : List Value) → Some values ≡ current_values slot.changes → is_its number ≡ false
        → orphan_in_row target lost t (record { number = number; values = values }) ≡ orphan_in_slot (is_among ns) target lost t slot
    other_slot values now other =
        let row_is : row_now slot ≡ Some (numbered_row slot.number values) = ap (row_of slot.number) (sym now) in
        let number_is : number ≡ slot.number = same-some number slot.number (named ∙ ap (option_map (λ (row : TableRow). row.number)) row_is) in
        let this : row_now slot ≡ Some (numbered_row number values) = row_is ∙ ap (λ (n : ℕ). Some (numbered_row n values)) (sym number_is) in
        sym (ap of_other this ∙ ap (if_other (numbered_row number values)) other)

-- ---- one foreign key of a row

module _ (target : List ℕ) (lost : List Value → Bool) (child : Child) (f : Foreign) (values : List Value) where
  abbrev of_null : Bool → Option Orphan
  of_null b = orphan_by target lost child f (if b then None else Some (values_at f.columns values))

  pub orphan_null : list_any is_null (values_at f.columns values) ≡ true → None ≡ orphan_by target lost child f (reference f values)
  orphan_null is = sym (ap of_null is)

  abbrev its_orphan : List Value → Orphan
  its_orphan key = record { table = child.table; row = child.row.number; key = key }

  abbrev orphan_if : List Value → Bool → Option Orphan
  orphan_if key b = if b then Some (its_orphan key) else None

  orphan_is : list_any is_null (values_at f.columns values) ≡ false → (key : List Value) → key ≡ values_at f.columns values
      → (b : Bool) → b ≡ (same_text f.parent target && lost key) → orphan_if key b ≡ orphan_by target lost child f (reference f values)
  orphan_is some key is b there =
      ap (orphan_if key) there
      ∙ ap (λ (k : List Value). orphan_if k (same_text f.parent target && lost k)) is
      ∙ sym (ap of_null some)

  pub orphan_none : list_any is_null (values_at f.columns values) ≡ false → (key : List Value) → key ≡ values_at f.columns values
      → (b : Bool) → b ≡ (same_text f.parent target && lost key) → b ≡ false → None ≡ orphan_by target lost child f (reference f values)
  orphan_none some key is b there off = sym (ap (orphan_if key) off) ∙ orphan_is some key is b there

  pub orphan_some : list_any is_null (values_at f.columns values) ≡ false → (key : List Value) → key ≡ values_at f.columns values
      → (b : Bool) → b ≡ (same_text f.parent target && lost key) → b ≡ true → Some (its_orphan key) ≡ orphan_by target lost child f (reference f values)
  orphan_some some key is b there on = sym (ap (orphan_if key) on) ∙ orphan_is some key is b there
