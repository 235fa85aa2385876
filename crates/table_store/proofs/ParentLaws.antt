-- The parent rows of given rows: the rows that are looked up are those that the given rows refer to, if no
-- two rows have one key.
use Rattle.std.proofs.Common.{◌≡◌, ◌==◌, ℕ, ◌+◌, ◌<◌, List, [], ◌∷◌, ◌++◌, map, length, get_or, take, refl, sym, ap, subst, ◌∙◌, Bool, true, false, cond, not, ◌&&◌, ◌⊎◌, inl, inr, arith, Option, Some, None, is_some}
use Rattle.std.specs.Prelude.{IfSome, filter, find, if◌then◌else◌, nat_lt, unwrap_or}
use Rattle.std.specs.BTreeMap.{BTreeMap, IsEmpty, Updates, is_at}
use Rattle.std.specs.Map.{lookup}
use Rattle.std.specs.List.{AllByRecursion, cons_option, filter_map, flat_map, list_any, list_all}
use Rattle.std.specs.Option.{option_map, option_map_or, option_or, option_and_then, option_to_list}
use Rattle.std.proofs.lemmas.Bool.{cases_Bool, lt-ltb, eqb-true, ne_eqb}
use Rattle.std.proofs.lemmas.Grind.{flat_map-append}
use Rattle.std.proofs.lemmas.List.{map-append, take_more, append-nil}
use Rattle.std.proofs.lemmas.List.Quantifiers.{position-Some}
use Rattle.ldv_value.proofs.Booleans.{and-parts, and-true, not-so, or-cases, or-left, or-parts, or-right, true≢false}
use Rattle.ldv_value.proofs.Lists.{found-passes, sorted-under}
use Rattle.ldv_value.proofs.Options.{is_none-true, none-some, same-some}
use Rattle.ldv_value.proofs.SameBytes.{bytes_eq-true}
use Rattle.row_version.specs.History.{current_values, version}
use Rattle.sql_model.proofs.UniqueKeys.{unique-clash, or_none, values_in}
use Rattle.sql_model.proofs.UniqueRows.{found_same, keys_apart, repeats_map, same_both}
use Rattle.sql_model.specs.Changes.{key_clash, numbered_rows, had_row}
use Rattle.sql_model.specs.KeyOrder.{key_order}
use Rattle.sql_model.specs.Keys.{key_at, repeats, same_values, values_at}
use Rattle.sql_model.specs.QueryAnswer.{Origin}
use Rattle.sql_model.specs.References.{has_key, parents_by, parents_in, reference}
use Rattle.sql_model.specs.Scope.{is_table, table_at}
use Rattle.sql_model.specs.Tables.{AreWellFormed, are_keys_unique}
use Rattle.table_store.specs.inner.Afterwards.{is_keyed}
use Rattle.table_store.specs.Histories.{RowHistory, StoreHistory, TableHistory, history_at, history_of_row, is_history, is_of_number, no_history, row_now, rows_now, slot_of_row, table_now, tables_now, version_now}
use Rattle.table_store.specs.inner.ParentRows.{if_stands, last_row_with, member_at, member_now, member_of, number_in, number_of_key, number_put, parent_by, parent_in, parent_number, parents_in_row, unless_given}
use Rattle.table_store.specs.Referring.{IsAtVersion, are_apart, origin_now, parents_now, version_at, with_put}
use Rattle.table_store.specs.RowOrder.{AreInOrder}
use Rattle.table_store.specs.Stops.{are_sorted_numbers, are_sorted_rows, has_number, is_among, replaced_by, with_changed}
use Rattle.table_store.specs.Types.{Foreign, Member, RowKey, Table, TableRow, Value}
use Rattle.table_store.proofs.ChildLaws.{any_found}
use Rattle.table_store.proofs.IndexLaws.{no_slot_has, row_in_slot}
use Rattle.table_store.proofs.NowLaws.{now_at}
use Rattle.table_store.proofs.PutLaws.{AmongRows, TakesPlace, any_same, find_none, found_some, kept_row, put_found, takes_place}
use Rattle.table_store.proofs.RefusalLaws.{keyed_parent, own_history, unique_found}
use Rattle.table_store.proofs.StandingRows.{only-one}
use Rattle.table_store.proofs.TableLaws.{slot_here_is, version_here, version_none}

abbrev pub numbers : List TableRow → List ℕ
numbers rows = map (λ (row : TableRow). row.number) rows

-- ---- rows among others

pub any_among : (p : TableRow → Bool) (rows : List TableRow) (r : TableRow) → AmongRows r rows → p r ≡ true → list_any p rows ≡ true
any_among p [] r here hit = absurd here
any_among p (row ∷ rows) r (inl same) hit = or-left (p row) (list_any p rows) (ap p (sym same) ∙ hit)
any_among p (row ∷ rows) r (inr more) hit = or-right (p row) (list_any p rows) (any_among p rows r more hit)

pub found_among : (p : TableRow → Bool) (rows : List TableRow) (r : TableRow) → find p rows ≡ Some r → AmongRows r rows
found_among p [] r is = cc
found_among p (row ∷ rows) r is = elim (cases_Bool (p row)) [
  | inl hit ↦ inl (sym (same-some row r (sym (ap (λ b. cond b (Some row) (find p rows)) hit) ∙ is)))
  | inr miss ↦ inr (found_among p rows r (sym (ap (λ b. cond b (Some row) (find p rows)) miss) ∙ is))
]

none_among : (p : TableRow → Bool) (rows : List TableRow) → ((r : TableRow) → AmongRows r rows → p r ≡ false) → find p rows ≡ None
none_among p [] none = refl
none_among p (row ∷ rows) none =
    ap (λ b. cond b (Some row) (find p rows)) (none row (inl refl)) ∙ none_among p rows (λ r more. none r (inr more))

pub among_left : (xs ys : List TableRow) (r : TableRow) → AmongRows r xs → AmongRows r (xs ++ ys)
among_left [] ys r here = absurd here
among_left (x ∷ xs) ys r (inl same) = inl same
among_left (x ∷ xs) ys r (inr more) = inr (among_left xs ys r more)

among_right : (xs ys : List TableRow) (r : TableRow) → AmongRows r ys → AmongRows r (xs ++ ys)
among_right [] ys r here = here
among_right (x ∷ xs) ys r here = inr (among_right xs ys r here)

pub among_either : (xs ys : List TableRow) (r : TableRow) → AmongRows r (xs ++ ys) → AmongRows r xs ⊎ AmongRows r ys
among_either [] ys r here = inr here
among_either (x ∷ xs) ys r (inl same) = inl (inl same)
among_either (x ∷ xs) ys r (inr more) = elim (among_either xs ys r more) [
  | inl left ↦ inl (inr left)
  | inr right ↦ inr right
]

pub among_filter : (q : TableRow → Bool) (rows : List TableRow) (r : TableRow) → AmongRows r rows → q r ≡ true → AmongRows r (filter q rows)
among_filter q [] r here hit = absurd here
among_filter q (row ∷ rows) r (inl same) hit =
    subst (λ (l : List TableRow). AmongRows r l) (sym (ap (λ b. cond b (row ∷ filter q rows) (filter q rows)) (ap q (sym same) ∙ hit))) (inl same)
among_filter q (row ∷ rows) r (inr more) hit = by (q row) (among_filter q rows r more hit)
  where
    by : (b : Bool) → AmongRows r (filter q rows) → AmongRows r (cond b (row ∷ filter q rows) (filter q rows))
    by true there = inr there
    by false there = there

pub filter_among : (q : TableRow → Bool) (rows : List TableRow) (r : TableRow) → AmongRows r (filter q rows) → AmongRows r rows
filter_among q [] r here = absurd here
filter_among q (row ∷ rows) r here = by (λ more. filter_among q rows r more) (q row) here
  where
    by : (AmongRows r (filter q rows) → AmongRows r rows) → (b : Bool) → AmongRows r (cond b (row ∷ filter q rows) (filter q rows)) → AmongRows r (row ∷ rows)
    by again true (inl same) = inl same
    by again true (inr more) = inr (again more)
    by again false more = inr (again more)

pub among_map : (f : TableRow → TableRow) (rows : List TableRow) (r : TableRow) → AmongRows r rows → AmongRows (f r) (map f rows)
among_map f [] r here = absurd here
among_map f (row ∷ rows) r (inl same) = inl (ap f same)
among_map f (row ∷ rows) r (inr more) = inr (among_map f rows r more)

-- ---- the given row that has a key

missed : (n : ℕ) (b : Bool) → (if b then Some n else None) ≡ None → b ≡ false
missed n true is = absurd (none-some n (sym is))
missed n false is = refl

module _ (places : List ℕ) (key : List Value) where
  abbrev p : TableRow → Bool
  p = has_key places key

  abbrev number_if : TableRow → Bool → Option ℕ
  number_if row b = if b then Some row.number else None

  pub last_pushed : (rows : List TableRow) (row : TableRow) → last_row_with places (rows ++ row ∷ []) key ≡ cond (p row) (Some row.number) (last_row_with places rows key)
  last_pushed [] row = refl
  last_pushed (first ∷ rows) row = ap (λ (o : Option ℕ). option_or o (number_if first (p first))) (last_pushed rows row) ∙ by (p row)
    where
      by : (b : Bool) → option_or (cond b (Some row.number) (last_row_with places rows key)) (number_if first (p first))
          ≡ cond b (Some row.number) (option_or (last_row_with places rows key) (number_if first (p first)))
      by true = refl
      by false = refl

  last_some : (rows : List TableRow) (n : ℕ) → last_row_with places rows key ≡ Some n → (g : TableRow) × AmongRows g rows × (p g ≡ true) × (g.number ≡ n)
  last_some [] n is = cc
  last_some (row ∷ rows) n is = by (λ more. last_some rows n more) (last_row_with places rows key) refl is
    where
      by : (last_row_with places rows key ≡ Some n → (g : TableRow) × AmongRows g rows × (p g ≡ true) × (g.number ≡ n))
          → (o : Option ℕ) → last_row_with places rows key ≡ o → option_or o (number_if row (p row)) ≡ Some n
          → (g : TableRow) × AmongRows g (row ∷ rows) × (p g ≡ true) × (g.number ≡ n)
      by again (Some m) later is = let g = again (later ∙ is) in (g.0, inr g.1, g.2, g.3)
      by again None later is = elim (cases_Bool (p row)) [
        | inl hit ↦
            let e : Some row.number ≡ Some n = sym (ap (number_if row) hit) ∙ is in
            (row, inl refl, hit, same-some row.number n e)
        | inr miss ↦
            let wrong : None ≡ Some n = sym (ap (number_if row) miss) ∙ is in
            absurd (none-some n wrong)
      ]

  last_none : (rows : List TableRow) → last_row_with places rows key ≡ None → (g : TableRow) → AmongRows g rows → p g ≡ false
  last_none [] is g here = absurd here
  last_none (row ∷ rows) is g (inl same) = ap p same ∙ missed row.number (p row) (or_none (last_row_with places rows key) (number_if row (p row)) is).1
  last_none (row ∷ rows) is g (inr more) = last_none rows (or_none (last_row_with places rows key) (number_if row (p row)) is).0 g more

  -- ---- the only row that has it

  abbrev pub key_of_row : TableRow → List Value
  key_of_row row = values_at places row.values

  pub one_among : (rows : List TableRow) → repeats same_values (map key_of_row rows) ≡ false → (r : TableRow) → AmongRows r rows → p r ≡ true
      → find p rows ≡ Some r
  one_among [] apart r here hit = absurd here
  one_among (row ∷ rows) apart r (inl same) hit =
      ap (λ b. cond b (Some row) (find p rows)) (ap p (sym same) ∙ hit) ∙ ap (λ (x : TableRow). Some x) (sym same)
  one_among (row ∷ rows) apart r (inr more) hit =
      let parts = or-parts (list_any (same_values (key_of_row row)) (map key_of_row rows)) (repeats same_values (map key_of_row rows)) apart in
      elim (cases_Bool (p row)) [
        | inl too ↦ absurd (true≢false (sym (found_same same_values key_of_row p (λ x y one two. same_both (key_of_row x) (key_of_row y) key one two) row too rows
            (any_among p rows r more hit)) ∙ parts.0))
        | inr miss ↦ ap (λ b. cond b (Some row) (find p rows)) miss ∙ one_among rows parts.1 r more hit
      ]

-- one given row more
pub last_more : (places : List ℕ) (rows : List TableRow) (i : ℕ) (row : TableRow) (old new : BTreeMap RowKey ℕ) (made : RowKey) → i < length rows
    → row ≡ get_or rows i row → made ≡ key_at places row.values → Updates key_order old new made (Some row.number)
    → ((key : List Value) → number_in old key ≡ last_row_with places (take i rows) key)
    → (key : List Value) → number_in new key ≡ last_row_with places (take (i + 1) rows) key
last_more places rows i row old new made within is key_is updates before key =
    updates.0 (record { values = key })
    ∙ ap (λ (k : RowKey). cond (is_at (key_order k) (record { values = key })) (Some row.number) (number_in old key)) key_is
    ∙ ap (λ (o : Option ℕ). cond (has_key places key row) (Some row.number) o) (before key)
    ∙ sym (last_pushed places key (take i rows) row)
    ∙ ap (λ (r : TableRow). last_row_with places (take i rows ++ r ∷ []) key) is
    ∙ ap (λ (l : List TableRow). last_row_with places l key) (sym (take_more rows i row within))

pub last_start : (made : BTreeMap RowKey ℕ) → IsEmpty made → (key : List Value) → number_in made key ≡ None
last_start made empty key = ap (lookup (is_at (key_order (record { values = key })))) empty

-- ---- the rows once others are put

pub record IsPut (rows : List TableRow) (t : Table) (after : List TableRow) : Type 0 where
  pub given : (g : TableRow) → AmongRows g rows → AmongRows g after
  pub kept : (r : TableRow) → AmongRows r t.rows → is_among (numbers rows) r ≡ false → AmongRows r after
  pub from : (r : TableRow) → AmongRows r after → AmongRows r rows ⊎ (AmongRows r t.rows × (is_among (numbers rows) r ≡ false))

takes_among : (rows some : List TableRow) → TakesPlace rows some → (g : TableRow) → AmongRows g some
    → (row : TableRow) → (row.number == g.number) ≡ true → replaced_by rows row ≡ g
takes_among rows [] takes g here = absurd here
takes_among rows (x ∷ xs) takes g (inl same) = λ row is. takes.0 row (ap (λ (y : TableRow). row.number == y.number) (sym same) ∙ is) ∙ sym same
takes_among rows (x ∷ xs) takes g (inr more) = takes_among rows xs takes.1 g more

module _ (rows : List TableRow) (t : Table) (sorted : are_sorted_rows rows ≡ true) where
  abbrev front : List TableRow
  front = map (replaced_by rows) t.rows

  abbrev back : List TableRow
  back = filter (λ row. not (had_row t row)) rows

  placed : (g : TableRow) → AmongRows g rows → (old : List TableRow) → list_any (λ (row : TableRow). row.number == g.number) old ≡ true
      → AmongRows g (map (replaced_by rows) old)
  placed g here [] is = cc
  placed g here (row ∷ old) is = elim (or-cases (row.number == g.number) (list_any (λ (one : TableRow). one.number == g.number) old) is) [
    | inl hit ↦ inl (sym (takes_among rows rows (takes_place rows sorted) g here row hit))
    | inr more ↦ inr (placed g here old more)
  ]

  given_put : (g : TableRow) → AmongRows g rows → AmongRows g (front ++ back)
  given_put g here = elim (cases_Bool (had_row t g)) [
    | inl there ↦ among_left front back g (placed g here t.rows there)
    | inr fresh ↦ among_right front back g (among_filter (λ row. not (had_row t row)) rows g here (ap not fresh))
  ]

  kept_put : (r : TableRow) → AmongRows r t.rows → is_among (numbers rows) r ≡ false → AmongRows r (front ++ back)
  kept_put r here other =
      among_left front back r (subst (λ (x : TableRow). AmongRows x front) (kept_row rows r other) (among_map (replaced_by rows) t.rows r here))

  from_old : (old : List TableRow) (r : TableRow) → AmongRows r (map (replaced_by rows) old)
      → AmongRows r rows ⊎ (AmongRows r old × (is_among (numbers rows) r ≡ false))
  from_old [] r here = absurd here
  from_old (row ∷ old) r (inl same) = elim (cases_Bool (is_among (numbers rows) row)) [
    | inl taken ↦
        let found = found_some rows row rows taken in
        let this : r ≡ found.0 = same ∙ ap (λ (o : Option TableRow). unwrap_or o row) found.1 in
        inl (subst (λ (x : TableRow). AmongRows x rows) (sym this) (found_among (λ (new : TableRow). new.number == row.number) rows found.0 found.1))
    | inr other ↦
        let this : r ≡ row = same ∙ kept_row rows row other in
        inr (inl this, ap (is_among (numbers rows)) this ∙ other)
  ]
  from_old (row ∷ old) r (inr more) = elim (from_old old r more) [
    | inl given ↦ inl given
    | inr kept ↦ inr (inr kept.0, kept.1)
  ]

  from_put : (r : TableRow) → AmongRows r (front ++ back) → AmongRows r rows ⊎ (AmongRows r t.rows × (is_among (numbers rows) r ≡ false))
  from_put r here = elim (among_either front back r here) [
    | inl old ↦ from_old t.rows r old
    | inr new ↦ inl (filter_among (λ row. not (had_row t row)) rows r new)
  ]

  pub rows_put : IsPut rows t (with_put rows t).rows
  rows_put = record { given = given_put; kept = kept_put; from = from_put }

-- ---- the row of the own table that has a key then

module _ (rows : List TableRow) (t : Table) (after : List TableRow) (put : IsPut rows t after) (key : List Value)
    (before_apart : repeats same_values (map (key_of_row t.schema.key key) t.rows) ≡ false)
    (after_apart : repeats same_values (map (key_of_row t.schema.key key) after) ≡ false) where
  abbrev has : TableRow → Bool
  has = has_key t.schema.key key

  abbrev number : Option TableRow → Option ℕ
  number o = option_map (λ (row : TableRow). row.number) o

  -- where no given row has the key
  not_new : last_row_with t.schema.key rows key ≡ None → ((r : TableRow) → AmongRows r t.rows → is_among (numbers rows) r ≡ false → has r ≡ false) → find has after ≡ None
  not_new given old = none_among has after (λ r here. elim (put.from r here) [
    | inl new ↦ last_none t.schema.key key rows given r new
    | inr kept ↦ old r kept.0 kept.1
  ])

  by_old : last_row_with t.schema.key rows key ≡ None → (o : Option TableRow) → find has t.rows ≡ o
      → unless_given (numbers rows) (number o) ≡ number (find has after)
  by_old given None found =
      sym (ap number (not_new given (λ r here other. not-so (has r) (λ hit. true≢false (sym (any_among has t.rows r here hit) ∙ find_none has t.rows found)))))
  by_old given (Some r) found = elim (cases_Bool (is_among (numbers rows) r)) [
    | inl taken ↦
        ap (λ b. if b then None else Some r.number) taken
        ∙ sym (ap number (not_new given (λ x here other. not-so (has x) (λ hit.
        let same : r ≡ x = same-some r x (sym found ∙ one_among t.schema.key key t.rows before_apart x here hit) in
        true≢false (sym taken ∙ ap (is_among (numbers rows)) same ∙ other)))))
    | inr stays ↦
        ap (λ b. if b then None else Some r.number) stays
        ∙ sym (ap number (one_among t.schema.key key after after_apart r (put.kept r (found_among has t.rows r found) stays) (found-passes has t.rows r found)))
  ]

  by_given : (o : Option ℕ) → last_row_with t.schema.key rows key ≡ o
      → option_or o (unless_given (numbers rows) (number_of_key t key)) ≡ number (find has after)
  by_given (Some n) given =
      let g = last_some t.schema.key key rows n given in
      sym (ap number (one_among t.schema.key key after after_apart g.0 (put.given g.0 g.1) g.2) ∙ ap (λ (m : ℕ). Some m) g.3)
  by_given None given = by_old given (find has t.rows) refl

  pub put_is : number_put (last_row_with t.schema.key rows) (numbers rows) t key ≡ number (find has after)
  put_is = by_given (last_row_with t.schema.key rows key) refl

-- ---- the rows that stood, of those that have a key

filter_both : (p s : TableRow → Bool) (rows : List TableRow) → filter (λ row. p row && s row) rows ≡ filter s (filter p rows)
filter_both p s [] = refl
filter_both p s (row ∷ rows) = by (p row) (filter_both p s rows)
  where
    by : (a : Bool) → filter (λ r. p r && s r) rows ≡ filter s (filter p rows)
        → cond (a && s row) (row ∷ filter (λ r. p r && s r) rows) (filter (λ r. p r && s r) rows) ≡ filter s (cond a (row ∷ filter p rows) (filter p rows))
    by true more = ap (λ (l : List TableRow). cond (s row) (row ∷ l) l) more
    by false more = more

pub stood_numbers : (t : Table) (p : TableRow → Bool) (rows : List TableRow) → option_to_list (find p rows) ≡ filter p rows
    → numbers (filter (λ row. p row && had_row t row) rows) ≡ option_to_list (if_stands t (option_map (λ (row : TableRow). row.number) (find p rows)))
stood_numbers t p rows only = ap numbers (filter_both p (had_row t) rows ∙ ap (filter (had_row t)) (sym only)) ∙ by (find p rows)
  where
    one : (r : TableRow) (b : Bool) → numbers (cond b (r ∷ []) []) ≡ option_to_list (if b then Some r.number else None)
    one r true = refl
    one r false = refl

    by : (o : Option TableRow) → numbers (filter (had_row t) (option_to_list o)) ≡ option_to_list (if_stands t (option_map (λ (row : TableRow). row.number) o))
    by None = refl
    by (Some r) = one r (had_row t r)

-- ---- keys that are apart

apart_keys : (places : List ℕ) (rows : List TableRow) → 0 < length places → are_keys_unique places (values_in rows) ≡ true
    → repeats same_values (map (values_at places) (values_in rows)) ≡ false
apart_keys places rows keyed unique =
    keys_apart places rows (length places == 0) refl (ne_eqb (length places) 0 (λ same. omega (arith, same, keyed))) unique

pub apart_rows : (places : List ℕ) (key : List Value) (rows : List TableRow) → 0 < length places → are_keys_unique places (values_in rows) ≡ true
    → repeats same_values (map (key_of_row places key) rows) ≡ false
apart_rows places key rows keyed unique = ap (repeats same_values) (sym (repeats_map places rows)) ∙ apart_keys places rows keyed unique

only_row : (places : List ℕ) (key : List Value) (rows : List TableRow) → 0 < length places → are_keys_unique places (values_in rows) ≡ true
    → option_to_list (find (has_key places key) rows) ≡ filter (has_key places key) rows
only_row places key rows keyed unique = only-one places key rows (apart_keys places rows keyed unique)

-- ---- given rows are sorted

pub numbered_sorted : (n : ℕ) (values : List (List Value)) → are_sorted_rows (numbered_rows n values) ≡ true
numbered_sorted n [] = refl
numbered_sorted n (one ∷ []) = refl
numbered_sorted n (one ∷ two ∷ values) = λ j. lt-ltb n (n + 1) (omega arith) j && numbered_sorted (n + 1) (two ∷ values) j

pub numbers_sorted : (rows : List TableRow) → are_sorted_rows rows ≡ true → are_sorted_numbers (numbers rows) ≡ true
numbers_sorted rows sorted = sorted-under nat_lt (λ (row : TableRow). row.number) rows ∙ sorted

-- ---- rows at their versions

module _ (slots : List RowHistory) (next : ℕ) (order : AreInOrder slots next) (number : ℕ) where
  abbrev its : RowHistory → Bool
  its slot = is_some (current_values slot.changes)

  any_number : list_any (λ (row : TableRow). row.number == number) (rows_now slots) ≡ is_some (find (λ (row : TableRow). (row.number == number) && has_key [] [] row) (rows_now slots))
  any_number =
      any_same (λ (row : TableRow). row.number == number) (λ row. (row.number == number) && true) (λ row. sym (and-true (row.number == number))) (rows_now slots)
      ∙ any_found (λ row. (row.number == number) && true) (rows_now slots)

  in_slot : (slot : RowHistory) → is_some (find (has_key [] []) (option_to_list (row_now slot))) ≡ its slot
  in_slot slot = by (current_values slot.changes)
    where
      by : (now : Option (List Value)) → is_some (find (has_key [] []) (option_to_list (option_map (λ (values : List Value). record { number = slot.number; values = values }) now))) ≡ is_some now
      by None = refl
      by (Some values) = refl

  its_version : (b : Bool) (v : ℕ) → is_some (cond b (Some v) None) ≡ b
  its_version true v = refl
  its_version false v = refl

  by_slot : (o : Option ℕ) → slot_of_row number slots ≡ o
      → list_any (λ (row : TableRow). row.number == number) (rows_now slots) ≡ is_some (version_now (history_of_row number slots))
  by_slot None is =
      let absent : (i : ℕ) → i < length slots → (get_or slots i no_history).number ≡ number → ⊥ =
      λ i below same. none-some i (sym is ∙ slot_here_is slots next order number i below same) in
      any_number ∙ ap is_some (no_slot_has [] [] number slots absent) ∙ sym (ap is_some (version_none slots number absent))
  by_slot (Some slot) is =
      let at = position-Some (is_of_number number) slots slot no_history is in
      let same : (get_or slots slot no_history).number ≡ number = eqb-true (get_or slots slot no_history).number number at.1 in
      any_number
      ∙ ap is_some (row_in_slot [] [] number slots next slot order at.0 same)
      ∙ in_slot (get_or slots slot no_history)
      ∙ sym (ap is_some (version_here slots next order number slot at.0 same) ∙ its_version (its (get_or slots slot no_history)) (version (get_or slots slot no_history).changes))

  -- a row stands exactly where it has a version
  pub stands_is : list_any (λ (row : TableRow). row.number == number) (rows_now slots) ≡ is_some (version_now (history_of_row number slots))
  stands_is = by_slot (slot_of_row number slots) refl

module _ (store : StoreHistory) (name : List ℕ) (h : TableHistory) (next : ℕ) (order : AreInOrder h.slots next) (there : Some h ≡ history_at name store) where
  named : h.name ≡ name
  named = bytes_eq-true h.name name (found-passes (is_history name) store.tables h (sym there))

  abbrev its_member : List ℕ → ℕ → ℕ → Member
  its_member table n v = record { table = table; row = n; version = v }

  version_is : (n v : ℕ) → version_now (history_of_row n h.slots) ≡ Some v → version_at store name n ≡ v
  version_is n v is =
      ap (λ (o : Option TableHistory). option_map_or (λ (x : ℕ). x) (option_and_then (λ (one : TableHistory). version_now (history_of_row n one.slots)) o) 0) (sym there)
      ∙ ap (λ (o : Option ℕ). option_map_or (λ (x : ℕ). x) o 0) is

  by_version : (n : ℕ) (o : Option ℕ) → version_now (history_of_row n h.slots) ≡ o
      → member_at h n ≡ option_map (member_now store name) (if_stands (table_now h) (Some n))
  by_version n None is =
      let gone : has_number (table_now h) n ≡ false = stands_is h.slots next order n ∙ ap is_some is in
      ap (option_map (its_member h.name n)) is
      ∙ sym (ap (λ b. option_map (member_now store name) (if b then Some n else None)) gone)
  by_version n (Some v) is =
      let stands : has_number (table_now h) n ≡ true = stands_is h.slots next order n ∙ ap is_some is in
      ap (option_map (its_member h.name n)) is
      ∙ (λ j. Some (its_member (named j) n (sym (version_is n v is) j)))
      ∙ sym (ap (λ b. option_map (member_now store name) (if b then Some n else None)) stands)

  pub member_is : (number : Option ℕ) → member_of h number ≡ option_map (member_now store name) (if_stands (table_now h) number)
  member_is None = refl
  member_is (Some n) = by_version n (version_now (history_of_row n h.slots)) refl

  -- what is found has the version of now
  abbrev at_now : Option Member → Type 0
  at_now member = IfSome member (IsAtVersion store)

  at_version : (n : ℕ) (o : Option ℕ) → version_now (history_of_row n h.slots) ≡ o → at_now (option_map (its_member h.name n) o)
  at_version n None is = tt
  at_version n (Some v) is =
      ap (option_and_then (λ (one : TableHistory). version_now (history_of_row n one.slots))) (own_history name store h there) ∙ is

  of_number : (number : Option ℕ) → at_now (member_of h number)
  of_number None = tt
  of_number (Some n) = at_version n (version_now (history_of_row n h.slots)) refl

  pub member_version : (number : Option ℕ) (member : Option Member) → member ≡ member_of h number → at_now member
  member_version number member is = subst (λ (o : Option Member). at_now o) (sym is) (of_number number)

-- ---- lists of lists

flat_agree : {X Y : Type 0} (f g : X → List Y) (p : X → Bool) → ((x : X) → p x ≡ true → f x ≡ g x) → (xs : List X) → list_all p xs ≡ true
    → flat_map f xs ≡ flat_map g xs
flat_agree f g p same [] all = refl
flat_agree f g p same (x ∷ xs) all =
    let both = and-parts (p x) (list_all p xs) all in
    λ j. same x both.0 j ++ flat_agree f g p same xs both.1 j

map_flat : {X Y Z : Type 0} (g : Y → Z) (f : X → List Y) (xs : List X) → map g (flat_map f xs) ≡ flat_map (λ x. map g (f x)) xs
map_flat g f [] = refl
map_flat {Z = Z} g f (x ∷ xs) = map-append g (f x) (flat_map f xs) ∙ ap (λ (l : List Z). map g (f x) ++ l) (map_flat g f xs)

flat_options : {X Y : Type 0} (f : X → Option Y) (xs : List X) → flat_map (λ x. option_to_list (f x)) xs ≡ filter_map f xs
flat_options f [] = refl
flat_options {Y = Y} f (x ∷ xs) = ap (λ (l : List Y). option_to_list (f x) ++ l) (flat_options f xs) ∙ by (f x)
  where
    by : (o : Option Y) → option_to_list o ++ filter_map f xs ≡ cons_option o (filter_map f xs)
    by None = refl
    by (Some y) = refl

pub flat_more : {X Y : Type 0} (f : X → List Y) (xs : List X) (i : ℕ) (x : X) → i < length xs → x ≡ get_or xs i x
    → flat_map f (take i xs) ++ f x ≡ flat_map f (take (i + 1) xs)
flat_more {X = X} {Y = Y} f xs i x within is =
    ap (λ (l : List Y). flat_map f (take i xs) ++ l) (sym (append-nil (f x)))
    ∙ sym (flat_map-append f (take i xs) (x ∷ []))
    ∙ ap (λ (y : X). flat_map f (take i xs ++ y ∷ [])) is
    ∙ ap (flat_map f) (sym (take_more xs i x within))

pub options_more : {X Y : Type 0} (f : X → Option Y) (xs : List X) (i : ℕ) (x : X) → i < length xs → x ≡ get_or xs i x
    → filter_map f (take i xs) ++ option_to_list (f x) ≡ filter_map f (take (i + 1) xs)
options_more {Y = Y} f xs i x within is =
    ap (λ (l : List Y). l ++ option_to_list (f x)) (sym (flat_options f (take i xs)))
    ∙ flat_more (λ y. option_to_list (f y)) xs i x within is
    ∙ flat_options f (take (i + 1) xs)

pub all_pushed : {X : Type 0} (P : X → Type 0) (xs : List X) (o : Option X) → AllByRecursion P xs → IfSome o P → AllByRecursion P (xs ++ option_to_list o)
all_pushed P [] None all one = tt
all_pushed P [] (Some x) all one = (one, tt)
all_pushed P (y ∷ xs) o all one = (all.0, all_pushed P xs o all.1 one)

-- ---- all parents of given rows

module _ (store : StoreHistory) (own : TableHistory) (there : history_at own.name store ≡ Some own) (formed : AreWellFormed (tables_now store))
    (rows : List TableRow) (sorted : are_sorted_rows rows ≡ true) (apart : are_apart rows (table_now own) ≡ true) where
  abbrev db : List Table
  db = tables_now store

  abbrev after : List Table
  after = with_changed own.name (with_put rows) db

  abbrev given : List Value → Option ℕ
  given key = last_row_with own.schema.key rows key

  own_found : table_at own.name db ≡ Some (table_now own)
  own_found = now_at own.name store own (sym there)

  -- no two rows of the own table have one key then
  unique_after : are_keys_unique own.schema.key (values_in (with_put rows (table_now own)).rows) ≡ true
  unique_after = unique-clash own.schema.key (with_put rows (table_now own)).rows (is_none-true (key_clash (with_put rows (table_now own))) apart)

  module _ (u : Table) (name : List ℕ) (found : table_at name db ≡ Some u) (keyed : 0 < length u.schema.key) (key : List Value) where
    unique_before : are_keys_unique u.schema.key (values_in u.rows) ≡ true
    unique_before = unique_found db formed name u found

    own_is : is_table own.name u ≡ true → u ≡ table_now own
    own_is hit =
        let by_own : u.name ≡ own.name = bytes_eq-true u.name own.name hit in
        let by_name : u.name ≡ name = bytes_eq-true u.name name (found-passes (is_table name) db u found) in
        same-some u (table_now own) (sym (ap (λ (n : List ℕ). table_at n db) (sym by_own ∙ by_name) ∙ found) ∙ own_found)

    abbrev put_if : Bool → Table
    put_if b = if b then with_put rows u else u

    abbrev number_by : Bool → Option ℕ
    number_by b = if b then number_put given (numbers rows) u key else number_of_key u key

    unique_put : u ≡ table_now own → are_keys_unique u.schema.key (values_in (with_put rows u).rows) ≡ true
    unique_put same = subst (λ (t : Table). are_keys_unique t.schema.key (values_in (with_put rows t).rows) ≡ true) (sym same) unique_after

    put_number : u ≡ table_now own → number_put given (numbers rows) u key ≡ option_map (λ (row : TableRow). row.number) (find (has_key u.schema.key key) (with_put rows u).rows)
    put_number same =
        ap (λ (t : Table). number_put (λ k. last_row_with t.schema.key rows k) (numbers rows) u key) (sym same)
        ∙ put_is rows u (with_put rows u).rows (rows_put rows u sorted) key
        (apart_rows u.schema.key key u.rows keyed unique_before)
        (apart_rows u.schema.key key (with_put rows u).rows keyed (unique_put same))

    by_own : (b : Bool) → is_table own.name u ≡ b
        → numbers (filter (λ row. has_key (put_if b).schema.key key row && had_row u row) (put_if b).rows) ≡ option_to_list (if_stands u (number_by b))
    by_own true hit =
        let same : u ≡ table_now own = own_is hit in
        stood_numbers u (has_key u.schema.key key) (with_put rows u).rows (only_row u.schema.key key (with_put rows u).rows keyed (unique_put same))
        ∙ ap (λ (o : Option ℕ). option_to_list (if_stands u o)) (sym (put_number same))
    by_own false miss = stood_numbers u (has_key u.schema.key key) u.rows (only_row u.schema.key key u.rows keyed unique_before)

    pub parent_numbers : numbers (filter (λ row. has_key (put_if (is_table own.name u)).schema.key key row && had_row u row) (put_if (is_table own.name u)).rows)
        ≡ option_to_list (if_stands u (parent_number given (numbers rows) own.name u key))
    parent_numbers = by_own (is_table own.name u) refl

  -- ---- by one foreign key

  in_list : (name : List ℕ) (o : Option ℕ) → map (member_now store name) (option_to_list o) ≡ option_to_list (option_map (member_now store name) o)
  in_list name None = refl
  in_list name (Some n) = refl

  abbrev origin_of : List ℕ → TableRow → Origin
  origin_of name row = record { table = name; row = row.number }

  at_versions : (name : List ℕ) (some : List TableRow)
      → map (origin_now store) (map (origin_of name) some) ≡ map (member_now store name) (numbers some)
  at_versions name [] = refl
  at_versions name (row ∷ some) = ap (λ (l : List Member). member_now store name row.number ∷ l) (at_versions name some)

  abbrev put_own : Table → Table
  put_own u = if is_table own.name u then with_put rows u else u

  by_key : (f : Foreign) → is_keyed db f ≡ true → (o : Option Table) → table_at f.parent db ≡ o → (r : Option (List Value))
      → map (origin_now store) (parents_in o (option_map put_own o) f r) ≡ option_to_list (parent_in store given (numbers rows) own.name f o r)
  by_key f keyed None is None = refl
  by_key f keyed None is (Some key) = refl
  by_key f keyed (Some u) is None = refl
  by_key f keyed (Some u) is (Some key) =
      at_versions f.parent (filter (λ row. has_key (put_own u).schema.key key row && had_row u row) (put_own u).rows)
      ∙ ap (map (member_now store f.parent)) (parent_numbers u f.parent is (keyed_parent db f u keyed is) key)
      ∙ in_list f.parent (if_stands u (parent_number given (numbers rows) own.name u key))

  by_foreign : (values : List Value) (f : Foreign) → is_keyed db f ≡ true
      → map (origin_now store) (parents_by db after values f) ≡ option_to_list (parent_by store given (numbers rows) own.name values f)
  by_foreign values f keyed =
      ap (λ (o : Option Table). map (origin_now store) (parents_in (table_at f.parent db) o f (reference f values))) (put_found own.name (with_put rows) (λ t. refl) f.parent db)
      ∙ by_key f keyed (table_at f.parent db) refl (reference f values)

  by_row : (values : List Value) (fs : List Foreign) → list_all (is_keyed db) fs ≡ true
      → parents_in_row store given (numbers rows) own.name fs values ≡ map (origin_now store) (flat_map (parents_by db after values) fs)
  by_row values fs keyed =
      sym (map_flat (origin_now store) (parents_by db after values) fs
      ∙ flat_agree (λ f. map (origin_now store) (parents_by db after values f)) (λ f. option_to_list (parent_by store given (numbers rows) own.name values f)) (is_keyed db)
      (by_foreign values) fs keyed
      ∙ flat_options (parent_by store given (numbers rows) own.name values) fs)

  pub parents_are : list_all (is_keyed db) own.schema.foreign ≡ true
      → flat_map (λ (row : TableRow). parents_in_row store given (numbers rows) own.name own.schema.foreign row.values) rows ≡ parents_now store rows (table_now own)
  parents_are keyed =
      ap (λ (f : TableRow → List Member). flat_map f rows) (λ j row. by_row row.values own.schema.foreign keyed j)
      ∙ sym (map_flat (origin_now store) (λ (row : TableRow). flat_map (parents_by db after row.values) own.schema.foreign) rows)
