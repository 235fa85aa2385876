-- The parents that are missing after rows are given, by the tables before, the given rows and the rows that
-- stay.
use Rattle.std.proofs.Common.{◌≡◌, ℕ, ◌+◌, ◌<◌, ◌≤◌, List, [], ◌∷◌, refl, sym, ap, ◌∙◌, subst, Bool, true, false, ◌⊎◌, inl, inr, arith}
use Rattle.std.specs.Prelude.{Option, Some, None, map, find, length, not, unwrap_or, ◌&&◌, ◌||◌, ◌==◌, if◌then◌else◌}
use Rattle.std.specs.List.{filter_map, list_any, list_all}
use Rattle.std.specs.Option.{option_map}
use Rattle.std.proofs.lemmas.Bool.{cases_Bool, ne_eqb}
use Rattle.ldv_value.proofs.Booleans.{and-parts, and-true, or-comm, or-left, or-right, or-false, or-cases, or-parts, not-so, true≢false, same-tests}
use Rattle.ldv_value.proofs.Lists.{list_any-append, found-passes}
use Rattle.ldv_value.proofs.Options.{none-some, same-some}
use Rattle.ldv_value.proofs.SameBytes.{bytes_eq-true, nat_eq-true}
use Rattle.std.proofs.lemmas.Bool.Decides.{Decides-eqb}
use Rattle.sql_model.proofs.UniqueRows.{same_both, found_same, keys_apart, repeats_map}
use Rattle.sql_model.specs.Changes.{numbered_rows, had_row}
use Rattle.sql_model.specs.Keys.{same_values, values_at, repeats}
use Rattle.sql_model.specs.References.{MissingParent, first_in, reference, has_key, missing_key, missing_by, missing_parents}
use Rattle.sql_model.specs.Scope.{same_text, is_table, table_at}
use Rattle.sql_model.specs.Tables.{are_keys_unique}
use Rattle.sql_model.proofs.UniqueKeys.{values_in}
use Rattle.table_store.specs.inner.Afterwards.{has_values, keeps, has_put, put_missing, missing_put, missing_in_row, missing_in_rows}
use Rattle.table_store.specs.Stops.{replaced_by, is_among, had_rows, are_sorted_rows, with_inserted, with_changed}
use Rattle.table_store.specs.Types.{Foreign, Table, TableRow, Value}
use Rattle.table_store.proofs.FirstLaws.{first_flat, first_filter_map, first_agree, first_agree_of, first_map}
use Rattle.table_store.proofs.GivenKeyLaws.{given_rise}
use Rattle.table_store.proofs.InsertLaws.{RisesFrom}

-- two tests that follow from each other
pub any_same : {X : Type 0} (p q : X → Bool) → ((x : X) → p x ≡ q x) → (xs : List X) → list_any p xs ≡ list_any q xs
any_same p q same [] = refl
any_same p q same (x ∷ xs) = λ j. same x j || any_same p q same xs j

-- ---- the table of a name after a change

module _ (own : List ℕ) (change : Table → Table) (named : (t : Table) → (change t).name ≡ t.name) where
  abbrev pub put_in : Table → Table
  put_in t = if is_table own t then change t else t

  put_named : (t : Table) → (put_in t).name ≡ t.name
  put_named t = elim (cases_Bool (is_table own t)) [
    | inl hit ↦ rw hit (named t)
    | inr miss ↦ rw miss refl
  ]

  pub put_found : (name : List ℕ) (db : List Table) → table_at name (with_changed own change db) ≡ option_map put_in (table_at name db)
  put_found name [] = refl
  put_found name (t ∷ ts) = by (is_table name (put_in t)) (is_table name t) (ap (λ (n : List ℕ). same_text n name) (put_named t)) (put_found name ts)
    where
      by : (a b : Bool) → a ≡ b → table_at name (with_changed own change ts) ≡ option_map put_in (table_at name ts)
          → (if a then Some (put_in t) else table_at name (with_changed own change ts)) ≡ option_map put_in (if b then Some t else table_at name ts)
      by true true same more = refl
      by true false same more = cc
      by false true same more = cc
      by false false same more = more

  -- ---- all rows, by all foreign keys

  module _ (has : Table → List Value → Bool) (db : List Table)
      (right : (name : List ℕ) (t : Table) → table_at name db ≡ Some t → (key : List Value)
      → list_any (has_key (put_in t).schema.key key) (put_in t).rows ≡ has t key) where
    missing_one : (values : List Value) (f : Foreign) (o : Option Table) → table_at f.parent db ≡ o → (r : Option (List Value))
        → missing_key (option_map put_in o) f r ≡ put_missing has o f r
    missing_one values f None is None = refl
    missing_one values f None is (Some key) = refl
    missing_one values f (Some t) is None = refl
    missing_one values f (Some t) is (Some key) = ap (missing_if f key) (right f.parent t is key)
      where
        missing_if : Foreign → List Value → Bool → Option MissingParent
        missing_if f key b = if b then None else Some (record { parent = f.parent; key = key })

    missing_of : (values : List Value) (f : Foreign) → missing_by (with_changed own change db) values f ≡ missing_put has db values f
    missing_of values f =
        ap (λ (o : Option Table). missing_key o f (reference f values)) (put_found f.parent db)
        ∙ missing_one values f (table_at f.parent db) refl (reference f values)

    pub missing_are : (fs : List Foreign) (rows : List TableRow)
        → first_in (missing_parents (with_changed own change db) fs rows) ≡ missing_in_rows has db fs (map (λ (row : TableRow). row.values) rows)
    missing_are fs rows =
        first_flat (λ (row : TableRow). filter_map (missing_by (with_changed own change db) row.values) fs) rows
        ∙ first_agree (λ (row : TableRow). first_in (filter_map (missing_by (with_changed own change db) row.values) fs)) (λ (row : TableRow). missing_in_row has db fs row.values)
        (λ row. first_filter_map (missing_by (with_changed own change db) row.values) fs
        ∙ first_agree (missing_by (with_changed own change db) row.values) (missing_put has db row.values) (missing_of row.values) fs) rows
        ∙ sym (first_map (missing_in_row has db fs) (λ (row : TableRow). row.values) rows)

-- ---- one foreign key of a row

abbrev missed : Foreign → List Value → MissingParent
missed f key = record { parent = f.parent; key = key }

abbrev missed_if : Foreign → List Value → Bool → Option MissingParent
missed_if f key b = if b then None else Some (missed f key)

-- ---- foreign keys whose parent is another table

module _ (own : List ℕ) (numbers : List ℕ) (db : List Table) (one two : List Value → Bool) where
  abbrev has_one : Table → List Value → Bool
  has_one = has_put one numbers own

  abbrev has_two : Table → List Value → Bool
  has_two = has_put two numbers own

  -- the keys of given rows don't matter for them
  put_apart : (f : Foreign) → same_text f.parent own ≡ false → (o : Option Table) → table_at f.parent db ≡ o → (r : Option (List Value))
      → put_missing has_one o f r ≡ put_missing has_two o f r
  put_apart f away None is None = refl
  put_apart f away None is (Some key) = refl
  put_apart f away (Some t) is None = refl
  put_apart f away (Some t) is (Some key) =
      let named : t.name ≡ f.parent = bytes_eq-true t.name f.parent (found-passes (is_table f.parent) db t is) in
      let other : is_table own t ≡ false = ap (λ (n : List ℕ). same_text n own) named ∙ away in
      ap (λ (b : Bool). missed_if f key (if b then one key || keeps numbers t key else list_any (has_key t.schema.key key) t.rows)) other
      ∙ sym (ap (λ (b : Bool). missed_if f key (if b then two key || keeps numbers t key else list_any (has_key t.schema.key key) t.rows)) other)

  missing_apart : (fs : List Foreign) → list_any (λ (f : Foreign). same_text f.parent own) fs ≡ false → (rows : List (List Value))
      → missing_in_rows has_one db fs rows ≡ missing_in_rows has_two db fs rows
  missing_apart fs away rows =
      first_agree (missing_in_row has_one db fs) (missing_in_row has_two db fs)
      (λ values. first_agree_of (missing_put has_one db values) (missing_put has_two db values) (λ (f : Foreign). same_text f.parent own)
      (λ f other. put_apart f other (table_at f.parent db) refl (reference f values)) fs away) rows

  -- they are the same, where the table is its own parent
  pub given_same : (fs : List Foreign) (rows : List (List Value)) (b : Bool) → list_any (λ (f : Foreign). same_text f.parent own) fs ≡ b
      → (b ≡ true → (key : List Value) → one key ≡ two key) → missing_in_rows has_one db fs rows ≡ missing_in_rows has_two db fs rows
  given_same fs rows true is same = ap (λ (given : List Value → Bool). missing_in_rows (has_put given numbers own) db fs rows) (λ j key. same refl key j)
  given_same fs rows false is same = missing_apart fs is rows

-- ---- new rows

pub numbered_keys : (places : List ℕ) (key : List Value) (next : ℕ) (rows : List (List Value))
    → list_any (has_key places key) (numbered_rows next rows) ≡ list_any (has_values places key) rows
numbered_keys places key next [] = refl
numbered_keys places key next (values ∷ rows) = ap (λ (b : Bool). has_values places key values || b) (numbered_keys places key (next + 1) rows)

pub inserted_has : (rows : List (List Value)) (t : Table) (key : List Value)
    → list_any (has_key t.schema.key key) (with_inserted rows t).rows
    ≡ (list_any (has_values t.schema.key key) rows || keeps [] t key)
inserted_has rows t key =
    list_any-append (has_key t.schema.key key) t.rows (numbered_rows t.next rows)
    ∙ or-comm (list_any (has_key t.schema.key key) t.rows) (list_any (has_key t.schema.key key) (numbered_rows t.next rows))
    ∙ (λ j. numbered_keys t.schema.key key t.next rows j || any_same (has_key t.schema.key key) (λ row. has_key t.schema.key key row && true) (λ row. sym (and-true (has_key t.schema.key key row))) t.rows j)

-- ---- other values of rows

-- of rows with distinct numbers the one of a number is found by it
abbrev has_number : ℕ → TableRow → Bool
has_number n row = row.number == n

module _ (given : List TableRow) where
  abbrev numbers : List ℕ
  numbers = map (λ (row : TableRow). row.number) given

  -- a row that isn't given stays
  found_none : (row : TableRow) (rows : List TableRow) → list_any (λ (n : ℕ). n == row.number) (map (λ (r : TableRow). r.number) rows) ≡ false
      → find (λ (new : TableRow). new.number == row.number) rows ≡ None
  found_none row [] is = refl
  found_none row (r ∷ rows) is = elim (cases_Bool (r.number == row.number)) [
    | inl hit ↦ let wrong : true ≡ false = rw hit at is in cc
    | inr miss ↦ rw miss (found_none row rows (rw miss at is))
  ]

  pub kept_row : (row : TableRow) → is_among numbers row ≡ false → replaced_by given row ≡ row
  kept_row row is = ap (λ (o : Option TableRow). unwrap_or o row) (found_none row given is)

  pub found_some : (row : TableRow) (rows : List TableRow) → list_any (λ (n : ℕ). n == row.number) (map (λ (r : TableRow). r.number) rows) ≡ true
      → (g : TableRow) × (find (λ (new : TableRow). new.number == row.number) rows ≡ Some g)
  found_some row [] is = cc
  found_some row (r ∷ rows) is = elim (cases_Bool (r.number == row.number)) [
    | inl hit ↦ rw hit (r, refl)
    | inr miss ↦ rw miss (found_some row rows (rw miss at is))
  ]

  -- what is found passes where it is
  found_any : (p q : TableRow → Bool) (rows : List TableRow) (g : TableRow) → find q rows ≡ Some g → p g ≡ true → list_any p rows ≡ true
  found_any p q [] g is hit = cc
  found_any p q (r ∷ rows) g is hit = elim (cases_Bool (q r)) [
    | inl here ↦
        let e : Some r ≡ Some g = rw here at is in
        or-left (p r) (list_any p rows) (ap p (same-some r g e) ∙ hit)
    | inr miss ↦ or-right (p r) (list_any p rows) (found_any p q rows g (rw miss at is) hit)
  ]

  module _ (p : TableRow → Bool) where
    abbrev by_place : TableRow → Bool
    by_place row = if is_among numbers row then p (replaced_by given row) else p row

    -- ---- a row after is a given one, or stays

    one_way : (rows : List TableRow) → list_any p (map (replaced_by given) rows) ≡ true
        → (list_any p given || list_any (λ row. p row && not (is_among numbers row)) rows) ≡ true
    one_way [] is = cc
    one_way (row ∷ rows) is =
        let stay : Bool = list_any (λ r. p r && not (is_among numbers r)) rows in
        elim (or-cases (p (replaced_by given row)) (list_any p (map (replaced_by given) rows)) is) [
          | inl here ↦ elim (cases_Bool (is_among numbers row)) [
            | inl among ↦
                let found = found_some row given among in
                let same : replaced_by given row ≡ found.0 = ap (λ (o : Option TableRow). unwrap_or o row) found.1 in
                or-left (list_any p given) ((p row && not (is_among numbers row)) || stay)
                (found_any p (λ (new : TableRow). new.number == row.number) given found.0 found.1 (sym (ap p same) ∙ here))
            | inr other ↦
                let own : p row ≡ true = sym (ap p (kept_row row other)) ∙ here in
                or-right (list_any p given) ((p row && not (is_among numbers row)) || stay)
                (or-left (p row && not (is_among numbers row)) stay (λ j. own j && not (other j)))
          ]
          | inr more ↦ elim (or-cases (list_any p given) stay (one_way rows more)) [
            | inl some ↦ or-left (list_any p given) ((p row && not (is_among numbers row)) || stay) some
            | inr later ↦ or-right (list_any p given) ((p row && not (is_among numbers row)) || stay) (or-right (p row && not (is_among numbers row)) stay later)
          ]
        ]

    -- ---- and back

    stay_way : (rows : List TableRow) → list_any (λ row. p row && not (is_among numbers row)) rows ≡ true
        → list_any p (map (replaced_by given) rows) ≡ true
    stay_way [] is = cc
    stay_way (row ∷ rows) is = elim (or-cases (p row && not (is_among numbers row)) (list_any (λ r. p r && not (is_among numbers r)) rows) is) [
      | inl here ↦
          let both = and-parts (p row) (not (is_among numbers row)) here in
          or-left (p (replaced_by given row)) (list_any p (map (replaced_by given) rows)) (ap p (kept_row row (not_so (is_among numbers row) both.1)) ∙ both.0)
      | inr more ↦ or-right (p (replaced_by given row)) (list_any p (map (replaced_by given) rows)) (stay_way rows more)
    ]
      where
        not_so : (b : Bool) → not b ≡ true → b ≡ false
        not_so true is = cc
        not_so false is = refl

    -- a given row that stood is there after
    given_there : (g : TableRow) → ((row : TableRow) → (row.number == g.number) ≡ true → replaced_by given row ≡ g) → p g ≡ true
        → (rows : List TableRow) → list_any (λ (old : TableRow). old.number == g.number) rows ≡ true
        → list_any p (map (replaced_by given) rows) ≡ true
    given_there g found hit [] is = cc
    given_there g found hit (row ∷ rows) is = elim (or-cases (row.number == g.number) (list_any (λ (old : TableRow). old.number == g.number) rows) is) [
      | inl here ↦ or-left (p (replaced_by given row)) (list_any p (map (replaced_by given) rows)) (ap p (found row here) ∙ hit)
      | inr more ↦ or-right (p (replaced_by given row)) (list_any p (map (replaced_by given) rows)) (given_there g found hit rows more)
    ]

-- each given row takes the place of that of its number, where the numbers are distinct
abbrev pub TakesPlace : List TableRow → List TableRow → Type 0
TakesPlace given [] = Unit {0}
TakesPlace given (g ∷ gs) = ((row : TableRow) → (row.number == g.number) ≡ true → replaced_by given row ≡ g) × TakesPlace given gs

module _ (given : List TableRow) (t : Table) where
  given_way : (p : TableRow → Bool) (some : List TableRow) → TakesPlace given some → list_all (had_row t) some ≡ true → list_any p some ≡ true
      → list_any p (map (replaced_by given) t.rows) ≡ true
  given_way p [] takes there is = cc
  given_way p (g ∷ gs) takes there is =
      let both = and-parts (had_row t g) (list_all (had_row t) gs) there in
      elim (or-cases (p g) (list_any p gs) is) [
        | inl here ↦ given_there given p g takes.0 here t.rows both.0
        | inr more ↦ given_way p gs takes.1 both.1 more
      ]

  pub replaced_has : TakesPlace given given → had_rows given t ≡ true → (p : TableRow → Bool)
      → list_any p (map (replaced_by given) t.rows)
      ≡ (list_any p given || list_any (λ row. p row && not (is_among (map (λ (r : TableRow). r.number) given) row)) t.rows)
  replaced_has takes there p =
      same-tests (list_any p (map (replaced_by given) t.rows))
      (list_any p given || list_any (λ row. p row && not (is_among (map (λ (r : TableRow). r.number) given) row)) t.rows)
      (one_way given p t.rows)
      (λ is. elim (or-cases (list_any p given) (list_any (λ row. p row && not (is_among (map (λ (r : TableRow). r.number) given) row)) t.rows) is) [
        | inl some ↦ given_way p given takes there some
        | inr stay ↦ stay_way given p t.rows stay
      ])

-- ---- rows that rise by number

abbrev pub AmongRows : TableRow → List TableRow → Type 0
AmongRows g [] = ⊥
AmongRows g (row ∷ rows) = (g ≡ row) ⊎ AmongRows g rows

rises_over : (low : ℕ) (rows : List TableRow) → RisesFrom low rows → (g : TableRow) → AmongRows g rows → low ≤ g.number
rises_over low [] rises g here = absurd here
rises_over low (row ∷ rows) rises g (inl same) = subst (λ (r : TableRow). low ≤ r.number) (sym same) rises.0
rises_over low (row ∷ rows) rises g (inr more) =
    let over : row.number + 1 ≤ g.number = rises_over (row.number + 1) rows rises.1 g more in
    omega (arith, over, rises.0)

found_rise : (low : ℕ) (rows : List TableRow) → RisesFrom low rows → (g : TableRow) → AmongRows g rows → (n : ℕ) → n ≡ g.number
    → find (λ (new : TableRow). new.number == n) rows ≡ Some g
found_rise low [] rises g here n is = absurd here
found_rise low (row ∷ rows) rises g (inl same) n is =
    let hit : (row.number == n) ≡ true = (Decides-eqb row.number n).1 (sym (is ∙ ap (λ (r : TableRow). r.number) same)) in
    rw hit (ap (λ (r : TableRow). Some r) (sym same))
found_rise low (row ∷ rows) rises g (inr more) n is =
    let over : row.number + 1 ≤ g.number = rises_over (row.number + 1) rows rises.1 g more in
    let miss : (row.number == n) ≡ false = ne_eqb row.number n (λ same. omega (arith, same, over, is)) in
    rw miss (found_rise (row.number + 1) rows rises.1 g more n is)

takes_some : (given : List TableRow) → RisesFrom 0 given → (some : List TableRow) → ((g : TableRow) → AmongRows g some → AmongRows g given)
    → TakesPlace given some
takes_some given rises [] among = tt
takes_some given rises (g ∷ gs) among = (
  (λ row same. ap (λ (o : Option TableRow). unwrap_or o row) (found_rise 0 given rises g (among g (inl refl)) row.number (nat_eq-true row.number g.number same))),
  takes_some given rises gs (λ h later. among h (inr later)),
)

pub takes_place : (given : List TableRow) → are_sorted_rows given ≡ true → TakesPlace given given
takes_place given sorted = takes_some given (given_rise given sorted) given (λ g among. among)

-- ---- the row that has a key decides

any_none : {X : Type 0} (p q : X → Bool) (xs : List X) → list_any p xs ≡ false → list_any (λ x. p x && q x) xs ≡ false
any_none p q [] is = refl
any_none p q (x ∷ xs) is =
    let parts = or-parts (p x) (list_any p xs) is in
    λ j. (parts.0 j && q x) || any_none p q xs parts.1 j

pub find_none : {X : Type 0} (p : X → Bool) (xs : List X) → find p xs ≡ None → list_any p xs ≡ false
find_none p [] is = refl
find_none p (x ∷ xs) is = elim (cases_Bool (p x)) [
  | inl hit ↦ let wrong : Some x ≡ None = rw hit at is in cc
  | inr miss ↦ rw miss (find_none p xs (rw miss at is))
]

module _ (places : List ℕ) (key : List Value) (q : TableRow → Bool) where
  abbrev p : TableRow → Bool
  p = has_key places key

  abbrev key_of_row : TableRow → List Value
  key_of_row row = values_at places row.values

  pub none_keeps : (rows : List TableRow) → find p rows ≡ None → list_any (λ row. p row && q row) rows ≡ false
  none_keeps rows is = any_none p q rows (find_none p rows is)

  one_keeps : (rows : List TableRow) → repeats same_values (map key_of_row rows) ≡ false → (row : TableRow) → find p rows ≡ Some row
      → list_any (λ r. p r && q r) rows ≡ q row
  one_keeps [] apart row is = cc
  one_keeps (r ∷ rows) apart row is =
      let parts = or-parts (list_any (same_values (key_of_row r)) (map key_of_row rows)) (repeats same_values (map key_of_row rows)) apart in
      elim (cases_Bool (p r)) [
        | inl hit ↦
            let e : Some r ≡ Some row = rw hit at is in
            let same : r ≡ row = same-some r row e in
            let none : list_any p rows ≡ false = not-so (list_any p rows) (λ some. true≢false
            (sym (found_same same_values key_of_row p (λ x y one two. same_both (key_of_row x) (key_of_row y) key one two) r hit rows some) ∙ parts.0)) in
            rw hit ((λ j. q r || any_none p q rows none j) ∙ or-false (q r) ∙ ap q same)
        | inr miss ↦ rw miss (one_keeps rows parts.1 row (rw miss at is))
      ]

  -- of a table's rows, with unique keys
  pub some_keeps : (rows : List TableRow) → (length places == 0) ≡ false → are_keys_unique places (values_in rows) ≡ true
      → (row : TableRow) → find p rows ≡ Some row → list_any (λ r. p r && q r) rows ≡ q row
  some_keeps rows keyed unique row is =
      one_keeps rows (ap (repeats same_values) (sym (repeats_map places rows)) ∙ keys_apart places rows (length places == 0) refl keyed unique) row is

-- by the number that is found
pub kept_none : (places : List ℕ) (key : List Value) (ns : List ℕ) (rows : List TableRow)
    → option_map (λ (row : TableRow). row.number) (find (has_key places key) rows) ≡ None
    → false ≡ list_any (λ row. has_key places key row && not (is_among ns row)) rows
kept_none places key ns rows is = by (find (has_key places key) rows) refl is
  where
    by : (o : Option TableRow) → find (has_key places key) rows ≡ o → option_map (λ (row : TableRow). row.number) o ≡ None
        → false ≡ list_any (λ row. has_key places key row && not (is_among ns row)) rows
    by None found none = sym (none_keeps places key (λ row. not (is_among ns row)) rows found)
    by (Some row) found none = absurd (none-some row.number (sym none))

pub kept_some : (places : List ℕ) (key : List Value) (ns : List ℕ) (rows : List TableRow) → 0 < length places
    → are_keys_unique places (values_in rows) ≡ true → (n : ℕ)
    → option_map (λ (row : TableRow). row.number) (find (has_key places key) rows) ≡ Some n
    → not (list_any (λ (given : ℕ). given == n) ns) ≡ list_any (λ row. has_key places key row && not (is_among ns row)) rows
kept_some places key ns rows keyed unique n is = by (find (has_key places key) rows) refl is
  where
    some_place : (length places == 0) ≡ false
    some_place = ne_eqb (length places) 0 (λ same. omega (arith, same, keyed))

    by : (o : Option TableRow) → find (has_key places key) rows ≡ o → option_map (λ (row : TableRow). row.number) o ≡ Some n
        → not (list_any (λ (given : ℕ). given == n) ns) ≡ list_any (λ row. has_key places key row && not (is_among ns row)) rows
    by None found some = absurd (none-some n some)
    by (Some row) found some =
        ap (λ (m : ℕ). not (list_any (λ (given : ℕ). given == m) ns)) (sym (same-some row.number n some))
        ∙ sym (some_keeps places key (λ r. not (is_among ns r)) rows some_place unique row found)
