-- The rows that are collected are those to which given rows refer once they are put.
use Rattle.std.proofs.Common.{◌≡◌, ◌==◌, ◌∙◌, ℕ, ◌+◌, ◌<◌, List, [], ◌∷◌, ◌++◌, map, length, get_or, take, refl, sym, ap, subst, Bool, true, false, cond, not, ◌&&◌, ◌||◌, ◌⊎◌, inl, inr, Option, Some, None, is_some, eq-eqb}
use Rattle.std.specs.Prelude.{filter, find, if◌then◌else◌, unwrap_or}
use Rattle.std.specs.BTreeMap.{BTreeMap, IsEmpty, Updates, get, is_at}
use Rattle.std.specs.BTreeSet as tree
use Rattle.std.specs.FinMap.{nat_cmp-IsAntisymmetric}
use Rattle.std.specs.List.{flat_map, list_any, list_all}
use Rattle.std.specs.Option.{option_map, option_map_or, option_or}
use Rattle.std.specs.Ordering.{is_eq, nat_cmp}
use Rattle.std.proofs.lemmas.Bool.{cases_Bool, eqb-true}
use Rattle.std.proofs.lemmas.Cmp.{nat_cmp_total, tied_itself}
use Rattle.std.proofs.lemmas.List.{take_more}
use Rattle.ldv_value.proofs.Booleans.{and-false, and-parts, or-assoc, or-cases, or-false, or-left, or-right, same-tests, true≢false}
use Rattle.ldv_value.proofs.Lists.{found-passes, list_any-append, list_any-map}
use Rattle.ldv_value.proofs.Options.{none-some, same-some}
use Rattle.ldv_value.proofs.Orderings.{is_eq-true}
use Rattle.ldv_value.proofs.SameBytes.{bytes_eq-itself, bytes_eq-true}
use Rattle.sql_model.proofs.SameValues.{is_same, same_exact}
use Rattle.sql_model.proofs.UniqueKeys.{values_in}
use Rattle.sql_model.specs.Changes.{had_row}
use Rattle.sql_model.specs.Keys.{key_at, repeats, same_values, values_at}
use Rattle.sql_model.specs.Meaning.{is_null}
use Rattle.sql_model.specs.QueryAnswer.{Origin}
use Rattle.sql_model.specs.References.{has_key, parents_by, parents_in, reference}
use Rattle.sql_model.specs.Scope.{is_table, same_text, table_at}
use Rattle.sql_model.specs.Tables.{AreWellFormed}
use Rattle.table_store.specs.Referring.{parents_in_db, with_put}
use Rattle.table_store.specs.Stops.{has_number, replaced_by, with_changed}
use Rattle.table_store.specs.Types.{Foreign, RowKey, Table, TableRow, Value}
use Rattle.table_store.specs.inner.Afterwards.{is_keyed}
use Rattle.table_store.specs.inner.ParentRows.{number_of_key}
use Rattle.table_store.specs.inner.ParentSet.{KeysPut, RowName, asks, asks_for, asks_in_row, asks_in_rows, is_asked, is_kept, is_number, is_put, is_row, kept_by, kept_in, kept_in_row, kept_in_rows, kept_number, key_put, name_order, name_stands, put_at, put_in_rows, unless_put}
use Rattle.table_store.proofs.ParentLaws.{among_either, among_filter, among_left, among_map, any_among, apart_rows, filter_among, found_among, key_of_row, one_among}
use Rattle.table_store.proofs.OriginOrder.{has, itself, origin_of, same, same_is}
use Rattle.table_store.proofs.PutLaws.{AmongRows, any_same, put_found}
use Rattle.table_store.proofs.RefusalLaws.{keyed_parent, unique_found}

-- ---- members of lists

abbrev Among : {X : Type 0} → X → List X → Type 0
Among x [] = ⊥
Among x (y ∷ ys) = (x ≡ y) ⊎ Among x ys

some_any : {X : Type 0} (p : X → Bool) (xs : List X) → list_any p xs ≡ true → (x : X) × Among x xs × (p x ≡ true)
some_any p [] is = cc
some_any p (x ∷ xs) is = elim (or-cases (p x) (list_any p xs) is) [
  | inl hit ↦ (x, inl refl, hit)
  | inr more ↦ let found = some_any p xs more in (found.0, inr found.1, found.2)
]

any_some : {X : Type 0} (p : X → Bool) (xs : List X) (x : X) → Among x xs → p x ≡ true → list_any p xs ≡ true
any_some p [] x here hit = absurd here
any_some p (y ∷ ys) x (inl same) hit = or-left (p y) (list_any p ys) (ap p (sym same) ∙ hit)
any_some p (y ∷ ys) x (inr more) hit = or-right (p y) (list_any p ys) (any_some p ys x more hit)

all_some : {X : Type 0} (p : X → Bool) (xs : List X) (x : X) → list_all p xs ≡ true → Among x xs → p x ≡ true
all_some p [] x all here = absurd here
all_some p (y ∷ ys) x all (inl same) = ap p same ∙ (and-parts (p y) (list_all p ys) all).0
all_some p (y ∷ ys) x all (inr more) = all_some p ys x (and-parts (p y) (list_all p ys) all).1 more

any_flat : {X Y : Type 0} (p : Y → Bool) (f : X → List Y) (xs : List X) → list_any p (flat_map f xs) ≡ list_any (λ x. list_any p (f x)) xs
any_flat p f [] = refl
any_flat p f (x ∷ xs) = list_any-append p (f x) (flat_map f xs) ∙ ap (λ (b : Bool). list_any p (f x) || b) (any_flat p f xs)

some_row : (p : TableRow → Bool) (rows : List TableRow) → list_any p rows ≡ true → (r : TableRow) × AmongRows r rows × (p r ≡ true)
some_row p [] is = cc
some_row p (row ∷ rows) is = elim (or-cases (p row) (list_any p rows) is) [
  | inl hit ↦ (row, inl refl, hit)
  | inr more ↦ let found = some_row p rows more in (found.0, inr found.1, found.2)
]

filter_passes : (s : TableRow → Bool) (rows : List TableRow) (r : TableRow) → AmongRows r (filter s rows) → s r ≡ true
filter_passes s [] r here = absurd here
filter_passes s (row ∷ rows) r here = by (λ more. filter_passes s rows r more) (s row) refl here
  where
    by : (AmongRows r (filter s rows) → s r ≡ true) → (b : Bool) → s row ≡ b → AmongRows r (cond b (row ∷ filter s rows) (filter s rows)) → s r ≡ true
    by again true is (inl same) = ap s same ∙ is
    by again true is (inr more) = again more
    by again false is more = again more

map_among : (f : TableRow → TableRow) (rows : List TableRow) (x : TableRow) → AmongRows x (map f rows) → (r : TableRow) × AmongRows r rows × (x ≡ f r)
map_among f [] x here = absurd here
map_among f (row ∷ rows) x (inl same) = (row, inl refl, same)
map_among f (row ∷ rows) x (inr more) = let found = map_among f rows x more in (found.0, inr found.1, found.2)

-- ---- a loop that adds rows

pub any_more : {X : Type 0} (p : X → Bool) (xs : List X) (i : ℕ) (x : X) (a b c : Bool) → i < length xs → x ≡ get_or xs i x
    → b ≡ (a || list_any p (take i xs)) → c ≡ (b || p x) → c ≡ (a || list_any p (take (i + 1) xs))
any_more {X = X} p xs i x a b c within is before step =
    step ∙ ap (λ (o : Bool). o || p x) before ∙ or-assoc a (list_any p (take i xs)) (p x)
    ∙ ap (λ (o : Bool). a || o)
    (ap (λ (o : Bool). list_any p (take i xs) || o) (sym (or-last (p x)))
    ∙ sym (list_any-append p (take i xs) (x ∷ []))
    ∙ ap (λ (y : X). list_any p (take i xs ++ y ∷ [])) is
    ∙ ap (list_any p) (sym (take_more xs i x within)))
  where
    or-last : (b : Bool) → (b || false) ≡ b
    or-last true = refl
    or-last false = refl

-- a row that is put into a set
pub put_name : (old new : tree.BTreeSet RowName) (name : RowName) → tree.Updates name_order old new name true → (q : RowName)
    → tree.contains name_order new q ≡ (tree.contains name_order old q || is_row name q)
put_name old new name updates q = updates.0 q ∙ by (is_row name q) (tree.contains name_order old q)
  where
    by : (b o : Bool) → cond b true o ≡ (o || b)
    by true true = refl
    by true false = refl
    by false true = refl
    by false false = refl

pub no_name : (names : tree.BTreeSet RowName) → tree.IsEmpty names → (q : RowName) → tree.contains name_order names q ≡ false
no_name names empty q = ap (list_any (is_at (name_order q))) empty

-- ---- the keys of given rows by their numbers

pub number_equal : (x y : ℕ) → is_eq (nat_cmp x y) ≡ (x == y)
number_equal x y = same-tests (is_eq (nat_cmp x y)) (x == y)
    (λ tied. eq-eqb x y (nat_cmp-IsAntisymmetric x y (is_eq-true (nat_cmp x y) tied)))
    (λ is. ap (λ (z : ℕ). is_eq (nat_cmp x z)) (sym (eqb-true x y is)) ∙ ap is_eq (tied_itself nat_cmp_total x))

module _ (places : List ℕ) where
  abbrev key_if : ℕ → TableRow → Option RowKey
  key_if number row = cond (row.number == number) (Some (key_at places row.values)) None

  one_put : (row : TableRow) (number : ℕ) → key_put places (row ∷ []) number ≡ key_if number row
  one_put row number = by (row.number == number)
    where
      by : (b : Bool) → option_map (λ (r : TableRow). key_at places r.values) (cond b (Some row) None) ≡ cond b (Some (key_at places row.values)) None
      by true = refl
      by false = refl

  put_append : (rows : List TableRow) (row : TableRow) (number : ℕ)
      → key_put places (rows ++ row ∷ []) number ≡ option_or (key_put places rows number) (key_put places (row ∷ []) number)
  put_append [] row number = refl
  put_append (first ∷ rows) row number = by (first.number == number) (put_append rows row number)
    where
      by : (b : Bool) → key_put places (rows ++ row ∷ []) number ≡ option_or (key_put places rows number) (key_put places (row ∷ []) number)
          → option_map (λ (r : TableRow). key_at places r.values) (cond b (Some first) (find (λ (r : TableRow). r.number == number) (rows ++ row ∷ [])))
          ≡ option_or (option_map (λ (r : TableRow). key_at places r.values) (cond b (Some first) (find (λ (r : TableRow). r.number == number) rows))) (key_put places (row ∷ []) number)
      by true more = refl
      by false more = more

  -- one given row more
  pub key_more : (rows : List TableRow) (i : ℕ) (row : TableRow) (old new : Option RowKey) (number : ℕ) → i < length rows → row ≡ get_or rows i row
      → old ≡ key_put places (take i rows) number → new ≡ option_or old (key_put places (row ∷ []) number)
      → new ≡ key_put places (take (i + 1) rows) number
  key_more rows i row old new number within is before step =
      step ∙ ap (λ (o : Option RowKey). option_or o (key_put places (row ∷ []) number)) before
      ∙ sym (put_append (take i rows) row number)
      ∙ ap (λ (r : TableRow). key_put places (take i rows ++ r ∷ []) number) is
      ∙ ap (λ (l : List TableRow). key_put places l number) (sym (take_more rows i row within))

  module _ (old : BTreeMap ℕ RowKey) (row : TableRow) where
    -- a number that is there keeps its key
    pub key_stays : is_some (get nat_cmp old row.number) ≡ true → (number : ℕ)
        → get nat_cmp old number ≡ option_or (get nat_cmp old number) (key_put places (row ∷ []) number)
    key_stays some number = elim (cases_Bool (row.number == number)) [
      | inl hit ↦
          let at : row.number ≡ number = eqb-true row.number number hit in
          by_some (get nat_cmp old number) (key_put places (row ∷ []) number) (ap (λ (n : ℕ). is_some (get nat_cmp old n)) (sym at) ∙ some)
      | inr miss ↦
          sym (ap (option_or (get nat_cmp old number)) (one_put row number ∙ ap (λ b. cond b (Some (key_at places row.values)) None) miss) ∙ by_none (get nat_cmp old number))
    ]
      where
        by_some : (o more : Option RowKey) → is_some o ≡ true → o ≡ option_or o more
        by_some None more is = cc
        by_some (Some key) more is = refl

        by_none : (o : Option RowKey) → option_or o None ≡ o
        by_none None = refl
        by_none (Some key) = refl

    pub key_added : (new : BTreeMap ℕ RowKey) (made : RowKey) → is_some (get nat_cmp old row.number) ≡ false → made ≡ key_at places row.values
        → Updates nat_cmp old new row.number (Some made) → (number : ℕ)
        → get nat_cmp new number ≡ option_or (get nat_cmp old number) (key_put places (row ∷ []) number)
    key_added new made none is updates number =
        updates.0 number
        ∙ (λ j. cond (number_equal row.number number j) (Some (is j)) (get nat_cmp old number))
        ∙ elim (cases_Bool (row.number == number)) [
          | inl hit ↦
              let at : row.number ≡ number = eqb-true row.number number hit in
              ap (λ b. cond b (Some (key_at places row.values)) (get nat_cmp old number)) hit
              ∙ by_none (get nat_cmp old number) (Some (key_at places row.values)) (ap (λ (n : ℕ). is_some (get nat_cmp old n)) (sym at) ∙ none)
              ∙ ap (option_or (get nat_cmp old number)) (sym (one_put row number ∙ ap (λ b. cond b (Some (key_at places row.values)) None) hit))
          | inr miss ↦
              ap (λ b. cond b (Some (key_at places row.values)) (get nat_cmp old number)) miss
              ∙ by_right (get nat_cmp old number)
              ∙ ap (option_or (get nat_cmp old number)) (sym (one_put row number ∙ ap (λ b. cond b (Some (key_at places row.values)) None) miss))
        ]
      where
        by_none : (o more : Option RowKey) → is_some o ≡ false → more ≡ option_or o more
        by_none None more is = refl
        by_none (Some key) more is = cc

        by_right : (o : Option RowKey) → o ≡ option_or o None
        by_right None = refl
        by_right (Some key) = refl

-- ---- rows by their names

abbrev name_of : List ℕ → ℕ → RowName
name_of table number = (table, number)

row_is : (name q : RowName) → is_row name q ≡ true → q ≡ name
row_is name q is =
    let e : origin_of q ≡ origin_of name = sym (same_is (origin_of name) (origin_of q) is) in
    λ j. ((e j).table, (e j).row)

is_its_row : (name q : RowName) → q ≡ name → is_row name q ≡ true
is_its_row name q e = ap (is_row name) e ∙ ap is_eq (itself (origin_of name))

stood : (u : Table) (r : TableRow) → AmongRows r u.rows → (g : TableRow) → g.number ≡ r.number → had_row u g ≡ true
stood u r here g same_number = any_among (λ (old : TableRow). old.number == g.number) u.rows r here (eq-eqb r.number g.number (sym same_number))

-- ---- by one foreign key

module _ (f : Foreign) (q : RowName) where
  abbrev named : ℕ → RowName
  named n = name_of f.parent n

  abbrev at_row : TableRow → Origin
  at_row row = record { table = f.parent; row = row.number }

  abbrev hits : TableRow → Bool
  hits row = same (origin_of q) (at_row row)

  hit_is : (row : TableRow) → hits row ≡ true → q ≡ named row.number
  hit_is row is =
      let e : origin_of q ≡ at_row row = same_is (origin_of q) (at_row row) is in
      λ j. ((e j).table, (e j).row)

  is_hit : (row : TableRow) → q ≡ named row.number → hits row ≡ true
  is_hit row e = ap (λ (x : RowName). same (origin_of x) (at_row row)) e ∙ ap is_eq (itself (at_row row))

  module _ (u : Table) (key : List Value) where
    abbrev stays : TableRow → Bool
    stays row = has_key u.schema.key key row && had_row u row

    abbrev found_in : List TableRow → Bool
    found_in after = list_any hits (filter stays after)

    in_filter : (after : List TableRow) (g : TableRow) → AmongRows g after → has_key u.schema.key key g ≡ true → had_row u g ≡ true → q ≡ named g.number
        → found_in after ≡ true
    in_filter after g here has_it stood_there e = any_among hits (filter stays after) g (among_filter stays after g here (λ j. has_it j && stood_there j)) (is_hit g e)

    from_filter : (after : List TableRow) → found_in after ≡ true
        → (g : TableRow) × AmongRows g after × (has_key u.schema.key key g ≡ true) × (had_row u g ≡ true) × (q ≡ named g.number)
    from_filter after is =
        let one = some_row hits (filter stays after) is in
        let both = and-parts (has_key u.schema.key key one.0) (had_row u one.0) (filter_passes stays after one.0 one.1) in
        (one.0, filter_among stays after one.0 one.1, both.0, both.1, hit_is one.0 one.2)

    module _ (apart : repeats same_values (map (key_of_row u.schema.key key) u.rows) ≡ false) where
      number_here : (r : TableRow) → AmongRows r u.rows → has_key u.schema.key key r ≡ true → number_of_key u key ≡ Some r.number
      number_here r here hit = ap (option_map (λ (row : TableRow). row.number)) (one_among u.schema.key key u.rows apart r here hit)

      other_there : found_in u.rows ≡ true → is_number f.parent q (number_of_key u key) ≡ true
      other_there is =
          let one = from_filter u.rows is in
          ap (is_number f.parent q) (number_here one.0 one.1 one.2) ∙ is_its_row (named one.0.number) q one.4

      -- a row that a change leaves, or a given row
      module _ (rows : List TableRow) (asked : List Value → Bool) (asks_key : asked key ≡ true) (own : f.parent ≡ u.name) where
        abbrev put : KeysPut
        put = key_put u.schema.key rows

        abbrev is_new : ℕ → TableRow → Bool
        is_new number new = new.number == number

        abbrev Either : Type 0
        Either = (is_number f.parent q (unless_put put (number_of_key u key)) ≡ true) ⊎ (put_in_rows asked put u rows q ≡ true)

        by_given : (x r : TableRow) → AmongRows r u.rows → has_key u.schema.key key x ≡ true → q ≡ named x.number
            → (o : Option TableRow) → find (is_new r.number) rows ≡ o → x ≡ unwrap_or o r → Either
        by_given x r here has_it e None none same_row =
            let its : number_of_key u key ≡ Some r.number = number_here r here (ap (has_key u.schema.key key) (sym same_row) ∙ has_it) in
            let absent : put r.number ≡ None = ap (option_map (λ (row : TableRow). key_at u.schema.key row.values)) none in
            inl (ap (λ (o : Option ℕ). is_number f.parent q (unless_put put o)) its
            ∙ ap (λ (o : Option RowKey). is_number f.parent q (if is_some o then None else Some r.number)) absent
            ∙ is_its_row (named r.number) q (e ∙ ap (λ (y : TableRow). named y.number) same_row))
        by_given x r here has_it e (Some g) some same_row =
            let number : g.number ≡ r.number = eqb-true g.number r.number (found-passes (is_new r.number) rows g some) in
            let its_key : put g.number ≡ Some (key_at u.schema.key g.values) = ap put number ∙ ap (option_map (λ (row : TableRow). key_at u.schema.key row.values)) some in
            let is_key : values_at u.schema.key g.values ≡ key =
            same_exact (values_at u.schema.key g.values) key (ap (has_key u.schema.key key) (sym same_row) ∙ has_it) in
            let asked_for : is_asked asked (put g.number) ≡ true = ap (is_asked asked) its_key ∙ ap asked is_key ∙ asks_key in
            let there : had_row u g ≡ true = stood u r here g number in
            let its_name : q ≡ name_of u.name g.number = e ∙ (λ j. name_of (own j) (same_row j).number) in
            let all : put_at asked put u q g.number ≡ true = λ j. (there j && asked_for j) && is_its_row (name_of u.name g.number) q its_name j in
            inr (any_among (λ (given : TableRow). put_at asked put u q given.number) rows g (found_among (is_new r.number) rows g some) all)

        own_there : found_in (with_put rows u).rows ≡ true → Either
        own_there is =
            let one = from_filter (with_put rows u).rows is in
            elim (among_either (map (replaced_by rows) u.rows) (filter (λ row. not (had_row u row)) rows) one.0 one.1) [
              | inl old ↦
                  let was = map_among (replaced_by rows) u.rows one.0 old in
                  by_given one.0 was.0 was.1 one.2 one.4 (find (is_new was.0.number) rows) refl was.2
              | inr fresh ↦
                  let not_there : not (had_row u one.0) ≡ true = filter_passes (λ row. not (had_row u row)) rows one.0 fresh in
                  let wrong : false ≡ true = ap not (sym one.3) ∙ not_there in
                  cc
            ]

    -- a row by its key
    other_back : is_number f.parent q (number_of_key u key) ≡ true → found_in u.rows ≡ true
    other_back is = by (find (has_key u.schema.key key) u.rows) refl is
      where
        by : (o : Option TableRow) → find (has_key u.schema.key key) u.rows ≡ o → is_number f.parent q (option_map (λ (row : TableRow). row.number) o) ≡ true
            → found_in u.rows ≡ true
        by None none hit = cc
        by (Some r) some hit =
            let here : AmongRows r u.rows = found_among (has_key u.schema.key key) u.rows r some in
            in_filter u.rows r here (found-passes (has_key u.schema.key key) u.rows r some) (stood u r here r refl) (row_is (named r.number) q hit)

    module _ (rows : List TableRow) where
      abbrev put_keys : KeysPut
      put_keys = key_put u.schema.key rows

      -- a row of the table, with the values that are given for it
      in_after : (r g : TableRow) → AmongRows r u.rows → replaced_by rows r ≡ g → AmongRows g (with_put rows u).rows
      in_after r g here same_row =
          among_left (map (replaced_by rows) u.rows) (filter (λ row. not (had_row u row)) rows) g
          (subst (λ (x : TableRow). AmongRows x (map (replaced_by rows) u.rows)) same_row (among_map (replaced_by rows) u.rows r here))

      own_back : is_number f.parent q (unless_put put_keys (number_of_key u key)) ≡ true → found_in (with_put rows u).rows ≡ true
      own_back is = by (find (has_key u.schema.key key) u.rows) refl is
        where
          not_given : (r : TableRow) → AmongRows r u.rows → has_key u.schema.key key r ≡ true → (o : Option TableRow) → find (λ (new : TableRow). new.number == r.number) rows ≡ o
              → is_number f.parent q (if is_some (option_map (λ (row : TableRow). key_at u.schema.key row.values) o) then None else Some r.number) ≡ true
              → found_in (with_put rows u).rows ≡ true
          not_given r here has_it None none hit =
              in_filter (with_put rows u).rows r (in_after r r here (ap (λ (o : Option TableRow). unwrap_or o r) none)) has_it (stood u r here r refl) (row_is (named r.number) q hit)
          not_given r here has_it (Some g) some hit = cc

          by : (o : Option TableRow) → find (has_key u.schema.key key) u.rows ≡ o
              → is_number f.parent q (unless_put put_keys (option_map (λ (row : TableRow). row.number) o)) ≡ true → found_in (with_put rows u).rows ≡ true
          by None none hit = cc
          by (Some r) some hit =
              not_given r (found_among (has_key u.schema.key key) u.rows r some) (found-passes (has_key u.schema.key key) u.rows r some)
              (find (λ (new : TableRow). new.number == r.number) rows) refl hit

      -- a given row
      given_back : (n : ℕ) (r g : TableRow) → AmongRows r u.rows → r.number ≡ n → find (λ (new : TableRow). new.number == n) rows ≡ Some g
          → has_key u.schema.key key g ≡ true → q ≡ named n → found_in (with_put rows u).rows ≡ true
      given_back n r g here number some has_it e =
          let its : g.number ≡ n = eqb-true g.number n (found-passes (λ (new : TableRow). new.number == n) rows g some) in
          let replaced : replaced_by rows r ≡ g = ap (λ (m : ℕ). unwrap_or (find (λ (new : TableRow). new.number == m) rows) r) number ∙ ap (λ (o : Option TableRow). unwrap_or o r) some in
          in_filter (with_put rows u).rows g (in_after r g here replaced) has_it (stood u r here g (its ∙ sym number)) (e ∙ ap named (sym its))

-- ---- all that given rows refer to

module _ (db : List Table) (formed : AreWellFormed db) (t : Table) (found : table_at t.name db ≡ Some t) (rows : List TableRow)
    (all_keyed : list_all (is_keyed db) t.schema.foreign ≡ true) (q : RowName) where
  abbrev fs : List Foreign
  fs = t.schema.foreign

  abbrev keys : KeysPut
  keys = key_put t.schema.key rows

  abbrev asked_of : List Value → Bool
  asked_of = asks_in_rows t.name fs rows

  abbrev put_own : Table → Table
  put_own u = if is_table t.name u then with_put rows u else u

  abbrev after : List Table
  after = with_changed t.name (with_put rows) db

  abbrev refers : List Value → Foreign → Bool
  refers values f = has (origin_of q) (parents_by db after values f)

  abbrev refers_in : Foreign → Option Table → Option (List Value) → Bool
  refers_in f o r = has (origin_of q) (parents_in o (option_map put_own o) f r)

  refers_is : (values : List Value) (f : Foreign) → refers values f ≡ refers_in f (table_at f.parent db) (reference f values)
  refers_is values f =
      ap (λ (o : Option Table). has (origin_of q) (parents_in (table_at f.parent db) o f (reference f values))) (put_found t.name (with_put rows) (λ u. refl) f.parent db)

  in_rows : (f : Foreign) (u v : Table) (key : List Value) → has (origin_of q) (parents_in (Some u) (Some v) f (Some key))
      ≡ list_any (hits f q) (filter (λ row. has_key v.schema.key key row && had_row u row) v.rows)
  in_rows f u v key = list_any-map (same (origin_of q)) (at_row f q) (filter (λ row. has_key v.schema.key key row && had_row u row) v.rows)

  module _ (f : Foreign) (keyed : is_keyed db f ≡ true) (u : Table) (at : table_at f.parent db ≡ Some u) (key : List Value) where
    apart_here : repeats same_values (map (key_of_row u.schema.key key) u.rows) ≡ false
    apart_here = apart_rows u.schema.key key u.rows (keyed_parent db f u keyed at) (unique_found db formed f.parent u at)

    by_name : u.name ≡ f.parent
    by_name = bytes_eq-true u.name f.parent (found-passes (is_table f.parent) db u at)

    module _ (hit : is_table t.name u ≡ true) where
      by_own : u.name ≡ t.name
      by_own = bytes_eq-true u.name t.name hit

      own_table : u ≡ t
      own_table = same-some u t (sym (ap (λ (n : List ℕ). table_at n db) (sym by_own ∙ by_name) ∙ at) ∙ found)

    abbrev put_if : Bool → Table
    put_if b = if b then with_put rows u else u

    abbrev stood_in : Bool → Bool
    stood_in b = list_any (hits f q) (filter (λ row. has_key (put_if b).schema.key key row && had_row u row) (put_if b).rows)

    abbrev number_if : Bool → Option ℕ
    number_if b = if b then unless_put keys (number_of_key u key) else number_of_key u key

    abbrev OneOf : Option ℕ → Type 0
    OneOf number = (is_number f.parent q number ≡ true) ⊎ (put_in_rows asked_of keys t rows q ≡ true)

    there_by : ((asked_of key ≡ true) ⊎ (is_table t.name u ≡ false)) → (b : Bool) → is_table t.name u ≡ b → stood_in b ≡ true → OneOf (number_if b)
    there_by asks false miss stands = inl (other_there f q u key apart_here stands)
    there_by (inr miss) true hit stands = absurd (true≢false (sym hit ∙ miss))
    there_by (inl asks_key) true hit stands =
        let is_own : u ≡ t = own_table hit in
        let either = own_there f q u key apart_here rows asked_of asks_key (sym by_name) stands in
        elim either [
          | inl kept ↦ inl (ap (λ (v : Table). is_number f.parent q (unless_put (key_put v.schema.key rows) (number_of_key u key))) (sym is_own) ∙ kept)
          | inr given ↦ inr (ap (λ (v : Table). put_in_rows asked_of (key_put v.schema.key rows) v rows q) (sym is_own) ∙ given)
        ]

    back_by : (b : Bool) → is_table t.name u ≡ b → is_number f.parent q (number_if b) ≡ true → stood_in b ≡ true
    back_by false miss is = other_back f q u key is
    back_by true hit is =
        own_back f q u key rows (ap (λ (v : Table). is_number f.parent q (unless_put (key_put v.schema.key rows) (number_of_key u key))) (own_table hit) ∙ is)

  -- a row to which values refer is one of the two
  there : (values : List Value) (f : Foreign) → is_keyed db f ≡ true
      → ((key : List Value) → reference f values ≡ Some key → f.parent ≡ t.name → asked_of key ≡ true)
      → refers values f ≡ true → (is_kept keys db t.name values q f ≡ true) ⊎ (put_in_rows asked_of keys t rows q ≡ true)
  there values f keyed asking is = by (table_at f.parent db) refl (reference f values) refl (sym (refers_is values f) ∙ is)
    where
      by : (o : Option Table) → table_at f.parent db ≡ o → (r : Option (List Value)) → reference f values ≡ r → refers_in f o r ≡ true
          → (is_number f.parent q (kept_in keys t.name o r) ≡ true) ⊎ (put_in_rows asked_of keys t rows q ≡ true)
      by None at None ref hit = cc
      by None at (Some key) ref hit = cc
      by (Some u) at None ref hit = cc
      by (Some u) at (Some key) ref hit =
          let asks : (asked_of key ≡ true) ⊎ (is_table t.name u ≡ false) = elim (cases_Bool (is_table t.name u)) [
            | inl own ↦ inl (asking key ref (sym (by_name f keyed u at key) ∙ by_own f keyed u at key own))
            | inr other ↦ inr other
          ] in
          there_by f keyed u at key asks (is_table t.name u) refl (sym (in_rows f u (put_own u) key) ∙ hit)

  back : (values : List Value) (f : Foreign) → is_keyed db f ≡ true → is_kept keys db t.name values q f ≡ true → refers values f ≡ true
  back values f keyed is = refers_is values f ∙ by (table_at f.parent db) refl (reference f values) is
    where
      by : (o : Option Table) → table_at f.parent db ≡ o → (r : Option (List Value)) → is_number f.parent q (kept_in keys t.name o r) ≡ true → refers_in f o r ≡ true
      by None at None hit = cc
      by None at (Some key) hit = cc
      by (Some u) at None hit = cc
      by (Some u) at (Some key) hit = in_rows f u (put_own u) key ∙ back_by f keyed u at key (is_table t.name u) refl hit

  -- a given row that is asked for is one to which a given row refers
  refers_own : (values : List Value) (f : Foreign) → f.parent ≡ t.name → (wanted : List Value) → reference f values ≡ Some wanted
      → found_in f q t wanted (with_put rows t).rows ≡ true → refers values f ≡ true
  refers_own values f own wanted ref stands =
      let at : table_at f.parent db ≡ Some t = ap (λ (n : List ℕ). table_at n db) own ∙ found in
      refers_is values f
      ∙ (λ j. refers_in f (at j) (ref j))
      ∙ in_rows f t (put_own t) wanted
      ∙ ap (λ b. list_any (hits f q) (filter (λ row. has_key (if b then with_put rows t else t).schema.key wanted row && had_row t row) (if b then with_put rows t else t).rows)) (bytes_eq-itself t.name)
      ∙ stands

  abbrev any_refers : Bool
  any_refers = list_any (λ (row : TableRow). list_any (refers row.values) fs) rows

  refers_some : (row : TableRow) → Among row rows → (f : Foreign) → Among f fs → refers row.values f ≡ true → any_refers ≡ true
  refers_some row here f among is = any_some (λ (one : TableRow). list_any (refers one.values) fs) rows row here (any_some (refers row.values) fs f among is)

  asked_back : (n : ℕ) (r g : TableRow) → AmongRows r t.rows → r.number ≡ n → find (λ (new : TableRow). new.number == n) rows ≡ Some g → q ≡ name_of t.name n
      → asked_of (values_at t.schema.key g.values) ≡ true → any_refers ≡ true
  asked_back n r g here number some e asks_it =
      let key : List Value = values_at t.schema.key g.values in
      let one = some_any (λ (row : TableRow). asks_in_row t.name fs row.values key) rows asks_it in
      let two = some_any (asks t.name one.0.values key) fs one.2 in
      let both = and-parts (same_text two.0.parent t.name) (asks_for key (reference two.0 one.0.values)) two.2 in
      let own : two.0.parent ≡ t.name = bytes_eq-true two.0.parent t.name both.0 in
      refers_some one.0 one.1 two.0 two.1 (by one.0.values two.0 own (reference two.0 one.0.values) refl both.1)
    where
      by : (values : List Value) (f : Foreign) → f.parent ≡ t.name → (o : Option (List Value)) → reference f values ≡ o
          → asks_for (values_at t.schema.key g.values) o ≡ true → refers values f ≡ true
      by values f own None ref hit = cc
      by values f own (Some wanted) ref hit =
          let is_key : wanted ≡ values_at t.schema.key g.values = same_exact wanted (values_at t.schema.key g.values) hit in
          refers_own values f own wanted ref
          (given_back f q t wanted rows n r g here number some (is_same (values_at t.schema.key g.values) wanted (sym is_key)) (e ∙ (λ j. name_of (sym own j) n)))

  put_back : put_in_rows asked_of keys t rows q ≡ true → any_refers ≡ true
  put_back is =
      let one = some_any (λ (given : TableRow). put_at asked_of keys t q given.number) rows is in
      let n : ℕ = one.0.number in
      let parts = and-parts (is_put asked_of keys t n) (is_row (name_of t.name n) q) one.2 in
      let both = and-parts (has_number t n) (is_asked asked_of (keys n)) parts.0 in
      let stands = some_row (λ (row : TableRow). row.number == n) t.rows both.0 in
      by n stands.0 stands.1 (eqb-true stands.0.number n stands.2) (row_is (name_of t.name n) q parts.1) (find (λ (new : TableRow). new.number == n) rows) refl both.1
    where
      by : (n : ℕ) (r : TableRow) → AmongRows r t.rows → r.number ≡ n → q ≡ name_of t.name n → (o : Option TableRow) → find (λ (new : TableRow). new.number == n) rows ≡ o
          → is_asked asked_of (option_map (λ (row : TableRow). key_at t.schema.key row.values) o) ≡ true → any_refers ≡ true
      by n r here number e None none hit = cc
      by n r here number e (Some g) some hit = asked_back n r g here number some e hit

  asks_its : (row : TableRow) → Among row rows → (f : Foreign) → Among f fs → (key : List Value) → reference f row.values ≡ Some key → f.parent ≡ t.name → asked_of key ≡ true
  asks_its row here f among key ref own =
      let text : same_text f.parent t.name ≡ true = ap (λ (n : List ℕ). same_text n t.name) own ∙ bytes_eq-itself t.name in
      let wants : asks_for key (reference f row.values) ≡ true = ap (asks_for key) ref ∙ is_same key key refl in
      any_some (λ (one : TableRow). asks_in_row t.name fs one.values key) rows row here (any_some (asks t.name row.values key) fs f among (λ j. text j && wants j))

  abbrev kept : Bool
  kept = kept_in_rows keys db t.name fs rows q

  abbrev given : Bool
  given = put_in_rows asked_of keys t rows q

  forward : any_refers ≡ true → (kept || given) ≡ true
  forward is =
      let one = some_any (λ (row : TableRow). list_any (refers row.values) fs) rows is in
      let two = some_any (refers one.0.values) fs one.2 in
      elim (there one.0.values two.0 (all_some (is_keyed db) fs two.0 all_keyed two.1) (asks_its one.0 one.1 two.0 two.1) two.2) [
        | inl stays ↦ or-left kept given (any_some (λ (row : TableRow). kept_in_row keys db t.name fs row.values q) rows one.0 one.1 (any_some (is_kept keys db t.name one.0.values q) fs two.0 two.1 stays))
        | inr new ↦ or-right kept given new
      ]

  backward : (kept || given) ≡ true → any_refers ≡ true
  backward is = elim (or-cases kept given is) [
    | inl stays ↦
        let one = some_any (λ (row : TableRow). kept_in_row keys db t.name fs row.values q) rows stays in
        let two = some_any (is_kept keys db t.name one.0.values q) fs one.2 in
        refers_some one.0 one.1 two.0 two.1 (back one.0.values two.0 (all_some (is_keyed db) fs two.0 all_keyed two.1) two.2)
    | inr new ↦ put_back new
  ]

  all_refer : has (origin_of q) (parents_in_db rows db t) ≡ any_refers
  all_refer =
      any_flat (same (origin_of q)) (λ (row : TableRow). flat_map (parents_by db after row.values) fs) rows
      ∙ any_same (λ (row : TableRow). list_any (same (origin_of q)) (flat_map (parents_by db after row.values) fs)) (λ row. list_any (refers row.values) fs)
      (λ row. any_flat (same (origin_of q)) (parents_by db after row.values) fs) rows

  -- what they refer to is there
  stands_by : (f : Foreign) (u : Table) → table_at f.parent db ≡ Some u → (key : List Value) (b : Bool)
      → list_any (hits f q) (filter (λ row. has_key (if b then with_put rows u else u).schema.key key row && had_row u row) (if b then with_put rows u else u).rows) ≡ true
      → name_stands db q ≡ true
  stands_by f u at key b is = by b is
    where
      one : (some : List TableRow) → found_in f q u key some ≡ true → name_stands db q ≡ true
      one some hit =
          let g = from_filter f q u key some hit in
          ap (name_stands db) g.4 ∙ ap (λ (o : Option Table). option_map_or (λ (v : Table). has_number v g.0.number) o false) at ∙ g.3

      by : (b : Bool) → list_any (hits f q) (filter (λ row. has_key (if b then with_put rows u else u).schema.key key row && had_row u row) (if b then with_put rows u else u).rows) ≡ true
          → name_stands db q ≡ true
      by true hit = one (with_put rows u).rows hit
      by false hit = one u.rows hit

  refers_stands : (values : List Value) (f : Foreign) → refers values f ≡ true → name_stands db q ≡ true
  refers_stands values f is = by (table_at f.parent db) refl (reference f values) (sym (refers_is values f) ∙ is)
    where
      by : (o : Option Table) → table_at f.parent db ≡ o → (r : Option (List Value)) → refers_in f o r ≡ true → name_stands db q ≡ true
      by None at None hit = cc
      by None at (Some key) hit = cc
      by (Some u) at None hit = cc
      by (Some u) at (Some key) hit = stands_by f u at key (is_table t.name u) (sym (in_rows f u (put_own u) key) ∙ hit)

  pub all_stand : has (origin_of q) (parents_in_db rows db t) ≡ true → name_stands db q ≡ true
  all_stand is =
      let one = some_any (λ (row : TableRow). list_any (refers row.values) fs) rows (sym all_refer ∙ is) in
      let two = some_any (refers one.0.values) fs one.2 in
      refers_stands one.0.values two.0 two.2

  pub all_found : has (origin_of q) (parents_in_db rows db t) ≡ (kept || given)
  all_found = all_refer ∙ same-tests any_refers (kept || given) forward backward

-- ---- the key to which values refer by a foreign key

module _ (own : List ℕ) (values : List Value) (f : Foreign) (key : List Value) (old : Bool) where
  abbrev wants : Bool → Bool → Bool
  wants parent null = old || (parent && asks_for key (if null then None else Some (values_at f.columns values)))

  abbrev is_own : Bool
  is_own = same_text f.parent own

  abbrev is_none : Bool
  is_none = list_any is_null (values_at f.columns values)

  pub asks_other : is_own ≡ false → old ≡ (old || asks own values key f)
  asks_other other = sym (ap (λ b. wants b is_none) other ∙ or-false old)

  pub asks_null : is_none ≡ true → old ≡ (old || asks own values key f)
  asks_null none = sym (ap (wants is_own) none ∙ ap (λ b. old || b) (and-false is_own) ∙ or-false old)

  pub asks_key : is_own ≡ true → is_none ≡ false → (made : List Value) → made ≡ values_at f.columns values
      → (old || same_values made key) ≡ (old || asks own values key f)
  asks_key own_key some made is = ap (λ (v : List Value). old || same_values v key) is ∙ sym ((λ j. wants (own_key j) is_none) ∙ ap (wants true) some)

-- ---- the row that isn't given to which values refer by a foreign key

module _ (put : KeysPut) (db : List Table) (own : List ℕ) (values : List Value) (f : Foreign) where
  abbrev of_null : Bool → Option ℕ
  of_null b = kept_in put own (table_at f.parent db) (if b then None else Some (values_at f.columns values))

  none_of : (o : Option Table) → None ≡ kept_in put own o None
  none_of None = refl
  none_of (Some u) = refl

  pub kept_null : list_any is_null (values_at f.columns values) ≡ true → None ≡ kept_by put db own values f
  kept_null none = none_of (table_at f.parent db) ∙ sym (ap of_null none)

  pub kept_key : list_any is_null (values_at f.columns values) ≡ false → (key : List Value) → key ≡ values_at f.columns values
      → kept_in put own (table_at f.parent db) (Some key) ≡ kept_by put db own values f
  kept_key some key is = ap (λ (k : List Value). kept_in put own (table_at f.parent db) (Some k)) is ∙ sym (ap of_null some)

  pub kept_none : (old : Bool) (row : RowName) → None ≡ kept_by put db own values f → old ≡ (old || is_kept put db own values row f)
  kept_none old row none = sym (ap (λ (o : Option ℕ). old || is_number f.parent row o) (sym none) ∙ or-false old)

  pub kept_some : (old : Bool) (row : RowName) (table : List ℕ) (n : ℕ) → Some n ≡ kept_by put db own values f → table ≡ f.parent
      → (old || is_row (table, n) row) ≡ (old || is_kept put db own values row f)
  kept_some old row table n some is = (λ j. old || is_row (is j, n) row) ∙ ap (λ (o : Option ℕ). old || is_number f.parent row o) some

-- ---- the rows that are left of a set

pub fewer_names : (left rest all : tree.BTreeSet RowName) (name : RowName) → left.keys ≡ name ∷ rest.keys
    → ((q : RowName) → tree.contains name_order left q ≡ true → tree.contains name_order all q ≡ true)
    → (q : RowName) → tree.contains name_order rest q ≡ true → tree.contains name_order all q ≡ true
fewer_names left rest all name split fewer q is =
    fewer q (ap (list_any (is_at (name_order q))) split ∙ or-right (is_at (name_order q) name) (tree.contains name_order rest q) is)
