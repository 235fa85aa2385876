-- The needed rows of one table: sorted, and with the rows of a refused key.
use Rattle.std.proofs.Common.{◌≡◌, ◌==◌, ℕ, suc, ◌+◌, ◌<◌, inl, inr, Bool, true, false, not, cond, List, [], ◌∷◌, ◌++◌, map, refl, ap, sym, ◌∙◌, arith, Option, Some, None, eq-eqb, append-nil}
use Rattle.std.specs.Prelude.{nat_lt, nat_le, filter, slice_get, if◌then◌else◌}
use Rattle.std.specs.List.{insert, position_or_len}
use Rattle.std.specs.Option.{option_map, option_map_or}
use Rattle.std.specs.Ordering.{nat_cmp, is_lt}
use Rattle.std.specs.Cmp.{nat_cmp_is}
use Rattle.std.specs.declared.cmp.Ordering.TheVariants.{Less, Equal, Greater}
use Rattle.std.proofs.lemmas.Bool.{ne_eqb, lt-ltb, le-ltb, le-leb, lt-leb, ltb-true, cases_lt, cases_eq}
use Rattle.std.proofs.lemmas.List.{map-append}
use Rattle.ldv_value.proofs.Booleans.{and-parts}
use Rattle.ldv_value.proofs.Lists.{map-map}
use Rattle.ldv_value.proofs.SameBytes.{bytes_eq-itself}
use Rattle.ldv_value.specs.Sorted.{is_strictly_sorted}
use Rattle.sql_model.specs.Needs.{NeededRow, needed_row, put_row, sorted_needs, Versions, matched_row, key_row, had_row, read_of}
use Rattle.sql_model.proofs.NewNumbers.{row_precedes}
use Rattle.table_store.specs.Stops.{stood_number}
use Rattle.dml_versions.specs.inner.Needing.{put_need, put_some}
use Rattle.dml_versions.proofs.NumberLaws.{AreSorted}
use Rattle.dml_versions.specs.Types.{Need, Rule, L, K, Table, TableRow}
use Rattle.ldv_value.proofs.Numbers.{apart-above}

-- a row by its number, and the rule by which it is needed
abbrev pub Numbered : Type 0
Numbered = ℕ × Rule

-- ---- two numbers

-- the same, or the one before the other
pub data Order (a b : ℕ) : Type 0 where
  Same : a ≡ b → Order a b
  Before : a < b → Order a b
  After : b < a → Order a b

order_of : (a b : ℕ) → Order a b
order_of a b = elim (cases_lt a b) [
  | inl less ↦ Before less
  | inr more ↦ elim (cases_eq a b) [
    | inl same ↦ Same same
    | inr apart ↦ After (omega (arith, more, apart))
  ]
]

is_same : (a b : ℕ) → a ≡ b → (a == b) ≡ true
is_same a b same = eq-eqb a b same

not_before : (a b : ℕ) → a < b → (a == b) ≡ false
not_before a b less = ne_eqb a b (λ same. absurd (omega (arith, less, same)))

is_after : (a b : ℕ) → b < a → nat_lt a b ≡ false
is_after a b more = le-ltb a b (omega (arith, more))

-- ---- lists of such rows

-- in its place, and in place of the same row
abbrev put : Numbered → List Numbered → List Numbered
put n [] = n ∷ []
put n (m ∷ ms) = cond (n.0 == m.0) (n ∷ ms) (cond (nat_lt n.0 m.0) (n ∷ m ∷ ms) (m ∷ put n ms))

-- in its place, unless the same row is there
abbrev add : Numbered → List Numbered → List Numbered
add n [] = n ∷ []
add n (m ∷ ms) = cond (n.0 == m.0) (m ∷ ms) (cond (nat_lt n.0 m.0) (n ∷ m ∷ ms) (m ∷ add n ms))

abbrev sorted : List Numbered → List Numbered
sorted [] = []
sorted (n ∷ ns) = put n (sorted ns)

-- where the row of `a` is there it is `a`, whatever is added besides
module _ (a k : Numbered) where
  put_add : (ms : List Numbered) → put a (add k ms) ≡ add k (put a ms)
  put_add [] = elim (order_of a.0 k.0) [
    | Same is ↦ simp (is_same a.0 k.0 is, is_same k.0 a.0 (sym is))
    | Before less ↦ simp (not_before a.0 k.0 less, lt-ltb a.0 k.0 less, apart-above k.0 a.0 less, is_after k.0 a.0 less)
    | After more ↦ simp (apart-above a.0 k.0 more, is_after a.0 k.0 more, not_before k.0 a.0 more, lt-ltb k.0 a.0 more)
  ]
  put_add (m ∷ ms) = by (order_of k.0 m.0) (order_of a.0 m.0) (order_of a.0 k.0) (put_add ms)
    where
      by : Order k.0 m.0 → Order a.0 m.0 → Order a.0 k.0 → put a (add k ms) ≡ add k (put a ms) → put a (add k (m ∷ ms)) ≡ add k (put a (m ∷ ms))
      by (Same km) (Same am) ak rest = let ka : k.0 ≡ a.0 = km ∙ sym am in simp (is_same k.0 m.0 km, is_same a.0 m.0 am, is_same k.0 a.0 ka)
      by (Same km) (Before am) ak rest =
          let ka : a.0 < k.0 = omega (arith, km, am) in
          simp (is_same k.0 m.0 km, not_before a.0 m.0 am, lt-ltb a.0 m.0 am, apart-above k.0 a.0 ka, is_after k.0 a.0 ka)
      by (Same km) (After am) ak rest = simp (is_same k.0 m.0 km, apart-above a.0 m.0 am, is_after a.0 m.0 am)
      by (Before km) (Same am) ak rest =
          let ka : k.0 < a.0 = omega (arith, km, am) in
          simp (not_before k.0 m.0 km, lt-ltb k.0 m.0 km, is_same a.0 m.0 am, not_before k.0 a.0 ka, lt-ltb k.0 a.0 ka, apart-above a.0 k.0 ka, is_after a.0 k.0 ka)
      by (Before km) (Before am) (Same is) rest = simp (not_before k.0 m.0 km, lt-ltb k.0 m.0 km, not_before a.0 m.0 am, lt-ltb a.0 m.0 am, is_same a.0 k.0 is, is_same k.0 a.0 (sym is))
      by (Before km) (Before am) (Before less) rest = simp (not_before k.0 m.0 km, lt-ltb k.0 m.0 km, not_before a.0 m.0 am, lt-ltb a.0 m.0 am, not_before a.0 k.0 less, lt-ltb a.0 k.0 less, apart-above k.0 a.0 less, is_after k.0 a.0 less)
      by (Before km) (Before am) (After more) rest = simp (not_before k.0 m.0 km, lt-ltb k.0 m.0 km, not_before a.0 m.0 am, lt-ltb a.0 m.0 am, apart-above a.0 k.0 more, is_after a.0 k.0 more, not_before k.0 a.0 more, lt-ltb k.0 a.0 more)
      by (Before km) (After am) ak rest =
          let ka : k.0 < a.0 = omega (arith, km, am) in
          simp (not_before k.0 m.0 km, lt-ltb k.0 m.0 km, apart-above a.0 m.0 am, is_after a.0 m.0 am, apart-above a.0 k.0 ka, is_after a.0 k.0 ka)
      by (After km) (Same am) ak rest =
          let ka : a.0 < k.0 = omega (arith, km, am) in
          simp (apart-above k.0 m.0 km, is_after k.0 m.0 km, is_same a.0 m.0 am, apart-above k.0 a.0 ka, is_after k.0 a.0 ka)
      by (After km) (Before am) ak rest =
          let ka : a.0 < k.0 = omega (arith, km, am) in
          simp (apart-above k.0 m.0 km, is_after k.0 m.0 km, not_before a.0 m.0 am, lt-ltb a.0 m.0 am, apart-above k.0 a.0 ka, is_after k.0 a.0 ka)
      by (After km) (After am) ak rest = rw (apart-above k.0 m.0 km, is_after k.0 m.0 km, apart-above a.0 m.0 am, is_after a.0 m.0 am) (simp (apart-above k.0 m.0 km, is_after k.0 m.0 km) (ap (λ (l : List Numbered). m ∷ l) rest))

-- rows that are put onto a list
abbrev put_all : List Numbered → List Numbered → List Numbered
put_all [] others = others
put_all (n ∷ ns) others = put n (put_all ns others)

put_all_add : (ns : List Numbered) (k : Numbered) (others : List Numbered) → put_all ns (add k others) ≡ add k (put_all ns others)
put_all_add [] k others = refl
put_all_add (n ∷ ns) k others = ap (put n) (put_all_add ns k others) ∙ put_add n k (put_all ns others)

sorted_both : (ns others : List Numbered) → sorted (ns ++ others) ≡ put_all ns (sorted others)
sorted_both [] others = refl
sorted_both (n ∷ ns) others = ap (put n) (sorted_both ns others)

sorted_alone : (ns : List Numbered) → put_all ns [] ≡ sorted ns
sorted_alone [] = refl
sorted_alone (n ∷ ns) = ap (put n) (sorted_alone ns)

abbrev alone : Rule → ℕ → List Numbered
alone rule n = (n, rule) ∷ []

-- two rows of one rule
two_of : (rule : Rule) (a b : ℕ) → put (a, rule) ((b, rule) ∷ []) ≡ add (a, rule) ((b, rule) ∷ [])
two_of rule a b = elim (order_of a b) [
  | Same is ↦ simp (is_same a b is) (ap (alone rule) is)
  | Before less ↦ simp (not_before a b less, lt-ltb a b less)
  | After more ↦ simp (apart-above a b more, is_after a b more)
]

-- the two rows of a refused key, as far as they stood
abbrev keys : Option ℕ → Option ℕ → List Numbered
keys None None = []
keys None (Some b) = (b, K) ∷ []
keys (Some a) None = (a, K) ∷ []
keys (Some a) (Some b) = (a, K) ∷ (b, K) ∷ []

-- ---- needed rows of a table

module _ (name : List ℕ) where
  abbrev pub needed : Numbered → NeededRow
  needed n = needed_row n.1 name n.0

  less_is : (a b : ℕ) → is_lt (nat_cmp a b) ≡ nat_lt a b
  less_is a b = elim (order_of a b) [
    | Same is ↦ ap is_lt (sym (nat_cmp_is a b Equal is)) ∙ sym (le-ltb a b (omega (arith, is)))
    | Before less ↦ ap is_lt (sym (nat_cmp_is a b Less less)) ∙ sym (lt-ltb a b less)
    | After more ↦ ap is_lt (sym (nat_cmp_is a b Greater more)) ∙ sym (le-ltb a b (omega (arith, more)))
  ]

  put_is : (n : Numbered) (ms : List Numbered) → put_row (needed n) (map needed ms) ≡ map needed (put n ms)
  put_is n [] = refl
  put_is n (m ∷ ms) = rw (bytes_eq-itself name) (rw (less_is n.0 m.0) (by (n.0 == m.0) (nat_lt n.0 m.0) (put_is n ms)))
    where
      by : (same less : Bool) → put_row (needed n) (map needed ms) ≡ map needed (put n ms) → cond same (needed n ∷ map needed ms) (cond less (needed n ∷ needed m ∷ map needed ms) (needed m ∷ put_row (needed n) (map needed ms)))
          ≡ map needed (cond same (n ∷ ms) (cond less (n ∷ m ∷ ms) (m ∷ put n ms)))
      by true less rest = refl
      by false true rest = refl
      by false false rest = ap (λ (l : List NeededRow). needed m ∷ l) rest

  sorted_is : (ns : List Numbered) → sorted_needs (map needed ns) ≡ map needed (sorted ns)
  sorted_is [] = refl
  sorted_is (n ∷ ns) = ap (put_row (needed n)) (sorted_is ns) ∙ put_is n (sorted ns)

  module _ (versions : Versions) where
    abbrev pub need : Numbered → Need
    need n = read_of versions (needed n)

    add_is : (n : Numbered) (ms : List Numbered) → put_need (need n) (map need ms) ≡ map need (add n ms)
    add_is n [] = refl
    add_is n (m ∷ ms) = by (n.0 == m.0) (nat_lt n.0 m.0) (add_is n ms)
      where
        by : (same less : Bool) → put_need (need n) (map need ms) ≡ map need (add n ms) → cond same (need m ∷ map need ms) (cond less (need n ∷ need m ∷ map need ms) (need m ∷ put_need (need n) (map need ms)))
            ≡ map need (cond same (m ∷ ms) (cond less (n ∷ m ∷ ms) (m ∷ add n ms)))
        by true less rest = refl
        by false true rest = refl
        by false false rest = ap (λ (l : List Need). need m ∷ l) rest

    abbrev pub added : Option ℕ → List Need → List Need
    added o needs = put_some (option_map (λ (n : ℕ). need (n, K)) o) needs

    one_key : (ns : List Numbered) (a : ℕ) → sorted (ns ++ (a, K) ∷ []) ≡ add (a, K) (sorted ns)
    one_key ns a = sorted_both ns ((a, K) ∷ []) ∙ put_all_add ns (a, K) [] ∙ ap (add (a, K)) (sorted_alone ns)

    two_keys : (ns : List Numbered) (a b : ℕ) → sorted (ns ++ (a, K) ∷ (b, K) ∷ []) ≡ add (a, K) (add (b, K) (sorted ns))
    two_keys ns a b =
        sorted_both ns ((a, K) ∷ (b, K) ∷ [])
        ∙ ap (put_all ns) (two_of K a b)
        ∙ put_all_add ns (a, K) ((b, K) ∷ [])
        ∙ ap (add (a, K)) (put_all_add ns (b, K) [] ∙ ap (add (b, K)) (sorted_alone ns))

    keys_added : (ns : List Numbered) (o p : Option ℕ) → map need (sorted (ns ++ keys o p)) ≡ added o (added p (map need (sorted ns)))
    keys_added ns None None = ap (λ (l : List Numbered). map need (sorted l)) (append-nil ns)
    keys_added ns None (Some b) = ap (map need) (one_key ns b) ∙ sym (add_is (b, K) (sorted ns))
    keys_added ns (Some a) None = ap (map need) (one_key ns a) ∙ sym (add_is (a, K) (sorted ns))
    keys_added ns (Some a) (Some b) =
        ap (map need) (two_keys ns a b)
        ∙ sym (add_is (a, K) (add (b, K) (sorted ns)))
        ∙ ap (put_need (need (a, K))) (sym (add_is (b, K) (sorted ns)))

    -- the needs of a statement that is refused by a key: of the rows that it matches and of the two
    pub needs-with_keys : (ns : List Numbered) (o p : Option ℕ) → map (read_of versions) (sorted_needs (map needed (ns ++ keys o p))) ≡ added o (added p (map (read_of versions) (sorted_needs (map needed ns))))
    needs-with_keys ns o p =
        ap (map (read_of versions)) (sorted_is (ns ++ keys o p))
        ∙ map-map (read_of versions) needed (sorted (ns ++ keys o p))
        ∙ keys_added ns o p
        ∙ ap (λ (l : List Need). added o (added p l)) (sym (ap (map (read_of versions)) (sorted_is ns) ∙ map-map (read_of versions) needed (sorted ns)))

-- ---- matched rows

abbrev pub matched_at : TableRow → Numbered
matched_at row = (row.number, L)

sorted_rows : (rows : List TableRow) → AreSorted rows → sorted (map matched_at rows) ≡ map matched_at rows
sorted_rows [] is = refl
sorted_rows (row ∷ []) is = refl
sorted_rows (row ∷ next ∷ rows) is =
    let both = and-parts (row_precedes row next) (is_strictly_sorted row_precedes (next ∷ rows)) is in
    let less : row.number < next.number = ltb-true row.number next.number both.0 in
    ap (put (matched_at row)) (sorted_rows (next ∷ rows) both.1)
    ∙ simp (not_before row.number next.number less, lt-ltb row.number next.number less)

-- they are needed in their order
pub needs-matched : (t : Table) (rows : List TableRow) → AreSorted rows → sorted_needs (map (matched_row t) rows) ≡ map (matched_row t) rows
needs-matched t rows is =
    ap sorted_needs (sym (map-map (needed t.name) matched_at rows))
    ∙ sorted_is t.name (map matched_at rows)
    ∙ ap (map (needed t.name)) (sorted_rows rows is)
    ∙ map-map (needed t.name) matched_at rows

-- ---- the rows of a refused key

-- those that stood
stood_keys : (t : Table) (earlier later : TableRow)
    → map (key_row t) (filter (had_row t) (earlier ∷ later ∷ [])) ≡ map (needed t.name) (keys (stood_number t earlier) (stood_number t later))
stood_keys t earlier later = by (had_row t earlier) (had_row t later)
  where
    by : (a b : Bool) → map (key_row t) (cond a (earlier ∷ cond b (later ∷ []) []) (cond b (later ∷ []) []))
        ≡ map (needed t.name) (keys (if a then Some earlier.number else None) (if b then Some later.number else None))
    by true true = refl
    by true false = refl
    by false true = refl
    by false false = refl

pub needs-refused : (t : Table) (versions : Versions) (rows : List TableRow) (earlier later : TableRow)
    → map (read_of versions) (sorted_needs (map (matched_row t) rows ++ map (key_row t) (filter (had_row t) (earlier ∷ later ∷ []))))
    ≡ added t.name versions (stood_number t earlier) (added t.name versions (stood_number t later) (map (read_of versions) (sorted_needs (map (matched_row t) rows))))
needs-refused t versions rows earlier later =
    let ns : List Numbered = map matched_at rows in
    let ks : List Numbered = keys (stood_number t earlier) (stood_number t later) in
    let mine : map (matched_row t) rows ≡ map (needed t.name) ns = sym (map-map (needed t.name) matched_at rows) in
    ap (λ (l : List NeededRow). map (read_of versions) (sorted_needs l)) ((λ j. mine j ++ stood_keys t earlier later j) ∙ sym (map-append (needed t.name) ns ks))
    ∙ needs-with_keys t.name versions ns (stood_number t earlier) (stood_number t later)
    ∙ ap (λ (l : List NeededRow). added t.name versions (stood_number t earlier) (added t.name versions (stood_number t later) (map (read_of versions) (sorted_needs l)))) (sym mine)

-- ---- a need in its place

abbrev is_at : Need → Need → Bool
is_at n m = nat_le n.member.row m.member.row

abbrev placed_at : Need → List Need → ℕ → List Need
placed_at n needs place = cond (option_map_or (λ m. n.member.row == m.member.row) (slice_get needs place) false) needs (insert needs place n)

one_later : (n m : Need) (ms : List Need) (place : ℕ) → m ∷ placed_at n ms place ≡ placed_at n (m ∷ ms) (suc place)
one_later n m ms place = by (option_map_or (λ m. n.member.row == m.member.row) (slice_get ms place) false)
  where
    by : (b : Bool) → m ∷ cond b ms (insert ms place n) ≡ cond b (m ∷ ms) (insert (m ∷ ms) (suc place) n)
    by true = refl
    by false = refl

-- the place of the first need whose row isn't before
put_placed : (n : Need) (needs : List Need) → put_need n needs ≡ placed_at n needs (position_or_len (is_at n) needs)
put_placed n [] = refl
put_placed n (m ∷ ms) =
    let a = n.member.row in
    let b = m.member.row in
    let first : nat_le a b ≡ true → position_or_len (is_at n) (m ∷ ms) ≡ 0 = λ hit. ap (λ (t : Bool). cond (not t) (1 + position_or_len (is_at n) ms) 0) hit in
    let next : nat_le a b ≡ false → position_or_len (is_at n) (m ∷ ms) ≡ suc (position_or_len (is_at n) ms) =
    λ miss. ap (λ (t : Bool). cond (not t) (1 + position_or_len (is_at n) ms) 0) miss ∙ omega arith in
    let same : Bool → List Need = λ t. cond t (m ∷ ms) (cond (nat_lt a b) (n ∷ m ∷ ms) (m ∷ put_need n ms)) in
    let less : Bool → List Need = λ t. cond t (n ∷ m ∷ ms) (m ∷ put_need n ms) in
    let here : Bool → List Need = λ t. cond t (m ∷ ms) (insert (m ∷ ms) 0 n) in
    elim (order_of a b) [
      | Same is ↦ ap same (is_same a b is) ∙ sym (ap (placed_at n (m ∷ ms)) (first (le-leb a b (omega (arith, is)))) ∙ ap here (is_same a b is))
      | Before under ↦
          ap same (not_before a b under)
          ∙ ap less (lt-ltb a b under)
          ∙ sym (ap (placed_at n (m ∷ ms)) (first (le-leb a b (omega (arith, under)))) ∙ ap here (not_before a b under))
      | After over ↦
          ap same (apart-above a b over)
          ∙ ap less (is_after a b over)
          ∙ ap (λ (l : List Need). m ∷ l) (put_placed n ms)
          ∙ one_later n m ms (position_or_len (is_at n) ms)
          ∙ sym (ap (placed_at n (m ∷ ms)) (next (lt-leb a b over)))
    ]

module _ (n : Need) (needs : List Need) (place : ℕ) (is : place ≡ position_or_len (is_at n) needs) where
  abbrev there : Bool
  there = option_map_or (λ m. n.member.row == m.member.row) (slice_get needs place) false

  put_is_placed : put_need n needs ≡ placed_at n needs place
  put_is_placed = put_placed n needs ∙ ap (placed_at n needs) (sym is)

  pub put-there : there ≡ true → needs ≡ put_need n needs
  put-there hit = sym (put_is_placed ∙ ap (λ (b : Bool). cond b needs (insert needs place n)) hit)

  pub put-in : there ≡ false → (new : List Need) → new ≡ insert needs place n → new ≡ put_need n needs
  put-in miss new made = made ∙ sym (put_is_placed ∙ ap (λ (b : Bool). cond b needs (insert needs place n)) miss)
