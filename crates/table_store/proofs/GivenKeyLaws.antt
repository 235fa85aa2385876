-- Keys of given rows: the keys that are claimed, and the first two rows that clash.
use Rattle.std.proofs.Common.{◌≡◌, ◌==◌, ℕ, ◌+◌, ◌<◌, ◌≤◌, inl, inr, Bool, true, false, cond, ◌&&◌, ◌||◌, List, [], ◌∷◌, ◌++◌, map, length, get_or, take, drop, refl, ap, sym, subst, ◌∙◌, arith, Option, Some, None, eq-eqb, append_assoc, append-nil}
use Rattle.std.specs.Prelude.{find, is_some, nat_lt, if◌then◌else◌, unwrap_or}
use Rattle.std.specs.List.{AllByRecursion, list_all, list_any}
use Rattle.std.specs.Option.{option_map, option_or}
use Rattle.std.specs.BTreeMap.{is_at}
use Rattle.std.proofs.lemmas.Bool.{cases_Bool, cases_lt, ne_eqb, eqb-true, ltb-true, lt-ltb, le-ltb}
use Rattle.std.proofs.lemmas.List.{take_more}
use Rattle.std.proofs.lemmas.List.Folds.{find-append}
use Rattle.ldv_value.proofs.Booleans.{and-parts, and-false, false≢true, or-right}
use Rattle.sql_model.specs.Changes.{KeyClash, clash_or, clash_after, shares_key}
use Rattle.sql_model.specs.KeyOrder.{key_order}
use Rattle.sql_model.specs.Keys.{same_values, values_at, key_at}
use Rattle.sql_model.specs.References.{has_key}
use Rattle.sql_model.proofs.SameValues.{same_exact}
use Rattle.table_store.specs.Types.{Value, RowKey, TableRow}
use Rattle.table_store.specs.Claims.{IsIndexOf, both_stop}
use Rattle.table_store.specs.GivenKeys.{with_claims, unless_given, keeper, clash_of, earlier_clash}
use Rattle.table_store.specs.GivenKeys.{first_clash, is_below, IsLate, HasKeyAt, IsClash, AreJudged}
use Rattle.table_store.specs.KeyIndex.{row_of_key, HeldKeys, AreHeld}
use Rattle.table_store.specs.Stops.{replaced_by, are_sorted_rows}
use Rattle.table_store.specs.declared.keys.clash.Clash.{Clash}
use Rattle.table_store.specs.declared.error.StoreStop.TheVariants.{KeyTaken}
use Rattle.table_store.proofs.IndexLaws.{same_itself, any_alike, split_at}
use Rattle.table_store.proofs.InsertLaws.{AllRows, all_append, all_weaker, found_all, RisesFrom, apart_key, clash_front}
use Rattle.table_store.proofs.KeptKeyLaws.{rises_replaced, all_more}
use Rattle.table_store.proofs.RekeyLaws.{index_none, index_more}
use Rattle.table_store.proofs.TableLaws.{number_found}

pub some_is : {X : Type 0} {a b : X} → Some a ≡ Some b → a ≡ b
some_is same = cc

-- ---- rows that are found

found_is : (p : TableRow → Bool) (rows : List TableRow) (row : TableRow) → find p rows ≡ Some row → p row ≡ true
found_is p [] row is = cc
found_is p (first ∷ rows) row is = elim (cases_Bool (p first)) [
  | inl hit ↦ subst (λ (r : TableRow). p r ≡ true) (some_is (sym (ap (λ b. cond b (Some first) (find p rows)) hit) ∙ is)) hit
  | inr miss ↦ found_is p rows row (sym (ap (λ b. cond b (Some first) (find p rows)) miss) ∙ is)
]

found_one : (P : TableRow → Type 0) (p : TableRow → Bool) (rows : List TableRow) → AllByRecursion P rows → (row : TableRow) → find p rows ≡ Some row → P row
found_one P p [] all row is = cc
found_one P p (first ∷ rows) all row is = elim (cases_Bool (p first)) [
  | inl hit ↦ subst P (some_is (sym (ap (λ b. cond b (Some first) (find p rows)) hit) ∙ is)) all.0
  | inr miss ↦ found_one P p rows all.1 row (sym (ap (λ b. cond b (Some first) (find p rows)) miss) ∙ is)
]

found_held : (places : List ℕ) (held : HeldKeys) (p : TableRow → Bool) (rows : List TableRow) → AreHeld places held rows → (row : TableRow) → find p rows ≡ Some row → held (key_at places row.values) ≡ Some row.number
found_held places held p [] are row is = cc
found_held places held p (first ∷ rows) are row is = elim (cases_Bool (p first)) [
  | inl hit ↦ subst (λ (r : TableRow). held (key_at places r.values) ≡ Some r.number) (some_is (sym (ap (λ b. cond b (Some first) (find p rows)) hit) ∙ is)) are.0
  | inr miss ↦ found_held places held p rows are.1 row (sym (ap (λ b. cond b (Some first) (find p rows)) miss) ∙ is)
]

all_found : (q p : TableRow → Bool) (rows : List TableRow) (row : TableRow) → list_all q rows ≡ true → find p rows ≡ Some row → q row ≡ true
all_found q p [] row all is = cc
all_found q p (first ∷ rows) row all is =
    let both = and-parts (q first) (list_all q rows) all in
    elim (cases_Bool (p first)) [
      | inl hit ↦ subst (λ (r : TableRow). q r ≡ true) (some_is (sym (ap (λ b. cond b (Some first) (find p rows)) hit) ∙ is)) both.0
      | inr miss ↦ all_found q p rows row both.1 (sym (ap (λ b. cond b (Some first) (find p rows)) miss) ∙ is)
    ]

any_found : (q p : TableRow → Bool) (rows : List TableRow) (row : TableRow) → find p rows ≡ Some row → q row ≡ true → list_any q rows ≡ true
any_found q p [] row is hit = cc
any_found q p (first ∷ rows) row is hit = elim (cases_Bool (p first)) [
  | inl here ↦ ap (λ b. b || list_any q rows) (subst (λ (r : TableRow). q r ≡ true) (sym (some_is (sym (ap (λ b. cond b (Some first) (find p rows)) here) ∙ is))) hit)
  | inr miss ↦ or-right (q first) (list_any q rows) (any_found q p rows row (sym (ap (λ b. cond b (Some first) (find p rows)) miss) ∙ is) hit)
]

none_below : (number low : ℕ) (rows : List TableRow) → number < low → RisesFrom low rows → find (λ new. new.number == number) rows ≡ None
none_below number low [] below rises = refl
none_below number low (row ∷ rows) below rises =
    ap (λ b. cond b (Some row) (find (λ new. new.number == number) rows)) (ne_eqb row.number number (omega (arith, below, rises.0)))
    ∙ none_below number (row.number + 1) rows (omega (arith, below, rises.0)) rises.1

none_above : (number : ℕ) (rows : List TableRow) → AllRows (λ row. row.number < number) rows → find (λ new. new.number == number) rows ≡ None
none_above number [] below = refl
none_above number (row ∷ rows) below =
    ap (λ b. cond b (Some row) (find (λ new. new.number == number) rows)) (ne_eqb row.number number (omega (arith, below.0))) ∙ none_above number rows below.1

-- ---- given rows rise

sorted_from : (low : ℕ) (rows : List TableRow) → AllRows (λ row. low ≤ row.number) rows → are_sorted_rows rows ≡ true → RisesFrom low rows
sorted_from low [] from sorted = tt
sorted_from low (row ∷ []) from sorted = (from.0, tt)
sorted_from low (row ∷ next ∷ rows) from sorted =
    let both = and-parts (nat_lt row.number next.number) (are_sorted_rows (next ∷ rows)) sorted in
    let less : row.number < next.number = ltb-true row.number next.number both.0 in
    (from.0, lift (row.number + 1) next.number (next ∷ rows) (omega (arith, less)) (sorted_from next.number (next ∷ rows) (after next rows both.1) both.1)) where
      lift : (lower high : ℕ) (some : List TableRow) → lower ≤ high → RisesFrom high some → RisesFrom lower some
      lift lower high [] at rises = tt
      lift lower high (one ∷ some) at rises = (omega (arith, at, rises.0), rises.1)

      after : (one : TableRow) (some : List TableRow) → are_sorted_rows (one ∷ some) ≡ true → AllRows (λ r. one.number ≤ r.number) (one ∷ some)
      after one [] is = (omega arith, tt)
      after one (two ∷ some) is =
          let parts = and-parts (nat_lt one.number two.number) (are_sorted_rows (two ∷ some)) is in
          let up : one.number < two.number = ltb-true one.number two.number parts.0 in
          (omega arith, all_weaker (λ r. two.number ≤ r.number) (λ r. one.number ≤ r.number) (λ r at. omega (arith, up, at)) (two ∷ some) (after two some parts.1))

pub given_rise : (rows : List TableRow) → are_sorted_rows rows ≡ true → RisesFrom 0 rows
given_rise rows sorted = sorted_from 0 rows (all rows) sorted where
  all : (some : List TableRow) → AllRows (λ row. 0 ≤ row.number) some
  all [] = tt
  all (row ∷ some) = (omega arith, all some)

rises_before : (low : ℕ) (xs : List TableRow) (x : TableRow) (ys : List TableRow) → RisesFrom low (xs ++ x ∷ ys) → (low ≤ x.number) × AllRows (λ row. row.number < x.number) xs × RisesFrom (x.number + 1) ys
rises_before low [] x ys rises = (rises.0, tt, rises.1)
rises_before low (first ∷ xs) x ys rises =
    let rest = rises_before (first.number + 1) xs x ys rises.1 in
    (omega (arith, rises.0, rest.0), (omega (arith, rest.0), rest.1), rest.2)

rises_all : (low bound : ℕ) (rows : List TableRow) → bound ≤ low → RisesFrom low rows → AllRows (λ row. bound ≤ row.number) rows
rises_all low bound [] at rises = tt
rises_all low bound (row ∷ rows) at rises = (omega (arith, at, rises.0), rises_all (row.number + 1) bound rows (omega (arith, at, rises.0)) rises.1)

-- ---- a row of a number has a key

module _ (places : List ℕ) (k : List Value) where
  abbrev is_it : ℕ → TableRow → Bool
  is_it number row = (row.number == number) && has_key places k row

  it_is : (number : ℕ) (row : TableRow) → is_it number row ≡ true → (row.number ≡ number) × (values_at places row.values ≡ k)
  it_is number row is =
      let both = and-parts (row.number == number) (has_key places k row) is in
      (eqb-true row.number number both.0, same_exact (values_at places row.values) k both.1)

  is_so : (number : ℕ) (row : TableRow) → row.number ≡ number → values_at places row.values ≡ k → is_it number row ≡ true
  is_so number row same here =
      ap (λ b. b && has_key places k row) (eq-eqb row.number number same) ∙ ap (λ (v : List Value). same_values v k) here ∙ same_itself k

  none_at : (number low : ℕ) (rows : List TableRow) → number < low → RisesFrom low rows → list_any (is_it number) rows ≡ false
  none_at number low [] below rises = refl
  none_at number low (row ∷ rows) below rises =
      ap (λ b. (b && has_key places k row) || list_any (is_it number) rows) (ne_eqb row.number number (omega (arith, below, rises.0)))
      ∙ none_at number (row.number + 1) rows (omega (arith, below, rises.0)) rises.1

  skip : (number : ℕ) (row : TableRow) (rows : List TableRow) → is_it number row ≡ false → list_any (is_it number) (row ∷ rows) ≡ true → list_any (is_it number) rows ≡ true
  skip number row rows miss has = sym (ap (λ b. b || list_any (is_it number) rows) miss) ∙ has

  any_front : (number : ℕ) (xs ys : List TableRow) → list_any (is_it number) ys ≡ false → list_any (is_it number) (xs ++ ys) ≡ true → list_any (is_it number) xs ≡ true
  any_front number [] ys none has = absurd (false≢true (sym none ∙ has))
  any_front number (x ∷ xs) ys none has = elim (cases_Bool (is_it number x)) [
    | inl hit ↦ ap (λ b. b || list_any (is_it number) xs) hit
    | inr miss ↦ or-right (is_it number x) (list_any (is_it number) xs) (any_front number xs ys none (sym (ap (λ b. b || list_any (is_it number) (xs ++ ys)) miss) ∙ has))
  ]

  module _ (held : HeldKeys) where
    held_at : (number : ℕ) (rows : List TableRow) → AreHeld places held rows → HasKeyAt places k rows number → held (record { values = k }) ≡ Some number
    held_at number [] are has = cc
    held_at number (row ∷ rows) are has = elim (cases_Bool (is_it number row)) [
      | inl hit ↦
          let is = it_is number row hit in
          ap (λ (v : List Value). held (record { values = v })) (sym is.1) ∙ are.0 ∙ ap (λ (n : ℕ). Some n) is.0
      | inr miss ↦ held_at number rows are.1 (skip number row rows miss has)
    ]

    found_at : (number : ℕ) (rows : List TableRow) → held (record { values = k }) ≡ Some number → AreHeld places held rows → HasKeyAt places k rows number
        → option_map (λ (row : TableRow). row.number) (find (has_key places k) rows) ≡ Some number
    found_at number [] is are has = cc
    found_at number (row ∷ rows) is are has = elim (cases_Bool (has_key places k row)) [
      | inl hit ↦
          ap (λ b. option_map (λ (one : TableRow). one.number) (cond b (Some row) (find (has_key places k) rows))) hit
          ∙ sym are.0 ∙ ap (λ (v : List Value). held (record { values = v })) (same_exact (values_at places row.values) k hit) ∙ is
      | inr miss ↦
          ap (λ b. option_map (λ (one : TableRow). one.number) (cond b (Some row) (find (has_key places k) rows))) miss
          ∙ found_at number rows is are.1 (skip number row rows (ap (λ b. (row.number == number) && b) miss ∙ and-false (row.number == number)) has)
    ]

all_have : (places : List ℕ) (rows : List TableRow) → AllRows (λ row. HasKeyAt places (values_at places row.values) rows row.number) rows
all_have places [] = tt
all_have places (row ∷ rows) = (
  ap (λ b. b || list_any (is_it places (values_at places row.values) row.number) rows) (is_so places (values_at places row.values) row.number row refl refl),
  all_weaker (λ one. HasKeyAt places (values_at places one.values) rows one.number) (λ one. HasKeyAt places (values_at places one.values) (row ∷ rows) one.number)
      (λ one has. or-right (is_it places (values_at places one.values) one.number row) (list_any (is_it places (values_at places one.values) one.number) rows) has) rows (all_have places rows),
)

-- ---- the first clash of rows

module _ (places : List ℕ) (held : HeldKeys) (k : List Value) (earlier later : ℕ) (apart : earlier < later) where
  pub clash_at : (before rows : List TableRow) (low : ℕ) → AreHeld places held before → AllRows (λ row. row.number < low) before → RisesFrom low rows
      → AllRows (λ row. nat_lt row.number later ≡ true → held (key_at places row.values) ≡ Some row.number) rows → HasKeyAt places k (before ++ rows) earlier → HasKeyAt places k rows later
      → both_stop places (clash_after places before rows) ≡ Some (KeyTaken (Some earlier) (Some later) k)
  clash_at before [] low are below rises lows one two = cc
  clash_at before (row ∷ rows) low are below rises lows one two =
      let under : AllRows (λ r. r.number < row.number) before = all_weaker (λ r. r.number < low) (λ r. r.number < row.number) (λ r less. omega (arith, less, rises.0)) before below in
      elim (cases_lt row.number later) [
        | inl less ↦
            let here : held (key_at places row.values) ≡ Some row.number = lows.0 (lt-ltb row.number later less) in
            ap (λ (o : Option TableRow). both_stop places (clash_or o row (clash_after places (before ++ row ∷ []) rows))) (apart_key places held (any_alike held) row before are here under)
            ∙ clash_at (before ++ row ∷ []) rows (row.number + 1) (held_append before (row ∷ []) are (here, tt))
            (all_append (λ r. r.number < row.number + 1) before (row ∷ []) (all_weaker (λ r. r.number < row.number) (λ r. r.number < row.number + 1) (λ r at. omega (arith, at)) before under) (omega arith, tt)) rises.1 lows.1
            (subst (λ (l : List TableRow). HasKeyAt places k l earlier) (sym (append_assoc before (row ∷ []) rows)) one)
            (skip places k later row rows (ap (λ b. b && has_key places k row) (ne_eqb row.number later (omega (arith, less)))) two)
        | inr from ↦ elim (cases_Bool (is_it places k later row)) [
          | inr miss ↦ absurd (false≢true (sym (none_at places k later (row.number + 1) rows (omega (arith, from)) rises.1) ∙ skip places k later row rows miss two))
          | inl hit ↦
              let is = it_is places k later row hit in
              let front : HasKeyAt places k before earlier = any_front places k earlier before (row ∷ rows) (none_at places k earlier row.number (row ∷ rows) (omega (arith, apart, from)) (omega arith, rises.1)) one in
              let found : option_map (λ (r : TableRow). r.number) (find (has_key places k) before) ≡ Some earlier = found_at places k held earlier before (held_at places k held earlier before are front) are front in
              last row is.0 is.1 (clash_after places (before ++ row ∷ []) rows) (find (has_key places k) before) found
              (ap (λ (v : List Value). find (has_key places v) before) is.1)
        ]
      ]
    where
      held_append : (xs ys : List TableRow) → AreHeld places held xs → AreHeld places held ys → AreHeld places held (xs ++ ys)
      held_append [] ys a b = b
      held_append (x ∷ xs) ys a b = (a.0, held_append xs ys a.1 b)

      last : (one : TableRow) → one.number ≡ later → values_at places one.values ≡ k → (rest : Option KeyClash) (o : Option TableRow) → option_map (λ (r : TableRow). r.number) o ≡ Some earlier → find (shares_key places one) before ≡ o
          → both_stop places (clash_or (find (shares_key places one) before) one rest) ≡ Some (KeyTaken (Some earlier) (Some later) k)
      last one number key rest None found same = cc
      last one number key rest (Some other) found same =
          ap (λ (o : Option TableRow). both_stop places (clash_or o one rest)) same
          ∙ (λ j. Some (KeyTaken (Some (some_is found j)) (Some (number j)) (key j)))

-- ---- given rows, and those that keep their keys

module _ (places : List ℕ) (rows given : List TableRow) where
  given_has : (some : List TableRow) (number : ℕ) (new : TableRow) → find (λ one. one.number == number) given ≡ Some new → list_any (λ one. one.number == number) some ≡ true
      → HasKeyAt places (values_at places new.values) (map (replaced_by given) some) number
  given_has [] number new is any = cc
  given_has (row ∷ some) number new is any = elim (cases_Bool (row.number == number)) [
    | inl hit ↦
        let here : replaced_by given row ≡ new = ap (λ (n : ℕ). unwrap_or (find (λ one. one.number == n) given) row) (eqb-true row.number number hit) ∙ ap (λ (o : Option TableRow). unwrap_or o row) is in
        ap (λ b. b || list_any (is_it places (values_at places new.values) number) (map (replaced_by given) some))
        (ap (is_it places (values_at places new.values) number) here ∙ is_so places (values_at places new.values) number new (number_found number given new is) refl)
    | inr miss ↦ or-right (is_it places (values_at places new.values) number (replaced_by given row)) (list_any (is_it places (values_at places new.values) number) (map (replaced_by given) some))
        (given_has some number new is (sym (ap (λ b. b || list_any (λ one. one.number == number) some) miss) ∙ any))
  ]

  kept_has : (k : List Value) (some : List TableRow) (number : ℕ) → find (λ one. one.number == number) given ≡ None → HasKeyAt places k some number → HasKeyAt places k (map (replaced_by given) some) number
  kept_has k [] number none has = cc
  kept_has k (row ∷ some) number none has = elim (cases_Bool (is_it places k number row)) [
    | inl hit ↦
        let here : replaced_by given row ≡ row = ap (λ (n : ℕ). unwrap_or (find (λ one. one.number == n) given) row) (it_is places k number row hit).0 ∙ ap (λ (o : Option TableRow). unwrap_or o row) none in
        ap (λ b. b || list_any (is_it places k number) (map (replaced_by given) some)) (ap (is_it places k number) here ∙ hit)
    | inr miss ↦ or-right (is_it places k number (replaced_by given row)) (list_any (is_it places k number) (map (replaced_by given) some)) (kept_has k some number none (skip places k number row some miss has))
  ]

  keeper_is : (k : List Value) (number : ℕ) → keeper places rows given k ≡ Some number → (find (λ one. one.number == number) given ≡ None) × HasKeyAt places k rows number
  keeper_is k number is = by (row_of_key places k rows) refl is where
    by : (o : Option TableRow) → row_of_key places k rows ≡ o → unless_given given (option_map (λ (row : TableRow). row.number) o) ≡ Some number → (find (λ one. one.number == number) given ≡ None) × HasKeyAt places k rows number
    by None was not_some = cc
    by (Some row) was one = alone (find (λ new. new.number == row.number) given) refl one where
      alone : (o : Option TableRow) → find (λ new. new.number == row.number) given ≡ o → (if is_some o then None else Some row.number) ≡ Some number → (find (λ one. one.number == number) given ≡ None) × HasKeyAt places k rows number
      alone (Some new) found no_one = cc
      alone None found same =
          let number_is : row.number ≡ number = some_is same in (
            subst (λ (n : ℕ). find (λ one. one.number == n) given ≡ None) number_is found,
            any_found (is_it places k number) (has_key places k) rows row was (is_so places k number row number_is (same_exact (values_at places row.values) k (found_is (has_key places k) rows row was))),
          )

  -- a row that isn't given keeps its key
  keeper_here : (old : HeldKeys) (k : List Value) (number : ℕ) → AreHeld places old rows → HasKeyAt places k rows number → find (λ one. one.number == number) given ≡ None → keeper places rows given k ≡ Some number
  keeper_here old k number are has none =
      ap (unless_given given) (found_at places k old number rows (held_at places k old number rows are has) are has)
      ∙ ap (λ (o : Option TableRow). if is_some o then None else Some number) none

-- ---- what is held below the first clash

abbrev pub keep_low : (ℕ → Bool) → Option ℕ → Option ℕ
keep_low low None = None
keep_low low (Some number) = cond (low number) (Some number) None

module _ (places : List ℕ) (rows given : List TableRow) (claims old : HeldKeys) (first : Option Clash) (some rest : List TableRow) (are : AreHeld places old rows) (index : IsIndexOf places claims some)
    (late : AllByRecursion (λ row. IsLate first row.number (keeper places rows given (values_at places row.values))) some) (split : given ≡ some ++ rest) (past : AllRows (λ row. is_below first row.number ≡ false) rest) where
  abbrev low_held : HeldKeys
  low_held q = option_or (keep_low (is_below first) (claims q)) (old q)

  past_none : (number : ℕ) → is_below first number ≡ true → (others : List TableRow) → AllRows (λ row. is_below first row.number ≡ false) others → find (λ one. one.number == number) others ≡ None
  past_none number low [] all = refl
  past_none number low (row ∷ others) all = elim (cases_Bool (row.number == number)) [
    | inl hit ↦ absurd (false≢true (sym all.0 ∙ ap (is_below first) (eqb-true row.number number hit) ∙ low))
    | inr miss ↦ ap (λ b. cond b (Some row) (find (λ one. one.number == number) others)) miss ∙ past_none number low others all.1
  ]

  or_none : (o : Option TableRow) → option_or o None ≡ o
  or_none None = refl
  or_none (Some row) = refl

  among : (number : ℕ) → is_below first number ≡ true → find (λ one. one.number == number) given ≡ find (λ one. one.number == number) some
  among number low =
      ap (find (λ (one : TableRow). one.number == number)) split ∙ find-append (λ (one : TableRow). one.number == number) some rest
      ∙ ap (option_or (find (λ (one : TableRow). one.number == number) some)) (past_none number low rest past) ∙ or_none (find (λ (one : TableRow). one.number == number) some)

  new_low : (row new : TableRow) → find (λ one. one.number == row.number) given ≡ Some new → is_below first new.number ≡ true → low_held (key_at places new.values) ≡ Some new.number
  new_low row new is low =
      let same : new.number ≡ row.number = number_found row.number given new is in
      let found = sym (among row.number (ap (is_below first) (sym same) ∙ low)) ∙ is in
      ap (λ (o : Option ℕ). option_or (keep_low (is_below first) o) (old (key_at places new.values))) (found_held places claims (λ one. one.number == row.number) some index.each new found)
      ∙ ap (λ b. option_or (cond b (Some new.number) None) (old (key_at places new.values))) low

  kept_low : (row : TableRow) → find (λ one. one.number == row.number) given ≡ None → HasKeyAt places (values_at places row.values) rows row.number → is_below first row.number ≡ true
      → low_held (key_at places row.values) ≡ Some row.number
  kept_low row none has low = by (claims (key_at places row.values)) refl where
    here : old (key_at places row.values) ≡ Some row.number
    here = held_at places (values_at places row.values) old row.number rows are has

    by : (o : Option ℕ) → claims (key_at places row.values) ≡ o → option_or (keep_low (is_below first) o) (old (key_at places row.values)) ≡ Some row.number
    by None is = here
    by (Some number) is = elim (cases_Bool (is_below first number)) [
      | inr high ↦ ap (λ b. option_or (cond b (Some number) None) (old (key_at places row.values))) high ∙ here
      | inl below ↦ claimed number below (row_of_key places (values_at places row.values) some) refl (sym (index.only (key_at places row.values)) ∙ is)
    ] where
      claimed : (number : ℕ) → is_below first number ≡ true → (o : Option TableRow) → row_of_key places (values_at places row.values) some ≡ o → option_map (λ (one : TableRow). one.number) o ≡ Some number
          → option_or (keep_low (is_below first) (Some number)) (old (key_at places row.values)) ≡ Some row.number
      claimed number below None was not_some = cc
      claimed number below (Some new) was one =
          let key : values_at places new.values ≡ values_at places row.values = same_exact (values_at places new.values) (values_at places row.values) (found_is (has_key places (values_at places row.values)) some new was) in
          let kept : keeper places rows given (values_at places new.values) ≡ Some row.number = ap (keeper places rows given) key ∙ keeper_here places rows given old (values_at places row.values) row.number are has none in
          let after : IsLate first new.number (Some row.number) =
          subst (λ (o : Option ℕ). IsLate first new.number o) kept (found_one (λ one. IsLate first one.number (keeper places rows given (values_at places one.values))) (has_key places (values_at places row.values)) some late new was) in
          absurd (false≢true (sym (after (ap (is_below first) (some_is one) ∙ below)) ∙ low))

  one_low : (row : TableRow) → HasKeyAt places (values_at places row.values) rows row.number → is_below first (replaced_by given row).number ≡ true
      → low_held (key_at places (replaced_by given row).values) ≡ Some (replaced_by given row).number
  one_low row has low = by (find (λ one. one.number == row.number) given) refl low where
    by : (o : Option TableRow) → find (λ one. one.number == row.number) given ≡ o → is_below first (unwrap_or o row).number ≡ true → low_held (key_at places (unwrap_or o row).values) ≡ Some (unwrap_or o row).number
    by None is below = kept_low row is has below
    by (Some new) is below = new_low row new is below

  pub all_low : AllRows (λ row. is_below first row.number ≡ true → low_held (key_at places row.values) ≡ Some row.number) (map (replaced_by given) rows)
  all_low = by rows (all_have places rows) where
    by : (others : List TableRow) → AllRows (λ row. HasKeyAt places (values_at places row.values) rows row.number) others
        → AllRows (λ row. is_below first row.number ≡ true → low_held (key_at places row.values) ≡ Some row.number) (map (replaced_by given) others)
    by [] all = tt
    by (row ∷ others) all = (one_low row all.0, by others all.1)

-- ---- the sooner of two clashes

abbrev pick : Bool → ℕ → ℕ → List Value → Clash
pick c a b key = if c then record { earlier = a; later = b; key = key } else record { earlier = b; later = a; key = key }

below_sooner : (first : Option Clash) (clash : Clash) (number : ℕ) → is_below first number ≡ false → is_below (Some (earlier_clash first clash)) number ≡ false
below_sooner None clash number high = cc
below_sooner (Some other) clash number high = elim (cases_Bool (nat_lt clash.later other.later)) [
  | inl hit ↦
      let from : other.later ≤ number = not_less number other.later high in
      ap (λ b. is_below (Some (if b then clash else other)) number) hit ∙ le-ltb number clash.later (omega (arith, from, ltb-true clash.later other.later hit))
  | inr miss ↦ ap (λ b. is_below (Some (if b then clash else other)) number) miss ∙ high
] where
  not_less : (a b : ℕ) → nat_lt a b ≡ false → b ≤ a
  not_less a b is = elim (cases_lt a b) [
    | inl less ↦ absurd (false≢true (sym is ∙ lt-ltb a b less))
    | inr from ↦ from
  ]

sooner_below : (first : Option Clash) (clash : Clash) (number : ℕ) → is_below (Some (earlier_clash first clash)) number ≡ true → is_below first number ≡ true
sooner_below first clash number low = elim (cases_Bool (is_below first number)) [
  | inl is ↦ is
  | inr high ↦ absurd (false≢true (sym (below_sooner first clash number high) ∙ low))
]

late_sooner : (first : Option Clash) (clash : Clash) (number : ℕ) (kept : Option ℕ) → IsLate first number kept → IsLate (Some (earlier_clash first clash)) number kept
late_sooner first clash number None late = tt
late_sooner first clash number (Some kept) late = λ low. below_sooner first clash kept (late (sooner_below first clash number low))

sooner_later : (first : Option Clash) (clash : Clash) → (earlier_clash first clash).later ≤ clash.later
sooner_later None clash = omega arith
sooner_later (Some other) clash = elim (cases_lt clash.later other.later) [
  | inl less ↦ subst (λ (n : ℕ). n ≤ clash.later) (sym (ap (λ b. (if b then clash else other).later) (lt-ltb clash.later other.later less))) (omega arith)
  | inr from ↦ subst (λ (n : ℕ). n ≤ clash.later) (sym (ap (λ b. (if b then clash else other).later) (le-ltb clash.later other.later from))) from
]

late_of : (first : Option Clash) (number kept : ℕ) (key : List Value) → IsLate (Some (earlier_clash first (clash_of number kept key))) number (Some kept)
late_of first number kept key low =
    let at : (earlier_clash first (clash_of number kept key)).later ≤ (clash_of number kept key).later = sooner_later first (clash_of number kept key) in
    let less : number < (earlier_clash first (clash_of number kept key)).later = ltb-true number (earlier_clash first (clash_of number kept key)).later low in
    elim (cases_lt number kept) [
      | inl under ↦
          let is : (clash_of number kept key).later ≡ kept = ap (λ b. (pick b number kept key).later) (lt-ltb number kept under) in
          le-ltb kept (earlier_clash first (clash_of number kept key)).later (omega (arith, at, is))
      | inr from ↦
          let is : (clash_of number kept key).later ≡ number = ap (λ b. (pick b number kept key).later) (le-ltb number kept from) in
          absurd (omega (arith, at, less, is))
    ]

clash_sooner : (places : List ℕ) (rows : List TableRow) (first : Option Clash) (clash : Clash) → IsClash places rows first → IsClash places rows (Some clash) → IsClash places rows (Some (earlier_clash first clash))
clash_sooner places rows None clash one two = two
clash_sooner places rows (Some other) clash one two = by (nat_lt clash.later other.later) where
  by : (b : Bool) → IsClash places rows (Some (if b then clash else other))
  by true = two
  by false = one

clash_both : (places : List ℕ) (rows : List TableRow) (a b : ℕ) (key : List Value) → (a ≡ b → false ≡ true) → HasKeyAt places key rows a → HasKeyAt places key rows b → IsClash places rows (Some (clash_of a b key))
clash_both places rows a b key apart one two = elim (cases_lt a b) [
  | inl less ↦ subst (λ c. IsClash places rows (Some (pick c a b key))) (sym (lt-ltb a b less)) (less, one, two)
  | inr from ↦ elim (cases_lt b a) [
    | inl more ↦ subst (λ c. IsClash places rows (Some (pick c a b key))) (sym (le-ltb a b from)) (more, two, one)
    | inr to ↦ absurd (false≢true (apart (omega (arith, from, to))))
  ]
]

all_late : (places : List ℕ) (rows given : List TableRow) (first : Option Clash) (clash : Clash) (some : List TableRow) → AllByRecursion (λ row. IsLate first row.number (keeper places rows given (values_at places row.values))) some
    → AllByRecursion (λ row. IsLate (Some (earlier_clash first clash)) row.number (keeper places rows given (values_at places row.values))) some
all_late places rows given first clash [] all = tt
all_late places rows given first clash (row ∷ some) all = (late_sooner first clash row.number (keeper places rows given (values_at places row.values)) all.0, all_late places rows given first clash some all.1)

-- ---- rows by number

rises_front : (low : ℕ) (xs ys : List TableRow) → RisesFrom low (xs ++ ys) → RisesFrom low xs
rises_front low [] ys rises = tt
rises_front low (x ∷ xs) ys rises = (rises.0, rises_front (x.number + 1) xs ys rises.1)

find_number : (p : TableRow → Bool) (low : ℕ) (rows : List TableRow) (row : TableRow) → RisesFrom low rows → find p rows ≡ Some row → find (λ one. one.number == row.number) rows ≡ Some row
find_number p low [] row rises is = cc
find_number p low (first ∷ rows) row rises is = elim (cases_Bool (p first)) [
  | inl hit ↦
      let same : first ≡ row = some_is (sym (ap (λ b. cond b (Some first) (find p rows)) hit) ∙ is) in
      subst (λ (r : TableRow). find (λ one. one.number == r.number) (first ∷ rows) ≡ Some r) same (ap (λ b. cond b (Some first) (find (λ one. one.number == first.number) rows)) (eq-eqb first.number first.number refl))
  | inr miss ↦
      let found : find p rows ≡ Some row = sym (ap (λ b. cond b (Some first) (find p rows)) miss) ∙ is in
      let from : first.number + 1 ≤ row.number = found_all (λ r. first.number + 1 ≤ r.number) p rows (rises_all (first.number + 1) (first.number + 1) rows (omega arith) rises.1) row found in
      ap (λ b. cond b (Some first) (find (λ one. one.number == row.number) rows)) (ne_eqb first.number row.number (omega (arith, from))) ∙ find_number p (first.number + 1) rows row rises.1 found
]

-- ---- what the first clash means

pub judged_start : (places : List ℕ) (rows given : List TableRow) (claims : HeldKeys) → ((q : RowKey) → claims q ≡ None) → AreJudged places rows given claims None []
judged_start places rows given claims none = record { index = index_none places claims none; late = tt; clash = tt }

module _ (places : List ℕ) (rows given : List TableRow) (rise : RisesFrom 0 rows) (old : HeldKeys) (are : AreHeld places old rows) where
  -- without one each row is held
  pub judged_none : (claims : HeldKeys) → AreJudged places rows given claims None given → AreHeld places (with_claims claims old) (map (replaced_by given) rows)
  judged_none claims judged = by (map (replaced_by given) rows) (all_low places rows given claims old None given [] are judged.index judged.late (sym (append-nil given)) tt) where
    plain : (o n : Option ℕ) → option_or (keep_low (is_below None) o) n ≡ option_or o n
    plain None n = refl
    plain (Some number) n = refl

    by : (some : List TableRow) → AllRows (λ row. is_below None row.number ≡ true → option_or (keep_low (is_below None) (claims (key_at places row.values))) (old (key_at places row.values)) ≡ Some row.number) some
        → AreHeld places (with_claims claims old) some
    by [] all = tt
    by (row ∷ some) all = (sym (plain (claims (key_at places row.values)) (old (key_at places row.values))) ∙ all.0 refl, by some all.1)

  -- and so no two rows have one key
  pub none_then : (held : HeldKeys) → AreHeld places held (map (replaced_by given) rows) → clash_after places [] (map (replaced_by given) rows) ≡ None
  none_then held all =
      let after : List TableRow = map (replaced_by given) rows in
      ap (clash_after places []) (sym (append-nil after)) ∙ clash_front places held (any_alike held) [] after [] 0 tt all tt (rises_replaced places given 0 rows rise)

  first_is : (claims : HeldKeys) (clash : Clash) (some rest : List TableRow) → IsIndexOf places claims some → AllByRecursion (λ row. IsLate (Some clash) row.number (keeper places rows given (values_at places row.values))) some
      → IsClash places (map (replaced_by given) rows) (Some clash) → given ≡ some ++ rest → AllRows (λ row. is_below (Some clash) row.number ≡ false) rest
      → both_stop places (clash_after places [] (map (replaced_by given) rows)) ≡ Some (KeyTaken (Some clash.earlier) (Some clash.later) clash.key)
  first_is claims clash some rest index late is split past =
      clash_at places (λ q. option_or (keep_low (is_below (Some clash)) (claims q)) (old q)) clash.key clash.earlier clash.later is.0 [] (map (replaced_by given) rows) 0 tt tt (rises_replaced places given 0 rows rise)
      (all_low places rows given claims old (Some clash) some rest are index late split past) is.1 is.2

  pub judged_first : (claims : HeldKeys) (clash : Clash) → AreJudged places rows given claims (Some clash) given
      → both_stop places (clash_after places [] (map (replaced_by given) rows)) ≡ Some (KeyTaken (Some clash.earlier) (Some clash.later) clash.key)
  judged_first claims clash judged = first_is claims clash given [] judged.index judged.late judged.clash (sym (append-nil given)) tt

  -- of one more given row
  module _ (sorted : RisesFrom 0 given) (stand : list_all (λ row. list_any (λ one. one.number == row.number) rows) given ≡ true) (claims : HeldKeys) (first : Option Clash) (i : ℕ) (row : TableRow) (within : i < length given)
      (judged : AreJudged places rows given claims first (take i given)) (at : row ≡ get_or given i row) where
    abbrev now : TableRow
    now = get_or given i row

    parted : given ≡ take i given ++ now ∷ drop (i + 1) given
    parted = split_at given i row within

    parts : (0 ≤ now.number) × AllRows (λ r. r.number < now.number) (take i given) × RisesFrom (now.number + 1) (drop (i + 1) given)
    parts = rises_before 0 (take i given) now (drop (i + 1) given) (subst (λ (l : List TableRow). RisesFrom 0 l) parted sorted)

    now_found : find (λ one. one.number == now.number) given ≡ Some now
    now_found =
        ap (find (λ (one : TableRow). one.number == now.number)) parted ∙ find-append (λ (one : TableRow). one.number == now.number) (take i given) (now ∷ drop (i + 1) given)
        ∙ ap (λ (o : Option TableRow). option_or o (find (λ (one : TableRow). one.number == now.number) (now ∷ drop (i + 1) given))) (none_above now.number (take i given) parts.1)
        ∙ ap (λ b. cond b (Some now) (find (λ (one : TableRow). one.number == now.number) (drop (i + 1) given))) (eq-eqb now.number now.number refl)

    now_has : HasKeyAt places (values_at places now.values) (map (replaced_by given) rows) now.number
    now_has = given_has places rows given rows now.number now now_found (all_found (λ (r : TableRow). list_any (λ one. one.number == r.number) rows) (λ one. one.number == now.number) given now stand now_found)

    none_from : (o : Option TableRow) → option_map (λ (one : TableRow). one.number) o ≡ None → o ≡ None
    none_from None is = refl
    none_from (Some one) is = cc

    next : (new : HeldKeys) → claims (key_at places now.values) ≡ None → ((q : RowKey) → new q ≡ cond (is_at (key_order (key_at places now.values)) q) (Some now.number) (claims q))
        → AreJudged places rows given new (first_clash first (keeper places rows given (values_at places now.values)) now.number (values_at places now.values)) (take (i + 1) given)
    next new free put = by (keeper places rows given (values_at places now.values)) refl where
      index : IsIndexOf places new (take (i + 1) given)
      index =
          subst (λ (l : List TableRow). IsIndexOf places new l) (sym (take_more given i row within))
          (index_more places claims new now (take i given) judged.index (none_from (row_of_key places (values_at places now.values) (take i given)) (sym (judged.index.only (key_at places now.values)) ∙ free)) put)

      by : (o : Option ℕ) → keeper places rows given (values_at places now.values) ≡ o → AreJudged places rows given new (first_clash first o now.number (values_at places now.values)) (take (i + 1) given)
      by None is = record {
        index = index;
        late = all_more (λ one. IsLate first one.number (keeper places rows given (values_at places one.values))) given i row within judged.late (subst (λ (o : Option ℕ). IsLate first now.number o) (sym is) tt);
        clash = judged.clash;
      }
      by (Some kept) is =
          let clash : Clash = clash_of now.number kept (values_at places now.values) in
          let alone = keeper_is places rows given (values_at places now.values) kept is in
          let other : HasKeyAt places (values_at places now.values) (map (replaced_by given) rows) kept = kept_has places rows given (values_at places now.values) rows kept alone.0 alone.1 in
          record {
            index = index;
            late = all_more (λ one. IsLate (Some (earlier_clash first clash)) one.number (keeper places rows given (values_at places one.values))) given i row within (all_late places rows given first clash (take i given) judged.late)
                (subst (λ (o : Option ℕ). IsLate (Some (earlier_clash first clash)) now.number o) (sym is) (late_of first now.number kept (values_at places now.values)));
            clash = clash_sooner places (map (replaced_by given) rows) first clash judged.clash
                (clash_both places (map (replaced_by given) rows) now.number kept (values_at places now.values)
                (λ same. let wrong : None ≡ Some now = sym alone.0 ∙ ap (λ (n : ℕ). find (λ one. one.number == n) given) (sym same) ∙ now_found in cc) now_has other);
          }

    pub judged_next : (new : HeldKeys) (k : RowKey) → k ≡ key_at places row.values → claims k ≡ None → ((q : RowKey) → new q ≡ cond (is_at (key_order k) q) (Some row.number) (claims q))
        → AreJudged places rows given new (first_clash first (keeper places rows given k.values) row.number k.values) (take (i + 1) given)
    judged_next new k key free put =
        let here : k ≡ key_at places now.values = key ∙ ap (λ (r : TableRow). key_at places r.values) at in
        let made = next new (ap claims (sym here) ∙ free) (λ q. put q ∙ (λ j. cond (is_at (key_order (here j)) q) (Some (at j).number) (claims q))) in
        subst (λ (r : TableRow). AreJudged places rows given new (first_clash first (keeper places rows given k.values) r.number k.values) (take (i + 1) given)) (sym at)
        (subst (λ (q : RowKey). AreJudged places rows given new (first_clash first (keeper places rows given q.values) now.number q.values) (take (i + 1) given)) (sym here) made)

    -- the clash of a given row with an earlier given one
    clash_now : (earlier : ℕ) → claims (key_at places now.values) ≡ Some earlier → IsClash places (map (replaced_by given) rows) (Some (record { earlier = earlier; later = now.number; key = values_at places now.values }))
    clash_now earlier is = by (row_of_key places (values_at places now.values) (take i given)) refl (sym (judged.index.only (key_at places now.values)) ∙ is) where
      by : (o : Option TableRow) → row_of_key places (values_at places now.values) (take i given) ≡ o → option_map (λ (one : TableRow). one.number) o ≡ Some earlier
          → IsClash places (map (replaced_by given) rows) (Some (record { earlier = earlier; later = now.number; key = values_at places now.values }))
      by None was not_some = cc
      by (Some other) was one =
          let number : other.number ≡ earlier = some_is one in
          let key : values_at places other.values ≡ values_at places now.values = same_exact (values_at places other.values) (values_at places now.values) (found_is (has_key places (values_at places now.values)) (take i given) other was) in
          let less : other.number < now.number = found_all (λ r. r.number < now.number) (has_key places (values_at places now.values)) (take i given) parts.1 other was in
          let rising : RisesFrom 0 (take i given) = rises_front 0 (take i given) (now ∷ drop (i + 1) given) (subst (λ (l : List TableRow). RisesFrom 0 l) parted sorted) in
          let found : find (λ one. one.number == other.number) given ≡ Some other =
          ap (find (λ (one : TableRow). one.number == other.number)) parted ∙ find-append (λ (one : TableRow). one.number == other.number) (take i given) (now ∷ drop (i + 1) given)
          ∙ ap (λ (o : Option TableRow). option_or o (find (λ (one : TableRow). one.number == other.number) (now ∷ drop (i + 1) given))) (find_number (has_key places (values_at places now.values)) 0 (take i given) other rising was) in
          let has : HasKeyAt places (values_at places other.values) (map (replaced_by given) rows) other.number =
          given_has places rows given rows other.number other found (all_found (λ (r : TableRow). list_any (λ one. one.number == r.number) rows) (λ one. one.number == other.number) given other stand found) in (
            omega (arith, less, number),
            subst (λ (n : ℕ). HasKeyAt places (values_at places now.values) (map (replaced_by given) rows) n) number
                (subst (λ (v : List Value). HasKeyAt places v (map (replaced_by given) rows) other.number) key has),
            now_has,
          )

    taken : (earlier : ℕ) → claims (key_at places now.values) ≡ Some earlier → (clash : Clash) → clash ≡ earlier_clash first (record { earlier = earlier; later = now.number; key = values_at places now.values })
        → both_stop places (clash_after places [] (map (replaced_by given) rows)) ≡ Some (KeyTaken (Some clash.earlier) (Some clash.later) clash.key)
    taken earlier is clash same =
        let one : Clash = record { earlier = earlier; later = now.number; key = values_at places now.values } in
        let least : (earlier_clash first one).later ≤ now.number = sooner_later first one in
        subst (λ (c : Clash). both_stop places (clash_after places [] (map (replaced_by given) rows)) ≡ Some (KeyTaken (Some c.earlier) (Some c.later) c.key)) (sym same)
        (first_is claims (earlier_clash first one) (take i given) (now ∷ drop (i + 1) given) judged.index (all_late places rows given first one (take i given) judged.late)
        (clash_sooner places (map (replaced_by given) rows) first one judged.clash (clash_now earlier is)) parted (
          le-ltb now.number (earlier_clash first one).later least,
          all_weaker (λ r. now.number + 1 ≤ r.number) (λ r. is_below (Some (earlier_clash first one)) r.number ≡ false) (λ r from. le-ltb r.number (earlier_clash first one).later (omega (arith, from, least)))
              (drop (i + 1) given) (rises_all (now.number + 1) (now.number + 1) (drop (i + 1) given) (omega arith) parts.2),
        ))

    pub judged_taken : (k : RowKey) (earlier : ℕ) → k ≡ key_at places row.values → claims k ≡ Some earlier → (clash : Clash) → clash ≡ earlier_clash first (record { earlier = earlier; later = row.number; key = k.values })
        → both_stop places (clash_after places [] (map (replaced_by given) rows)) ≡ Some (KeyTaken (Some clash.earlier) (Some clash.later) clash.key)
    judged_taken k earlier key is clash same =
        let here : k ≡ key_at places now.values = key ∙ ap (λ (r : TableRow). key_at places r.values) at in
        taken earlier (ap claims (sym here) ∙ is) clash (same ∙ (λ j. earlier_clash first (record { earlier = earlier; later = (at j).number; key = (here j).values })))
