-- A join with one more source.
use Rattle.std.proofs.Common.{◌≡◌, ◌∙◌, sym, ap, subst, refl, ℕ, ◌+◌, ◌<◌, Bool, true, false, cond, ◌&&◌, List, [], ◌∷◌, ◌++◌, map, length, append-nil, length-append, arith, inl, inr}
use Rattle.std.proofs.lemmas.Bool.{cases_Bool}
use Rattle.std.specs.Prelude.{filter, nat_lt}
use Rattle.std.specs.List.{list_all, AllByRecursion}
use Rattle.std.proofs.lemmas.Grind.{flat_map-append}
use Rattle.ldv_value.proofs.Booleans.{and-assoc}
use Rattle.ldv_value.proofs.Lists.{filter-append}
use Rattle.query_eval.proofs.Agree.{first_rows_tell}
use Rattle.query_eval.proofs.Product.{extensions, products-more, pushed, EachSplits, all_of, all_there}
use Rattle.query_eval.specs.inner.Joining.{combos, tests, is_ready, ready_conditions, later_conditions, extensions_left, extensions_of, extensions_of_all, are_tied, AreTies, EachHas, extensions_by_ties}
use Rattle.predicates.specs.Placing.{IsPlaced, AreAllPlaced}
use Rattle.query_eval.specs.inner.Sources.{joined_row_values, AreWide}
use Rattle.query_eval.specs.Types.{ColumnName, Value}
use Rattle.predicates.specs.declared.placed.BoundExpr.{BoundExpr}
use Rattle.query_eval.specs.declared.probe.Probe.{Probe}
use Rattle.query_eval.specs.declared.source.SourceRow.{SourceRow}
use Rattle.sql_model.specs.Kinds.{names_in}
use Rattle.sql_model.specs.Meaning.{is_true, truth}
use Rattle.sql_model.specs.Scope.{InScope, environment, place_of, places_in}

pub joined_row_values-append : (p others : List SourceRow) → joined_row_values (p ++ others) ≡ joined_row_values p ++ joined_row_values others
joined_row_values-append p others = flat_map-append (λ (row : SourceRow). row.values) p others

pub joined_row_values-one : (p : List SourceRow) (row : SourceRow) → joined_row_values (p ++ row ∷ []) ≡ joined_row_values p ++ row.values
joined_row_values-one p row = joined_row_values-append p (row ∷ []) ∙ ap (λ l. joined_row_values p ++ l) (append-nil row.values)

lt-true : (a b : ℕ) → nat_lt a b ≡ true → a < b
lt-true a b is = grind (arith, is)

pub both-of : (a b : Bool) → (a && b) ≡ true → (a ≡ true) × (b ≡ true)
both-of true true is = (refl, refl)
both-of true false is = cc
both-of false b is = cc

swapped : (a b c : Bool) → (a && (b && c)) ≡ (b && (a && c))
swapped true b c = refl
swapped false true c = refl
swapped false false c = refl

-- ---- what is ready is told by the first rows

module _ (scope : List InScope) (n : ℕ) where
  all-within : (first : List Value) → length first ≡ n → (names : List ColumnName) → list_all (λ place. nat_lt place n) (places_in scope names) ≡ true
      → AllByRecursion (λ c. place_of scope c < length first) names
  all-within first long [] is = tt
  all-within first long (c ∷ names) is =
      let two = both-of (nat_lt (place_of scope c) n) (list_all (λ place. nat_lt place n) (places_in scope names)) is in
      (omega (arith, lt-true (place_of scope c) n two.0, long), all-within first long names two.1)

  one-first : (p others : List SourceRow) (c : BoundExpr) → IsPlaced scope c → is_ready n c ≡ true → length (joined_row_values p) ≡ n
      → truth c.expr (environment scope (joined_row_values (p ++ others))) ≡ truth c.expr (environment scope (joined_row_values p))
  one-first p others c placed is long =
      ap (λ (l : List Value). truth c.expr (environment scope l)) (joined_row_values-append p others)
      ∙ first_rows_tell scope c.expr (joined_row_values p) (joined_row_values others)
      (all-within (joined_row_values p) long (names_in c.expr) (ap (list_all (λ place. nat_lt place n)) placed ∙ is))

  ready_conditions-first : (p others : List SourceRow) (conds : List BoundExpr) → AreAllPlaced scope conds → length (joined_row_values p) ≡ n
      → tests scope (ready_conditions n conds) (p ++ others) ≡ tests scope (ready_conditions n conds) p
  ready_conditions-first p others [] all long = refl
  ready_conditions-first p others (c ∷ conds) all long = elim (cases_Bool (is_ready n c)) [
    | inl hit ↦ rw hit (λ j. is_true (one-first p others c all.0 hit long j) && ready_conditions-first p others conds all.1 long j)
    | inr miss ↦ rw miss (ready_conditions-first p others conds all.1 long)
  ]

  parted : (rows : List SourceRow) (conds : List BoundExpr) → tests scope conds rows ≡ (tests scope (ready_conditions n conds) rows && tests scope (later_conditions n conds) rows)
  parted rows [] = refl
  parted rows (c ∷ conds) =
      let t = is_true (truth c.expr (environment scope (joined_row_values rows))) in
      elim (cases_Bool (is_ready n c)) [
        | inl hit ↦ rw hit (ap (λ b. t && b) (parted rows conds) ∙ sym (and-assoc t (tests scope (ready_conditions n conds) rows) (tests scope (later_conditions n conds) rows)))
        | inr miss ↦ rw miss (ap (λ b. t && b) (parted rows conds) ∙ swapped t (tests scope (ready_conditions n conds) rows) (tests scope (later_conditions n conds) rows))
      ]

  each-splits : (conds : List BoundExpr) → AreAllPlaced scope conds → (ps : List (List SourceRow)) → EachHas n ps
      → EachSplits (tests scope conds) (tests scope (ready_conditions n conds)) (tests scope (later_conditions n conds)) ps
  each-splits conds all [] long = tt
  each-splits conds all (p ∷ ps) long =
      (λ others. parted (p ++ others) conds ∙ ap (λ b. b && tests scope (later_conditions n conds) (p ++ others)) (ready_conditions-first p others conds all long.0), each-splits conds all ps long.1)

  pub ready_conditions-placed : (conds : List BoundExpr) → AreAllPlaced scope conds → AreAllPlaced scope (ready_conditions n conds)
  ready_conditions-placed [] all = tt
  ready_conditions-placed (c ∷ conds) all = elim (cases_Bool (is_ready n c)) [
    | inl hit ↦ rw hit (all.0, ready_conditions-placed conds all.1)
    | inr miss ↦ rw miss (ready_conditions-placed conds all.1)
  ]

  pub later_conditions-placed : (conds : List BoundExpr) → AreAllPlaced scope conds → AreAllPlaced scope (later_conditions n conds)
  later_conditions-placed [] all = tt
  later_conditions-placed (c ∷ conds) all = elim (cases_Bool (is_ready n c)) [
    | inl hit ↦ rw hit (later_conditions-placed conds all.1)
    | inr miss ↦ rw miss (all.0, later_conditions-placed conds all.1)
  ]

-- ---- one source more

module _ (scope : List InScope) where
  -- a filter of what all prefixes give
  all-together : (conds : List BoundExpr) (ps : List (List SourceRow)) (rows : List SourceRow) → filter (tests scope conds) (extensions ps rows) ≡ extensions_of_all scope conds ps rows
  all-together conds [] rows = refl
  all-together conds (p ∷ ps) rows =
      filter-append (tests scope conds) (map (λ row. p ++ row ∷ []) rows) (extensions ps rows)
      ∙ ap (λ l. extensions_of scope conds p rows ++ l) (all-together conds ps rows)

  joined-long : (n : ℕ) (ps qs : List (List SourceRow)) → EachHas n ps → EachHas n qs → EachHas n (ps ++ qs)
  joined-long n [] qs a b = b
  joined-long n (p ∷ ps) qs a b = (a.0, joined-long n ps qs a.1 b)

  longer-one : (n w : ℕ) (p : List SourceRow) (row : SourceRow) → length (joined_row_values p) ≡ n → length row.values ≡ w → length (joined_row_values (p ++ row ∷ [])) ≡ n + w
  longer-one n w p row long wide = ap length (joined_row_values-one p row) ∙ length-append (joined_row_values p) row.values ∙ (λ j. long j + wide j)

  all-longer : (n w : ℕ) (p : List SourceRow) (rows : List SourceRow) → length (joined_row_values p) ≡ n → AreWide w rows → EachHas (n + w) (map (λ row. p ++ row ∷ []) rows)
  all-longer n w p [] long wide = tt
  all-longer n w p (row ∷ rows) long wide = (longer-one n w p row long wide.0, all-longer n w p rows long wide.1)

  longer : (n w : ℕ) (ps : List (List SourceRow)) (rows : List SourceRow) → EachHas n ps → AreWide w rows → EachHas (n + w) (extensions ps rows)
  longer n w [] rows long wide = tt
  longer n w (p ∷ ps) rows long wide =
      joined-long (n + w) (map (λ row. p ++ row ∷ []) rows) (extensions ps rows) (all-longer n w p rows long.0 wide) (longer n w ps rows long.1 wide)

  kept-long : (n : ℕ) (test : List SourceRow → Bool) (ps : List (List SourceRow)) → EachHas n ps → EachHas n (filter test ps)
  kept-long n test [] long = tt
  kept-long n test (p ∷ ps) long = elim (cases_Bool (test p)) [
    | inl hit ↦ rw hit (long.0, kept-long n test ps long.1)
    | inr miss ↦ rw miss (kept-long n test ps long.1)
  ]

  pub step-long : (n w : ℕ) (conds : List BoundExpr) (ps : List (List SourceRow)) (rows : List SourceRow) → EachHas n ps → AreWide w rows → EachHas (n + w) (extensions_of_all scope conds ps rows)
  step-long n w conds ps rows long wide = subst (EachHas (n + w)) (all-together conds ps rows) (kept-long (n + w) (tests scope conds) (extensions ps rows) (longer n w ps rows long wide))

  pub step-same : (n w : ℕ) (conds : List BoundExpr) → AreAllPlaced scope conds → (ps : List (List SourceRow)) (rows : List SourceRow) (rest : List (List SourceRow)) → EachHas n ps → AreWide w rows
      → extensions_left scope (later_conditions (n + w) conds) (extensions_of_all scope (ready_conditions (n + w) conds) ps rows) rest ≡ extensions_left scope conds ps (rows ∷ rest)
  step-same n w conds all ps rows rest long wide = sym (
      ap (filter (tests scope conds)) (products-more ps rows rest)
      ∙ pushed (tests scope conds) (tests scope (ready_conditions (n + w) conds)) (tests scope (later_conditions (n + w) conds)) (extensions ps rows) rest
      (each-splits scope (n + w) conds all (extensions ps rows) (longer n w ps rows long wide))
      ∙ ap (λ qs. extensions_left scope (later_conditions (n + w) conds) qs rest) (all-together (ready_conditions (n + w) conds) ps rows))

  pub first-step : (conds : List BoundExpr) (tables : List (List SourceRow)) → extensions_left scope conds ([] ∷ []) tables ≡ filter (tests scope conds) (combos tables)
  first-step conds tables = ap (filter (tests scope conds)) (all_of tables)

  pub last-step : (conds : List BoundExpr) (ps : List (List SourceRow)) → extensions_left scope conds ps [] ≡ filter (tests scope conds) ps
  last-step conds ps = ap (filter (tests scope conds)) (all_there ps)

  -- without a condition all stay
  pub no-conditions : (conds : List BoundExpr) → conds ≡ [] → (ps : List (List SourceRow)) → ps ≡ filter (tests scope conds) ps
  no-conditions conds none [] = refl
  no-conditions conds none (p ∷ ps) =
      let passes : tests scope conds p ≡ true = ap (λ (cs : List BoundExpr). tests scope cs p) none in
      ap (λ l. p ∷ l) (no-conditions conds none ps) ∙ sym (ap (λ b. cond b (p ∷ filter (tests scope conds) ps) (filter (tests scope conds) ps)) passes)

-- ---- rows that are looked up

-- a filter before a filter: together they are the whole test
found-exact : {X A : Type 0} (test rest : A → Bool) (f : X → A) (kept : X → Bool) → ((x : X) → test (f x) ≡ (kept x && rest (f x))) → (xs : List X)
    → filter rest (map f (filter kept xs)) ≡ filter test (map f xs)
found-exact test rest f kept same [] = refl
found-exact test rest f kept same (x ∷ xs) = elim (cases_Bool (kept x)) [
  | inl hit ↦
      let is : test (f x) ≡ rest (f x) = same x ∙ ap (λ b. b && rest (f x)) hit in
      rw (hit, is) (ap (λ l. cond (rest (f x)) (f x ∷ l) l) (found-exact test rest f kept same xs))
  | inr miss ↦
      let is : test (f x) ≡ false = same x ∙ ap (λ b. b && rest (f x)) miss in
      rw (miss, is) (found-exact test rest f kept same xs)
]

module _ (scope : List InScope) (conds : List BoundExpr) (all : AreAllPlaced scope conds) (n : ℕ) (ties : List Probe) (others : List BoundExpr)
    (are : AreTies conds n ties others) where
  pub others-placed : AreAllPlaced scope others
  others-placed = (are scope all).0

  -- the rows that are looked up are those that meet the equalities
  pub tied-level : (ps : List (List SourceRow)) (rows : List SourceRow) → EachHas n ps → extensions_by_ties scope others ties ps rows ≡ extensions_of_all scope conds ps rows
  tied-level [] rows long = refl
  tied-level (p ∷ ps) rows long = λ j.
      found-exact (tests scope conds) (tests scope others) (λ row. p ++ row ∷ []) (λ row. are_tied ties p row) (λ row. (are scope all).1 p row long.0) rows j
      ++ tied-level ps rows long.1 j
