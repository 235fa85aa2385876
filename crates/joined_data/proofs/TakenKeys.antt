-- The search by seen keys finds the later row of the clash of keys.
use Rattle.std.proofs.Common.{◌≡◌, ℕ, List, [], ◌∷◌, ◌++◌, Bool, true, false, cond, ◌||◌, refl, ap, ◌∙◌, sym, arith, length, Option, Some, None}
use Rattle.std.specs.Prelude.{find, not, ◌==◌, option_map}
use Rattle.std.specs.List.{list_any}
use Rattle.std.proofs.lemmas.Bool.Decides.{nat_tests}
use Rattle.std.specs.Option.{is_some}
use Rattle.ldv_value.proofs.Lists.{list_any-append}
use Rattle.ldv_value.specs.declared.value.Value.{Value}
use Rattle.sql_model.specs.Changes.{KeyClash, shares_key, clash_or, clash_after, clash_by, key_clash}
use Rattle.sql_model.specs.Keys.{same_values, values_at}
use Rattle.joined_data.specs.Types.{Table, TableRow}
use Rattle.joined_data.specs.inner.TakenKeys.{unseen, seen_after, first_taken_row}

abbrev pub later_number : KeyClash → ℕ
later_number clash = clash.later.number

found_any : {X : Type 0} (p : X → Bool) (xs : List X) → is_some (find p xs) ≡ list_any p xs
found_any p [] = refl
found_any p (x ∷ xs) = by (p x) (found_any p xs)
  where
    by : (b : Bool) → is_some (find p xs) ≡ list_any p xs → is_some (cond b (Some x) (find p xs)) ≡ (b || list_any p xs)
    by true rest = refl
    by false rest = rest

module _ (places : List ℕ) where
  abbrev key_of : TableRow → List Value
  key_of row = values_at places row.values

  abbrev among : List TableRow → List Value → Bool
  among before key = list_any (λ row. same_values (key_of row) key) before

  turned : (b any : Bool) → (any || (b || false)) ≡ cond b true any
  turned true true = refl
  turned true false = refl
  turned false true = refl
  turned false false = refl

  one_more : (before : List TableRow) (row : TableRow) (key : List Value) → among (before ++ row ∷ []) key ≡ seen_after (key_of row) (among before) key
  one_more before row key = list_any-append (λ (r : TableRow). same_values (key_of r) key) before (row ∷ []) ∙ turned (same_values (key_of row) key) (among before key)

  either : (o : Option TableRow) (b : Bool) (row : TableRow) (rest : Option KeyClash) (more : Option ℕ) → is_some o ≡ b → option_map later_number rest ≡ more
      → option_map later_number (clash_or o row rest) ≡ cond b (Some row.number) more
  either None true row rest more is same = cc
  either None false row rest more is same = same
  either (Some earlier) true row rest more is same = refl
  either (Some earlier) false row rest more is same = cc

  pub taken : (before rows : List TableRow) → option_map later_number (clash_after places before rows) ≡ first_taken_row places (among before) rows
  taken before [] = refl
  taken before (row ∷ rows) =
      either (find (shares_key places row) before) (among before (key_of row)) row (clash_after places (before ++ row ∷ []) rows)
      (first_taken_row places (seen_after (key_of row) (among before)) rows)
      (found_any (shares_key places row) before)
      (taken (before ++ row ∷ []) rows ∙ (λ i. first_taken_row places (λ key. one_more before row key i) rows))

pub second_is : (table : Table) → (length table.schema.key == 0) ≡ false → option_map later_number (key_clash table) ≡ first_taken_row table.schema.key unseen table.rows
second_is table some = by table.schema.key some
  where
    by : (key : List ℕ) → (length key == 0) ≡ false → option_map later_number (clash_by key table.rows) ≡ first_taken_row key unseen table.rows
    by [] some = cc
    by (place ∷ places) some = taken (place ∷ places) [] table.rows

pub second_none : (table : Table) → (length table.schema.key == 0) ≡ true → option_map later_number (key_clash table) ≡ None
second_none table none = by table.schema.key none
  where
    by : (key : List ℕ) → (length key == 0) ≡ true → option_map later_number (clash_by key table.rows) ≡ None
    by [] none = refl
    by (place ∷ places) none =
        let some : (length (place ∷ places) == 0) ≡ false = grind (arith, nat_tests) in
        let e : true ≡ false = sym none ∙ some in
        cc

-- ---- a row more

pub one_seen : (places : List ℕ) (seen now : List Value → Bool) (row : TableRow) (rows : List TableRow) → seen (values_at places row.values) ≡ false
    → ((key : List Value) → now key ≡ seen_after (values_at places row.values) seen key)
    → first_taken_row places now rows ≡ first_taken_row places seen (row ∷ rows)
one_seen places seen now row rows fresh after =
    (λ i. first_taken_row places (λ key. after key i) rows)
    ∙ ap (λ (b : Bool). cond b (Some row.number) (first_taken_row places (seen_after (values_at places row.values) seen) rows)) (sym fresh)

pub one_taken : (places : List ℕ) (seen : List Value → Bool) (row : TableRow) (rows : List TableRow) → seen (values_at places row.values) ≡ true
    → first_taken_row places seen (row ∷ rows) ≡ Some row.number
one_taken places seen row rows there = ap (λ (b : Bool). cond b (Some row.number) (first_taken_row places (seen_after (values_at places row.values) seen) rows)) there

pub seen_true : (added seen : Bool) → added ≡ false → added ≡ not seen → seen ≡ true
seen_true added true missed is = refl
seen_true added false missed is = let e : false ≡ true = sym missed ∙ is in cc
