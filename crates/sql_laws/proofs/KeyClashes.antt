-- If no two rows have the same key, no row has the key of an earlier one.
use Rattle.std.proofs.Common.{◌≡◌, ℕ, List, [], ◌∷◌, ◌++◌, map, length, refl, ap, ◌∙◌, Bool, true, false, cond, arith, Option, Some, None}
use Rattle.std.specs.Prelude.{filter, find, not, ◌&&◌, ◌==◌}
use Rattle.std.proofs.lemmas.Bool.Decides.{nat_tests}
use Rattle.std.specs.List.{list_any, AllByRecursion}
use Rattle.std.specs.Option.{option_or}
use Rattle.ldv_value.proofs.Booleans.{or-parts}
use Rattle.ldv_value.proofs.Lists.{find-append}
use Rattle.sql_model.proofs.UniqueKeys.{values_in, unique-fewer}
use Rattle.sql_model.specs.Changes.{shares_key, clash_or, clash_after, clash_by}
use Rattle.sql_model.specs.Keys.{same_values, values_at, repeats}
use Rattle.sql_model.specs.Tables.{are_keys_unique}
use Rattle.sql_laws.specs.Types.{TableRow, Value}

module _ (key : List ℕ) where
  abbrev keys : List TableRow → List (List Value)
  keys rows = map (values_at key) (values_in rows)

  -- none of the rows has the key of one before
  abbrev AreApart : List TableRow → List TableRow → Type 0
  AreApart before rows = AllByRecursion (λ row. find (shares_key key row) before ≡ None) rows

  one_more : (row : TableRow) (before rows : List TableRow) → AreApart before rows → list_any (same_values (values_at key row.values)) (keys rows) ≡ false
      → AreApart (before ++ row ∷ []) rows
  one_more row before [] all differ = tt
  one_more row before (next ∷ rows) all differ =
      let parts = or-parts (same_values (values_at key row.values) (values_at key next.values)) (list_any (same_values (values_at key row.values)) (keys rows)) differ in (
        find-append (shares_key key next) before (row ∷ [])
            ∙ ap (λ (o : Option TableRow). option_or o (find (shares_key key next) (row ∷ []))) all.0
            ∙ ap (λ (b : Bool). cond b (Some row) None) parts.0,
        one_more row before rows all.1 parts.1,
      )

  none_before : (rows : List TableRow) → AreApart [] rows
  none_before [] = tt
  none_before (row ∷ rows) = (refl, none_before rows)

  clear : (before rows : List TableRow) → AreApart before rows → repeats same_values (keys rows) ≡ false → clash_after key before rows ≡ None
  clear before [] all differ = refl
  clear before (row ∷ rows) all differ =
      let parts = or-parts (list_any (same_values (values_at key row.values)) (keys rows)) (repeats same_values (keys rows)) differ in
      ap (λ (o : Option TableRow). clash_or o row (clash_after key (before ++ row ∷ []) rows)) all.0
      ∙ clear (before ++ row ∷ []) rows (one_more row before rows all.1 parts.0) parts.1

none_twice : (empty twice : Bool) → empty ≡ false → not (not empty && twice) ≡ true → twice ≡ false
none_twice false false some is = refl
none_twice false true some is = cc
none_twice true twice some is = cc

no_clash : (key : List ℕ) (rows : List TableRow) → are_keys_unique key (values_in rows) ≡ true → clash_by key rows ≡ None
no_clash [] rows is = refl
no_clash (place ∷ places) rows is =
    let some : (length (place ∷ places) == 0) ≡ false = grind (arith, nat_tests) in
    clear (place ∷ places) [] rows (none_before (place ∷ places) rows)
    (none_twice (length (place ∷ places) == 0) (repeats same_values (keys (place ∷ places) rows)) some is)

pub no_clash_fewer : (key : List ℕ) (keep : TableRow → Bool) (rows : List TableRow) → are_keys_unique key (values_in rows) ≡ true → clash_by key (filter keep rows) ≡ None
no_clash_fewer key keep rows is = no_clash key (filter keep rows) (unique-fewer key keep rows is)
