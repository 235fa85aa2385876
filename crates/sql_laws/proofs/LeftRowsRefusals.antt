-- The refusals that depend on rows, and their needs, over a table without rows that aren't needed.
use Rattle.std.proofs.Common.{◌≡◌, List, [], ◌∷◌, ◌++◌, refl, sym, ap, ◌∙◌, Bool, true, false, inl, inr}
use Rattle.std.specs.Prelude.{Option, Some, None, map, filter, length, ◌&&◌, ◌||◌}
use Rattle.std.specs.List.{list_all}
use Rattle.ldv_value.proofs.Booleans.{and-parts}
use Rattle.ldv_value.proofs.Cases.{cases-bool}
use Rattle.sql_laws.specs.Types.{Catalog, SqlRefusal, NotNull, Full, Statement, Table, TableRow}
use Rattle.sql_model.specs.Changes.{table_after, matched, lacks_value, KeyClash, key_clash, key_refusal, is_full, or_else, refusal_if, change_refusal}
use Rattle.sql_model.specs.Changes.{had_row}
use Rattle.sql_model.specs.Needs.{matched_row, matched_rows, clash_rows, key_row, key_rows}
use Rattle.sql_laws.specs.QueryLaw.{Keep, stays, KeepsNeeded}
use Rattle.sql_model.specs.Statements.{matched_count}
use Rattle.sql_laws.proofs.KeptClash.{key_kept, key_among}
use Rattle.sql_laws.proofs.LeftRows.{KeepsNew, small, safe, changed_safe, changed_cut, matched_same, matched_full, lacks_same, full_same, stood_same}
use Rattle.sql_laws.proofs.QueryKeeps.{needed_split}
pub use Rattle.sql_laws.proofs.StatementParts.{OnNone}
use Rattle.sql_laws.proofs.StatementParts.{needs_at, on_any}
use Rattle.sql_model.proofs.Equations.{changed_name}

-- a table gives the same refusal, needs and number of matched rows as another
pub record SameAt (statement : Statement) (catalog : Catalog) (o : Option Table) (p : Option Table) : Type 0 where
  pub refusal : Option SqlRefusal
  pub less : change_refusal statement catalog o ≡ refusal
  pub more : change_refusal statement catalog p ≡ refusal
  pub needs : needs_at refusal statement catalog o ≡ needs_at refusal statement catalog p
  pub count : OnNone refusal (matched_count statement catalog o ≡ matched_count statement catalog p)

module _ (keep : Keep) (t : Table) (catalog : Catalog) (s : Statement) (new : KeepsNew keep t) where
  abbrev less : Table
  less = small keep t

  abbrev whole : Table
  whole = table_after s catalog t

  abbrev clash : Option KeyClash
  clash = key_clash whole

  abbrev first_of : Bool → Option KeyClash → Bool → Option SqlRefusal
  first_of lacks found full = or_else (refusal_if lacks NotNull) (or_else (key_refusal t found) (refusal_if full Full))

  abbrev Matches : Type 0
  Matches = matched s catalog less ≡ matched s catalog t

  -- ---- the clash

  key_same : (o : Option KeyClash) → key_refusal less o ≡ key_refusal t o
  key_same None = refl
  key_same (Some found) = refl

  less_is : change_refusal s catalog (Some less)
      ≡ first_of (lacks_value s catalog less) (key_clash (table_after s catalog less)) (is_full s t)
  less_is = λ j. or_else (refusal_if (lacks_value s catalog less) NotNull) (or_else (key_same (key_clash (table_after s catalog less)) j) (refusal_if (full_same keep t catalog s j) Full))

  clash_same : list_all (stays keep t) (clash_rows clash) ≡ true
      → key_clash (table_after s catalog less) ≡ clash
  clash_same kept =
      ap key_clash (changed_cut keep t catalog s new)
      ∙ key_kept (stays keep whole) whole.schema.key whole.rows ((λ j. list_all (λ row. keep (changed_name s catalog t j) row.number) (clash_rows clash)) ∙ kept)

  -- the rows that stood are needed, and the others stay
  safe_kept : (rows : List TableRow) → list_all (safe keep t) rows ≡ true
      → KeepsNeeded keep (map (key_row t) (filter (had_row t) rows)) → list_all (stays keep t) rows ≡ true
  safe_kept [] all k = refl
  safe_kept (row ∷ rows) all k =
      let both = and-parts (safe keep t row) (list_all (safe keep t) rows) all in
      elim (cases-bool (had_row t row)) [
        | inl in_table ↦
            let kk : KeepsNeeded keep (key_row t row ∷ map (key_row t) (filter (had_row t) rows)) = rw in_table at k in
            (λ j. kk.0 j && safe_kept rows both.1 kk.1 j)
        | inr fresh ↦
            let kk : KeepsNeeded keep (map (key_row t) (filter (had_row t) rows)) = rw fresh at k in
            let here : keep t.name row.number ≡ true = sym (ap (λ (b : Bool). b || keep t.name row.number) fresh) ∙ both.0 in
            (λ j. here j && safe_kept rows both.1 kk j)
      ]

  clash_kept : KeepsNeeded keep (key_rows s catalog (Some t))
      → list_all (stays keep t) (clash_rows clash) ≡ true
  clash_kept k = safe_kept (clash_rows clash) (key_among (safe keep t) whole.schema.key whole.rows (changed_safe keep t catalog s new)) k

  keys_same : list_all (stays keep t) (clash_rows clash) ≡ true
      → key_rows s catalog (Some less) ≡ key_rows s catalog (Some t)
  keys_same kept =
      (λ j. map (key_row t) (filter (had_row less) (clash_rows (clash_same kept j))))
      ∙ ap (map (key_row t)) (stood_same keep t (clash_rows clash) kept)

  -- ---- by what is refused

  abbrev Alike : Type 0
  Alike = SameAt s catalog (Some less) (Some t)

  rows_same : Matches → matched_rows s catalog (Some less) ≡ matched_rows s catalog (Some t)
  rows_same m = λ j. map (matched_row t) (m j)

  more_is : (lacks : Bool) → lacks_value s catalog t ≡ lacks → (found : Option KeyClash) → clash ≡ found
      → (full : Bool) → is_full s t ≡ full
      → change_refusal s catalog (Some t) ≡ first_of lacks found full
  more_is lacks is_lacks found is_found full is_that = λ j. first_of (is_lacks j) (is_found j) (is_that j)

  lacks_by : lacks_value s catalog t ≡ true → Matches → Alike
  lacks_by lacks m = record {
    refusal = Some NotNull;
    less = less_is ∙ ap (λ (b : Bool). first_of b (key_clash (table_after s catalog less)) (is_full s t)) (lacks_same keep t catalog s m ∙ lacks);
    more = more_is true lacks clash refl (is_full s t) refl;
    needs = rows_same m;
    count = tt;
  }

  -- the rows of the clash stay
  clash_by : (lacks : Bool) → lacks_value s catalog t ≡ lacks → (found : Option KeyClash) → clash ≡ found
      → (full : Bool) → is_full s t ≡ full
      → Matches → list_all (stays keep t) (clash_rows clash) ≡ true
      → needs_at (first_of lacks found full) s catalog (Some less)
      ≡ needs_at (first_of lacks found full) s catalog (Some t)
      → Alike
  clash_by lacks is_lacks found is_found full is_that m kept needs = record {
    refusal = first_of lacks found full;
    less = less_is ∙ (λ j. first_of ((lacks_same keep t catalog s m ∙ is_lacks) j) ((clash_same kept ∙ is_found) j) (is_that j));
    more = more_is lacks is_lacks found is_found full is_that;
    needs = needs;
    count = on_any (first_of lacks found full) (λ j. length (m j));
  }

  none_kept : clash ≡ None → list_all (stays keep t) (clash_rows clash) ≡ true
  none_kept none = ap (λ (o : Option KeyClash). list_all (stays keep t) (clash_rows o)) none

  alike_by : (lacks : Bool) → lacks_value s catalog t ≡ lacks → (found : Option KeyClash) → clash ≡ found
      → (full : Bool) → is_full s t ≡ full
      → KeepsNeeded keep (needs_at (first_of lacks found full) s catalog (Some t)) → Alike
  alike_by true is_lacks found is_found full is_that k = lacks_by is_lacks (matched_same keep t catalog s k)
  alike_by false is_lacks None none true is_that k = clash_by false is_lacks None none true is_that (matched_full keep t catalog s is_that) (none_kept none) refl
  alike_by false is_lacks None none false is_that k =
      let m : Matches = matched_same keep t catalog s k in
      clash_by false is_lacks None none false is_that m (none_kept none) (rows_same m)
  alike_by false is_lacks (Some found) is_found full is_that k =
      let both = needed_split keep (matched_rows s catalog (Some t)) (key_rows s catalog (Some t)) k in
      let m : Matches = matched_same keep t catalog s both.0 in
      let kept : list_all (stays keep t) (clash_rows clash) ≡ true = clash_kept both.1 in
      clash_by false is_lacks (Some found) is_found full is_that m kept (λ j. rows_same m j ++ keys_same kept j)

  pub alike : KeepsNeeded keep (needs_at (change_refusal s catalog (Some t)) s catalog (Some t)) → Alike
  alike k = alike_by (lacks_value s catalog t) refl clash refl (is_full s t) refl k
