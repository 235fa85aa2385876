-- No two tables have one name if the tables are strictly increasing by name.
use Rattle.std.proofs.Common.{◌≡◌, ℕ, List, [], ◌∷◌, refl, sym, ap, ◌∙◌, Bool, true, false, inl, inr}
use Rattle.std.specs.Prelude.{Some, find, map, if◌then◌else◌}
use Rattle.std.specs.List.{list_all}
use Rattle.std.specs.declared.cmp.Ordering.TheVariants.{Less}
use Rattle.std.specs.Cmp.Lexicographic.{slice_cmp}
use Rattle.std.specs.Ordering.{nat_cmp, is_eq, ordering_reverse}
use Rattle.std.proofs.lemmas.Cmp.{nat_list_cmp_total}
use Rattle.std.proofs.lemmas.Map.Text.{is_eq-slice_cmp}
use Rattle.ldv_value.proofs.Booleans.{and-parts, and-from}
use Rattle.ldv_value.proofs.Cases.{cases-bool}
use Rattle.ldv_value.proofs.Options.{same-some}
use Rattle.ldv_value.proofs.SameBytes.{bytes_eq-true}
use Rattle.ldv_value.specs.Sorted.{text_precedes, is_strictly_sorted}
use Rattle.sql_laws.specs.Types.{Table}
use Rattle.sql_model.proofs.SortedLists.{sorted-all, sorted-tail}
use Rattle.sql_model.specs.Scope.{same_text, is_table}
use Rattle.sql_model.specs.Tables.{table_precedes}
use Rattle.ldv_value.proofs.Orderings.{is_lt-true}
use Rattle.ldv_value.proofs.TextOrders.{text_trans}

pub less-differs : (a b : List ℕ) → text_precedes a b ≡ true → same_text a b ≡ false
less-differs a b is = sym (is_eq-slice_cmp a b) ∙ ap is_eq (is_lt-true (slice_cmp nat_cmp a b) is)

pub more-differs : (a b : List ℕ) → text_precedes a b ≡ true → same_text b a ≡ false
more-differs a b is =
    let less : slice_cmp nat_cmp a b ≡ Less = is_lt-true (slice_cmp nat_cmp a b) is in
    sym (is_eq-slice_cmp b a) ∙ ap is_eq (nat_list_cmp_total.antisymm b a ∙ ap ordering_reverse less)

pub table-trans : (a b c : Table) → table_precedes a b ≡ true → table_precedes b c ≡ true → table_precedes a c ≡ true
table-trans a b c first second = text_trans a.name b.name c.name first second

-- the tables after one have other names
module _ (change : Table → Table) where
  abbrev pub change_named : List ℕ → Table → Table
  change_named name table = if is_table name table then change table else table

  others_same : (name : List ℕ) (t : Table) → is_table name t ≡ true → (ts : List Table)
      → list_all (table_precedes t) ts ≡ true
      → map (change_named name) ts ≡ ts
  others_same name t named [] after = refl
  others_same name t named (u ∷ us) after =
      let both = and-parts (table_precedes t u) (list_all (table_precedes t) us) after in
      let differs : is_table name u ≡ false = ap (same_text u.name) (sym (bytes_eq-true t.name name named)) ∙ more-differs t.name u.name both.0 in
      rw differs (ap (λ (l : List Table). u ∷ l) (others_same name t named us both.1))

  -- only the table that is found by the name is changed
  pub all-changed : (test : Table → Bool) (name : List ℕ) (t : Table) → test (change t) ≡ true → (ts : List Table)
      → find (is_table name) ts ≡ Some t
      → is_strictly_sorted table_precedes ts ≡ true
      → list_all test ts ≡ true
      → list_all test (map (change_named name) ts) ≡ true
  all-changed test name t good [] found sorted all = refl
  all-changed test name t good (u ∷ us) found sorted all =
      let both = and-parts (test u) (list_all test us) all in
      elim (cases-bool (is_table name u)) [
        | inl hit ↦
            let e : Some u ≡ Some t = rw hit at found in
            let same : u ≡ t = same-some u t e in
            let here : test (change u) ≡ true = ap (λ (v : Table). test (change v)) same ∙ good in
            let rest : list_all test (map (change_named name) us) ≡ true = ap (list_all test) (others_same name u hit us (sorted-all table_precedes table-trans u us sorted)) ∙ both.1 in
            rw hit (and-from (test (change u)) (list_all test (map (change_named name) us)) here rest)
        | inr miss ↦
            let more : find (is_table name) us ≡ Some t = rw miss at found in
            let rest : list_all test (map (change_named name) us) ≡ true = all-changed test name t good us more (sorted-tail table_precedes table-trans u us sorted) both.1 in
            rw miss (and-from (test u) (list_all test (map (change_named name) us)) both.0 rest)
      ]

  -- what doesn't change a table is the same in all of them
  pub map-changed : {Y : Type 0} (of : Table → Y) → ((t : Table) → of (change t) ≡ of t) → (name : List ℕ) (ts : List Table)
      → map of (map (change_named name) ts) ≡ map of ts
  map-changed of same name [] = refl
  map-changed of same name (t ∷ ts) = elim (cases-bool (is_table name t)) [
    | inl hit ↦ rw hit (λ j. same t j ∷ map-changed of same name ts j)
    | inr miss ↦ rw miss (λ j. of t ∷ map-changed of same name ts j)
  ]
