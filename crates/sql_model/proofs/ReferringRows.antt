-- References of rows, judged table by table.
use Rattle.std.proofs.Common.{◌≡◌, ℕ, List, [], ◌∷◌, ◌++◌, refl, sym, ap, ◌∙◌, subst, Bool, true, false, inl, inr}
use Rattle.std.specs.Prelude.{Option, Some, None, filter, not, ◌&&◌, ◌||◌, nat_eq}
use Rattle.std.specs.Cmp.Lexicographic.{pointwise}
use Rattle.std.specs.List.{list_any, list_all}
use Rattle.std.proofs.lemmas.Bool.{cases_Bool}
use Rattle.ldv_value.proofs.Booleans.{and-parts, and-assoc, and-true, or-cases, true≢false}
use Rattle.ldv_value.proofs.Lists.{list_all-weaker}
use Rattle.ldv_value.proofs.SameBytes.{bytes_eq-true}
use Rattle.sql_model.proofs.ParentSchemas.{none_missing, none_parent}
use Rattle.sql_model.specs.Keys.{values_at}
use Rattle.sql_model.specs.Meaning.{is_null}
use Rattle.sql_model.specs.inner.KeySets.{Referring, names, hold_in, table_holds_in, holds_by, same_foreign}
use Rattle.sql_model.specs.References.{all_have_parents, has_parent, is_referring, references_hold}
use Rattle.sql_model.specs.Scope.{same_text, table_at}
use Rattle.sql_model.specs.Types.{Foreign, Table, TableRow}

-- ---- all tables

each_holds : (parents tables : List Table) → list_all (table_holds_in parents) tables ≡ list_all (is_referring parents) tables
each_holds parents [] = refl
each_holds parents (t ∷ ts) = λ j. none_missing parents t.schema.foreign t.rows j && each_holds parents ts j

pub all_hold : (tables : List Table) → list_all (table_holds_in tables) tables ≡ references_hold tables
all_hold tables = each_holds tables tables

-- ---- one parent less

swap_first : (a b c : Bool) → (a && (b && c)) ≡ (b && (a && c))
swap_first true b c = refl
swap_first false true c = refl
swap_first false false c = refl

module _ (p : Table) (ps : List Table) where
  -- what refers to the first table is judged by it, and the others by those after it
  pub first_parent : (rs : List Referring)
      → list_all (hold_in (p ∷ ps)) rs
      ≡ (list_all (holds_by p) rs && list_all (hold_in ps) (filter (λ r. not (names p r)) rs))
  first_parent [] = refl
  first_parent (r ∷ rs) = elim (cases_Bool (names p r)) [
    | inl is ↦
        let own : Bool = list_all (has_parent (Some p) r.foreign) r.rows in
        rw is (ap (λ (b : Bool). own && b) (first_parent rs)
        ∙ sym (and-assoc own (list_all (holds_by p) rs) (list_all (hold_in ps) (filter (λ r. not (names p r)) rs))))
    | inr miss ↦
        rw miss (ap (λ (b : Bool). hold_in ps r && b) (first_parent rs)
        ∙ swap_first (hold_in ps r) (list_all (holds_by p) rs) (list_all (hold_in ps) (filter (λ r. not (names p r)) rs)))
  ]

-- none is judged by a table that it doesn't name
pub none_named : (p : Table) (rs : List Referring) → list_any (names p) rs ≡ false → true ≡ list_all (holds_by p) rs
none_named p [] is = refl
none_named p (r ∷ rs) is = elim (cases_Bool (names p r)) [
  | inl hit ↦ absurd (true≢false (rw hit at is))
  | inr miss ↦ rw miss (none_named p rs (rw miss at is))
]

-- ---- foreign keys that are left out

module _ (g : Foreign → Bool) (f : Foreign) where
  and_twice : (a b : Bool) → (a && b) ≡ (a && (a && b))
  and_twice true b = refl
  and_twice false b = refl

  once_more : (fs : List Foreign) → list_any (same_foreign f) fs ≡ true → list_all g fs ≡ (g f && list_all g fs)
  once_more [] is = absurd (true≢false (sym is))
  once_more (x ∷ fs) is = elim (cases_Bool (same_foreign f x)) [
    | inl hit ↦
        let both = and-parts (pointwise nat_eq f.columns x.columns) (same_text f.parent x.parent) hit in
        let same : f ≡ x = λ j. record { columns = bytes_eq-true f.columns x.columns both.0 j; parent = bytes_eq-true f.parent x.parent both.1 j } in
        subst (λ (y : Foreign). (g x && list_all g fs) ≡ (g y && (g x && list_all g fs))) (sym same) (and_twice (g x) (list_all g fs))
    | inr miss ↦
        ap (λ (b : Bool). g x && b) (once_more fs (rw miss at is))
        ∙ swap_first (g x) (g f) (list_all g fs)
  ]

none_lacks : (parent : Option Table) (f : Foreign) (row : TableRow) → has_parent None f row ≡ true → has_parent parent f row ≡ true
none_lacks parent f row is = let null : list_any is_null (values_at f.columns row.values) ≡ true = none_parent f row ∙ is in rw null refl

module _ (f : Foreign) (fs : List Foreign) (rows : List TableRow) (parents : List Table) where
  left_out : (list_any (same_foreign f) fs || list_all (has_parent None f) rows) ≡ true
      → list_all (all_have_parents parents rows) fs ≡ list_all (all_have_parents parents rows) (f ∷ fs)
  left_out is = elim (or-cases (list_any (same_foreign f) fs) (list_all (has_parent None f) rows) is) [
    | inl twice ↦ once_more (all_have_parents parents rows) f fs twice
    | inr none ↦
        let all : all_have_parents parents rows f ≡ true =
        list_all-weaker (has_parent None f) (has_parent (table_at f.parent parents) f) (none_lacks (table_at f.parent parents) f) rows none in
        rw all refl
  ]

  pub none_added : (list_any (same_foreign f) fs || list_all (has_parent None f) rows) ≡ true → (found : List Referring)
      → (list_all (hold_in parents) found && list_all (all_have_parents parents rows) fs)
      ≡ (list_all (hold_in parents) found && list_all (all_have_parents parents rows) (f ∷ fs))
  none_added is found = ap (λ (b : Bool). list_all (hold_in parents) found && b) (left_out is)

pub last_added : {X : Type 0} (p : X → Bool) (x : X) (b : Bool) (xs : List X)
    → (list_all p (xs ++ x ∷ []) && b) ≡ (list_all p xs && (p x && b))
last_added p x b [] = ap (λ (c : Bool). c && b) (and-true (p x))
last_added p x b (y ∷ xs) =
    and-assoc (p y) (list_all p (xs ++ x ∷ [])) b
    ∙ ap (λ (c : Bool). p y && c) (last_added p x b xs)
    ∙ sym (and-assoc (p y) (list_all p xs) (p x && b))
