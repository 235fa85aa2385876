-- Sets of names, step by step.
use Rattle.std.proofs.Common.{◌≡◌, ℕ, List, true, refl, sym, ap, ◌∙◌, cond, inl, inr}
use Rattle.std.specs.Prelude.{Some, is_some, ◌||◌, String, string_bytes, string_cmp, bytes_eq}
use Rattle.std.specs.declared.alloc.Global.{Global}
use Rattle.std.specs.BTreeMap.{BTreeMap, get_by_text, is_at, IsUnchanged, UpdatesBy}
use Rattle.std.specs.Map.{lookup}
use Rattle.std.specs.Cmp.Lexicographic.{slice_cmp}
use Rattle.std.specs.Ordering.{nat_cmp}
use Rattle.std.proofs.lemmas.Bool.{cases_Bool}
use Rattle.std.proofs.lemmas.Map.Text.{btree_map_updates_text}
use Rattle.std.proofs.lemmas.Slice.Eq.{bytes_eq-Decides}
use Rattle.sql_model.specs.Scope.{same_text}
use Rattle.run_model.specs.Packing.{has_name}
use Rattle.ldv_value.proofs.Booleans.{or-true, or-false}

pub add_name : (m n : BTreeMap (String Global) (Unit {0})) (key : String Global) (name : List ℕ) → string_bytes key ≡ name
    → UpdatesBy string_cmp (λ k. slice_cmp nat_cmp (string_bytes key) (string_bytes k)) m n (Some tt)
    → (q : List ℕ) → has_name n q ≡ (has_name m q || same_text name q)
add_name m n key name is updates q =
    let new : get_by_text n q ≡ cond (bytes_eq name q) (Some tt) (get_by_text m q) =
    btree_map_updates_text (string_bytes key) m n (Some tt) updates q ∙ ap (λ (k : List ℕ). cond (bytes_eq k q) (Some tt) (get_by_text m q)) is in
    elim (cases_Bool (bytes_eq name q)) [
      | inl hit ↦ ap is_some new ∙ rw hit (sym (or-true (has_name m q)))
      | inr miss ↦ ap is_some new ∙ rw miss (sym (or-false (has_name m q)))
    ]

-- a name that the set has
pub known_name : (m : BTreeMap (String Global) (Unit {0})) (name : List ℕ) → has_name m name ≡ true → (q : List ℕ) → has_name m q ≡ (has_name m q || same_text name q)
known_name m name known q = elim (cases_Bool (same_text name q)) [
  | inl hit ↦
      let same : name ≡ q = (bytes_eq-Decides name q).0 hit in
      let there : has_name m q ≡ true = ap (has_name m) (sym same) ∙ known in
      rw there refl
  | inr miss ↦ rw miss (sym (or-false (has_name m q)))
]

-- names that a refused insertion left as they were
pub names_unchanged : (m n : BTreeMap (String Global) (Unit {0})) → IsUnchanged m n → (q : List ℕ) → has_name n q ≡ has_name m q
names_unchanged m n same q =
    ap (λ (es : List (String Global × Unit {0})). is_some (lookup (is_at (λ k. slice_cmp nat_cmp q (string_bytes k))) es)) same
