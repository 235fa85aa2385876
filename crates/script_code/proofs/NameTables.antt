-- Tables of names, as one is added.
use Rattle.std.proofs.Common.{◌≡◌, ℕ, suc, ◌<◌, List, [], ◌∷◌, ◌++◌, length, refl, sym, ap, ◌∙◌, subst, Bool, true, false, arith, inl, inr, cond}
use Rattle.std.specs.Prelude.{Option, Some, None, bytes_eq, ◌||◌, String, string_bytes, string_cmp}
use Rattle.std.specs.List.{list_any}
use Rattle.std.specs.BTreeMap.{BTreeMap, get_by_text, is_at, IsUnchanged, UpdatesBy}
use Rattle.std.specs.Cmp.Lexicographic.{slice_cmp}
use Rattle.std.specs.Map.{lookup}
use Rattle.std.specs.Ordering.{nat_cmp}
use Rattle.std.specs.declared.alloc.Global.{Global}
use Rattle.std.proofs.lemmas.Map.Text.{btree_map_updates_text}
use Rattle.ldv_value.proofs.Cases.{cases-bool}
use Rattle.ldv_value.proofs.SameBytes.{bytes_eq-true, bytes_eq-itself, bytes_eq-other}
use Rattle.ldv_value.proofs.Lists.{list_any-append}
use Rattle.script_code.specs.Names.{AreDistinct, slot_of, HasName, IsSlot, IsFound, IsNamed, Extends}
use Rattle.script_code.proofs.SlotLists.{distinct_more}

-- a test that fails the other way round
apart : (name n : List ℕ) → bytes_eq name n ≡ false → bytes_eq n name ≡ false
apart name n other = bytes_eq-other n name (λ same. let no : true ≡ false = sym (bytes_eq-itself name) ∙ ap (bytes_eq name) (sym same) ∙ other in absurd cc)

-- ---- the slot of a name in a longer list

slot_last : (names : List (List ℕ)) (name : List ℕ) → list_any (bytes_eq name) names ≡ false → slot_of (names ++ name ∷ []) name ≡ length names
slot_last [] name none = rw (bytes_eq-itself name) refl
slot_last (n ∷ ns) name none = elim (cases-bool (bytes_eq name n)) [
  | inl hit ↦ let no : true ≡ false = rw hit at none in absurd cc
  | inr miss ↦
      let rest : list_any (bytes_eq name) ns ≡ false = rw miss at none in
      rw miss (ap suc (slot_last ns name rest))
]

slot_stays : (names : List (List ℕ)) (name q : List ℕ) → HasName names q → slot_of (names ++ name ∷ []) q ≡ slot_of names q
slot_stays [] name q has = absurd (omega (arith, has))
slot_stays (n ∷ ns) name q has = elim (cases-bool (bytes_eq q n)) [
  | inl hit ↦ rw hit refl
  | inr miss ↦
      let has_more : suc (slot_of ns q) < length (n ∷ ns) = rw miss at has in
      let more : slot_of ns q < length ns = omega (arith, has_more) in
      rw miss (ap suc (slot_stays ns name q more))
]

longer : (names : List (List ℕ)) (name : List ℕ) → length (names ++ name ∷ []) ≡ suc (length names)
longer [] name = refl
longer (n ∷ ns) name = ap suc (longer ns name)

-- ---- what is found

found_new : (names : List (List ℕ)) (name : List ℕ) → list_any (bytes_eq name) names ≡ false → IsFound (names ++ name ∷ []) name (Some (length names))
found_new names name none =
    let last : slot_of (names ++ name ∷ []) name ≡ length names = slot_last names name none in
    let long : length (names ++ name ∷ []) ≡ suc (length names) = longer names name in
    (sym last, omega (arith, last, long))

found_other : (names : List (List ℕ)) (name q : List ℕ) (o : Option ℕ) → bytes_eq name q ≡ false → IsFound names q o → IsFound (names ++ name ∷ []) q o
found_other names name q None other none =
    list_any-append (bytes_eq q) names (name ∷ []) ∙ (λ i. none i || (apart name q other i || false))
found_other names name q (Some slot) other is =
    let stays : slot_of (names ++ name ∷ []) q ≡ slot_of names q = slot_stays names name q is.1 in
    let long : length (names ++ name ∷ []) ≡ suc (length names) = longer names name in
    let within : slot_of names q < length names = is.1 in
    (is.0 ∙ sym stays, omega (arith, stays, long, within))

module _ (names : List (List ℕ)) (name : List ℕ) (m n : BTreeMap (String Global) ℕ) where
  -- a name is added
  pub named_more : IsNamed names m → list_any (bytes_eq name) names ≡ false
      → ((q : List ℕ) → get_by_text n q ≡ cond (bytes_eq name q) (Some (length names)) (get_by_text m q)) → IsNamed (names ++ name ∷ []) n
  named_more named none put = record {
    distinct = distinct_more names name named.distinct none;
    found = λ q. elim (cases-bool (bytes_eq name q)) [
      | inl hit ↦
          let same : name ≡ q = bytes_eq-true name q hit in
          let at : get_by_text n q ≡ Some (length names) = put q ∙ ap (λ (b : Bool). cond b (Some (length names)) (get_by_text m q)) hit in
          subst (IsFound (names ++ name ∷ []) q) (sym at) (subst (λ (k : List ℕ). IsFound (names ++ name ∷ []) k (Some (length names))) same (found_new names name none))
      | inr miss ↦
          let at : get_by_text n q ≡ get_by_text m q = put q ∙ ap (λ (b : Bool). cond b (Some (length names)) (get_by_text m q)) miss in
          subst (IsFound (names ++ name ∷ []) q) (sym at) (found_other names name q (get_by_text m q) miss (named.found q))
    ];
  }

  -- the same is found
  pub named_same : IsNamed names m → ((q : List ℕ) → get_by_text n q ≡ get_by_text m q) → IsNamed names n
  named_same named same = record {
    distinct = named.distinct;
    found = λ q. subst (IsFound names q) (sym (same q)) (named.found q);
  }

-- a slot was given and taken back
module _ (names : List (List ℕ)) (name : List ℕ) (slot : ℕ) (m n o : BTreeMap (String Global) ℕ) where
  pub named_again : IsNamed names m → list_any (bytes_eq name) names ≡ false
      → ((q : List ℕ) → get_by_text n q ≡ cond (bytes_eq name q) (Some slot) (get_by_text m q))
      → ((q : List ℕ) → get_by_text o q ≡ cond (bytes_eq name q) None (get_by_text n q)) → IsNamed names o
  named_again named none put taken = record {
    distinct = named.distinct;
    found = λ q. elim (cases-bool (bytes_eq name q)) [
      | inl hit ↦
          let same : name ≡ q = bytes_eq-true name q hit in
          let at : get_by_text o q ≡ None = taken q ∙ ap (λ (b : Bool). cond b None (get_by_text n q)) hit in
          let absent : IsFound names q None = subst (λ (k : List ℕ). list_any (bytes_eq k) names ≡ false) same none in
          subst (IsFound names q) (sym at) absent
      | inr miss ↦
          let first : get_by_text n q ≡ get_by_text m q = put q ∙ ap (λ (b : Bool). cond b (Some slot) (get_by_text m q)) miss in
          let at : get_by_text o q ≡ get_by_text m q = taken q ∙ ap (λ (b : Bool). cond b None (get_by_text n q)) miss ∙ first in
          subst (IsFound names q) (sym at) (named.found q)
    ];
  }

-- no name
pub named_none : (m : BTreeMap (String Global) ℕ) → m.entries ≡ [] → IsNamed [] m
named_none m none = record {
  distinct = tt;
  found = λ q. subst (IsFound [] q) (sym (ap (λ es. lookup (is_at (λ k. slice_cmp nat_cmp q (string_bytes k))) es) none)) refl;
}

-- what std's calls of a map say, by the bytes of the keys
module _ (m n : BTreeMap (String Global) ℕ) where
  pub unchanged_text : IsUnchanged m n → (q : List ℕ) → get_by_text n q ≡ get_by_text m q
  unchanged_text same q = ap (λ es. lookup (is_at (λ k. slice_cmp nat_cmp q (string_bytes k))) es) same

  pub updated_text : (key : String Global) (name : List ℕ) (w : Option ℕ) → string_bytes key ≡ name
      → UpdatesBy string_cmp (λ k. slice_cmp nat_cmp (string_bytes key) (string_bytes k)) m n w
      → (q : List ℕ) → get_by_text n q ≡ cond (bytes_eq name q) w (get_by_text m q)
  updated_text key name w is updates q =
      btree_map_updates_text (string_bytes key) m n w updates q ∙ ap (λ (k : List ℕ). cond (bytes_eq k q) w (get_by_text m q)) is

  pub taken_text : (bs name : List ℕ) → bs ≡ name → UpdatesBy string_cmp (λ k. slice_cmp nat_cmp bs (string_bytes k)) m n None
      → (q : List ℕ) → get_by_text n q ≡ cond (bytes_eq name q) None (get_by_text m q)
  taken_text bs name is updates q =
      btree_map_updates_text bs m n None updates q ∙ ap (λ (k : List ℕ). cond (bytes_eq k q) None (get_by_text m q)) is

  -- a name was pushed, and its slot put
  pub named_pushed : (names new : List (List ℕ)) (name copy : List ℕ) (slot : ℕ) → IsNamed names m → list_any (bytes_eq name) names ≡ false
      → slot ≡ length names → copy ≡ name → new ≡ names ++ copy ∷ []
      → ((q : List ℕ) → get_by_text n q ≡ cond (bytes_eq name q) (Some slot) (get_by_text m q)) → IsNamed new n
  named_pushed names new name copy slot named none at same pushed put =
      let all : new ≡ names ++ name ∷ [] = pushed ∙ ap (λ (k : List ℕ). names ++ k ∷ []) same in
      subst (λ (ns : List (List ℕ)). IsNamed ns n) (sym all)
      (named_more names name m n named none (λ q. put q ∙ ap (λ (k : ℕ). cond (bytes_eq name q) (Some k) (get_by_text m q)) at))

-- ---- the names that are there, as one is added

module _ (names new : List (List ℕ)) (name copy : List ℕ) (pushed : new ≡ names ++ copy ∷ []) (same : copy ≡ name) where
  added_last : new ≡ names ++ name ∷ []
  added_last = pushed ∙ ap (λ (k : List ℕ). names ++ k ∷ []) same

  pub slot_added : (slot : ℕ) → slot ≡ length names → list_any (bytes_eq name) names ≡ false → IsSlot new name slot
  slot_added slot at none =
      let added : IsSlot (names ++ name ∷ []) name (length names) = found_new names name none in
      subst (λ (ns : List (List ℕ)). IsSlot ns name slot) (sym added_last)
      (subst (λ (k : ℕ). IsSlot (names ++ name ∷ []) name k) (sym at) added)

  slot_before : (q : List ℕ) (slot : ℕ) → IsSlot names q slot → IsSlot new q slot
  slot_before q slot is =
      let stays : slot_of (names ++ name ∷ []) q ≡ slot_of names q = slot_stays names name q is.1 in
      let long : length (names ++ name ∷ []) ≡ suc (length names) = longer names name in
      let within : slot_of names q < length names = is.1 in
      let after : IsSlot (names ++ name ∷ []) q slot = (is.0 ∙ sym stays, omega (arith, stays, long, within)) in
      subst (λ (ns : List (List ℕ)). IsSlot ns q slot) (sym added_last) after

  pub keeps_before : list_any (bytes_eq name) names ≡ false → Extends names new
  keeps_before none = record {
    at = slot_before;
    distinct = λ once. subst AreDistinct (sym added_last) (distinct_more names name once none);
  }
