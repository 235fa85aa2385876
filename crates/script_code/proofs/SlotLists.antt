-- Names with their slots, and lists by slot.
use Rattle.std.proofs.Common.{◌≡◌, ℕ, suc, ◌<◌, List, [], ◌∷◌, ◌++◌, length, map, refl, sym, ap, ◌∙◌, subst, true, false, arith, inl, inr}
use Rattle.std.specs.Prelude.{Some, slice_get, slice_set, bytes_eq, ◌||◌}
use Rattle.std.specs.List.{list_any}
use Rattle.ldv_value.proofs.Cases.{cases-bool}
use Rattle.ldv_value.proofs.SameBytes.{bytes_eq-true, bytes_eq-itself, bytes_eq-other}
use Rattle.ldv_value.proofs.Lists.{list_any-append}
use Rattle.script_code.specs.Resolved.{AreDistinct, slot_of, HasName}

-- a new name at the end
pub distinct_more : (names : List (List ℕ)) (name : List ℕ) → AreDistinct names → list_any (bytes_eq name) names ≡ false
    → AreDistinct (names ++ name ∷ [])
distinct_more [] name distinct none = (refl, tt)
distinct_more (n ∷ ns) name distinct none = elim (cases-bool (bytes_eq name n)) [
  | inl hit ↦ let no : true ≡ false = rw hit at none in absurd cc
  | inr miss ↦
      let rest : list_any (bytes_eq name) ns ≡ false = rw miss at none in
      let apart : bytes_eq n name ≡ false = bytes_eq-other n name (λ same. let no : true ≡ false = sym (bytes_eq-itself name) ∙ ap (bytes_eq name) (sym same) ∙ miss in absurd cc) in
      (list_any-append (bytes_eq n) ns (name ∷ []) ∙ (λ i. distinct.0 i || (apart i || false)), distinct_more ns name distinct.1 rest)
]

module _ {X : Type 0} where
  pub get_slot : (f : List ℕ → X) (names : List (List ℕ)) (name : List ℕ) → HasName names name
      → slice_get (map f names) (slot_of names name) ≡ Some (f name)
  get_slot f [] name has = absurd (omega (arith, has))
  get_slot f (n ∷ ns) name has = elim (cases-bool (bytes_eq name n)) [
    | inl hit ↦ rw hit (ap (λ (m : List ℕ). Some (f m)) (sym (bytes_eq-true name n hit)))
    | inr miss ↦
        let has_more : suc (slot_of ns name) < length (n ∷ ns) = rw miss at has in
        let more : slot_of ns name < length ns = omega (arith, has_more) in
        rw miss (get_slot f ns name more)
  ]

  pub map_absent : (f g : List ℕ → X) (name : List ℕ) (ns : List (List ℕ)) → list_any (bytes_eq name) ns ≡ false
      → ((n : List ℕ) → bytes_eq name n ≡ false → g n ≡ f n) → map f ns ≡ map g ns
  map_absent f g name [] none same = refl
  map_absent f g name (n ∷ ns) none same = elim (cases-bool (bytes_eq name n)) [
    | inl hit ↦ let no : true ≡ false = rw hit at none in absurd cc
    | inr miss ↦
        let rest : list_any (bytes_eq name) ns ≡ false = rw miss at none in
        λ i. sym (same n miss) i ∷ map_absent f g name ns rest same i
  ]

  pub set_slot : (f g : List ℕ → X) (names : List (List ℕ)) (name : List ℕ) → AreDistinct names → HasName names name
      → ((n : List ℕ) → bytes_eq name n ≡ false → g n ≡ f n)
      → slice_set (map f names) (slot_of names name) (g name) ≡ map g names
  set_slot f g [] name distinct has same = refl
  set_slot f g (n ∷ ns) name distinct has same = elim (cases-bool (bytes_eq name n)) [
    | inl hit ↦
        let is : name ≡ n = bytes_eq-true name n hit in
        let none : list_any (bytes_eq name) ns ≡ false = subst (λ (m : List ℕ). list_any (bytes_eq m) ns ≡ false) (sym is) distinct.0 in
        let both : g name ∷ map f ns ≡ g n ∷ map g ns = λ i. g (is i) ∷ map_absent f g name ns none same i in
        rw hit both
    | inr miss ↦
        let has_more : suc (slot_of ns name) < length (n ∷ ns) = rw miss at has in
        let more : slot_of ns name < length ns = omega (arith, has_more) in
        let both : f n ∷ slice_set (map f ns) (slot_of ns name) (g name) ≡ g n ∷ map g ns = λ i. sym (same n miss) i ∷ set_slot f g ns name distinct.1 more same i in
        rw miss both
  ]
