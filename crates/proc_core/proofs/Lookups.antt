-- Look-ups of names, in what they are bound to.
use Rattle.std.proofs.Common.{◌≡◌, ℕ, List, [], ◌∷◌, refl, sym, ap, subst, false, inl, inr}
use Rattle.std.specs.Prelude.{Option, Some, None, find, bytes_eq, cond, option_map}
use Rattle.ldv_value.proofs.Cases.{cases-bool}
use Rattle.ldv_value.proofs.SameBytes.{bytes_eq-true, bytes_eq-itself}
use Rattle.run_model.specs.Core.{NameBinding, is_bound, lookup, bind, unbind}

module _ {X : Type 0} where
  abbrev pub bound_in : Option (NameBinding X) → Option X
  bound_in o = option_map (λ binding. binding.bound) o

  pub lookup_bound : (name : List ℕ) (x : X) (bs : List (NameBinding X)) → lookup name (bind name x bs) ≡ Some x
  lookup_bound name x bs = rw (bytes_eq-itself name) refl

  find_unbound : (name n : List ℕ) (bs : List (NameBinding X)) → bytes_eq name n ≡ false
      → find (is_bound n) (unbind name bs) ≡ find (is_bound n) bs
  find_unbound name n [] other = refl
  find_unbound name n (b ∷ bs) other = elim (cases-bool (bytes_eq b.name name)) [
    | inl hit ↦
        let miss : bytes_eq b.name n ≡ false = subst (λ (m : List ℕ). bytes_eq m n ≡ false) (sym (bytes_eq-true b.name name hit)) other in
        rw (hit, miss) (find_unbound name n bs other)
    | inr miss ↦ rw miss (ap (λ (o : Option (NameBinding X)). cond (bytes_eq b.name n) (Some b) o) (find_unbound name n bs other))
  ]

  pub lookup_other : (name n : List ℕ) (x : X) (bs : List (NameBinding X)) → bytes_eq name n ≡ false
      → lookup n (bind name x bs) ≡ lookup n bs
  lookup_other name n x bs other = rw other (ap bound_in (find_unbound name n bs other))

  pub lookup_unbound_other : (name n : List ℕ) (bs : List (NameBinding X)) → bytes_eq name n ≡ false
      → lookup n (unbind name bs) ≡ lookup n bs
  lookup_unbound_other name n bs other = ap bound_in (find_unbound name n bs other)

  none_unbound : (name : List ℕ) (bs : List (NameBinding X)) → find (is_bound name) (unbind name bs) ≡ None
  none_unbound name [] = refl
  none_unbound name (b ∷ bs) = elim (cases-bool (bytes_eq b.name name)) [
    | inl hit ↦ rw hit (none_unbound name bs)
    | inr miss ↦ rw (miss, miss) (none_unbound name bs)
  ]

  pub lookup_unbound : (name : List ℕ) (bs : List (NameBinding X)) → lookup name (unbind name bs) ≡ None
  lookup_unbound name bs = ap bound_in (none_unbound name bs)
