-- Processes as they begin.
use Rattle.std.proofs.Common.{◌≡◌, ℕ, List, [], ◌∷◌, length, map, refl, sym, ap, ◌∙◌, false}
use Rattle.std.specs.Prelude.{Option, None, slice_set, bytes_eq, replicate}
use Rattle.std.specs.List.{list_any}
use Rattle.ldv_value.proofs.SameBytes.{bytes_eq-itself}
use Rattle.proc_core.specs.Types.{Value, Null}
use Rattle.run_model.specs.Core.{NameBinding}
use Rattle.script_code.specs.Resolved.{AreDistinct, slot_of, HasName}
use Rattle.script_code.proofs.SlotLists.{set_slot, map_absent}
use Rattle.proc_core.specs.Stands.{value_held, bound_value}

-- no name means anything
abbrev pub nothing : {X : Type 0} → Option X
nothing = None

pub none_bound : {X : Type 0} (names : List (List ℕ)) → replicate (length names) (nothing {X = X}) ≡ map (bound_value []) names
none_bound [] = refl
none_bound {X} (n ∷ ns) = ap (λ (l : List (Option X)). None ∷ l) (none_bound ns)

pub none_set : (names : List (List ℕ)) → replicate (length names) Null ≡ map (value_held []) names
none_set [] = refl
none_set (n ∷ ns) = ap (λ (l : List Value). Null ∷ l) (none_set ns)

module _ (name : List ℕ) (v : Value) (bs : List (NameBinding Value)) where
  abbrev in_front : List (NameBinding Value)
  in_front = record { name = name; bound = v } ∷ bs

  other_held : (n : List ℕ) → bytes_eq name n ≡ false → value_held in_front n ≡ value_held bs n
  other_held n other = rw other refl

  same_held : value_held in_front name ≡ v
  same_held = rw (bytes_eq-itself name) refl

  -- its slot was set
  pub front_set : (names : List (List ℕ)) → AreDistinct names → HasName names name
      → slice_set (map (value_held bs) names) (slot_of names name) v ≡ map (value_held in_front) names
  front_set names distinct has =
      ap (λ (w : Value). slice_set (map (value_held bs) names) (slot_of names name) w) (sym same_held)
      ∙ set_slot (value_held bs) (value_held in_front) names name distinct has other_held

  -- it has no slot
  pub front_absent : (names : List (List ℕ)) → list_any (bytes_eq name) names ≡ false
      → map (value_held bs) names ≡ map (value_held in_front) names
  front_absent names none = map_absent (value_held bs) (value_held in_front) name names none other_held
