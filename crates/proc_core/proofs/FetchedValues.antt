-- Variables get the values of a row in order; the values are taken from the end of the reversed row.
use Rattle.std.proofs.Common.{◌≡◌, ℕ, List, [], ◌∷◌, ◌++◌, length, refl, ap, ◌∙◌, arith}
use Rattle.std.specs.Prelude.{reverse}
use Rattle.std.proofs.lemmas.List.{reverse-append, reverse-reverse}
use Rattle.proc_core.specs.Types.{Value}
use Rattle.proc_core.specs.declared.process.SlotProcess.{SlotProcess}
use Rattle.proc_core.specs.inner.Slots.{slot_with_variable}
use Rattle.proc_core.specs.inner.SlotReplies.{slot_with_values}

-- so many slots, from the end of a list of values
abbrev pub slot_with_last : List ℕ → List Value → SlotProcess → SlotProcess
slot_with_last slots left r = slot_with_values slots (reverse left) r

pub last_begun : (slots : List ℕ) (row left : List Value) (r : SlotProcess) → left ≡ reverse row → slot_with_last slots left r ≡ slot_with_values slots row r
last_begun slots row left r is = ap (λ (l : List Value). slot_with_values slots l r) (ap reverse is ∙ reverse-reverse row)

pub last_taken : (slot : ℕ) (slots : List ℕ) (before after : List Value) (v : Value) (r : SlotProcess) → before ≡ after ++ v ∷ []
    → slot_with_last (slot ∷ slots) before r ≡ slot_with_last slots after (slot_with_variable slot v r)
last_taken slot slots before after v r is =
    ap (λ (l : List Value). slot_with_values (slot ∷ slots) l r) (ap reverse is ∙ reverse-append after (v ∷ []))

none_taken : (slots : List ℕ) (r : SlotProcess) → slot_with_values slots [] r ≡ r
none_taken [] r = refl
none_taken (slot ∷ slots) r = refl

pub last_ended : (slots : List ℕ) (left : List Value) (r : SlotProcess) → length left ≡ 0 → slot_with_last slots left r ≡ r
last_ended slots [] r none = none_taken slots r
last_ended slots (v ∷ vs) r none = absurd (omega (arith, none))

-- the place stays
pub same_place : (slots : List ℕ) (values : List Value) (r : SlotProcess) → (slot_with_values slots values r).place ≡ r.place
same_place [] values r = refl
same_place (slot ∷ slots) [] r = refl
same_place (slot ∷ slots) (v ∷ values) r = same_place slots values (slot_with_variable slot v r)

pub ruleset value_steps = (last_begun, last_taken, last_ended)
