-- Lists that are resolved item by item, as names are added.
use Rattle.std.proofs.Common.{◌≡◌, ℕ, List, [], ◌∷◌, ◌++◌, refl, sym, ap, ◌∙◌, subst, append_assoc}
use Rattle.ldv_value.proofs.Lists.{append-nil}
use Rattle.script_parse.specs.declared.script.Instr.{Instr}
use Rattle.script_parse.specs.declared.script.Operand.{Operand}
use Rattle.script_code.specs.declared.code.Scope.{Scope}
use Rattle.script_code.specs.declared.code.SlotInstr.{SlotInstr}
use Rattle.script_code.specs.declared.code.SlotOperand.{SlotOperand}
use Rattle.script_code.specs.Resolved.{Extends, KeepsAll, Resolves, ResolvesAll, IsOperand, IsOperands, IsSlot, AreSlots}
use Rattle.script_code.proofs.KnownNames.{keeps_itself, keeps_on, kept_operand, kept_slot, keeps_all_itself, keeps_all_on, kept_instr}

-- so far, with whatever names are added and the others become
abbrev pub OperandsSo : List (List ℕ) → List Operand → List Operand → List SlotOperand → Type 0
OperandsSo names all rest so =
    (later : List (List ℕ)) (more : List SlotOperand) → Extends names later → IsOperands later rest more → IsOperands later all (so ++ more)

abbrev pub SlotsSo : List (List ℕ) → List (List ℕ) → List (List ℕ) → List ℕ → Type 0
SlotsSo names all rest so = (later : List (List ℕ)) (more : List ℕ) → Extends names later → AreSlots later rest more → AreSlots later all (so ++ more)

abbrev pub InstrsSo : Scope → List Instr → List Instr → List SlotInstr → Type 0
InstrsSo s all rest so = (later : Scope) (more : List SlotInstr) → KeepsAll s later → ResolvesAll later rest more → ResolvesAll later all (so ++ more)

-- ---- a step of each loop, by the first of the rest

-- one more at the end, and then others
more_last : {X : Type 0} (so new more : List X) (x : X) → new ≡ so ++ x ∷ [] → so ++ (x ∷ more) ≡ new ++ more
more_last {X} so new more x pushed = sym (ap (λ (l : List X). l ++ more) pushed ∙ append_assoc so (x ∷ []) more)

module _ (names new : List (List ℕ)) (keeps : Extends names new) where
  pub operand_next : (all rest others : List Operand) (o : Operand) (slotted : SlotOperand) (so after : List SlotOperand)
      → rest ≡ o ∷ others → after ≡ so ++ slotted ∷ [] → IsOperand new o slotted → OperandsSo names all rest so → OperandsSo new all others after
  operand_next all rest others o slotted so after first pushed one before = λ later more stays are.
      let now : IsOperand later o slotted = kept_operand new later o slotted stays one in
      let both : IsOperands later (o ∷ others) (slotted ∷ more) = (λ j. now.0 j ∷ are.0 j, (now.1, are.1)) in
      let those : IsOperands later rest (slotted ∷ more) = subst (λ (l : List Operand). IsOperands later l (slotted ∷ more)) (sym first) both in
      let whole : IsOperands later all (so ++ (slotted ∷ more)) = before later (slotted ∷ more) (keeps_on names new later keeps stays) those in
      subst (IsOperands later all) (more_last so after more slotted pushed) whole

  pub slot_next : (all rest others : List (List ℕ)) (n : List ℕ) (slot : ℕ) (so after : List ℕ)
      → rest ≡ n ∷ others → after ≡ so ++ slot ∷ [] → IsSlot new n slot → SlotsSo names all rest so → SlotsSo new all others after
  slot_next all rest others n slot so after first pushed one before = λ later more stays are.
      let now : IsSlot later n slot = kept_slot new later n slot stays one in
      let both : AreSlots later (n ∷ others) (slot ∷ more) = record { same = λ j. now.0 j ∷ are.same j; has = (now.1, are.has) } in
      let those : AreSlots later rest (slot ∷ more) = subst (λ (l : List (List ℕ)). AreSlots later l (slot ∷ more)) (sym first) both in
      let whole : AreSlots later all (so ++ (slot ∷ more)) = before later (slot ∷ more) (keeps_on names new later keeps stays) those in
      subst (AreSlots later all) (more_last so after more slot pushed) whole

pub instr_next : (s t : Scope) → KeepsAll s t → (all rest others : List Instr) (i : Instr) (slotted : SlotInstr) (so after : List SlotInstr)
    → rest ≡ i ∷ others → after ≡ so ++ slotted ∷ [] → Resolves t i slotted → InstrsSo s all rest so → InstrsSo t all others after
instr_next s t keeps all rest others i slotted so after first pushed one before = λ later more stays are.
    let now : Resolves later i slotted = kept_instr t later stays i slotted one in
    let both : ResolvesAll later (i ∷ others) (slotted ∷ more) = (now, are) in
    let those : ResolvesAll later rest (slotted ∷ more) = subst (λ (l : List Instr). ResolvesAll later l (slotted ∷ more)) (sym first) both in
    let whole : ResolvesAll later all (so ++ (slotted ∷ more)) = before later (slotted ∷ more) (keeps_all_on s t keeps later stays) those in
    subst (ResolvesAll later all) (more_last so after more slotted pushed) whole

-- ---- its end

module _ (names : List (List ℕ)) where
  pub operands_done : (all rest : List Operand) (so : List SlotOperand) → rest ≡ [] → OperandsSo names all rest so → IsOperands names all so
  operands_done all rest so none before =
      subst (IsOperands names all) (append-nil so)
      (before names [] (keeps_itself names) (subst (λ (l : List Operand). IsOperands names l []) (sym none) (refl, tt)))

  pub slots_done : (all rest : List (List ℕ)) (so : List ℕ) → rest ≡ [] → SlotsSo names all rest so → AreSlots names all so
  slots_done all rest so none before =
      subst (AreSlots names all) (append-nil so)
      (before names [] (keeps_itself names) (subst (λ (l : List (List ℕ)). AreSlots names l []) (sym none) (record { same = refl; has = tt })))

pub instrs_done : (s : Scope) (all rest : List Instr) (so : List SlotInstr) → rest ≡ [] → InstrsSo s all rest so → ResolvesAll s all so
instrs_done s all rest so none before =
    subst (ResolvesAll s all) (append-nil so)
    (before s [] (keeps_all_itself s) (subst (λ (l : List Instr). ResolvesAll s l []) (sym none) tt))
