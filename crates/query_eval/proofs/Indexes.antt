-- Slots by the values of columns.
use Rattle.std.proofs.Common.{◌≡◌, ◌∙◌, sym, ap, cond, ℕ, List, ◌∷◌, ◌++◌, Some, None}
use Rattle.std.specs.Ordering.{is_eq}
use Rattle.ldv_value.proofs.Listings.{moved}
use Rattle.ldv_value.specs.declared.refs_by.RefsBy.{RefsBy}
use Rattle.query_eval.proofs.TieKeys.{key_tied, no_key}
use Rattle.query_eval.specs.Types.{Value}
use Rattle.query_eval.specs.inner.Joining.{key_of, TieValues, tie_order, values_here}
use Rattle.query_eval.specs.inner.Slots.{row_at, slot_added, slots_listed, slots_with}
use Rattle.query_eval.specs.declared.probe.Probe.{Probe}
use Rattle.query_eval.specs.declared.source.SourceRow.{SourceRow}

-- a slot that is listed goes from those that are left to those that are there
pub index_on : (m n : RefsBy TieValues ℕ) (ties : List Probe) (own : TieValues) (rows : List SourceRow) (slot : ℕ) (rest : List ℕ) → Some own ≡ key_of (values_here ties (row_at rows slot).values)
    → (key : TieValues) → slots_listed n key ≡ slot_added own slot key (slots_listed m key)
    → slots_listed n key ++ slots_with ties (key.0 ∷ key.1) rows rest ≡ slots_listed m key ++ slots_with ties (key.0 ∷ key.1) rows (slot ∷ rest)
index_on m n ties own rows slot rest is key added =
    let values : List Value = key.0 ∷ key.1 in
    ap (λ l. l ++ slots_with ties values rows rest) added
    ∙ moved (is_eq (tie_order own key)) (slots_listed m key) (slots_with ties values rows rest) slot
    ∙ ap (λ b. slots_listed m key ++ cond b (slot ∷ slots_with ties values rows rest) (slots_with ties values rows rest)) (sym (key_tied (values_here ties (row_at rows slot).values) own (sym is) key))

pub index_skips : (ties : List Probe) (rows : List SourceRow) (slot : ℕ) (rest : List ℕ) → None ≡ key_of (values_here ties (row_at rows slot).values) → (key : TieValues)
    → slots_with ties (key.0 ∷ key.1) rows rest ≡ slots_with ties (key.0 ∷ key.1) rows (slot ∷ rest)
index_skips ties rows slot rest is key =
    let values : List Value = key.0 ∷ key.1 in
    sym (ap (λ b. cond b (slot ∷ slots_with ties values rows rest) (slots_with ties values rows rest)) (no_key (values_here ties (row_at rows slot).values) (sym is) key))
