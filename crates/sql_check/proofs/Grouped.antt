-- Lists of places that have each place once.
use Rattle.std.proofs.Common.{◌≡◌, ◌∙◌, sym, ap, ℕ, true, List, [], ◌∷◌, ◌++◌, inl, inr}
use Rattle.std.specs.Prelude.{◌==◌, ◌||◌}
use Rattle.std.proofs.lemmas.Bool.{cases_Bool}
use Rattle.std.proofs.lemmas.Bool.Decides.{Decides-eqb}
use Rattle.std.proofs.lemmas.List.Folds.{list_any-append}
use Rattle.ldv_value.proofs.Booleans.{or-false}
use Rattle.sql_check.specs.inner.Sources.{is_among, AddsPlace}

pub place_added : (old new : List ℕ) (place : ℕ) → new ≡ old ++ place ∷ [] → AddsPlace old place new
place_added old new place is other =
    ap (λ l. is_among l other) is
    ∙ list_any-append (λ p. p == other) old (place ∷ [])
    ∙ ap (λ b. is_among old other || b) (or-false (place == other))

pub place_there : (places : List ℕ) (place : ℕ) → is_among places place ≡ true → AddsPlace places place places
place_there places place is other = elim (cases_Bool (place == other)) [
  | inl hit ↦
      let same : place ≡ other = (Decides-eqb place other).0 hit in
      let there : is_among places other ≡ true = ap (is_among places) (sym same) ∙ is in
      there ∙ sym (ap (λ b. b || (place == other)) there)
  | inr miss ↦ sym (ap (λ b. is_among places other || b) miss ∙ or-false (is_among places other))
]
