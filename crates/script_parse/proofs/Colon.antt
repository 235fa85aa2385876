-- A colon at the end of a word.
use Rattle.std.proofs.Common.{◌≡◌, ◌≢◌, ℕ, List, [], ◌∷◌, ◌++◌, refl, Some, None, ap, ◌∙◌, sym, inl, inr}
use Rattle.std.specs.Prelude.{Option, option_map, MatchOption, ◌==◌}
use Rattle.std.proofs.lemmas.Bool.{eqb-true}
use Rattle.std.proofs.lemmas.Option.{cond_some}
use denote.Ref.{Bor}
use Rattle.ldv_value.specs.Options.{◌>>=◌}
use Rattle.script_parse.specs.Lines.{before_colon}
use Rattle.ldv_value.proofs.Cases.{cases-option}
use Rattle.ldv_value.proofs.Options.{bind-some}

pub colon_found : (front : List ℕ) → before_colon (front ++ 58 ∷ []) ≡ Some front
colon_found [] = refl
colon_found (b ∷ []) = refl
colon_found (b ∷ c ∷ bs) = ap (λ o. o >>= λ front. Some (b ∷ front)) (colon_found (c ∷ bs))

pub colon_split : (w front : List ℕ) → before_colon w ≡ Some front → w ≡ front ++ 58 ∷ []
colon_split [] front h = cc
colon_split (b ∷ []) front h =
    let p = cond_some (b == 58) [] front h in
    let e : b ≡ 58 = eqb-true b 58 p.0 in
    ap (λ (x : ℕ). x ∷ []) e ∙ ap (λ (l : List ℕ). l ++ 58 ∷ []) p.1
colon_split (b ∷ c ∷ bs) front h =
    let p = bind-some (before_colon (c ∷ bs)) (λ l. Some (b ∷ l)) front h in
    let q : b ∷ p.0 ≡ front = cc (p.2) in
    ap (λ (l : List ℕ). b ∷ l) (colon_split (c ∷ bs) p.0 p.1) ∙ ap (λ (l : List ℕ). l ++ 58 ∷ []) q

-- what the search for the colon finds
pub colon_is : (w : List ℕ) (r : Option (Bor (List ℕ))) → MatchOption r ((front : List ℕ) → w ≢ front ++ 58 ∷ []) (λ x. w ≡ x.now ++ 58 ∷ []) → option_map (λ x. x.now) r ≡ before_colon w
colon_is w (Some x) h = sym (ap before_colon h ∙ colon_found x.now)
colon_is w None h = elim (cases-option (before_colon w)) [
  | inl none ↦ sym none
  | inr some ↦ absurd (h some.0 (colon_split w some.0 some.1))
]
