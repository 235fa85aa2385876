-- The bytes of the symbols.
use Rattle.std.proofs.Common.{◌≡◌, ℕ, ◌<◌, List, [], ◌∷◌, refl, sym, subst, true, inl, inr, arith}
use Rattle.std.specs.Prelude.{◌==◌}
use Rattle.std.specs.List.{AllByRecursion}
use Rattle.std.proofs.lemmas.Bool.{eqb-true}
use Rattle.sql_parse.proofs.Choices.{or_go}
use Rattle.sql_model.specs.GrammarOfTokens.{symbols, IsOneOf, IsSymbol}
use Rattle.sql_model.specs.Tokens.{is_whole_symbol, begins_symbol, is_pair}
use Rattle.ldv_value.proofs.Booleans.{and-parts}

at : (P : ℕ → Type 0) (b c : ℕ) → P c → (b == c) ≡ true → P b
at P b c p h = subst P (sym (eqb-true b c h)) p

pub whole_cases : (P : ℕ → Type 0) (b : ℕ) → is_whole_symbol b ≡ true → P 63 → P 42 → P 43 → P 45 → P 61 → P 40 → P 41 → P 44 → P 46 → P 59 → P b
whole_cases P b h p63 p42 p43 p45 p61 p40 p41 p44 p46 p59 = or_go _ _ h (λ h. or_go _ _ h (λ h. or_go _ _ h (λ h. or_go _ _ h (λ h. or_go _ _ h (λ h. or_go _ _ h (λ h. or_go _ _ h (λ h. or_go _ _ h (λ h. or_go _ _ h (at P b 63 p63) (at P b 42 p42)) (at P b 43 p43)) (at P b 45 p45)) (at P b 61 p61)) (at P b 40 p40)) (at P b 41 p41)) (at P b 44 p44)) (at P b 46 p46)) (at P b 59 p59)

pub begins_cases : (P : ℕ → Type 0) (b : ℕ) → begins_symbol b ≡ true → P 60 → P 62 → P 33 → P b
begins_cases P b h p60 p62 p33 = or_go _ _ h (λ h. or_go _ _ h (at P b 60 p60) (at P b 62 p62)) (at P b 33 p33)

pub whole_symbol : (b : ℕ) → is_whole_symbol b ≡ true → IsSymbol (b ∷ [])
whole_symbol b h = whole_cases (λ c. IsSymbol (c ∷ [])) b h (inl refl) (inr (inl refl)) (inr (inr (inl refl))) (inr (inr (inr (inl refl)))) (inr (inr (inr (inr (inl refl))))) (inr (inr (inr (inr (inr (inr (inr (inr (inr (inr (inr (inl refl)))))))))))) (inr (inr (inr (inr (inr (inr (inr (inr (inr (inr (inr (inr (inl refl))))))))))))) (inr (inr (inr (inr (inr (inr (inr (inr (inr (inr (inr (inr (inr (inl refl)))))))))))))) (inr (inr (inr (inr (inr (inr (inr (inr (inr (inr (inr (inr (inr (inr (inl refl))))))))))))))) (inr (inr (inr (inr (inr (inr (inr (inr (inr (inr (inr (inr (inr (inr (inr (inl refl))))))))))))))))

pub less_symbol : IsSymbol (60 ∷ [])
less_symbol = (inr (inr (inr (inr (inr (inr (inr (inl refl))))))))

pub more_symbol : IsSymbol (62 ∷ [])
more_symbol = (inr (inr (inr (inr (inr (inr (inr (inr (inr (inl refl))))))))))

-- a byte that begins a symbol of two bytes, and the second one
pub pair_symbol : (a b : ℕ) → begins_symbol a ≡ true → is_pair a b ≡ true → IsSymbol (a ∷ b ∷ [])
pair_symbol a b h p = or_go _ _ p
    (λ e. at (λ c. IsSymbol (a ∷ c ∷ [])) b 61 (begins_cases (λ c. IsSymbol (c ∷ 61 ∷ [])) a h (inr (inr (inr (inr (inr (inr (inr (inr (inl refl))))))))) (inr (inr (inr (inr (inr (inr (inr (inr (inr (inr (inl refl))))))))))) (inr (inr (inr (inr (inr (inr (inl refl)))))))) e)
    (λ both. let parts : (a == 60 ≡ true) × (b == 62 ≡ true) = and-parts (a == 60) (b == 62) both in
    at (λ c. IsSymbol (c ∷ b ∷ [])) a 60 (at (λ c. IsSymbol (60 ∷ c ∷ [])) b 62 (inr (inr (inr (inr (inr (inl refl)))))) parts.1) parts.0)

-- a symbol has one byte, or is such a pair
abbrev pub OneOrPair : List ℕ → Type 0
OneOrPair [] = ⊥
OneOrPair (a ∷ []) = Unit {0}
OneOrPair (a ∷ b ∷ []) = (begins_symbol a ≡ true) × (is_pair a b ≡ true)
OneOrPair (a ∷ b ∷ c ∷ more) = ⊥

all_of : (P : List ℕ → Type 0) (ss : List (List ℕ)) (x : List ℕ) → AllByRecursion P ss → IsOneOf ss x → P x
all_of P [] x all h = absurd h
all_of P (s ∷ ss) x all (inl e) = subst P (sym e) all.0
all_of P (s ∷ ss) x all (inr h) = all_of P ss x all.1 h

pub symbol_form : (x : List ℕ) → IsSymbol x → OneOrPair x
symbol_form x h = all_of OneOrPair symbols x (tt, (tt, (tt, (tt, (tt, ((refl, refl), ((refl, refl), (tt, ((refl, refl), (tt, ((refl, refl), (tt, (tt, (tt, (tt, (tt, tt)))))))))))))))) h

pub symbol_low : (x : List ℕ) → IsSymbol x → AllByRecursion (λ b. b < 128) x
symbol_low x h = all_of (λ y. AllByRecursion (λ b. b < 128) y) symbols x ((omega arith, tt), ((omega arith, tt), ((omega arith, tt), ((omega arith, tt), ((omega arith, tt), ((omega arith, (omega arith, tt)), ((omega arith, (omega arith, tt)), ((omega arith, tt), ((omega arith, (omega arith, tt)), ((omega arith, tt), ((omega arith, (omega arith, tt)), ((omega arith, tt), ((omega arith, tt), ((omega arith, tt), ((omega arith, tt), ((omega arith, tt), tt)))))))))))))))) h
