-- The parameters that are put in for marks.
use Rattle.std.proofs.Common.{◌≡◌, ℕ, ◌+◌, List, [], ◌∷◌, ◌++◌, length, refl, sym, ap, subst, ◌∙◌, Some, zero, suc, arith}
use Rattle.std.specs.Prelude.{map, IsUtf8, ℤ, pos, negsuc}
use Rattle.std.specs.List.{range_with_len}
use Rattle.std.proofs.lemmas.List.FromFn.{map-range_with_len_more}
use Rattle.sql_template.specs.Filling.{filled_statement, KeepsLiterals}
use Rattle.sql_template.specs.Preparing.{marker, markers, given_in, IsTemplate}
use Rattle.ldv_value.specs.Cells.{value_at}
use Rattle.sql_template.proofs.Moves.{filled_is}
use Rattle.sql_model.specs.Texts.{statement_of}
use Rattle.sql_template.specs.Types.{Value, Null, Int, Text, Statement}

keeps_literals : (params : List Value) → KeepsLiterals (given_in params)
keeps_literals params = record { null = refl; number = λ n. refl; text = λ t. refl }

pub template_filled : (text : List ℕ) (params : List Value) (template : Statement) → IsUtf8 text
    → IsTemplate text (length params) template → statement_of text params ≡ Some (filled_statement (given_in params) template)
template_filled text params template utf8 is =
    subst (λ (ps : List Value). statement_of text ps ≡ Some (filled_statement (given_in params) template)) (put_back params)
    (filled_is (given_in params) (keeps_literals params) text (markers (length params)) template utf8 is)
  where
    shifted : (v : Value) (vs : List Value) (a n : ℕ) → map (given_in (v ∷ vs)) (map marker (range_with_len (suc a) n)) ≡ map (given_in vs) (map marker (range_with_len a n))
    shifted v vs a zero = refl
    shifted v vs a (suc n) =
        let e : suc a + 1 ≡ suc (a + 1) = omega arith in
        ap (λ (l : List Value). value_at vs a ∷ l) (ap (λ (m : ℕ). map (given_in (v ∷ vs)) (map marker (range_with_len m n))) e ∙ shifted v vs (a + 1) n)

    put_back : (vs : List Value) → map (given_in vs) (markers (length vs)) ≡ vs
    put_back [] = refl
    put_back (v ∷ vs) = ap (λ (l : List Value). v ∷ l) (shifted v vs 0 (length vs) ∙ put_back vs)

-- one mark more
pub marker_more : (count : ℕ) → markers (count + 1) ≡ markers count ++ marker count ∷ []
marker_more count = map-range_with_len_more marker 0 count count (omega arith)
