-- A statement that was checked once is checked with other parameters of the same kinds.
use Rattle.std.proofs.Common.{◌≡◌, ℕ, List, [], ◌∷◌, length, refl, sym, ap, ◌∙◌, Some, None, zero, suc}
use Rattle.std.specs.Prelude.{Option, Result, Ok, Err, ℤ, pos, negsuc, map}
use Rattle.ldv_value.specs.Cells.{value_at}
use Rattle.sql_template.specs.Checking.{HaveKinds}
use Rattle.sql_template.specs.Filling.{filled_statement}
use Rattle.sql_template.specs.Kinds.{FitsLimit, SameKinds, SameLimit}
use Rattle.sql_template.specs.Preparing.{given_in, given_at, open_place}
use Rattle.sql_template.proofs.KindLaws.{refusal_same, places_same}
use Rattle.sql_model.specs.Kinds.{kind_of_value}
use Rattle.sql_model.specs.Places.{checked_unless, checked_of, places_of}
use Rattle.sql_model.specs.Refusals.{check_refusal}
use Rattle.sql_template.specs.Types.{Value, Null, Int, Text, Catalog, Checked, SqlRefusal, Statement, TheQuery, TheInsert, TheUpdate, TheDelete, Kind}

abbrev places_given : Result Checked SqlRefusal → List (List ℕ)
places_given (Ok checked) = checked.places
places_given (Err refusal) = []

decided : (o : Option SqlRefusal) (s : Statement) (catalog : Catalog) (places : List (List ℕ))
    → checked_unless o s catalog ≡ Ok (record { statement = s; places = places }) → (o ≡ None) × (places_of s catalog ≡ places)
decided None s catalog places is = (refl, ap places_given is)
decided (Some r) s catalog places is = absurd cc

pub checked_again : (f g : Value → Value) → SameKinds f g → (t : Statement) (catalog : Catalog) → SameLimit f g t → (places : List (List ℕ))
    → checked_of (filled_statement f t) catalog ≡ Ok (record { statement = filled_statement f t; places = places })
    → checked_of (filled_statement g t) catalog ≡ Ok (record { statement = filled_statement g t; places = places })
checked_again f g same t catalog limit places is =
    let d = decided (check_refusal (filled_statement f t) catalog) (filled_statement f t) catalog places is in
    ap (λ (o : Option SqlRefusal). checked_unless o (filled_statement g t) catalog) (sym (refusal_same f g same t catalog limit) ∙ d.0)
    ∙ ap (λ (p : List (List ℕ)). Ok (record { statement = filled_statement g t; places = p })) (sym (places_same f g same t catalog) ∙ d.1)

kind_at : (ps qs : List Value) (place : ℕ) → HaveKinds ps qs → kind_of_value (value_at ps place) ≡ kind_of_value (value_at qs place)
kind_at [] [] place is = refl
kind_at [] (q ∷ qs) place is = absurd cc
kind_at (p ∷ ps) [] place is = absurd cc
kind_at (p ∷ ps) (q ∷ qs) zero is = ap first is
  where
    first : List Kind → Kind
    first [] = kind_of_value p
    first (k ∷ ks) = k
kind_at (p ∷ ps) (q ∷ qs) (suc place) is = kind_at ps qs place (ap rest is)
  where
    rest : List Kind → List Kind
    rest [] = []
    rest (k ∷ ks) = ks

abbrev other_kinds : List Kind → List Kind
other_kinds [] = []
other_kinds (k ∷ ks) = ks

pub kinds_long : (ps qs : List Value) → HaveKinds ps qs → length ps ≡ length qs
kinds_long [] [] is = refl
kinds_long [] (q ∷ qs) is = absurd cc
kinds_long (p ∷ ps) [] is = absurd cc
kinds_long (p ∷ ps) (q ∷ qs) is = ap (λ (n : ℕ). suc n) (kinds_long ps qs (ap other_kinds is))

pub same_kinds : (ps qs : List Value) → HaveKinds ps qs → SameKinds (given_in ps) (given_in qs)
same_kinds ps qs is Null = refl
same_kinds ps qs is (Int (pos n)) = refl
same_kinds ps qs is (Int (negsuc place)) = kind_at ps qs place is
same_kinds ps qs is (Text t) = refl

pub same_limit : (f g : Value → Value) (t : Statement) → FitsLimit f t → FitsLimit g t → SameLimit f g t
same_limit f g (TheQuery query) one other = one ∙ sym other
same_limit f g (TheInsert insert) one other = tt
same_limit f g (TheUpdate update) one other = tt
same_limit f g (TheDelete delete) one other = tt
