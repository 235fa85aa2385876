-- A token that is read as a name is a name.
use Rattle.std.proofs.Common.{◌≡◌, ℕ, List, [], ◌∷◌, ap, ◌∙◌, subst, Some}
use Rattle.sql_model.specs.declared.token.Token.{Token}
use Rattle.sql_model.specs.declared.token.Token.TheVariants.{Word, Number, Quoted, Given}
use Rattle.sql_model.specs.SqlNames.{sql_name_test}
use Rattle.sql_model.specs.Grammar.{IsName}
use Rattle.sql_model.specs.Reader.{name_of, reads_name}
use Rattle.ldv_value.proofs.Options.{bind-some, same-some, tested-some}

pub name_is : (t : Token) (x : List ℕ) → name_of t ≡ Some x → (t ≡ Word x) × IsName x
name_is (Word w) x h = let p = tested-some sql_name_test w x h in (ap Word p.0, p.1)
name_is (Number z) x h = cc
name_is (Quoted t) x h = cc
name_is (Given v) x h = cc

pub name_taken : (ts : List Token) (x : List ℕ) (rest : List Token) → reads_name ts ≡ Some (x, rest) → (ts ≡ Word x ∷ rest) × IsName x
name_taken [] x rest h = cc
name_taken (t ∷ ts) x rest h =
    let p : (n : List ℕ) × (name_of t ≡ Some n) × (Some (n, ts) ≡ Some (x, rest)) = bind-some (name_of t) (λ n. Some (n, ts)) (x, rest) h in
    let is : (t ≡ Word p.0) × IsName p.0 = name_is t p.0 p.1 in
    let same : (p.0, ts) ≡ (x, rest) = same-some _ _ p.2 in
    (ap (λ u. u ∷ ts) is.0 ∙ ap (λ (q : List ℕ × List Token). Word q.0 ∷ q.1) same, subst IsName (ap (λ (q : List ℕ × List Token). q.0) same) is.1)
