-- The tokens that may follow a form.
use Rattle.std.proofs.Common.{◌≡◌, ℕ, List, [], ◌∷◌, ◌++◌, refl, ap, ◌∙◌, not, Bool, true, false, Some, None, append_assoc}
use Rattle.std.specs.Prelude.{Option, ◌||◌, ◌&&◌, nat_eq, codes}
use Prim.Native.String.{String}
use Rattle.std.specs.Cmp.Lexicographic.{pointwise}
use Rattle.std.proofs.lemmas.Bool.{false≢true, not-true}
use Rattle.std.proofs.lemmas.Slice.Eq.{bytes_eq-Decides}
use Rattle.sql_model.specs.SqlNames.{sql_name_test}
use Rattle.sql_model.specs.declared.token.Token.{Token}
use Rattle.sql_model.specs.declared.token.Token.TheVariants.{Word, Number, Quoted, Given}
use Rattle.sql_model.specs.GrammarOfStatements.{Then, After, Optionally, IsRepetition}
use Rattle.sql_model.specs.Queries.{names}
use Rattle.ldv_value.specs.Options.{only_if}
use Rattle.sql_model.specs.Reader.{starts, tokens_past, after_word}
use Rattle.sql_parse.proofs.Choices.{or_go}
use Rattle.sql_parse.proofs.ExpressionsLaw.{text_is}
use Rattle.ldv_value.proofs.Booleans.{and-parts}

pub self_text : (a : List ℕ) → pointwise nat_eq a a ≡ true
self_text a = (bytes_eq-Decides a a).1 refl

-- ---- words that a list has

abbrev pub among : List (List ℕ) → List ℕ → Bool
among [] w = false
among (v ∷ vs) w = pointwise nat_eq w v || among vs w

abbrev pub all_words : (List ℕ → Bool) → List (List ℕ) → Bool
all_words P [] = true
all_words P (v ∷ vs) = P v && all_words P vs

pub among_all : (P : List ℕ → Bool) (ws : List (List ℕ)) (w : List ℕ) → all_words P ws ≡ true → among ws w ≡ true → P w ≡ true
among_all P [] w all h = absurd (false≢true h)
among_all P (v ∷ vs) w all h =
    let both : (P v ≡ true) × (all_words P vs ≡ true) = and-parts (P v) (all_words P vs) all in
    or_go (pointwise nat_eq w v) (among vs w) h (λ e. ap P (text_is w v e) ∙ both.0) (λ e. among_all P vs w both.1 e)

-- ---- tokens that are none, or begin with one of these words

abbrev pub ends_by : List (List ℕ) → List Token → Bool
ends_by ws [] = true
ends_by ws (Word w ∷ ts) = among ws w
ends_by ws (Number z ∷ ts) = false
ends_by ws (Quoted t ∷ ts) = false
ends_by ws (Given v ∷ ts) = false

-- no word of the list is this one
abbrev pub lacks : List ℕ → List (List ℕ) → Bool
lacks v ws = all_words (λ w. not (pointwise nat_eq w v)) ws

pub ends_lack : (v : List ℕ) (ws : List (List ℕ)) (rest : List Token) → lacks v ws ≡ true → ends_by ws rest ≡ true → starts v rest ≡ false
ends_lack v ws [] l h = refl
ends_lack v ws (Word w ∷ ts) l h = not-true (pointwise nat_eq w v) (among_all (λ u. not (pointwise nat_eq u v)) ws w l h)
ends_lack v ws (Number z ∷ ts) l h = refl
ends_lack v ws (Quoted t ∷ ts) l h = refl
ends_lack v ws (Given x ∷ ts) l h = refl

pub ends_more : (ws vs : List (List ℕ)) (rest : List Token) → all_words (among vs) ws ≡ true → ends_by ws rest ≡ true → ends_by vs rest ≡ true
ends_more ws vs [] l h = refl
ends_more ws vs (Word w ∷ ts) l h = among_all (among vs) ws w l h
ends_more ws vs (Number z ∷ ts) l h = h
ends_more ws vs (Quoted t ∷ ts) l h = h
ends_more ws vs (Given v ∷ ts) l h = h

pub ends_unnamed : (ws : List (List ℕ)) (rest : List Token) → all_words (λ w. not (sql_name_test w)) ws ≡ true → ends_by ws rest ≡ true → names rest ≡ false
ends_unnamed ws [] l h = refl
ends_unnamed ws (Word w ∷ ts) l h = not-true (sql_name_test w) (among_all (λ u. not (sql_name_test u)) ws w l h)
ends_unnamed ws (Number z ∷ ts) l h = refl
ends_unnamed ws (Quoted t ∷ ts) l h = refl
ends_unnamed ws (Given v ∷ ts) l h = refl

-- ---- a form, and what then stands there

-- with one of the first words after the form, it begins with one of the second ones, as does the form
abbrev pub Follows : (List Token → Type 0) → List (List ℕ) → List (List ℕ) → Type 0
Follows Form ws vs = (ts rest : List Token) → Form ts → ends_by ws rest ≡ true → ends_by vs (ts ++ rest) ≡ true

pub follows_after : {Form : List Token → Type 0} (s : String) (ws vs : List (List ℕ)) → among vs (codes s) ≡ true → Follows (After s Form) ws vs
follows_after s ws vs is ts rest (more, e, form) h = ap (λ (l : List Token). ends_by vs (l ++ rest)) e ∙ is

pub follows_nothing : (ws vs : List (List ℕ)) → all_words (among vs) ws ≡ true → Follows (λ ts. ts ≡ []) ws vs
follows_nothing ws vs less ts rest e h = ap (λ (l : List Token). ends_by vs (l ++ rest)) e ∙ ends_more ws vs rest less h

pub follows_optional : {A : Type 0} (Form : A → List Token → Type 0) (s : String) (ws vs : List (List ℕ)) (o : Option A) → among vs (codes s) ≡ true → all_words (among vs) ws ≡ true
    → Follows (Optionally s Form o) ws vs
follows_optional Form s ws vs None is less = follows_nothing ws vs less
follows_optional Form s ws vs (Some x) is less = follows_after s ws vs is

pub follows_then : {First Second : List Token → Type 0} (ws us vs : List (List ℕ)) → Follows First us vs → Follows Second ws us → Follows (Then First Second) ws vs
follows_then ws us vs one two ts rest (front, back, e, first, second) h =
    ap (λ (l : List Token). ends_by vs (l ++ rest)) e ∙ ap (ends_by vs) (append_assoc front back rest) ∙ one front (back ++ rest) first (two back rest second h)

pub follows_repeated : {A : Type 0} (Form : A → List Token → Type 0) (ws vs : List (List ℕ)) (xs : List A) → all_words (among vs) ws ≡ true
    → ((x : A) (ts rest : List Token) → Form x ts → ends_by vs (ts ++ rest) ≡ true) → Follows (IsRepetition Form xs) ws vs
follows_repeated Form ws vs [] less begins ts rest none h = follows_nothing ws vs less ts rest none h
follows_repeated Form ws vs (x ∷ xs) less begins ts rest (front, back, e, first, second) h =
    ap (λ (l : List Token). ends_by vs (l ++ rest)) e ∙ ap (ends_by vs) (append_assoc front back rest) ∙ begins x front (back ++ rest) first

-- ---- the first word

pub starts_self : (w : List ℕ) (ts : List Token) → starts w (Word w ∷ ts) ≡ true
starts_self w ts = self_text w

pub after_self : (w : List ℕ) (ts : List Token) → after_word w (Word w ∷ ts) ≡ Some ts
after_self w ts = ap (λ b. only_if b (Some ts)) (self_text w)

pub passed_self : (w : List ℕ) (ts : List Token) → tokens_past w (Word w ∷ ts) ≡ ts
passed_self w ts = rw (self_text w) refl
