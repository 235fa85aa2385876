-- The sources of a core: reading agrees with the grammar.
use Rattle.std.proofs.Common.{◌≡◌, ℕ, ◌<◌, ◌≤◌, List, [], ◌∷◌, ◌++◌, length, map, refl, sym, ap, ◌∙◌, subst, not, Bool, true, false, Some, None, inl, inr, ◌⊎◌, arith, append_assoc, append-nil}
use Rattle.std.specs.Prelude.{Option, if◌then◌else◌, codes, nat_eq}
use Rattle.std.specs.Cmp.Lexicographic.{pointwise}
use Rattle.std.proofs.lemmas.Bool.{cases_Bool, false≢true}
use Rattle.std.proofs.lemmas.List.{length-map}
use Rattle.sql_model.specs.declared.expr.Expr.{Expr}
use Rattle.sql_model.specs.declared.statement.FromItem.{FromItem}
use Rattle.sql_model.specs.SqlNames.{sql_name_test}
use Rattle.sql_model.specs.declared.reading.Sources.{Sources}
use Rattle.sql_model.specs.declared.token.Token.{Token}
use Rattle.sql_model.specs.declared.token.Token.TheVariants.{Word}
use Rattle.ldv_value.specs.Options.{◌>>=◌}
use Rattle.sql_model.specs.Grammar.{word, IsName}
use Rattle.sql_model.specs.GrammarOfStatements.{Then, After, IsNameToken, IsExpression, IsSecondName, IsSource, JoinedSource, IsConditioned, IsJoinedBy, IsJoined, source_of, conditions, AreSources}
use Rattle.sql_model.specs.Queries.{names, second_name, reads_source, plain_source, joined_source, another_source, reads_sources}
use Rattle.sql_model.specs.Reader.{starts, tail, after_word, reads_name, repeat}
use Rattle.sql_parse.proofs.Choices.{choose}
use Rattle.sql_parse.proofs.ExpressionsLaw.{starts_is, after_is, text_is}
use Rattle.sql_parse.proofs.Follows.{ends_by, ends_lack, ends_more, ends_unnamed, follows_after, follows_repeated}
use Rattle.sql_parse.proofs.Laws.{Law, state_law, after_law, then_law, made_law, either_law, name_law, named_law}
use Rattle.ldv_value.proofs.Options.{bind-some, same-some}
use Rattle.sql_parse.proofs.PartsLaw.{comma, expr_law}
use Rattle.sql_parse.proofs.RepeatLaws.{added, Steps, StepLaw, Made, repeat_sound, repeat_complete}

-- what may stand after the sources of a core
abbrev pub after_sources : List (List ℕ)
after_sources = codes "where" ∷ codes "group" ∷ codes "having" ∷ codes "union" ∷ codes "order" ∷ codes "limit" ∷ codes ";" ∷ []

-- the same after one of them, and after its names
abbrev pub after_source : List (List ℕ)
after_source = comma ∷ codes "join" ∷ codes "inner" ∷ after_sources

abbrev pub after_names : List (List ℕ)
after_names = codes "on" ∷ after_source

-- ---- one source

name_apart : (v x : List ℕ) → sql_name_test v ≡ false → IsName x → pointwise nat_eq x v ≡ false
name_apart v x not is = elim (cases_Bool (pointwise nat_eq x v)) [
  | inl same ↦ absurd (false≢true (sym not ∙ ap sql_name_test (sym (text_is x v same)) ∙ is))
  | inr other ↦ other
]

abbrev BareForm : List ℕ → List ℕ → List Token → Type 0
BareForm table n ts = IsNameToken n ts ⊎ ((n ≡ table) × (ts ≡ []))

abbrev bare_name : List ℕ → List Token → Option (List ℕ × List Token)
bare_name table ts = if names ts then reads_name ts else Some (table, ts)

bare_complete : (table : List ℕ) (front rest : List Token) (n : List ℕ) → BareForm table n front → ends_by after_names rest ≡ true → bare_name table (front ++ rest) ≡ Some (n, rest)
bare_complete table front rest n (inl (e, named)) ends =
    ap (λ (l : List Token). bare_name table (l ++ rest)) e ∙ ap (λ b. if b then reads_name (Word n ∷ rest) else Some (table, Word n ∷ rest)) named
    ∙ (name_law after_names).complete (Word n ∷ []) rest n (refl, named) ends
bare_complete table front rest n (inr (same, e)) ends =
    ap (λ (l : List Token). bare_name table (l ++ rest)) e ∙ ap (λ b. if b then reads_name rest else Some (table, rest)) (ends_unnamed after_names rest refl ends)
    ∙ ap (λ (m : List ℕ). Some (m, rest)) (sym same)

bare_law : (table : List ℕ) → Law (BareForm table) after_names (bare_name table)
bare_law table = record {
  sound = λ ts n rest h. choose (names ts) (reads_name ts) (Some (table, ts)) (n, rest) h
      (λ is made. let q = (name_law after_names).sound ts n rest made in (q.0, q.1, inl q.2))
      (λ is made.
      let same : (table, ts) ≡ (n, rest) = same-some _ _ made in
      ([], ap (λ (p : List ℕ × List Token). p.1) same, inr (sym (ap (λ (p : List ℕ × List Token). p.0) same), refl)));
  complete = bare_complete table;
}

bare_apart : (table n : List ℕ) (front rest : List Token) → BareForm table n front → ends_by after_names rest ≡ true → starts (codes "as") (front ++ rest) ≡ false
bare_apart table n front rest (inl (e, named)) ends = ap (λ (l : List Token). starts (codes "as") (l ++ rest)) e ∙ name_apart (codes "as") n refl named
bare_apart table n front rest (inr (same, e)) ends = ap (λ (l : List Token). starts (codes "as") (l ++ rest)) e ∙ ends_lack (codes "as") after_names rest refl ends

abbrev SecondForm : List ℕ → List ℕ → List Token → Type 0
SecondForm table n ts = After "as" (IsNameToken n) ts ⊎ BareForm table n ts

second_law : (table : List ℕ) → Law (SecondForm table) after_names (second_name table)
second_law table = either_law "as" (name_law after_names) (bare_law table) (bare_apart table)

abbrev SourceForm : FromItem → List Token → Type 0
SourceForm s ts = (t : List ℕ) × Then (IsNameToken t) (λ ts. (n : List ℕ) × (s ≡ record { table = t; name = n }) × SecondForm t n ts) ts

second_to : (t n : List ℕ) (ts : List Token) → SecondForm t n ts → IsSecondName (record { table = t; name = n }) ts
second_to t n ts (inl form) = inr (inr form)
second_to t n ts (inr (inl named)) = inr (inl named)
second_to t n ts (inr (inr (same, e))) = inl (e, same)

second_from : (s : FromItem) (ts : List Token) → IsSecondName s ts → SecondForm s.table s.name ts
second_from s ts (inl (e, same)) = inr (inr (same, e))
second_from s ts (inr (inl named)) = inr (inl named)
second_from s ts (inr (inr form)) = inl form

source_to : (s : FromItem) (ts : List Token) → SourceForm s ts → IsSource s ts
source_to s ts (t, (front, back, e, named, (n, made, second))) = subst (λ (r : FromItem). IsSource r ts) (sym made) (front, back, e, named, second_to t n back second)

source_from : (s : FromItem) (ts : List Token) → IsSource s ts → SourceForm s ts
source_from s ts (front, back, e, named, second) = (s.table, (front, back, e, named, (s.name, refl, second_from s back second)))

pub source_law : Law IsSource after_names reads_source
source_law =
    state_law SourceForm IsSource after_names reads_source
    (named_law (λ t. made_law (λ (n : List ℕ). record { table = t; name = n }) (second_law t))) source_to source_from

-- ---- a further source

abbrev pub with_plain : Sources → FromItem → Sources
with_plain made s = record { from = made.from ++ s ∷ []; picks = made.picks }

abbrev pub with_joined : Sources → FromItem → Expr → Sources
with_joined made s e = record { from = made.from ++ s ∷ []; picks = made.picks ++ e ∷ [] }

abbrev pub with_source : Sources → FromItem → Option Expr → Sources
with_source made s None = with_plain made s
with_source made s (Some e) = with_joined made s e

abbrev pub add_source : Sources → JoinedSource → Sources
add_source made j = with_source made j.0 j.1

abbrev Going : Type 0
Going = Sources × Bool

plain_law : (made : Sources) → Law (λ (r : Going) ts. (s : FromItem) × (r ≡ (with_plain made s, true)) × IsSource s ts) after_names (plain_source made)
plain_law made = made_law (λ (s : FromItem). (with_plain made s, true)) source_law

abbrev JoinedForm : Sources → Going → List Token → Type 0
JoinedForm made r ts = (s : FromItem) × Then (IsSource s) (λ ts. After "on" (λ ts. (e : Expr) × (r ≡ (with_joined made s e, true)) × IsExpression e ts) ts) ts

joined_law : (made : Sources) → Law (JoinedForm made) after_source (joined_source made)
joined_law made =
    then_law source_law (λ s. after_law "on" (made_law (λ (e : Expr). (with_joined made s e, true)) (expr_law after_source refl refl)))
    (λ s r. follows_after "on" after_source after_names refl)

abbrev MoreSources : Sources → List Token → Going × List Token → Type 0
MoreSources made ts r = Steps add_source IsJoined made ts r

-- what was read after JOIN
joined_made : (made : Sources) (ts after : List Token) (r : Going × List Token) → joined_source made after ≡ Some r
    → ((front : List Token) → after ≡ front ++ r.1 → (s : FromItem) (e : Expr) → IsConditioned s e front → (whole : List Token) × (ts ≡ whole ++ r.1) × IsJoinedBy s (Some e) whole) → MoreSources made ts r
joined_made made ts after r h form =
    let q = (joined_law made).sound after r.0 r.1 h in
    joined_is made ts after r form q.0 q.1 q.2.0 q.2.1
  where
    joined_is : (made : Sources) (ts after : List Token) (r : Going × List Token)
        → ((front : List Token) → after ≡ front ++ r.1 → (s : FromItem) (e : Expr) → IsConditioned s e front → (whole : List Token) × (ts ≡ whole ++ r.1) × IsJoinedBy s (Some e) whole)
        → (front : List Token) → after ≡ front ++ r.1 → (s : FromItem) → Then (IsSource s) (λ ts. After "on" (λ ts. (e : Expr) × (r.0 ≡ (with_joined made s e, true)) × IsExpression e ts) ts) front → MoreSources made ts r
    joined_is made ts after r form front cut s (one, back, e, source, (more, on, (pick, is, expr))) =
        let w = form front cut s pick (one, back, e, source, (more, on, expr)) in
        inl (ap (λ (p : Going). p.1) is, ((s, Some pick), w.0, w.1, w.2, ap (λ (p : Going). p.0) is))

plain_made : (made : Sources) (ts : List Token) (r : Going × List Token) → starts comma ts ≡ true → plain_source made (tail ts) ≡ Some r → MoreSources made ts r
plain_made made ts r is h =
    let q = (plain_law made).sound (tail ts) r.0 r.1 h in
    inl (ap (λ (p : Going). p.1) q.2.1, ((q.2.0, None), word "," ∷ q.0, starts_is comma ts is ∙ ap (λ (l : List Token). word "," ∷ l) q.1, (q.0, refl, q.2.2), ap (λ (p : Going). p.0) q.2.1))

source_makes : (made : Sources) (ts : List Token) (r : Going × List Token) → another_source made ts ≡ Some r → MoreSources made ts r
source_makes made ts r h =
    choose (starts comma ts) _ _ r h (λ is went. plain_made made ts r is went) (λ n1 h1.
    choose (starts (codes "join") ts) _ _ r h1
    (λ is went. joined_made made ts (tail ts) r went (λ front cut s e form. (word "join" ∷ front, starts_is (codes "join") ts is ∙ ap (λ (l : List Token). word "join" ∷ l) cut, inl (front, refl, form)))) (λ n2 h2.
    choose (starts (codes "inner") ts) _ _ r h2
    (λ is went.
    let p : (rest : List Token) × (after_word (codes "join") (tail ts) ≡ Some rest) × (joined_source made rest ≡ Some r) = bind-some (after_word (codes "join") (tail ts)) (λ rest. joined_source made rest) r went in
    joined_made made ts p.0 r p.2 (λ front cut s e form. (
      word "inner" ∷ word "join" ∷ front,
      starts_is (codes "inner") ts is ∙ ap (λ (l : List Token). word "inner" ∷ l) (after_is (codes "join") (tail ts) p.0 p.1 ∙ ap (λ (l : List Token). word "join" ∷ l) cut),
      inr (word "join" ∷ front, refl, (front, refl, form)),
    )))
    (λ n3 went. subst (MoreSources made ts) (same-some _ _ went) (inr (refl, refl, refl)))))

wider : (rest : List Token) → ends_by after_source rest ≡ true → ends_by after_names rest ≡ true
wider rest h = ends_more after_source after_names rest refl h

conditioned_goes : (made : Sources) (s : FromItem) (e : Expr) (front rest : List Token) → IsConditioned s e front → ends_by after_source rest ≡ true → joined_source made (front ++ rest) ≡ Some ((with_joined made s e, true), rest)
conditioned_goes made s e front rest (one, back, is, source, (more, on, expr)) ends =
    (joined_law made).complete front rest (with_joined made s e, true) (s, (one, back, is, source, (more, on, (e, refl, expr)))) ends

source_goes : (made : Sources) (s : FromItem) (o : Option Expr) (front rest : List Token) → IsJoinedBy s o front → ends_by after_source rest ≡ true → another_source made (front ++ rest) ≡ Some ((with_source made s o, true), rest)
source_goes made s None front rest (more, e, form) ends =
    let wide : ends_by after_names rest ≡ true = wider rest ends in
    ap (λ (l : List Token). another_source made (l ++ rest)) e ∙ (plain_law made).complete more rest (with_plain made s, true) (s, refl, form) wide
source_goes made s (Some pick) front rest (inl (more, e, form)) ends =
    ap (λ (l : List Token). another_source made (l ++ rest)) e ∙ conditioned_goes made s pick more rest form ends
source_goes made s (Some pick) front rest (inr (more, e, (after, join, form))) ends =
    ap (λ (l : List Token). another_source made (l ++ rest)) (e ∙ ap (λ (l : List Token). word "inner" ∷ l) join) ∙ conditioned_goes made s pick after rest form ends

source_stops : (made : Sources) (rest : List Token) → ends_by after_sources rest ≡ true → another_source made rest ≡ Some ((made, false), rest)
source_stops made rest ends =
    let no_comma : starts comma rest ≡ false = ends_lack comma after_sources rest refl ends in
    let no_join : starts (codes "join") rest ≡ false = ends_lack (codes "join") after_sources rest refl ends in
    let no_inner : starts (codes "inner") rest ≡ false = ends_lack (codes "inner") after_sources rest refl ends in
    ap (λ b. if b then plain_source made (tail rest) else (if starts (codes "join") rest then joined_source made (tail rest) else (if starts (codes "inner") rest then (after_word (codes "join") (tail rest) >>= λ rest. joined_source made rest) else Some ((made, false), rest)))) no_comma
    ∙ ap (λ b. if b then joined_source made (tail rest) else (if starts (codes "inner") rest then (after_word (codes "join") (tail rest) >>= λ rest. joined_source made rest) else Some ((made, false), rest))) no_join
    ∙ ap (λ b. if b then (after_word (codes "join") (tail rest) >>= λ rest. joined_source made rest) else Some ((made, false), rest)) no_inner

source_begins : (s : FromItem) (o : Option Expr) (ts rest : List Token) → IsJoinedBy s o ts → ends_by after_source (ts ++ rest) ≡ true
source_begins s None ts rest (more, e, form) = ap (λ (l : List Token). ends_by after_source (l ++ rest)) e
source_begins s (Some pick) ts rest (inl (more, e, form)) = ap (λ (l : List Token). ends_by after_source (l ++ rest)) e
source_begins s (Some pick) ts rest (inr (more, e, form)) = ap (λ (l : List Token). ends_by after_source (l ++ rest)) e

source_step : StepLaw add_source IsJoined after_sources after_source another_source
source_step = record {
  makes = source_makes;
  goes = λ made j front rest form ends. source_goes made j.0 j.1 front rest form ends;
  stops = source_stops;
  begins = λ j ts rest form. source_begins j.0 j.1 ts rest form;
  less = refl;
}

-- ---- all of them

abbrev pub with_more : Sources → List JoinedSource → Sources
with_more made js = record { from = made.from ++ map source_of js; picks = made.picks ++ conditions js }

abbrev sources : List FromItem → List Expr → Sources
sources from picks = record { from = from; picks = picks }

sources_same : (a b : List FromItem) (p q : List Expr) → a ≡ b → p ≡ q → sources a p ≡ sources b q
sources_same a b p q e f = ap (λ (l : List FromItem). sources l p) e ∙ ap (λ (l : List Expr). sources b l) f

added_sources : (js : List JoinedSource) (made : Sources) → added add_source made js ≡ with_more made js
added_sources [] made = sources_same _ _ _ _ (sym (append-nil made.from)) (sym (append-nil made.picks))
added_sources ((s, None) ∷ js) made = added_sources js (with_plain made s) ∙ sources_same _ _ _ _ (append_assoc made.from (s ∷ []) (map source_of js)) refl
added_sources ((s, Some e) ∷ js) made = added_sources js (with_joined made s e) ∙ sources_same _ _ _ _ (append_assoc made.from (s ∷ []) (map source_of js)) (append_assoc made.picks (e ∷ []) (conditions js))

abbrev first_sources : FromItem → Sources
first_sources s = record { from = s ∷ []; picks = [] }

abbrev from_first : FromItem × List Token → Option (Sources × List Token)
from_first r = repeat another_source 8 (first_sources r.0) r.1

abbrev pub SourcesForm : Sources → List Token → Type 0
SourcesForm s ts = AreSources s.from s.picks ts

sources_complete : (front rest : List Token) (x : Sources) → SourcesForm x front → ends_by after_sources rest ≡ true → reads_sources 8 (front ++ rest) ≡ Some (x, rest)
sources_complete front rest x (first, more, (one, back, e, source, others), from, picks, short) ends =
    let fits : length more < 8 = omega (arith, short, ap length from, length-map more source_of) in
    let follow : ends_by after_names (back ++ rest) ≡ true = wider (back ++ rest) (follows_repeated IsJoined after_sources after_source more refl source_step.begins back rest others ends) in
    let read_first : reads_source (front ++ rest) ≡ Some (first, back ++ rest) =
    ap (λ (l : List Token). reads_source (l ++ rest)) e ∙ ap reads_source (append_assoc one back rest) ∙ source_law.complete one (back ++ rest) first source follow in
    let all : added add_source (first_sources first) more ≡ x = added_sources more (first_sources first) ∙ sources_same _ _ _ _ (sym from) (sym picks) in
    ap (λ (o : Option (FromItem × List Token)). o >>= λ r. from_first r) read_first
    ∙ repeat_complete add_source IsJoined after_sources after_source another_source source_step more 8 (first_sources first) back rest others fits ends
    ∙ ap (λ (s : Sources). Some (s, rest)) all

pub sources_law : Law SourcesForm after_sources (reads_sources 8)
sources_law = record {
  sound = λ ts x rest h.
      let p : (r : FromItem × List Token) × (reads_source ts ≡ Some r) × (from_first r ≡ Some (x, rest)) = bind-some (reads_source ts) (λ r. from_first r) (x, rest) h in
      let q = source_law.sound ts p.0.0 p.0.1 p.1 in
      let m : Made add_source IsJoined 8 (first_sources p.0.0) p.0.1 (x, rest) = repeat_sound add_source IsJoined after_sources after_source another_source source_step 8 (first_sources p.0.0) p.0.1 (x, rest) p.2 in
      let same : x ≡ with_more (first_sources p.0.0) m.0 = m.4 ∙ added_sources m.0 (first_sources p.0.0) in
      let short : length (p.0.0 ∷ map source_of m.0) ≤ 8 = omega (arith, m.5, length-map m.0 source_of) in
      (q.0 ++ m.1, q.1 ∙ ap (λ (l : List Token). q.0 ++ l) m.2 ∙ sym (append_assoc q.0 m.1 rest), subst (λ (y : Sources). SourcesForm y (q.0 ++ m.1)) (sym same) (p.0.0, m.0, (q.0, m.1, refl, q.2, m.3), refl, refl, short));
  complete = sources_complete;
}
