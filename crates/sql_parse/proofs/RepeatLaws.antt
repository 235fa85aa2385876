-- Repeated forms: reading agrees with the grammar.
use Rattle.std.proofs.Common.{◌≡◌, ℕ, zero, suc, ◌<◌, ◌≤◌, List, [], ◌∷◌, ◌++◌, length, refl, sym, ap, ◌∙◌, subst, Bool, true, false, Some, None, inl, inr, ◌⊎◌, arith, append_assoc, append-nil}
use Rattle.std.specs.Prelude.{Option, if◌then◌else◌, codes}
use Prim.Native.String.{String}
use Rattle.std.proofs.lemmas.List.{length-append}
use Rattle.sql_model.specs.declared.token.Token.{Token}
use Rattle.ldv_value.specs.Options.{◌>>=◌}
use Rattle.sql_model.specs.Grammar.{word}
use Rattle.sql_model.specs.GrammarOfStatements.{After, IsRepetition, IsSeparatedBy}
use Rattle.sql_model.specs.Reader.{starts, tail, repeat}
use Rattle.sql_parse.proofs.Choices.{choose}
use Rattle.sql_parse.proofs.ExpressionsLaw.{starts_is}
use Rattle.sql_parse.proofs.Follows.{all_words, among, ends_by, lacks, ends_lack, follows_repeated, starts_self}
use Rattle.sql_parse.proofs.Laws.{Law}
use Rattle.ldv_value.proofs.Options.{bind-some, same-some}
use Rattle.sql_parse.proofs.Repeat.{after, repeat_none, repeat_suc}

abbrev pub added : {A X : Type 0} → (A → X → A) → A → List X → A
added add a [] = a
added add a (x ∷ xs) = added add (add a x) xs

-- what a step makes: one more form, or it stops
abbrev pub Steps : {A X : Type 0} → (A → X → A) → (X → List Token → Type 0) → A → List Token → (A × Bool) × List Token → Type 0
Steps {X = X} add Form a ts r = ((r.0.1 ≡ true) × ((x : X) × (front : List Token) × (ts ≡ front ++ r.1) × Form x front × (r.0.0 ≡ add a x)))
    ⊎ ((r.0.1 ≡ false) × (r.0.0 ≡ a) × (r.1 ≡ ts))

-- how a step reads one more form
pub record StepLaw {A X : Type 0} (add : A → X → A) (Form : X → List Token → Type 0) (ws vs : List (List ℕ)) (step : A → List Token → Option ((A × Bool) × List Token)) : Type 0 where
  pub makes : (a : A) (ts : List Token) (r : (A × Bool) × List Token) → step a ts ≡ Some r → Steps add Form a ts r
  pub goes : (a : A) (x : X) (front rest : List Token) → Form x front → ends_by vs rest ≡ true → step a (front ++ rest) ≡ Some ((add a x, true), rest)
  pub stops : (a : A) (rest : List Token) → ends_by ws rest ≡ true → step a rest ≡ Some ((a, false), rest)
  pub begins : (x : X) (ts rest : List Token) → Form x ts → ends_by vs (ts ++ rest) ≡ true
  pub less : all_words (among vs) ws ≡ true

-- what so many steps make
abbrev pub Made : {A X : Type 0} → (A → X → A) → (X → List Token → Type 0) → ℕ → A → List Token → A × List Token → Type 0
Made {X = X} add Form k a ts q = (xs : List X) × (front : List Token) × (ts ≡ front ++ q.1) × IsRepetition Form xs front × (q.0 ≡ added add a xs) × (length xs < k)

module _ {A X : Type 0} (add : A → X → A) (Form : X → List Token → Type 0) (ws vs : List (List ℕ)) (step : A → List Token → Option ((A × Bool) × List Token)) (law : StepLaw add Form ws vs step) where
  one_more : (k : ℕ) (a : A) (ts : List Token) (r : (A × Bool) × List Token) (q : A × List Token) → Steps add Form a ts r → ((b : A) → repeat step k b r.1 ≡ Some q → Made add Form k b r.1 q)
      → (if r.0.1 then repeat step k r.0.0 r.1 else Some (r.0.0, r.1)) ≡ Some q → Made add Form (suc k) a ts q
  one_more k a ts r q (inl (goes, (x, front, e, form, is))) more h =
      let h1 : repeat step k r.0.0 r.1 ≡ Some q = sym (ap (λ b. if b then repeat step k r.0.0 r.1 else Some (r.0.0, r.1)) goes) ∙ h in
      let m : Made add Form k r.0.0 r.1 q = more r.0.0 h1 in
      let longer : length (x ∷ m.0) < suc k = omega (arith, m.5) in
      (x ∷ m.0, front ++ m.1, e ∙ ap (λ l. front ++ l) m.2 ∙ sym (append_assoc front m.1 q.1), (front, m.1, refl, form, m.3), m.4 ∙ ap (λ b. added add b m.0) is, longer)
  one_more k a ts r q (inr (stops, same, rest)) more h =
      let h1 : Some (r.0.0, r.1) ≡ Some q = sym (ap (λ b. if b then repeat step k r.0.0 r.1 else Some (r.0.0, r.1)) stops) ∙ h in
      let is : (r.0.0, r.1) ≡ q = same-some _ _ h1 in
      let none : length {A = X} [] < suc k = omega arith in
      ([], [], sym rest ∙ ap (λ p. p.1) is, refl, sym (ap (λ p. p.0) is) ∙ same, none)

  pub repeat_sound : (k : ℕ) (a : A) (ts : List Token) (q : A × List Token) → repeat step k a ts ≡ Some q → Made add Form k a ts q
  repeat_sound zero a ts q h = let none : None ≡ Some q = sym (repeat_none step a ts) ∙ h in absurd cc
  repeat_sound (suc k) a ts q h =
      let p : (r : (A × Bool) × List Token) × (step a ts ≡ Some r) × ((if r.0.1 then repeat step k r.0.0 r.1 else Some (r.0.0, r.1)) ≡ Some q) =
      bind-some (step a ts) (λ r. if r.0.1 then repeat step k r.0.0 r.1 else Some (r.0.0, r.1)) q (sym (repeat_suc step k a ts) ∙ h) in
      one_more k a ts p.0 q (law.makes a ts p.0 p.1) (λ b e. repeat_sound k b p.0.1 q e) p.2

  pub repeat_complete : (xs : List X) (k : ℕ) (a : A) (front rest : List Token) → IsRepetition Form xs front → length xs < k → ends_by ws rest ≡ true → repeat step k a (front ++ rest) ≡ Some (added add a xs, rest)
  repeat_complete xs zero a front rest form fits ends = absurd (omega (arith, fits))
  repeat_complete [] (suc k) a front rest form fits ends =
      ap (λ (l : List Token). repeat step (suc k) a (l ++ rest)) form ∙ repeat_suc step k a rest ∙ ap (after step k) (law.stops a rest ends)
  repeat_complete (x ∷ xs) (suc k) a front rest (one, more, e, first, others) fits ends =
      let follow : ends_by vs (more ++ rest) ≡ true = follows_repeated Form ws vs xs law.less law.begins more rest others ends in
      let shorter : length xs < k = omega (arith, fits) in
      ap (λ (l : List Token). repeat step (suc k) a (l ++ rest)) e ∙ ap (repeat step (suc k) a) (append_assoc one more rest) ∙ repeat_suc step k a (one ++ (more ++ rest))
      ∙ ap (after step k) (law.goes a x one (more ++ rest) first follow) ∙ repeat_complete xs k (add a x) more rest others shorter ends

-- ---- lists

abbrev pub put_last : {X : Type 0} → List X → X → List X
put_last xs x = xs ++ x ∷ []

put_all : {X : Type 0} (xs ys : List X) → added put_last xs ys ≡ xs ++ ys
put_all xs [] = sym (append-nil xs)
put_all xs (y ∷ ys) = put_all (xs ++ y ∷ []) ys ∙ append_assoc xs (y ∷ []) ys

-- one more, after a word or symbol
abbrev pub more_of : {X : Type 0} → String → (List Token → Option (X × List Token)) → List X → List Token → Option ((List X × Bool) × List Token)
more_of s read made ts = if starts (codes s) ts then (read (tail ts) >>= λ r. Some ((made ++ r.0 ∷ [], true), r.1)) else Some ((made, false), ts)

more_law : {X : Type 0} {Form : X → List Token → Type 0} {read : List Token → Option (X × List Token)} (s : String) (ws : List (List ℕ)) → Law Form (codes s ∷ ws) read → lacks (codes s) ws ≡ true
    → all_words (among (codes s ∷ ws)) ws ≡ true → among (codes s ∷ ws) (codes s) ≡ true
    → StepLaw put_last (λ x ts. After s (Form x) ts) ws (codes s ∷ ws) (more_of s read)
more_law {X = X} {Form = Form} {read = read} s ws law lack less self = record {
  makes = λ a ts r h. choose (starts (codes s) ts) (read (tail ts) >>= λ r. Some ((a ++ r.0 ∷ [], true), r.1)) (Some ((a, false), ts)) r h (λ is made. went a ts r is made) (λ is made. stopped a ts r made);
  goes = λ a x front rest form ends.
      ap (λ l. more_of s read a (l ++ rest)) form.1
      ∙ ap (λ b. if b then (read (form.0 ++ rest) >>= λ r. Some ((a ++ r.0 ∷ [], true), r.1)) else Some ((a, false), word s ∷ form.0 ++ rest)) (starts_self (codes s) (form.0 ++ rest))
      ∙ ap (λ o. o >>= λ r. Some ((a ++ r.0 ∷ [], true), r.1)) (law.complete form.0 rest x form.2 ends);
  stops = λ a rest ends. ap (λ b. if b then (read (tail rest) >>= λ r. Some ((a ++ r.0 ∷ [], true), r.1)) else Some ((a, false), rest)) (ends_lack (codes s) ws rest lack ends);
  begins = λ x ts rest form. ap (λ l. ends_by (codes s ∷ ws) (l ++ rest)) form.1 ∙ self;
  less = less;
}
  where
    went : (a : List X) (ts : List Token) (r : (List X × Bool) × List Token) → starts (codes s) ts ≡ true → (read (tail ts) >>= λ r. Some ((a ++ r.0 ∷ [], true), r.1)) ≡ Some r
        → Steps put_last (λ x ts. After s (Form x) ts) a ts r
    went a ts r is made =
        let p : (q : X × List Token) × (read (tail ts) ≡ Some q) × (Some ((a ++ q.0 ∷ [], true), q.1) ≡ Some r) = bind-some (read (tail ts)) (λ r. Some ((a ++ r.0 ∷ [], true), r.1)) r made in
        let q = law.sound (tail ts) p.0.0 p.0.1 p.1 in
        subst (Steps put_last (λ x ts. After s (Form x) ts) a ts) (same-some _ _ p.2)
        (inl (refl, (p.0.0, word s ∷ q.0, starts_is (codes s) ts is ∙ ap (λ l. word s ∷ l) q.1, (q.0, refl, q.2), refl)))

    stopped : (a : List X) (ts : List Token) (r : (List X × Bool) × List Token) → Some ((a, false), ts) ≡ Some r → Steps put_last (λ x ts. After s (Form x) ts) a ts r
    stopped a ts r made = subst (Steps put_last (λ x ts. After s (Form x) ts) a ts) (same-some _ _ made) (inr (refl, refl, refl))

-- as many forms after words have as many tokens at least
repeated_length : {X : Type 0} (Form : X → List Token → Type 0) (s : String) (xs : List X) (ts : List Token) → IsRepetition (λ y. After s (Form y)) xs ts → length xs ≤ length ts
repeated_length Form s [] ts h = omega arith
repeated_length Form s (x ∷ xs) ts (front, back, e, (more, is, form), others) =
    omega (arith, ap length e, length-append front back, ap length is, repeated_length Form s xs back others)

pub separated_law : {X : Type 0} {First Form : X → List Token → Type 0} {first read : List Token → Option (X × List Token)} (s : String) (ws : List (List ℕ))
    → Law First (codes s ∷ ws) first → Law Form (codes s ∷ ws) read → ((x : X) (ts : List Token) → First x ts → 1 ≤ length ts)
    → lacks (codes s) ws ≡ true → all_words (among (codes s ∷ ws)) ws ≡ true → among (codes s ∷ ws) (codes s) ≡ true
    → Law (λ xs ts. IsSeparatedBy s First Form xs ts) ws (λ ts. first ts >>= λ r. repeat (more_of s read) (length ts) (r.0 ∷ []) r.1)
separated_law {X = X} {First = First} {Form = Form} {first = first} {read = read} s ws one law some lack less self = record {
  sound = λ ts xs rest h.
      let p : (r : X × List Token) × (first ts ≡ Some r) × (repeat (more_of s read) (length ts) (r.0 ∷ []) r.1 ≡ Some (xs, rest)) =
      bind-some (first ts) (λ r. repeat (more_of s read) (length ts) (r.0 ∷ []) r.1) (xs, rest) h in
      let q = one.sound ts p.0.0 p.0.1 p.1 in
      let m : Made put_last (λ x ts. After s (Form x) ts) (length ts) (p.0.0 ∷ []) p.0.1 (xs, rest) =
      repeat_sound put_last (λ x ts. After s (Form x) ts) ws (codes s ∷ ws) (more_of s read) (more_law s ws law lack less self) (length ts) (p.0.0 ∷ []) p.0.1 (xs, rest) p.2 in
      let all : xs ≡ p.0.0 ∷ m.0 = m.4 ∙ put_all (p.0.0 ∷ []) m.0 in
      (q.0 ++ m.1, q.1 ∙ ap (λ l. q.0 ++ l) m.2 ∙ sym (append_assoc q.0 m.1 rest), subst (λ ys. IsSeparatedBy s First Form ys (q.0 ++ m.1)) (sym all) (q.0, m.1, refl, q.2, m.3));
  complete = separated_complete;
}
  where
    separated_complete : (front rest : List Token) (xs : List X) → IsSeparatedBy s First Form xs front → ends_by ws rest ≡ true
        → (first (front ++ rest) >>= λ r. repeat (more_of s read) (length (front ++ rest)) (r.0 ∷ []) r.1) ≡ Some (xs, rest)
    separated_complete front rest [] form ends = absurd form
    separated_complete front rest (x ∷ xs) (begin, back, e, is, others) ends =
        let step = more_law s ws law lack less self in
        let follow : ends_by (codes s ∷ ws) (back ++ rest) ≡ true = follows_repeated (λ (y : X) (l : List Token). After s (Form y) l) ws (codes s ∷ ws) xs less step.begins back rest others ends in
        let enough : length xs < length (front ++ rest) =
        omega (arith, ap length e, length-append front rest, length-append begin back, some x begin is, repeated_length Form s xs back others) in
        let read_first : first (front ++ rest) ≡ Some (x, back ++ rest) = ap (λ l. first (l ++ rest)) e ∙ ap first (append_assoc begin back rest) ∙ one.complete begin (back ++ rest) x is follow in
        ap (λ o. o >>= λ r. repeat (more_of s read) (length (front ++ rest)) (r.0 ∷ []) r.1) read_first
        ∙ repeat_complete put_last (λ x ts. After s (Form x) ts) ws (codes s ∷ ws) (more_of s read) step xs (length (front ++ rest)) (x ∷ []) back rest others enough ends
        ∙ ap (λ l. Some (l, rest)) (put_all (x ∷ []) xs)
