-- Reading agrees with the grammar for each way of combining forms.
use Rattle.std.proofs.Common.{◌≡◌, ℕ, List, [], ◌∷◌, ◌++◌, refl, sym, ap, ◌∙◌, subst, Bool, true, false, Some, None, inl, inr, ◌⊎◌, append_assoc}
use Rattle.std.specs.Prelude.{Option, if◌then◌else◌, codes}
use Prim.Native.String.{String}
use Rattle.sql_model.specs.declared.token.Token.{Token}
use Rattle.sql_model.specs.declared.token.Token.TheVariants.{Word}
use Rattle.ldv_value.specs.Options.{◌>>=◌, only_if}
use Rattle.sql_model.specs.Grammar.{word, IsName}
use Rattle.sql_model.specs.GrammarOfStatements.{Then, After, Flag, Optionally, IsNameToken}
use Rattle.sql_model.specs.Reader.{starts, tail, tokens_past, after_word, reads_token, reads_name}
use Rattle.sql_parse.proofs.Choices.{choose}
use Rattle.sql_parse.proofs.ExpressionsLaw.{starts_is, after_is}
use Rattle.sql_parse.proofs.Named.{name_taken}
use Rattle.sql_parse.proofs.Follows.{all_words, among, ends_by, lacks, ends_lack, ends_more, Follows, starts_self, after_self}
use Rattle.ldv_value.proofs.Options.{bind-some, same-some}

-- What is read from the front of tokens has the form, and what has the form is read from the front, where
-- what stands after it is nothing or begins with one of the words.
pub record Law {X : Type 0} (Form : X → List Token → Type 0) (ws : List (List ℕ)) (read : List Token → Option (X × List Token)) : Type 0 where
  pub sound : (ts : List Token) (x : X) (rest : List Token) → read ts ≡ Some (x, rest) → (front : List Token) × (ts ≡ front ++ rest) × Form x front
  pub complete : (front rest : List Token) (x : X) → Form x front → ends_by ws rest ≡ true → read (front ++ rest) ≡ Some (x, rest)

-- what was read, said of a pair
pub taken : {X : Type 0} (Form : X → List Token → Type 0) (ts : List Token) (p q : X × List Token) → Some p ≡ Some q → (front : List Token) × (ts ≡ front ++ p.1) × Form p.0 front
    → (front : List Token) × (ts ≡ front ++ q.1) × Form q.0 front
taken Form ts p q e made = subst (λ r. (front : List Token) × (ts ≡ front ++ r.1) × Form r.0 front) (same-some p q e) made

-- the same said in other words
pub state_law : {X : Type 0} (F G : X → List Token → Type 0) (ws : List (List ℕ)) (read : List Token → Option (X × List Token)) → Law F ws read
    → ((x : X) (ts : List Token) → F x ts → G x ts) → ((x : X) (ts : List Token) → G x ts → F x ts) → Law G ws read
state_law F G ws read law to from = record {
  sound = λ ts x rest h. let p = law.sound ts x rest h in (p.0, p.1, to x p.0 p.2);
  complete = λ front rest x form e. law.complete front rest x (from x front form) e;
}

-- with fewer words after it
pub fewer_law : {X : Type 0} {F : X → List Token → Type 0} {read : List Token → Option (X × List Token)} (ws vs : List (List ℕ)) → Law F vs read → all_words (among vs) ws ≡ true → Law F ws read
fewer_law ws vs law less = record {
  sound = law.sound;
  complete = λ front rest x form e. law.complete front rest x form (ends_more ws vs rest less e);
}

-- read by another reader that gives the same
pub same_law : {X : Type 0} {F : X → List Token → Type 0} {ws : List (List ℕ)} (read other : List Token → Option (X × List Token)) → ((ts : List Token) → other ts ≡ read ts) → Law F ws read → Law F ws other
same_law read other same law = record {
  sound = λ ts x rest h. law.sound ts x rest (sym (same ts) ∙ h);
  complete = λ front rest x form e. same (front ++ rest) ∙ law.complete front rest x form e;
}

-- nothing is read
pub nothing_law : {X : Type 0} (x : X) (ws : List (List ℕ)) → Law (λ y ts. (y ≡ x) × (ts ≡ [])) ws (λ ts. Some (x, ts))
nothing_law x ws = record {
  sound = λ ts y rest h. taken (λ y ts. (y ≡ x) × (ts ≡ [])) ts (x, ts) (y, rest) h ([], refl, (refl, refl));
  complete = λ front rest y form e. ap (λ z. Some (x, z ++ rest)) form.1 ∙ ap (λ z. Some (z, rest)) (sym form.0);
}

-- one token
abbrev pub one_read : {X : Type 0} → Option X → List Token → Option (X × List Token)
one_read o rest = o >>= λ x. Some (x, rest)

abbrev pub token_read : {X : Type 0} → (Token → Option X) → List Token → Option (X × List Token)
token_read f ts = reads_token ts >>= λ r. one_read (f r.0) r.1

pub token_law : {X : Type 0} (f : Token → Option X) (ws : List (List ℕ)) → Law (λ x ts. (t : Token) × (ts ≡ t ∷ []) × (f t ≡ Some x)) ws (token_read f)
token_law {X = X} f ws = record {
  sound = λ ts x rest h. token_sound f ts x rest h;
  complete = λ front rest x form e. ap (λ (l : List Token). token_read f (l ++ rest)) form.1 ∙ ap (λ (o : Option X). one_read o rest) form.2;
}
  where
    token_sound : {X : Type 0} (f : Token → Option X) (ts : List Token) (x : X) (rest : List Token) → token_read f ts ≡ Some (x, rest)
        → (front : List Token) × (ts ≡ front ++ rest) × ((t : Token) × (front ≡ t ∷ []) × (f t ≡ Some x))
    token_sound f [] x rest h = cc
    token_sound {X = X} f (t ∷ ts) x rest h =
        let p : (y : X) × (f t ≡ Some y) × (Some (y, ts) ≡ Some (x, rest)) = bind-some (f t) (λ y. Some (y, ts)) (x, rest) h in
        taken (λ z front. (t : Token) × (front ≡ t ∷ []) × (f t ≡ Some z)) (t ∷ ts) (p.0, ts) (x, rest) p.2 (t ∷ [], refl, (t, refl, p.1))

-- a word, and then a form
pub after_law : {X : Type 0} {Form : X → List Token → Type 0} {ws : List (List ℕ)} {next : List Token → Option (X × List Token)} (s : String) → Law Form ws next
    → Law (λ x ts. After s (Form x) ts) ws (λ ts. after_word (codes s) ts >>= λ rest. next rest)
after_law {X = X} {next = next} s law = record {
  sound = λ ts x rest h.
      let p : (more : List Token) × (after_word (codes s) ts ≡ Some more) × (next more ≡ Some (x, rest)) = bind-some (after_word (codes s) ts) (λ rest. next rest) (x, rest) h in
      let q = law.sound p.0 x rest p.2 in
      (word s ∷ q.0, after_is (codes s) ts p.0 p.1 ∙ ap (λ l. word s ∷ l) q.1, (q.0, refl, q.2));
  complete = λ front rest x form e.
      ap (λ l. after_word (codes s) (l ++ rest) >>= λ rest. next rest) form.1 ∙ ap (λ o. o >>= λ rest. next rest) (after_self (codes s) (form.0 ++ rest)) ∙ law.complete form.0 rest x form.2 e;
}

-- a form, and then one that it says
pub then_law : {A X : Type 0} {First : A → List Token → Type 0} {Second : A → X → List Token → Type 0} {vs ws : List (List ℕ)} {read : List Token → Option (A × List Token)} {next : A → List Token → Option (X × List Token)}
    → Law First vs read → ((a : A) → Law (Second a) ws (next a)) → ((a : A) (x : X) → Follows (Second a x) ws vs)
    → Law (λ x ts. (a : A) × Then (First a) (Second a x) ts) ws (λ ts. read ts >>= λ r. next r.0 r.1)
then_law {A = A} {First = First} {Second = Second} {vs = vs} {ws = ws} {read = read} {next = next} one two follows = record {
  sound = λ ts x rest h.
      let p : (r : A × List Token) × (read ts ≡ Some r) × (next r.0 r.1 ≡ Some (x, rest)) = bind-some (read ts) (λ r. next r.0 r.1) (x, rest) h in
      let first = one.sound ts p.0.0 p.0.1 p.1 in
      let second = (two p.0.0).sound p.0.1 x rest p.2 in
      (first.0 ++ second.0, first.1 ∙ ap (λ l. first.0 ++ l) second.1 ∙ sym (append_assoc first.0 second.0 rest), (p.0.0, (first.0, second.0, refl, first.2, second.2)));
  complete = λ front rest x form e.
      let parts = form.1 in
      let ends : ends_by vs (parts.1 ++ rest) ≡ true = follows form.0 x parts.1 rest parts.4 e in
      ap (λ l. read (l ++ rest) >>= λ r. next r.0 r.1) parts.2 ∙ ap (λ l. read l >>= λ r. next r.0 r.1) (append_assoc parts.0 parts.1 rest)
      ∙ ap (λ o. o >>= λ r. next r.0 r.1) (one.complete parts.0 (parts.1 ++ rest) form.0 parts.3 ends) ∙ (two form.0).complete parts.1 rest x parts.4 e;
}

-- what is made of a form
pub made_law : {A X : Type 0} {Form : A → List Token → Type 0} {ws : List (List ℕ)} {read : List Token → Option (A × List Token)} (f : A → X) → Law Form ws read
    → Law (λ x ts. (a : A) × (x ≡ f a) × Form a ts) ws (λ ts. read ts >>= λ r. Some (f r.0, r.1))
made_law {A = A} {X = X} {Form = Form} {read = read} f law = record {
  sound = λ ts x rest h.
      let p : (r : A × List Token) × (read ts ≡ Some r) × (Some (f r.0, r.1) ≡ Some (x, rest)) = bind-some (read ts) (λ r. Some (f r.0, r.1)) (x, rest) h in
      let q = law.sound ts p.0.0 p.0.1 p.1 in
      taken (λ y front. (a : A) × (y ≡ f a) × Form a front) ts (f p.0.0, p.0.1) (x, rest) p.2 (q.0, q.1, (p.0.0, refl, q.2));
  complete = λ front rest x form e. ap (λ o. o >>= λ r. Some (f r.0, r.1)) (law.complete front rest form.0 form.2 e) ∙ ap (λ y. Some (y, rest)) (sym form.1);
}

-- a form after a word, or another one where the word doesn't stand there
pub either_law : {X : Type 0} {One Two : X → List Token → Type 0} {ws : List (List ℕ)} {next other : List Token → Option (X × List Token)} (s : String) → Law One ws next → Law Two ws other
    → ((x : X) (front rest : List Token) → Two x front → ends_by ws rest ≡ true → starts (codes s) (front ++ rest) ≡ false)
    → Law (λ x ts. After s (One x) ts ⊎ Two x ts) ws (λ ts. if starts (codes s) ts then next (tail ts) else other ts)
either_law {X = X} {One = One} {Two = Two} {ws = ws} {next = next} {other = other} s one two apart = record {
  sound = λ ts x rest h. choose (starts (codes s) ts) (next (tail ts)) (other ts) (x, rest) h
      (λ is made. let q = one.sound (tail ts) x rest made in (word s ∷ q.0, starts_is (codes s) ts is ∙ ap (λ l. word s ∷ l) q.1, inl (q.0, refl, q.2)))
      (λ not made. let q = two.sound ts x rest made in (q.0, q.1, inr q.2));
  complete = either_complete;
}
  where
    either_complete : (front rest : List Token) (x : X) → After s (One x) front ⊎ Two x front → ends_by ws rest ≡ true → (if starts (codes s) (front ++ rest) then next (tail (front ++ rest)) else other (front ++ rest)) ≡ Some (x, rest)
    either_complete front rest x (inl (more, e, form)) ends =
        ap (λ l. if starts (codes s) (l ++ rest) then next (tail (l ++ rest)) else other (l ++ rest)) e
        ∙ ap (λ b. if b then next (more ++ rest) else other (word s ∷ more ++ rest)) (starts_self (codes s) (more ++ rest)) ∙ one.complete more rest x form ends
    either_complete front rest x (inr form) ends =
        ap (λ b. if b then next (tail (front ++ rest)) else other (front ++ rest)) (apart x front rest form ends) ∙ two.complete front rest x form ends

-- a form after a word, or nothing
pub optional_law : {A : Type 0} {Form : A → List Token → Type 0} {ws : List (List ℕ)} {read : List Token → Option (A × List Token)} (s : String) → Law Form ws read → lacks (codes s) ws ≡ true
    → Law (λ o ts. Optionally s Form o ts) ws (λ ts. if starts (codes s) ts then (read (tail ts) >>= λ r. Some (Some r.0, r.1)) else Some (None, ts))
optional_law {A = A} {Form = Form} {ws = ws} {read = read} s law lack =
    state_law (λ o ts. After s (λ ts. (a : A) × (o ≡ Some a) × Form a ts) ts ⊎ ((o ≡ None) × (ts ≡ []))) (λ o ts. Optionally s Form o ts) ws (λ ts. if starts (codes s) ts then (read (tail ts) >>= λ r. Some (Some r.0, r.1)) else Some (None, ts))
    (either_law s (made_law (λ a. Some a) law) (nothing_law None ws) (λ o front rest form e. ap (λ l. starts (codes s) (l ++ rest)) form.1 ∙ ends_lack (codes s) ws rest lack e))
    to from
  where
    to : (o : Option A) (ts : List Token) → (After s (λ ts. (a : A) × (o ≡ Some a) × Form a ts) ts ⊎ ((o ≡ None) × (ts ≡ []))) → Optionally s Form o ts
    to o ts (inl (more, e, (a, is, form))) = subst (λ p. Optionally s Form p ts) (sym is) (more, e, form)
    to o ts (inr (is, e)) = subst (λ p. Optionally s Form p ts) (sym is) e

    from : (o : Option A) (ts : List Token) → Optionally s Form o ts → (After s (λ ts. (a : A) × (o ≡ Some a) × Form a ts) ts ⊎ ((o ≡ None) × (ts ≡ [])))
    from (Some a) ts (more, e, form) = inl (more, e, (a, refl, form))
    from None ts e = inr (refl, e)

-- a word that may stand there, and then a form that knows whether it does
pub flag_law : {X : Type 0} {Form : Bool → X → List Token → Type 0} {ws : List (List ℕ)} {next : Bool → List Token → Option (X × List Token)} (s : String) → ((b : Bool) → Law (Form b) ws (next b))
    → ((x : X) (front rest : List Token) → Form false x front → ends_by ws rest ≡ true → starts (codes s) (front ++ rest) ≡ false)
    → Law (λ x ts. (b : Bool) × Then (Flag s b) (Form b x) ts) ws (λ ts. next (starts (codes s) ts) (tokens_past (codes s) ts))
flag_law {X = X} {Form = Form} {ws = ws} {next = next} s laws apart = record { sound = flag_sound; complete = flag_complete }
  where
    flag_read : Bool → List Token → Option (X × List Token)
    flag_read b ts = next b (if b then tail ts else ts)

    flag_at : (ts : List Token) (x : X) (rest : List Token) (b : Bool) → starts (codes s) ts ≡ b → next b (if b then tail ts else ts) ≡ Some (x, rest)
        → (front : List Token) × (ts ≡ front ++ rest) × ((b : Bool) × Then (Flag s b) (Form b x) front)
    flag_at ts x rest true is h =
        let q = (laws true).sound (tail ts) x rest h in
        (word s ∷ q.0, starts_is (codes s) ts is ∙ ap (λ l. word s ∷ l) q.1, (true, (word s ∷ [], q.0, refl, refl, q.2)))
    flag_at ts x rest false is h =
        let q = (laws false).sound ts x rest h in
        (q.0, q.1, (false, ([], q.0, refl, refl, q.2)))

    flag_sound : (ts : List Token) (x : X) (rest : List Token) → next (starts (codes s) ts) (tokens_past (codes s) ts) ≡ Some (x, rest) → (front : List Token) × (ts ≡ front ++ rest) × ((b : Bool) × Then (Flag s b) (Form b x) front)
    flag_sound ts x rest h = flag_at ts x rest (starts (codes s) ts) refl h

    flag_complete : (front rest : List Token) (x : X) → ((b : Bool) × Then (Flag s b) (Form b x) front) → ends_by ws rest ≡ true → next (starts (codes s) (front ++ rest)) (tokens_past (codes s) (front ++ rest)) ≡ Some (x, rest)
    flag_complete front rest x (true, (one, back, e, is, form)) ends =
        let same : front ≡ word s ∷ back = e ∙ ap (λ l. l ++ back) is in
        ap (λ l. next (starts (codes s) (l ++ rest)) (tokens_past (codes s) (l ++ rest))) same
        ∙ ap (λ b. next b (if b then back ++ rest else (word s ∷ back) ++ rest)) (starts_self (codes s) (back ++ rest)) ∙ (laws true).complete back rest x form ends
    flag_complete front rest x (false, (one, back, e, is, form)) ends =
        let same : front ≡ back = e ∙ ap (λ l. l ++ back) is in
        ap (λ l. next (starts (codes s) (l ++ rest)) (tokens_past (codes s) (l ++ rest))) same
        ∙ ap (λ b. next b (if b then tail (back ++ rest) else back ++ rest)) (apart x back rest form ends) ∙ (laws false).complete back rest x form ends

-- ---- names

pub name_read : (x : List ℕ) (rest : List Token) → IsName x → reads_name (Word x ∷ rest) ≡ Some (x, rest)
name_read x rest is = ap (λ b. only_if b (Some x) >>= λ n. Some (n, rest)) is

pub name_law : (ws : List (List ℕ)) → Law IsNameToken ws reads_name
name_law ws = record {
  sound = λ ts x rest h. let p = name_taken ts x rest h in (Word x ∷ [], p.0, (refl, p.1));
  complete = λ front rest x form e. ap (λ (l : List Token). reads_name (l ++ rest)) form.0 ∙ name_read x rest form.1;
}

-- a name, and then a form, whatever that begins with
pub named_law : {X : Type 0} {Form : List ℕ → X → List Token → Type 0} {ws : List (List ℕ)} {next : List ℕ → List Token → Option (X × List Token)} → ((n : List ℕ) → Law (Form n) ws (next n))
    → Law (λ x ts. (n : List ℕ) × Then (IsNameToken n) (Form n x) ts) ws (λ ts. reads_name ts >>= λ r. next r.0 r.1)
named_law {X = X} {Form = Form} {ws = ws} {next = next} laws = record {
  sound = λ ts x rest h.
      let p : (r : List ℕ × List Token) × (reads_name ts ≡ Some r) × (next r.0 r.1 ≡ Some (x, rest)) = bind-some (reads_name ts) (λ r. next r.0 r.1) (x, rest) h in
      let n = name_taken ts p.0.0 p.0.1 p.1 in
      let q = (laws p.0.0).sound p.0.1 x rest p.2 in
      (Word p.0.0 ∷ q.0, n.0 ∙ ap (λ (l : List Token). Word p.0.0 ∷ l) q.1, (p.0.0, (Word p.0.0 ∷ [], q.0, refl, (refl, n.1), q.2)));
  complete = λ front rest x form e.
      let parts = form.1 in
      let same : front ≡ Word form.0 ∷ parts.1 = parts.2 ∙ ap (λ (l : List Token). l ++ parts.1) parts.3.0 in
      ap (λ (l : List Token). reads_name (l ++ rest) >>= λ r. next r.0 r.1) same ∙ ap (λ o. o >>= λ r. next r.0 r.1) (name_read form.0 (parts.1 ++ rest) parts.3.1)
      ∙ (laws form.0).complete parts.1 rest x parts.4 e;
}
