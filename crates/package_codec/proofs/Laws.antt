-- What is spelled is read, whatever follows it, and what is read was spelled so. Each way to make a field
-- from smaller fields keeps this.
use Rattle.std.proofs.Common.{◌≡◌, ℕ, suc, ◌+◌, ◌^◌, ◌<◌, Bool, true, false, cond, List, [], ◌∷◌, ◌++◌, length, get_or, take, drop, Option, Some, None, refl, sym, ap, subst, ◌∙◌, append_assoc, arith, inl, inr, ◌&&◌}
use Rattle.std.specs.List.{list_all, AllByRecursion}
use Rattle.std.proofs.lemmas.Bool.{cases_lt}
use Rattle.std.proofs.lemmas.List.{length-append, length-take, get_or-drop, get_or-take, get_or_past}
use Rattle.ldv_value.proofs.Booleans.{and-parts, and-from}
use Rattle.ldv_value.proofs.Options.{bind-some, same-some}
use Rattle.package_codec.specs.Fields.{DecodeResult, ◌>>=◌, then_at, made_at}

-- ---- bytes

abbrev pub IsBytes : List ℕ → Type 0
IsBytes bytes = (i : ℕ) → get_or bytes i 0 < 256

pub IsBytes-drop : (n : ℕ) (bytes : List ℕ) → IsBytes bytes → IsBytes (drop n bytes)
IsBytes-drop n bytes h i = rw get_or-drop (h (n + i))

pub IsBytes-take : (n : ℕ) (bytes : List ℕ) → IsBytes bytes → IsBytes (take n bytes)
IsBytes-take n bytes h i =
    elim (cases_lt i n) [
      | inl lt ↦ rw (get_or-take n bytes i 0 lt) (h i)
      | inr le ↦ rw (get_or_past (take n bytes) i 0 (omega (arith, length-take n bytes))) (omega arith)
    ]

pub IsBytes-rest : (a b : List ℕ) → IsBytes (a ++ b) → IsBytes b
IsBytes-rest [] b h = h
IsBytes-rest (x ∷ a) b h = IsBytes-rest a b (λ i. h (suc i))

-- ---- tools

abbrev pub just : {A : Type 0} → A → Option A
just x = Some x

pub guard_some : {A : Type 0} (b : Bool) (x y : A) → cond b None (Some x) ≡ Some y → (b ≡ false) × (x ≡ y)
guard_some true x y e = absurd cc
guard_some false x y e = (refl, cc)

-- a number that stands for a thing stands for the one that it is decoded as
pub number_is : {A : Type 0} (number : A → ℕ) (n : ℕ) (k x : A) → n ≡ number k → just k ≡ just x → n ≡ number x
number_is number n k x i e = subst (λ y. n ≡ number y) (same-some k x e) i

-- ---- a field: its spelling, what its values meet in memory, which of them the format has room for, whose
-- counts of four bytes fit, and how it is read

-- what was read from the front of bytes
pub record Took {X : Type 0} (spell : X → List ℕ) (typed : X → Type 0) (fits : X → Bool) (counted : X → Type 0) (bytes : List ℕ) (x : X) (rest : List ℕ) : Type 0 where
  pub parts : bytes ≡ spell x ++ rest
  pub is_typed : typed x
  pub is_fit : fits x ≡ true
  pub is_counted : counted x

pub record IsField {X : Type 0} (spell : X → List ℕ) (typed : X → Type 0) (fits : X → Bool) (counted : X → Type 0) (read : List ℕ → DecodeResult X) : Type 0 where
  pub again : (x : X) (rest : List ℕ) → typed x → fits x ≡ true → counted x → read (spell x ++ rest) ≡ Some (x, rest)
  pub took : (bytes : List ℕ) (x : X) (rest : List ℕ) → IsBytes bytes → read bytes ≡ Some (x, rest) → Took spell typed fits counted bytes x rest
  -- in a short spelling the counts of four bytes fit
  pub short : (x : X) → length (spell x) < 2 ^ 32 → counted x

-- for fields that the format always has room for
abbrev pub always : {X : Type 0} → X → Bool
always x = true

pub list_all-always : {X : Type 0} (xs : List X) → list_all always xs ≡ true
list_all-always [] = refl
list_all-always (x ∷ xs) = list_all-always xs

-- for fields without counts of four bytes
abbrev pub Uncounted : {X : Type 0} → X → Type 0
Uncounted x = Unit {0}

pub all_uncounted : {X : Type 0} (xs : List X) → AllByRecursion Uncounted xs
all_uncounted [] = tt
all_uncounted (x ∷ xs) = (tt, all_uncounted xs)

-- the same values, said in other words
pub restate : {X : Type 0} (spell : X → List ℕ) (t u : X → Type 0) (f g : X → Bool) {c : X → Type 0} (read : List ℕ → DecodeResult X) → IsField spell t f c read
    → ((x : X) → u x → g x ≡ true → t x × (f x ≡ true)) → ((x : X) → t x → f x ≡ true → u x × (g x ≡ true)) → IsField spell u g c read
restate spell t u f g read field to from = record {
  again = λ x rest h k n. let both = to x h k in field.again x rest both.0 both.1 n;
  took = λ bytes x rest b e.
      let k = field.took bytes x rest b e in
      let both = from x k.is_typed k.is_fit in
      record { parts = k.parts; is_typed = both.0; is_fit = both.1; is_counted = k.is_counted };
  short = field.short;
}

-- the same counts, said in other words
pub recount : {X : Type 0} {spell : X → List ℕ} {t : X → Type 0} {f : X → Bool} {c : X → Type 0} {read : List ℕ → DecodeResult X} (d : X → Type 0) → IsField spell t f c read
    → ((x : X) → d x → c x) → ((x : X) → c x → d x) → IsField spell t f d read
recount d field to from = record {
  again = λ x rest h k n. field.again x rest h k (to x n);
  took = λ bytes x rest b e. let k = field.took bytes x rest b e in record { parts = k.parts; is_typed = k.is_typed; is_fit = k.is_fit; is_counted = from x k.is_counted };
  short = λ x len. from x (field.short x len);
}

-- the same spelling, said in other words
pub respell : {X : Type 0} (s z : X → List ℕ) (typed : X → Type 0) (fits : X → Bool) {counted : X → Type 0} (read : List ℕ → DecodeResult X) → IsField s typed fits counted read → ((x : X) → z x ≡ s x) → IsField z typed fits counted read
respell s z typed fits read field same = record {
  again = λ x rest t h n. ap (λ (l : List ℕ). read (l ++ rest)) (same x) ∙ field.again x rest t h n;
  took = λ bytes x rest b e. let k = field.took bytes x rest b e in record { parts = k.parts ∙ ap (λ (l : List ℕ). l ++ rest) (sym (same x)); is_typed = k.is_typed; is_fit = k.is_fit; is_counted = k.is_counted };
  short = λ x len. field.short x (subst (λ (l : List ℕ). length l < 2 ^ 32) (same x) len);
}

-- ---- one field after another

then_again : {A B : Type 0} {ca : A → Type 0} {cb : B → Type 0} (sa : A → List ℕ) (ta : A → Type 0) (fa : A → Bool) (ra : List ℕ → DecodeResult A) (sb : B → List ℕ) (tb : B → Type 0) (fb : A → B → Bool) (rb : A → List ℕ → DecodeResult B)
    → IsField sa ta fa ca ra → ((a : A) → IsField sb tb (fb a) cb (rb a)) → (x : A × B) (rest : List ℕ) → ta x.0 × tb x.1 → (fa x.0 && fb x.0 x.1) ≡ true → ca x.0 × cb x.1
    → then_at ra rb ((sa x.0 ++ sb x.1) ++ rest) ≡ Some (x, rest)
then_again sa ta fa ra sb tb fb rb one two x rest t f n =
    let both = and-parts (fa x.0) (fb x.0 x.1) f in
    let first : ra (sa x.0 ++ (sb x.1 ++ rest)) ≡ Some (x.0, sb x.1 ++ rest) = one.again x.0 (sb x.1 ++ rest) t.0 both.0 n.0 in
    let second : rb x.0 (sb x.1 ++ rest) ≡ Some (x.1, rest) = (two x.0).again x.1 rest t.1 both.1 n.1 in
    ap (then_at ra rb) (append_assoc (sa x.0) (sb x.1) rest) ∙ rw (first, second) refl

then_took : {A B : Type 0} {ca : A → Type 0} {cb : B → Type 0} (sa : A → List ℕ) (ta : A → Type 0) (fa : A → Bool) (ra : List ℕ → DecodeResult A) (sb : B → List ℕ) (tb : B → Type 0) (fb : A → B → Bool) (rb : A → List ℕ → DecodeResult B)
    → IsField sa ta fa ca ra → ((a : A) → IsField sb tb (fb a) cb (rb a)) → (bytes : List ℕ) (x : A × B) (rest : List ℕ) → IsBytes bytes → then_at ra rb bytes ≡ Some (x, rest)
    → Took (λ (p : A × B). sa p.0 ++ sb p.1) (λ (p : A × B). ta p.0 × tb p.1) (λ (p : A × B). fa p.0 && fb p.0 p.1) (λ (p : A × B). ca p.0 × cb p.1) bytes x rest
then_took {A = A} {B = B} {ca = ca} {cb = cb} sa ta fa ra sb tb fb rb one two bytes x rest h e =
    let first = bind-some (ra bytes) (λ a. rb a.0 a.1 >>= λ b. Some ((a.0, b.0), b.1)) (x, rest) e in
    let a = first.0 in
    let k = one.took bytes a.0 a.1 h first.1 in
    let second = bind-some (rb a.0 a.1) (λ b. Some ((a.0, b.0), b.1)) (x, rest) first.2 in
    let b = second.0 in
    let left : IsBytes a.1 = IsBytes-rest (sa a.0) a.1 (subst IsBytes k.parts h) in
    let l = (two a.0).took a.1 b.0 b.1 left second.1 in
    let whole : bytes ≡ (sa a.0 ++ sb b.0) ++ b.1 = k.parts ∙ ap (λ (z : List ℕ). sa a.0 ++ z) l.parts ∙ sym (append_assoc (sa a.0) (sb b.0) b.1) in
    subst (λ (y : (A × B) × List ℕ). Took (λ (p : A × B). sa p.0 ++ sb p.1) (λ (p : A × B). ta p.0 × tb p.1) (λ (p : A × B). fa p.0 && fb p.0 p.1) (λ (p : A × B). ca p.0 × cb p.1) bytes y.0 y.1) (same-some ((a.0, b.0), b.1) (x, rest) second.2)
    (record { parts = whole; is_typed = (k.is_typed, l.is_typed); is_fit = and-from (fa a.0) (fb a.0 b.0) k.is_fit l.is_fit; is_counted = (k.is_counted, l.is_counted) })

then_short : {A B : Type 0} {ca : A → Type 0} {cb : B → Type 0} (sa : A → List ℕ) (ta : A → Type 0) (fa : A → Bool) (ra : List ℕ → DecodeResult A) (sb : B → List ℕ) (tb : B → Type 0) (fb : A → B → Bool) (rb : A → List ℕ → DecodeResult B)
    → IsField sa ta fa ca ra → ((a : A) → IsField sb tb (fb a) cb (rb a)) → (x : A × B) → length (sa x.0 ++ sb x.1) < 2 ^ 32 → ca x.0 × cb x.1
then_short sa ta fa ra sb tb fb rb one two x len =
    let both = length-append (sa x.0) (sb x.1) in
    (one.short x.0 (omega (arith, both)), (two x.0).short x.1 (omega (arith, both)))

pub then_law : {A B : Type 0} {ca : A → Type 0} {cb : B → Type 0} (sa : A → List ℕ) (ta : A → Type 0) (fa : A → Bool) (ra : List ℕ → DecodeResult A) (sb : B → List ℕ) (tb : B → Type 0) (fb : A → B → Bool) (rb : A → List ℕ → DecodeResult B)
    → IsField sa ta fa ca ra → ((a : A) → IsField sb tb (fb a) cb (rb a)) → IsField (λ (p : A × B). sa p.0 ++ sb p.1) (λ (p : A × B). ta p.0 × tb p.1) (λ (p : A × B). fa p.0 && fb p.0 p.1) (λ (p : A × B). ca p.0 × cb p.1) (then_at ra rb)
then_law sa ta fa ra sb tb fb rb one two = record { again = then_again sa ta fa ra sb tb fb rb one two; took = then_took sa ta fa ra sb tb fb rb one two; short = then_short sa ta fa ra sb tb fb rb one two }

-- ---- what is made of a field

made_took : {A B : Type 0} {ca : A → Type 0} (sa : A → List ℕ) (ta : A → Type 0) (fa : A → Bool) (ra : List ℕ → DecodeResult A) (tb : B → Type 0) (fb : B → Bool) (make : A → Option B) (back : B → A)
    → IsField sa ta fa ca ra → ((a : A) (b : B) → ta a → fa a ≡ true → make a ≡ Some b → (a ≡ back b) × tb b × (fb b ≡ true))
    → (bytes : List ℕ) (x : B) (rest : List ℕ) → IsBytes bytes → made_at make ra bytes ≡ Some (x, rest) → Took (λ b. sa (back b)) tb fb (λ b. ca (back b)) bytes x rest
made_took {B = B} {ca = ca} sa ta fa ra tb fb make back one reverse bytes x rest h e =
    let first = bind-some (ra bytes) (λ a. make a.0 >>= λ b. Some (b, a.1)) (x, rest) e in
    let a = first.0 in
    let k = one.took bytes a.0 a.1 h first.1 in
    let second = bind-some (make a.0) (λ b. Some (b, a.1)) (x, rest) first.2 in
    let b = second.0 in
    let r = reverse a.0 b k.is_typed k.is_fit second.1 in
    subst (λ (y : B × List ℕ). Took (λ b. sa (back b)) tb fb (λ b. ca (back b)) bytes y.0 y.1) (same-some (b, a.1) (x, rest) second.2)
    (record { parts = k.parts ∙ ap (λ z. sa z ++ a.1) r.0; is_typed = r.1; is_fit = r.2; is_counted = subst ca r.0 k.is_counted })

pub made_law : {A B : Type 0} {ca : A → Type 0} (sa : A → List ℕ) (ta : A → Type 0) (fa : A → Bool) (ra : List ℕ → DecodeResult A) (tb : B → Type 0) (fb : B → Bool) (make : A → Option B) (back : B → A)
    → IsField sa ta fa ca ra
    → ((b : B) → tb b → fb b ≡ true → ta (back b) × (fa (back b) ≡ true) × (make (back b) ≡ Some b))
    → ((a : A) (b : B) → ta a → fa a ≡ true → make a ≡ Some b → (a ≡ back b) × tb b × (fb b ≡ true))
    → IsField (λ b. sa (back b)) tb fb (λ b. ca (back b)) (made_at make ra)
made_law sa ta fa ra tb fb make back one forth reverse = record {
  again = λ x rest t f n.
      let k = forth x t f in
      let first : ra (sa (back x) ++ rest) ≡ Some (back x, rest) = one.again (back x) rest k.0 k.1 n in
      let second : make (back x) ≡ Some x = k.2 in
      rw (first, second) refl;
  took = made_took sa ta fa ra tb fb make back one reverse;
  short = λ x len. one.short (back x) len;
}

-- a struct of parts
pub struct_law : {A B : Type 0} {ca : A → Type 0} (sa : A → List ℕ) (ta : A → Type 0) (fa : A → Bool) (ra : List ℕ → DecodeResult A) (make : A → B) (back : B → A)
    → IsField sa ta fa ca ra → ((b : B) → make (back b) ≡ b) → ((a : A) → back (make a) ≡ a)
    → IsField (λ b. sa (back b)) (λ b. ta (back b)) (λ b. fa (back b)) (λ b. ca (back b)) (made_at (λ a. Some (make a)) ra)
struct_law sa ta fa ra make back one there here = made_law sa ta fa ra (λ b. ta (back b)) (λ b. fa (back b)) (λ a. Some (make a)) back one
    (λ b t f. (t, f, ap just (there b)))
    (λ a b t f e.
    let is : make a ≡ b = same-some (make a) b e in
    let same : a ≡ back b = sym (here a) ∙ ap back is in
    (same, subst ta same t, ap fa (sym same) ∙ f))
