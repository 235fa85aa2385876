-- A tag of one byte and the bytes after it.
use Rattle.std.proofs.Common.{◌≡◌, ℕ, ◌^◌, ◌<◌, Bool, true, List, [], ◌++◌, length, Some, refl, sym, ap, subst, ◌∙◌, append_assoc, arith}
use Rattle.std.specs.Int.{w8, to_be_bytes}
use Rattle.std.proofs.lemmas.List.{length-append}
use Rattle.ldv_value.proofs.Options.{bind-some, same-some}
use Rattle.package_codec.specs.Fields.{DecodeResult, ◌>>=◌, made_at, tagged_at, number_at}
use Rattle.package_codec.proofs.Laws.{IsBytes, IsBytes-rest, just, Took, IsField, respell}
use Rattle.package_codec.proofs.Numbers.{number_law, wide8}

pub record TookTagged {X : Type 0} (tag : X → ℕ) (body : X → List ℕ) (typed : X → Type 0) (fits : X → Bool) (counted : X → Type 0) (t : ℕ) (bytes : List ℕ) (x : X) (rest : List ℕ) : Type 0 where
  pub tag_is : tag x ≡ t
  pub took : Took body typed fits counted bytes x rest

pub record IsTagged {X : Type 0} (tag : X → ℕ) (body : X → List ℕ) (typed : X → Type 0) (fits : X → Bool) (counted : X → Type 0) (read : ℕ → List ℕ → DecodeResult X) : Type 0 where
  pub small : (x : X) → tag x < 256
  pub again : (x : X) (rest : List ℕ) → typed x → fits x ≡ true → counted x → read (tag x) (body x ++ rest) ≡ Some (x, rest)
  pub took : (t : ℕ) (bytes : List ℕ) (x : X) (rest : List ℕ) → IsBytes bytes → read t bytes ≡ Some (x, rest) → TookTagged tag body typed fits counted t bytes x rest
  pub short : (x : X) → length (body x) < 2 ^ 32 → counted x

plain_law : {X : Type 0} (tag : X → ℕ) (body : X → List ℕ) (typed : X → Type 0) (fits : X → Bool) {counted : X → Type 0} (read : ℕ → List ℕ → DecodeResult X) → IsTagged tag body typed fits counted read → IsField (λ x. to_be_bytes w8 (tag x) ++ body x) typed fits counted (tagged_at read)
plain_law tag body typed fits read law = record {
  again = λ x rest t f n.
      let first : number_at w8 (to_be_bytes w8 (tag x) ++ (body x ++ rest)) ≡ Some (tag x, body x ++ rest) = (number_law w8 256 wide8).again (tag x) (body x ++ rest) (law.small x) refl tt in
      ap (tagged_at read) (append_assoc (to_be_bytes w8 (tag x)) (body x) rest) ∙ rw (first, law.again x rest t f n) refl;
  took = λ bytes x rest h e.
      let first = bind-some (number_at w8 bytes) (λ t. read t.0 t.1) (x, rest) e in
      let t = first.0 in
      let k = (number_law w8 256 wide8).took bytes t.0 t.1 h first.1 in
      let l = law.took t.0 t.1 x rest (IsBytes-rest (to_be_bytes w8 t.0) t.1 (subst IsBytes k.parts h)) first.2 in
      let whole : bytes ≡ (to_be_bytes w8 t.0 ++ body x) ++ rest = k.parts ∙ ap (λ (z : List ℕ). to_be_bytes w8 t.0 ++ z) l.took.parts ∙ sym (append_assoc (to_be_bytes w8 t.0) (body x) rest) in
      record { parts = subst (λ (m : ℕ). bytes ≡ (to_be_bytes w8 m ++ body x) ++ rest) (sym l.tag_is) whole; is_typed = l.took.is_typed; is_fit = l.took.is_fit; is_counted = l.took.is_counted };
  short = λ x len. law.short x (omega (arith, len, length-append (to_be_bytes w8 (tag x)) (body x)));
}

pub tagged_law : {X : Type 0} (spell : X → List ℕ) (tag : X → ℕ) (body : X → List ℕ) (typed : X → Type 0) (fits : X → Bool) (counted : X → Type 0) (read : ℕ → List ℕ → DecodeResult X) → IsTagged tag body typed fits counted read → ((x : X) → spell x ≡ to_be_bytes w8 (tag x) ++ body x) → IsField spell typed fits counted (tagged_at read)
tagged_law spell tag body typed fits counted read law same = respell (λ x. to_be_bytes w8 (tag x) ++ body x) spell typed fits (tagged_at read) (plain_law tag body typed fits read law) same

-- a variant without fields
pub bare_took : {X : Type 0} (tag : X → ℕ) (body : X → List ℕ) (typed : X → Type 0) (fits : X → Bool) (counted : X → Type 0) (t : ℕ) (bytes : List ℕ) (y x : X) (rest : List ℕ) → tag y ≡ t → body y ≡ [] → typed y → fits y ≡ true → counted y → just {A = X × List ℕ} (y, bytes) ≡ just {A = X × List ℕ} (x, rest) → TookTagged tag body typed fits counted t bytes x rest
bare_took {X = X} tag body typed fits counted t bytes y x rest i b h f n e =
    subst (λ (z : X × List ℕ). TookTagged tag body typed fits counted t bytes z.0 z.1) (same-some (y, bytes) (x, rest) e)
    (record { tag_is = i; took = record { parts = rw b refl; is_typed = h; is_fit = f; is_counted = n } })

-- a variant with one field
pub case_took : {A X : Type 0} {ca : A → Type 0} (sa : A → List ℕ) (ta : A → Type 0) (fa : A → Bool) (ra : List ℕ → DecodeResult A) (make : A → X) (tag : X → ℕ) (body : X → List ℕ) (typed : X → Type 0) (fits : X → Bool) (counted : X → Type 0) (t : ℕ) (bytes : List ℕ) (x : X) (rest : List ℕ)
    → IsField sa ta fa ca ra → IsBytes bytes → made_at (λ a. Some (make a)) ra bytes ≡ Some (x, rest)
    → ((a : A) → tag (make a) ≡ t) → ((a : A) → body (make a) ≡ sa a) → ((a : A) → ta a → typed (make a)) → ((a : A) → fa a ≡ true → fits (make a) ≡ true) → ((a : A) → ca a → counted (make a))
    → TookTagged tag body typed fits counted t bytes x rest
case_took {A = A} {X = X} sa ta fa ra make tag body typed fits counted t bytes x rest one h e i b y f n =
    let first = bind-some (ra bytes) (λ a. just (make a.0) >>= λ z. Some (z, a.1)) (x, rest) e in
    let a = first.0 in
    let k = one.took bytes a.0 a.1 h first.1 in
    subst (λ (z : X × List ℕ). TookTagged tag body typed fits counted t bytes z.0 z.1) (same-some (make a.0, a.1) (x, rest) first.2)
    (record { tag_is = i a.0; took = record { parts = k.parts ∙ ap (λ (z : List ℕ). z ++ a.1) (sym (b a.0)); is_typed = y a.0 k.is_typed; is_fit = f a.0 k.is_fit; is_counted = n a.0 k.is_counted } })

-- the same, read again
pub case_again : {A X : Type 0} {ca : A → Type 0} (sa : A → List ℕ) (ta : A → Type 0) (fa : A → Bool) (ra : List ℕ → DecodeResult A) (make : A → X) (a : A) (rest : List ℕ) → IsField sa ta fa ca ra → ta a → fa a ≡ true → ca a → made_at (λ z. Some (make z)) ra (sa a ++ rest) ≡ Some (make a, rest)
case_again sa ta fa ra make a rest one t f n = rw (one.again a rest t f n) refl
