-- Numbers, texts and lists: what is spelled is read, and what is read was spelled so.
use Rattle.std.proofs.Common.{◌≡◌, ℕ, ℤ, zero, suc, ◌%◌, ◌^◌, ◌<◌, ◌≤◌, Bool, true, false, cond, ltb, List, [], ◌∷◌, ◌++◌, length, take, drop, Some, None, refl, sym, ap, subst, ◌∙◌, append_assoc, arith, rules, ◌&&◌}
use Rattle.std.specs.Prelude.{nat_lt, ◌==◌}
use Rattle.std.specs.List.{flat_map, list_all, AllByRecursion}
use Rattle.std.specs.Str.{IsUtf8, is_utf8}
use Rattle.std.specs.Int.{Width, w8, w16, w32, w64, byte_len, to_be_bytes, from_be_bytes, cast_signed, cast_unsigned}
use Rattle.std.specs.Int.RustNames.{FitsSigned}
use Rattle.std.proofs.lemmas.Int.{to_z-of_z, of_z-to_z, ints}
use Rattle.std.proofs.lemmas.Str.{IsUtf8-from_is_utf8, is_utf8-from_IsUtf8}
use Rattle.std.proofs.lemmas.Bool.{ltb-false, le-ltb, ltb-true, eqb-true, eq-eqb, lt-ltb}
use Rattle.std.proofs.lemmas.List.{take_at, drop_at, take-append-drop, length-append, length-take}
use Rattle.std.proofs.lemmas.Nat.{be_bytes_2, be_bytes_4, be_bytes_8, from_be_bytes-to_be_bytes_2, from_be_bytes-to_be_bytes_4, from_be_bytes-to_be_bytes_8}
use Rattle.ldv_value.proofs.Booleans.{and-parts, and-from}
use Rattle.ldv_value.proofs.Options.{bind-some, same-some}
use Rattle.ldv_value.specs.Texts.{text_of}
use Rattle.package_codec.specs.Fields.{DecodeResult, ◌>>=◌, bytes_at, number_at, signed_at, items_at, list_at, list_spelling, text_spelling, sized_at, text_at}
use Rattle.package_codec.specs.Counts.{IsCountable, CountedList}
use Rattle.package_codec.proofs.Laws.{IsBytes, IsBytes-take, IsBytes-rest, just, guard_some, Took, IsField, always, Uncounted, recount, made_law}

-- ---- numbers

pub record IsWide (w : Width) (limit : ℕ) : Type 0 where
  pub len : (n : ℕ) → length (to_be_bytes w n) ≡ byte_len w
  pub back : (bytes : List ℕ) → length bytes ≡ byte_len w → IsBytes bytes → to_be_bytes w (from_be_bytes w bytes) ≡ bytes
  pub again : (n : ℕ) → n < limit → from_be_bytes w (to_be_bytes w n) ≡ n
  pub below : (bytes : List ℕ) → IsBytes bytes → from_be_bytes w bytes < limit

one_byte : (bytes : List ℕ) → length bytes ≡ 1 → IsBytes bytes → to_be_bytes w8 (from_be_bytes w8 bytes) ≡ bytes
one_byte [] e h = absurd (omega (arith, e))
one_byte (b ∷ []) e h = let small : b < 256 = h 0 in let same : b % 256 ≡ b = omega arith in ap (λ (n : ℕ). n ∷ []) same
one_byte (b ∷ c ∷ bytes) e h = absurd (omega (arith, e))

pub wide8 : IsWide w8 256
wide8 = record {
  len = λ n. refl;
  back = one_byte;
  again = λ n lt. omega arith;
  below = λ bytes fits. omega (arith, fits 0);
}

pub wide16 : IsWide w16 (2 ^ 16)
wide16 = record {
  len = λ n. refl;
  back = λ bytes len fits. be_bytes_2 bytes _ len fits refl;
  again = λ n lt. from_be_bytes-to_be_bytes_2 n lt;
  below = λ bytes fits. omega (arith, fits 0, fits 1);
}

pub wide32 : IsWide w32 (2 ^ 32)
wide32 = record {
  len = λ n. refl;
  back = λ bytes len fits. be_bytes_4 bytes _ len fits refl;
  again = λ n lt. from_be_bytes-to_be_bytes_4 n lt;
  below = λ bytes fits. omega (arith, fits 0, fits 1, fits 2, fits 3);
}

pub wide64 : IsWide w64 (2 ^ 64)
wide64 = record {
  len = λ n. refl;
  back = λ bytes len fits. be_bytes_8 bytes _ len fits refl;
  again = λ n lt. from_be_bytes-to_be_bytes_8 n lt;
  below = λ bytes fits. omega (arith, fits 0, fits 1, fits 2, fits 3, fits 4, fits 5, fits 6, fits 7);
}

pub bytes_again : (front rest : List ℕ) (n : ℕ) → length front ≡ n → bytes_at n (front ++ rest) ≡ Some (front, rest)
bytes_again front rest n len =
    let long : ltb (length (front ++ rest)) n ≡ false = le-ltb _ _ (omega (arith, length-append front rest)) in
    rw (long, take_at front rest n len, drop_at front rest n len) refl

pub bytes_took : (n : ℕ) (bytes : List ℕ) (x : List ℕ × List ℕ) → bytes_at n bytes ≡ Some x → (bytes ≡ x.0 ++ x.1) × (length x.0 ≡ n) × (x.0 ≡ take n bytes)
bytes_took n bytes x e =
    let g = guard_some (ltb (length bytes) n) (take n bytes, drop n bytes) x e in
    let long : n ≤ length bytes = ltb-false _ _ g.0 in
    subst (λ (y : List ℕ × List ℕ). (bytes ≡ y.0 ++ y.1) × (length y.0 ≡ n) × (y.0 ≡ take n bytes)) g.1
    (sym (take-append-drop n bytes), omega (arith, length-take n bytes), refl)

number_took : (w : Width) (limit : ℕ) → IsWide w limit → (bytes : List ℕ) (n : ℕ) (rest : List ℕ) → IsBytes bytes → number_at w bytes ≡ Some (n, rest) → Took (to_be_bytes w) (λ k. k < limit) always Uncounted bytes n rest
number_took w limit wide bytes n rest h e =
    let first = bind-some (bytes_at (byte_len w) bytes) (λ f. Some (from_be_bytes w f.0, f.1)) (n, rest) e in
    let f = first.0 in
    let t = bytes_took (byte_len w) bytes f first.1 in
    let clean : IsBytes f.0 = rw t.2 (IsBytes-take (byte_len w) bytes h) in
    subst (λ (y : ℕ × List ℕ). Took (to_be_bytes w) (λ k. k < limit) always Uncounted bytes y.0 y.1) (same-some (from_be_bytes w f.0, f.1) (n, rest) first.2)
    (record { parts = t.0 ∙ ap (λ (z : List ℕ). z ++ f.1) (sym (wide.back f.0 t.1 clean)); is_typed = wide.below f.0 clean; is_fit = refl; is_counted = tt })

pub number_law : (w : Width) (limit : ℕ) → IsWide w limit → IsField (to_be_bytes w) (λ n. n < limit) always Uncounted (number_at w)
number_law w limit wide = record {
  again = λ n rest lt f _.
      let first : bytes_at (byte_len w) (to_be_bytes w n ++ rest) ≡ Some (to_be_bytes w n, rest) = bytes_again (to_be_bytes w n) rest (byte_len w) (wide.len n) in
      rw (first, wide.again n lt) refl;
  took = number_took w limit wide;
  short = λ n len. tt;
}

unsigned_small : (z : ℤ) → FitsSigned w64 z → cast_unsigned w64 z < 2 ^ 64
unsigned_small z t = omega (arith, ints)

signed_back : (n : ℕ) → n < 2 ^ 64 → (n ≡ cast_unsigned w64 (cast_signed w64 n)) × FitsSigned w64 (cast_signed w64 n)
signed_back n lt = (sym (of_z-to_z w64 n lt), search rules)

pub signed_law : IsField (λ z. to_be_bytes w64 (cast_unsigned w64 z)) (FitsSigned w64) always Uncounted signed_at
signed_law = made_law (to_be_bytes w64) (λ n. n < 2 ^ 64) always (number_at w64) (FitsSigned w64) always (λ n. Some (cast_signed w64 n)) (cast_unsigned w64) (number_law w64 (2 ^ 64) wide64)
    (λ z t f. (unsigned_small z t, refl, ap just (to_z-of_z w64 z t)))
    (λ n z t f e. subst (λ y. (n ≡ cast_unsigned w64 y) × FitsSigned w64 y × (true ≡ true)) (same-some (cast_signed w64 n) z e) (let k = signed_back n t in (k.0, k.1, refl)))

-- ---- texts

abbrev sized_by : ℕ × List ℕ → DecodeResult (List ℕ)
sized_by count = bytes_at count.0 count.1

-- after the number
pub sized_is : (bytes : List ℕ) (count : ℕ) (rest : List ℕ) → number_at w32 bytes ≡ Some (count, rest) → sized_at bytes ≡ bytes_at count rest
sized_is bytes count rest is = ap (λ (found : DecodeResult ℕ). found >>= sized_by) is

sized_took : (bytes x rest : List ℕ) → IsBytes bytes → sized_at bytes ≡ Some (x, rest) → Took text_spelling (λ _. Unit {0}) always IsCountable bytes x rest
sized_took bytes x rest h e =
    let first = bind-some (number_at w32 bytes) (λ n. bytes_at n.0 n.1) (x, rest) e in
    let n = first.0 in
    let k = (number_law w32 (2 ^ 32) wide32).took bytes n.0 n.1 h first.1 in
    let t = bytes_took n.0 n.1 (x, rest) first.2 in
    let whole : bytes ≡ (to_be_bytes w32 n.0 ++ x) ++ rest = k.parts ∙ ap (λ (z : List ℕ). to_be_bytes w32 n.0 ++ z) t.0 ∙ sym (append_assoc (to_be_bytes w32 n.0) x rest) in
    record { parts = subst (λ (m : ℕ). bytes ≡ (to_be_bytes w32 m ++ x) ++ rest) (sym t.1) whole; is_typed = tt; is_fit = refl; is_counted = subst (λ (m : ℕ). m < 2 ^ 32) (sym t.1) k.is_typed }

pub sized_law : IsField text_spelling (λ _. Unit {0}) always IsCountable sized_at
sized_law = record {
  again = λ x rest t f small.
      let first : number_at w32 (to_be_bytes w32 (length x) ++ (x ++ rest)) ≡ Some (length x, x ++ rest) = (number_law w32 (2 ^ 32) wide32).again (length x) (x ++ rest) small refl tt in
      ap sized_at (append_assoc (to_be_bytes w32 (length x)) x rest) ∙ rw (first, bytes_again x rest (length x) refl) refl;
  took = sized_took;
  short = λ x len. omega (arith, len, length-append (to_be_bytes w32 (length x)) x);
}

text_from : (b : Bool) (a x : List ℕ) → is_utf8 a ≡ b → cond b (Some a) None ≡ Some x → (a ≡ x) × IsUtf8 x
text_from true a x u e = let is : a ≡ x = same-some a x e in (is, subst IsUtf8 is (IsUtf8-from_is_utf8 a u))
text_from false a x u e = absurd cc

pub text_law : IsField text_spelling IsUtf8 always IsCountable text_at
text_law = made_law text_spelling (λ _. Unit {0}) always sized_at IsUtf8 always text_of (λ t. t) sized_law
    (λ t u f. (tt, refl, rw (is_utf8-from_IsUtf8 t u) refl))
    (λ a x t f e. let k = text_from (is_utf8 a) a x refl e in (k.0, k.1, refl))

-- ---- lists

items_again : {X : Type 0} (s : X → List ℕ) (t : X → Type 0) (f : X → Bool) (c : X → Type 0) (r : List ℕ → DecodeResult X) → IsField s t f c r → (xs : List X) (rest : List ℕ) → AllByRecursion t xs → list_all f xs ≡ true → AllByRecursion c xs
    → items_at r (length xs) (flat_map s xs ++ rest) ≡ Some (xs, rest)
items_again s t f c r one [] rest h k n = refl
items_again s t f c r one (x ∷ xs) rest h k n =
    let both = and-parts (f x) (list_all f xs) k in
    let first : r (s x ++ (flat_map s xs ++ rest)) ≡ Some (x, flat_map s xs ++ rest) = one.again x (flat_map s xs ++ rest) h.0 both.0 n.0 in
    let more : items_at r (length xs) (flat_map s xs ++ rest) ≡ Some (xs, rest) = items_again s t f c r one xs rest h.1 both.1 n.1 in
    ap (items_at r (suc (length xs))) (append_assoc (s x) (flat_map s xs) rest) ∙ rw (first, more) refl

items_short : {X : Type 0} (s : X → List ℕ) (t : X → Type 0) (f : X → Bool) (c : X → Type 0) (r : List ℕ → DecodeResult X) → IsField s t f c r → (xs : List X) → length (flat_map s xs) < 2 ^ 32 → AllByRecursion c xs
items_short s t f c r one [] len = tt
items_short s t f c r one (x ∷ xs) len =
    let both = length-append (s x) (flat_map s xs) in
    (one.short x (omega (arith, both)), items_short s t f c r one xs (omega (arith, both)))

-- so many items
pub record TookItems {X : Type 0} (s : X → List ℕ) (t : X → Type 0) (f : X → Bool) (c : X → Type 0) (n : ℕ) (bytes : List ℕ) (xs : List X) (rest : List ℕ) : Type 0 where
  pub parts : bytes ≡ flat_map s xs ++ rest
  pub is_typed : AllByRecursion t xs
  pub is_fit : list_all f xs ≡ true
  pub is_counted : AllByRecursion c xs
  pub count : length xs ≡ n

pub items_took : {X : Type 0} (s : X → List ℕ) (t : X → Type 0) (f : X → Bool) (c : X → Type 0) (r : List ℕ → DecodeResult X) → IsField s t f c r → (n : ℕ) (bytes : List ℕ) (xs : List X) (rest : List ℕ) → IsBytes bytes → items_at r n bytes ≡ Some (xs, rest) → TookItems s t f c n bytes xs rest
items_took {X = X} s t f c r one zero bytes xs rest h e =
    subst (λ (y : List X × List ℕ). TookItems s t f c zero bytes y.0 y.1) (same-some ([], bytes) (xs, rest) e) (record { parts = refl; is_typed = tt; is_fit = refl; is_counted = tt; count = refl })
items_took {X = X} s t f c r one (suc n) bytes xs rest h e =
    let first = bind-some (r bytes) (λ x. items_at r n x.1 >>= λ y. Some (x.0 ∷ y.0, y.1)) (xs, rest) e in
    let x = first.0 in
    let k = one.took bytes x.0 x.1 h first.1 in
    let second = bind-some (items_at r n x.1) (λ y. Some (x.0 ∷ y.0, y.1)) (xs, rest) first.2 in
    let y = second.0 in
    let l = items_took s t f c r one n x.1 y.0 y.1 (IsBytes-rest (s x.0) x.1 (subst IsBytes k.parts h)) second.1 in
    let whole : bytes ≡ (s x.0 ++ flat_map s y.0) ++ y.1 = k.parts ∙ ap (λ (z : List ℕ). s x.0 ++ z) l.parts ∙ sym (append_assoc (s x.0) (flat_map s y.0) y.1) in
    subst (λ (z : List X × List ℕ). TookItems s t f c (suc n) bytes z.0 z.1) (same-some (x.0 ∷ y.0, y.1) (xs, rest) second.2)
    (record { parts = whole; is_typed = (k.is_typed, l.is_typed); is_fit = and-from (f x.0) (list_all f y.0) k.is_fit l.is_fit; is_counted = (k.is_counted, l.is_counted); count = ap suc l.count })

pub items_law : {X : Type 0} (s : X → List ℕ) (t : X → Type 0) (f : X → Bool) {c : X → Type 0} (r : List ℕ → DecodeResult X) → IsField s t f c r → (n : ℕ)
    → IsField (flat_map s) (AllByRecursion t) (λ xs. (length xs == n) && list_all f xs) (AllByRecursion c) (items_at r n)
items_law s t f {c = c} r one n = record {
  again = λ xs rest h k m.
      let both = and-parts (length xs == n) (list_all f xs) k in
      subst (λ (m : ℕ). items_at r m (flat_map s xs ++ rest) ≡ Some (xs, rest)) (eqb-true _ _ both.0) (items_again s t f c r one xs rest h both.1 m);
  took = λ bytes xs rest h e.
      let k = items_took s t f c r one n bytes xs rest h e in
      record { parts = k.parts; is_typed = k.is_typed; is_fit = and-from (length xs == n) (list_all f xs) (eq-eqb _ _ k.count) k.is_fit; is_counted = k.is_counted };
  short = items_short s t f c r one;
}

-- a list with its count: room and many say together that the count fits its field
list_law : {X : Type 0} (w : Width) (limit : ℕ) → IsWide w limit → (s : X → List ℕ) (t : X → Type 0) (f : X → Bool) (c : X → Type 0) (r : List ℕ → DecodeResult X) → IsField s t f c r → (room : List X → Bool) (many : List X → Type 0)
    → ((xs : List X) → room xs ≡ true → many xs → length xs < limit) → ((xs : List X) → length xs < limit → (room xs ≡ true) × many xs) → ((xs : List X) → length (flat_map s xs) < 2 ^ 32 → many xs)
    → IsField (list_spelling w s) (AllByRecursion t) (λ xs. room xs && list_all f xs) (λ xs. many xs × AllByRecursion c xs) (list_at w r)
list_law {X = X} w limit wide s t f c r one room many small roomy brief = record {
  again = λ xs rest h k n.
      let both = and-parts (room xs) (list_all f xs) k in
      let lt : length xs < limit = small xs both.0 n.0 in
      let first : number_at w (to_be_bytes w (length xs) ++ (flat_map s xs ++ rest)) ≡ Some (length xs, flat_map s xs ++ rest) = (number_law w limit wide).again (length xs) (flat_map s xs ++ rest) lt refl tt in
      ap (list_at w r) (append_assoc (to_be_bytes w (length xs)) (flat_map s xs) rest) ∙ rw (first, items_again s t f c r one xs rest h both.1 n.1) refl;
  took = λ bytes xs rest h e.
      let first = bind-some (number_at w bytes) (λ n. items_at r n.0 n.1) (xs, rest) e in
      let n = first.0 in
      let k = (number_law w limit wide).took bytes n.0 n.1 h first.1 in
      let l = items_took s t f c r one n.0 n.1 xs rest (IsBytes-rest (to_be_bytes w n.0) n.1 (subst IsBytes k.parts h)) first.2 in
      let whole : bytes ≡ (to_be_bytes w n.0 ++ flat_map s xs) ++ rest = k.parts ∙ ap (λ (z : List ℕ). to_be_bytes w n.0 ++ z) l.parts ∙ sym (append_assoc (to_be_bytes w n.0) (flat_map s xs) rest) in
      let fit = roomy xs (subst (λ (m : ℕ). m < limit) (sym l.count) k.is_typed) in
      record {
        parts = subst (λ (m : ℕ). bytes ≡ (to_be_bytes w m ++ flat_map s xs) ++ rest) (sym l.count) whole;
        is_typed = l.is_typed;
        is_fit = and-from (room xs) (list_all f xs) fit.0 l.is_fit;
        is_counted = (fit.1, l.is_counted);
      };
  short = λ xs len. let less : length (flat_map s xs) < 2 ^ 32 = omega (arith, length-append (to_be_bytes w (length xs)) (flat_map s xs)) in (brief xs less, items_short s t f c r one xs less);
}

-- each item has a byte at least, so that a list whose spelling is short has few items
few_items : {X : Type 0} (s : X → List ℕ) → ((x : X) → 0 < length (s x)) → (xs : List X) → length xs ≤ length (flat_map s xs)
few_items s filled [] = omega arith
few_items s filled (x ∷ xs) = omega (arith, filled x, few_items s filled xs, length-append (s x) (flat_map s xs))

pub long_law : {X : Type 0} (s : X → List ℕ) (t : X → Type 0) (f : X → Bool) {c : X → Type 0} (r : List ℕ → DecodeResult X) → IsField s t f c r → ((x : X) → 0 < length (s x))
    → IsField (list_spelling w32 s) (AllByRecursion t) (λ xs. list_all f xs) (CountedList c) (list_at w32 r)
long_law s t f {c = c} r one filled = list_law w32 (2 ^ 32) wide32 s t f c r one always IsCountable
    (λ xs k n. n) (λ xs lt. (refl, lt)) (λ xs len. omega (arith, len, few_items s filled xs))

pub byte_list_law : {X : Type 0} (s : X → List ℕ) (t : X → Type 0) (f : X → Bool) {c : X → Type 0} (r : List ℕ → DecodeResult X) → IsField s t f c r
    → IsField (list_spelling w8 s) (AllByRecursion t) (λ xs. nat_lt (length xs) 256 && list_all f xs) (AllByRecursion c) (list_at w8 r)
byte_list_law s t f {c = c} r one = recount (AllByRecursion c) (list_law w8 256 wide8 s t f c r one (λ xs. nat_lt (length xs) 256) Uncounted (λ xs k n. ltb-true _ _ k) (λ xs lt. (lt-ltb _ _ lt, tt)) (λ xs len. tt))
    (λ xs n. (tt, n)) (λ xs n. n.1)

pub short_list_law : {X : Type 0} (s : X → List ℕ) (t : X → Type 0) (f : X → Bool) {c : X → Type 0} (r : List ℕ → DecodeResult X) → IsField s t f c r
    → IsField (list_spelling w16 s) (AllByRecursion t) (λ xs. nat_lt (length xs) (2 ^ 16) && list_all f xs) (AllByRecursion c) (list_at w16 r)
short_list_law s t f {c = c} r one = recount (AllByRecursion c) (list_law w16 (2 ^ 16) wide16 s t f c r one (λ xs. nat_lt (length xs) (2 ^ 16)) Uncounted (λ xs k n. ltb-true _ _ k) (λ xs lt. (lt-ltb _ _ lt, tt)) (λ xs len. tt))
    (λ xs n. (tt, n)) (λ xs n. n.1)
