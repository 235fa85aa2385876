-- Lemmas on tests that are combined. Each is named after its left side, or after the test that it splits.
use Rattle.std.proofs.Common.{◌≡◌, ◌∙◌, sym, refl, Bool, true, false, ◌&&◌, ◌||◌, T, IsTrue}
pub use Rattle.std.proofs.lemmas.Bool.{and_parts as and-parts, and_from as and-from, and_cases as and-cases, or_cases as or-cases, or_parts as or-parts, or_from as or-from, or_left as or-left, or_right as or-right, not-true, not-false, false≢true, true≢false, false_from_ne_true as not-so}

pub and-first : (a b : Bool) → (a && b) ≡ true → a ≡ true
and-first a b h = (and-parts a b h).0

pub and-second : (a b : Bool) → (a && b) ≡ true → b ≡ true
and-second a b h = (and-parts a b h).1

pub and-true : (b : Bool) → (b && true) ≡ b
and-true true = refl
and-true false = refl

pub and-false : (b : Bool) → (b && false) ≡ false
and-false true = refl
and-false false = refl

pub and-assoc : (a b c : Bool) → ((a && b) && c) ≡ (a && (b && c))
and-assoc true b c = refl
and-assoc false b c = refl

pub or-true : (b : Bool) → (b || true) ≡ true
or-true true = refl
or-true false = refl

pub or-false : (b : Bool) → (b || false) ≡ b
or-false true = refl
or-false false = refl

pub or-comm : (a b : Bool) → (a || b) ≡ (b || a)
or-comm true true = refl
or-comm true false = refl
or-comm false true = refl
or-comm false false = refl

pub or-assoc : (a b c : Bool) → ((a || b) || c) ≡ (a || (b || c))
or-assoc true b c = refl
or-assoc false b c = refl

-- tests of which each holds where the other does
pub same-tests : (a b : Bool) → (a ≡ true → b ≡ true) → (b ≡ true → a ≡ true) → a ≡ b
same-tests true b there back = sym (there refl)
same-tests false true there back = back refl
same-tests false false there back = refl

pub false-not : (b : Bool) → b ≡ false → ¬ IsTrue b
false-not b h is = false≢true (sym h ∙ is)

-- the same over `T`, as std's sorted lists of entries have it

pub t-first : (a b : Bool) → T (a && b) → T a
t-first true b h = tt
t-first false b h = h

pub t-second : (a b : Bool) → T (a && b) → T b
t-second true b h = h
t-second false b h = absurd h

pub t-both : (a b : Bool) → T a → T b → T (a && b)
t-both true b h g = g
t-both false b h g = h

-- to `T` and back
pub t-from : (b : Bool) → b ≡ true → T b
t-from true h = tt
t-from false h = absurd (false≢true h)

pub t-to : (b : Bool) → T b → b ≡ true
t-to true h = refl
t-to false h = absurd h
