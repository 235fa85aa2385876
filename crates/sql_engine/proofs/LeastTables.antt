-- Named tables with all their ancestors are the least set that has the named tables and, with each table, its
-- parents.
use Rattle.std.proofs.Common.{◌≡◌, ◌∙◌, sym, ap, refl, ℕ, zero, suc, List, [], ◌∷◌, Bool, true, inl, inr, append-nil}
use Rattle.std.specs.Prelude.{map, filter, not}
use Rattle.std.specs.List.{list_any}
use Rattle.std.proofs.lemmas.Bool.{cases_Bool}
use Rattle.ldv_value.proofs.Booleans.{or-cases}
use Rattle.ldv_value.proofs.Lists.{list_any-append}
use Rattle.ldv_value.proofs.SameBytes.{bytes_eq-true}
use Rattle.sql_laws.proofs.ParentTables.{Among, Refers, taken, left}
use Rattle.sql_model.specs.ForeignKeys.{NamedSchema, name_of, is_among, parent_names, close}
use Rattle.sql_model.specs.Scope.{same_text}
use Rattle.sql_model.specs.declared.table.Foreign.{Foreign}

-- what is among those that pass a test is among all, and passes it
filtered : (p : NamedSchema → Bool) (t : NamedSchema) (us : List NamedSchema) → Among t (filter p us) → Among t us × (p t ≡ true)
filtered p t [] here = absurd here
filtered p t (u ∷ us) here = elim (cases_Bool (p u)) [
  | inl hit ↦ first hit (rw hit at here) (λ more. filtered p t us more)
  | inr miss ↦ let rest = filtered p t us (rw miss at here) in (inr rest.0, rest.1)
]
  where
    first : p u ≡ true → Among t (u ∷ filter p us) → (Among t (filter p us) → Among t us × (p t ≡ true))
        → Among t (u ∷ us) × (p t ≡ true)
    first hit (inl same) again = (inl same, ap p same ∙ hit)
    first hit (inr more) again = let rest = again more in (inr rest.0, rest.1)

-- a table among some has a name that is among theirs
pub record HasName (name : List ℕ) (us : List NamedSchema) : Type 0 where
  pub table : NamedSchema
  pub among : Among table us
  pub same : name ≡ table.0

has_name : (name : List ℕ) (us : List NamedSchema) → list_any (same_text name) (map name_of us) ≡ true → HasName name us
has_name name [] is = cc
has_name name (u ∷ us) is = elim (or-cases (same_text name u.0) (list_any (same_text name) (map name_of us)) is) [
  | inl here ↦ record { table = u; among = inl refl; same = bytes_eq-true name u.0 here }
  | inr more ↦ let rest = has_name name us more in record { table = rest.table; among = inr rest.among; same = rest.same }
]

-- a table that some refer to
record HasChild (parent : NamedSchema) (us : List NamedSchema) : Type 0 where
  child : NamedSchema
  among : Among child us
  refers : Refers child parent

has_child : (parent : NamedSchema) (us : List NamedSchema) → is_among (parent_names us) parent ≡ true → HasChild parent us
has_child parent [] is = cc
has_child parent (u ∷ us) is =
    let own : List (List ℕ) = map (λ (f : Foreign). f.parent) u.1.foreign in
    elim (or-cases (list_any (same_text parent.0) own) (is_among (parent_names us) parent)
    (sym (list_any-append (same_text parent.0) own (parent_names us)) ∙ is)) [
      | inl here ↦ record { child = u; among = inl refl; refers = ap (list_any (same_text parent.0)) (append-nil own) ∙ here }
      | inr more ↦ let rest = has_child parent us more in record { child = rest.child; among = inr rest.among; refers = rest.refers }
    ]

module _ (test : List ℕ → Bool) (all : List NamedSchema)
    (closed : (t u : NamedSchema) → Among t all → Among u all → Refers t u → test t.0 ≡ true → test u.0 ≡ true) where
  pub close-least : (n : ℕ) (names : List (List ℕ)) (rest : List NamedSchema) → ((t : NamedSchema) → Among t rest → Among t all)
      → ((t : NamedSchema) → Among t rest → is_among names t ≡ true → test t.0 ≡ true)
      → (name : List ℕ) → list_any (same_text name) (close n names rest) ≡ true → test name ≡ true
  close-least zero names rest within first name is = cc
  close-least (suc n) names rest within first name is =
      let now : List NamedSchema = taken names rest in
      let later : List NamedSchema = left names rest in
      let more : List (List ℕ) = close n (parent_names now) later in
      elim (or-cases (list_any (same_text name) (map name_of now)) (list_any (same_text name) more)
      (sym (list_any-append (same_text name) (map name_of now) more) ∙ is)) [
        | inl here ↦
            let found = has_name name now here in
            let both = filtered (is_among names) found.table rest found.among in
            ap test found.same ∙ first found.table both.0 both.1
        | inr after ↦
            close-least n (parent_names now) later
            (λ t among. within t (filtered (λ u. not (is_among names u)) t rest among).0)
            (λ u among named.
            let found = has_child u now named in
            let both = filtered (is_among names) found.child rest found.among in
            closed found.child u (within found.child both.0) (within u (filtered (λ v. not (is_among names v)) u rest among).0)
            found.refers (first found.child both.0 both.1))
            name after
      ]
