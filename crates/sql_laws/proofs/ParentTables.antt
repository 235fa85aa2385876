-- The tables of some names with their parents. They stay the same if other tables are left out, and the
-- parents of all of them are among them.
use Rattle.std.proofs.Common.{◌≡◌, ℕ, zero, suc, ◌+◌, ◌<◌, ◌≤◌, List, [], ◌∷◌, ◌++◌, length, refl, sym, ap, ◌∙◌, subst, Bool, true, false, ◌⊎◌, inl, inr, arith, append-nil}
use Rattle.std.specs.Prelude.{Some, map, filter, zip, not, ◌||◌}
use Rattle.std.specs.List.{list_any, list_all}
use Rattle.std.proofs.lemmas.Bool.{cases_Bool, not_from_false}
use Rattle.ldv_value.proofs.Booleans.{and-parts, and-from, or-left, or-right, or-cases, true≢false}
use Rattle.ldv_value.proofs.Lists.{filter-filter, list_all-append, list_all-map, list_any-append, list_all-weaker, found-passes}
use Rattle.ldv_value.proofs.Options.{same-some}
use Rattle.ldv_value.proofs.SameBytes.{bytes_eq-true, bytes_eq-itself}
use Rattle.sql_model.specs.ForeignKeys.{NamedSchema, name_of, is_among, parent_names, close, with_parents}
use Rattle.sql_model.specs.Scope.{same_text, is_table, table_at, is_schema, catalog_of}
use Rattle.sql_laws.specs.StatementLaw.{KeepTables, table_stays}
use Rattle.sql_laws.specs.Types.{Foreign, Table}
use Rattle.sql_laws.proofs.QuerySorting.{filter_all}

abbrev names_in : List NamedSchema → List (List ℕ)
names_in tables = map name_of tables

abbrev named_stays : KeepTables → NamedSchema → Bool
named_stays tables named = tables named.0

abbrev pub taken : List (List ℕ) → List NamedSchema → List NamedSchema
taken names rest = filter (is_among names) rest

abbrev pub left : List (List ℕ) → List NamedSchema → List NamedSchema
left names rest = filter (λ t. not (is_among names t)) rest

none_in : (rest : List NamedSchema) → taken [] rest ≡ []
none_in [] = refl
none_in (t ∷ ts) = none_in ts

none_close : (n : ℕ) (rest : List NamedSchema) → close n [] rest ≡ []
none_close zero rest = refl
none_close (suc n) rest =
    (λ j. names_in (none_in rest j) ++ close n (parent_names (none_in rest j)) (left [] rest))
    ∙ none_close n (left [] rest)

split : (p : NamedSchema → Bool) (ts : List NamedSchema) → length (filter p ts) + length (filter (λ t. not (p t)) ts) ≡ length ts
split p [] = refl
split p (t ∷ ts) = elim (cases_Bool (p t)) [
  | inl hit ↦ rw hit (omega (arith, split p ts))
  | inr miss ↦ rw miss (omega (arith, split p ts))
]

-- more turns take no more
pub turns : (n m : ℕ) (names : List (List ℕ)) (rest : List NamedSchema) → length rest < n → length rest < m → close n names rest ≡ close m names rest
turns zero m names rest few less = absurd (omega (arith, few))
turns (suc n) zero names rest few less = absurd (omega (arith, less))
turns (suc n) (suc m) names rest few less =
    by (λ a b. turns n m (parent_names (taken names rest)) (left names rest) a b) (taken names rest) refl
  where
    by : (length (left names rest) < n → length (left names rest) < m
        → close n (parent_names (taken names rest)) (left names rest) ≡ close m (parent_names (taken names rest)) (left names rest))
        → (l : List NamedSchema) → taken names rest ≡ l → close (suc n) names rest ≡ close (suc m) names rest
    by more [] none =
        let one : (k : ℕ) → close k (parent_names (taken names rest)) (left names rest) ≡ [] = λ k. ap (λ (l : List NamedSchema). close k (parent_names l) (left names rest)) none ∙ none_close k (left names rest) in
        ap (λ (l : List (List ℕ)). names_in (taken names rest) ++ l) (one n ∙ sym (one m))
    by more (t ∷ ts) some =
        let count : length (taken names rest) + length (left names rest) ≡ length rest = split (is_among names) rest in
        let one : length (taken names rest) ≡ suc (length ts) = ap length some in
        ap (λ (l : List (List ℕ)). names_in (taken names rest) ++ l)
        (more (omega (arith, count, one, few)) (omega (arith, count, one, less)))

-- ---- without tables that aren't taken

module _ (tables : KeepTables) where
  pub closed_fewer : (n : ℕ) (names : List (List ℕ)) (rest : List NamedSchema) → list_all tables (close n names rest) ≡ true
      → close n names (filter (named_stays tables) rest) ≡ close n names rest
  closed_fewer zero names rest kept = refl
  closed_fewer (suc n) names rest kept =
      let now : List NamedSchema = taken names rest in
      let both = and-parts (list_all tables (names_in now)) (list_all tables (close n (parent_names now) (left names rest)))
      (sym (list_all-append tables (names_in now) (close n (parent_names now) (left names rest))) ∙ kept) in
      let stay : list_all (named_stays tables) now ≡ true = sym (list_all-map tables (λ (t : NamedSchema). t.0) now) ∙ both.0 in
      let same : taken names (filter (named_stays tables) rest) ≡ now =
      filter-filter (is_among names) (named_stays tables) rest ∙ filter_all (named_stays tables) now stay in
      let others : left names (filter (named_stays tables) rest) ≡ filter (named_stays tables) (left names rest) =
      filter-filter (λ (t : NamedSchema). not (is_among names t)) (named_stays tables) rest in
      (λ j. names_in (same j) ++ close n (parent_names (same j)) (others j))
      ∙ ap (λ (l : List (List ℕ)). names_in now ++ l) (closed_fewer n (parent_names now) (left names rest) both.1)

  fewer-length : (rest : List NamedSchema) → length (filter (named_stays tables) rest) ≤ length rest
  fewer-length [] = omega arith
  fewer-length (t ∷ ts) = elim (cases_Bool (tables t.0)) [
    | inl stays ↦ rw stays (omega (arith, fewer-length ts))
    | inr goes ↦ rw goes (omega (arith, fewer-length ts))
  ]

-- ---- the parents of tables that are taken are taken

abbrev pub Among : NamedSchema → List NamedSchema → Type 0
Among t [] = ⊥
Among t (u ∷ us) = (t ≡ u) ⊎ Among t us

pub among_filter : (p : NamedSchema → Bool) (t : NamedSchema) (us : List NamedSchema) → Among t us → p t ≡ true → Among t (filter p us)
among_filter p t [] here hit = absurd here
among_filter p t (u ∷ us) (inl same) hit = let here : p u ≡ true = ap p (sym same) ∙ hit in rw here (inl same)
among_filter p t (u ∷ us) (inr more) hit = elim (cases_Bool (p u)) [
  | inl here ↦ rw here (inr (among_filter p t us more hit))
  | inr away ↦ rw away (among_filter p t us more hit)
]

any_left : (p : List ℕ → Bool) (xs ys : List (List ℕ)) → list_any p xs ≡ true → list_any p (xs ++ ys) ≡ true
any_left p xs ys is = list_any-append p xs ys ∙ or-left (list_any p xs) (list_any p ys) is

any_right : (p : List ℕ → Bool) (xs ys : List (List ℕ)) → list_any p ys ≡ true → list_any p (xs ++ ys) ≡ true
any_right p xs ys is = list_any-append p xs ys ∙ or-right (list_any p xs) (list_any p ys) is

-- a table is named by the names of tables among which it is
named_by : (t : NamedSchema) (us : List NamedSchema) → Among t us → is_among (names_in us) t ≡ true
named_by t [] here = absurd here
named_by t (u ∷ us) (inl same) =
    let self : same_text t.0 u.0 ≡ true = ap (same_text t.0) (ap (λ (x : NamedSchema). x.0) (sym same)) ∙ bytes_eq-itself t.0 in
    or-left (same_text t.0 u.0) (is_among (names_in us) t) self
named_by t (u ∷ us) (inr more) = or-right (same_text t.0 u.0) (is_among (names_in us) t) (named_by t us more)

-- what is named by the names of tables that are taken has itself such a name
name_taken : (names : List (List ℕ)) (t : NamedSchema) (us : List NamedSchema) → is_among (names_in (taken names us)) t ≡ true
    → is_among names t ≡ true
name_taken names t [] is = cc
name_taken names t (u ∷ us) is = elim (cases_Bool (is_among names u)) [
  | inl hit ↦
      let all : (same_text t.0 u.0 || is_among (names_in (taken names us)) t) ≡ true = rw hit at is in
      elim (or-cases (same_text t.0 u.0) (is_among (names_in (taken names us)) t) all) [
        | inl same ↦ ap (λ (name : List ℕ). list_any (same_text name) names) (bytes_eq-true t.0 u.0 same) ∙ hit
        | inr more ↦ name_taken names t us more
      ]
  | inr miss ↦ name_taken names t us (rw miss at is)
]

abbrev pub Refers : NamedSchema → NamedSchema → Type 0
Refers t p = is_among (parent_names (t ∷ [])) p ≡ true

pub refers_among : (t p : NamedSchema) (us : List NamedSchema) → Among t us → Refers t p → is_among (parent_names us) p ≡ true
refers_among t p [] here refers = absurd here
refers_among t p (u ∷ us) (inl same) refers =
    let own : List (List ℕ) = map (λ (f : Foreign). f.parent) u.1.foreign in
    let here : list_any (same_text p.0) (own ++ []) ≡ true = ap (λ (x : NamedSchema). is_among (parent_names (x ∷ [])) p) (sym same) ∙ refers in
    any_left (same_text p.0) own (parent_names us) (ap (list_any (same_text p.0)) (sym (append-nil own)) ∙ here)
refers_among t p (u ∷ us) (inr more) refers =
    any_right (same_text p.0) (map (λ (f : Foreign). f.parent) u.1.foreign) (parent_names us) (refers_among t p us more refers)

some_among : (t : NamedSchema) (us : List NamedSchema) → Among t us → 1 ≤ length us
some_among t [] here = absurd here
some_among t (u ∷ us) here = omega arith

-- what is named is taken in the next turn
pub taken_soon : (n : ℕ) (names : List (List ℕ)) (rest : List NamedSchema) → 1 ≤ n → (p : NamedSchema) → Among p rest
    → is_among names p ≡ true → is_among (close n names rest) p ≡ true
taken_soon zero names rest some p here named = absurd (omega (arith, some))
taken_soon (suc n) names rest some p here named =
    any_left (same_text p.0) (names_in (taken names rest)) (close n (parent_names (taken names rest)) (left names rest))
    (named_by p (taken names rest) (among_filter (is_among names) p rest here named))

-- where a table is taken, so is each other that it refers to
pub parents_taken : (n : ℕ) (names : List (List ℕ)) (rest : List NamedSchema) → length rest < n
    → (t p : NamedSchema) → Among t rest → Among p rest → Refers t p
    → is_among (close n names rest) t ≡ true → is_among (close n names rest) p ≡ true
parents_taken zero names rest few t p here there refers is = absurd (omega (arith, few))
parents_taken (suc n) names rest few t p here there refers is = elim (cases_Bool (is_among names p)) [
  | inl hit ↦ any_left (same_text p.0) (names_in now) more (named_by p now (among_filter (is_among names) p rest there hit))
  | inr miss ↦
      let p_left : Among p later = among_filter (λ (x : NamedSchema). not (is_among names x)) p rest there (not_from_false (is_among names p) miss) in
      elim (cases_Bool (is_among names t)) [
        | inl own ↦
            let among : Among t now = among_filter (is_among names) t rest here own in
            let named : is_among (parent_names now) p ≡ true = refers_among t p now among refers in
            let some : 1 ≤ length now = some_among t now among in
            any_right (same_text p.0) (names_in now) more (taken_soon n (parent_names now) later (omega (arith, few, count, some)) p p_left named)
        | inr other ↦
            let t_left : Among t later = among_filter (λ (x : NamedSchema). not (is_among names x)) t rest here (not_from_false (is_among names t) other) in
            let parts : (is_among (names_in now) t || is_among more t) ≡ true = sym (list_any-append (same_text t.0) (names_in now) more) ∙ is in
            elim (or-cases (is_among (names_in now) t) (is_among more t) parts) [
              | inl before ↦ absurd (true≢false (sym (name_taken names t rest before) ∙ other))
              | inr after ↦ any_right (same_text p.0) (names_in now) more (by (λ fewer t_here p_here is_there. parents_taken n (parent_names now) later fewer t p t_here p_here refers is_there) now refl t_left p_left after)
            ]
      ]
]
  where
    now : List NamedSchema
    now = taken names rest

    later : List NamedSchema
    later = left names rest

    more : List (List ℕ)
    more = close n (parent_names now) later

    count : length now + length later ≡ length rest
    count = split (is_among names) rest

    by : (length later < n → Among t later → Among p later → is_among more t ≡ true → is_among more p ≡ true)
        → (l : List NamedSchema) → now ≡ l → Among t later → Among p later → is_among more t ≡ true → is_among more p ≡ true
    by again [] none t_left p_left after =
        let empty : more ≡ [] = ap (λ (l : List NamedSchema). close n (parent_names l) later) none ∙ none_close n later in
        absurd (true≢false (sym after ∙ ap (λ (l : List (List ℕ)). is_among l t) empty))
    by again (u ∷ us) some t_left p_left after =
        let one : length now ≡ suc (length us) = ap length some in
        again (omega (arith, few, count, one)) t_left p_left after

-- ---- of tables

-- their names and schemas
abbrev pub named_in : List Table → List NamedSchema
named_in db = zip (map (λ (t : Table). t.name) db) (map (λ (t : Table). t.schema) db)

abbrev pub named_of : Table → NamedSchema
named_of t = (t.name, t.schema)

named-length : (db : List Table) → length (named_in db) ≡ length (map (λ (t : Table). t.name) db)
named-length [] = refl
named-length (t ∷ ts) = ap suc (named-length ts)

-- the number of turns is enough
pub turns-enough : (db : List Table) → length (named_in db) < suc (length (map (λ (t : Table). t.name) db))
turns-enough db = omega (arith, named-length db)

named_fewer : (tables : KeepTables) (db : List Table) → named_in (filter (table_stays tables) db) ≡ filter (named_stays tables) (named_in db)
named_fewer tables [] = refl
named_fewer tables (t ∷ ts) = elim (cases_Bool (tables t.name)) [
  | inl stays ↦ rw stays (ap (λ (l : List NamedSchema). named_of t ∷ l) (named_fewer tables ts))
  | inr goes ↦ rw goes (named_fewer tables ts)
]

-- over fewer tables they are the same, where they stay
pub parents_fewer : (tables : KeepTables) (names : List (List ℕ)) (db : List Table)
    → list_all tables (with_parents names (catalog_of db)) ≡ true
    → with_parents names (catalog_of (filter (table_stays tables) db)) ≡ with_parents names (catalog_of db)
parents_fewer tables names db kept =
    let small : List Table = filter (table_stays tables) db in
    let n : ℕ = suc (length (map (λ (t : Table). t.name) db)) in
    let same : named_in small ≡ filter (named_stays tables) (named_in db) = named_fewer tables db in
    let few : length (named_in small) ≤ length (named_in db) = subst (λ (l : List NamedSchema). length l ≤ length (named_in db)) (sym same) (fewer-length tables (named_in db)) in
    let under : length (named_in small) < n = omega (arith, few, turns-enough db) in
    turns (suc (length (map (λ (t : Table). t.name) small))) n names (named_in small) (turns-enough small) under
    ∙ ap (close n names) same
    ∙ closed_fewer tables n names (named_in db) kept

pub among_found : (name : List ℕ) (db : List Table) (t : Table) → table_at name db ≡ Some t → Among (named_of t) (named_in db)
among_found name [] t is = cc
among_found name (u ∷ us) t is = elim (cases_Bool (is_table name u)) [
  | inl hit ↦ let e : Some u ≡ Some t = rw hit at is in inl (ap named_of (sym (same-some u t e)))
  | inr miss ↦ inr (among_found name us t (rw miss at is))
]

-- what is named and there is taken
pub named_taken : (names : List (List ℕ)) (db : List Table) (name : List ℕ) (t : Table) → table_at name db ≡ Some t
    → list_any (same_text name) names ≡ true → list_any (same_text name) (with_parents names (catalog_of db)) ≡ true
named_taken names db name t found named =
    let same : t.name ≡ name = bytes_eq-true t.name name (found-passes (is_table name) db t found) in
    let own : is_among names (named_of t) ≡ true = ap (λ (n : List ℕ). list_any (same_text n) names) same ∙ named in
    let n : ℕ = suc (length (map (λ (t : Table). t.name) db)) in
    ap (λ (m : List ℕ). list_any (same_text m) (close n names (named_in db))) (sym same)
    ∙ taken_soon n names (named_in db) (omega arith) (named_of t) (among_found name db t found) own

-- the parent of a table that is taken is taken, where it is there
pub parent_taken : (names : List (List ℕ)) (db : List Table) (child parent : List ℕ) (t p : Table)
    → table_at child db ≡ Some t → table_at parent db ≡ Some p
    → list_any (λ (f : Foreign). same_text f.parent parent) t.schema.foreign ≡ true
    → list_any (same_text child) (with_parents names (catalog_of db)) ≡ true
    → list_any (same_text parent) (with_parents names (catalog_of db)) ≡ true
parent_taken names db child parent t p found there refers asked =
    let same_t : t.name ≡ child = bytes_eq-true t.name child (found-passes (is_table child) db t found) in
    let same_p : p.name ≡ parent = bytes_eq-true p.name parent (found-passes (is_table parent) db p there) in
    let n : ℕ = suc (length (map (λ (t : Table). t.name) db)) in
    let own : is_among (close n names (named_in db)) (named_of t) ≡ true = ap (λ (m : List ℕ). list_any (same_text m) (close n names (named_in db))) same_t ∙ asked in
    let to : Refers (named_of t) (named_of p) =
    any_left (same_text p.name) (map (λ (f : Foreign). f.parent) t.schema.foreign) [] (refers_to t.schema.foreign parent p.name same_p refers) in
    ap (λ (m : List ℕ). list_any (same_text m) (close n names (named_in db))) (sym same_p)
    ∙ parents_taken n names (named_in db) (turns-enough db) (named_of t) (named_of p) (among_found child db t found) (among_found parent db p there) to own
  where
    refers_to : (fs : List Foreign) (parent name : List ℕ) → name ≡ parent → list_any (λ (f : Foreign). same_text f.parent parent) fs ≡ true
        → list_any (same_text name) (map (λ (f : Foreign). f.parent) fs) ≡ true
    refers_to [] parent name same is = cc
    refers_to (f ∷ fs) parent name same is = elim (or-cases (same_text f.parent parent) (list_any (λ (g : Foreign). same_text g.parent parent) fs) is) [
      | inl here ↦
          let to : f.parent ≡ parent = bytes_eq-true f.parent parent here in
          let self : same_text name f.parent ≡ true = ap (same_text name) (to ∙ sym same) ∙ bytes_eq-itself name in
          or-left (same_text name f.parent) (list_any (same_text name) (map (λ (g : Foreign). g.parent) fs)) self
      | inr more ↦ or-right (same_text name f.parent) (list_any (same_text name) (map (λ (g : Foreign). g.parent) fs)) (refers_to fs parent name same more)
    ]

-- ---- each name that is taken is that of a table

abbrev there_in : List NamedSchema → List ℕ → Bool
there_in all name = list_any (is_schema name) all

taken_there : (all rest : List NamedSchema) (p : NamedSchema → Bool) → list_all (λ (t : NamedSchema). there_in all t.0) rest ≡ true
    → list_all (there_in all) (names_in (filter p rest)) ≡ true
taken_there all [] p there = refl
taken_there all (t ∷ ts) p there =
    let both = and-parts (there_in all t.0) (list_all (λ (u : NamedSchema). there_in all u.0) ts) there in
    elim (cases_Bool (p t)) [
      | inl hit ↦ rw hit (and-from (there_in all t.0) (list_all (there_in all) (names_in (filter p ts))) both.0 (taken_there all ts p both.1))
      | inr miss ↦ rw miss (taken_there all ts p both.1)
    ]

left_there : (all rest : List NamedSchema) (p : NamedSchema → Bool) → list_all (λ (t : NamedSchema). there_in all t.0) rest ≡ true
    → list_all (λ (t : NamedSchema). there_in all t.0) (filter p rest) ≡ true
left_there all [] p there = refl
left_there all (t ∷ ts) p there =
    let both = and-parts (there_in all t.0) (list_all (λ (u : NamedSchema). there_in all u.0) ts) there in
    elim (cases_Bool (p t)) [
      | inl hit ↦ rw hit (and-from (there_in all t.0) (list_all (λ (u : NamedSchema). there_in all u.0) (filter p ts)) both.0 (left_there all ts p both.1))
      | inr miss ↦ rw miss (left_there all ts p both.1)
    ]

closed_there : (all : List NamedSchema) (n : ℕ) (names : List (List ℕ)) (rest : List NamedSchema) → list_all (λ (t : NamedSchema). there_in all t.0) rest ≡ true
    → list_all (there_in all) (close n names rest) ≡ true
closed_there all zero names rest there = refl
closed_there all (suc n) names rest there =
    list_all-append (there_in all) (names_in (taken names rest)) (close n (parent_names (taken names rest)) (left names rest))
    ∙ and-from (list_all (there_in all) (names_in (taken names rest))) (list_all (there_in all) (close n (parent_names (taken names rest)) (left names rest)))
    (taken_there all rest (is_among names) there)
    (closed_there all n (parent_names (taken names rest)) (left names rest) (left_there all rest (λ (t : NamedSchema). not (is_among names t)) there))

all_there : (all ts : List NamedSchema) → ((name : List ℕ) → there_in ts name ≡ true → there_in all name ≡ true)
    → list_all (λ (t : NamedSchema). there_in all t.0) ts ≡ true
all_there all [] among = refl
all_there all (t ∷ ts) among =
    and-from (there_in all t.0) (list_all (λ (u : NamedSchema). there_in all u.0) ts)
    (among t.0 (or-left (is_schema t.0 t) (there_in ts t.0) (bytes_eq-itself t.0)))
    (all_there all ts (λ name is. among name (or-right (is_schema name t) (there_in ts name) is)))

there_named : (name : List ℕ) (db : List Table) → there_in (named_in db) name ≡ list_any (is_table name) db
there_named name [] = refl
there_named name (t ∷ ts) = ap (λ (b : Bool). is_table name t || b) (there_named name ts)

pub parents_there : (names : List (List ℕ)) (db : List Table)
    → list_all (λ (name : List ℕ). list_any (is_table name) db) (with_parents names (catalog_of db)) ≡ true
parents_there names db =
    let n : ℕ = suc (length (map (λ (t : Table). t.name) db)) in
    list_all-weaker (there_in (named_in db)) (λ (name : List ℕ). list_any (is_table name) db) (λ name is. sym (there_named name db) ∙ is) (close n names (named_in db))
    (closed_there (named_in db) n names (named_in db) (all_there (named_in db) (named_in db) (λ name is. is)))
