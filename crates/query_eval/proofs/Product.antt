-- Products, and the rows that a filter of them keeps.
use Rattle.std.proofs.Common.{◌≡◌, ◌∙◌, sym, ap, refl, Bool, true, false, cond, ◌&&◌, List, [], ◌∷◌, ◌++◌, map, append_assoc, append-nil, inl, inr}
use Rattle.std.proofs.lemmas.Bool.{cases_Bool}
use Rattle.std.specs.Prelude.{filter}
use Rattle.std.specs.List.{flat_map}
use Rattle.std.proofs.lemmas.List.{map-append}
use Rattle.std.proofs.lemmas.Grind.{flat_map-append}
use Rattle.ldv_value.proofs.Lists.{filter-append}
use Rattle.query_eval.specs.inner.Joining.{combos, products}
use Rattle.query_eval.specs.declared.source.SourceRow.{SourceRow}

-- each prefix with each row
abbrev pub extensions : List (List SourceRow) → List SourceRow → List (List SourceRow)
extensions ps rows = flat_map (λ p. map (λ row. p ++ row ∷ []) rows) ps

-- ---- one more source

moved : (p : List SourceRow) (row : SourceRow) (cs : List (List SourceRow)) → map (λ c. p ++ c) (map (λ others. row ∷ others) cs) ≡ map (λ others. (p ++ row ∷ []) ++ others) cs
moved p row [] = refl
moved p row (c ∷ cs) = λ j. sym (append_assoc p (row ∷ []) c) j ∷ moved p row cs j

one_more : (p : List SourceRow) (rows : List SourceRow) (rest : List (List SourceRow)) → map (λ c. p ++ c) (combos (rows ∷ rest)) ≡ products (map (λ row. p ++ row ∷ []) rows) rest
one_more p [] rest = refl
one_more p (row ∷ rows) rest =
    map-append (λ c. p ++ c) (map (λ others. row ∷ others) (combos rest)) (flat_map (λ r. map (λ others. r ∷ others) (combos rest)) rows)
    ∙ (λ j. moved p row (combos rest) j ++ one_more p rows rest j)

-- the product goes on from the left
pub products-more : (ps : List (List SourceRow)) (rows : List SourceRow) (rest : List (List SourceRow)) → products ps (rows ∷ rest) ≡ products (extensions ps rows) rest
products-more [] rows rest = refl
products-more (p ∷ ps) rows rest =
    (λ j. one_more p rows rest j ++ products-more ps rows rest j)
    ∙ sym (flat_map-append (λ q. map (λ others. q ++ others) (combos rest)) (map (λ row. p ++ row ∷ []) rows) (extensions ps rows))

prefixed_none : (cs : List (List SourceRow)) → map (λ others. [] ++ others) cs ≡ cs
prefixed_none [] = refl
prefixed_none (c ∷ cs) = ap (λ l. c ∷ l) (prefixed_none cs)

-- before the first source, and after the last one
pub all_of : (tables : List (List SourceRow)) → products ([] ∷ []) tables ≡ combos tables
all_of tables = append-nil _ ∙ prefixed_none (combos tables)

pub all_there : (ps : List (List SourceRow)) → products ps [] ≡ ps
all_there [] = refl
all_there (p ∷ ps) = λ j. append-nil p j ∷ all_there ps j

-- ---- a test pushed down: what each combination from a prefix passes is the test of the prefix, and a rest

module _ (whole first rest : List SourceRow → Bool) where
  abbrev pub Splits : List SourceRow → Type 0
  Splits p = (others : List SourceRow) → whole (p ++ others) ≡ (first p && rest (p ++ others))

  abbrev pub EachSplits : List (List SourceRow) → Type 0
  EachSplits [] = Unit {0}
  EachSplits (p ∷ ps) = Splits p × EachSplits ps

  passed : (p : List SourceRow) (cs : List (List SourceRow)) → Splits p → first p ≡ true → filter whole (map (λ o. p ++ o) cs) ≡ filter rest (map (λ o. p ++ o) cs)
  passed p [] s hit = refl
  passed p (c ∷ cs) s hit =
      let same : whole (p ++ c) ≡ rest (p ++ c) = s c ∙ ap (λ b. b && rest (p ++ c)) hit in
      λ j. cond (same j) ((p ++ c) ∷ passed p cs s hit j) (passed p cs s hit j)

  failed : (p : List SourceRow) (cs : List (List SourceRow)) → Splits p → first p ≡ false → filter whole (map (λ o. p ++ o) cs) ≡ []
  failed p [] s miss = refl
  failed p (c ∷ cs) s miss =
      let none : whole (p ++ c) ≡ false = s c ∙ ap (λ b. b && rest (p ++ c)) miss in
      rw none (failed p cs s miss)

  pub pushed : (ps : List (List SourceRow)) (tables : List (List SourceRow)) → EachSplits ps → filter whole (products ps tables) ≡ filter rest (products (filter first ps) tables)
  pushed [] tables s = refl
  pushed (p ∷ ps) tables s =
      filter-append whole (map (λ o. p ++ o) (combos tables)) (products ps tables)
      ∙ elim (cases_Bool (first p)) [
        | inl hit ↦ rw hit ((λ j. passed p (combos tables) s.0 hit j ++ pushed ps tables s.1 j) ∙ sym (filter-append rest (map (λ o. p ++ o) (combos tables)) (products (filter first ps) tables)))
        | inr miss ↦ rw miss ((λ j. failed p (combos tables) s.0 miss j ++ pushed ps tables s.1 j))
      ]

-- ---- a filter before a filter: those that are left out would not pass

pub filter-of-kept : {X A : Type 0} (test : A → Bool) (f : X → A) (kept : X → Bool) → ((x : X) → test (f x) ≡ true → kept x ≡ true) → (xs : List X) → filter test (map f (filter kept xs)) ≡ filter test (map f xs)
filter-of-kept test f kept sound [] = refl
filter-of-kept test f kept sound (x ∷ xs) = elim (cases_Bool (kept x)) [
  | inl hit ↦ rw hit (ap (λ l. cond (test (f x)) (f x ∷ l) l) (filter-of-kept test f kept sound xs))
  | inr miss ↦ elim (cases_Bool (test (f x))) [
    | inl passes ↦ let no : false ≡ true = sym miss ∙ sound x passes in cc
    | inr fails ↦ rw (miss, fails) (filter-of-kept test f kept sound xs)
  ]
]
