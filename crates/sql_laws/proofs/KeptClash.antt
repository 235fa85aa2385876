-- The first two rows of one key stay the same if other rows are left out of the list.
use Rattle.std.proofs.Common.{◌≡◌, ℕ, List, [], ◌∷◌, ◌++◌, refl, sym, ap, ◌∙◌, Bool, true, append-nil, inl, inr}
use Rattle.std.specs.Prelude.{Option, Some, None, filter, find, ◌&&◌}
use Rattle.std.specs.List.{list_all}
use Rattle.std.proofs.lemmas.List.Elements.{filter-append}
use Rattle.ldv_value.proofs.Booleans.{and-parts}
use Rattle.ldv_value.proofs.Cases.{cases-bool}
use Rattle.ldv_value.proofs.Lists.{list_all-append}
use Rattle.sql_laws.specs.Types.{TableRow}
use Rattle.sql_model.specs.Changes.{KeyClash, shares_key, clash_or, clash_after, clash_by}
use Rattle.sql_model.specs.Needs.{clash_rows}

module _ {X : Type 0} (p : X → Bool) (q : X → Bool) where
  found_none : (xs : List X) → find q xs ≡ None → find q (filter p xs) ≡ None
  found_none [] is = refl
  found_none (x ∷ xs) is = elim (cases-bool (q x)) [
    | inl hit ↦ let e : Some x ≡ None = rw hit at is in cc
    | inr miss ↦ let more : find q xs ≡ None = rw miss at is in elim (cases-bool (p x)) [
      | inl stays ↦ rw (stays, miss) (found_none xs more)
      | inr goes ↦ rw goes (found_none xs more)
    ]
  ]

  -- what is found first is found first where it stays
  found_kept : (xs : List X) (x : X) → find q xs ≡ Some x → p x ≡ true → find q (filter p xs) ≡ Some x
  found_kept [] x is k = cc
  found_kept (y ∷ ys) x is k = elim (cases-bool (q y)) [
    | inl hit ↦
        let e : Some y ≡ Some x = rw hit at is in
        let same : y ≡ x = cc in
        let stays : p y ≡ true = ap p same ∙ k in
        rw (stays, hit) e
    | inr miss ↦ let more : find q ys ≡ Some x = rw miss at is in elim (cases-bool (p y)) [
      | inl stays ↦ rw (stays, miss) (found_kept ys x more k)
      | inr goes ↦ rw goes (found_kept ys x more k)
    ]
  ]

  -- what is found is among them
  found_all : (xs : List X) (x : X) → find q xs ≡ Some x → list_all p xs ≡ true → p x ≡ true
  found_all [] x is all = cc
  found_all (y ∷ ys) x is all =
      let both = and-parts (p y) (list_all p ys) all in
      elim (cases-bool (q y)) [
        | inl hit ↦
            let e : Some y ≡ Some x = rw hit at is in
            let same : y ≡ x = cc in
            sym (ap p same) ∙ both.0
        | inr miss ↦ found_all ys x (rw miss at is) both.1
      ]

module _ (p : TableRow → Bool) (key : List ℕ) where
  abbrev Kept : Option KeyClash → Type 0
  Kept clash = list_all p (clash_rows clash) ≡ true

  -- ---- both rows of the clash stay

  module _ (before : List TableRow) (row : TableRow) (rows : List TableRow) where
    abbrev next : Option KeyClash
    next = clash_after key (before ++ row ∷ []) rows

    abbrev left : List TableRow
    left = filter p before

    more_kept : clash_after key (filter p (before ++ row ∷ [])) (filter p rows) ≡ next
        → find (shares_key key row) before ≡ None → clash_after key left (filter p (row ∷ rows)) ≡ next
    more_kept rest none = elim (cases-bool (p row)) [
      | inl stays ↦
          let parts : filter p (before ++ row ∷ []) ≡ left ++ row ∷ [] = filter-append p before (row ∷ []) ∙ rw stays refl in
          rw stays (
          ap (λ (o : Option TableRow). clash_or o row (clash_after key (left ++ row ∷ []) (filter p rows))) (found_none p (shares_key key row) before none)
          ∙ sym (ap (λ (l : List TableRow). clash_after key l (filter p rows)) parts)
          ∙ rest
          )
      | inr goes ↦
          let parts : filter p (before ++ row ∷ []) ≡ left = filter-append p before (row ∷ []) ∙ rw goes (append-nil left) in
          rw goes (sym (ap (λ (l : List TableRow). clash_after key l (filter p rows)) parts) ∙ rest)
    ]

    here_kept : (earlier : TableRow) → find (shares_key key row) before ≡ Some earlier
        → Kept (Some (record { earlier = earlier; later = row }))
        → clash_after key left (filter p (row ∷ rows)) ≡ Some (record { earlier = earlier; later = row })
    here_kept earlier found k =
        let both = and-parts (p earlier) (p row && true) k in
        let stays : p row ≡ true = (and-parts (p row) true both.1).0 in
        rw stays (ap (λ (o : Option TableRow). clash_or o row (clash_after key (left ++ row ∷ []) (filter p rows))) (found_kept p (shares_key key row) before earlier found both.0))

  clash_kept : (before rows : List TableRow) → Kept (clash_after key before rows)
      → clash_after key (filter p before) (filter p rows) ≡ clash_after key before rows
  clash_kept before [] k = refl
  clash_kept before (row ∷ rows) k = by (λ kept. clash_kept (before ++ row ∷ []) rows kept) (find (shares_key key row) before) refl k
    where
      by : (Kept (next before row rows) → clash_after key (filter p (before ++ row ∷ [])) (filter p rows) ≡ next before row rows)
          → (o : Option TableRow) → find (shares_key key row) before ≡ o
          → Kept (clash_or o row (next before row rows))
          → clash_after key (filter p before) (filter p (row ∷ rows))
          ≡ clash_or o row (next before row rows)
      by rest None none kept = more_kept before row rows (rest kept) none
      by rest (Some earlier) found kept = here_kept before row rows earlier found kept

  -- ---- both rows of a clash are among the rows

  clash_among : (before rows : List TableRow) → list_all p before ≡ true → list_all p rows ≡ true
      → Kept (clash_after key before rows)
  clash_among before [] all more = refl
  clash_among before (row ∷ rows) all more =
      let both = and-parts (p row) (list_all p rows) more in
      by both.0 (clash_among (before ++ row ∷ []) rows (list_all-append p before (row ∷ []) ∙ (λ j. all j && (both.0 j && true))) both.1) (find (shares_key key row) before) refl
    where
      by : p row ≡ true → Kept (next before row rows) → (o : Option TableRow)
          → find (shares_key key row) before ≡ o → Kept (clash_or o row (next before row rows))
      by here rest None none = rest
      by here rest (Some earlier) found = λ j. found_all p (shares_key key row) before earlier found all j && (here j && true)

module _ (p : TableRow → Bool) where
  pub key_kept : (key : List ℕ) (rows : List TableRow)
      → list_all p (clash_rows (clash_by key rows)) ≡ true
      → clash_by key (filter p rows) ≡ clash_by key rows
  key_kept [] rows k = refl
  key_kept (place ∷ places) rows k = clash_kept p (place ∷ places) [] rows k

  pub key_among : (key : List ℕ) (rows : List TableRow) → list_all p rows ≡ true
      → list_all p (clash_rows (clash_by key rows)) ≡ true
  key_among [] rows all = refl
  key_among (place ∷ places) rows all = clash_among p (place ∷ places) [] rows refl all
