-- Sorted rows have no more groups than there are tables.
use Rattle.std.proofs.Common.{◌≡◌, ℕ, ◌+◌, ◌≤◌, List, [], ◌∷◌, ◌++◌, length, refl, sym, ap, ◌∙◌, Bool, true, false, append_assoc, arith, inl, inr}
use Rattle.std.specs.Prelude.{filter, bytes_eq, IsTrue}
use Rattle.std.specs.List.{list_any, AllByRecursion}
use Rattle.std.specs.declared.cmp.Ordering.{Ordering}
use Rattle.std.specs.declared.cmp.Ordering.TheVariants.{Less, Equal, Greater}
use Rattle.std.specs.Ordering.{nat_cmp, is_lt, is_eq}
use Rattle.std.specs.Cmp.Lexicographic.{slice_cmp}
use Rattle.std.proofs.lemmas.Bool.{cases_Bool}
use Rattle.std.proofs.lemmas.List.{length-append}
use Rattle.std.proofs.lemmas.Map.Text.{is_eq-slice_cmp}
use Rattle.ldv_value.proofs.SameBytes.{bytes_eq-true}
use Rattle.ldv_value.proofs.Booleans.{and-parts}
use Rattle.sql_model.specs.Scope.{same_text}
use Rattle.package_codec.specs.Groups.{groups, group_of_one, after, add_all}
use Rattle.package_layout.specs.inner.Order.{rises, is_below, row_after_table}
use Rattle.package_codec.proofs.Groups.{add_last}
use Rattle.replay_db.proofs.TraceLists.{below_itself, filter_most, filter_fewer}
use Rattle.ldv_value.proofs.TextOrders.{text_trans}

-- a name is one of the names
abbrev pub is_name_of : List (List ℕ) → List ℕ → Bool
is_name_of names name = list_any (λ other. same_text other name) names

-- a name that is above another has fewer names above it
fewer_above : (low high : List ℕ) → is_below low high ≡ true → (names : List (List ℕ)) → is_name_of names high ≡ true → length (filter (is_below high) names) + 1 ≤ length (filter (is_below low) names)
fewer_above low high below [] there = absurd cc
fewer_above low high below (name ∷ names) there = elim (cases_Bool (same_text name high)) [
  | inl hit ↦
      let same : name ≡ high = bytes_eq-true name high hit in
      let out : is_below high name ≡ false = ap (is_below high) same ∙ below_itself high in
      let among : is_below low name ≡ true = ap (is_below low) same ∙ below in
      let rest : length (filter (is_below high) names) ≤ length (filter (is_below low) names) = filter_fewer (is_below high) (is_below low) (λ other h. text_trans low high other below h) names in
      rw (out, among) (omega arith)
  | inr miss ↦
      let later : is_name_of names high ≡ true = rw miss at there in
      let rest : length (filter (is_below high) names) + 1 ≤ length (filter (is_below low) names) = fewer_above low high below names later in
      elim (cases_Bool (is_below high name)) [
        | inl above ↦ let also : is_below low name ≡ true = text_trans low high name below above in rw (above, also) (omega arith)
        | inr under ↦ elim (cases_Bool (is_below low name)) [
          | inl more ↦ rw (under, more) (omega arith)
          | inr less ↦ rw (under, less) rest
        ]
      ]
]

-- a name has fewer names above it than there are
fewer_than_all : (name : List ℕ) (names : List (List ℕ)) → is_name_of names name ≡ true → length (filter (is_below name) names) + 1 ≤ length names
fewer_than_all name [] there = absurd cc
fewer_than_all name (other ∷ names) there = elim (cases_Bool (same_text other name)) [
  | inl hit ↦
      let out : is_below name other ≡ false = ap (is_below name) (bytes_eq-true other name hit) ∙ below_itself name in
      let rest : length (filter (is_below name) names) ≤ length names = filter_most (is_below name) names in
      rw out (omega arith)
  | inr miss ↦
      let later : is_name_of names name ≡ true = rw miss at there in
      let rest : length (filter (is_below name) names) + 1 ≤ length names = fewer_than_all name names later in
      elim (cases_Bool (is_below name other)) [
        | inl above ↦ rw above (omega arith)
        | inr under ↦ rw under (omega arith)
      ]
]

above_if_apart : (o : Ordering) (m n : ℕ) → row_after_table o m n ≡ true → is_eq o ≡ false → is_lt o ≡ true
above_if_apart Less m n h k = refl
above_if_apart Equal m n h k = cc
above_if_apart Greater m n h k = cc

module _ {X Part : Type 0} (table_of : X → List ℕ) (row_of : X → ℕ) (part_of : X → Part) (names : List (List ℕ)) where
  abbrev pub row_below : X → X → Bool
  row_below x y = row_after_table (slice_cmp nat_cmp (table_of x) (table_of y)) (row_of x) (row_of y)

  -- the next row is of the same table, or of one that is above
  table_above : (x y : X) → row_below x y ≡ true → bytes_eq (table_of x) (table_of y) ≡ false → is_below (table_of x) (table_of y) ≡ true
  table_above x y below apart =
      above_if_apart (slice_cmp nat_cmp (table_of x) (table_of y)) (row_of x) (row_of y) below
      (is_eq-slice_cmp (table_of x) (table_of y) ∙ apart)

  abbrev above : X → ℕ
  above x = length (filter (is_below (table_of x)) names)

  abbrev Named : X → Type 0
  Named x = IsTrue (is_name_of names (table_of x))

  -- after a group, whose last row is `last`
  groups_after : (gs : _) (table : List ℕ) (parts : _) (last : X) (xs : List X) → table ≡ table_of last → rises row_below (last ∷ xs) ≡ true → AllByRecursion Named xs
      → length (add_all table_of part_of (gs ++ record { table = table; parts = parts } ∷ []) xs) ≤ length gs + 1 + above last
  groups_after gs table parts last [] is rise named = omega (arith, length-append gs (record { table = table; parts = parts } ∷ []))
  groups_after gs table parts last (x ∷ xs) is rise named =
      let both = and-parts (row_below last x) (rises row_below (x ∷ xs)) rise in
      let next = ap (λ hs. length (add_all table_of part_of hs xs)) (add_last table_of part_of gs (record { table = table; parts = parts }) x) in
      elim (cases_Bool (bytes_eq table (table_of x))) [
        | inl hit ↦
            let same : table ≡ table_of x = bytes_eq-true table (table_of x) hit in
            let joined : after table_of part_of (record { table = table; parts = parts }) x ≡ record { table = table; parts = parts ++ part_of x ∷ [] } ∷ [] = rw hit refl in
            let more : length (add_all table_of part_of (gs ++ record { table = table; parts = parts ++ part_of x ∷ [] } ∷ []) xs) ≤ length gs + 1 + above x = groups_after gs table (parts ++ part_of x ∷ []) x xs same both.1 named.1 in
            let count : above x ≡ above last = ap (λ (name : List ℕ). length (filter (is_below name) names)) (sym same ∙ is) in
            let whole = next ∙ ap (λ hs. length (add_all table_of part_of (gs ++ hs) xs)) joined in
            omega arith
        | inr miss ↦
            let new = group_of_one table_of part_of x in
            let split : after table_of part_of (record { table = table; parts = parts }) x ≡ record { table = table; parts = parts } ∷ new ∷ [] = rw miss refl in
            let more : length (add_all table_of part_of ((gs ++ record { table = table; parts = parts } ∷ []) ++ new ∷ []) xs) ≤ length (gs ++ record { table = table; parts = parts } ∷ []) + 1 + above x = groups_after (gs ++ record { table = table; parts = parts } ∷ []) (table_of x) (part_of x ∷ []) x xs refl both.1 named.1 in
            let apart : bytes_eq (table_of last) (table_of x) ≡ false = ap (λ (name : List ℕ). bytes_eq name (table_of x)) (sym is) ∙ miss in
            let fewer : above x + 1 ≤ above last = fewer_above (table_of last) (table_of x) (table_above last x both.0 apart) names named.0 in
            let whole = next ∙ ap (λ hs. length (add_all table_of part_of (gs ++ hs) xs)) split ∙ ap (λ hs. length (add_all table_of part_of hs xs)) (sym (append_assoc gs (record { table = table; parts = parts } ∷ []) (new ∷ []))) in
            omega (arith, length-append gs (record { table = table; parts = parts } ∷ []))
      ]

  pub groups_few : (xs : List X) → rises row_below xs ≡ true → AllByRecursion Named xs → length (groups table_of part_of xs) ≤ length names
  groups_few [] rise named = omega arith
  groups_few (x ∷ xs) rise named =
      let rest : length (groups table_of part_of (x ∷ xs)) ≤ 0 + 1 + above x = groups_after [] (table_of x) (part_of x ∷ []) x xs refl rise named.1 in
      let fewer : above x + 1 ≤ length names = fewer_than_all (table_of x) names named.0 in
      omega arith
