-- The rows that stay, as a test of lists of rows, and consequences if all needed rows stay.
use Rattle.std.proofs.Common.{◌≡◌, List, [], ◌∷◌, ◌++◌, refl, sym, ap, ◌∙◌, Bool, true, inl, inr}
use Rattle.std.specs.Prelude.{map, ◌&&◌, ◌==◌, if◌then◌else◌}
use Rattle.std.specs.List.{flat_map, list_all}
use Rattle.ldv_value.proofs.Booleans.{and-parts}
use Rattle.ldv_value.proofs.Cases.{cases-bool}
use Rattle.ldv_value.proofs.Lists.{list_all-append}
use Rattle.ldv_value.proofs.SameBytes.{bytes_eq-true, nat_eq-true}
use Rattle.sql_laws.specs.Types.{Rule}
use Rattle.sql_model.specs.QueryAnswer.{Origin, AnswerRow, lineage_of}
use Rattle.sql_model.specs.Needs.{NeededRow, needed_by, is_same_row, is_earlier_row, put_row, sorted_needs}
use Rattle.sql_laws.specs.QueryLaw.{Keep, KeepsNeeded}
use Rattle.sql_model.specs.Scope.{same_text}

-- ---- a test of all items

module _ {X : Type 0} (p : X → Bool) where
  pub all_flat : {Y : Type 0} (f : Y → List X) (ys : List Y)
      → list_all p (flat_map f ys) ≡ list_all (λ y. list_all p (f y)) ys
  all_flat f [] = refl
  all_flat f (y ∷ ys) = list_all-append p (f y) (flat_map f ys) ∙ ap (λ (b : Bool). list_all p (f y) && b) (all_flat f ys)

module _ (keep : Keep) where
  -- ---- rows of tables

  abbrev pub kept_origin : Origin → Bool
  kept_origin o = keep o.table o.row

  -- all of them stay
  abbrev pub all_kept : List Origin → Bool
  all_kept os = list_all kept_origin os

  abbrev pub kept_row : AnswerRow → Bool
  kept_row row = all_kept row.lineage

  pub lineage_kept : (rows : List AnswerRow) → all_kept (lineage_of rows) ≡ list_all kept_row rows
  lineage_kept rows = all_flat kept_origin (λ row. row.lineage) rows

  -- ---- needed rows

  pub needed_kept : (rule : Rule) (os : List Origin) → KeepsNeeded keep (map (needed_by rule) os) → all_kept os ≡ true
  needed_kept rule [] k = refl
  needed_kept rule (o ∷ os) k = λ j. k.0 j && needed_kept rule os k.1 j

  pub needed_split : (xs ys : List NeededRow) → KeepsNeeded keep (xs ++ ys)
      → KeepsNeeded keep xs × KeepsNeeded keep ys
  needed_split [] ys k = (tt, k)
  needed_split (x ∷ xs) ys k = let more = needed_split xs ys k.1 in ((k.0, more.0), more.1)

  kept_same : (n m : NeededRow) → is_same_row n m ≡ true → keep n.table n.row ≡ true → keep m.table m.row ≡ true
  kept_same n m same stays =
      let both = and-parts (same_text n.table m.table) (n.row == m.row) same in
      let tables : n.table ≡ m.table = bytes_eq-true n.table m.table both.0 in
      let rows : n.row ≡ m.row = nat_eq-true n.row m.row both.1 in
      sym (λ j. keep (tables j) (rows j)) ∙ stays

  kept_put : (n : NeededRow) (ms : List NeededRow) → KeepsNeeded keep (put_row n ms)
      → (keep n.table n.row ≡ true) × KeepsNeeded keep ms
  kept_put n [] k = (k.0, tt)
  kept_put n (m ∷ ms) k = elim (cases-bool (is_same_row n m)) [
    | inl same ↦ let kk : KeepsNeeded keep (n ∷ ms) = rw same at k in (kk.0, (kept_same n m same kk.0, kk.1))
    | inr differs ↦ let k2 : KeepsNeeded keep (if is_earlier_row n m then n ∷ m ∷ ms else m ∷ put_row n ms) = rw differs at k in elim (cases-bool (is_earlier_row n m)) [
      | inl earlier ↦ let kk : KeepsNeeded keep (n ∷ m ∷ ms) = rw earlier at k2 in (kk.0, kk.1)
      | inr later ↦ let kk : KeepsNeeded keep (m ∷ put_row n ms) = rw later at k2 in let more = kept_put n ms kk.1 in (more.0, (kk.0, more.1))
    ]
  ]

  -- a rising list has each row of the list
  pub rising_kept : (ns : List NeededRow) → KeepsNeeded keep (sorted_needs ns) → KeepsNeeded keep ns
  rising_kept [] k = tt
  rising_kept (n ∷ ns) k = let both = kept_put n (sorted_needs ns) k in (both.0, rising_kept ns both.1)
