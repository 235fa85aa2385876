-- The picks of one source.
use Rattle.std.proofs.Common.{◌≡◌, ◌∙◌, sym, ap, refl, suc, Bool, true, false, cond, List, [], ◌∷◌, ◌++◌, map, length, append_assoc, append-nil, arith}
use Rattle.std.specs.Prelude.{filter}
use Rattle.predicates.specs.Conditions.{meets}
use Rattle.predicates.specs.declared.placed.BoundExpr.{BoundExpr}
use Rattle.query_eval.specs.inner.Joining.{combos, tests}
use Rattle.query_eval.specs.Picking.{pick_of, meets_row, row_lineage, row_pick, row_picks, source_picks}
use Rattle.query_eval.specs.declared.source.Source.{Source}
use Rattle.query_eval.specs.declared.source.SourceRow.{SourceRow}
use Rattle.sql_model.specs.Scope.{InScope}

-- one item is the list where none is left before it
pub only_item : {X : Type 0} (xs rest : List X) (x : X) → xs ≡ rest ++ x ∷ [] → length rest ≡ 0 → xs ≡ x ∷ []
only_item xs [] x is none = is
only_item xs (y ∷ rest) x is none = let more : length (y ∷ rest) ≡ suc (length rest) = refl in absurd (omega (arith, none, more))

-- an item that passes a test, or doesn't, below a function
pub mapped-kept : {A B : Type 0} (f : A → B) (p : A → Bool) (made new : List B) (x : A) → p x ≡ true → new ≡ made ++ f x ∷ [] → (rest : List A)
    → new ++ map f (filter p rest) ≡ made ++ map f (filter p (x ∷ rest))
mapped-kept {A} {B} f p made new x hit is rest =
    ap (λ (l : List B). l ++ map f (filter p rest)) is
    ∙ append_assoc made (f x ∷ []) (map f (filter p rest))
    ∙ ap (λ b. made ++ map f (cond b (x ∷ filter p rest) (filter p rest))) (sym hit)

pub mapped-left : {A B : Type 0} (f : A → B) (p : A → Bool) (made : List B) (x : A) → p x ≡ false → (rest : List A)
    → made ++ map f (filter p rest) ≡ made ++ map f (filter p (x ∷ rest))
mapped-left f p made x miss rest = ap (λ b. made ++ map f (cond b (x ∷ filter p rest) (filter p rest))) (sym miss)

module _ (scope : List InScope) (conds : List BoundExpr) (keep : Bool) (source : Source) where
  -- the pick of a row is that of the combination of it alone
  same-pick : (row : SourceRow) → row_pick keep source.table row ≡ pick_of keep (source ∷ []) (row ∷ [])
  same-pick row = λ j. record { values = sym (append-nil row.values) j; lineage = row_lineage keep source.table row }

  same-picks : (rows : List SourceRow) → row_picks scope conds keep source.table rows ≡ map (pick_of keep (source ∷ [])) (filter (tests scope conds) (combos (rows ∷ [])))
  same-picks [] = refl
  same-picks (row ∷ rows) =
      by (meets scope conds row.values) (same-picks rows)
      ∙ ap (λ b. map (pick_of keep (source ∷ [])) (cond b ((row ∷ []) ∷ kept) kept)) (sym (ap (meets scope conds) (append-nil row.values)))
    where
      kept : List (List SourceRow)
      kept = filter (tests scope conds) (combos (rows ∷ []))

      by : (b : Bool) → row_picks scope conds keep source.table rows ≡ map (pick_of keep (source ∷ [])) kept
          → map (row_pick keep source.table) (cond b (row ∷ filter (meets_row scope conds) rows) (filter (meets_row scope conds) rows))
          ≡ map (pick_of keep (source ∷ [])) (cond b ((row ∷ []) ∷ kept) kept)
      by true rest = λ j. same-pick row j ∷ rest j
      by false rest = rest

  pub alone-picks : row_picks scope conds keep source.table source.rows ≡ source_picks scope conds keep (source ∷ [])
  alone-picks = same-picks source.rows
