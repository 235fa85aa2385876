-- The kinds of items and of unions, computed from the left.
use Rattle.std.proofs.Common.{◌≡◌, ◌≢◌, suc, List, [], ◌∷◌, ◌++◌, length, ap, sym, ◌∙◌, refl, append_assoc}
use Rattle.std.specs.Prelude.{Option, Some, None, option_map, option_and_then}
use Rattle.std.proofs.lemmas.List.{append-nil}
use Rattle.sql_model.specs.declared.kind.Kind.{Kind}
use Rattle.sql_model.specs.declared.statement.Item.{Item}
use Rattle.sql_model.specs.Kinds.{group_kind}
use Rattle.sql_model.specs.Refusals.{kind_of_item, kinds_of_items, union_kind, union_kinds}
use Rattle.sql_model.specs.Scope.{InScope}

regroup : (made : List Kind) (k : Kind) (o : Option (List Kind)) → option_map (λ ks. (made ++ k ∷ []) ++ ks) o ≡ option_map (λ ks. made ++ ks) (option_map (λ ks. k ∷ ks) o)
regroup made k None = refl
regroup made k (Some ks) = ap Some (append_assoc made (k ∷ []) ks)

onto_nothing : (o : Option (List Kind)) → option_map (λ ks. [] ++ ks) o ≡ o
onto_nothing None = refl
onto_nothing (Some ks) = refl

-- ---- items

abbrev pub kinds_onto : List InScope → List Kind → List Item → Option (List Kind)
kinds_onto scope made [] = Some made
kinds_onto scope made (item ∷ items) = option_and_then (λ k. kinds_onto scope (made ++ k ∷ []) items) (kind_of_item (group_kind scope item.expr))

module _ (scope : List InScope) where
  one_more : (items : List Item) → ((made : List Kind) → kinds_onto scope made items ≡ option_map (λ ks. made ++ ks) (kinds_of_items scope items)) → (made : List Kind) (o : Option Kind) → option_and_then (λ k. kinds_onto scope (made ++ k ∷ []) items) o ≡ option_map (λ ks. made ++ ks) (option_and_then (λ k. option_map (λ ks. k ∷ ks) (kinds_of_items scope items)) o)
  one_more items before made None = refl
  one_more items before made (Some k) = before (made ++ k ∷ []) ∙ regroup made k (kinds_of_items scope items)

  kinds_onto-from : (items : List Item) (made : List Kind) → kinds_onto scope made items ≡ option_map (λ ks. made ++ ks) (kinds_of_items scope items)
  kinds_onto-from [] made = ap Some (sym (append-nil made))
  kinds_onto-from (item ∷ items) made = one_more items (kinds_onto-from items) made (kind_of_item (group_kind scope item.expr))

  pub kinds_onto_empty : (items : List Item) → kinds_onto scope [] items ≡ kinds_of_items scope items
  kinds_onto_empty items = kinds_onto-from items [] ∙ onto_nothing (kinds_of_items scope items)

-- ---- unions

abbrev pub union_onto : List Kind → List Kind → List Kind → Option (List Kind)
union_onto made [] [] = Some made
union_onto made [] (b ∷ bs) = None
union_onto made (a ∷ as_) [] = None
union_onto made (a ∷ as_) (b ∷ bs) = option_and_then (λ k. union_onto (made ++ k ∷ []) as_ bs) (union_kind a b)

pair_more : (as_ bs : List Kind) → ((made : List Kind) → union_onto made as_ bs ≡ option_map (λ ks. made ++ ks) (union_kinds as_ bs)) → (made : List Kind) (o : Option Kind) → option_and_then (λ k. union_onto (made ++ k ∷ []) as_ bs) o ≡ option_map (λ ks. made ++ ks) (option_and_then (λ k. option_map (λ ks. k ∷ ks) (union_kinds as_ bs)) o)
pair_more as_ bs before made None = refl
pair_more as_ bs before made (Some k) = before (made ++ k ∷ []) ∙ regroup made k (union_kinds as_ bs)

union_onto-from : (as_ bs : List Kind) (made : List Kind) → union_onto made as_ bs ≡ option_map (λ ks. made ++ ks) (union_kinds as_ bs)
union_onto-from [] [] made = ap Some (sym (append-nil made))
union_onto-from [] (b ∷ bs) made = refl
union_onto-from (a ∷ as_) [] made = refl
union_onto-from (a ∷ as_) (b ∷ bs) made = pair_more as_ bs (union_onto-from as_ bs) made (union_kind a b)

pub union_onto_empty : (as_ bs : List Kind) → union_onto [] as_ bs ≡ union_kinds as_ bs
union_onto_empty as_ bs = union_onto-from as_ bs [] ∙ onto_nothing (union_kinds as_ bs)

no_pair : (o : Option Kind) (rest : Option (List Kind)) → rest ≡ None → option_and_then (λ k. option_map (λ ks. k ∷ ks) rest) o ≡ None
no_pair None rest h = refl
no_pair (Some k) rest h = ap (option_map (λ ks. k ∷ ks)) h

pub union_unequal : (as_ bs : List Kind) → length as_ ≢ length bs → union_kinds as_ bs ≡ None
union_unequal [] [] h = absurd (h refl)
union_unequal [] (b ∷ bs) h = refl
union_unequal (a ∷ as_) [] h = refl
union_unequal (a ∷ as_) (b ∷ bs) h = no_pair (union_kind a b) (union_kinds as_ bs) (union_unequal as_ bs (λ e. h (ap suc e)))

pub ruleset union_rules = (union_onto_empty, union_unequal)
