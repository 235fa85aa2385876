-- Two sorted lists, merged by the keys of their items.
use Rattle.std.specs.Prelude.{List, [], ◌∷◌, Option, Some, None}
use Rattle.std.specs.Option.{option_or}
use Rattle.std.specs.Ordering.{match_ordering}
use Rattle.std.specs.declared.cmp.Ordering.{Ordering}

module _ {X : Type 0} (cmp : X → X → Ordering) where
  -- ---- the items of both

  module _ (both : X → X → X) where
    -- an item of the first list among those of the second, and then the rest of the first
    abbrev pub merged_into : X → (List X → List X) → List X → List X
    merged_into x rest [] = x ∷ rest []
    merged_into x rest (y ∷ ys) =
        match_ordering (cmp x y) (x ∷ rest (y ∷ ys)) (both x y ∷ rest ys) (y ∷ merged_into x rest ys)

    -- the items of two sorted lists, sorted; of two of one key, what is made of both
    abbrev pub merged : List X → List X → List X
    merged [] ys = ys
    merged (x ∷ xs) ys = merged_into x (λ zs. merged xs zs) ys

  -- ---- where both have an item of one key

  module _ {C : Type 0} (differ : X → X → Option C) where
    abbrev pub clash_into : X → (List X → Option C) → List X → Option C
    clash_into x rest [] = rest []
    clash_into x rest (y ∷ ys) =
        match_ordering (cmp x y) (rest (y ∷ ys)) (option_or (differ x y) (rest ys)) (clash_into x rest ys)

    -- the first in which two items of one key differ
    abbrev pub first_clash : List X → List X → Option C
    first_clash [] ys = None
    first_clash (x ∷ xs) ys = clash_into x (λ zs. first_clash xs zs) ys

-- ---- a list whose first item was taken out; without it nothing was left

abbrev pub queue_with : {X : Type 0} → Option X → List X → List X
queue_with None xs = []
queue_with (Some x) xs = x ∷ xs
