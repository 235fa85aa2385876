-- Stable sorting by an order.
use Rattle.std.specs.Prelude.{List, [], ◌∷◌, if◌then◌else◌}
use Rattle.std.specs.declared.cmp.Ordering.{Ordering}
use Rattle.std.specs.Ordering.{is_gt}

-- before the first item that isn't less
abbrev pub put_sorted : {A : Type 0} → (A → A → Ordering) → A → List A → List A
put_sorted cmp x [] = x ∷ []
put_sorted cmp x (y ∷ ys) = if is_gt (cmp x y) then y ∷ put_sorted cmp x ys else x ∷ y ∷ ys

-- items of which neither is less keep their order
abbrev pub sorted_by : {A : Type 0} → (A → A → Ordering) → List A → List A
sorted_by cmp [] = []
sorted_by cmp (x ∷ xs) = put_sorted cmp x (sorted_by cmp xs)
