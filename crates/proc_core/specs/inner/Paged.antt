-- Items by slot, in pages: a page, and an item of it, is there from the first time that it is needed.
use Rattle.std.specs.Prelude.{ℕ, zero, suc, ◌+◌, ◌/◌, ◌%◌, List, [], ◌∷◌, Option, Some, None, slice_get}
use Rattle.sql_model.specs.Meaning.{or_null}
use Rattle.ldv_value.specs.declared.value.Value.{Value}

abbrev pub flatten_option : {X : Type 0} → Option (Option X) → Option X
flatten_option None = None
flatten_option (Some o) = o

abbrev pub or_empty : {X : Type 0} → Option (List X) → List X
or_empty None = []
or_empty (Some xs) = xs

-- the item at a place of a page
abbrev pub item_at : {X : Type 0} → List (Option X) → ℕ → Option X
item_at page place = flatten_option (slice_get page place)

abbrev pub page_at : {X : Type 0} → List (List (Option X)) → ℕ → List (Option X)
page_at pages place = or_empty (slice_get pages place)

-- the item in a slot
abbrev pub item_in : {X : Type 0} → List (List (Option X)) → ℕ → Option X
item_in pages slot = item_at (page_at pages (slot / 128)) (slot % 128)

-- what is at each of n slots, from one on
abbrev pub each_from : {X : Type 0} → (ℕ → X) → ℕ → ℕ → List X
each_from f slot zero = []
each_from f slot (suc n) = f slot ∷ each_from f (slot + 1) n

-- of a variable, which has NULL where no value was set
abbrev pub value_in : List (List (Option Value)) → ℕ → Value
value_in pages slot = or_null (item_in pages slot)
