-- The rows of a generated table, one row more.
use Rattle.std.proofs.Common.{◌≡◌, ℕ, ◌+◌, [], ◌∷◌, ◌++◌, map, arith}
use Rattle.std.specs.List.{range_with_len}
use Rattle.std.proofs.lemmas.List.FromFn.{map-range_with_len_more}
use Rattle.world_json.specs.Generated.{customer_row, order_row}

pub customers_more : (n : ℕ) → map customer_row (range_with_len 0 (n + 1)) ≡ map customer_row (range_with_len 0 n) ++ customer_row n ∷ []
customers_more n = map-range_with_len_more customer_row 0 n n (omega arith)

pub orders_more : (n : ℕ) → map order_row (range_with_len 0 (n + 1)) ≡ map order_row (range_with_len 0 n) ++ order_row n ∷ []
orders_more n = map-range_with_len_more order_row 0 n n (omega arith)
