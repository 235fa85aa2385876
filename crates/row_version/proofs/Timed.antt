-- Items with times.
use Rattle.std.proofs.Common.{◌≡◌, ℕ, zero, suc, ◌<◌, ◌≤◌, List, [], ◌∷◌, map, true, false, leb, length, take, get_or, refl, ap, arith}
use Rattle.std.specs.Prelude.{filter, nat_le}

module _ {X Y : Type 0} (since : Y → ℕ) (made : X → Y) where
  -- where what is kept by a time comes before what isn't
  pub kept-in-front : (items : List X) (time i : ℕ)
      → ((k : ℕ) (d : X) → k < i → leb (since (made (get_or items k d))) time ≡ true)
      → ((k : ℕ) (d : X) → i ≤ k → k < length items → leb (since (made (get_or items k d))) time ≡ false)
      → filter (λ (y : Y). nat_le (since y) time) (map made items) ≡ map made (take i items)
  kept-in-front [] time zero early late = refl
  kept-in-front [] time (suc i) early late = refl
  kept-in-front (first ∷ rest) time zero early late =
      let miss : leb (since (made first)) time ≡ false = late 0 first (omega arith) (omega arith) in
      rw miss (kept-in-front rest time zero (λ k d below. absurd (omega arith)) (λ k d from within. late (suc k) d (omega arith) (omega arith)))
  kept-in-front (first ∷ rest) time (suc i) early late =
      let hit : leb (since (made first)) time ≡ true = early 0 first (omega arith) in
      rw hit (ap (λ (l : List Y). made first ∷ l) (kept-in-front rest time i (λ k d below. early (suc k) d (omega arith)) (λ k d from within. late (suc k) d (omega arith) (omega arith))))
