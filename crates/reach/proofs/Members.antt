-- The members of lists: with one item more, filtered, mapped, and sorted.
use Rattle.std.proofs.Common.{◌≡◌, ◌∙◌, sym, ap, subst, refl, inl, inr, ◌⊎◌, arith, ℕ, ◌<◌, zero, suc, Bool, true, false, cond}
use Rattle.std.proofs.Common.{List, [], ◌∷◌, length, get_or, Option, Some, None}
use Rattle.std.specs.Prelude.{Contains, fold}
use Rattle.std.specs.List.{filter, filter_map, cons_option}
use Rattle.std.specs.Ordering.{match_ordering}
use Rattle.std.specs.declared.cmp.Ordering.{Ordering}
use Rattle.std.specs.declared.cmp.Ordering.TheVariants.{Less, Equal, Greater}
use Rattle.std.proofs.lemmas.Bool.{false≢true}
use Rattle.std.proofs.lemmas.Map.Lookups.{CmpEqualImpliesEq}
use Rattle.reach.specs.Types.{Node}
use Rattle.reach.specs.Order.{node_cmp}
use Rattle.reach.specs.Found.{with_node}

module _ {X : Type 0} where
  pub in_nil : {P : Type 0} (x : X) → Contains [] x → P
  in_nil x at = absurd (omega (arith, at.1))

  pub in_head : (x : X) (xs : List X) → Contains (x ∷ xs) x
  in_head x xs = (0, omega arith, refl)

  pub in_tail : (y : X) (ys : List X) (x : X) → Contains ys x → Contains (y ∷ ys) x
  in_tail y ys x at = (suc at.0, omega (arith, at.1), at.2)

  pub in_cons : (y : X) (ys : List X) (x : X) → Contains (y ∷ ys) x → (y ≡ x) ⊎ Contains ys x
  in_cons y ys x at = by at.0 at.1 at.2
    where
      by : (k : ℕ) → k < length (y ∷ ys) → get_or (y ∷ ys) k x ≡ x → (y ≡ x) ⊎ Contains ys x
      by zero lt is = inl is
      by (suc k) lt is = inr (k, omega (arith, lt), is)

  -- in either of two ways
  pub in_same : (y : X) (ys : List X) (x : X) → y ≡ x → Contains (y ∷ ys) x
  in_same y ys x same = subst (λ (z : X). Contains (y ∷ ys) z) same (in_head y ys)

  -- ---- filtered

  pub in_filter : (p : X → Bool) (xs : List X) (x : X) → Contains xs x → p x ≡ true → Contains (filter p xs) x
  in_filter p [] x at passes = in_nil x at
  in_filter p (y ∷ ys) x at passes = by (λ rest. in_filter p ys x rest passes) (p y) refl (in_cons y ys x at)
    where
      by : (Contains ys x → Contains (filter p ys) x) → (b : Bool) → p y ≡ b → (y ≡ x) ⊎ Contains ys x
          → Contains (cond b (y ∷ filter p ys) (filter p ys)) x
      by more true is (inl same) = in_same y (filter p ys) x same
      by more true is (inr rest) = in_tail y (filter p ys) x (more rest)
      by more false is (inl same) = absurd (false≢true (sym is ∙ ap p same ∙ passes))
      by more false is (inr rest) = more rest

  pub from_filter : (p : X → Bool) (xs : List X) (x : X) → Contains (filter p xs) x → Contains xs x × (p x ≡ true)
  from_filter p [] x at = in_nil x at
  from_filter p (y ∷ ys) x at =
      by (λ rest. let found = from_filter p ys x rest in (in_tail y ys x found.0, found.1)) (p y) refl at
    where
      split : (Contains (filter p ys) x → Contains (y ∷ ys) x × (p x ≡ true)) → p y ≡ true → (y ≡ x) ⊎ Contains (filter p ys) x
          → Contains (y ∷ ys) x × (p x ≡ true)
      split more is (inl same) = (in_same y ys x same, sym (ap p same) ∙ is)
      split more is (inr rest) = more rest

      by : (Contains (filter p ys) x → Contains (y ∷ ys) x × (p x ≡ true)) → (b : Bool) → p y ≡ b
          → Contains (cond b (y ∷ filter p ys) (filter p ys)) x → Contains (y ∷ ys) x × (p x ≡ true)
      by more true is there = split more is (in_cons y (filter p ys) x there)
      by more false is there = more there

-- ---- nodes in order, each once

module _ (exact : CmpEqualImpliesEq node_cmp) where
  pub in_put_new : (ns : List Node) (k : Node) → Contains (with_node ns k) k
  in_put_new [] k = in_head k []
  in_put_new (y ∷ ys) k = by (in_put_new ys k) (node_cmp k y) refl
    where
      by : Contains (with_node ys k) k → (o : Ordering) → node_cmp k y ≡ o
          → Contains (match_ordering o (k ∷ y ∷ ys) (y ∷ ys) (y ∷ with_node ys k)) k
      by rest Less is = in_head k (y ∷ ys)
      by rest Equal is = in_same y ys k (sym (exact k y is))
      by rest Greater is = in_tail y (with_node ys k) k rest

  pub in_put_old : (ns : List Node) (k n : Node) → Contains ns n → Contains (with_node ns k) n
  in_put_old [] k n at = in_nil n at
  in_put_old (y ∷ ys) k n at = by (in_put_old ys k n) (node_cmp k y)
    where
      by : (Contains ys n → Contains (with_node ys k) n) → (o : Ordering)
          → Contains (match_ordering o (k ∷ y ∷ ys) (y ∷ ys) (y ∷ with_node ys k)) n
      by more Less = in_tail k (y ∷ ys) n at
      by more Equal = at
      by more Greater = elim (in_cons y ys n at) [
        | inl same ↦ in_same y (with_node ys k) n same
        | inr rest ↦ in_tail y (with_node ys k) n (more rest)
      ]

  pub from_put : (ns : List Node) (k n : Node) → Contains (with_node ns k) n → (k ≡ n) ⊎ Contains ns n
  from_put [] k n at = in_cons k [] n at
  from_put (y ∷ ys) k n at = by (from_put ys k n) (node_cmp k y) at
    where
      more : (k ≡ n) ⊎ Contains ys n → (k ≡ n) ⊎ Contains (y ∷ ys) n
      more (inl same) = inl same
      more (inr rest) = inr (in_tail y ys n rest)

      split : (Contains (with_node ys k) n → (k ≡ n) ⊎ Contains ys n) → (y ≡ n) ⊎ Contains (with_node ys k) n → (k ≡ n) ⊎ Contains (y ∷ ys) n
      split before (inl same) = inr (in_same y ys n same)
      split before (inr rest) = more (before rest)

      by : (Contains (with_node ys k) n → (k ≡ n) ⊎ Contains ys n) → (o : Ordering)
          → Contains (match_ordering o (k ∷ y ∷ ys) (y ∷ ys) (y ∷ with_node ys k)) n → (k ≡ n) ⊎ Contains (y ∷ ys) n
      by before Less there = in_cons k (y ∷ ys) n there
      by before Equal there = inr there
      by before Greater there = split before (in_cons y (with_node ys k) n there)

  pub in_all : (acc ns : List Node) (n : Node) → Contains acc n ⊎ Contains ns n → Contains (fold with_node acc ns) n
  in_all acc [] n (inl at) = at
  in_all acc [] n (inr at) = in_nil n at
  in_all acc (k ∷ ns) n (inl at) = in_all (with_node acc k) ns n (inl (in_put_old acc k n at))
  in_all acc (k ∷ ns) n (inr at) = elim (in_cons k ns n at) [
    | inl same ↦ in_all (with_node acc k) ns n
        (inl (subst (λ (m : Node). Contains (with_node acc k) m) same (in_put_new acc k)))
    | inr rest ↦ in_all (with_node acc k) ns n (inr rest)
  ]

  pub from_all : (acc ns : List Node) (n : Node) → Contains (fold with_node acc ns) n → Contains acc n ⊎ Contains ns n
  from_all acc [] n at = inl at
  from_all acc (k ∷ ns) n at = by (from_all (with_node acc k) ns n at)
    where
      split : (k ≡ n) ⊎ Contains acc n → Contains acc n ⊎ Contains (k ∷ ns) n
      split (inl same) = inr (in_same k ns n same)
      split (inr old) = inl old

      by : Contains (with_node acc k) n ⊎ Contains ns n → Contains acc n ⊎ Contains (k ∷ ns) n
      by (inl put) = split (from_put acc k n put)
      by (inr rest) = inr (in_tail k ns n rest)

-- ---- mapped, where there is something

module _ {X Y : Type 0} (f : X → Option Y) where
  pub in_filter_map : (xs : List X) (x : X) (y : Y) → Contains xs x → f x ≡ Some y → Contains (filter_map f xs) y
  in_filter_map [] x y at is = in_nil x at
  in_filter_map (z ∷ zs) x y at is = by (λ rest. in_filter_map zs x y rest is) (in_cons z zs x at)
    where
      more : (o : Option Y) → Contains (filter_map f zs) y → Contains (cons_option o (filter_map f zs)) y
      more None rest = rest
      more (Some first) rest = in_tail first (filter_map f zs) y rest

      by : (Contains zs x → Contains (filter_map f zs) y) → (z ≡ x) ⊎ Contains zs x → Contains (cons_option (f z) (filter_map f zs)) y
      by before (inl same) = subst (λ (o : Option Y). Contains (cons_option o (filter_map f zs)) y) (sym (ap f same ∙ is)) (in_head y (filter_map f zs))
      by before (inr rest) = more (f z) (before rest)

  pub from_filter_map : (xs : List X) (y : Y) → Contains (filter_map f xs) y → (x : X) × Contains xs x × (f x ≡ Some y)
  from_filter_map [] y at = in_nil y at
  from_filter_map (z ∷ zs) y at = by (from_filter_map zs y) (f z) refl at
    where
      more : (x : X) × Contains zs x × (f x ≡ Some y) → (x : X) × Contains (z ∷ zs) x × (f x ≡ Some y)
      more found = (found.0, in_tail z zs found.0 found.1, found.2)

      split : (Contains (filter_map f zs) y → (x : X) × Contains zs x × (f x ≡ Some y)) → (first : Y) → f z ≡ Some first
          → (first ≡ y) ⊎ Contains (filter_map f zs) y → (x : X) × Contains (z ∷ zs) x × (f x ≡ Some y)
      split before first is (inl same) = (z, in_head z zs, is ∙ ap Some same)
      split before first is (inr rest) = more (before rest)

      by : (Contains (filter_map f zs) y → (x : X) × Contains zs x × (f x ≡ Some y)) → (o : Option Y) → f z ≡ o
          → Contains (cons_option o (filter_map f zs)) y → (x : X) × Contains (z ∷ zs) x × (f x ≡ Some y)
      by before None is there = more (before there)
      by before (Some first) is there = split before first is (in_cons first (filter_map f zs) y there)
