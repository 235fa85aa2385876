-- Numbers under keys, by any order of the keys.
use Rattle.std.proofs.Common.{◌≡◌, ℕ, ◌+◌, inl, inr, true, cond, List, ◌∷◌, refl, ap, sym, subst, ◌∙◌, Option, Some, None}
use Rattle.std.specs.Prelude.{IsSome}
use Rattle.std.specs.Option.{option_map, option_or}
use Rattle.std.specs.Map.{lookup}
use Rattle.std.specs.BTreeMap.{BTreeMap, get, get_by, is_at}
use Rattle.std.specs.Cmp.{IsTotalOrder, eq_by_cmp_equiv}
use Rattle.std.specs.declared.cmp.Ordering.{Ordering}
use Rattle.std.proofs.lemmas.Bool.{cases_Bool}
use Rattle.ldv_value.proofs.Orderings.{is_eq-true}
use Rattle.table_store.specs.KeyIndex.{in_place}

pub some_now : {o : Option ℕ} (n : ℕ) → o ≡ Some n → IsSome o
some_now n is = subst (λ (o : Option ℕ). IsSome o) (sym is) refl

pub some_kept : (old new : Option ℕ) → ((n : ℕ) → old ≡ Some n → new ≡ Some n) → IsSome old → IsSome new
some_kept None new keeps some = cc
some_kept (Some n) new keeps some = some_now n (keeps n refl)

-- what a key has once its place is entered
abbrev pub entered : ℕ → Option ℕ → Option ℕ → Option ℕ
entered next place held = option_or (option_map (λ n. next + n) place) held

module _ {K : Type 0} (cmp : K → K → Ordering) where
  -- keys that each have a number, or are still to get one
  abbrev pub NumbersLeft : BTreeMap K ℕ → List (K × ℕ) → BTreeMap K ℕ → Type 0
  NumbersLeft other left held = (q : K) → IsSome (get cmp other q) → IsSome (option_or (lookup (is_at (cmp q)) left) (get cmp held q))

  module _ (total : IsTotalOrder cmp) where
    -- keys that tie have the same number
    same_at : (m : BTreeMap K ℕ) (a b : K) → is_at (cmp a) b ≡ true → get cmp m a ≡ get cmp m b
    same_at m a b tie = ap (λ (f : K → Ordering). get_by f m) (λ j q. total.congr a b q (is_eq-true (cmp a b) tie) j)

    at_itself : (k : K) → is_at (cmp k) k ≡ true
    at_itself k = (eq_by_cmp_equiv total).refl k

    -- ---- a key that is put

    module _ (old new : BTreeMap K ℕ) (k : K) (number : ℕ) (put : (q : K) → get cmp new q ≡ cond (is_at (cmp k) q) (Some number) (get cmp old q)) where
      pub put_at : get cmp new k ≡ Some number
      put_at = put k ∙ ap (λ b. cond b (Some number) (get cmp old k)) (at_itself k)

      pub put_keeps : get cmp old k ≡ None → (q : K) (n : ℕ) → get cmp old q ≡ Some n → get cmp new q ≡ Some n
      put_keeps none q n is = elim (cases_Bool (is_at (cmp k) q)) [
        | inl hit ↦ let wrong : None ≡ Some n = sym none ∙ same_at old k q hit ∙ is in cc
        | inr miss ↦ put q ∙ ap (λ b. cond b (Some number) (get cmp old q)) miss ∙ is
      ]

    -- ---- a key whose number is changed

    pub set_some : (old new : BTreeMap K ℕ) (k : K) (number was : ℕ) → Some was ≡ get cmp old k → ((q : K) → get cmp new q ≡ cond (is_at (cmp k) q) (Some number) (get cmp old q))
        → (q : K) → get cmp new q ≡ cond (is_at (cmp k) q) (in_place (Some number) (get cmp old q)) (get cmp old q)
    set_some old new k number was some put q = put q ∙ elim (cases_Bool (is_at (cmp k) q)) [
      | inl hit ↦ ap (λ b. cond b (Some number) (get cmp old q)) hit
          ∙ ap (in_place (Some number)) (some ∙ same_at old k q hit)
          ∙ sym (ap (λ b. cond b (in_place (Some number) (get cmp old q)) (get cmp old q)) hit)
      | inr miss ↦ ap (λ b. cond b (Some number) (get cmp old q)) miss
          ∙ sym (ap (λ b. cond b (in_place (Some number) (get cmp old q)) (get cmp old q)) miss)
    ]

    pub set_none : (old new : BTreeMap K ℕ) (k : K) (number : ℕ) → new ≡ old → None ≡ get cmp old k → (q : K) → get cmp new q ≡ cond (is_at (cmp k) q) (in_place (Some number) (get cmp old q)) (get cmp old q)
    set_none old new k number same none q = ap (λ (m : BTreeMap K ℕ). get cmp m q) same ∙ elim (cases_Bool (is_at (cmp k) q)) [
      | inl hit ↦
          let gone : None ≡ get cmp old q = none ∙ same_at old k q hit in
          sym gone ∙ ap (in_place (Some number)) gone ∙ sym (ap (λ b. cond b (in_place (Some number) (get cmp old q)) (get cmp old q)) hit)
      | inr miss ↦ sym (ap (λ b. cond b (in_place (Some number) (get cmp old q)) (get cmp old q)) miss)
    ]

    -- ---- keys that get a number each

    pub all_left : (other held : BTreeMap K ℕ) (left : List (K × ℕ)) → left ≡ other.entries → NumbersLeft other left held
    all_left other held left is q some = subst (λ (l : List (K × ℕ)). IsSome (option_or (lookup (is_at (cmp q)) l) (get cmp held q))) (sym is) (by (lookup (is_at (cmp q)) other.entries) some) where
      by : (o : Option ℕ) → IsSome o → IsSome (option_or o (get cmp held q))
      by None none = cc
      by (Some n) some_one = refl

    pub fewer_left : (other old new : BTreeMap K ℕ) (k : K) (number : ℕ) (left rest : List (K × ℕ)) → left ≡ (k, number) ∷ rest → ((q : K) (n : ℕ) → get cmp old q ≡ Some n → get cmp new q ≡ Some n) → IsSome (get cmp new k)
        → NumbersLeft other left old → NumbersLeft other rest new
    fewer_left other old new k number left rest split keeps here all q some = elim (cases_Bool (is_at (cmp q) k)) [
      | inl hit ↦ by_new (lookup (is_at (cmp q)) rest) (subst (λ (o : Option ℕ). IsSome o) (sym (same_at new q k hit)) here)
      | inr miss ↦ by_old (lookup (is_at (cmp q)) rest)
          (subst (λ b. IsSome (option_or (cond b (Some number) (lookup (is_at (cmp q)) rest)) (get cmp old q))) miss (subst (λ (l : List (K × ℕ)). IsSome (option_or (lookup (is_at (cmp q)) l) (get cmp old q))) split (all q some)))
    ] where
      by_new : (o : Option ℕ) → IsSome (get cmp new q) → IsSome (option_or o (get cmp new q))
      by_new None is = is
      by_new (Some n) is = refl

      by_old : (o : Option ℕ) → IsSome (option_or o (get cmp old q)) → IsSome (option_or o (get cmp new q))
      by_old None is = some_kept (get cmp old q) (get cmp new q) (keeps q) is
      by_old (Some n) is = refl

    -- ---- numbers that are taken over one by one

    pub taken_over : (left rest old new : BTreeMap K ℕ) (k : K) (number : ℕ) → get cmp left k ≡ Some number → ((q : K) → get cmp rest q ≡ cond (is_at (cmp k) q) None (get cmp left q))
        → ((q : K) → get cmp new q ≡ cond (is_at (cmp k) q) (in_place (Some number) (get cmp old q)) (get cmp old q))
        → (q : K) → in_place (get cmp rest q) (get cmp new q) ≡ in_place (get cmp left q) (get cmp old q)
    taken_over left rest old new k number here taken set q = (λ j. in_place (taken q j) (set q j)) ∙ elim (cases_Bool (is_at (cmp k) q)) [
      | inl hit ↦ ap (λ b. in_place (cond b None (get cmp left q)) (cond b (in_place (Some number) (get cmp old q)) (get cmp old q))) hit
          ∙ sym (ap (λ (o : Option ℕ). in_place o (get cmp old q)) (sym (same_at left k q hit) ∙ here))
      | inr miss ↦ ap (λ b. in_place (cond b None (get cmp left q)) (cond b (in_place (Some number) (get cmp old q)) (get cmp old q))) miss
    ]

    -- ---- places that are entered one by one

    pub entered_one : (left rest old new : BTreeMap K ℕ) (k : K) (place next : ℕ) → get cmp left k ≡ Some place → ((q : K) → get cmp rest q ≡ cond (is_at (cmp k) q) None (get cmp left q))
        → ((q : K) → get cmp new q ≡ cond (is_at (cmp k) q) (Some (next + place)) (get cmp old q))
        → (q : K) → entered next (get cmp rest q) (get cmp new q) ≡ entered next (get cmp left q) (get cmp old q)
    entered_one left rest old new k place next here taken put q = (λ j. entered next (taken q j) (put q j)) ∙ elim (cases_Bool (is_at (cmp k) q)) [
      | inl hit ↦ ap (λ b. entered next (cond b None (get cmp left q)) (cond b (Some (next + place)) (get cmp old q))) hit
          ∙ sym (ap (λ (o : Option ℕ). entered next o (get cmp old q)) (sym (same_at left k q hit) ∙ here))
      | inr miss ↦ ap (λ b. entered next (cond b None (get cmp left q)) (cond b (Some (next + place)) (get cmp old q))) miss
    ]

    pub entered_others : (places left old new : BTreeMap K ℕ) (k : K) (place next : ℕ) → get cmp left k ≡ Some place → ((q : K) (n : ℕ) → get cmp left q ≡ Some n → get cmp places q ≡ Some n)
        → ((q : K) → get cmp new q ≡ cond (is_at (cmp k) q) (Some (next + place)) (get cmp old q))
        → (q : K) → get cmp places q ≡ None → get cmp new q ≡ get cmp old q
    entered_others places left old new k place next here fewer put q none = put q ∙ elim (cases_Bool (is_at (cmp k) q)) [
      | inl hit ↦ let wrong : None ≡ Some place = sym none ∙ sym (same_at places k q hit) ∙ fewer k place here in cc
      | inr miss ↦ ap (λ b. cond b (Some (next + place)) (get cmp old q)) miss
    ]

    pub still_fewer : (places left rest : BTreeMap K ℕ) (k : K) → ((q : K) → get cmp rest q ≡ cond (is_at (cmp k) q) None (get cmp left q)) → ((q : K) (n : ℕ) → get cmp left q ≡ Some n → get cmp places q ≡ Some n)
        → (q : K) (n : ℕ) → get cmp rest q ≡ Some n → get cmp places q ≡ Some n
    still_fewer places left rest k taken fewer q n is = elim (cases_Bool (is_at (cmp k) q)) [
      | inl hit ↦ let wrong : None ≡ Some n = sym (taken q ∙ ap (λ b. cond b None (get cmp left q)) hit) ∙ is in cc
      | inr miss ↦ fewer q n (sym (taken q ∙ ap (λ b. cond b None (get cmp left q)) miss) ∙ is)
    ]
