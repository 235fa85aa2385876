-- The nodes of a graph are taken out of its document again.
use Rattle.std.proofs.Common.{◌≡◌, ℕ, zero, suc, ◌+◌, List, [], ◌∷◌, ◌++◌, length, refl, sym, ap, ◌∙◌, subst, Bool, true, false, cond, arith, inl, inr}
use Rattle.std.specs.Prelude.{◌⊎◌, Option, Some, None, option_map, option_and_then, codes, find, ◌==◌, not}
use Rattle.std.specs.Option.{option_or}
use Rattle.ldv_value.proofs.Lists.{find-append}
use Rattle.std.proofs.lemmas.Bool.{cases_Bool, eq-eqb, eqb-true}
use Rattle.serde_json.specs.Data.{Members, no_members, member, put}
use Rattle.run_model.specs.Between.{IsIn}
use Rattle.prov_export.specs.Types.{Node}
use Rattle.prov_export.specs.Document.{place_value, is_kind, with_nodes}
use Rattle.prov_export.specs.Ids.{is_entity, node_id, node_in}
use Rattle.prov_export.specs.Reading.{each_from, is_number, named_at, node_by, number_at}
use Rattle.prov_export.proofs.Entries.{Entry, entries, has_place, put_there, put_keeps, put_from, in_first, in_second, in_either, find_some}
use Rattle.prov_export.proofs.IdLaws.{id_law}
use Rattle.prov_export.proofs.Written.{IsNamed, AreApart, AreNamed}

-- the node at a place
abbrev pub at : List Node → ℕ → Option Node
at [] i = None
at (x ∷ xs) zero = Some x
at (x ∷ xs) (suc i) = at xs i

pub named_in : (xs : List Node) → AreNamed xs → (x : Node) → IsIn x xs → IsNamed x
named_in [] named x is = absurd is
named_in (y ∷ ys) named x (inl same) = subst IsNamed (sym same) named.0
named_in (y ∷ ys) named x (inr more) = named_in ys named.1 x more

pub in_at : (xs : List Node) (i : ℕ) (x : Node) → at xs i ≡ Some x → IsIn x xs
in_at [] i x is = cc
in_at (y ∷ ys) zero x is = let same : y ≡ x = cc in inl (sym same)
in_at (y ∷ ys) (suc i) x is = inr (in_at ys i x is)

-- different nodes have different ids
pub id_apart : (x y : Node) → IsNamed x → IsNamed y → (x ≡ y → ⊥) → node_id x ≡ node_id y → ⊥
id_apart x y nx ny apart same =
    let some : Some x ≡ Some y = sym (id_law x nx) ∙ ap node_in same ∙ id_law y ny in
    let is : x ≡ y = cc in apart is

module _ (kind : Bool) where
  abbrev one_more : ℕ → Node → Members → Members
  one_more place x ms = cond (is_kind kind x) (put (node_id x) (place_value place) ms) ms

  -- ---- what is there comes from a node

  abbrev Comes : ℕ → List Node → Entry → Type 0
  Comes place xs e = (i : ℕ) × ((x : Node) × ((at xs i ≡ Some x) × (e ≡ (node_id x, place_value (place + i)))))

  pub from_nodes : (place : ℕ) (xs : List Node) (ms : Members) (e : Entry) → IsIn e (entries (with_nodes kind place xs ms))
      → IsIn e (entries ms) ⊎ Comes place xs e
  from_nodes place [] ms e is = inl is
  from_nodes place (x ∷ xs) ms e is = by (from_nodes (place + 1) xs (one_more place x ms) e is)
    where
      here : (b : Bool) → IsIn e (entries (cond b (put (node_id x) (place_value place) ms) ms)) → IsIn e (entries ms) ⊎ Comes place (x ∷ xs) e
      here false there = inl there
      here true there = first (put_from (node_id x) (place_value place) ms e there)
        where
          first : (e ≡ (node_id x, place_value place)) ⊎ IsIn e (entries ms) → IsIn e (entries ms) ⊎ Comes place (x ∷ xs) e
          first (inl same) = let sum : place ≡ place + 0 = omega arith in inr (0, (x, (refl, same ∙ λ j. (node_id x, place_value (sum j)))))
          first (inr more) = inl more

      by : IsIn e (entries (one_more place x ms)) ⊎ Comes (place + 1) xs e → IsIn e (entries ms) ⊎ Comes place (x ∷ xs) e
      by (inl there) = here (is_kind kind x) there
      by (inr more) =
          let sum : place + 1 + more.0 ≡ place + suc more.0 = omega arith in
          inr (suc more.0, (more.1.0, (more.1.1.0, more.1.1.1 ∙ λ j. (node_id more.1.0, place_value (sum j)))))

  -- ---- each node of the kind is there

  later_keeps : (place : ℕ) (xs : List Node) (ms : Members) (e : Entry) → ((x : Node) → IsIn x xs → e.0 ≡ node_id x → ⊥)
      → IsIn e (entries ms) → IsIn e (entries (with_nodes kind place xs ms))
  later_keeps place [] ms e apart is = is
  later_keeps place (x ∷ xs) ms e apart is =
      later_keeps (place + 1) xs (one_more place x ms) e (λ y there. apart y (inr there)) (here (is_kind kind x))
    where
      here : (b : Bool) → IsIn e (entries (cond b (put (node_id x) (place_value place) ms) ms))
      here false = is
      here true = put_keeps (node_id x) (place_value place) ms e (apart x (inl refl)) is

  pub to_nodes : (place : ℕ) (xs : List Node) (ms : Members) → AreApart xs → AreNamed xs → (i : ℕ) (x : Node) → at xs i ≡ Some x
      → is_kind kind x ≡ true → IsIn (node_id x, place_value (place + i)) (entries (with_nodes kind place xs ms))
  to_nodes place [] ms apart named i x is of_kind = cc
  to_nodes place (y ∷ ys) ms apart named zero x is of_kind =
      let same : y ≡ x = cc in
      let sum : place ≡ place + 0 = omega arith in
      let kind_y : is_kind kind y ≡ true = ap (is_kind kind) same ∙ of_kind in
      let there : IsIn (node_id y, place_value place) (entries (one_more place y ms)) =
      subst (λ (b : Bool). IsIn (node_id y, place_value place) (entries (cond b (put (node_id y) (place_value place) ms) ms))) (sym kind_y)
      (put_there (node_id y) (place_value place) ms) in
      let kept : IsIn (node_id y, place_value place) (entries (with_nodes kind (place + 1) ys (one_more place y ms))) =
      later_keeps (place + 1) ys (one_more place y ms) (node_id y, place_value place)
      (λ z there. id_apart y z named.0 (named_in ys named.1 z there) (apart.0 z there)) there in
      subst (λ (e : Entry). IsIn e (entries (with_nodes kind (place + 1) ys (one_more place y ms)))) (λ j. (node_id (same j), place_value (sum j))) kept
  to_nodes place (y ∷ ys) ms apart named (suc i) x is of_kind =
      let sum : place + 1 + i ≡ place + suc i = omega arith in
      subst (λ (n : ℕ). IsIn (node_id x, place_value n) (entries (with_nodes kind (place + 1) ys (one_more place y ms)))) sum
      (to_nodes (place + 1) ys (one_more place y ms) apart.1 named.1 i x is of_kind)

-- ---- both kinds

module _ (nodes : List Node) (apart : AreApart nodes) (are_named : AreNamed nodes) where
  abbrev pub all_entries : List Entry
  all_entries = entries (with_nodes true 0 nodes no_members) ++ entries (with_nodes false 0 nodes no_members)

  its_place : (n : ℕ) (id : List ℕ) (m : ℕ) → has_place n (id, place_value m) ≡ (n == m)
  its_place n id m = refl

  there_at : (i : ℕ) (x : Node) → at nodes i ≡ Some x → IsIn (node_id x, place_value i) all_entries
  there_at i x is = elim (cases_Bool (is_entity x)) [
    | inl entity ↦
        in_first (node_id x, place_value i) (entries (with_nodes true 0 nodes no_members)) (entries (with_nodes false 0 nodes no_members))
        (zero_place true (to_nodes true 0 nodes no_members apart are_named i x is entity))
    | inr activity ↦
        in_second (node_id x, place_value i) (entries (with_nodes true 0 nodes no_members)) (entries (with_nodes false 0 nodes no_members))
        (zero_place false (to_nodes false 0 nodes no_members apart are_named i x is (ap not activity)))
  ]
    where
      zero_place : (kind : Bool) → IsIn (node_id x, place_value (0 + i)) (entries (with_nodes kind 0 nodes no_members)) → IsIn (node_id x, place_value i) (entries (with_nodes kind 0 nodes no_members))
      zero_place kind there = let sum : 0 + i ≡ i = omega arith in subst (λ (n : ℕ). IsIn (node_id x, place_value n) (entries (with_nodes kind 0 nodes no_members))) sum there

  -- an entry with a place has the id of the node there
  id_at : (n : ℕ) (x : Node) → at nodes n ≡ Some x → (e : Entry) → IsIn e all_entries → has_place n e ≡ true → e.0 ≡ node_id x
  id_at n x is e there placed =
      by (in_either e (entries (with_nodes true 0 nodes no_members)) (entries (with_nodes false 0 nodes no_members)) there)
    where
      of : Comes true 0 nodes e → e.0 ≡ node_id x
      of come =
          let m : ℕ = 0 + come.0 in
          let same : (n == m) ≡ true = sym (its_place n (node_id come.1.0) m) ∙ ap (has_place n) (sym come.1.1.1) ∙ placed in
          let equal : n ≡ come.0 = eqb-true n m same ∙ omega arith in
          let some : Some come.1.0 ≡ Some x = sym come.1.1.0 ∙ ap (at nodes) (sym equal) ∙ is in
          let node : come.1.0 ≡ x = cc in
          ap (λ (y : Entry). y.0) come.1.1.1 ∙ ap node_id node

      one : IsIn e (entries no_members) ⊎ Comes true 0 nodes e → e.0 ≡ node_id x
      one (inl never) = absurd never
      one (inr come) = of come

      by : IsIn e (entries (with_nodes true 0 nodes no_members)) ⊎ IsIn e (entries (with_nodes false 0 nodes no_members)) → e.0 ≡ node_id x
      by (inl first) = one (from_nodes true 0 nodes no_members e first)
      by (inr second) = one (from_nodes false 0 nodes no_members e second)

  -- the name of the first member with a place is that of the node there
  first_named : (n : ℕ) (es : Members) → option_map (λ (e : Entry). e.0) (find (has_place n) (entries es)) ≡ named_at n es
  first_named n no_members = refl
  first_named n (member k d ms) = by (is_number n (number_at (codes "ldv:place") d)) (first_named n ms)
    where
      by : (b : Bool) → option_map (λ (e : Entry). e.0) (find (has_place n) (entries ms)) ≡ named_at n ms
          → option_map (λ (e : Entry). e.0) (cond b (Some (k, d)) (find (has_place n) (entries ms))) ≡ option_or (cond b (Some k) None) (named_at n ms)
      by true rest = refl
      by false rest = rest

  first_of_two : (n : ℕ) (xs ys : Members)
      → option_map (λ (e : Entry). e.0) (find (has_place n) (entries xs ++ entries ys)) ≡ option_or (named_at n xs) (named_at n ys)
  first_of_two n xs ys =
      ap (option_map (λ (e : Entry). e.0)) (find-append (has_place n) (entries xs) (entries ys))
      ∙ by (find (has_place n) (entries xs)) (find (has_place n) (entries ys))
      ∙ (λ j. option_or (first_named n xs j) (first_named n ys j))
    where
      by : (o p : Option Entry) → option_map (λ (e : Entry). e.0) (option_or o p) ≡ option_or (option_map (λ (e : Entry). e.0) o) (option_map (λ (e : Entry). e.0) p)
      by None p = refl
      by (Some e) p = refl

  abbrev pub names : ℕ → Option (List ℕ)
  names n = option_or (named_at n (with_nodes true 0 nodes no_members)) (named_at n (with_nodes false 0 nodes no_members))

  node_found : (n : ℕ) (x : Node) → at nodes n ≡ Some x → node_by names n ≡ Some x
  node_found n x is =
      let here : has_place n (node_id x, place_value n) ≡ true = its_place n (node_id x) n ∙ eq-eqb n n refl in
      let found = find_some (has_place n) all_entries (node_id x, place_value n) (there_at n x is) here in
      let id : found.0.0 ≡ node_id x = id_at n x is found.0 found.1.1.0 found.1.1.1 in
      let named : names n ≡ Some found.0.0 =
      sym (first_of_two n (with_nodes true 0 nodes no_members) (with_nodes false 0 nodes no_members))
      ∙ ap (option_map (λ (e : Entry). e.0)) found.1.0 in
      ap (option_and_then node_in) named ∙ ap node_in id ∙ id_law x (named_in nodes are_named x (in_at nodes n x is))

  from_place : (n : ℕ) (xs : List Node) → ((i : ℕ) (x : Node) → at xs i ≡ Some x → at nodes (n + i) ≡ Some x) → each_from (node_by names) n (length xs) ≡ Some xs
  from_place n [] are = refl
  from_place n (x ∷ xs) are =
      let zero_sum : n ≡ n + 0 = omega arith in
      let first : node_by names n ≡ Some x = node_found n x (ap (at nodes) zero_sum ∙ are 0 x refl) in
      let rest : each_from (node_by names) (n + 1) (length xs) ≡ Some xs =
      from_place (n + 1) xs (λ i y is. let sum : n + 1 + i ≡ n + suc i = omega arith in ap (at nodes) sum ∙ are (suc i) y is) in
      rw (first, rest) refl

  -- the nodes are those of the document's entries, in their places
  pub nodes_back : each_from (node_by names) 0 (length nodes) ≡ Some nodes
  nodes_back = from_place 0 nodes (λ i x is. let sum : 0 + i ≡ i = omega arith in ap (at nodes) sum ∙ is)
