-- The edges of a graph are taken out of its document again.
use Rattle.std.proofs.Common.{◌≡◌, ℕ, zero, suc, ◌+◌, ◌<◌, ◌≤◌, ◌^◌, List, [], ◌∷◌, length, drop, refl, sym, ap, ◌∙◌, Bool, true, false, cond, arith, inl, inr}
use Rattle.std.specs.Prelude.{Option, Some, None}
use Rattle.std.proofs.lemmas.Fmt.{decimal_injective}
use Rattle.serde_json.specs.Data.{Members, put}
use Rattle.serde_json.specs.Find.{get_member}
use Rattle.serde_json.proofs.Views.{get_member-put, get_member-put_other}
use Rattle.run_model.specs.Between.{IsIn}
use Rattle.prov_export.specs.Types.{Node, Edge, Relation}
use Rattle.prov_export.specs.Document.{place_value, is_kind, with_nodes, is_relation, edge_relation, edge_name, edge_value, with_edges}
use Rattle.prov_export.specs.Ids.{node_id}
use Rattle.prov_export.proofs.Nodes.{at, named_in, id_apart}
use Rattle.prov_export.proofs.Written.{AreApart, AreNamed}

-- ---- nodes by their ids

module _ (kind : Bool) where
  abbrev node_more : ℕ → Node → Members → Members
  node_more place x ms = cond (is_kind kind x) (put (node_id x) (place_value place) ms) ms

  pub nodes_passed : (place : ℕ) (xs : List Node) (ms : Members) (id : List ℕ) → ((x : Node) → IsIn x xs → id ≡ node_id x → ⊥)
      → get_member id (with_nodes kind place xs ms) ≡ get_member id ms
  nodes_passed place [] ms id apart = refl
  nodes_passed place (x ∷ xs) ms id apart =
      nodes_passed (place + 1) xs (node_more place x ms) id (λ y is. apart y (inr is)) ∙ here (is_kind kind x)
    where
      here : (b : Bool) → get_member id (cond b (put (node_id x) (place_value place) ms) ms) ≡ get_member id ms
      here false = refl
      here true = get_member-put_other id (node_id x) (place_value place) ms (apart x (inl refl))

  pub node_got : (place : ℕ) (xs : List Node) (ms : Members) → AreApart xs → AreNamed xs → (i : ℕ) (x : Node) → at xs i ≡ Some x
      → is_kind kind x ≡ true → get_member (node_id x) (with_nodes kind place xs ms) ≡ Some (place_value (place + i))
  node_got place [] ms apart named i x is of_kind = cc
  node_got place (y ∷ ys) ms apart named zero x is of_kind =
      let same : y ≡ x = cc in
      let sum : place ≡ place + 0 = omega arith in
      let kind_y : is_kind kind y ≡ true = ap (is_kind kind) same ∙ of_kind in
      ap (λ (z : Node). get_member (node_id z) (with_nodes kind (place + 1) ys (node_more place y ms))) (sym same)
      ∙ nodes_passed (place + 1) ys (node_more place y ms) (node_id y) (λ z there. id_apart y z named.0 (named_in ys named.1 z there) (apart.0 z there))
      ∙ ap (λ (b : Bool). get_member (node_id y) (cond b (put (node_id y) (place_value place) ms) ms)) kind_y
      ∙ get_member-put (node_id y) (place_value place) ms
      ∙ ap (λ (n : ℕ). Some (place_value n)) sum
  node_got place (y ∷ ys) ms apart named (suc i) x is of_kind =
      let sum : place + 1 + i ≡ place + suc i = omega arith in
      node_got (place + 1) ys (node_more place y ms) apart.1 named.1 i x is of_kind ∙ ap (λ (n : ℕ). Some (place_value n)) sum

-- ---- edges by their names

pub names_apart : (m n : ℕ) → m < n → n < 2 ^ 64 → edge_name m ≡ edge_name n → ⊥
names_apart m n below small same =
    let equal : m ≡ n = decimal_injective m n (omega arith) small (ap (drop 5) same) in omega arith

-- the edge of a number
abbrev pub edge_nth : List Edge → ℕ → Option Edge
edge_nth [] i = None
edge_nth (e ∷ es) zero = Some e
edge_nth (e ∷ es) (suc i) = edge_nth es i

module _ (relation : Relation) (nodes : List Node) where
  abbrev edge_more : ℕ → Edge → Members → Members
  edge_more number e ms = cond (is_relation relation (edge_relation nodes e)) (put (edge_name number) (edge_value relation nodes e) ms) ms

  -- later edges leave a name as it is
  pub edges_passed : (number : ℕ) (es : List Edge) (ms : Members) (m : ℕ) → m < number → number + length es ≤ 2 ^ 64
      → get_member (edge_name m) (with_edges relation nodes number es ms) ≡ get_member (edge_name m) ms
  edges_passed number [] ms m below fits = refl
  edges_passed number (e ∷ es) ms m below fits =
      edges_passed (number + 1) es (edge_more number e ms) m (omega arith) (omega arith) ∙ here (is_relation relation (edge_relation nodes e))
    where
      here : (b : Bool) → get_member (edge_name m) (cond b (put (edge_name number) (edge_value relation nodes e) ms) ms) ≡ get_member (edge_name m) ms
      here false = refl
      here true = get_member-put_other (edge_name m) (edge_name number) (edge_value relation nodes e) ms (names_apart m number below (omega arith))

  -- an edge is there under its name where it is of the relation
  pub edge_got : (number : ℕ) (es : List Edge) (ms : Members) (i : ℕ) (e : Edge) → edge_nth es i ≡ Some e → number + length es ≤ 2 ^ 64
      → get_member (edge_name (number + i)) ms ≡ None
      → get_member (edge_name (number + i)) (with_edges relation nodes number es ms)
      ≡ cond (is_relation relation (edge_relation nodes e)) (Some (edge_value relation nodes e)) None
  edge_got number [] ms i e is fits none = cc
  edge_got number (d ∷ es) ms zero e is fits none =
      let same : d ≡ e = cc in
      let sum : number ≡ number + 0 = omega arith in
      ap (λ (n : ℕ). get_member (edge_name n) (with_edges relation nodes (number + 1) es (edge_more number d ms))) (sym sum)
      ∙ edges_passed (number + 1) es (edge_more number d ms) number (omega arith) (omega arith)
      ∙ here (is_relation relation (edge_relation nodes d))
      ∙ ap (λ (c : Edge). cond (is_relation relation (edge_relation nodes c)) (Some (edge_value relation nodes c)) None) same
    where
      here : (b : Bool) → get_member (edge_name number) (cond b (put (edge_name number) (edge_value relation nodes d) ms) ms) ≡ cond b (Some (edge_value relation nodes d)) None
      here false = let sum : number ≡ number + 0 = omega arith in ap (λ (n : ℕ). get_member (edge_name n) ms) sum ∙ none
      here true = get_member-put (edge_name number) (edge_value relation nodes d) ms
  edge_got number (d ∷ es) ms (suc i) e is fits none =
      let sum : number + 1 + i ≡ number + suc i = omega arith in
      let still : get_member (edge_name (number + 1 + i)) (edge_more number d ms) ≡ None = here (is_relation relation (edge_relation nodes d)) in
      ap (λ (n : ℕ). get_member (edge_name n) (with_edges relation nodes (number + 1) es (edge_more number d ms))) (sym sum)
      ∙ edge_got (number + 1) es (edge_more number d ms) i e is (omega arith) still
    where
      low : (es : List Edge) (i : ℕ) → edge_nth es i ≡ Some e → i < length es
      low [] i is = cc
      low (c ∷ cs) zero is = omega arith
      low (c ∷ cs) (suc i) is = let less : i < length cs = low cs i is in omega arith

      here : (b : Bool) → get_member (edge_name (number + 1 + i)) (cond b (put (edge_name number) (edge_value relation nodes d) ms) ms) ≡ None
      here false = let sum : number + 1 + i ≡ number + suc i = omega arith in ap (λ (n : ℕ). get_member (edge_name n) ms) sum ∙ none
      here true =
          let sum : number + 1 + i ≡ number + suc i = omega arith in
          let within : i < length es = low es i is in
          get_member-put_other (edge_name (number + 1 + i)) (edge_name number) (edge_value relation nodes d) ms
          (λ same. names_apart number (number + 1 + i) (omega arith) (omega arith) (sym same))
          ∙ ap (λ (n : ℕ). get_member (edge_name n) ms) sum ∙ none
