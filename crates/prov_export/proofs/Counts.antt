-- How many members the objects of a document have.
use Rattle.std.proofs.Common.{◌≡◌, ℕ, suc, ◌+◌, ◌<◌, ◌≤◌, ◌^◌, List, [], ◌∷◌, length, refl, sym, ap, ◌∙◌, Bool, true, false, cond, arith, Ordering, Less, Equal, Greater, nat_cmp, inl, inr}
use Rattle.std.specs.Prelude.{Some, None, not}
use Rattle.std.specs.Cmp.Lexicographic.{slice_cmp}
use Rattle.std.specs.Ordering.{match_ordering}
use Rattle.serde_json.specs.Data.{Data, Members, no_members, member, put}
use Rattle.serde_json.specs.Find.{get_member}
use Rattle.serde_json.proofs.Views.{get_member-put_other}
use Rattle.run_model.specs.Between.{IsIn}
use Rattle.prov_export.specs.Types.{Node, Edge, Relation, Used, Generated, Derived, Informed}
use Rattle.prov_export.specs.Document.{place_value, is_kind, with_nodes, is_relation, edge_relation, edge_name, edge_value, with_edges}
use Rattle.prov_export.specs.Ids.{is_entity, node_id}
use Rattle.prov_export.specs.Reading.{count}
use Rattle.prov_export.proofs.Edges.{names_apart}
use Rattle.prov_export.proofs.Nodes.{named_in, id_apart}
use Rattle.prov_export.proofs.Written.{AreApart, AreNamed}

-- a name that isn't there is one more
pub put_more : (k : List ℕ) (d : Data) (ms : Members) → get_member k ms ≡ None → count (put k d ms) ≡ suc (count ms)
put_more k d no_members none = refl
put_more k d (member l e ms) none = by (slice_cmp nat_cmp k l) none (λ later. put_more k d ms later)
  where
    by : (o : Ordering) → match_ordering o (get_member k ms) (Some e) (get_member k ms) ≡ None → (get_member k ms ≡ None → count (put k d ms) ≡ suc (count ms))
        → count (match_ordering o (member k d (member l e ms)) (member l d ms) (member l e (put k d ms))) ≡ suc (suc (count ms))
    by Less is more = refl
    by Equal is more = cc
    by Greater is more = ap suc (more is)

-- ---- nodes

abbrev pub kinds_in : Bool → List Node → ℕ
kinds_in kind [] = 0
kinds_in kind (x ∷ xs) = cond (is_kind kind x) (suc (kinds_in kind xs)) (kinds_in kind xs)

pub both_kinds : (xs : List Node) → kinds_in true xs + kinds_in false xs ≡ length xs
both_kinds [] = refl
both_kinds (x ∷ xs) = by (is_entity x) (both_kinds xs)
  where
    by : (b : Bool) → kinds_in true xs + kinds_in false xs ≡ length xs
        → cond b (suc (kinds_in true xs)) (kinds_in true xs) + cond (not b) (suc (kinds_in false xs)) (kinds_in false xs) ≡ suc (length xs)
    by true rest = omega arith
    by false rest = omega arith

pub nodes_counted : (kind : Bool) (place : ℕ) (xs : List Node) (ms : Members) → AreApart xs → AreNamed xs
    → ((x : Node) → IsIn x xs → get_member (node_id x) ms ≡ None)
    → count (with_nodes kind place xs ms) ≡ kinds_in kind xs + count ms
nodes_counted kind place [] ms apart named none = let zero_sum : 0 + count ms ≡ count ms = omega arith in sym zero_sum
nodes_counted kind place (x ∷ xs) ms apart named none = by (is_kind kind x) (λ ns. nodes_counted kind (place + 1) xs ns apart.1 named.1)
  where
    by : (b : Bool)
        → ((ns : Members) → ((y : Node) → IsIn y xs → get_member (node_id y) ns ≡ None) → count (with_nodes kind (place + 1) xs ns) ≡ kinds_in kind xs + count ns)
        → count (with_nodes kind (place + 1) xs (cond b (put (node_id x) (place_value place) ms) ms)) ≡ cond b (suc (kinds_in kind xs)) (kinds_in kind xs) + count ms
    by false later = later ms (λ y is. none y (inr is))
    by true later =
        let more : count (put (node_id x) (place_value place) ms) ≡ suc (count ms) = put_more (node_id x) (place_value place) ms (none x (inl refl)) in
        let sum : kinds_in kind xs + suc (count ms) ≡ suc (kinds_in kind xs) + count ms = omega arith in
        later (put (node_id x) (place_value place) ms)
        (λ y is. get_member-put_other (node_id y) (node_id x) (place_value place) ms (λ same. id_apart x y named.0 (named_in xs named.1 y is) (apart.0 y is) (sym same)) ∙ none y (inr is))
        ∙ ap (λ (n : ℕ). kinds_in kind xs + n) more ∙ sum

-- ---- edges

module _ (nodes : List Node) where
  abbrev pub relations_in : Relation → List Edge → ℕ
  relations_in relation [] = 0
  relations_in relation (e ∷ es) = cond (is_relation relation (edge_relation nodes e)) (suc (relations_in relation es)) (relations_in relation es)

  pub all_relations : (es : List Edge) → relations_in Used es + (relations_in Generated es + (relations_in Derived es + relations_in Informed es)) ≡ length es
  all_relations [] = refl
  all_relations (e ∷ es) = by (edge_relation nodes e) (all_relations es)
    where
      by : (r : Relation) → relations_in Used es + (relations_in Generated es + (relations_in Derived es + relations_in Informed es)) ≡ length es
          → cond (is_relation Used r) (suc (relations_in Used es)) (relations_in Used es)
          + (cond (is_relation Generated r) (suc (relations_in Generated es)) (relations_in Generated es)
          + (cond (is_relation Derived r) (suc (relations_in Derived es)) (relations_in Derived es)
          + cond (is_relation Informed r) (suc (relations_in Informed es)) (relations_in Informed es))) ≡ suc (length es)
      by Used rest = omega arith
      by Generated rest = omega arith
      by Derived rest = omega arith
      by Informed rest = omega arith

  pub edges_counted : (relation : Relation) (number : ℕ) (es : List Edge) (ms : Members) → number + length es ≤ 2 ^ 64
      → ((m : ℕ) → number ≤ m → m < 2 ^ 64 → get_member (edge_name m) ms ≡ None)
      → count (with_edges relation nodes number es ms) ≡ relations_in relation es + count ms
  edges_counted relation number [] ms fits none = let zero_sum : 0 + count ms ≡ count ms = omega arith in sym zero_sum
  edges_counted relation number (e ∷ es) ms fits none = by (is_relation relation (edge_relation nodes e)) (λ ns. edges_counted relation (number + 1) es ns (omega arith))
    where
      by : (b : Bool)
          → ((ns : Members) → ((m : ℕ) → number + 1 ≤ m → m < 2 ^ 64 → get_member (edge_name m) ns ≡ None) → count (with_edges relation nodes (number + 1) es ns) ≡ relations_in relation es + count ns)
          → count (with_edges relation nodes (number + 1) es (cond b (put (edge_name number) (edge_value relation nodes e) ms) ms))
          ≡ cond b (suc (relations_in relation es)) (relations_in relation es) + count ms
      by false later = later ms (λ m above small. none m (omega arith) small)
      by true later =
          let more : count (put (edge_name number) (edge_value relation nodes e) ms) ≡ suc (count ms) = put_more (edge_name number) (edge_value relation nodes e) ms (none number (omega arith) (omega arith)) in
          let sum : relations_in relation es + suc (count ms) ≡ suc (relations_in relation es) + count ms = omega arith in
          later (put (edge_name number) (edge_value relation nodes e) ms)
          (λ m above small. get_member-put_other (edge_name m) (edge_name number) (edge_value relation nodes e) ms (λ same. names_apart number m (omega arith) small (sym same)) ∙ none m (omega arith) small)
          ∙ ap (λ (n : ℕ). relations_in relation es + n) more ∙ sum
