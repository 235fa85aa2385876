-- The text of an object, member by member.
use Rattle.std.proofs.Common.{◌≡◌, ◌∙◌, ap, ℕ, Bool, true, false, List, [], ◌∷◌, ◌++◌, append_assoc}
use Rattle.std.specs.Prelude.{codes}
use Rattle.json.specs.Print.{quoted}
use Rattle.serde_json.specs.Data.{Data, Members, no_members, member, object}
use Rattle.serde_json.specs.Written.{comma_if, compact_text, members_text}
use Rattle.trace_graph.specs.Graph.{Parts}
use Rattle.prov_export.specs.Types.{Used, Generated, Derived, Informed}
use Rattle.prov_export.specs.Document.{nodes_value, edges_value, relation_name, prov_text}
use Rattle.prov_export.specs.inner.Texts.{name_text, member_text, all_nodes_text, edges_text, all_edges_text}

-- a value after its name
pub named : (to : List ℕ) (later : Bool) (name : List ℕ) (value : Data)
    → (to ++ name_text later name) ++ compact_text value ≡ to ++ member_text later name value
named to later name value =
    append_assoc to (name_text later name) (compact_text value)
    ∙ ap (λ (t : List ℕ). to ++ t)
    (append_assoc (comma_if later) (quoted name ++ 58 ∷ []) (compact_text value)
    ∙ ap (λ (t : List ℕ). comma_if later ++ t) (append_assoc (quoted name) (58 ∷ []) (compact_text value)))

-- the other members after one
pub member_then : (later : Bool) (name : List ℕ) (value : Data) (ms : Members)
    → member_text later name value ++ members_text true ms ≡ members_text later (member name value ms)
member_then later name value ms =
    append_assoc (comma_if later) (quoted name ++ 58 ∷ compact_text value) (members_text true ms)
    ∙ ap (λ (t : List ℕ). comma_if later ++ t) (append_assoc (quoted name) (58 ∷ compact_text value) (members_text true ms))

pub text_step : (to : List ℕ) (later : Bool) (name : List ℕ) (value : Data) (ms : Members)
    → (to ++ member_text later name value) ++ members_text true ms ≡ to ++ members_text later (member name value ms)
text_step to later name value ms =
    append_assoc to (member_text later name value) (members_text true ms)
    ∙ ap (λ (t : List ℕ). to ++ t) (member_then later name value ms)

-- an object after its bracket
pub bracketed : (to : List ℕ) (ms : Members) → (to ++ 123 ∷ []) ++ members_text false ms ≡ to ++ compact_text (object ms)
bracketed to ms = append_assoc to (123 ∷ []) (members_text false ms)

-- ---- a document

glue : (a e u d g i z : List ℕ)
    → ((a ++ e) ++ (u ++ (d ++ (g ++ i)))) ++ z ≡ a ++ (e ++ (u ++ (d ++ (g ++ (i ++ z)))))
glue a e u d g i z =
    append_assoc (a ++ e) (u ++ (d ++ (g ++ i))) z
    ∙ append_assoc a e ((u ++ (d ++ (g ++ i))) ++ z)
    ∙ ap (λ (t : List ℕ). a ++ (e ++ t))
    (append_assoc u (d ++ (g ++ i)) z
    ∙ ap (λ (t : List ℕ). u ++ t) (append_assoc d (g ++ i) z ∙ ap (λ (t : List ℕ). d ++ t) (append_assoc g i z)))

module _ (graph : Parts) where
  informed : Members
  informed = member (relation_name Informed) (edges_value Informed graph) no_members

  generated : Members
  generated = member (relation_name Generated) (edges_value Generated graph) informed

  derived : Members
  derived = member (relation_name Derived) (edges_value Derived graph) generated

  used : Members
  used = member (relation_name Used) (edges_value Used graph) derived

  entity : Members
  entity = member (codes "entity") (nodes_value true graph.nodes) used

  activity : Members
  activity = member (codes "activity") (nodes_value false graph.nodes) entity

  six : member_text false (codes "activity") (nodes_value false graph.nodes)
      ++ (member_text true (codes "entity") (nodes_value true graph.nodes)
      ++ (edges_text Used graph ++ (edges_text Derived graph ++ (edges_text Generated graph ++ (edges_text Informed graph ++ 125 ∷ [])))))
      ≡ members_text false activity
  unfolding informed generated derived used entity activity
  six =
      ap (λ (t : List ℕ). member_text false (codes "activity") (nodes_value false graph.nodes) ++ t)
      (ap (λ (t : List ℕ). member_text true (codes "entity") (nodes_value true graph.nodes) ++ t)
      (ap (λ (t : List ℕ). edges_text Used graph ++ t)
      (ap (λ (t : List ℕ). edges_text Derived graph ++ t)
      (ap (λ (t : List ℕ). edges_text Generated graph ++ t)
      (member_then true (relation_name Informed) (edges_value Informed graph) no_members)
      ∙ member_then true (relation_name Generated) (edges_value Generated graph) informed)
      ∙ member_then true (relation_name Derived) (edges_value Derived graph) generated)
      ∙ member_then true (relation_name Used) (edges_value Used graph) derived)
      ∙ member_then true (codes "entity") (nodes_value true graph.nodes) used)
      ∙ member_then false (codes "activity") (nodes_value false graph.nodes) entity

  -- all of it after its bracket
  pub whole_text : ((123 ∷ [] ++ all_nodes_text graph) ++ all_edges_text graph) ++ 125 ∷ [] ≡ prov_text graph
  unfolding activity entity used derived generated informed
  whole_text =
      ap (λ (t : List ℕ). 123 ∷ t)
      (glue (member_text false (codes "activity") (nodes_value false graph.nodes)) (member_text true (codes "entity") (nodes_value true graph.nodes))
      (edges_text Used graph) (edges_text Derived graph) (edges_text Generated graph) (edges_text Informed graph) (125 ∷ [])
      ∙ six)
