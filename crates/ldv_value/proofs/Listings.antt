-- Items under keys, and the addition of one item.
use Rattle.std.proofs.Common.{◌≡◌, ◌∙◌, sym, ap, refl, Bool, true, false, cond, List, [], ◌∷◌, ◌++◌, append_assoc, inl, inr}
use Rattle.std.specs.Prelude.{filter, unwrap_or, Option, Some}
use Rattle.std.proofs.lemmas.Bool.{cases_Bool}
use Rattle.std.specs.BTreeMap as tree
use Rattle.std.specs.BTreeMap.{BTreeMap, is_at}
use Rattle.std.specs.Cmp.{IsTotalOrder}
use Rattle.std.specs.Ordering.{is_eq}
use Rattle.std.specs.declared.cmp.Ordering.{Ordering}
use Rattle.std.specs.declared.cmp.Ordering.TheVariants.{Equal}
use Rattle.ldv_value.proofs.Orderings.{is_eq-true}
use Rattle.ldv_value.specs.Listing.{listed, item_added}
use Rattle.ldv_value.specs.declared.refs_by.RefsBy.{RefsBy}

-- an item that passes a test goes from those that are left to those that are there
pub moved : {X : Type 0} (b : Bool) (items more : List X) (item : X) → cond b (items ++ item ∷ []) items ++ more ≡ items ++ cond b (item ∷ more) more
moved true items more item = append_assoc items (item ∷ []) more
moved false items more item = refl

module _ {K X : Type 0} (cmp : K → K → Ordering) where
  abbrev items_at : BTreeMap K (List X) → K → List X
  items_at map key = unwrap_or (tree.get cmp map key) []

  -- keys that tie have the same items
  same_at : IsTotalOrder cmp → (map : BTreeMap K (List X)) (a b : K) → cmp a b ≡ Equal → items_at map a ≡ items_at map b
  same_at total map a b tie = λ j. unwrap_or (tree.get_by (λ k. total.congr a b k tie j) map) []

  -- the items under a key are put back with one more
  pub put_item : IsTotalOrder cmp → (m n : BTreeMap K (List X)) (key : K) (item : X) (items more : List X) → items ≡ items_at m key → more ≡ items ++ item ∷ []
      → ((v : K) → tree.get cmp n v ≡ cond (is_at (cmp key) v) (Some more) (tree.get cmp m v))
      → (v : K) → items_at n v ≡ item_added cmp key item v (items_at m v)
  put_item total m n key item items more is made put v = elim (cases_Bool (is_eq (cmp key v))) [
    | inl hit ↦
        ap (λ (o : Option (List X)). unwrap_or o []) (put v ∙ ap (λ b. cond b (Some more) (tree.get cmp m v)) hit)
        ∙ made
        ∙ ap (λ l. l ++ item ∷ []) (is ∙ same_at total m key v (is_eq-true (cmp key v) hit))
        ∙ ap (λ b. cond b (items_at m v ++ item ∷ []) (items_at m v)) (sym hit)
    | inr miss ↦
        ap (λ (o : Option (List X)). unwrap_or o []) (put v ∙ ap (λ b. cond b (Some more) (tree.get cmp m v)) miss)
        ∙ ap (λ b. cond b (items_at m v ++ item ∷ []) (items_at m v)) (sym miss)
  ]

  -- the items under a key are put back as they were
  pub put_same : IsTotalOrder cmp → (m n : BTreeMap K (List X)) (key : K) (items more : List X) → items ≡ items_at m key → more ≡ items
      → ((v : K) → tree.get cmp n v ≡ cond (is_at (cmp key) v) (Some more) (tree.get cmp m v))
      → (v : K) → items_at n v ≡ items_at m v
  put_same total m n key items more is same put v = elim (cases_Bool (is_eq (cmp key v))) [
    | inl hit ↦
        ap (λ (o : Option (List X)). unwrap_or o []) (put v ∙ ap (λ b. cond b (Some more) (tree.get cmp m v)) hit)
        ∙ same ∙ is ∙ same_at total m key v (is_eq-true (cmp key v) hit)
    | inr miss ↦ ap (λ (o : Option (List X)). unwrap_or o []) (put v ∙ ap (λ b. cond b (Some more) (tree.get cmp m v)) miss)
  ]

  -- the same of an item under its key
  pub item_listed : (own : X → K) (m n : RefsBy K X) (item : X) (rest : List X) → ((v : K) → listed cmp n v ≡ item_added cmp (own item) item v (listed cmp m v)) → (v : K)
      → listed cmp n v ++ filter (λ x. is_eq (cmp (own x) v)) rest ≡ listed cmp m v ++ filter (λ x. is_eq (cmp (own x) v)) (item ∷ rest)
  item_listed own m n item rest added v =
      ap (λ l. l ++ filter (λ x. is_eq (cmp (own x) v)) rest) (added v)
      ∙ moved (is_eq (cmp (own item) v)) (listed cmp m v) (filter (λ x. is_eq (cmp (own x) v)) rest) item
