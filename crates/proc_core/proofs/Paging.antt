-- Items by slot, in pages: what is there after one was put, and the list of the values of variables.
use Rattle.std.proofs.Common.{◌≡◌, ◌≢◌, ℕ, zero, suc, ◌+◌, ◌/◌, ◌%◌, ◌<◌, ◌≤◌, List, [], ◌∷◌, ◌++◌, length, refl, sym, ap, ◌∙◌, inl, inr, arith}
use Rattle.std.specs.Prelude.{Option, Some, None, slice_get, slice_set, replicate}
use Rattle.std.proofs.lemmas.Bool.{cases_eq}
use Rattle.std.proofs.lemmas.List.{set_past}
use Rattle.std.proofs.lemmas.Option.{slice_get_past}
use Rattle.sql_model.specs.Meaning.{or_null}
use Rattle.proc_core.specs.Types.{Value, Null}
use Rattle.proc_core.specs.inner.Paged.{flatten_option, or_empty, item_at, page_at, item_in, value_in, each_from}
use Rattle.proc_core.proofs.FlagLaws.{get-set_same, get-set_other}

-- ---- pages

module _ {X : Type 0} where
  -- room that is made holds nothing
  pub push_none : (page : List (Option X)) (i : ℕ) → item_at (page ++ None ∷ []) i ≡ item_at page i
  push_none [] zero = refl
  push_none [] (suc i) = refl
  push_none (x ∷ xs) zero = refl
  push_none (x ∷ xs) (suc i) = push_none xs i

  pub push_page : (pages : List (List (Option X))) (i : ℕ) → page_at (pages ++ [] ∷ []) i ≡ page_at pages i
  push_page [] zero = refl
  push_page [] (suc i) = refl
  push_page (x ∷ xs) zero = refl
  push_page (x ∷ xs) (suc i) = push_page xs i

  pub put_there : (page new : List (Option X)) (place : ℕ) (item : X) → place < length page → new ≡ slice_set page place (Some item)
      → item_at new place ≡ Some item
  put_there page new place item within is =
      ap (λ (l : List (Option X)). item_at l place) is ∙ ap (flatten_option {X = X}) (get-set_same page place (Some item) within)

  pub put_others : (old page new : List (Option X)) (place : ℕ) (item : X) → ((i : ℕ) → item_at page i ≡ item_at old i)
      → new ≡ slice_set page place (Some item) → (i : ℕ) → i ≢ place → item_at new i ≡ item_at old i
  put_others old page new place item same is i apart =
      ap (λ (l : List (Option X)). item_at l i) is ∙ ap (flatten_option {X = X}) (get-set_other page place i (Some item) apart) ∙ same i

  -- a page that was changed in its place
  pub page_there : (pages new : List (List (Option X))) (place : ℕ) (page : List (Option X)) → place < length pages
      → new ≡ slice_set pages place page → page_at new place ≡ page
  page_there pages new place page within is =
      ap (λ (l : List (List (Option X))). page_at l place) is ∙ ap (or_empty {X = Option X}) (get-set_same pages place page within)

  pub page_others : (pages new : List (List (Option X))) (place : ℕ) (page : List (Option X))
      → new ≡ slice_set pages place page → (i : ℕ) → i ≢ place → page_at new i ≡ page_at pages i
  page_others pages new place page is i apart =
      ap (λ (l : List (List (Option X))). page_at l i) is ∙ ap (or_empty {X = Option X}) (get-set_other pages place i page apart)

  -- a slot is a place of a page
  pub item_there : (new : List (List (Option X))) (slot : ℕ) (item : X)
      → item_at (page_at new (slot / 128)) (slot % 128) ≡ Some item → item_in new slot ≡ Some item
  item_there new slot item is = is

  pub item_others : (old pages new : List (List (Option X))) (slot : ℕ) → ((i : ℕ) → page_at pages i ≡ page_at old i)
      → ((i : ℕ) → i ≢ slot % 128 → item_at (page_at new (slot / 128)) i ≡ item_at (page_at pages (slot / 128)) i)
      → ((i : ℕ) → i ≢ slot / 128 → page_at new i ≡ page_at pages i)
      → (i : ℕ) → i ≢ slot → item_in new i ≡ item_in old i
  item_others old pages new slot made same others i apart = elim (cases_eq (i / 128) (slot / 128)) [
    | inl one ↦
        let place : i % 128 ≢ slot % 128 = λ equal. apart (omega (arith, one, equal)) in
        ap (λ (p : ℕ). item_at (page_at new p) (i % 128)) one ∙ same (i % 128) place
        ∙ ap (λ (p : ℕ). item_at (page_at pages p) (i % 128)) (sym one)
        ∙ ap (λ (l : List (Option X)). item_at l (i % 128)) (made (i / 128))
    | inr other ↦ ap (λ (l : List (Option X)). item_at l (i % 128)) (others (i / 128) other ∙ made (i / 128))
  ]

pub ruleset place_rules = (put_there, put_others)

pub ruleset page_rules = (page_there, page_others)

pub ruleset put_rules = (item_there, item_others)

-- ---- the values at each of some slots

each_same : (f g : ℕ → Value) (slot n : ℕ) → ((i : ℕ) → slot ≤ i → f i ≡ g i) → each_from f slot n ≡ each_from g slot n
each_same f g slot zero same = refl
each_same f g slot (suc n) same =
    λ j. same slot (omega arith) j ∷ each_same f g (slot + 1) n (λ i from. same i (omega (arith, from))) j

each_set : (f g : ℕ → Value) (slot n k : ℕ) (v : Value) → k < n → g (slot + k) ≡ v → ((i : ℕ) → i ≢ slot + k → g i ≡ f i)
    → slice_set (each_from f slot n) k v ≡ each_from g slot n
each_set f g slot zero k v less there others = absurd (omega (arith, less))
each_set f g slot (suc n) zero v less there others =
    let place : slot + 0 ≡ slot = omega arith in
    let first : v ≡ g slot = sym there ∙ ap g place in
    λ j. first j ∷ each_same f g (slot + 1) n (λ i from. sym (others i (λ is. absurd (omega (arith, from, is))))) j
each_set f g slot (suc n) (suc k) v less there others =
    let place : slot + 1 + k ≡ slot + suc k = omega arith in
    let first : f slot ≡ g slot = sym (others slot (λ is. absurd (omega (arith, is)))) in
    λ j. first j ∷ each_set f g (slot + 1) n k v (omega (arith, less)) (ap g place ∙ there) (λ i apart. others i (λ is. apart (is ∙ sym place))) j

each_get : (f : ℕ → Value) (slot n k : ℕ) → k < n → slice_get (each_from f slot n) k ≡ Some (f (slot + k))
each_get f slot zero k less = absurd (omega (arith, less))
each_get f slot (suc n) zero less = let place : slot ≡ slot + 0 = omega arith in ap {B = Option Value} (λ (i : ℕ). Some (f i)) place
each_get f slot (suc n) (suc k) less =
    let place : slot + 1 + k ≡ slot + suc k = omega arith in
    each_get f (slot + 1) n k (omega (arith, less)) ∙ ap {B = Option Value} (λ (i : ℕ). Some (f i)) place

each_length : (f : ℕ → Value) (slot n : ℕ) → length (each_from f slot n) ≡ n
each_length f slot zero = refl
each_length f slot (suc n) = omega (arith, each_length f (slot + 1) n)

-- ---- of a process

abbrev Values : Type 0
Values = List (List (Option Value))

none_set : (slot n : ℕ) → each_from (value_in []) slot n ≡ replicate n Null
none_set slot zero = refl
none_set slot (suc n) = ap (λ (l : List Value). Null ∷ l) (none_set (slot + 1) n)

pub none_set_is : (pages : Values) (count : ℕ) → pages ≡ [] → each_from (value_in pages) 0 count ≡ replicate count Null
none_set_is pages count is = ap (λ (ps : Values). each_from (value_in ps) 0 count) is ∙ none_set 0 count

pub get_there : (pages : Values) (count slot : ℕ) (vs : List Value) (v : Value) → slot < count → each_from (value_in pages) 0 count ≡ vs
    → v ≡ value_in pages slot → v ≡ or_null (slice_get vs slot)
get_there pages count slot vs v within seen is =
    let place : 0 + slot ≡ slot = omega arith in
    is ∙ sym (ap (λ (l : List Value). or_null (slice_get l slot)) (sym seen) ∙ ap or_null (each_get (value_in pages) 0 count slot within) ∙ ap (value_in pages) place)

pub get_past : (pages : Values) (count slot : ℕ) (vs : List Value) (v : Value) → count ≤ slot → each_from (value_in pages) 0 count ≡ vs
    → v ≡ Null → v ≡ or_null (slice_get vs slot)
get_past pages count slot vs v past seen is =
    let size : length vs ≤ slot = omega (arith, past, each_length (value_in pages) 0 count, ap length seen) in
    is ∙ sym (ap or_null (slice_get_past vs slot size))

pub ruleset get_rules = (get_there, get_past)

pub set_there : (old new : Values) (count slot : ℕ) (vs : List Value) (v : Value) → slot < count → each_from (value_in old) 0 count ≡ vs
    → item_in new slot ≡ Some v → ((i : ℕ) → i ≢ slot → item_in new i ≡ item_in old i)
    → each_from (value_in new) 0 count ≡ slice_set vs slot v
set_there old new count slot vs v within seen there others =
    let place : 0 + slot ≡ slot = omega arith in
    sym (
    ap (λ (l : List Value). slice_set l slot v) (sym seen)
    ∙ each_set (value_in old) (value_in new) 0 count slot v within (ap (value_in new) place ∙ ap or_null there)
    (λ i apart. ap or_null (others i (λ is. apart (is ∙ sym place))))
    )

pub set_none : (pages : Values) (count slot : ℕ) (vs : List Value) (v : Value) → count ≤ slot → each_from (value_in pages) 0 count ≡ vs
    → each_from (value_in pages) 0 count ≡ slice_set vs slot v
set_none pages count slot vs v past seen =
    let size : length vs ≤ slot = omega (arith, past, each_length (value_in pages) 0 count, ap length seen) in
    seen ∙ sym (set_past vs slot v size)

pub ruleset set_rules = (set_there, set_none)
