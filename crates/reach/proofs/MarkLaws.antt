-- A place is marked if and only if an open edge comes from it.
use Rattle.std.proofs.Common.{◌≡◌, ◌∙◌, sym, ap, subst, refl, inl, inr, ◌⊎◌, arith, ℕ, zero, suc, ◌+◌, ◌<◌, Bool, true, false}
use Rattle.std.proofs.Common.{List, [], ◌∷◌, ◌++◌, length, get_or, set, map, Option, Some, None, Bor}
use Rattle.std.specs.Prelude.{Contains, fold, replicate, slice_get, option_to_list, if◌then◌else◌}
use Rattle.std.proofs.lemmas.Bool.{false≢true, cases_eq}
use Rattle.std.proofs.lemmas.List.Elements.{Contains-append_left, Contains-append_right, Contains-append_cases}
use Rattle.std.proofs.lemmas.List.{append-nil, map-append, get_or-set_same, get_or-set_other, get_or_default, get_or-replicate, length-set, length-replicate}
use Rattle.std.proofs.lemmas.Option.{same_Some, slice_get_read}
use Rattle.reach.specs.Types.{Node, Edge}
use Rattle.reach.specs.Found.{Times, is_open}
use Rattle.reach.specs.Lent.{lent_node}
use Rattle.reach.specs.inner.Marks.{Marks, with_mark, marks_of, is_marked, marked_at, marked_below}
use Rattle.trace_graph.specs.Lent.{node_of}
use Rattle.trace_graph.specs.declared.key.NodeKey.{NodeKey}
use Rattle.reach.proofs.Members.{in_nil, in_head, in_tail, in_cons}

pub mark_read : (marks : Marks) (place : ℕ) (b : Bool) → place < length marks → b ≡ get_or marks place b → b ≡ is_marked marks place
mark_read marks place b within is = is ∙ get_or_default marks place b false within

-- ---- one mark more

pub mark_length : (latest : Times) (marks : Marks) (edge : Edge) → length (with_mark latest marks edge) ≡ length marks
mark_length latest marks edge = by (is_open latest edge)
  where
    by : (b : Bool) → length (if b then set marks edge.source true else marks) ≡ length marks
    by true = length-set marks edge.source true
    by false = refl

-- a mark stays
mark_stays : (latest : Times) (marks : Marks) (edge : Edge) (place : ℕ) → place < length marks → is_marked marks place ≡ true
    → is_marked (with_mark latest marks edge) place ≡ true
mark_stays latest marks edge place within there = by (is_open latest edge)
  where
    put : (edge.source ≡ place) ⊎ (edge.source ≡ place → ⊥) → is_marked (set marks edge.source true) place ≡ true
    put (inl same) = subst (λ (p : ℕ). is_marked (set marks p true) place ≡ true) (sym same) (get_or-set_same marks place true false within)
    put (inr other) = get_or-set_other marks edge.source place true false (λ same. other (sym same)) ∙ there

    by : (b : Bool) → is_marked (if b then set marks edge.source true else marks) place ≡ true
    by true = put (cases_eq edge.source place)
    by false = there

-- an open edge leaves its mark
mark_put : (latest : Times) (marks : Marks) (edge : Edge) (place : ℕ) → place < length marks → is_open latest edge ≡ true → edge.source ≡ place
    → is_marked (with_mark latest marks edge) place ≡ true
mark_put latest marks edge place within opened source =
    ap (λ (b : Bool). is_marked (if b then set marks edge.source true else marks) place) opened
    ∙ subst (λ (p : ℕ). is_marked (set marks p true) place ≡ true) (sym source) (get_or-set_same marks place true false within)

-- ---- all marks

abbrev pub OpenFrom : Times → List Edge → ℕ → Type 0
OpenFrom latest edges place = (e : Edge) × Contains edges e × (is_open latest e ≡ true) × (e.source ≡ place)

open_later : (latest : Times) (e : Edge) (es : List Edge) (place : ℕ) → OpenFrom latest es place → OpenFrom latest (e ∷ es) place
open_later latest e es place found = (found.0, in_tail e es found.0 found.1, found.2, found.3)

mark_from : (latest : Times) (marks : Marks) (edge : Edge) (place : ℕ) → is_marked (with_mark latest marks edge) place ≡ true
    → (is_marked marks place ≡ true) ⊎ ((is_open latest edge ≡ true) × (edge.source ≡ place))
mark_from latest marks edge place there = by (is_open latest edge) refl there
  where
    put : (edge.source ≡ place) ⊎ (edge.source ≡ place → ⊥) → is_open latest edge ≡ true → is_marked (set marks edge.source true) place ≡ true
        → (is_marked marks place ≡ true) ⊎ ((is_open latest edge ≡ true) × (edge.source ≡ place))
    put (inl same) opened is = inr (opened, same)
    put (inr other) opened is = inl (sym (get_or-set_other marks edge.source place true false (λ same. other (sym same))) ∙ is)

    by : (b : Bool) → is_open latest edge ≡ b → is_marked (if b then set marks edge.source true else marks) place ≡ true
        → (is_marked marks place ≡ true) ⊎ ((is_open latest edge ≡ true) × (edge.source ≡ place))
    by true opened is = put (cases_eq edge.source place) opened is
    by false opened is = inl is

marked_from : (latest : Times) (marks : Marks) (edges : List Edge) (place : ℕ) → is_marked (fold (with_mark latest) marks edges) place ≡ true
    → (is_marked marks place ≡ true) ⊎ OpenFrom latest edges place
marked_from latest marks [] place there = inl there
marked_from latest marks (e ∷ es) place there = by (marked_from latest (with_mark latest marks e) es place there)
  where
    one : (is_marked marks place ≡ true) ⊎ ((is_open latest e ≡ true) × (e.source ≡ place)) → (is_marked marks place ≡ true) ⊎ OpenFrom latest (e ∷ es) place
    one (inl before) = inl before
    one (inr opened) = inr (e, in_head e es, opened.0, opened.1)

    by : (is_marked (with_mark latest marks e) place ≡ true) ⊎ OpenFrom latest es place → (is_marked marks place ≡ true) ⊎ OpenFrom latest (e ∷ es) place
    by (inl first) = one (mark_from latest marks e place first)
    by (inr later) = inr (open_later latest e es place later)

marked_to : (latest : Times) (marks : Marks) (edges : List Edge) (place : ℕ) → place < length marks
    → (is_marked marks place ≡ true) ⊎ OpenFrom latest edges place → is_marked (fold (with_mark latest) marks edges) place ≡ true
marked_to latest marks [] place within (inl there) = there
marked_to latest marks [] place within (inr opened) = in_nil opened.0 opened.1
marked_to latest marks (e ∷ es) place within (inl there) =
    marked_to latest (with_mark latest marks e) es place (subst (λ (n : ℕ). place < n) (sym (mark_length latest marks e)) within)
    (inl (mark_stays latest marks e place within there))
marked_to latest marks (e ∷ es) place within (inr opened) =
    by (marked_to latest (with_mark latest marks e) es place (subst (λ (n : ℕ). place < n) (sym (mark_length latest marks e)) within))
    (in_cons e es opened.0 opened.1)
  where
    by : ((is_marked (with_mark latest marks e) place ≡ true) ⊎ OpenFrom latest es place → is_marked (fold (with_mark latest) marks (e ∷ es)) place ≡ true)
        → (e ≡ opened.0) ⊎ Contains es opened.0 → is_marked (fold (with_mark latest) marks (e ∷ es)) place ≡ true
    by more (inl same) =
        more (inl (mark_put latest marks e place within (ap (is_open latest) same ∙ opened.2) (ap (λ (x : Edge). x.source) same ∙ opened.3)))
    by more (inr rest) = more (inr (opened.0, rest, opened.2, opened.3))

pub open_from_mark : (count : ℕ) (latest : Times) (edges : List Edge) (place : ℕ) → place < count → is_marked (marks_of count latest edges) place ≡ true
    → OpenFrom latest edges place
open_from_mark count latest edges place within there = by (marked_from latest (replicate count false) edges place there)
  where
    by : (is_marked (replicate count false) place ≡ true) ⊎ OpenFrom latest edges place → OpenFrom latest edges place
    by (inl first) = absurd (false≢true (sym (get_or-replicate count place false false within) ∙ first))
    by (inr opened) = opened

pub mark_from_open : (count : ℕ) (latest : Times) (edges : List Edge) (place : ℕ) → place < count → OpenFrom latest edges place
    → is_marked (marks_of count latest edges) place ≡ true
mark_from_open count latest edges place within opened =
    marked_to latest (replicate count false) edges place (subst (λ (n : ℕ). place < n) (sym (length-replicate count false)) within) (inr opened)

-- ---- marked nodes

-- the node of a key at a place
node_at : (keys : List NodeKey) (place : ℕ) (k : NodeKey) → slice_get keys place ≡ Some k → slice_get (map node_of keys) place ≡ Some (node_of k)
node_at [] place k is = cc
node_at (x ∷ xs) zero k is = let same : x ≡ k = same_Some x k is in ap (λ (y : NodeKey). Some (node_of y)) same
node_at (x ∷ xs) (suc place) k is = node_at xs place k is

-- the key of a marked node is put at the end
pub marked_put : (old new : List (Bor NodeKey)) (k : Bor NodeKey) (keys : List NodeKey) (marks : Marks) (place : ℕ)
    → place < length keys → k.now ≡ get_or keys place k.now → is_marked marks place ≡ true → new ≡ old ++ k ∷ []
    → map lent_node new ≡ map lent_node old ++ option_to_list (marked_at (map node_of keys) marks place)
marked_put old new k keys marks place within at is put =
    let there : marked_at (map node_of keys) marks place ≡ Some (node_of k.now) =
    ap (λ (b : Bool). if b then slice_get (map node_of keys) place else None) is
    ∙ node_at keys place k.now (slice_get_read keys (length keys) place k.now refl within at) in
    ap (map lent_node) put ∙ map-append lent_node old (k ∷ [])
    ∙ sym (ap (λ (o : Option Node). map lent_node old ++ option_to_list o) there)

-- one that isn't marked adds nothing
pub marked_none : (old : List Node) (nodes : List Node) (marks : Marks) (place : ℕ) → is_marked marks place ≡ false
    → old ≡ old ++ option_to_list (marked_at nodes marks place)
marked_none old nodes marks place is =
    sym (ap (λ (b : Bool). old ++ option_to_list (if b then slice_get nodes place else None)) is ∙ append-nil old)

pub marked_more : (nodes : List Node) (marks : Marks) (place : ℕ) (old new : List Node) → old ≡ marked_below nodes marks place
    → new ≡ old ++ option_to_list (marked_at nodes marks place) → new ≡ marked_below nodes marks (place + 1)
marked_more nodes marks place old new is more =
    let one : suc place ≡ place + 1 = omega arith in
    more ∙ ap (λ (l : List Node). l ++ option_to_list (marked_at nodes marks place)) is ∙ ap (marked_below nodes marks) one

in_list : (o : Option Node) (n : Node) → Contains (option_to_list o) n → o ≡ Some n
in_list None n at = in_nil n at
in_list (Some m) n at = elim (in_cons m [] n at) [
  | inl same ↦ ap Some same
  | inr rest ↦ in_nil n rest
]

pub place_of_marked : (nodes : List Node) (marks : Marks) (count : ℕ) (n : Node) → Contains (marked_below nodes marks count) n
    → (p : ℕ) × (p < count) × (marked_at nodes marks p ≡ Some n)
place_of_marked nodes marks zero n at = in_nil n at
place_of_marked nodes marks (suc count) n at =
    by (place_of_marked nodes marks count n)
    (Contains-append_cases (marked_below nodes marks count) (option_to_list (marked_at nodes marks count)) n at)
  where
    by : (Contains (marked_below nodes marks count) n → (p : ℕ) × (p < count) × (marked_at nodes marks p ≡ Some n))
        → Contains (marked_below nodes marks count) n ⊎ Contains (option_to_list (marked_at nodes marks count)) n
        → (p : ℕ) × (p < suc count) × (marked_at nodes marks p ≡ Some n)
    by more (inl before) =
        let found = more before in
        let below : found.0 < suc count = omega (arith, found.1) in
        (found.0, below, found.2)
    by more (inr last) = (count, omega arith, in_list (marked_at nodes marks count) n last)

pub marked_of_place : (nodes : List Node) (marks : Marks) (count : ℕ) (p : ℕ) (n : Node) → p < count → marked_at nodes marks p ≡ Some n
    → Contains (marked_below nodes marks count) n
marked_of_place nodes marks zero p n within is = absurd (omega (arith, within))
marked_of_place nodes marks (suc count) p n within is = by (λ below. marked_of_place nodes marks count p n below is) (cases_eq p count)
  where
    by : (p < count → Contains (marked_below nodes marks count) n) → (p ≡ count) ⊎ (p ≡ count → ⊥)
        → Contains (marked_below nodes marks count ++ option_to_list (marked_at nodes marks count)) n
    by more (inl same) =
        let there : marked_at nodes marks count ≡ Some n = subst (λ (q : ℕ). marked_at nodes marks q ≡ Some n) same is in
        Contains-append_right (marked_below nodes marks count) (option_to_list (marked_at nodes marks count)) n
        (subst (λ (o : Option Node). Contains (option_to_list o) n) (sym there) (in_head n []))
    by more (inr other) =
        let below : p < count = omega (arith, within, other) in
        Contains-append_left (marked_below nodes marks count) (option_to_list (marked_at nodes marks count)) n (more below)
