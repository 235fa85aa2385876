-- The edges of a graph after one link more.
use Rattle.std.proofs.Common.{◌≡◌, ◌∙◌, sym, ap, subst, refl, arith, ℕ, Bool, true, false, cond, ◌||◌, List, [], ◌∷◌, ◌++◌, map}
use Rattle.std.specs.Prelude.{◌&&◌, ◌==◌, min, max, fold, if◌then◌else◌}
use Rattle.std.specs.List.{filter, flat_map, list_any, AllByRecursion}
use Rattle.std.proofs.lemmas.Grind.{flat_map-append}
use Rattle.std.proofs.lemmas.List.{append_assoc, map-append}
use Rattle.std.proofs.lemmas.List.Sums.{fold-append}
use Rattle.ldv_value.proofs.Lists.{append-nil, filter-append, list_any-append}
use Rattle.ldv_value.proofs.Booleans.{or-parts, or-true}
use Rattle.trace_graph.specs.Types.{Node, Edge}
use Rattle.trace_graph.specs.Links.{Link}
use Rattle.trace_graph.specs.Graph.{same_node, same_ends, distinct_items, ends, nodes_of, place_in, times_of, edge_of}
use Rattle.trace_graph.specs.inner.Building.{with_node, with_time, joins, edge_with_time, edge_from, instant}
use Rattle.trace_graph.proofs.Distinct.{with_item, with_item-cons, with_item-head, distinct_more, any_distinct, AllApart}
use Rattle.trace_graph.proofs.NodeLaws.{node_laws, node_itself, ends_laws}
use Rattle.trace_graph.proofs.PlaceLaws.{place_more, place_own, any_more, any_own, same_place}

-- ---- nodes

pub nodes_more : (done : List Link) (l : Link) → nodes_of (done ++ l ∷ []) ≡ with_node (with_node (nodes_of done) l.source) l.target
nodes_more done l =
    let all = flat_map ends done in
    ap (distinct_items same_node) (flat_map-append ends done (l ∷ []) ∙ sym (append_assoc all (l.source ∷ []) (l.target ∷ [])))
    ∙ distinct_more node_laws (all ++ l.source ∷ []) l.target
    ∙ ap (λ (nodes : List Node). with_node nodes l.target) (distinct_more node_laws all l.source)

-- both ends of a link are among the nodes
pub AreThere : List Node → Link → Type 0
AreThere nodes l = (list_any (same_node l.source) nodes ≡ true) × (list_any (same_node l.target) nodes ≡ true)

any_after : (n : Node) (before after : List Node) → list_any (same_node n) after ≡ true → list_any (same_node n) (before ++ after) ≡ true
any_after n before after any =
    list_any-append (same_node n) before after
    ∙ ap (λ (b : Bool). list_any (same_node n) before || b) any ∙ or-true (list_any (same_node n) before)

any_second : (n m : Node) (rest : List Node) → same_node n m ≡ true → list_any (same_node n) (m ∷ rest) ≡ true
any_second n m rest is = ap (λ (b : Bool). b || list_any (same_node n) rest) is

ends_there : (before : List Node) (ls : List Link) → AllByRecursion (AreThere (before ++ flat_map ends ls)) ls
unfolding AreThere
ends_there before [] = tt
ends_there before (l ∷ ls) =
    let rest = flat_map ends ls in
    let moved : (before ++ l.source ∷ l.target ∷ []) ++ rest ≡ before ++ l.source ∷ l.target ∷ rest = append_assoc before (l.source ∷ l.target ∷ []) rest in (
      (
        any_after l.source before (l.source ∷ l.target ∷ rest) (any_second l.source l.source (l.target ∷ rest) (node_itself l.source)),
        any_after l.target before (l.source ∷ l.target ∷ rest)
            (ap (λ (b : Bool). same_node l.target l.source || b) (any_second l.target l.target rest (node_itself l.target)) ∙ or-true (same_node l.target l.source)),
      ),
      subst (λ (all : List Node). AllByRecursion (AreThere all) ls) moved (ends_there (before ++ l.source ∷ l.target ∷ []) ls),
    )

distinct_there : (all : List Node) (ls : List Link) → AllByRecursion (AreThere all) ls → AllByRecursion (AreThere (distinct_items same_node all)) ls
unfolding AreThere
distinct_there all [] there = tt
distinct_there all (l ∷ ls) there = (
  (any_distinct node_laws all l.source ∙ there.0.0, any_distinct node_laws all l.target ∙ there.0.1),
  distinct_there all ls there.1,
)

pub all_there : (links : List Link) → AllByRecursion (AreThere (nodes_of links)) links
all_there links = distinct_there (flat_map ends links) links (ends_there [] links)

pub source_there : (nodes : List Node) (l : Link) → AreThere nodes l → list_any (same_node l.source) nodes ≡ true
unfolding AreThere
source_there nodes l there = there.0

pub target_there : (nodes : List Node) (l : Link) → AreThere nodes l → list_any (same_node l.target) nodes ≡ true
unfolding AreThere
target_there nodes l there = there.1

-- ---- times

times_more : (done : List Link) (l x : Link) → times_of (done ++ l ∷ []) x ≡ times_of done x ++ cond (same_ends x l) (l.time ∷ []) []
times_more done l x =
    ap (map (λ (o : Link). o.time)) (filter-append (same_ends x) done (l ∷ []))
    ∙ map-append (λ (o : Link). o.time) (filter (same_ends x) done) (filter (same_ends x) (l ∷ []))
    ∙ by (same_ends x l)
  where
    by : (b : Bool) → times_of done x ++ map (λ (o : Link). o.time) (cond b (l ∷ []) []) ≡ times_of done x ++ cond b (l.time ∷ []) []
    by true = refl
    by false = refl

times_hit : (done : List Link) (l x : Link) → same_ends x l ≡ true → times_of (done ++ l ∷ []) x ≡ times_of done x ++ l.time ∷ []
times_hit done l x hit = times_more done l x ∙ ap (λ (b : Bool). times_of done x ++ cond b (l.time ∷ []) []) hit

times_miss : (done : List Link) (l x : Link) → same_ends x l ≡ false → times_of (done ++ l ∷ []) x ≡ times_of done x
times_miss done l x miss =
    times_more done l x ∙ ap (λ (b : Bool). times_of done x ++ cond b (l.time ∷ []) []) miss ∙ append-nil (times_of done x)

none_filtered : (q : Link → Bool) (ls : List Link) → list_any q ls ≡ false → filter q ls ≡ []
none_filtered q [] none = refl
none_filtered q (l ∷ ls) none =
    let parts = or-parts (q l) (list_any q ls) none in
    ap (λ (b : Bool). cond b (l ∷ filter q ls) (filter q ls)) parts.0 ∙ none_filtered q ls parts.1

times_fresh : (done : List Link) (l : Link) → list_any (same_ends l) done ≡ false → times_of (done ++ l ∷ []) l ≡ l.time ∷ []
times_fresh done l none =
    times_hit done l l (ends_laws.refl l)
    ∙ ap (λ (ls : List Link). map (λ (o : Link). o.time) ls ++ l.time ∷ []) (none_filtered (same_ends l) done none)

-- ---- one edge

module _ (done : List Link) (l : Link) where
  abbrev nodes : List Node
  nodes = nodes_of done

  abbrev source-more : List Node
  source-more = with_node nodes l.source

  abbrev nodes-more : List Node
  nodes-more = with_node source-more l.target

  abbrev old : Link → Edge
  old x = edge_of nodes done x

  abbrev new : Link → Edge
  new x = edge_of nodes-more (done ++ l ∷ []) x

  place_kept : (n : Node) → list_any (same_node n) nodes ≡ true → place_in nodes-more n ≡ place_in nodes n
  place_kept n any =
      place_more (same_node n) same_node source-more l.target (any_more (same_node n) same_node nodes l.source any)
      ∙ place_more (same_node n) same_node nodes l.source any

  source_fresh : place_in nodes-more l.source ≡ place_in nodes l.source
  source_fresh =
      place_more (same_node l.source) same_node source-more l.target (any_own node_laws nodes l.source)
      ∙ place_own node_laws nodes l.source

  target_fresh : place_in nodes-more l.target ≡ place_in source-more l.target
  target_fresh = place_own node_laws source-more l.target

  joined : (x : Link) → AreThere nodes x
      → joins (place_in nodes l.source) (place_in source-more l.target) (old x) ≡ same_ends l x
  joined x there =
      let any : list_any (same_node x.target) nodes ≡ true = target_there nodes x there in
      let kept : place_in source-more x.target ≡ place_in nodes x.target = place_more (same_node x.target) same_node nodes l.source any in
      let sources : (place_in nodes l.source == place_in nodes x.source) ≡ same_node l.source x.source =
      same_place node_laws nodes l.source x.source (source_there nodes x there) in
      let targets : (place_in source-more l.target == place_in nodes x.target) ≡ same_node l.target x.target =
      ap (λ (p : ℕ). place_in source-more l.target == p) (sym kept)
      ∙ same_place node_laws source-more l.target x.target (any_more (same_node x.target) same_node nodes l.source any) in
      λ j. sources j && targets j

  widens : (x : Link) → AreThere nodes x → same_ends l x ≡ true → new x ≡ edge_with_time (old x) l.time
  widens x there hit =
      let source = place_kept x.source (source_there nodes x there) in
      let target = place_kept x.target (target_there nodes x there) in
      let times = times_hit done l x (ends_laws.symm x l ∙ hit) in
      let first : fold min x.time (times_of (done ++ l ∷ []) x) ≡ min (fold min x.time (times_of done x)) l.time =
      ap (fold min x.time) times ∙ fold-append min x.time (times_of done x) (l.time ∷ []) in
      let last : fold max x.time (times_of (done ++ l ∷ []) x) ≡ max (fold max x.time (times_of done x)) l.time =
      ap (fold max x.time) times ∙ fold-append max x.time (times_of done x) (l.time ∷ []) in
      λ j. record { source = source j; target = target j; first = first j; last = last j }

  stays : (x : Link) → AreThere nodes x → same_ends l x ≡ false → new x ≡ old x
  stays x there miss =
      let source = place_kept x.source (source_there nodes x there) in
      let target = place_kept x.target (target_there nodes x there) in
      let times = times_miss done l x (ends_laws.symm x l ∙ miss) in
      λ j. record { source = source j; target = target j; first = fold min x.time (times j); last = fold max x.time (times j) }

  comes : list_any (same_ends l) (distinct_items same_ends done) ≡ false
      → new l ≡ edge_from (place_in nodes l.source) (place_in source-more l.target) (instant l.time)
  comes none =
      let times = times_fresh done l (sym (any_distinct ends_laws done l) ∙ none) in
      let first : fold min l.time (times_of (done ++ l ∷ []) l) ≡ l.time = ap (fold min l.time) times ∙ omega arith in
      let last : fold max l.time (times_of (done ++ l ∷ []) l) ≡ l.time = ap (fold max l.time) times ∙ omega arith in
      λ j. record { source = source_fresh j; target = target_fresh j; first = first j; last = last j }

-- ---- all edges

-- what one link more does to the edge of another
pub record Moves (l x : Link) (before after : Edge) (source target time : ℕ) : Type 0 where
  pub is_joined : joins source target before ≡ same_ends l x
  pub is_widened : same_ends l x ≡ true → after ≡ edge_with_time before time
  pub is_kept : same_ends l x ≡ false → after ≡ before

module _ (l : Link) (before after : Link → Edge) (source target time : ℕ) where
  abbrev pub AllMove : List Link → Type 0
  AllMove xs = AllByRecursion (λ x. Moves l x (before x) (after x) source target time) xs

  unmoved : (xs : List Link) → AllMove xs → list_any (same_ends l) xs ≡ false → map before xs ≡ map after xs
  unmoved [] moves none = refl
  unmoved (x ∷ xs) moves none =
      let parts = or-parts (same_ends l x) (list_any (same_ends l) xs) none in
      λ j. sym (moves.0.is_kept parts.0) j ∷ unmoved xs moves.1 parts.1 j

  -- what is the same as the link is the same as the head, so there is none in the rest
  none_more : (x : Link) (xs : List Link) → same_ends l x ≡ true → list_any (same_ends x) xs ≡ false → list_any (same_ends l) xs ≡ false
  none_more x [] hit none = refl
  none_more x (y ∷ ys) hit none =
      let parts = or-parts (same_ends x y) (list_any (same_ends x) ys) none in
      ap (λ (b : Bool). b || list_any (same_ends l) ys) (ends_laws.congr l x y hit ∙ parts.0) ∙ none_more x ys hit parts.1

  pub timed_all : (xs : List Link) → AllApart same_ends xs → AllMove xs
      → (list_any (same_ends l) xs ≡ false → after l ≡ edge_from source target (instant time))
      → with_time source target time (map before xs) ≡ map after (with_item same_ends xs l)
  timed_all [] apart moves comes = λ j. sym (comes refl) j ∷ []
  timed_all (x ∷ xs) apart moves comes = by (same_ends l x) refl (timed_all xs apart.1 moves.1)
    where
      by : (b : Bool) → same_ends l x ≡ b
          → ((list_any (same_ends l) xs ≡ false → after l ≡ edge_from source target (instant time))
          → with_time source target time (map before xs) ≡ map after (with_item same_ends xs l))
          → with_time source target time (before x ∷ map before xs) ≡ map after (with_item same_ends (x ∷ xs) l)
      by true hit rest =
          ap (λ (b : Bool). if b then edge_with_time (before x) time ∷ map before xs else before x ∷ with_time source target time (map before xs)) (moves.0.is_joined ∙ hit)
          ∙ (λ j. sym (moves.0.is_widened hit) j ∷ unmoved xs moves.1 (none_more x xs hit apart.0) j)
          ∙ sym (ap (map after) (with_item-head same_ends x l xs hit))
      by false miss rest =
          ap (λ (b : Bool). if b then edge_with_time (before x) time ∷ map before xs else before x ∷ with_time source target time (map before xs)) (moves.0.is_joined ∙ miss)
          ∙ (λ j. sym (moves.0.is_kept miss) j ∷ rest (λ none. comes (ap (λ (b : Bool). b || list_any (same_ends l) xs) miss ∙ none)) j)
          ∙ ap (map after) (with_item-cons same_ends x l xs miss)

all_move : (done : List Link) (l : Link) (xs : List Link) → AllByRecursion (AreThere (nodes_of done)) xs
    → AllMove l (old done l) (new done l) (place_in (nodes_of done) l.source) (place_in (with_node (nodes_of done) l.source) l.target) l.time xs
all_move done l [] there = tt
all_move done l (x ∷ xs) there = (
  record {
    is_joined = joined done l x there.0;
    is_widened = widens done l x there.0;
    is_kept = stays done l x there.0;
  },
  all_move done l xs there.1,
)

-- the edges after one link more
pub edges_more : (done : List Link) (l : Link) (there : AllByRecursion (AreThere (nodes_of done)) (distinct_items same_ends done))
    → AllApart same_ends (distinct_items same_ends done)
    → with_time (place_in (nodes_of done) l.source) (place_in (with_node (nodes_of done) l.source) l.target) l.time
    (map (edge_of (nodes_of done) done) (distinct_items same_ends done))
    ≡ map (edge_of (nodes_of (done ++ l ∷ [])) (done ++ l ∷ [])) (distinct_items same_ends (done ++ l ∷ []))
edges_more done l there apart =
    timed_all l (old done l) (new done l) (place_in (nodes_of done) l.source) (place_in (with_node (nodes_of done) l.source) l.target) l.time
    (distinct_items same_ends done) apart (all_move done l (distinct_items same_ends done) there) (comes done l)
    ∙ ap (map (new done l)) (sym (distinct_more ends_laws done l))
    ∙ ap (λ (nodes : List Node). map (edge_of nodes (done ++ l ∷ [])) (distinct_items same_ends (done ++ l ∷ []))) (sym (nodes_more done l))
