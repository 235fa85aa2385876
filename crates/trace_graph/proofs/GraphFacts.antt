-- The facts about its links that a graph shows.
use Rattle.std.proofs.Common.{◌≡◌, ◌∙◌, sym, ap, subst, refl, arith, ℕ, ◌≤◌, Bool, true, false, not, cond, ◌||◌, List, [], ◌∷◌, ◌++◌, map, Option, Some, IsTrue}
use Rattle.std.specs.Prelude.{◌&&◌, min, max, fold, find, nat_le, slice_get}
use Rattle.std.specs.List.{filter, flat_map, list_any, AllByRecursion}
use Rattle.std.specs.Option.{option_map_or}
use Rattle.std.proofs.lemmas.Bool.{le-leb}
use Rattle.std.proofs.lemmas.List.{append_assoc}
use Rattle.std.proofs.lemmas.List.Folds.{find_at}
use Rattle.std.proofs.lemmas.Map.Views.{any-filter_same}
use Rattle.ldv_value.proofs.Lists.{list_any-map, list_any-append, found-passes, all-weaker}
use Rattle.ldv_value.proofs.Booleans.{and-first, and-second, and-from, or-assoc, or-true, false≢true}
use Rattle.trace_graph.specs.Types.{Node, Edge}
use Rattle.trace_graph.specs.Links.{Link}
use Rattle.trace_graph.specs.Graph.{same_node, same_ends, distinct_items, ends, nodes_of, place_in, times_of, edge_of, edges_of}
use Rattle.trace_graph.specs.GraphLaws.{passes_at, touches, links_to, covers, NodesLaw, EdgesLaw, IntervalsLaw}
use Rattle.trace_graph.proofs.Distinct.{any_distinct, all_distinct}
use Rattle.trace_graph.proofs.NodeLaws.{node_laws, node_is, ends_laws}
use Rattle.trace_graph.proofs.EdgeLaws.{AreThere, all_there, source_there, target_there}

-- ---- nodes

touched : (n : Node) (links : List Link) → list_any (same_node n) (flat_map ends links) ≡ list_any (touches n) links
touched n [] = refl
touched n (l ∷ ls) =
    sym (or-assoc (same_node n l.source) (same_node n l.target) (list_any (same_node n) (flat_map ends ls)))
    ∙ ap (λ (b : Bool). (same_node n l.source || same_node n l.target) || b) (touched n ls)

pub nodes_law : NodesLaw
nodes_law links n = any_distinct node_laws (flat_map ends links) n ∙ touched n links

-- ---- edges

find_some : (q : Node → Bool) (nodes : List Node) → list_any q nodes ≡ true → (n : Node) × (find q nodes ≡ Some n)
find_some q [] any = absurd (false≢true any)
find_some q (n ∷ ns) any = by (q n) refl (find_some q ns)
  where
    by : (b : Bool) → q n ≡ b → (list_any q ns ≡ true → (m : Node) × (find q ns ≡ Some m))
        → (m : Node) × (cond b (Some n) (find q ns) ≡ Some m)
    by true is rest = (n, refl)
    by false is rest = rest (sym (ap (λ (b : Bool). b || list_any q ns) is) ∙ any)

-- a node that is there is at its place
at_place : (nodes : List Node) (n : Node) → list_any (same_node n) nodes ≡ true → slice_get nodes (place_in nodes n) ≡ Some n
at_place nodes n any =
    let found = find_some (same_node n) nodes any in
    sym (find_at (same_node n) nodes) ∙ found.1
    ∙ ap {B = Option Node} Some (sym (node_is n found.0 (found-passes (same_node n) nodes found.0 found.1)))

passes_place : (test : Node → Bool) (nodes : List Node) (n : Node) → list_any (same_node n) nodes ≡ true
    → passes_at test nodes (place_in nodes n) ≡ test n
passes_place test nodes n any = ap (λ (o : Option Node). option_map_or test o false) (at_place nodes n any)

module _ (q : Link → Bool) (respects : (a b : Link) → same_ends a b ≡ true → q a ≡ q b) where
  stays_in : (l k : Link) → q l ≡ false → q k ≡ true → not (same_ends l k) ≡ true
  stays_in l k out passes = by (same_ends l k) refl
    where
      by : (b : Bool) → same_ends l k ≡ b → not b ≡ true
      by true same = sym out ∙ respects l k same ∙ passes
      by false same = refl

  -- what can't tell links between the same nodes apart finds the same among those that are there once
  any_once : (links : List Link) → list_any q (distinct_items same_ends links) ≡ list_any q links
  any_once [] = refl
  any_once (l ∷ ls) = by (q l) refl (any_once ls)
    where
      by : (b : Bool) → q l ≡ b → list_any q (distinct_items same_ends ls) ≡ list_any q ls
          → (q l || list_any q (filter (λ k. not (same_ends l k)) (distinct_items same_ends ls))) ≡ (q l || list_any q ls)
      by true is rest =
          ap (λ (b : Bool). b || list_any q (filter (λ k. not (same_ends l k)) (distinct_items same_ends ls))) is
          ∙ sym (ap (λ (b : Bool). b || list_any q ls) is)
      by false is rest =
          ap (λ (b : Bool). q l || b)
          (any-filter_same q (λ k. not (same_ends l k)) true (λ k passes. stays_in l k is passes) (distinct_items same_ends ls) ∙ rest)

any_agree : (p q : Link → Bool) (P : Link → Type 0) → ((l : Link) → P l → p l ≡ q l) → (ls : List Link) → AllByRecursion P ls
    → list_any p ls ≡ list_any q ls
any_agree p q P agree [] all = refl
any_agree p q P agree (l ∷ ls) all = λ j. agree l all.0 j || any_agree p q P agree ls all.1 j

pub once_there : (links : List Link) → AllByRecursion (AreThere (nodes_of links)) (distinct_items same_ends links)
once_there links = all_distinct (AreThere (nodes_of links)) same_ends links (all_there links)

-- links between the same nodes lead alike
leads_alike : (test : Node → Bool) (n : Node) (a b : Link) → same_ends a b ≡ true → links_to test n a ≡ links_to test n b
leads_alike test n a b same =
    let sources = node_is a.source b.source (and-first (same_node a.source b.source) (same_node a.target b.target) same) in
    let targets = node_is a.target b.target (and-second (same_node a.source b.source) (same_node a.target b.target) same) in
    λ j. test (sources j) && same_node n (targets j)

pub edges_law : EdgesLaw
edges_law links test n =
    let nodes = nodes_of links in
    list_any-map (λ (e : Edge). passes_at test nodes e.source && passes_at (same_node n) nodes e.target) (edge_of nodes links) (distinct_items same_ends links)
    ∙ any_agree (λ l. passes_at test nodes (place_in nodes l.source) && passes_at (same_node n) nodes (place_in nodes l.target)) (links_to test n)
    (AreThere nodes)
    (λ l there. λ j. passes_place test nodes l.source (source_there nodes l there) j && passes_place (same_node n) nodes l.target (target_there nodes l there) j)
    (distinct_items same_ends links) (once_there links)
    ∙ any_once (links_to test n) (leads_alike test n) links

-- ---- intervals

-- what is folded in last is within
pub below_least : (a : ℕ) (ts : List ℕ) → fold min a ts ≤ a
below_least a [] = omega arith
below_least a (t ∷ ts) = let rest : fold min (min a t) ts ≤ min a t = below_least (min a t) ts in omega (arith, rest)

pub above_greatest : (a : ℕ) (ts : List ℕ) → a ≤ fold max a ts
above_greatest a [] = omega arith
above_greatest a (t ∷ ts) = let rest : max a t ≤ fold max (max a t) ts = above_greatest (max a t) ts in omega (arith, rest)

IsWithin : List ℕ → ℕ → Type 0
IsWithin ts time = (a : ℕ) → (fold min a ts ≤ time) × (time ≤ fold max a ts)

within_first : (t : ℕ) (ts : List ℕ) → IsWithin (t ∷ ts) t
unfolding IsWithin
within_first t ts = λ a.
    let least : fold min (min a t) ts ≤ min a t = below_least (min a t) ts in
    let greatest : max a t ≤ fold max (max a t) ts = above_greatest (max a t) ts in
    (omega (arith, least), omega (arith, greatest))

within_more : (ts : List ℕ) (t time : ℕ) → IsWithin ts time → IsWithin (t ∷ ts) time
unfolding IsWithin
within_more ts t time within = λ a. ((within (min a t)).0, (within (max a t)).1)

from_least : (a : ℕ) (ts : List ℕ) (time : ℕ) → IsWithin ts time → nat_le (fold min a ts) time ≡ true
unfolding IsWithin
from_least a ts time within = le-leb (fold min a ts) time (within a).0

to_greatest : (a : ℕ) (ts : List ℕ) (time : ℕ) → IsWithin ts time → nat_le time (fold max a ts) ≡ true
unfolding IsWithin
to_greatest a ts time within = le-leb time (fold max a ts) (within a).1

-- a link more in front
times_before : (x y : Link) (ys : List Link) (time : ℕ) → IsWithin (times_of ys x) time → IsWithin (times_of (y ∷ ys) x) time
times_before x y ys time within = by (same_ends x y)
  where
    by : (b : Bool) → IsWithin (map (λ o. o.time) (cond b (y ∷ filter (same_ends x) ys) (filter (same_ends x) ys))) time
    by true = within_more (times_of ys x) y.time time within
    by false = within

-- the time of a link is among those of each that is between the same nodes
abbrev IsTimed : List Link → Link → Type 0
IsTimed ls l = (x : Link) → same_ends x l ≡ true → IsWithin (times_of ls x) l.time

all_timed : (ls : List Link) → AllByRecursion (IsTimed ls) ls
all_timed [] = tt
all_timed (y ∷ ys) = (
  λ x same. subst (λ (b : Bool). IsWithin (map (λ o. o.time) (cond b (y ∷ filter (same_ends x) ys) (filter (same_ends x) ys))) y.time) (sym same) (within_first y.time (times_of ys x)),
  all-weaker (IsTimed ys) (IsTimed (y ∷ ys)) (λ l timed x same. times_before x y ys l.time (timed x same)) ys (all_timed ys),
)

self_found : (before ls : List Link) → AllByRecursion (λ l. list_any (same_ends l) (before ++ ls) ≡ true) ls
self_found before [] = tt
self_found before (l ∷ ls) = (
  list_any-append (same_ends l) before (l ∷ ls)
      ∙ ap (λ (b : Bool). list_any (same_ends l) before || (b || list_any (same_ends l) ls)) (ends_laws.refl l)
      ∙ or-true (list_any (same_ends l) before),
  subst (λ (all : List Link). AllByRecursion (λ l. list_any (same_ends l) all ≡ true) ls) (append_assoc before (l ∷ []) ls) (self_found (before ++ l ∷ []) ls),
)

covers_same : (nodes : List Node) (links : List Link) (l x : Link) → IsTimed links l → AreThere nodes x → same_ends l x ≡ true
    → covers nodes l (edge_of nodes links x) ≡ true
covers_same nodes links l x timed there same =
    let within : IsWithin (times_of links x) l.time = timed x (ends_laws.symm x l ∙ same) in
    let edge = edge_of nodes links x in
    let source = passes_place (same_node l.source) nodes x.source (source_there nodes x there) ∙ and-first (same_node l.source x.source) (same_node l.target x.target) same in
    let target = passes_place (same_node l.target) nodes x.target (target_there nodes x there) ∙ and-second (same_node l.source x.source) (same_node l.target x.target) same in
    and-from (passes_at (same_node l.source) nodes edge.source && passes_at (same_node l.target) nodes edge.target) (nat_le edge.first l.time && nat_le l.time edge.last)
    (and-from (passes_at (same_node l.source) nodes edge.source) (passes_at (same_node l.target) nodes edge.target) source target)
    (and-from (nat_le edge.first l.time) (nat_le l.time edge.last)
    (from_least x.time (times_of links x) l.time within) (to_greatest x.time (times_of links x) l.time within))

covered : (nodes : List Node) (links : List Link) (l : Link) → IsTimed links l → (xs : List Link) → AllByRecursion (AreThere nodes) xs
    → list_any (same_ends l) xs ≡ true → list_any (covers nodes l) (map (edge_of nodes links) xs) ≡ true
covered nodes links l timed [] there any = absurd (false≢true any)
covered nodes links l timed (x ∷ xs) there any = by (same_ends l x) refl (covered nodes links l timed xs there.1)
  where
    by : (b : Bool) → same_ends l x ≡ b
        → (list_any (same_ends l) xs ≡ true → list_any (covers nodes l) (map (edge_of nodes links) xs) ≡ true)
        → (covers nodes l (edge_of nodes links x) || list_any (covers nodes l) (map (edge_of nodes links) xs)) ≡ true
    by true is rest =
        ap (λ (b : Bool). b || list_any (covers nodes l) (map (edge_of nodes links) xs)) (covers_same nodes links l x timed there.0 is)
    by false is rest =
        ap (λ (b : Bool). covers nodes l (edge_of nodes links x) || b) (rest (sym (ap (λ (b : Bool). b || list_any (same_ends l) xs) is) ∙ any))
        ∙ or-true (covers nodes l (edge_of nodes links x))

all_covered : (links ls : List Link) → AllByRecursion (IsTimed links) ls → AllByRecursion (λ l. list_any (same_ends l) links ≡ true) ls
    → AllByRecursion (λ l. IsTrue (list_any (covers (nodes_of links) l) (edges_of (nodes_of links) links))) ls
all_covered links [] timed found = tt
all_covered links (l ∷ ls) timed found = (
  covered (nodes_of links) links l timed.0 (distinct_items same_ends links) (once_there links) (any_distinct ends_laws links l ∙ found.0),
  all_covered links ls timed.1 found.1,
)

pub intervals_law : IntervalsLaw
intervals_law links = all_covered links links (all_timed links) (self_found [] links)
