-- Chains through the list of edges are the edges to each place.
use Rattle.std.proofs.Common.{◌≡◌, ◌∙◌, sym, ap, subst, refl, inl, inr, ◌⊎◌, arith, ℕ, ◌+◌, ◌-◌, ◌<◌, ◌≤◌, Bool, true, cond}
use Rattle.std.proofs.Common.{List, [], ◌∷◌, ◌++◌, length, get_or, set, drop, Some, IsTrue}
use Rattle.std.specs.Prelude.{nat_lt, replicate, slice_get}
use Rattle.std.proofs.lemmas.Bool.{cases_eq, eq-eqb, ne_eqb, ltb-true, and_parts}
use Rattle.std.proofs.lemmas.List.{append-nil, append_assoc, drop_all, drop_more, get_or-set_same, get_or-set_other, get_or-replicate, get_or_default, length-set, length-replicate}
use Rattle.std.proofs.lemmas.List.Elements.{All-weaker, All-contains}
use Rattle.std.proofs.lemmas.List.Sums.{AllPass-from_list_all}
use Rattle.std.proofs.lemmas.Option.{same_Some, slice_get_read, slice_get_within}
use Rattle.trace_graph.specs.Graph.{is_between, are_between}
use Rattle.reach.specs.Types.{Edge}
use Rattle.reach.specs.inner.Search.{edges_into}
use Rattle.reach.specs.inner.Incoming.{value_at, IsChain, AreChains}

pub value_read : (values : List ℕ) (place n : ℕ) → place < length values → n ≡ get_or values place n → n ≡ value_at values place
value_read values place n within is = is ∙ get_or_default values place n 0 within

-- an edge leads to a place
pub target_within : (count : ℕ) (edges : List Edge) (i : ℕ) (e : Edge) → IsTrue (are_between count edges) → i < length edges → e ≡ get_or edges i e
    → e.target < count
target_within count edges i e between within is =
    All-contains (λ (x : Edge). x.target < count) edges e
    (All-weaker (λ (x : Edge). is_between count x ≡ true) (λ (x : Edge). x.target < count)
    (λ x inside. ltb-true x.target count (and_parts (nat_lt x.source count) (nat_lt x.target count) inside).1)
    edges (AllPass-from_list_all (is_between count) edges between))
    (i, within, sym is)

-- ---- what is noted before a chain doesn't change it

chain_kept : (edges : List Edge) (nexts : List ℕ) (i v low at : ℕ) (es : List Edge) → i < low → IsChain edges nexts low at es
    → IsChain edges (set nexts i v) low at es
chain_kept edges nexts i v low at [] before is = is
chain_kept edges nexts i v low at (e ∷ es) before is =
    let from : low ≤ at = is.0 in
    let kept : value_at (set nexts i v) at ≡ value_at nexts at = get_or-set_other nexts i at v 0 (λ same. omega (arith, same, before, from)) in (
      is.0,
      is.1,
      subst (λ (n : ℕ). IsChain edges (set nexts i v) (at + 1) n es) (sym kept)
          (chain_kept edges nexts i v (at + 1) (value_at nexts at) es (omega (arith, before, from)) is.2),
    )

chain_lower : (edges : List Edge) (nexts : List ℕ) (low other at : ℕ) (es : List Edge) → low ≤ other → IsChain edges nexts other at es
    → IsChain edges nexts low at es
chain_lower edges nexts low other at [] below is = is
chain_lower edges nexts low other at (e ∷ es) below is =
    let from : other ≤ at = is.0 in
    (omega (arith, below, from), is.1, is.2)

-- ---- all chains

pub none_chained : (count : ℕ) (edges : List Edge) (firsts nexts : List ℕ) → firsts ≡ replicate count (length edges)
    → AreChains edges nexts (length edges) firsts
none_chained count edges firsts nexts are = λ place within.
    let long : length firsts ≡ count = ap (λ (l : List ℕ). length l) are ∙ length-replicate count (length edges) in
    let first : value_at firsts place ≡ length edges =
    ap (λ (l : List ℕ). value_at l place) are ∙ get_or-replicate count place (length edges) 0 (omega (arith, within, long)) in
    let none : edges_into (drop (length edges) edges) place ≡ [] =
    ap (λ (es : List Edge). edges_into es place) (drop_all (length edges) edges (omega arith)) in
    let past : length edges ≤ value_at firsts place = omega (arith, first) in
    subst (λ (es : List Edge). IsChain edges nexts (length edges) (value_at firsts place) es) (sym none) past

-- an edge in front of those to its target
module _ (edges : List Edge) (nexts firsts : List ℕ) (i : ℕ) (e : Edge) (within : i < length edges) (is : e ≡ get_or edges i e)
    (long : length nexts ≡ length edges) (to : e.target < length firsts) (chains : AreChains edges nexts (i + 1) firsts) where
  abbrev noted : List ℕ
  noted = set nexts i (value_at firsts e.target)

  abbrev rest : List Edge
  rest = drop (i + 1) edges

  split : drop i edges ≡ e ∷ rest
  split = drop_more edges i e within ∙ ap (λ (x : Edge). x ∷ rest) (sym is)

  -- the chain of the place to which the edge leads
  own : (place : ℕ) → place < length firsts → e.target ≡ place
      → IsChain edges noted i (value_at (set firsts e.target i) place) (edges_into (drop i edges) place)
  own place inside same =
      let first : value_at (set firsts e.target i) place ≡ i =
      subst (λ (p : ℕ). value_at (set firsts p i) place ≡ i) (sym same) (get_or-set_same firsts place i 0 inside) in
      let into : edges_into (drop i edges) place ≡ e ∷ edges_into rest place =
      ap (λ (es : List Edge). edges_into es place) split
      ∙ ap (λ (b : Bool). cond b (e ∷ edges_into rest place) (edges_into rest place)) (eq-eqb e.target place same) in
      let at : i < length nexts = omega (arith, within, long) in
      let next : value_at noted i ≡ value_at firsts place =
      get_or-set_same nexts i (value_at firsts e.target) 0 at ∙ ap (value_at firsts) same in
      let later : IsChain edges noted (i + 1) (value_at firsts place) (edges_into rest place) =
      chain_kept edges nexts i (value_at firsts e.target) (i + 1) (value_at firsts place) (edges_into rest place) (omega arith) (chains place inside) in
      let found : slice_get edges i ≡ Some e = slice_get_read edges (length edges) i e refl within is in
      let low : i ≤ i = omega arith in
      let whole : IsChain edges noted i i (e ∷ edges_into rest place) =
      (low, found, subst (λ (n : ℕ). IsChain edges noted (i + 1) n (edges_into rest place)) (sym next) later) in
      subst (λ (n : ℕ). IsChain edges noted i n (edges_into (drop i edges) place)) (sym first)
      (subst (λ (es : List Edge). IsChain edges noted i i es) (sym into) whole)

  -- that of another place
  other : (place : ℕ) → place < length firsts → (e.target ≡ place → ⊥)
      → IsChain edges noted i (value_at (set firsts e.target i) place) (edges_into (drop i edges) place)
  other place inside apart =
      let first : value_at (set firsts e.target i) place ≡ value_at firsts place =
      get_or-set_other firsts e.target place i 0 (λ same. apart (sym same)) in
      let into : edges_into (drop i edges) place ≡ edges_into rest place =
      ap (λ (es : List Edge). edges_into es place) split
      ∙ ap (λ (b : Bool). cond b (e ∷ edges_into rest place) (edges_into rest place)) (ne_eqb e.target place apart) in
      let later : IsChain edges noted (i + 1) (value_at firsts place) (edges_into rest place) =
      chain_kept edges nexts i (value_at firsts e.target) (i + 1) (value_at firsts place) (edges_into rest place) (omega arith) (chains place inside) in
      let lower : IsChain edges noted i (value_at firsts place) (edges_into rest place) =
      chain_lower edges noted i (i + 1) (value_at firsts place) (edges_into rest place) (omega arith) later in
      subst (λ (n : ℕ). IsChain edges noted i n (edges_into (drop i edges) place)) (sym first)
      (subst (λ (es : List Edge). IsChain edges noted i (value_at firsts place) es) (sym into) lower)

  pub more_chained : AreChains edges noted i (set firsts e.target i)
  more_chained = λ place inside. by place (subst (λ (n : ℕ). place < n) (length-set firsts e.target i) inside) (cases_eq e.target place)
    where
      by : (place : ℕ) → place < length firsts → (e.target ≡ place) ⊎ (e.target ≡ place → ⊥)
          → IsChain edges noted i (value_at (set firsts e.target i) place) (edges_into (drop i edges) place)
      by place inside (inl same) = own place inside same
      by place inside (inr apart) = other place inside apart

-- ---- along a chain

-- what is left of a chain from a place on, after the edges of it that were found
pub record IsLeft (edges : List Edge) (nexts : List ℕ) (at : ℕ) (found all : List Edge) : Type 0 where
  pub low : ℕ
  pub rest : List Edge
  pub chain : IsChain edges nexts low at rest
  pub total : found ++ rest ≡ all

pub left_more : (edges : List Edge) (nexts : List ℕ) (at n : ℕ) (e : Edge) (found more all : List Edge) → IsLeft edges nexts at found all
    → at < length edges → e ≡ get_or edges at e → more ≡ found ++ e ∷ [] → n ≡ value_at nexts at → IsLeft edges nexts n more all
left_more edges nexts at n e found more all left within is put moved = by left.low left.rest left.chain left.total
  where
    by : (low : ℕ) (rest : List Edge) → IsChain edges nexts low at rest → found ++ rest ≡ all → IsLeft edges nexts n more all
    by low [] chain total = absurd (let past : length edges ≤ at = chain in omega (arith, past, within))
    by low (x ∷ xs) chain total =
        let read : slice_get edges at ≡ Some e = slice_get_read edges (length edges) at e refl within is in
        let same : e ≡ x = same_Some e x (sym read ∙ chain.1) in
        record {
          low = at + 1;
          rest = xs;
          chain = subst (λ (m : ℕ). IsChain edges nexts (at + 1) m xs) (sym moved) chain.2;
          total = ap (λ (l : List Edge). l ++ xs) put ∙ append_assoc found (e ∷ []) xs ∙ ap (λ (y : Edge). found ++ y ∷ xs) same ∙ total;
        }

pub left_smaller : (edges : List Edge) (nexts : List ℕ) (at n : ℕ) (found all : List Edge) → IsLeft edges nexts at found all → at < length edges
    → n ≡ value_at nexts at → length edges - n < length edges - at
left_smaller edges nexts at n found all left within moved = by left.low left.rest left.chain
  where
    further : (xs : List Edge) → IsChain edges nexts (at + 1) (value_at nexts at) xs → length edges - n < length edges - at
    further [] chain = let past : length edges ≤ value_at nexts at = chain in omega (arith, past, moved, within)
    further (y ∷ ys) chain = let later : at + 1 ≤ value_at nexts at = chain.0 in omega (arith, later, moved, within)

    by : (low : ℕ) (rest : List Edge) → IsChain edges nexts low at rest → length edges - n < length edges - at
    by low [] chain = absurd (let past : length edges ≤ at = chain in omega (arith, past, within))
    by low (x ∷ xs) chain = further xs chain.2

pub left_none : (edges : List Edge) (nexts : List ℕ) (at : ℕ) (found all : List Edge) → IsLeft edges nexts at found all → length edges ≤ at
    → found ≡ all
left_none edges nexts at found all left past = by left.low left.rest left.chain left.total
  where
    by : (low : ℕ) (rest : List Edge) → IsChain edges nexts low at rest → found ++ rest ≡ all → found ≡ all
    by low [] chain total = sym (append-nil found) ∙ total
    by low (x ∷ xs) chain total = absurd (let within : at < length edges = slice_get_within edges at x chain.1 in omega (arith, within, past))
