-- Queries: reading agrees with the grammar.
use Rattle.std.proofs.Common.{◌≡◌, ℕ, ◌≤◌, ℤ, pos, negsuc, List, [], ◌∷◌, ◌++◌, length, refl, sym, ap, ◌∙◌, subst, Bool, true, false, Some, None, inl, inr, arith, append_assoc}
use Rattle.std.specs.Prelude.{Option, if◌then◌else◌, codes}
use Rattle.std.proofs.lemmas.Bool.{cases_Bool}
use Rattle.ldv_value.specs.declared.value.Value.{Value}
use Rattle.sql_model.specs.declared.statement.Core.{Core}
use Rattle.sql_model.specs.declared.statement.Order.{Order}
use Rattle.sql_model.specs.declared.statement.OrderKey.{OrderKey}
use Rattle.sql_model.specs.declared.statement.OrderKey.TheVariants.{Name, Place}
use Rattle.sql_model.specs.declared.statement.Query.{Query}
use Rattle.sql_model.specs.declared.token.Token.{Token}
use Rattle.sql_model.specs.declared.token.Token.TheVariants.{Word, Number, Quoted, Given}
use Rattle.ldv_value.specs.Options.{◌>>=◌, only_if}
use Rattle.sql_model.specs.Grammar.{word, IsName}
use Rattle.sql_model.specs.GrammarOfStatements.{Then, Optionally, AreCores, IsKey, IsDirection, IsOrder, AreOrders, IsBound, IsQuery}
use Rattle.sql_model.specs.Queries.{place_of, key_of, reads_key, tokens_after_direction, reads_order, reads_orders, bound_of, reads_bound, reads_limit, reads_query}
use Rattle.sql_model.specs.Reader.{starts, tail, tokens_past, name_in}
use Rattle.sql_parse.proofs.ClausesLaw.{clause_law}
use Rattle.sql_parse.proofs.ExpressionsLaw.{starts_is}
use Rattle.sql_parse.proofs.Follows.{ends_by, ends_lack, Follows, follows_after, follows_nothing, follows_optional, follows_then}
use Rattle.sql_parse.proofs.Laws.{Law, state_law, same_law, token_law, token_read, then_law, made_law, optional_law}
use Rattle.sql_parse.proofs.Named.{name_is}
use Rattle.ldv_value.proofs.Options.{bind-some, same-some}
use Rattle.sql_parse.proofs.PartsLaw.{comma, then_filled}
use Rattle.sql_parse.proofs.CoresLaw.{after_cores, cores_law, cores_start}

-- what may stand after a statement, and after ORDER BY
abbrev pub after_all : List (List ℕ)
after_all = codes ";" ∷ []

abbrev after_orders : List (List ℕ)
after_orders = codes "limit" ∷ after_all

abbrev after_order : List (List ℕ)
after_order = comma ∷ after_orders

abbrev after_key : List (List ℕ)
after_key = codes "asc" ∷ codes "desc" ∷ after_order

-- ---- the key of an order

place_is : (z : ℤ) (n : ℕ) → place_of z ≡ Some n → z ≡ pos n
place_is (pos m) n h = ap pos (same-some m n h)
place_is (negsuc m) n h = cc

abbrev KeyForm : OrderKey → List Token → Type 0
KeyForm k ts = (t : Token) × (ts ≡ t ∷ []) × (key_of t ≡ Some k)

key_is : (t : Token) (k : OrderKey) → key_of t ≡ Some k → IsKey k (t ∷ [])
key_is (Word w) k h =
    let p : (n : List ℕ) × (name_in w ≡ Some n) × (Some (Name n) ≡ Some k) = bind-some (name_in w) (λ n. Some (Name n)) k h in
    let q : (Word w ≡ Word p.0) × IsName p.0 = name_is (Word w) p.0 p.1 in
    subst (λ (j : OrderKey). IsKey j (Word w ∷ [])) (same-some _ _ p.2) (ap (λ (t : Token). t ∷ []) q.0, q.1)
key_is (Number z) k h =
    let p : (n : ℕ) × (place_of z ≡ Some n) × (Some (Place n) ≡ Some k) = bind-some (place_of z) (λ n. Some (Place n)) k h in
    subst (λ (j : OrderKey). IsKey j (Number z ∷ [])) (same-some _ _ p.2) (ap (λ (y : ℤ). Number y ∷ []) (place_is z p.0 p.1))
key_is (Quoted t) k h = absurd cc
key_is (Given v) k h = absurd cc

key_to : (k : OrderKey) (ts : List Token) → KeyForm k ts → IsKey k ts
key_to k ts (t, e, is) = subst (IsKey k) (sym e) (key_is t k is)

key_from : (k : OrderKey) (ts : List Token) → IsKey k ts → KeyForm k ts
key_from (Name n) ts (e, is) = (Word n, e, ap (λ b. only_if b (Some n) >>= λ m. Some (Name m)) is)
key_from (Place n) ts e = (Number (pos n), e, refl)

key_law : (ws : List (List ℕ)) → Law IsKey ws reads_key
key_law ws = state_law KeyForm IsKey ws reads_key (token_law key_of ws) key_to key_from

key_filled : (k : OrderKey) (ts : List Token) → IsKey k ts → 1 ≤ length ts
key_filled (Name n) ts (e, is) = omega (arith, ap length e)
key_filled (Place n) ts e = omega (arith, ap length e)

-- ---- ASC and DESC

abbrev Directed : List Token → Type 0
Directed ts = (front : List Token) × (ts ≡ front ++ tokens_after_direction ts) × IsDirection (starts (codes "desc") ts) front

undirected : (ts : List Token) → starts (codes "asc") ts ≡ false → starts (codes "desc") ts ≡ false → tokens_after_direction ts ≡ ts
undirected ts no_asc no_desc =
    ap (λ b. if b then tail ts else tokens_past (codes "desc") ts) no_asc ∙ ap (λ b. if b then tail ts else ts) no_desc

direction_read : (ts : List Token) → Directed ts
direction_read ts = elim (cases_Bool (starts (codes "asc") ts)) [
  | inl asc ↦ subst Directed (sym (starts_is (codes "asc") ts asc)) (word "asc" ∷ [], refl, inr refl)
  | inr no_asc ↦ elim (cases_Bool (starts (codes "desc") ts)) [
    | inl desc ↦ subst Directed (sym (starts_is (codes "desc") ts desc)) (word "desc" ∷ [], refl, refl)
    | inr no_desc ↦ ([], sym (undirected ts no_asc no_desc), subst (λ b. IsDirection b []) (sym no_desc) (inl refl))
  ]
]

direction_back : (d : Bool) (front rest : List Token) → IsDirection d front → ends_by after_order rest ≡ true → (starts (codes "desc") (front ++ rest) ≡ d) × (tokens_after_direction (front ++ rest) ≡ rest)
direction_back true front rest e ends = (ap (λ (l : List Token). starts (codes "desc") (l ++ rest)) e, ap (λ (l : List Token). tokens_after_direction (l ++ rest)) e)
direction_back false front rest (inl e) ends =
    let no_asc : starts (codes "asc") rest ≡ false = ends_lack (codes "asc") after_order rest refl ends in
    let no_desc : starts (codes "desc") rest ≡ false = ends_lack (codes "desc") after_order rest refl ends in
    (ap (λ (l : List Token). starts (codes "desc") (l ++ rest)) e ∙ no_desc, ap (λ (l : List Token). tokens_after_direction (l ++ rest)) e ∙ undirected rest no_asc no_desc)
direction_back false front rest (inr e) ends = (ap (λ (l : List Token). starts (codes "desc") (l ++ rest)) e, ap (λ (l : List Token). tokens_after_direction (l ++ rest)) e)

abbrev DirectedForm : OrderKey → Order → List Token → Type 0
DirectedForm k o ts = (o.key ≡ k) × IsDirection o.descending ts

abbrev directs : OrderKey → List Token → Option (Order × List Token)
directs k ts = Some (record { key = k; descending = starts (codes "desc") ts }, tokens_after_direction ts)

direction_law : (k : OrderKey) → Law (DirectedForm k) after_order (directs k)
direction_law k = record {
  sound = λ ts o rest h.
      let same : (record { key = k; descending = starts (codes "desc") ts }, tokens_after_direction ts) ≡ (o, rest) = same-some _ _ h in
      let d : Directed ts = direction_read ts in
      subst (λ (p : Order × List Token). (front : List Token) × (ts ≡ front ++ p.1) × DirectedForm k p.0 front) same (d.0, d.1, (refl, d.2));
  complete = λ front rest o form ends.
      let d = direction_back o.descending front rest form.1 ends in
      ap (λ (b : Bool). Some (record { key = k; descending = b }, tokens_after_direction (front ++ rest))) d.0 ∙ ap (λ (l : List Token). Some (record { key = k; descending = o.descending }, l)) d.1
      ∙ ap (λ (j : OrderKey). Some (record { key = j; descending = o.descending }, rest)) (sym form.0);
}

follows_direction : (d : Bool) → Follows (IsDirection d) after_order after_key
follows_direction true ts rest e h = ap (λ (l : List Token). ends_by after_key (l ++ rest)) e
follows_direction false ts rest (inl e) h = follows_nothing after_order after_key refl ts rest e h
follows_direction false ts rest (inr e) h = ap (λ (l : List Token). ends_by after_key (l ++ rest)) e

-- ---- ORDER BY

abbrev OrderForm : Order → List Token → Type 0
OrderForm o ts = (k : OrderKey) × Then (IsKey k) (DirectedForm k o) ts

order_to : (o : Order) (ts : List Token) → OrderForm o ts → IsOrder o ts
order_to o ts (k, (front, back, e, key, (same, direction))) = (front, back, e, subst (λ (j : OrderKey). IsKey j front) (sym same) key, direction)

order_from : (o : Order) (ts : List Token) → IsOrder o ts → OrderForm o ts
order_from o ts (front, back, e, key, direction) = (o.key, (front, back, e, key, (refl, direction)))

order_law : Law IsOrder after_order reads_order
order_law =
    state_law OrderForm IsOrder after_order reads_order
    (then_law (key_law after_key) (λ k. direction_law k) (λ k o ts rest form h. follows_direction o.descending ts rest form.1 h)) order_to order_from

order_filled : (o : Order) (ts : List Token) → IsOrder o ts → 1 ≤ length ts
order_filled o ts h = then_filled ts (key_filled o.key) h

orders_law : Law AreOrders after_orders reads_orders
orders_law = clause_law "order" "by" IsOrder after_orders AreOrders (λ ts. (λ e. e, λ e. e)) (λ o os ts. (λ form. form, λ form. form)) order_law order_filled refl refl refl

-- ---- LIMIT

abbrev TokenForm : Value → List Token → Type 0
TokenForm v ts = (t : Token) × (ts ≡ t ∷ []) × (bound_of t ≡ Some v)

bound_is : (t : Token) (v : Value) → bound_of t ≡ Some v → IsBound v (t ∷ [])
bound_is (Word w) v h = absurd cc
bound_is (Number z) v h = inl (z, refl, sym (same-some _ _ h))
bound_is (Quoted t) v h = absurd cc
bound_is (Given u) v h = inr (ap (λ (x : Value). Given x ∷ []) (same-some _ _ h))

bound_to : (v : Value) (ts : List Token) → TokenForm v ts → IsBound v ts
bound_to v ts (t, e, is) = subst (IsBound v) (sym e) (bound_is t v is)

bound_from : (v : Value) (ts : List Token) → IsBound v ts → TokenForm v ts
bound_from v ts (inl (z, e, is)) = (Number z, e, ap (λ (x : Value). Some x) (sym is))
bound_from v ts (inr e) = (Given v, e, refl)

bound_law : Law IsBound after_all (token_read bound_of)
bound_law = state_law TokenForm IsBound after_all (token_read bound_of) (token_law bound_of after_all) bound_to bound_from

abbrev some_bound : List Token → Option (Option Value × List Token)
some_bound ts = token_read bound_of ts >>= λ r. Some (Some r.0, r.1)

bound_same : (ts : List Token) → reads_bound ts ≡ some_bound ts
bound_same [] = refl
bound_same (Word w ∷ ts) = refl
bound_same (Number z ∷ ts) = refl
bound_same (Quoted t ∷ ts) = refl
bound_same (Given v ∷ ts) = refl

limit_law : Law (λ o ts. Optionally "limit" IsBound o ts) after_all reads_limit
limit_law =
    same_law (λ ts. if starts (codes "limit") ts then some_bound (tail ts) else Some (None, ts)) reads_limit
    (λ ts. ap (λ (o : Option (Option Value × List Token)). if starts (codes "limit") ts then o else Some (None, ts)) (bound_same (tail ts)))
    (optional_law "limit" bound_law refl)

-- ---- queries

abbrev LimitedForm : List Core → List Order → Query → List Token → Type 0
LimitedForm c o q ts = (l : Option Value) × (q ≡ record { cores = c; order = o; limit = l }) × Optionally "limit" IsBound l ts

abbrev OrderedForm : List Core → Query → List Token → Type 0
OrderedForm c q ts = (o : List Order) × Then (AreOrders o) (λ ts. LimitedForm c o q ts) ts

abbrev QueryForm : Query → List Token → Type 0
QueryForm q ts = (c : List Core) × Then (AreCores c) (λ ts. OrderedForm c q ts) ts

query_to : (q : Query) (ts : List Token) → QueryForm q ts → IsQuery q ts
query_to q ts (c, (f1, b1, e1, cores, (o, (f2, b2, e2, orders, (l, made, limit))))) = subst (λ (r : Query). IsQuery r ts) (sym made) (f1, b1, e1, cores, (f2, b2, e2, orders, limit))

query_from : (q : Query) (ts : List Token) → IsQuery q ts → QueryForm q ts
query_from q ts (f1, b1, e1, cores, (f2, b2, e2, orders, limit)) = (q.cores, (f1, b1, e1, cores, (q.order, (f2, b2, e2, orders, (q.limit, refl, limit)))))

follows_limited : (c : List Core) (o : List Order) (q : Query) → Follows (LimitedForm c o q) after_all after_orders
follows_limited c o q ts rest form h = follows_optional IsBound "limit" after_all after_orders form.0 refl refl ts rest form.2 h

follows_orders : (o : List Order) → Follows (AreOrders o) after_orders after_cores
follows_orders [] = follows_nothing after_orders after_cores refl
follows_orders (o ∷ os) = follows_after "order" after_orders after_cores refl

follows_ordered : (c : List Core) (q : Query) → Follows (OrderedForm c q) after_all after_cores
follows_ordered c q ts rest form h = follows_then after_all after_orders after_cores (follows_orders form.0) (follows_limited c form.0 q) ts rest form.1 h

pub query_law : Law IsQuery after_all reads_query
query_law =
    state_law QueryForm IsQuery after_all reads_query
    (then_law cores_law (λ c. then_law orders_law (λ o. made_law (λ (l : Option Value). record { cores = c; order = o; limit = l }) limit_law) (λ o q. follows_limited c o q)) (λ c q. follows_ordered c q))
    query_to query_from

-- the first word of a query is SELECT
pub query_start : (q : Query) (front rest : List Token) → IsQuery q front → starts (codes "select") (front ++ rest) ≡ true
query_start q front rest (one, back, e, cores, others) =
    ap (λ (l : List Token). starts (codes "select") (l ++ rest)) e ∙ ap (starts (codes "select")) (append_assoc one back rest) ∙ cores_start q.cores one (back ++ rest) cores
