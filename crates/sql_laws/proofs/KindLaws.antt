-- The value of an expression has the expression's kind.
use Rattle.std.proofs.Common.{◌≡◌, ℕ, suc, ◌+◌, ◌^◌, arith, List, [], ◌∷◌, refl, sym, ap, ◌∙◌, subst, Bool, true, false, inl, inr}
use Rattle.std.specs.Prelude.{ℤ, pos, negsuc, ◌+ℤ◌, ◌-ℤ◌, ◌*ℤ◌, neg_ℤ, nat_lt, Option, Some, None, option_map, option_and_then, map, find, fold, length, not, ◌&&◌, if◌then◌else◌}
use Rattle.std.specs.List.{list_all, reduce}
use Rattle.std.specs.Ordering.{is_lt, is_gt}
use Rattle.ldv_value.proofs.Booleans.{and-parts, and-from}
use Rattle.ldv_value.proofs.Cases.{cases-bool}
use Rattle.ldv_value.proofs.Lists.{list_all-filter}
use Rattle.ldv_value.proofs.Options.{same-some, none-some}
use Rattle.ldv_value.specs.Order.{order}
use Rattle.sql_model.specs.declared.expr.Expr.TheFolds.{fold-roll-Expr, ind-Expr, map-Expr}
use Rattle.sql_model.specs.declared.expr.Expr.TheOpen as open_expr
use Rattle.sql_model.specs.declared.expr.Expr.TheViews.{roll-Expr}
use Rattle.sql_model.specs.declared.expr.Fold.TheVariants as fold
use Rattle.sql_model.specs.Kinds.{kind_of_value, kind_of_column, is_number, is_logical, kind_if, kind_both, folded_kind, counted_kind, kind_step, kind, is_of_kind}
use Rattle.ldv_value.specs.Cells.{value_at}
use Rattle.sql_model.specs.Scope.{InScope, is_meant, place_of}
use Rattle.sql_model.specs.Meaning.{Environment, Meaning, number_value, with_numbers, negation_of, value_both, or_null, lesser_of, greater_of, total, aggregate_of, count_value, known_values, is_null, in_first, eval_step, eval}
use Rattle.sql_laws.specs.Types.{Value, Null, Int, Text, ColumnName, Expr, Expr-F, Fold, Operator, Add, Subtract, Multiply, Compare, And, Or, Kind, IntKind, TextKind, AnyKind, TruthKind}
use Rattle.sql_laws.specs.KindLaw.{AllFit, KindLaw, is_typed_row, RowLaw}

abbrev IsOf : Kind → Value → Type 0
IsOf k v = is_of_kind k v ≡ true

-- ---- values

null_kind : (k : Kind) → IsOf k Null
null_kind IntKind = refl
null_kind TextKind = refl
null_kind AnyKind = refl
null_kind TruthKind = refl

own_kind : (v : Value) → IsOf (kind_of_value v) v
own_kind Null = refl
own_kind (Int n) = refl
own_kind (Text t) = refl

number_kind : (z : ℤ) → IsOf IntKind (number_value z)
number_kind (pos n) = elim (cases-bool (nat_lt n (2 ^ 63))) [
  | inl fits ↦ rw fits refl
  | inr outside ↦ rw outside refl
]
number_kind (negsuc n) = elim (cases-bool (nat_lt n (2 ^ 63))) [
  | inl fits ↦ rw fits refl
  | inr outside ↦ rw outside refl
]

negated_kind : (v : Value) → IsOf IntKind (negation_of v)
negated_kind Null = refl
negated_kind (Int n) = number_kind (neg_ℤ n)
negated_kind (Text t) = refl

numbers_kind : (f : ℤ → ℤ → ℤ) (a b : Value) → IsOf IntKind (with_numbers f a b)
numbers_kind f Null b = refl
numbers_kind f (Int m) Null = refl
numbers_kind f (Int m) (Int n) = number_kind (f m n)
numbers_kind f (Int m) (Text t) = refl
numbers_kind f (Text s) b = refl

-- ---- kinds

kind_is : (b : Bool) (k l : Kind) → kind_if b k ≡ Some l → k ≡ l
kind_is true k l is = same-some k l is
kind_is false k l is = absurd (none-some l is)

after_kind : (o : Option Kind) (test : Kind → Bool) (k l : Kind) → option_and_then (λ m. kind_if (test m) k) o ≡ Some l
    → k ≡ l
after_kind None test k l is = absurd (none-some l is)
after_kind (Some m) test k l is = kind_is (test m) k l is

-- ---- aggregates

module _ (k : Kind) where
  abbrev AllOf : List Value → Type 0
  AllOf vs = list_all (is_of_kind k) vs ≡ true

  lesser_kind : (a b : Value) → IsOf k a → IsOf k b → IsOf k (lesser_of a b)
  lesser_kind a b first second = elim (cases-bool (is_lt (order b a))) [
    | inl turned ↦ rw turned second
    | inr kept ↦ rw kept first
  ]

  greater_kind : (a b : Value) → IsOf k a → IsOf k b → IsOf k (greater_of a b)
  greater_kind a b first second = elim (cases-bool (is_gt (order b a))) [
    | inl turned ↦ rw turned second
    | inr kept ↦ rw kept first
  ]

  fold_kind : (f : Value → Value → Value) → ((a b : Value) → IsOf k a → IsOf k b → IsOf k (f a b)) → (v : Value) (vs : List Value)
      → IsOf k v → AllOf vs → IsOf k (fold f v vs)
  fold_kind f keeps v [] here all = here
  fold_kind f keeps v (w ∷ ws) here all =
      let both = and-parts (is_of_kind k w) (list_all (is_of_kind k) ws) all in
      fold_kind f keeps (f v w) ws (keeps v w here both.0) both.1

  reduced_kind : (f : Value → Value → Value) → ((a b : Value) → IsOf k a → IsOf k b → IsOf k (f a b)) → (vs : List Value)
      → AllOf vs → IsOf k (or_null (reduce f vs))
  reduced_kind f keeps [] all = null_kind k
  reduced_kind f keeps (v ∷ vs) all =
      let both = and-parts (is_of_kind k v) (list_all (is_of_kind k) vs) all in
      fold_kind f keeps v vs both.0 both.1

sum_kind : (vs : List Value) → IsOf IntKind (aggregate_of fold.Sum vs)
sum_kind [] = refl
sum_kind (v ∷ vs) = number_kind (total (v ∷ vs))

count_kind : (vs : List Value) → IsOf IntKind (aggregate_of fold.Count vs)
count_kind vs = number_kind (pos (length vs))

folded_is : (f : Fold) (k l : Kind) (vs : List Value) → folded_kind f k ≡ Some l → list_all (is_of_kind k) vs ≡ true
    → IsOf l (aggregate_of f vs)
folded_is fold.Count k l vs is all = subst (λ m. IsOf m (aggregate_of fold.Count vs)) (kind_is (not (is_logical k)) IntKind l is) (count_kind vs)
folded_is fold.Sum k l vs is all = subst (λ m. IsOf m (aggregate_of fold.Sum vs)) (kind_is (is_number k) IntKind l is) (sum_kind vs)
folded_is fold.Min k l vs is all = subst (λ m. IsOf m (aggregate_of fold.Min vs)) (kind_is (not (is_logical k)) k l is) (reduced_kind k lesser_of (lesser_kind k) vs all)
folded_is fold.Max k l vs is all = subst (λ m. IsOf m (aggregate_of fold.Max vs)) (kind_is (not (is_logical k)) k l is) (reduced_kind k greater_of (greater_kind k) vs all)

counted_is : (f : Fold) (l : Kind) → counted_kind f ≡ Some l → IntKind ≡ l
counted_is fold.Count l is = same-some IntKind l is
counted_is fold.Sum l is = absurd (none-some l is)
counted_is fold.Min l is = absurd (none-some l is)
counted_is fold.Max l is = absurd (none-some l is)

-- ---- operators

arithmetic_is : (f : ℤ → ℤ → ℤ) (b : Bool) (l : Kind) (v w : Value) → kind_if b IntKind ≡ Some l → IsOf l (with_numbers f v w)
arithmetic_is f b l v w is = subst (λ m. IsOf m (with_numbers f v w)) (kind_is b IntKind l is) (numbers_kind f v w)

both_is : (op : Operator) (j k l : Kind) (v w : Value) → kind_both op j k ≡ Some l → IsOf l (value_both op v w)
both_is Add j k l v w is = arithmetic_is (λ m n. m +ℤ n) (is_number j && is_number k) l v w is
both_is Subtract j k l v w is = arithmetic_is (λ m n. m -ℤ n) (is_number j && is_number k) l v w is
both_is Multiply j k l v w is = arithmetic_is (λ m n. m *ℤ n) (is_number j && is_number k) l v w is
both_is (Compare c) j k l v w is = null_kind l
both_is And j k l v w is = null_kind l
both_is Or j k l v w is = null_kind l

both_parts : (op : Operator) (a b : Option Kind) (l : Kind) (v w : Value)
    → option_and_then (λ j. option_and_then (kind_both op j) b) a ≡ Some l → IsOf l (value_both op v w)
both_parts op None b l v w is = absurd (none-some l is)
both_parts op (Some j) None l v w is = absurd (none-some l is)
both_parts op (Some j) (Some k) l v w is = both_is op j k l v w is

-- ---- expressions

module _ (scope : List InScope) where
  abbrev HasKind : Expr → Type 0
  HasKind e = (over_groups : Bool) (k : Kind) (group : List Environment) → AllFit scope group
      → kind scope e over_groups ≡ Some k → IsOf k (eval e group).value

  abbrev Such : Type 0
  Such = (e : Expr) × HasKind e

  abbrev inside : Expr-F Such → Expr-F Expr
  inside y = map-Expr Such Expr (λ e. e.0) y

  -- by the next layer's equations
  layer : (x : Expr-F Expr)
      → ((over_groups : Bool) (k : Kind) (group : List Environment) → AllFit scope group
      → kind_step scope (map-Expr Expr (Bool → Option Kind) (kind scope) x) over_groups ≡ Some k
      → IsOf k (eval_step (map-Expr Expr (List Environment → Meaning) eval x) group).value)
      → HasKind (roll-Expr x)
  layer x key over_groups k group fit is =
      (λ j. is_of_kind k (fold-roll-Expr (List Environment → Meaning) eval_step x j group).value)
      ∙ key over_groups k group fit (sym (λ j. fold-roll-Expr (Bool → Option Kind) (kind_step scope) x j over_groups) ∙ is)

  column_is : (c : ColumnName) (k : Kind) (group : List Environment) → AllFit scope group → (o : Option InScope)
      → find (is_meant c) scope ≡ o → option_map (λ entry. kind_of_column entry.column) o ≡ Some k
      → IsOf k (in_first group c)
  column_is c k [] fit o found is = null_kind k
  column_is c k (env ∷ envs) fit None found is = absurd (none-some k is)
  column_is c k (env ∷ envs) fit (Some entry) found is = subst (λ m. IsOf m (env c)) (same-some (kind_of_column entry.column) k is) (fit.0 c entry found)

  values_are : (e : Expr) → HasKind e → (k : Kind) (group : List Environment) → AllFit scope group
      → kind scope e false ≡ Some k → list_all (is_of_kind k) (map (λ env. (eval e (env ∷ [])).value) group) ≡ true
  values_are e has k [] fit is = refl
  values_are e has k (env ∷ envs) fit is = and-from (is_of_kind k (eval e (env ∷ [])).value) (list_all (is_of_kind k) (map (λ env. (eval e (env ∷ [])).value) envs)) (has false k (env ∷ []) (fit.0, tt) is) (values_are e has k envs fit.1 is)

  aggregate_is : (f : Fold) (e : Expr) → HasKind e → (k l : Kind) (group : List Environment) → AllFit scope group
      → kind scope e false ≡ Some k → folded_kind f k ≡ Some l
      → IsOf l (aggregate_of f (known_values (map (λ env. (eval e (env ∷ [])).value) group)))
  aggregate_is f e has k l group fit arg is =
      let values : List Value = map (λ env. (eval e (env ∷ [])).value) group in
      folded_is f k l (known_values values) is (list_all-filter (is_of_kind k) (λ v. not (is_null v)) values (values_are e has k group fit arg))

  aggregate_by : (f : Fold) (e : Expr) → HasKind e → (over_groups : Bool) (l : Kind) (group : List Environment) → AllFit scope group
      → (o : Option Kind) → kind scope e false ≡ o → (if over_groups then option_and_then (folded_kind f) o else None) ≡ Some l
      → IsOf l (aggregate_of f (known_values (map (λ env. (eval e (env ∷ [])).value) group)))
  aggregate_by f e has false l group fit o arg is = absurd (none-some l is)
  aggregate_by f e has true l group fit None arg is = absurd (none-some l is)
  aggregate_by f e has true l group fit (Some k) arg is = aggregate_is f e has k l group fit arg is

  counted_by : (f : Fold) (over_groups : Bool) (l : Kind) → (if over_groups then counted_kind f else None) ≡ Some l → IntKind ≡ l
  counted_by f true l is = counted_is f l is
  counted_by f false l is = absurd (none-some l is)

  step : (y : Expr-F Such) → HasKind (roll-Expr (inside y))
  step (open_expr.Constant v) = layer (open_expr.Constant v) (λ over_groups k group fit is. subst (λ m. IsOf m v) (same-some (kind_of_value v) k is) (own_kind v))
  step (open_expr.Column c) = layer (open_expr.Column c) (λ over_groups k group fit is. column_is c k group fit (find (is_meant c) scope) refl is)
  step (open_expr.Negate e) = layer (open_expr.Negate e.0) (λ over_groups k group fit is.
      subst (λ m. IsOf m (negation_of (eval e.0 group).value)) (after_kind (kind scope e.0 over_groups) is_number IntKind k is) (negated_kind (eval e.0 group).value))
  step (open_expr.Not e) = layer (open_expr.Not e.0) (λ over_groups k group fit is. null_kind k)
  step (open_expr.Both op a b) = layer (open_expr.Both op a.0 b.0) (λ over_groups k group fit is.
      both_parts op (kind scope a.0 over_groups) (kind scope b.0 over_groups) k (eval a.0 group).value (eval b.0 group).value is)
  step (open_expr.IsNull e negative) = layer (open_expr.IsNull e.0 negative) (λ over_groups k group fit is. null_kind k)
  step (open_expr.Aggregate f None) = layer (open_expr.Aggregate f None) (λ over_groups k group fit is.
      subst (λ m. IsOf m (count_value group)) (counted_by f over_groups k is) (number_kind (pos (length group))))
  step (open_expr.Aggregate f (Some e)) = layer (open_expr.Aggregate f (Some e.0)) (λ over_groups k group fit is.
      aggregate_by f e.0 e.1 over_groups k group fit (kind scope e.0 false) refl is)

  has_kind : (e : Expr) → HasKind e
  has_kind = ind-Expr HasKind (λ x y is. subst (λ (z : Expr-F Expr). HasKind (roll-Expr z)) is (step y))

pub kind_law : KindLaw
kind_law scope e over_groups k group fit is = has_kind scope e over_groups k group fit is

-- ---- a row of values in scope

value_next : (v : Value) (vs : List Value) (n : ℕ) → value_at (v ∷ vs) (1 + n) ≡ value_at vs n
value_next v vs n = let e : 1 + n ≡ suc n = omega arith in ap (value_at (v ∷ vs)) e

pub row_law : RowLaw
row_law [] values typed c entry found = absurd (none-some entry found)
row_law (s ∷ ss) [] typed c entry found = null_kind (kind_of_column entry.column)
row_law (s ∷ ss) (v ∷ vs) typed c entry found =
    let both = and-parts (is_of_kind (kind_of_column s.column) v) (is_typed_row ss vs) typed in
    elim (cases-bool (is_meant c s)) [
      | inl hit ↦
          let e : Some s ≡ Some entry = rw hit at found in
          rw hit (subst (λ t. IsOf (kind_of_column t.column) v) (same-some s entry e) both.0)
      | inr miss ↦
          let more : find (is_meant c) ss ≡ Some entry = rw miss at found in
          rw miss (ap (is_of_kind (kind_of_column entry.column)) (value_next v vs (place_of ss c)) ∙ row_law ss vs both.1 c entry more)
    ]
