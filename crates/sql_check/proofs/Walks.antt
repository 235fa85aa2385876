-- The results of walks over an expression, for each of its forms.
use Rattle.std.proofs.Common.{◌≡◌, ℕ, List, [], ◌∷◌, ◌++◌, ap, ◌∙◌}
use Rattle.std.specs.Prelude.{Bool, true, false, ◌&&◌, ◌||◌, Option, Some, None, option_map, option_and_then, find, if◌then◌else◌, not}
use Rattle.std.specs.List.{list_all}
use Rattle.std.proofs.lemmas.List.Folds.{list_all-append}
use Rattle.ldv_value.specs.declared.value.Value.{Value}
use Rattle.sql_model.specs.declared.expr.ColumnName.{ColumnName}
use Rattle.sql_model.specs.declared.expr.Expr.{Expr}
use Rattle.sql_model.specs.declared.expr.Expr.TheVariants.{Constant, Column, Negate, Not, Both, IsNull, Aggregate}
use Rattle.sql_model.specs.declared.expr.Fold.{Fold}
use Rattle.sql_model.specs.declared.expr.Operator.{Operator}
use Rattle.sql_model.specs.declared.kind.Kind.{Kind}
use Rattle.sql_model.specs.declared.kind.Kind.TheVariants.{Int as IntKind, Truth as TruthKind}
use Rattle.sql_model.specs.Kinds.{kind_of_value, kind_of_column, is_number, is_logical, kind_if, kind_both, folded_kind, counted_kind, kind_step, kind, names_step, names_in, outer_step, outer_names, aggregate_step, has_aggregate, count_use, count_use_step, count_use_of, fold_counts, own_name_step, own_name}
use Rattle.sql_model.specs.Scope.{InScope, is_meant, place_of, places_in}
use Rattle.sql_model.proofs.Folds.{fold-Constant, fold-Column, fold-Negate, fold-Not, fold-Both, fold-IsNull, fold-Count, fold-Aggregate}
use Rattle.sql_check.specs.inner.Sources.{is_among, all_among}
use Rattle.ldv_value.proofs.Booleans.{and-true}
use Rattle.std.proofs.lemmas.List.{map-append}
use Rattle.sql_check.proofs.Lists.{all_among-append}

-- ---- kinds

module _ (scope : List InScope) where
  pub kind-Constant : (v : Value) (g : Bool) → kind scope (Constant v) g ≡ Some (kind_of_value v)
  kind-Constant v g = ap (λ (f : Bool → Option Kind). f g) (fold-Constant (kind_step scope) v)

  pub kind-Column : (c : ColumnName) (g : Bool) → kind scope (Column c) g ≡ option_map (λ entry. kind_of_column entry.column) (find (is_meant c) scope)
  kind-Column c g = ap (λ (f : Bool → Option Kind). f g) (fold-Column (kind_step scope) c)

  pub kind-Negate : (e : Expr) (g : Bool) → kind scope (Negate e) g ≡ option_and_then (λ k. kind_if (is_number k) IntKind) (kind scope e g)
  kind-Negate e g = ap (λ (f : Bool → Option Kind). f g) (fold-Negate (kind_step scope) e)

  pub kind-Not : (e : Expr) (g : Bool) → kind scope (Not e) g ≡ option_and_then (λ k. kind_if (is_logical k) TruthKind) (kind scope e g)
  kind-Not e g = ap (λ (f : Bool → Option Kind). f g) (fold-Not (kind_step scope) e)

  pub kind-Both : (op : Operator) (a b : Expr) (g : Bool) → kind scope (Both op a b) g ≡ option_and_then (λ k. option_and_then (kind_both op k) (kind scope b g)) (kind scope a g)
  kind-Both op a b g = ap (λ (f : Bool → Option Kind). f g) (fold-Both (kind_step scope) op a b)

  pub kind-IsNull : (e : Expr) (negative : Bool) (g : Bool) → kind scope (IsNull e negative) g ≡ option_and_then (λ k. kind_if (not (is_logical k)) TruthKind) (kind scope e g)
  kind-IsNull e negative g = ap (λ (f : Bool → Option Kind). f g) (fold-IsNull (kind_step scope) e negative)

  pub kind-Count : (f : Fold) (g : Bool) → kind scope (Aggregate f None) g ≡ (if g then counted_kind f else None)
  kind-Count f g = ap (λ (h : Bool → Option Kind). h g) (fold-Count (kind_step scope) f)

  pub kind-Aggregate : (f : Fold) (e : Expr) (g : Bool) → kind scope (Aggregate f (Some e)) g ≡ (if g then option_and_then (folded_kind f) (kind scope e false) else None)
  kind-Aggregate f e g = ap (λ (h : Bool → Option Kind). h g) (fold-Aggregate (kind_step scope) f e)

pub ruleset kind_forms = (kind-Constant, kind-Column, kind-Negate, kind-Not, kind-Both, kind-IsNull, kind-Count, kind-Aggregate)

-- ---- tests of all names

module _ (p : ColumnName → Bool) where
  pub all-Constant : (v : Value) → list_all p (names_in (Constant v)) ≡ true
  all-Constant v = ap (list_all p) (fold-Constant names_step v)

  pub all-Column : (c : ColumnName) → list_all p (names_in (Column c)) ≡ p c
  all-Column c = ap (list_all p) (fold-Column names_step c) ∙ and-true (p c)

  pub all-Negate : (e : Expr) → list_all p (names_in (Negate e)) ≡ list_all p (names_in e)
  all-Negate e = ap (list_all p) (fold-Negate names_step e)

  pub all-Not : (e : Expr) → list_all p (names_in (Not e)) ≡ list_all p (names_in e)
  all-Not e = ap (list_all p) (fold-Not names_step e)

  pub all-Both : (op : Operator) (a b : Expr) → list_all p (names_in (Both op a b)) ≡ (list_all p (names_in a) && list_all p (names_in b))
  all-Both op a b = ap (list_all p) (fold-Both names_step op a b) ∙ list_all-append p (names_in a) (names_in b)

  pub all-IsNull : (e : Expr) (negative : Bool) → list_all p (names_in (IsNull e negative)) ≡ list_all p (names_in e)
  all-IsNull e negative = ap (list_all p) (fold-IsNull names_step e negative)

  pub all-Count : (f : Fold) → list_all p (names_in (Aggregate f None)) ≡ true
  all-Count f = ap (list_all p) (fold-Count names_step f)

  pub all-Aggregate : (f : Fold) (e : Expr) → list_all p (names_in (Aggregate f (Some e))) ≡ list_all p (names_in e)
  all-Aggregate f e = ap (list_all p) (fold-Aggregate names_step f e)

pub ruleset all_forms = (all-Constant, all-Column, all-Negate, all-Not, all-Both, all-IsNull, all-Count, all-Aggregate)

-- ---- places

module _ (scope : List InScope) where
  pub places-Constant : (v : Value) → places_in scope (names_in (Constant v)) ≡ []
  places-Constant v = ap (places_in scope) (fold-Constant names_step v)

  pub places-Column : (c : ColumnName) → places_in scope (names_in (Column c)) ≡ place_of scope c ∷ []
  places-Column c = ap (places_in scope) (fold-Column names_step c)

  pub places-Negate : (e : Expr) → places_in scope (names_in (Negate e)) ≡ places_in scope (names_in e)
  places-Negate e = ap (places_in scope) (fold-Negate names_step e)

  pub places-Not : (e : Expr) → places_in scope (names_in (Not e)) ≡ places_in scope (names_in e)
  places-Not e = ap (places_in scope) (fold-Not names_step e)

  pub places-Both : (op : Operator) (a b : Expr) → places_in scope (names_in (Both op a b)) ≡ places_in scope (names_in a) ++ places_in scope (names_in b)
  places-Both op a b = ap (places_in scope) (fold-Both names_step op a b) ∙ map-append (place_of scope) (names_in a) (names_in b)

  pub places-IsNull : (e : Expr) (negative : Bool) → places_in scope (names_in (IsNull e negative)) ≡ places_in scope (names_in e)
  places-IsNull e negative = ap (places_in scope) (fold-IsNull names_step e negative)

  pub places-Count : (f : Fold) → places_in scope (names_in (Aggregate f None)) ≡ []
  places-Count f = ap (places_in scope) (fold-Count names_step f)

  pub places-Aggregate : (f : Fold) (e : Expr) → places_in scope (names_in (Aggregate f (Some e))) ≡ places_in scope (names_in e)
  places-Aggregate f e = ap (places_in scope) (fold-Aggregate names_step f e)

pub ruleset places_forms = (places-Constant, places-Column, places-Negate, places-Not, places-Both, places-IsNull, places-Count, places-Aggregate)

-- ---- places outside aggregates

module _ (scope : List InScope) (places : List ℕ) where
  pub among-Constant : (v : Value) → all_among scope places (outer_names (Constant v)) ≡ true
  among-Constant v = ap (all_among scope places) (fold-Constant outer_step v)

  pub among-Column : (c : ColumnName) → all_among scope places (outer_names (Column c)) ≡ is_among places (place_of scope c)
  among-Column c = ap (all_among scope places) (fold-Column outer_step c) ∙ and-true (is_among places (place_of scope c))

  pub among-Negate : (e : Expr) → all_among scope places (outer_names (Negate e)) ≡ all_among scope places (outer_names e)
  among-Negate e = ap (all_among scope places) (fold-Negate outer_step e)

  pub among-Not : (e : Expr) → all_among scope places (outer_names (Not e)) ≡ all_among scope places (outer_names e)
  among-Not e = ap (all_among scope places) (fold-Not outer_step e)

  pub among-Both : (op : Operator) (a b : Expr) → all_among scope places (outer_names (Both op a b)) ≡ (all_among scope places (outer_names a) && all_among scope places (outer_names b))
  among-Both op a b = ap (all_among scope places) (fold-Both outer_step op a b) ∙ all_among-append scope places (outer_names a) (outer_names b)

  pub among-IsNull : (e : Expr) (negative : Bool) → all_among scope places (outer_names (IsNull e negative)) ≡ all_among scope places (outer_names e)
  among-IsNull e negative = ap (all_among scope places) (fold-IsNull outer_step e negative)

  pub among-Count : (f : Fold) → all_among scope places (outer_names (Aggregate f None)) ≡ true
  among-Count f = ap (all_among scope places) (fold-Count outer_step f)

  pub among-Aggregate : (f : Fold) (e : Expr) → all_among scope places (outer_names (Aggregate f (Some e))) ≡ true
  among-Aggregate f e = ap (all_among scope places) (fold-Aggregate outer_step f e)

pub ruleset among_forms = (among-Constant, among-Column, among-Negate, among-Not, among-Both, among-IsNull, among-Count, among-Aggregate)

-- ---- aggregates

pub aggregate-Constant : (v : Value) → has_aggregate (Constant v) ≡ false
aggregate-Constant v = fold-Constant aggregate_step v

pub aggregate-Column : (c : ColumnName) → has_aggregate (Column c) ≡ false
aggregate-Column c = fold-Column aggregate_step c

pub aggregate-Negate : (e : Expr) → has_aggregate (Negate e) ≡ has_aggregate e
aggregate-Negate e = fold-Negate aggregate_step e

pub aggregate-Not : (e : Expr) → has_aggregate (Not e) ≡ has_aggregate e
aggregate-Not e = fold-Not aggregate_step e

pub aggregate-Both : (op : Operator) (a b : Expr) → has_aggregate (Both op a b) ≡ (has_aggregate a || has_aggregate b)
aggregate-Both op a b = fold-Both aggregate_step op a b

pub aggregate-IsNull : (e : Expr) (negative : Bool) → has_aggregate (IsNull e negative) ≡ has_aggregate e
aggregate-IsNull e negative = fold-IsNull aggregate_step e negative

pub aggregate-Count : (f : Fold) → has_aggregate (Aggregate f None) ≡ true
aggregate-Count f = fold-Count aggregate_step f

pub aggregate-Aggregate : (f : Fold) (e : Expr) → has_aggregate (Aggregate f (Some e)) ≡ true
aggregate-Aggregate f e = fold-Aggregate aggregate_step f e

pub ruleset aggregate_forms = (aggregate-Constant, aggregate-Column, aggregate-Negate, aggregate-Not, aggregate-Both, aggregate-IsNull, aggregate-Count, aggregate-Aggregate)

pub count_use_of-Constant : (v : Value) → count_use_of (Constant v) ≡ count_use false false
count_use_of-Constant v = fold-Constant count_use_step v

pub count_use_of-Column : (c : ColumnName) → count_use_of (Column c) ≡ count_use true false
count_use_of-Column c = fold-Column count_use_step c

pub count_use_of-Negate : (e : Expr) → count_use_of (Negate e) ≡ count_use_of e
count_use_of-Negate e = fold-Negate count_use_step e

pub count_use_of-Not : (e : Expr) → count_use_of (Not e) ≡ count_use_of e
count_use_of-Not e = fold-Not count_use_step e

pub count_use_of-Both : (op : Operator) (a b : Expr) → count_use_of (Both op a b) ≡ count_use ((count_use_of a).names_column || (count_use_of b).names_column) ((count_use_of a).counts_rows || (count_use_of b).counts_rows)
count_use_of-Both op a b = fold-Both count_use_step op a b

pub count_use_of-IsNull : (e : Expr) (negative : Bool) → count_use_of (IsNull e negative) ≡ count_use_of e
count_use_of-IsNull e negative = fold-IsNull count_use_step e negative

pub count_use_of-Count : (f : Fold) → count_use_of (Aggregate f None) ≡ count_use false true
count_use_of-Count f = fold-Count count_use_step f

pub count_use_of-Aggregate : (f : Fold) (e : Expr) → count_use_of (Aggregate f (Some e)) ≡ count_use (count_use_of e).names_column ((count_use_of e).counts_rows || fold_counts f (count_use_of e).names_column)
count_use_of-Aggregate f e = fold-Aggregate count_use_step f e

pub ruleset counting_forms = (count_use_of-Constant, count_use_of-Column, count_use_of-Negate, count_use_of-Not, count_use_of-Both, count_use_of-IsNull, count_use_of-Count, count_use_of-Aggregate)

-- ---- own names

pub own-Constant : (v : Value) → own_name (Constant v) ≡ None
own-Constant v = fold-Constant own_name_step v

pub own-Column : (c : ColumnName) → own_name (Column c) ≡ Some c.name
own-Column c = fold-Column own_name_step c

pub own-Negate : (e : Expr) → own_name (Negate e) ≡ None
own-Negate e = fold-Negate own_name_step e

pub own-Not : (e : Expr) → own_name (Not e) ≡ None
own-Not e = fold-Not own_name_step e

pub own-Both : (op : Operator) (a b : Expr) → own_name (Both op a b) ≡ None
own-Both op a b = fold-Both own_name_step op a b

pub own-IsNull : (e : Expr) (negative : Bool) → own_name (IsNull e negative) ≡ None
own-IsNull e negative = fold-IsNull own_name_step e negative

pub own-Count : (f : Fold) → own_name (Aggregate f None) ≡ None
own-Count f = fold-Count own_name_step f

pub own-Aggregate : (f : Fold) (e : Expr) → own_name (Aggregate f (Some e)) ≡ None
own-Aggregate f e = fold-Aggregate own_name_step f e

pub ruleset own_forms = (own-Constant, own-Column, own-Negate, own-Not, own-Both, own-IsNull, own-Count, own-Aggregate)
