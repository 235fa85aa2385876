-- Expressions that name no column, form by form, and their values.
use Rattle.std.proofs.Common.{◌≡◌, ◌∙◌, sym, ap, subst, refl, Bool, true, false, ◌&&◌, List, [], ◌∷◌, ◌++◌}
use Rattle.std.specs.Prelude.{Some, None}
use Rattle.predicates.proofs.Agree.{Agree, alike}
use Rattle.predicates.specs.inner.Constants.{are_none, is_nameless, IsConstant}
use Rattle.predicates.specs.Types.{ColumnName, Expr, Fold, Operator, Value}
use Rattle.sql_model.proofs.Folds.{fold-Constant, fold-Column, fold-Negate, fold-Not, fold-Both, fold-IsNull, fold-Count, fold-Aggregate}
use Rattle.sql_model.specs.Evaluation.{IsValue}
use Rattle.sql_model.specs.Kinds.{names_in, names_step}
use Rattle.sql_model.specs.Meaning.{Environment, Meaning}
use Rattle.sql_model.specs.Scope.{environment, places_in}
use Rattle.sql_model.specs.declared.expr.Expr.TheVariants.{Constant, Column, Negate, Not, Both, IsNull, Aggregate}

-- ---- forms

none-joined : (a b : List ColumnName) → are_none (a ++ b) ≡ (are_none a && are_none b)
none-joined [] b = refl
none-joined (name ∷ a) b = refl

pub nameless-Constant : (v : Value) → is_nameless (Constant v) ≡ true
nameless-Constant v = ap are_none (fold-Constant names_step v)

pub nameless-Column : (c : ColumnName) → is_nameless (Column c) ≡ false
nameless-Column c = ap are_none (fold-Column names_step c)

pub nameless-Negate : (e : Expr) → is_nameless (Negate e) ≡ is_nameless e
nameless-Negate e = ap are_none (fold-Negate names_step e)

pub nameless-Not : (e : Expr) → is_nameless (Not e) ≡ is_nameless e
nameless-Not e = ap are_none (fold-Not names_step e)

pub nameless-Both : (op : Operator) (a b : Expr) → is_nameless (Both op a b) ≡ (is_nameless a && is_nameless b)
nameless-Both op a b = ap are_none (fold-Both names_step op a b) ∙ none-joined (names_in a) (names_in b)

pub nameless-IsNull : (e : Expr) (negative : Bool) → is_nameless (IsNull e negative) ≡ is_nameless e
nameless-IsNull e negative = ap are_none (fold-IsNull names_step e negative)

pub nameless-Count : (f : Fold) → is_nameless (Aggregate f None) ≡ true
nameless-Count f = ap are_none (fold-Count names_step f)

pub nameless-Aggregate : (f : Fold) (e : Expr) → is_nameless (Aggregate f (Some e)) ≡ is_nameless e
nameless-Aggregate f e = ap are_none (fold-Aggregate names_step f e)

pub ruleset nameless_forms = (nameless-Constant, nameless-Column, nameless-Negate, nameless-Not, nameless-Both, nameless-IsNull, nameless-Count, nameless-Aggregate)

-- ---- values

none-named : (names : List ColumnName) → are_none names ≡ true → names ≡ []
none-named [] is = refl
none-named (name ∷ names) is = cc

-- the value over a row without a value is that over every row
pub constant_is : (expr : Expr) (value : Value) → is_nameless expr ≡ true → IsValue expr [] [] value → IsConstant expr value
constant_is expr value is found =
    let names : names_in expr ≡ [] = none-named (names_in expr) is in
    let none : Environment = environment [] [] in record {
      nameless = names;
      same = λ env.
          ap (λ (m : Meaning). m.value) (alike env none expr (subst (Agree env none) (sym names) tt))
          ∙ sym (found [] (ap (places_in []) names));
    }
