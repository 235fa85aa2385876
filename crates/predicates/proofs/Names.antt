-- The places of expressions' column names in a list, form by form.
use Rattle.std.proofs.Common.{◌≡◌, ℕ, zero, suc, ◌+◌, ◌-◌, ◌≤◌, List, [], ◌∷◌, ◌++◌, length, take, drop, refl, sym, ap, ◌∙◌, append-nil, inl, inr, arith}
use Rattle.std.specs.Prelude.{Some, None, Bool}
use Rattle.ldv_value.specs.declared.value.Value.{Value}
use Rattle.std.proofs.lemmas.Bool.{cases_lt}
use Rattle.std.proofs.lemmas.List.{drop-drop, length-drop}
use Rattle.std.proofs.Math.ListN.{drop_of_length-le}
use Rattle.predicates.proofs.Lists.{take-joined, drop-joined, none-taken}
use Rattle.predicates.specs.Placing.{own_places, other_places}
use Rattle.sql_model.proofs.Folds.{fold-Constant, fold-Column, fold-Negate, fold-Not, fold-Both, fold-IsNull, fold-Count, fold-Aggregate}
use Rattle.sql_model.specs.Kinds.{names_in, names_step}
use Rattle.predicates.specs.Types.{ColumnName, Expr, Fold, Operator}
use Rattle.sql_model.specs.declared.expr.Expr.TheVariants.{Constant, Column, Negate, Not, Both, IsNull, Aggregate}

-- ---- forms

module _ (l : List ℕ) where
  abbrev own : List ColumnName → List ℕ
  own names = take (length names) l

  abbrev other : List ColumnName → List ℕ
  other names = drop (length names) l

  pub own-Constant : (v : Value) → own_places (Constant v) l ≡ []
  own-Constant v = ap own (fold-Constant names_step v)

  pub own-Column : (c : ColumnName) → own_places (Column c) l ≡ take 1 l
  own-Column c = ap own (fold-Column names_step c)

  pub own-Negate : (e : Expr) → own_places (Negate e) l ≡ own_places e l
  own-Negate e = ap own (fold-Negate names_step e)

  pub own-Not : (e : Expr) → own_places (Not e) l ≡ own_places e l
  own-Not e = ap own (fold-Not names_step e)

  pub own-Both : (op : Operator) (a b : Expr) → own_places (Both op a b) l ≡ own_places a l ++ own_places b (other_places a l)
  own-Both op a b = ap own (fold-Both names_step op a b) ∙ take-joined (names_in a) (names_in b) l

  pub own-IsNull : (e : Expr) (negative : Bool) → own_places (IsNull e negative) l ≡ own_places e l
  own-IsNull e negative = ap own (fold-IsNull names_step e negative)

  pub own-Count : (f : Fold) → own_places (Aggregate f None) l ≡ []
  own-Count f = ap own (fold-Count names_step f)

  pub own-Aggregate : (f : Fold) (e : Expr) → own_places (Aggregate f (Some e)) l ≡ own_places e l
  own-Aggregate f e = ap own (fold-Aggregate names_step f e)

  pub other-Constant : (v : Value) → other_places (Constant v) l ≡ l
  other-Constant v = ap other (fold-Constant names_step v)

  pub other-Column : (c : ColumnName) → other_places (Column c) l ≡ drop 1 l
  other-Column c = ap other (fold-Column names_step c)

  pub other-Negate : (e : Expr) → other_places (Negate e) l ≡ other_places e l
  other-Negate e = ap other (fold-Negate names_step e)

  pub other-Not : (e : Expr) → other_places (Not e) l ≡ other_places e l
  other-Not e = ap other (fold-Not names_step e)

  pub other-Both : (op : Operator) (a b : Expr) → other_places (Both op a b) l ≡ other_places b (other_places a l)
  other-Both op a b = ap other (fold-Both names_step op a b) ∙ drop-joined (names_in a) (names_in b) l

  pub other-IsNull : (e : Expr) (negative : Bool) → other_places (IsNull e negative) l ≡ other_places e l
  other-IsNull e negative = ap other (fold-IsNull names_step e negative)

  pub other-Count : (f : Fold) → other_places (Aggregate f None) l ≡ l
  other-Count f = ap other (fold-Count names_step f)

  pub other-Aggregate : (f : Fold) (e : Expr) → other_places (Aggregate f (Some e)) l ≡ other_places e l
  other-Aggregate f e = ap other (fold-Aggregate names_step f e)

pub ruleset own_forms = (own-Constant, own-Column, own-Negate, own-Not, own-Both, own-IsNull, own-Count, own-Aggregate, other-Constant, other-Column, other-Negate, other-Not, other-Both, other-IsNull, other-Count, other-Aggregate)

-- ---- the next place

pub next-own_none : (own l : List ℕ) → l ≡ [] → own ≡ own ++ take 1 l
next-own_none own l is = sym (ap (λ r. own ++ take 1 r) is ∙ append-nil own)

pub next-other_none : (l : List ℕ) → l ≡ [] → l ≡ drop 1 l
next-other_none l is = is ∙ sym (ap (drop 1) is)

pub next-own_some : (own l rest : List ℕ) (place : ℕ) → l ≡ place ∷ rest → own ++ place ∷ [] ≡ own ++ take 1 l
next-own_some own l rest place is = sym (ap (λ r. own ++ take 1 r) is)

pub next-other_some : (l rest : List ℕ) (place : ℕ) → l ≡ place ∷ rest → rest ≡ drop 1 l
next-other_some l rest place is = sym (ap (drop 1) is)

pub ruleset next_forms = (next-own_none, next-other_none, next-own_some, next-other_some)

-- ---- places between two indexes

-- nothing is taken past the end
taken-past : (places : List ℕ) (at k : ℕ) → length places ≤ at → [] ≡ take k (drop at places)
taken-past places at k past = none-taken ℕ k ∙ ap (take k) (sym (drop_of_length-le places past))

pub none_between : (own places : List ℕ) (at k : ℕ) → length places ≤ at → own ≡ own ++ take k (drop at places)
none_between own places at k past = sym (append-nil own) ∙ ap (λ l. own ++ l) (taken-past places at k past)

-- lists that leave the same after so many items have taken the same
same-taken : (l : List ℕ) (k n : ℕ) → k ≤ length l → drop k l ≡ drop n l → take k l ≡ take n l
same-taken [] k n below same = sym (none-taken ℕ k) ∙ none-taken ℕ n
same-taken (x ∷ l) zero zero below same = refl
same-taken (x ∷ l) zero (suc n) below same = let long : length (x ∷ l) ≡ length l - n = ap length same ∙ length-drop n l in absurd (omega (arith, long))
same-taken (x ∷ l) (suc k) zero below same = let long : length l - k ≡ length (x ∷ l) = sym (length-drop k l) ∙ ap length same in absurd (omega (arith, long))
same-taken (x ∷ l) (suc k) (suc n) below same = ap (λ r. x ∷ r) (same-taken l k n (omega (arith, below)) same)

between : (places : List ℕ) (at end n : ℕ) → at ≤ end → (at ≤ length places → end ≤ length places) → drop end places ≡ drop n (drop at places)
    → take (end - at) (drop at places) ≡ take n (drop at places)
between places at end n onward within same = elim (cases_lt at (length places)) [
  | inl below ↦
      let reach : at + (end - at) ≡ end = omega (arith, onward) in
      let inside : end ≤ length places = within (omega (arith, below)) in
      let rest : drop (end - at) (drop at places) ≡ drop n (drop at places) = drop-drop (end - at) at places ∙ ap (λ (k : ℕ). drop k places) reach ∙ same in
      let few : end - at ≤ length (drop at places) = omega (arith, length-drop at places, inside) in
      same-taken (drop at places) (end - at) n few rest
  | inr past ↦ sym (taken-past places at (end - at) past) ∙ taken-past places at n past
]

-- what is taken up to the index after an expression's places is its own
pub own_taken : (own new places : List ℕ) (e : Expr) (at end : ℕ) → at ≤ end → (at ≤ length places → end ≤ length places) → drop end places ≡ other_places e (drop at places)
    → new ≡ own ++ take (end - at) (drop at places) → new ≡ own ++ own_places e (drop at places)
own_taken own new places e at end onward within others made = made ∙ ap (λ l. own ++ l) (between places at end (length (names_in e)) onward within others)
