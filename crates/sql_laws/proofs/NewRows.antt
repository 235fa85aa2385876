-- The rows that a checked statement inserts or changes have the kinds of their columns. If none has NULL in a
-- NOT NULL column, they are rows of the table.
use Rattle.std.proofs.Common.{◌≡◌, ℕ, suc, pred, List, [], ◌∷◌, refl, sym, ap, ◌∙◌, subst, Bool, true, false, inl, inr}
use Rattle.std.specs.Prelude.{Option, Some, None, unwrap_or, map, find, length, zip, ◌==◌, if◌then◌else◌}
use Rattle.std.specs.List.{list_any, list_all}
use Rattle.std.proofs.lemmas.Bool.Decides.{Decides-eqb}
use Rattle.ldv_value.proofs.Booleans.{and-parts, and-from, or-parts, not-true}
use Rattle.ldv_value.proofs.Cases.{cases-bool}
use Rattle.ldv_value.proofs.Lists.{found-passes, found-all, length-map}
use Rattle.ldv_value.proofs.Options.{same-some, none-some}
use Rattle.ldv_value.proofs.SameBytes.{bytes_eq-true, bytes_eq-itself}
use Rattle.sql_laws.specs.KindLaw.{is_typed_row}
use Rattle.sql_laws.specs.Types.{Value, Null, Int, Text, Kind, IntKind, TextKind, AnyKind, TruthKind, Expr, Set, Column}
use Rattle.sql_laws.proofs.KindLaws.{kind_law, row_law}
use Rattle.sql_laws.proofs.FewerTables.{found_there}
use Rattle.sql_model.specs.Changes.{plain_value, value_given, new_values, sets_column, value_set, updated_value, updated_values}
use Rattle.sql_model.specs.Keys.{repeats}
use Rattle.sql_model.specs.Kinds.{kind_of_column, are_comparable, row_kind, is_of_kind}
use Rattle.sql_model.specs.Refusals.{takes, takes_value, row_fits, columns_named, target_columns, takes_set, set_fits}
use Rattle.sql_model.specs.Scope.{InScope, same_text, is_column, has_column, environment}
use Rattle.sql_model.specs.Meaning.{Environment, eval}
use Rattle.sql_model.specs.Tables.{column_names, are_distinct, has_kind, fits, each_value}

-- ---- a value of a kind that its column takes

kind_column : (c : Column) (v : Value) → has_kind c v ≡ is_of_kind (kind_of_column c) v
kind_column c v = by c.text v
  where
    by : (text : Bool) (v : Value)
        → has_kind (record { name = c.name; text = text; not_null = c.not_null }) v
        ≡ is_of_kind (if text then TextKind else IntKind) v
    by true Null = refl
    by true (Int z) = refl
    by true (Text t) = refl
    by false Null = refl
    by false (Int z) = refl
    by false (Text t) = refl

-- a value of a kind that fits a column is of the column's kind
column_kind : (text : Bool) (k : Kind) (v : Value) → are_comparable (if text then TextKind else IntKind) k ≡ true
    → is_of_kind k v ≡ true → is_of_kind (if text then TextKind else IntKind) v ≡ true
column_kind true IntKind v fit is = cc
column_kind true TextKind v fit is = is
column_kind true AnyKind Null fit is = refl
column_kind true AnyKind (Int z) fit is = cc
column_kind true AnyKind (Text t) fit is = refl
column_kind true TruthKind v fit is = cc
column_kind false IntKind v fit is = is
column_kind false TextKind v fit is = cc
column_kind false AnyKind Null fit is = refl
column_kind false AnyKind (Int z) fit is = refl
column_kind false AnyKind (Text t) fit is = cc
column_kind false TruthKind v fit is = cc

taken : (c : Column) (k : Option Kind) (v : Value) → takes c k ≡ true → ((l : Kind) → k ≡ Some l → is_of_kind l v ≡ true)
    → has_kind c v ≡ true
taken c None v fit is = cc
taken c (Some k) v fit is = kind_column c v ∙ column_kind c.text k v fit (is k refl)

-- a value that is computed without a row
plain_taken : (c : Column) (e : Expr) → takes_value (c, e) ≡ true → has_kind c (plain_value e) ≡ true
plain_taken c e fit = taken c (row_kind [] e) (plain_value e) fit
    (λ k is. kind_law [] e false k (environment [] [] ∷ []) ((λ name entry found. absurd (none-some entry found)), tt) is)

-- ---- columns by their names

-- each of the columns is the first of its name
abbrev pub AllFirst : List Column → List Column → Type 0
AllFirst columns [] = Unit {0}
AllFirst columns (c ∷ cs) = (find (is_column c.name) columns ≡ Some c) × AllFirst columns cs

more_first : (d : Column) (columns cs : List Column) → list_any (same_text d.name) (column_names cs) ≡ false
    → AllFirst columns cs → AllFirst (d ∷ columns) cs
more_first d columns [] differ first = tt
more_first d columns (c ∷ cs) differ first =
    let parts = or-parts (same_text d.name c.name) (list_any (same_text d.name) (column_names cs)) differ in
    (rw parts.0 first.0, more_first d columns cs parts.1 first.1)

first_by : (columns : List Column) → repeats same_text (column_names columns) ≡ false → AllFirst columns columns
first_by [] is = tt
first_by (c ∷ cs) is =
    let parts = or-parts (list_any (same_text c.name) (column_names cs)) (repeats same_text (column_names cs)) is in
    (rw (bytes_eq-itself c.name) refl, more_first c cs cs parts.0 (first_by cs parts.1))

pub all_first : (columns : List Column) → are_distinct columns ≡ true → AllFirst columns columns
all_first columns is = first_by columns (not-true (repeats same_text (column_names columns)) is)

-- ---- INSERT

plain_values : (columns : List Column) (exprs : List Expr) → list_all takes_value (zip columns exprs) ≡ true
    → each_value has_kind columns (map plain_value exprs) ≡ true
plain_values [] exprs fit = refl
plain_values (c ∷ cs) [] fit = refl
plain_values (c ∷ cs) (e ∷ es) fit =
    let both = and-parts (takes_value (c, e)) (list_all takes_value (zip cs es)) fit in
    and-from (has_kind c (plain_value e)) (each_value has_kind cs (map plain_value es)) (plain_taken c e both.0) (plain_values cs es both.1)

module _ (columns : List Column) where
  named_value : (c : Column) → find (is_column c.name) columns ≡ Some c → (names : List (List ℕ)) (exprs : List Expr)
      → list_all (has_column columns) names ≡ true
      → list_all takes_value (zip (columns_named columns names) exprs) ≡ true
      → has_kind c (value_given (zip names exprs) c) ≡ true
  named_value c first [] exprs there fit = refl
  named_value c first (n ∷ ns) [] there fit = refl
  named_value c first (n ∷ ns) (e ∷ es) there fit =
      let both = and-parts (has_column columns n) (list_all (has_column columns) ns) there in
      let d = found_there (is_column n) columns both.0 in
      let here : list_all takes_value (zip (d.0 ∷ columns_named columns ns) (e ∷ es)) ≡ true = rw d.1 at fit in
      let parts = and-parts (takes_value (d.0, e)) (list_all takes_value (zip (columns_named columns ns) es)) here in
      elim (cases-bool (same_text n c.name)) [
        | inl hit ↦
            let same : d.0 ≡ c = same-some d.0 c (sym d.1 ∙ ap (λ (m : List ℕ). find (is_column m) columns) (bytes_eq-true n c.name hit) ∙ first) in
            rw hit (plain_taken c e (subst (λ (b : Column). takes_value (b, e) ≡ true) same parts.0))
        | inr miss ↦ rw miss (named_value c first ns es both.1 parts.1)
      ]

  named_values : (cs : List Column) → AllFirst columns cs → (names : List (List ℕ)) (exprs : List Expr)
      → list_all (has_column columns) names ≡ true
      → list_all takes_value (zip (columns_named columns names) exprs) ≡ true
      → each_value has_kind cs (map (value_given (zip names exprs)) cs) ≡ true
  named_values [] first names exprs there fit = refl
  named_values (c ∷ cs) first names exprs there fit =
      and-from (has_kind c (value_given (zip names exprs) c)) (each_value has_kind cs (map (value_given (zip names exprs)) cs))
      (named_value c first.0 names exprs there fit) (named_values cs first.1 names exprs there fit)

  pub new_kinds : (names : Option (List (List ℕ))) (exprs : List Expr) → AllFirst columns columns
      → list_all (has_column columns) (unwrap_or names []) ≡ true
      → row_fits (target_columns names columns) exprs ≡ true
      → (length (new_values names columns exprs) ≡ length columns) × (each_value has_kind columns (new_values names columns exprs) ≡ true)
  new_kinds None exprs first there fit =
      let both = and-parts (length exprs == length columns) (list_all takes_value (zip columns exprs)) fit in
      (length-map exprs plain_value ∙ (Decides-eqb (length exprs) (length columns)).0 both.0, plain_values columns exprs both.1)
  new_kinds (Some names) exprs first there fit =
      let both = and-parts (length exprs == length (columns_named columns names)) (list_all takes_value (zip (columns_named columns names) exprs)) fit in
      (length-map columns (value_given (zip names exprs)), named_values columns first names exprs there both.1)

-- ---- UPDATE

typed_row : (name : List ℕ) (cs : List Column) (values : List Value) → each_value has_kind cs values ≡ true
    → is_typed_row (map (λ c. record { source = name; column = c }) cs) values ≡ true
typed_row name [] values kinds = refl
typed_row name (c ∷ cs) [] kinds = refl
typed_row name (c ∷ cs) (v ∷ vs) kinds =
    let both = and-parts (has_kind c v) (each_value has_kind cs vs) kinds in
    and-from (is_of_kind (kind_of_column c) v) (is_typed_row (map (λ (d : Column). record { source = name; column = d }) cs) vs)
    (sym (kind_column c v) ∙ both.0) (typed_row name cs vs both.1)

module _ (name : List ℕ) (columns : List Column) (sets : List Set) (values : List Value) where
  abbrev scope : List InScope
  scope = map (λ c. record { source = name; column = c }) columns

  abbrev env : Environment
  env = environment scope values

  module _ (kinds : each_value has_kind columns values ≡ true) (fit : list_all (set_fits columns scope) sets ≡ true) where
    set_kind : (c : Column) → find (is_column c.name) columns ≡ Some c → (set : Set) → find (sets_column c) sets ≡ Some set
        → has_kind c (eval set.expr (env ∷ [])).value ≡ true
    set_kind c first set found =
        let named : set.column ≡ c.name = bytes_eq-true set.column c.name (found-passes (sets_column c) sets set found) in
        let all : takes_set (find (is_column set.column) columns) (row_kind scope set.expr) ≡ true = found-all (sets_column c) (set_fits columns scope) sets set fit found in
        let column : find (is_column set.column) columns ≡ Some c = ap (λ (n : List ℕ). find (is_column n) columns) named ∙ first in
        let takes_it : takes c (row_kind scope set.expr) ≡ true = sym (ap (λ (o : Option Column). takes_set o (row_kind scope set.expr)) column) ∙ all in
        taken c (row_kind scope set.expr) (eval set.expr (env ∷ [])).value takes_it
        (λ k is. kind_law scope set.expr false k (env ∷ []) (row_law scope values (typed_row name columns values kinds), tt) is)

    value_by : (c : Column) → find (is_column c.name) columns ≡ Some c → (v : Value) → has_kind c v ≡ true
        → (o : Option Set) → find (sets_column c) sets ≡ o → has_kind c (value_set o env v) ≡ true
    value_by c first v old None found = old
    value_by c first v old (Some set) found = set_kind c first set found

    cells_kind : (cs : List Column) → AllFirst columns cs → (vs : List Value) → each_value has_kind cs vs ≡ true
        → each_value has_kind cs (map (updated_value sets env) (zip cs vs)) ≡ true
    cells_kind [] first vs old = refl
    cells_kind (c ∷ cs) first [] old = refl
    cells_kind (c ∷ cs) first (v ∷ vs) old =
        let both = and-parts (has_kind c v) (each_value has_kind cs vs) old in
        and-from (has_kind c (updated_value sets env (c, v))) (each_value has_kind cs (map (updated_value sets env) (zip cs vs)))
        (value_by c first.0 v both.0 (find (sets_column c) sets) refl) (cells_kind cs first.1 vs both.1)

    pub updated_kinds : AllFirst columns columns → each_value has_kind columns (updated_values scope sets columns values) ≡ true
    updated_kinds first = cells_kind columns first values kinds

length_zip : (cs : List Column) (vs : List Value) → length vs ≡ length cs → length (zip cs vs) ≡ length cs
length_zip [] vs long = refl
length_zip (c ∷ cs) [] long = long
length_zip (c ∷ cs) (v ∷ vs) long = ap suc (length_zip cs vs (ap pred long))

pub updated_length : (scope : List InScope) (sets : List Set) (columns : List Column) (values : List Value)
    → length values ≡ length columns → length (updated_values scope sets columns values) ≡ length columns
updated_length scope sets columns values long =
    length-map (zip columns values) (updated_value sets (environment scope values)) ∙ length_zip columns values long
