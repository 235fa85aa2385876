-- The schema of a name among items with names and schemas, and the references that have a parent.
use Rattle.std.proofs.Common.{◌≡◌, ℕ, List, [], ◌∷◌, ◌++◌, refl, sym, ap, ◌∙◌, Bool, true, false, arith}
use Rattle.std.specs.Prelude.{Option, Some, None, option_map, is_none, map, find, zip, length, ◌&&◌, ◌||◌, ◌==◌, if◌then◌else◌}
use Rattle.std.specs.List.{flat_map, filter_map, list_any, list_all, cons_option}
use Rattle.std.proofs.lemmas.Bool.{ne_eqb}
use Rattle.sql_model.specs.Keys.{values_at}
use Rattle.sql_model.specs.Meaning.{is_null}
use Rattle.sql_model.specs.References.{MissingParent, has_key, missing_key, missing_by, missing_parents, has_parent, all_have_parents}
use Rattle.sql_model.specs.Scope.{same_text, is_schema, schema_in, schema_at}
use Rattle.sql_model.specs.Types.{Value, Foreign, Schema, Table, TableRow}

module _ {X : Type 0} (name_of : X → List ℕ) (schema_of : X → Schema) where
  one_more : (x : X) (o : Option (List ℕ × Schema)) (p : Option X) (b : Bool) → option_map schema_in o ≡ option_map schema_of p
      → option_map schema_in (if b then Some (name_of x, schema_of x) else o)
      ≡ option_map schema_of (if b then Some x else p)
  one_more x o p true same = refl
  one_more x o p false same = same

  -- the schema of a name is that of the first item of the name
  pub schema_by : (name : List ℕ) (xs : List X)
      → schema_at name (record { names = map name_of xs; schemas = map schema_of xs })
      ≡ option_map schema_of (find (λ x. same_text (name_of x) name) xs)
  schema_by name [] = refl
  schema_by name (x ∷ xs) =
      one_more x (find (is_schema name) (zip (map name_of xs) (map schema_of xs))) (find (λ y. same_text (name_of y) name) xs)
      (same_text (name_of x) name) (schema_by name xs)

-- ---- row by row, or foreign key by foreign key

abbrev empty : {X : Type 0} → List X → Bool
empty [] = true
empty (x ∷ xs) = false

empty_is : {X : Type 0} (xs : List X) → (length xs == 0) ≡ empty xs
empty_is [] = refl
empty_is (x ∷ xs) = ne_eqb (length (x ∷ xs)) 0 (λ same. omega (arith, same))

empty-append : {X : Type 0} (xs ys : List X) → empty (xs ++ ys) ≡ (empty xs && empty ys)
empty-append [] ys = refl
empty-append (x ∷ xs) ys = refl

empty-option : {X : Type 0} (o : Option X) (xs : List X) → empty (cons_option o xs) ≡ (is_none o && empty xs)
empty-option None xs = refl
empty-option (Some x) xs = refl

module _ {X Y Z : Type 0} (f : X → Y → Option Z) where
  empty_row : (x : X) (ys : List Y) → empty (filter_map (f x) ys) ≡ list_all (λ y. is_none (f x y)) ys
  empty_row x [] = refl
  empty_row x (y ∷ ys) = empty-option (f x y) (filter_map (f x) ys) ∙ ap (λ (b : Bool). is_none (f x y) && b) (empty_row x ys)

  empty_rows : (xs : List X) (ys : List Y)
      → empty (flat_map (λ x. filter_map (f x) ys) xs) ≡ list_all (λ x. list_all (λ y. is_none (f x y)) ys) xs
  empty_rows [] ys = refl
  empty_rows (x ∷ xs) ys =
      empty-append (filter_map (f x) ys) (flat_map (λ z. filter_map (f z) ys) xs)
      ∙ (λ j. empty_row x ys j && empty_rows xs ys j)

all_true : {X : Type 0} (xs : List X) → true ≡ list_all (λ x. true) xs
all_true [] = refl
all_true (x ∷ xs) = all_true xs

swap_and : (a b c d : Bool) → ((a && b) && (c && d)) ≡ ((a && c) && (b && d))
swap_and false b c d = refl
swap_and true true c d = refl
swap_and true false false d = refl
swap_and true false true d = refl

all_both : {X : Type 0} (p q : X → Bool) (xs : List X) → (list_all p xs && list_all q xs) ≡ list_all (λ x. p x && q x) xs
all_both p q [] = refl
all_both p q (x ∷ xs) =
    swap_and (p x) (list_all p xs) (q x) (list_all q xs)
    ∙ ap (λ (b : Bool). (p x && q x) && b) (all_both p q xs)

all_swapped : {X Y : Type 0} (p : X → Y → Bool) (xs : List X) (ys : List Y)
    → list_all (λ x. list_all (p x) ys) xs ≡ list_all (λ y. list_all (λ x. p x y) xs) ys
all_swapped p [] ys = all_true ys
all_swapped p (x ∷ xs) ys =
    ap (λ (b : Bool). list_all (p x) ys && b) (all_swapped p xs ys)
    ∙ all_both (p x) (λ y. list_all (λ z. p z y) xs) ys

-- no parent is missing where each foreign key has one for each row
pub none_missing : (tables : List Table) (foreigns : List Foreign) (rows : List TableRow)
    → list_all (all_have_parents tables rows) foreigns ≡ (length (missing_parents tables foreigns rows) == 0)
none_missing tables foreigns rows =
    sym (empty_is (missing_parents tables foreigns rows)
    ∙ empty_rows (λ (row : TableRow) (f : Foreign). missing_by tables row.values f) rows foreigns
    ∙ all_swapped (λ (row : TableRow) (f : Foreign). is_none (missing_by tables row.values f)) rows foreigns)

-- ---- one foreign key

abbrev pub missing_if : Foreign → List Value → Bool → Option MissingParent
missing_if foreign key b = if b then None else Some (record { parent = foreign.parent; key = key })

module _ (foreign : Foreign) (row : TableRow) where
  abbrev null : Bool
  null = list_any is_null (values_at foreign.columns row.values)

  abbrev of_null : Bool → Option (List Value)
  of_null b = if b then None else Some (values_at foreign.columns row.values)

  to_none : (b : Bool) → null ≡ b → null ≡ is_none (missing_key None foreign (of_null b))
  to_none true is = is
  to_none false is = is

  -- without a parent table a row that refers lacks its parent
  pub none_parent : null ≡ has_parent None foreign row
  none_parent = to_none null refl

  to_some : (parent : Table) (b : Bool) → null ≡ b
      → (null || list_any (has_key parent.schema.key (values_at foreign.columns row.values)) parent.rows)
      ≡ is_none (missing_key (Some parent) foreign (of_null b))
  to_some parent true is = ap (λ (b : Bool). b || list_any (has_key parent.schema.key (values_at foreign.columns row.values)) parent.rows) is
  to_some parent false is =
      ap (λ (b : Bool). b || list_any (has_key parent.schema.key (values_at foreign.columns row.values)) parent.rows) is
      ∙ found (list_any (has_key parent.schema.key (values_at foreign.columns row.values)) parent.rows)
    where
      found : (b : Bool) → b ≡ is_none (missing_if foreign (values_at foreign.columns row.values) b)
      found true = refl
      found false = refl

  pub some_parent : (parent : Table)
      → (null || list_any (has_key parent.schema.key (values_at foreign.columns row.values)) parent.rows)
      ≡ has_parent (Some parent) foreign row
  some_parent parent = to_some parent null refl
