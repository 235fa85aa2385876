-- An expression by the grammar is read as that expression.
use Rattle.std.proofs.Common.{◌≡◌, ◌&&◌, ℕ, zero, suc, ◌+◌, ◌-◌, ◌<◌, ◌≤◌, zero-add, List, [], ◌∷◌, ◌++◌, append-nil, append_assoc, refl, sym, ap, ◌∙◌, subst, Bool, true, false, Some, None, inl, inr, arith}
use Rattle.std.specs.Prelude.{Option, codes, max, nat_le, nat_eq, if◌then◌else◌}
use Rattle.std.specs.Cmp.Lexicographic.{pointwise}
use Rattle.std.proofs.lemmas.Bool.{and_left, false_from_ne_true, le-leb, lt-leb}
use Rattle.ldv_value.specs.declared.value.Cmp.{Cmp}
use Rattle.ldv_value.specs.declared.value.Cmp.TheVariants.{Eq, Ne, Lt, Le, Gt, Ge}
use Rattle.ldv_value.specs.declared.value.Value.{Value}
use Rattle.ldv_value.specs.declared.value.Value.TheVariants as value
use Rattle.sql_model.specs.SqlNames.{sql_name_test}
use Rattle.sql_model.specs.declared.expr.ColumnName.{ColumnName}
use Rattle.sql_model.specs.declared.expr.Expr.{Expr}
use Rattle.sql_model.specs.declared.expr.Expr.TheVariants as expr
use Rattle.sql_model.specs.declared.expr.Fold.{Fold}
use Rattle.sql_model.specs.declared.expr.Fold.TheVariants as fold
use Rattle.sql_model.specs.declared.expr.Operator.{Operator}
use Rattle.sql_model.specs.declared.expr.Operator.TheVariants.{Add, Subtract, Multiply, Compare, And, Or}
use Rattle.sql_model.specs.declared.reading.ParsedExpr.{ParsedExpr}
use Rattle.sql_model.specs.declared.reading.Opening.TheVariants.{Leaf, Nested}
use Rattle.sql_model.specs.declared.reading.Prefix.{Prefix}
use Rattle.sql_model.specs.declared.reading.Prefix.TheVariants.{Not, Minus, Bracket, FoldOf}
use Rattle.sql_model.specs.declared.reading.Infix.{Infix}
use Rattle.sql_model.specs.declared.reading.Infix.TheVariants.{Both, IsNull}
use Rattle.sql_model.specs.declared.token.Token.{Token}
use Rattle.sql_model.specs.declared.token.Token.TheVariants.{Word, Number, Quoted, Given}
use Rattle.sql_model.specs.Columns.{column_after}
use Rattle.sql_model.specs.Expressions.{word_opening, opening, inside_level, with_prefix, pair, operand_at, operand, joined, goes_on, joins_more, within, reads_expr}
use Rattle.ldv_value.specs.Options.{◌>>=◌, only_if}
use Rattle.sql_model.specs.Grammar.{word, fold_word, GoesNotOn, GoesOnWith, Writes, IsName, IsConstant, IsColumn, IsExpr}
use Rattle.sql_model.specs.Levels.{operator_level, operator_left, right_of}
use Rattle.sql_model.specs.Operators.{infix_of, level_of, left_of, may_join, joins}
use Rattle.sql_model.specs.Reader.{starts, tail, repeat}
use Rattle.sql_parse.proofs.ExpressionsLaw.{InfixWrites, begins, form_level, infix_sound, starts_is, text_is}
use Rattle.ldv_value.proofs.Options.{same-some}
use Rattle.sql_parse.proofs.Repeat.{after, repeat_suc}
use Rattle.sql_parse.proofs.Within.{within_suc}
use Rattle.sql_parse.proofs.Laws.{name_read}

-- ---- what stands after an expression

-- Tokens with which no expression goes on that is read to this least level: they begin with no dot and with
-- no sign of that level or a higher one.
pub record Ends (least : ℕ) (rest : List Token) : Type 0 where
  pub no_dot : starts (codes ".") rest ≡ false
  pub below : (j : Infix) → infix_of rest ≡ Some j → level_of j < least

pub ends_more : (m n : ℕ) (rest : List Token) → m ≤ n → Ends m rest → Ends n rest
ends_more m n rest le ends = record { no_dot = ends.no_dot; below = λ j h. let few : level_of j < m = ends.below j h in omega arith }

-- no sign has the level of NOT, nor one as high as that of a minus
none_as_not : (j : Infix) → level_of j < 4 → level_of j < 3
none_as_not (Both Or) h = omega arith
none_as_not (Both And) h = omega arith
none_as_not (Both (Compare c)) h = absurd (omega (arith, h))
none_as_not (Both Add) h = absurd (omega (arith, h))
none_as_not (Both Subtract) h = absurd (omega (arith, h))
none_as_not (Both Multiply) h = absurd (omega (arith, h))
none_as_not IsNull h = absurd (omega (arith, h))

none_as_minus : (j : Infix) → level_of j < 7
none_as_minus (Both Or) = omega arith
none_as_minus (Both And) = omega arith
none_as_minus (Both (Compare c)) = omega arith
none_as_minus (Both Add) = omega arith
none_as_minus (Both Subtract) = omega arith
none_as_minus (Both Multiply) = omega arith
none_as_minus IsNull = omega arith

some_infix_level : (j : Infix) → 1 ≤ level_of j
some_infix_level (Both Or) = omega arith
some_infix_level (Both And) = omega arith
some_infix_level (Both (Compare c)) = omega arith
some_infix_level (Both Add) = omega arith
some_infix_level (Both Subtract) = omega arith
some_infix_level (Both Multiply) = omega arith
some_infix_level IsNull = omega arith

level_left : (j : Infix) → level_of j ≤ left_of j
level_left (Both Or) = omega arith
level_left (Both And) = omega arith
level_left (Both (Compare c)) = omega arith
level_left (Both Add) = omega arith
level_left (Both Subtract) = omega arith
level_left (Both Multiply) = omega arith
level_left IsNull = omega arith

level_right : (op : Operator) → right_of op ≡ suc (operator_level op)
level_right Or = refl
level_right And = refl
level_right (Compare c) = refl
level_right Add = refl
level_right Subtract = refl
level_right Multiply = refl

comparison_read : (c : Cmp) (t : Token) (ts : List Token) → Writes (Compare c) t → infix_of (t ∷ ts) ≡ Some (Both (Compare c))
comparison_read Eq t ts h = ap (λ u. infix_of (u ∷ ts)) h
comparison_read Ne t ts h = elim h [ inl one ↦ ap (λ u. infix_of (u ∷ ts)) one | inr other ↦ ap (λ u. infix_of (u ∷ ts)) other ]
comparison_read Lt t ts h = ap (λ u. infix_of (u ∷ ts)) h
comparison_read Le t ts h = ap (λ u. infix_of (u ∷ ts)) h
comparison_read Gt t ts h = ap (λ u. infix_of (u ∷ ts)) h
comparison_read Ge t ts h = ap (λ u. infix_of (u ∷ ts)) h

-- what is written as a sign is read as one
infix_read : (j : Infix) (t : Token) (ts : List Token) → InfixWrites j t → infix_of (t ∷ ts) ≡ Some j
infix_read (Both Or) t ts h = ap (λ u. infix_of (u ∷ ts)) h
infix_read (Both And) t ts h = ap (λ u. infix_of (u ∷ ts)) h
infix_read (Both (Compare c)) t ts h = comparison_read c t ts h
infix_read (Both Add) t ts h = ap (λ u. infix_of (u ∷ ts)) h
infix_read (Both Subtract) t ts h = ap (λ u. infix_of (u ∷ ts)) h
infix_read (Both Multiply) t ts h = ap (λ u. infix_of (u ∷ ts)) h
infix_read IsNull t ts h = ap (λ u. infix_of (u ∷ ts)) h

infix_no_dot : (j : Infix) (ts : List Token) → infix_of ts ≡ Some j → starts (codes ".") ts ≡ false
infix_no_dot j ts is = false_from_ne_true (starts (codes ".") ts) (λ dot.
    let none : None ≡ Some j = sym (ap infix_of (starts_is (codes ".") ts dot)) ∙ is in cc)

infix_ends : (j : Infix) (ts : List Token) (least : ℕ) → infix_of ts ≡ Some j → level_of j < least → Ends least ts
infix_ends j ts least is le = record {
  no_dot = infix_no_dot j ts is;
  below = λ i h. let same : j ≡ i = same-some j i (sym is ∙ h) in subst (λ (k : Infix). level_of k < least) same le;
}

may_not_join : (least level : ℕ) (o : Option Infix) → ((j : Infix) → o ≡ Some j → level_of j < least) → (o >>= λ sign. only_if (may_join least level sign) (Some sign)) ≡ None
may_not_join least level None few = refl
may_not_join least level (Some j) few = ap (λ b. only_if b (Some j)) (and_left _ _ (lt-leb least (level_of j) (few j refl)))

joins_none : (least level : ℕ) (rest : List Token) → Ends least rest → joins least level rest ≡ None
joins_none least level rest ends = may_not_join least level (infix_of rest) ends.below

joins_some : (least level : ℕ) (j : Infix) (ts : List Token) → infix_of ts ≡ Some j → least ≤ level_of j → left_of j ≤ level → joins least level ts ≡ Some j
joins_some least level j ts is le left =
    ap (λ o. o >>= λ sign. only_if (may_join least level sign) (Some sign)) is
    ∙ ap (λ a. only_if (a && nat_le (left_of j) level) (Some j)) (le-leb least (level_of j) le)
    ∙ ap (λ b. only_if b (Some j)) (le-leb (left_of j) level left)

-- ---- an expression that is read

abbrev pub deep : ℕ → ℕ → Expr → ParsedExpr
deep level depth e = record { expr = e; depth = depth; level = level }

-- the first operand, and then so many signs
abbrev pub joined_up : ℕ → ℕ → ℕ → List Token → Option (ParsedExpr × List Token)
joined_up m least k ts = operand (within m) least ts >>= λ r. repeat (joins_more (within m) m least) k r.0 r.1

-- after some signs, fewer than it is deep, an expression in front of the rest is whole
pub record Reached (m least level depth : ℕ) (ts : List Token) (e : Expr) (rest : List Token) : Type 0 where
  pub signs : ℕ
  pub few : signs < depth
  pub made : (k : ℕ) → joined_up m least (signs + k) ts ≡ repeat (joins_more (within m) m least) k (deep level depth e) rest

pub record Readable (level depth : ℕ) (front : List Token) (e : Expr) : Type 0 where
  pub some_depth : 1 ≤ depth
  pub some_level : 1 ≤ level
  pub no_star : (rest : List Token) → starts (codes "*") (front ++ rest) ≡ false
  pub reaches : (m least : ℕ) (rest : List Token) → depth ≤ suc m → least ≤ level → Ends (suc level) rest → Reached m least level depth (front ++ rest) e rest

-- such an expression is read whole where the rest ends it
pub read_whole : (level depth : ℕ) (front : List Token) (e : Expr) → Readable level depth front e
    → (n least : ℕ) (rest : List Token) → depth ≤ n → least ≤ level → Ends least rest → within n least (front ++ rest) ≡ Some (deep level depth e, rest)
read_whole level depth front e is zero least rest shallow low ends = let some : 1 ≤ depth = is.some_depth in absurd (omega arith)
read_whole level depth front e is (suc m) least rest shallow low ends =
    let there : Reached m least level depth (front ++ rest) e rest = is.reaches m least rest shallow low (ends_more least (suc level) rest (omega (arith, low)) ends) in
    let few : there.signs < depth = there.few in
    let left : suc m ≡ there.signs + suc (m - there.signs) = omega (arith, few, shallow) in
    let stops : joins_more (within m) m least (deep level depth e) rest ≡ Some ((deep level depth e, false), rest) = ap (λ o. goes_on (within m) m o (deep level depth e) rest) (joins_none least level rest ends) in
    within_suc m least (front ++ rest)
    ∙ ap (λ k. joined_up m least k (front ++ rest)) left
    ∙ there.made (suc (m - there.signs))
    ∙ repeat_suc (joins_more (within m) m least) (m - there.signs) (deep level depth e) rest
    ∙ ap (after (joins_more (within m) m least) (m - there.signs)) stops

-- what is one operand is whole at once
at_once : (m least level depth : ℕ) (ts : List Token) (e : Expr) (rest : List Token) → 0 < depth → operand (within m) least ts ≡ Some (deep level depth e, rest) → Reached m least level depth ts e rest
at_once m least level depth ts e rest some h = record {
  signs = 0;
  few = some;
  made = λ k. ap (λ o. o >>= λ r. repeat (joins_more (within m) m least) (0 + k) r.0 r.1) h ∙ ap (λ n. repeat (joins_more (within m) m least) n (deep level depth e) rest) (zero-add k);
}

-- ---- constants, columns and COUNT(*)

abbrev pub OpensLeaf : List Token → Expr → Type 0
OpensLeaf front e = (least : ℕ) (rest : List Token) → starts (codes ".") rest ≡ false → opening least (front ++ rest) ≡ Some (Leaf e, rest)

leaf_readable : (front : List Token) (e : Expr) → ((rest : List Token) → starts (codes "*") (front ++ rest) ≡ false) → OpensLeaf front e → Readable 8 1 front e
leaf_readable front e no_star opens = record {
  some_depth = omega arith;
  some_level = omega arith;
  no_star = no_star;
  reaches = λ m least rest shallow low ends. at_once m least 8 1 (front ++ rest) e rest (omega arith) (ap (λ o. o >>= λ r. operand_at (within m) r.0 r.1) (opens least rest ends.no_dot));
}

constant_readable : (t : Token) (v : Value) → IsConstant t v → Readable 8 1 (t ∷ []) (expr.Constant v)
constant_readable (Word w) v is =
    subst (λ (u : List ℕ). Readable 8 1 (Word u ∷ []) (expr.Constant v)) (sym is.0)
    (subst (λ (x : Value). Readable 8 1 (word "null" ∷ []) (expr.Constant x)) (sym is.1)
    (leaf_readable (word "null" ∷ []) (expr.Constant value.Null) (λ rest. refl) (λ least rest no_dot. refl)))
constant_readable (Number z) v is =
    subst (λ (x : Value). Readable 8 1 (Number z ∷ []) (expr.Constant x)) (sym is)
    (leaf_readable (Number z ∷ []) (expr.Constant (value.Int z)) (λ rest. refl) (λ least rest no_dot. refl))
constant_readable (Quoted t) v is =
    subst (λ (x : Value). Readable 8 1 (Quoted t ∷ []) (expr.Constant x)) (sym is)
    (leaf_readable (Quoted t ∷ []) (expr.Constant (value.Text t)) (λ rest. refl) (λ least rest no_dot. refl))
constant_readable (Given u) v is =
    subst (λ (x : Value). Readable 8 1 (Given u ∷ []) (expr.Constant x)) (sym is)
    (leaf_readable (Given u ∷ []) (expr.Constant u) (λ rest. refl) (λ least rest no_dot. refl))

count_readable : Readable 8 1 (word "count" ∷ word "(" ∷ word "*" ∷ word ")" ∷ []) (expr.Aggregate fold.Count None)
count_readable = leaf_readable (word "count" ∷ word "(" ∷ word "*" ∷ word ")" ∷ []) (expr.Aggregate fold.Count None) (λ rest. refl) (λ least rest no_dot. refl)

if_false : {A : Type 0} (b : Bool) (x y : A) → b ≡ false → (if b then x else y) ≡ y
if_false b x y h = ap (λ c. if c then x else y) h

-- a name is no word that names nothing
name_isnt : (w v : List ℕ) → IsName w → sql_name_test v ≡ false → pointwise nat_eq w v ≡ false
name_isnt w v named isnt = false_from_ne_true (pointwise nat_eq w v) (λ h.
    let none : false ≡ true = sym isnt ∙ subst IsName (text_is w v h) named in cc)

name_no_star : (w : List ℕ) (rest : List Token) → IsName w → starts (codes "*") (Word w ∷ rest) ≡ false
name_no_star w rest named = name_isnt w (codes "*") named refl

name_opens : (least : ℕ) (w : List ℕ) (ts : List Token) → IsName w → word_opening least w ts ≡ (column_after w ts >>= λ c. Some (Leaf (expr.Column c.0), c.1))
name_opens least w ts named =
    if_false _ _ _ (name_isnt w (codes "not") named refl)
    ∙ if_false _ _ _ (name_isnt w (codes "-") named refl)
    ∙ if_false _ _ _ (name_isnt w (codes "(") named refl)
    ∙ if_false _ _ _ (name_isnt w (codes "null") named refl)
    ∙ if_false _ _ _ (name_isnt w (codes "count") named refl)
    ∙ if_false _ _ _ (name_isnt w (codes "sum") named refl)
    ∙ if_false _ _ _ (name_isnt w (codes "min") named refl)
    ∙ if_false _ _ _ (name_isnt w (codes "max") named refl)
    ∙ ap (λ b. only_if b (Some w) >>= λ n. column_after n ts >>= λ c. Some (Leaf (expr.Column c.0), c.1)) named

-- a name alone is a column
alone_opens : (c : ColumnName) → c.table ≡ None → IsName c.name → OpensLeaf (Word c.name ∷ []) (expr.Column c)
alone_opens c no_table named least rest no_dot =
    name_opens least c.name rest named
    ∙ ap (λ o. o >>= λ d. Some (Leaf (expr.Column d.0), d.1)) (if_false (starts (codes ".") rest) _ (Some (record { table = None; name = c.name }, rest)) no_dot)
    ∙ ap (λ t. Some (Leaf (expr.Column (record { table = t; name = c.name })), rest)) (sym no_table)

abbrev dotted : List ℕ → List ℕ × List Token → Option (ColumnName × List Token)
dotted source r = Some (record { table = Some source; name = r.0 }, r.1)

-- and so are two names with a dot between them
both_opens : (c : ColumnName) (source : List ℕ) → c.table ≡ Some source → IsName source → IsName c.name → OpensLeaf (Word source ∷ word "." ∷ Word c.name ∷ []) (expr.Column c)
both_opens c source table sourced named least rest no_dot =
    name_opens least source (word "." ∷ Word c.name ∷ rest) sourced
    ∙ ap (λ o. o >>= dotted source >>= λ d. Some (Leaf (expr.Column d.0), d.1)) (name_read c.name rest named)
    ∙ ap (λ t. Some (Leaf (expr.Column (record { table = t; name = c.name })), rest)) (sym table)

column_readable : (ts : List Token) (c : ColumnName) → IsColumn ts c → Readable 8 1 ts (expr.Column c)
column_readable ts c is = elim is [
  | inl alone ↦
      subst (λ (l : List Token). Readable 8 1 l (expr.Column c)) (sym alone.0)
      (leaf_readable (Word c.name ∷ []) (expr.Column c) (λ rest. name_no_star c.name rest alone.2) (alone_opens c alone.1 alone.2))
  | inr both ↦
      subst (λ (l : List Token). Readable 8 1 l (expr.Column c)) (sym both.1)
      (leaf_readable (Word both.0 ∷ word "." ∷ Word c.name ∷ []) (expr.Column c) (λ rest. name_no_star both.0 (word "." ∷ Word c.name ∷ rest) both.3) (both_opens c both.0 both.2 both.3 both.4))
]

-- ---- forms around an expression

-- the tokens with which a form ends
abbrev pub finishes : Prefix → List Token
finishes Not = []
finishes Minus = []
finishes Bracket = word ")" ∷ []
finishes (FoldOf f) = word ")" ∷ []

abbrev pub form_of : Prefix → Expr → Expr
form_of Not e = expr.Not e
form_of Minus e = expr.Negate e
form_of Bracket e = e
form_of (FoldOf f) e = expr.Aggregate f (Some e)

fold_opens : (f : Fold) (least : ℕ) (ts : List Token) → starts (codes "*") ts ≡ false → opening least (fold_word f ∷ word "(" ∷ ts) ≡ Some (Nested (FoldOf f), ts)
fold_opens fold.Count least ts no_star = if_false (starts (codes "*") ts) _ (Some (Nested (FoldOf fold.Count), ts)) no_star
fold_opens fold.Sum least ts no_star = refl
fold_opens fold.Min least ts no_star = refl
fold_opens fold.Max least ts no_star = refl

form_opens : (w : Prefix) (least : ℕ) (ts : List Token) → least ≤ form_level w → starts (codes "*") ts ≡ false → opening least (begins w ++ ts) ≡ Some (Nested w, ts)
form_opens Not least ts low no_star = ap (λ b. only_if b (Some (Nested Not)) >>= λ o. Some (o, ts)) (le-leb least 3 low)
form_opens Minus least ts low no_star = refl
form_opens Bracket least ts low no_star = refl
form_opens (FoldOf f) least ts low no_star = fold_opens f least ts no_star

form_closes : (w : Prefix) (level depth : ℕ) (e : Expr) (rest : List Token) → with_prefix w (deep level depth e) (finishes w ++ rest) ≡ Some (deep (form_level w) (depth + 1) (form_of w e), rest)
form_closes Not level depth e rest = refl
form_closes Minus level depth e rest = refl
form_closes Bracket level depth e rest = refl
form_closes (FoldOf f) level depth e rest = refl

bracket_ends : (least : ℕ) (rest : List Token) → Ends least (word ")" ∷ rest)
bracket_ends least rest = record { no_dot = refl; below = λ j h. let none : None ≡ Some j = h in cc }

form_ends : (w : Prefix) (rest : List Token) → Ends (suc (form_level w)) rest → Ends (inside_level w) (finishes w ++ rest)
form_ends Not rest ends = record { no_dot = ends.no_dot; below = λ j h. none_as_not j (ends.below j h) }
form_ends Minus rest ends = record { no_dot = ends.no_dot; below = λ j h. none_as_minus j }
form_ends Bracket rest ends = bracket_ends 1 rest
form_ends (FoldOf f) rest ends = bracket_ends 1 rest

fold_no_star : (f : Fold) (ts : List Token) → starts (codes "*") (fold_word f ∷ ts) ≡ false
fold_no_star fold.Count ts = refl
fold_no_star fold.Sum ts = refl
fold_no_star fold.Min ts = refl
fold_no_star fold.Max ts = refl

form_no_star : (w : Prefix) (ts rest : List Token) → starts (codes "*") ((begins w ++ ts) ++ rest) ≡ false
form_no_star Not ts rest = refl
form_no_star Minus ts rest = refl
form_no_star Bracket ts rest = refl
form_no_star (FoldOf f) ts rest = fold_no_star f (word "(" ∷ ts ++ rest)

some_form_level : (w : Prefix) → 1 ≤ form_level w
some_form_level Not = omega arith
some_form_level Minus = omega arith
some_form_level Bracket = omega arith
some_form_level (FoldOf f) = omega arith

form_grouped : (w : Prefix) (ts rest : List Token) → (begins w ++ (ts ++ finishes w)) ++ rest ≡ begins w ++ (ts ++ (finishes w ++ rest))
form_grouped w ts rest = append_assoc (begins w) (ts ++ finishes w) rest ∙ ap (λ l. begins w ++ l) (append_assoc ts (finishes w) rest)

form_operand : (w : Prefix) (level depth : ℕ) (ts : List Token) (e : Expr) (m least : ℕ) (rest : List Token) → inside_level w ≤ level → Readable level depth ts e
    → depth ≤ m → least ≤ form_level w → Ends (suc (form_level w)) rest
    → operand (within m) least ((begins w ++ (ts ++ finishes w)) ++ rest) ≡ Some (deep (form_level w) (depth + 1) (form_of w e), rest)
form_operand w level depth ts e m least rest inside is shallow low ends =
    ap (operand (within m) least) (form_grouped w ts rest)
    ∙ ap (λ o. o >>= λ r. operand_at (within m) r.0 r.1) (form_opens w least (ts ++ (finishes w ++ rest)) low (is.no_star (finishes w ++ rest)))
    ∙ ap (λ o. o >>= λ r. with_prefix w r.0 r.1) (read_whole level depth ts e is m (inside_level w) (finishes w ++ rest) shallow inside (form_ends w rest ends))
    ∙ form_closes w level depth e rest

form_readable : (w : Prefix) (level depth : ℕ) (ts : List Token) (e : Expr) → inside_level w ≤ level → Readable level depth ts e → Readable (form_level w) (depth + 1) (begins w ++ (ts ++ finishes w)) (form_of w e)
form_readable w level depth ts e inside is = record {
  some_depth = omega arith;
  some_level = some_form_level w;
  no_star = form_no_star w (ts ++ finishes w);
  reaches = λ m least rest shallow low ends.
      at_once m least (form_level w) (depth + 1) ((begins w ++ (ts ++ finishes w)) ++ rest) (form_of w e) rest (omega arith)
      (form_operand w level depth ts e m least rest inside is (omega (arith, shallow)) low ends);
}

-- ---- signs after an expression

infix_steps : (m least : ℕ) (j : Infix) (d made : ParsedExpr) (ts rest : List Token) → joins least d.level ts ≡ Some j → d.depth ≤ m → joined (within m) j d (tail ts) ≡ Some (made, rest)
    → joins_more (within m) m least d ts ≡ Some ((made, true), rest)
infix_steps m least j d made ts rest joining shallow h =
    ap (λ o. goes_on (within m) m o d ts) joining
    ∙ ap (λ b. only_if b (joined (within m) j d (tail ts)) >>= λ r. Some ((r.0, true), r.1)) (le-leb d.depth m shallow)
    ∙ ap (λ o. o >>= λ r. Some ((r.0, true), r.1)) h

-- one sign more
one_more : (m least level depth : ℕ) (ts : List Token) (a : Expr) (after_word : List Token) (i n : ℕ) (e : Expr) (rest : List Token) → Reached m least level depth ts a after_word → depth < n
    → joins_more (within m) m least (deep level depth a) after_word ≡ Some ((deep i n e, true), rest) → Reached m least i n ts e rest
one_more m least level depth ts a after_word i n e rest left deeper h = record {
  signs = suc left.signs;
  few = let few : left.signs < depth = left.few in omega arith;
  made = λ k.
      let turns : suc left.signs + k ≡ left.signs + suc k = omega arith in
      ap (λ t. joined_up m least t ts) turns
      ∙ left.made (suc k)
      ∙ repeat_suc (joins_more (within m) m least) k (deep level depth a) after_word
      ∙ ap (after (joins_more (within m) m least) k) h;
}

-- what a sign makes of an operand in front of it
abbrev pub JoinedAs : Infix → ParsedExpr → List Token → ℕ → Expr → Type 0
JoinedAs j d back depth e = (m : ℕ) (rest : List Token) → depth ≤ suc m → Ends (suc (level_of j)) rest → joined (within m) j d (back ++ rest) ≡ Some (deep (level_of j) depth e, rest)

infix_readable : (j : Infix) (t : Token) (level depth : ℕ) (front : List Token) (a : Expr) (back : List Token) (n : ℕ) (e : Expr) → InfixWrites j t → left_of j ≤ level
    → Readable level depth front a → depth < n → JoinedAs j (deep level depth a) back n e → Readable (level_of j) n (front ++ t ∷ back) e
infix_readable j t level depth front a back n e writes left is deeper joins_as = record {
  some_depth = let some : 1 ≤ depth = is.some_depth in omega arith;
  some_level = some_infix_level j;
  no_star = λ rest. ap (starts (codes "*")) (append_assoc front (t ∷ back) rest) ∙ is.no_star (t ∷ (back ++ rest));
  reaches = λ m least rest shallow low ends.
      let after_word : List Token = t ∷ (back ++ rest) in
      let reads : infix_of after_word ≡ Some j = infix_read j t (back ++ rest) writes in
      let weak : level_of j ≤ left_of j = level_left j in
      let there : Reached m least level depth (front ++ after_word) a after_word =
      is.reaches m least after_word (omega (arith, shallow, deeper)) (omega (arith, low, weak, left)) (infix_ends j after_word (suc level) reads (omega (arith, weak, left))) in
      let joining : joins least level after_word ≡ Some j = joins_some least level j after_word reads low left in
      let step : joins_more (within m) m least (deep level depth a) after_word ≡ Some ((deep (level_of j) n e, true), rest) =
      infix_steps m least j (deep level depth a) (deep (level_of j) n e) after_word rest joining (omega (arith, shallow, deeper)) (joins_as m rest shallow ends) in
      subst (λ (l : List Token). Reached m least (level_of j) n l e rest) (sym (append_assoc front (t ∷ back) rest))
      (one_more m least level depth (front ++ after_word) a after_word (level_of j) n e rest there deeper step);
}

pair_readable : (op : Operator) (t : Token) (l m : ℕ) (xs : List Token) (a : Expr) (k n : ℕ) (ys : List Token) (b : Expr) → Writes op t
    → operator_left op ≤ l → Readable l m xs a → right_of op ≤ k → Readable k n ys b
    → Readable (operator_level op) (max m n + 1) (xs ++ t ∷ ys) (expr.Both op a b)
pair_readable op t l m xs a k n ys b writes left left_is right right_is =
    infix_readable (Both op) t l m xs a ys (max m n + 1) (expr.Both op a b) writes left left_is (omega arith) (λ limit rest shallow ends.
    ap (λ o. o >>= λ r. Some (pair op (deep l m a) r.0, r.1))
    (read_whole k n ys b right_is limit (right_of op) rest (omega (arith, shallow)) right (subst (λ (least : ℕ). Ends least rest) (sym (level_right op)) ends)))

null_readable : (level depth : ℕ) (ts : List Token) (e : Expr) → 5 ≤ level → Readable level depth ts e → Readable 4 (depth + 1) (ts ++ word "is" ∷ word "null" ∷ []) (expr.IsNull e false)
null_readable level depth ts e left is =
    infix_readable IsNull (word "is") level depth ts e (word "null" ∷ []) (depth + 1) (expr.IsNull e false) refl left is (omega arith) (λ m rest shallow ends. refl)

not_null_readable : (level depth : ℕ) (ts : List Token) (e : Expr) → 5 ≤ level → Readable level depth ts e → Readable 4 (depth + 1) (ts ++ word "is" ∷ word "not" ∷ word "null" ∷ []) (expr.IsNull e true)
not_null_readable level depth ts e left is =
    infix_readable IsNull (word "is") level depth ts e (word "not" ∷ word "null" ∷ []) (depth + 1) (expr.IsNull e true) refl left is (omega arith) (λ m rest shallow ends. refl)

-- ---- all expressions

not_readable : (level depth : ℕ) (ts : List Token) (e : Expr) → 3 ≤ level → Readable level depth ts e → Readable 3 (depth + 1) (word "not" ∷ ts) (expr.Not e)
not_readable level depth ts e le is = subst (λ (l : List Token). Readable 3 (depth + 1) (word "not" ∷ l) (expr.Not e)) (append-nil ts) (form_readable Not level depth ts e le is)

minus_readable : (level depth : ℕ) (ts : List Token) (e : Expr) → 7 ≤ level → Readable level depth ts e → Readable 7 (depth + 1) (word "-" ∷ ts) (expr.Negate e)
minus_readable level depth ts e le is = subst (λ (l : List Token). Readable 7 (depth + 1) (word "-" ∷ l) (expr.Negate e)) (append-nil ts) (form_readable Minus level depth ts e le is)

pub readable : (level depth : ℕ) (ts : List Token) (e : Expr) → IsExpr level depth ts e → Readable level depth ts e
readable level depth ts e (IsExpr.AConstant t v is) = constant_readable t v is
readable level depth ts e (IsExpr.AColumn cs c is) = column_readable cs c is
readable level depth ts e IsExpr.CountAll = count_readable
readable level depth ts e (IsExpr.AFold f l d xs a is) = let inside : Readable l d xs a = readable l d xs a is in form_readable (FoldOf f) l d xs a inside.some_level inside
readable level depth ts e (IsExpr.InBrackets l d xs a is) = let inside : Readable l d xs a = readable l d xs a is in form_readable Bracket l d xs a inside.some_level inside
readable level depth ts e (IsExpr.AMinus l d xs a le is) = minus_readable l d xs a le (readable l d xs a is)
readable level depth ts e (IsExpr.ANot l d xs a le is) = not_readable l d xs a le (readable l d xs a is)
readable level depth ts e (IsExpr.ANull l d xs a le is) = null_readable l d xs a le (readable l d xs a is)
readable level depth ts e (IsExpr.ANotNull l d xs a le is) = not_null_readable l d xs a le (readable l d xs a is)
readable level depth ts e (IsExpr.APair op t l m xs a k n ys b writes left left_is right right_is) =
    pair_readable op t l m xs a k n ys b writes left (readable l m xs a left_is) right (readable k n ys b right_is)

-- an expression begins with no `*`
pub expression_no_star : (level depth : ℕ) (front : List Token) (e : Expr) (rest : List Token) → IsExpr level depth front e → starts (codes "*") (front ++ rest) ≡ false
expression_no_star level depth front e rest is = let all : Readable level depth front e = readable level depth front e is in all.no_star rest

-- within a depth and to a least level, an expression of the grammar is read whole where the rest ends it
pub within_back : (level depth : ℕ) (front : List Token) (e : Expr) (n least : ℕ) (rest : List Token) → IsExpr level depth front e → depth ≤ n → least ≤ level → Ends least rest
    → within n least (front ++ rest) ≡ Some (deep level depth e, rest)
within_back level depth front e n least rest is shallow low ends = read_whole level depth front e (readable level depth front e is) n least rest shallow low ends

-- ---- what goes on with no expression

sign_goes_on : (j : Infix) (t : Token) → InfixWrites j t → GoesOnWith t
sign_goes_on (Both op) t h = inl (op, h)
sign_goes_on IsNull t h = inr (inl h)

first_is : (s t : Token) (xs ys : List Token) → s ∷ xs ≡ t ∷ ys → s ≡ t
first_is s t xs ys h = cc

infix_goes_on : (t : Token) (ts : List Token) (j : Infix) → infix_of (t ∷ ts) ≡ Some j → GoesOnWith t
infix_goes_on t ts j h =
    let sign : (s : Token) × (t ∷ ts ≡ s ∷ ts) × InfixWrites j s = infix_sound (t ∷ ts) j h in
    sign_goes_on j t (subst (InfixWrites j) (sym (first_is t sign.0 ts ts sign.1)) sign.2)

dot_goes_on : (t : Token) (ts : List Token) → starts (codes ".") (t ∷ ts) ≡ true → GoesOnWith t
dot_goes_on t ts h = inr (inr (first_is t (word ".") ts ts (starts_is (codes ".") (t ∷ ts) h)))

ends_all : (rest : List Token) → GoesNotOn rest → Ends 1 rest
ends_all [] h = record { no_dot = refl; below = λ j is. let none : None ≡ Some j = is in cc }
ends_all (t ∷ ts) h = record {
  no_dot = false_from_ne_true _ (λ dot. h (dot_goes_on t ts dot));
  below = λ j is. absurd (h (infix_goes_on t ts j is));
}

goes_off : (t : Token) (ts : List Token) → infix_of (t ∷ ts) ≡ None → starts (codes ".") (t ∷ ts) ≡ false → GoesOnWith t → ⊥
goes_off t ts no_infix no_dot on = elim on [
  | inl operator ↦ let none : None ≡ Some (Both operator.0) = sym no_infix ∙ infix_read (Both operator.0) t ts operator.1 in cc
  | inr (inl is) ↦ let none : None ≡ Some IsNull = sym no_infix ∙ infix_read IsNull t ts is in cc
  | inr (inr dot) ↦ let none : false ≡ true = sym no_dot ∙ ap (λ u. starts (codes ".") (u ∷ ts)) dot in cc
]

-- tokens that begin with neither a sign nor a dot; of tokens whose first is known, both premises compute
pub goes_not_on : (rest : List Token) → infix_of rest ≡ None → starts (codes ".") rest ≡ false → GoesNotOn rest
goes_not_on [] no_infix no_dot = tt
goes_not_on (t ∷ ts) no_infix no_dot = goes_off t ts no_infix no_dot

-- ---- the law

pub expression_back : (level depth : ℕ) (front : List Token) (e : Expr) (rest : List Token) → IsExpr level depth front e → depth ≤ 64 → GoesNotOn rest
    → reads_expr (front ++ rest) ≡ Some (e, rest)
expression_back level depth front e rest is shallow h =
    let all : Readable level depth front e = readable level depth front e is in
    ap (λ o. o >>= λ r. Some (r.0.expr, r.1)) (read_whole level depth front e all 64 1 rest shallow all.some_level (ends_all rest h))

-- tokens are an expression in at most one way
pub expression_one : (ts : List Token) (level depth : ℕ) (e : Expr) (m n : ℕ) (f : Expr) → IsExpr level depth ts e → IsExpr m n ts f → (e ≡ f) × (level ≡ m) × (depth ≡ n)
expression_one ts level depth e m n f is also =
    let one : Readable level depth ts e = readable level depth ts e is in
    let other : Readable m n ts f = readable m n ts f also in
    let reads : within (depth + n) 1 (ts ++ []) ≡ Some (deep level depth e, []) = read_whole level depth ts e one (depth + n) 1 [] (omega arith) one.some_level (ends_all [] tt) in
    let too : within (depth + n) 1 (ts ++ []) ≡ Some (deep m n f, []) = read_whole m n ts f other (depth + n) 1 [] (omega arith) other.some_level (ends_all [] tt) in
    let same : deep level depth e ≡ deep m n f = ap (λ (p : ParsedExpr × List Token). p.0) (same-some _ _ (sym reads ∙ too)) in
    (ap (λ (d : ParsedExpr). d.expr) same, ap (λ (d : ParsedExpr). d.level) same, ap (λ (d : ParsedExpr). d.depth) same)
