-- The expression at the front of tokens.
--
-- An expression is read up to a greatest depth and down to a least level (`Operators`). Inside a form the
-- greatest depth is one less.
use Rattle.std.specs.Prelude.{ℕ, zero, suc, ◌+◌, max, List, Bool, true, false, nat_le, if◌then◌else◌, Option}
use Rattle.std.specs.Prelude.{Some, None, codes, nat_eq}
use Rattle.std.specs.Cmp.Lexicographic.{pointwise}
use Rattle.ldv_value.specs.Limits.{max_depth}
use Rattle.ldv_value.specs.declared.value.Value.TheVariants as value
use Rattle.sql_model.specs.declared.expr.Expr.{Expr}
use Rattle.sql_model.specs.declared.expr.Expr.TheVariants as expr
use Rattle.sql_model.specs.declared.expr.Fold.{Fold}
use Rattle.sql_model.specs.declared.expr.Fold.TheVariants as fold
use Rattle.sql_model.specs.declared.expr.Operator.{Operator}
use Rattle.sql_model.specs.declared.reading.ParsedExpr.{ParsedExpr}
use Rattle.sql_model.specs.declared.reading.Opening.{Opening}
use Rattle.sql_model.specs.declared.reading.Opening.TheVariants.{Leaf, Nested}
use Rattle.sql_model.specs.declared.reading.Prefix.{Prefix}
use Rattle.sql_model.specs.declared.reading.Prefix.TheVariants.{Not, Minus, Bracket, FoldOf}
use Rattle.sql_model.specs.declared.reading.Infix.{Infix}
use Rattle.sql_model.specs.declared.reading.Infix.TheVariants.{Both, IsNull}
use Rattle.sql_model.specs.declared.token.Token.{Token}
use Rattle.sql_model.specs.declared.token.Token.TheVariants.{Word, Number, Quoted, Given}
use Rattle.sql_model.specs.Columns.{column_after}
use Rattle.ldv_value.specs.Options.{◌>>=◌, only_if}
use Rattle.sql_model.specs.Levels.{operator_level, right_of}
use Rattle.sql_model.specs.Operators.{joins}
use Rattle.sql_model.specs.Reader.{starts, tail, tokens_past, after_word, reads_token, name_in, repeat}

-- HOW AN OPERAND BEGINS

abbrev pub leaf : Expr → List Token → Option (Opening × List Token)
leaf e ts = Some (Leaf e, ts)

-- NOT is only where an operand of its level may
abbrev pub negation : ℕ → Option Opening
negation least = only_if (nat_le least 3) (Some (Nested Not))

abbrev pub fold_opening : Fold → List Token → Option (Opening × List Token)
fold_opening f ts = after_word (codes "(") ts >>= λ ts. Some (Nested (FoldOf f), ts)

-- after `COUNT (`: COUNT(*) is whole
abbrev pub count_inside : List Token → Option (Opening × List Token)
count_inside ts =
    if starts (codes "*") ts then (after_word (codes ")") (tail ts)
    >>= λ ts. Some (Leaf (expr.Aggregate fold.Count None), ts))
    else Some (Nested (FoldOf fold.Count), ts)

abbrev pub count_opening : List Token → Option (Opening × List Token)
count_opening ts = after_word (codes "(") ts >>= λ ts. count_inside ts

abbrev pub column_opening : List ℕ → List Token → Option (Opening × List Token)
column_opening w ts = name_in w >>= λ n. column_after n ts >>= λ c. Some (Leaf (expr.Column c.0), c.1)

abbrev pub word_opening : ℕ → List ℕ → List Token → Option (Opening × List Token)
word_opening least w ts =
    if pointwise nat_eq w (codes "not") then (negation least >>= λ o. Some (o, ts))
    else if pointwise nat_eq w (codes "-") then Some (Nested Minus, ts)
    else if pointwise nat_eq w (codes "(") then Some (Nested Bracket, ts)
    else if pointwise nat_eq w (codes "null") then leaf (expr.Constant value.Null) ts
    else if pointwise nat_eq w (codes "count") then count_opening ts
    else if pointwise nat_eq w (codes "sum") then fold_opening fold.Sum ts
    else if pointwise nat_eq w (codes "min") then fold_opening fold.Min ts
    else if pointwise nat_eq w (codes "max") then fold_opening fold.Max ts
    else column_opening w ts

abbrev pub opens : ℕ → Token → List Token → Option (Opening × List Token)
opens least (Word w) ts = word_opening least w ts
opens least (Number z) ts = leaf (expr.Constant (value.Int z)) ts
opens least (Quoted t) ts = leaf (expr.Constant (value.Text t)) ts
opens least (Given v) ts = leaf (expr.Constant v) ts

abbrev pub opening : ℕ → List Token → Option (Opening × List Token)
opening least ts = reads_token ts >>= λ t. opens least t.0 t.1

-- WHAT IS INSIDE A FORM

-- the least level of what is inside
abbrev pub inside_level : Prefix → ℕ
inside_level Not = 3
inside_level Minus = 7
inside_level Bracket = 1
inside_level (FoldOf f) = 1

abbrev pub primary_expr : Expr → ParsedExpr
primary_expr e = record { expr = e; depth = 1; level = 8 }

-- a prefix form around its operand
abbrev pub with_prefix : Prefix → ParsedExpr → List Token → Option (ParsedExpr × List Token)
with_prefix Not d ts = Some (record { expr = expr.Not d.expr; depth = d.depth + 1; level = 3 }, ts)
with_prefix Minus d ts = Some (record { expr = expr.Negate d.expr; depth = d.depth + 1; level = 7 }, ts)
with_prefix Bracket d ts = after_word (codes ")") ts
    >>= λ ts. Some (record { expr = d.expr; depth = d.depth + 1; level = 8 }, ts)
with_prefix (FoldOf f) d ts = after_word (codes ")") ts
    >>= λ ts. Some (record { expr = expr.Aggregate f (Some d.expr); depth = d.depth + 1; level = 8 }, ts)

-- WHAT FOLLOWS AN OPERAND

-- after IS
abbrev pub null_tested : ParsedExpr → Bool → ParsedExpr
null_tested d negated = record { expr = expr.IsNull d.expr negated; depth = d.depth + 1; level = 4 }

abbrev pub null_test : ParsedExpr → List Token → Option (ParsedExpr × List Token)
null_test d ts = after_word (codes "null") (tokens_past (codes "not") ts)
    >>= λ rest. Some (null_tested d (starts (codes "not") ts), rest)

abbrev pub pair : Operator → ParsedExpr → ParsedExpr → ParsedExpr
pair op a b =
    record { expr = expr.Both op a.expr b.expr; depth = max a.depth b.depth + 1; level = operator_level op }

-- Read gives an expression of at least a level, and limit is the most depth of an operand.
module _ (read : ℕ → List Token → Option (ParsedExpr × List Token)) where
  -- an operand, or the form that it begins
  abbrev pub operand_at : Opening → List Token → Option (ParsedExpr × List Token)
  operand_at (Leaf e) ts = Some (primary_expr e, ts)
  operand_at (Nested w) ts = read (inside_level w) ts >>= λ r. with_prefix w r.0 r.1

  abbrev pub operand : ℕ → List Token → Option (ParsedExpr × List Token)
  operand least ts = opening least ts >>= λ r. operand_at r.0 r.1

  abbrev pub joined : Infix → ParsedExpr → List Token → Option (ParsedExpr × List Token)
  joined (Both op) d ts = read (right_of op) ts >>= λ r. Some (pair op d r.0, r.1)
  joined IsNull d ts = null_test d ts

  abbrev pub joined_within : ℕ → Infix → ParsedExpr → List Token → Option (ParsedExpr × List Token)
  joined_within limit sign d ts = only_if (nat_le d.depth limit) (joined sign d ts)

  -- one more operator, where one follows
  abbrev pub goes_on : ℕ → Option Infix → ParsedExpr → List Token → Option ((ParsedExpr × Bool) × List Token)
  goes_on limit None d ts = Some ((d, false), ts)
  goes_on limit (Some sign) d ts = joined_within limit sign d (tail ts) >>= λ r. Some ((r.0, true), r.1)

  abbrev pub joins_more : ℕ → ℕ → ParsedExpr → List Token → Option ((ParsedExpr × Bool) × List Token)
  joins_more limit least d ts = goes_on limit (joins least d.level ts) d ts

-- an expression of at least a level, within a depth
unfoldable pub within : ℕ → ℕ → List Token → Option (ParsedExpr × List Token)
within zero least ts = None
within (suc n) least ts = operand (within n) least ts
    >>= λ r. repeat (joins_more (within n) n least) (suc n) r.0 r.1

-- an expression has a depth of at most 64
abbrev pub reads_expr : List Token → Option (Expr × List Token)
reads_expr ts = within max_depth 1 ts >>= λ r. Some (r.0.expr, r.1)
