-- An expression that is read within a depth is no deeper.
use Rattle.std.proofs.Common.{◌≡◌, ℕ, zero, suc, ◌+◌, ◌≤◌, List, sym, ap, ◌∙◌, subst, Bool, true, false, Some, None, arith}
use Rattle.std.specs.Prelude.{Option, codes, max, nat_le, if◌then◌else◌}
use Rattle.std.proofs.lemmas.Bool.{leb-true}
use Rattle.sql_model.specs.declared.expr.Expr.TheVariants as expr
use Rattle.sql_model.specs.declared.reading.ParsedExpr.{ParsedExpr}
use Rattle.sql_model.specs.declared.reading.Opening.{Opening}
use Rattle.sql_model.specs.declared.reading.Opening.TheVariants.{Leaf, Nested}
use Rattle.sql_model.specs.declared.reading.Prefix.{Prefix}
use Rattle.sql_model.specs.declared.reading.Prefix.TheVariants.{Not, Minus, Bracket, FoldOf}
use Rattle.sql_model.specs.declared.reading.Infix.{Infix}
use Rattle.sql_model.specs.declared.reading.Infix.TheVariants.{Both, IsNull}
use Rattle.sql_model.specs.declared.token.Token.{Token}
use Rattle.sql_model.specs.Expressions.{opening, inside_level, with_prefix, null_test, pair, operand_at, operand, joined, joined_within, goes_on, joins_more, within}
use Rattle.ldv_value.specs.Options.{◌>>=◌}
use Rattle.sql_model.specs.Levels.{right_of}
use Rattle.sql_model.specs.Operators.{joins}
use Rattle.sql_model.specs.Reader.{starts, tokens_past, after_word, tail, repeat}
use Rattle.ldv_value.proofs.Options.{bind-some, only_if-some, same-some}
use Rattle.sql_parse.proofs.Repeat.{after, repeat_none, repeat_suc}
use Rattle.sql_parse.proofs.Within.{within_none, within_suc}

-- a depth of what an option holds
depth_is : (d : ParsedExpr) (ts : List Token) (q : ParsedExpr × List Token) → Some (d, ts) ≡ Some q → q.0.depth ≡ d.depth
depth_is d ts q h = sym (ap (λ (p : ParsedExpr × List Token). p.0.depth) (same-some _ _ h))

after_depth : (w : List ℕ) (d : ParsedExpr) (ts : List Token) (q : ParsedExpr × List Token) → (after_word w ts >>= λ rest. Some (d, rest)) ≡ Some q → q.0.depth ≡ d.depth
after_depth w d ts q h =
    let b : (x : List Token) × (after_word w ts ≡ Some x) × (Some (d, x) ≡ Some q) = bind-some (after_word w ts) (λ rest. Some (d, rest)) q h in
    depth_is d b.0 q b.2

closed_depth : (w : Prefix) (d : ParsedExpr) (ts : List Token) (q : ParsedExpr × List Token) → with_prefix w d ts ≡ Some q → q.0.depth ≡ d.depth + 1
closed_depth Not d ts q h = depth_is (record { expr = expr.Not d.expr; depth = d.depth + 1; level = 3 }) ts q h
closed_depth Minus d ts q h = depth_is (record { expr = expr.Negate d.expr; depth = d.depth + 1; level = 7 }) ts q h
closed_depth Bracket d ts q h = after_depth (codes ")") (record { expr = d.expr; depth = d.depth + 1; level = 8 }) ts q h
closed_depth (FoldOf f) d ts q h = after_depth (codes ")") (record { expr = expr.Aggregate f (Some d.expr); depth = d.depth + 1; level = 8 }) ts q h

null_depth : (d : ParsedExpr) (ts : List Token) (q : ParsedExpr × List Token) → null_test d ts ≡ Some q → q.0.depth ≡ d.depth + 1
null_depth d ts q h = after_depth (codes "null") (record { expr = expr.IsNull d.expr (starts (codes "not") ts); depth = d.depth + 1; level = 4 }) (tokens_past (codes "not") ts) q h

module _ (limit : ℕ) (read : ℕ → List Token → Option (ParsedExpr × List Token)) (shallow : (l : ℕ) (ts : List Token) (q : ParsedExpr × List Token) → read l ts ≡ Some q → q.0.depth ≤ limit) where
  operand_at_depth : (o : Opening) (ts : List Token) (q : ParsedExpr × List Token) → operand_at read o ts ≡ Some q → q.0.depth ≤ suc limit
  operand_at_depth (Leaf e) ts q h = let one : q.0.depth ≡ 1 = depth_is _ ts q h in omega (arith, one)
  operand_at_depth (Nested w) ts q h =
      let b : (r : ParsedExpr × List Token) × (read (inside_level w) ts ≡ Some r) × (with_prefix w r.0 r.1 ≡ Some q) = bind-some (read (inside_level w) ts) (λ r. with_prefix w r.0 r.1) q h in
      omega (arith, shallow (inside_level w) ts b.0 b.1, closed_depth w b.0.0 b.0.1 q b.2)

  operand_depth : (least : ℕ) (ts : List Token) (q : ParsedExpr × List Token) → operand read least ts ≡ Some q → q.0.depth ≤ suc limit
  operand_depth least ts q h =
      let b : (r : Opening × List Token) × (opening least ts ≡ Some r) × (operand_at read r.0 r.1 ≡ Some q) = bind-some (opening least ts) (λ r. operand_at read r.0 r.1) q h in
      operand_at_depth b.0.0 b.0.1 q b.2

  joined_depth : (j : Infix) (d : ParsedExpr) (ts : List Token) (q : ParsedExpr × List Token) → d.depth ≤ limit → joined read j d ts ≡ Some q → q.0.depth ≤ suc limit
  joined_depth (Both op) d ts q le h =
      let b : (r : ParsedExpr × List Token) × (read (right_of op) ts ≡ Some r) × (Some (pair op d r.0, r.1) ≡ Some q) = bind-some (read (right_of op) ts) (λ r. Some (pair op d r.0, r.1)) q h in
      let is : q.0.depth ≡ max d.depth b.0.0.depth + 1 = depth_is (pair op d b.0.0) b.0.1 q b.2 in
      omega (arith, is, le, shallow (right_of op) ts b.0 b.1)
  joined_depth IsNull d ts q le h = omega (arith, le, null_depth d ts q h)

  goes_on_depth : (o : Option Infix) (d : ParsedExpr) (ts : List Token) (r : (ParsedExpr × Bool) × List Token) → d.depth ≤ suc limit → goes_on read limit o d ts ≡ Some r → r.0.0.depth ≤ suc limit
  goes_on_depth None d ts r le h = subst (λ (p : (ParsedExpr × Bool) × List Token). p.0.0.depth ≤ suc limit) (same-some _ _ h) le
  goes_on_depth (Some j) d ts r le h =
      let b : (q : ParsedExpr × List Token) × (joined_within read limit j d (tail ts) ≡ Some q) × (Some ((q.0, true), q.1) ≡ Some r) = bind-some (joined_within read limit j d (tail ts)) (λ q. Some ((q.0, true), q.1)) r h in
      let c : (nat_le d.depth limit ≡ true) × (joined read j d (tail ts) ≡ Some b.0) = only_if-some (nat_le d.depth limit) (joined read j d (tail ts)) b.0 b.1 in
      subst (λ (p : (ParsedExpr × Bool) × List Token). p.0.0.depth ≤ suc limit) (same-some _ _ b.2) (joined_depth j d (tail ts) b.0 (leb-true d.depth limit c.0) c.1)

  going_depth : (b : Bool) (o p : Option (ParsedExpr × List Token)) (q : ParsedExpr × List Token) → (if b then o else p) ≡ Some q → (o ≡ Some q → q.0.depth ≤ suc limit) → (p ≡ Some q → q.0.depth ≤ suc limit) → q.0.depth ≤ suc limit
  going_depth true o p q h f g = f h
  going_depth false o p q h f g = g h

  chain_depth : (least k : ℕ) (d : ParsedExpr) (ts : List Token) (q : ParsedExpr × List Token) → d.depth ≤ suc limit → repeat (joins_more read limit least) k d ts ≡ Some q → q.0.depth ≤ suc limit
  chain_depth least zero d ts q le h = let none : None ≡ Some q = sym (repeat_none (joins_more read limit least) d ts) ∙ h in cc
  chain_depth least (suc k) d ts q le h =
      let h1 : after (joins_more read limit least) k (joins_more read limit least d ts) ≡ Some q = sym (repeat_suc (joins_more read limit least) k d ts) ∙ h in
      let b : (r : (ParsedExpr × Bool) × List Token) × (joins_more read limit least d ts ≡ Some r) × ((if r.0.1 then repeat (joins_more read limit least) k r.0.0 r.1 else Some (r.0.0, r.1)) ≡ Some q) = bind-some (joins_more read limit least d ts) (λ r. if r.0.1 then repeat (joins_more read limit least) k r.0.0 r.1 else Some (r.0.0, r.1)) q h1 in
      let one : b.0.0.0.depth ≤ suc limit = goes_on_depth (joins least d.level ts) d ts b.0 le b.1 in
      going_depth b.0.0.1 (repeat (joins_more read limit least) k b.0.0.0 b.0.1) (Some (b.0.0.0, b.0.1)) q b.2
      (λ made. chain_depth least k b.0.0.0 b.0.1 q one made)
      (λ made. subst (λ (p : ParsedExpr × List Token). p.0.depth ≤ suc limit) (same-some _ _ made) one)

pub within_depth : (n least : ℕ) (ts : List Token) (q : ParsedExpr × List Token) → within n least ts ≡ Some q → q.0.depth ≤ n
within_depth zero least ts q h = let none : None ≡ Some q = sym (within_none least ts) ∙ h in cc
within_depth (suc n) least ts q h =
    let h1 : (operand (within n) least ts >>= λ r. repeat (joins_more (within n) n least) (suc n) r.0 r.1) ≡ Some q = sym (within_suc n least ts) ∙ h in
    let b : (r : ParsedExpr × List Token) × (operand (within n) least ts ≡ Some r) × (repeat (joins_more (within n) n least) (suc n) r.0 r.1 ≡ Some q) = bind-some (operand (within n) least ts) (λ r. repeat (joins_more (within n) n least) (suc n) r.0 r.1) q h1 in
    chain_depth n (within n) (within_depth n) least (suc n) b.0.0 b.0.1 q (operand_depth n (within n) (within_depth n) least ts b.0 b.1) b.2
