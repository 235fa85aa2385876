-- An expression that is read is one by the grammar.
use Rattle.std.proofs.Common.{◌≡◌, ℕ, zero, suc, ◌+◌, ◌≤◌, List, [], ◌∷◌, ◌++◌, append-nil, append_assoc, refl, sym, ap, ◌∙◌, subst, Bool, true, false, Some, None, inl, inr, arith}
use Rattle.std.specs.Prelude.{Option, codes, nat_le, nat_eq, if◌then◌else◌}
use Rattle.std.specs.Cmp.Lexicographic.{pointwise}
use Rattle.std.proofs.lemmas.Bool.{cases_Bool, leb-true}
use Rattle.std.proofs.lemmas.Slice.Eq.{bytes_eq-Decides}
use Rattle.ldv_value.specs.declared.value.Value.{Value}
use Rattle.ldv_value.specs.declared.value.Value.TheVariants as value
use Rattle.sql_model.specs.declared.expr.ColumnName.{ColumnName}
use Rattle.sql_model.specs.SqlNames.{sql_name_test}
use Rattle.sql_model.specs.declared.expr.Expr.{Expr}
use Rattle.sql_model.specs.declared.expr.Expr.TheVariants as expr
use Rattle.sql_model.specs.declared.expr.Fold.{Fold}
use Rattle.sql_model.specs.declared.expr.Fold.TheVariants as fold
use Rattle.sql_model.specs.declared.reading.ParsedExpr.{ParsedExpr}
use Rattle.sql_model.specs.declared.reading.Opening.{Opening}
use Rattle.sql_model.specs.declared.reading.Opening.TheVariants.{Leaf, Nested}
use Rattle.sql_model.specs.declared.reading.Prefix.{Prefix}
use Rattle.sql_model.specs.declared.reading.Prefix.TheVariants.{Not, Minus, Bracket, FoldOf}
use Rattle.sql_model.specs.declared.reading.Infix.{Infix}
use Rattle.sql_model.specs.declared.reading.Infix.TheVariants.{Both, IsNull}
use Rattle.sql_model.specs.Levels.{right_of}
use Rattle.sql_model.specs.Operators.{comparison_of, comparison_infix, infix_in, infix_of, level_of, left_of, may_join, joins}
use Rattle.sql_model.specs.declared.expr.Operator.{Operator}
use Rattle.sql_model.specs.declared.expr.Operator.TheVariants.{Add, Subtract, Multiply, Compare, And, Or}
use Rattle.ldv_value.specs.declared.value.Cmp.{Cmp}
use Rattle.sql_model.specs.declared.token.Token.{Token}
use Rattle.sql_model.specs.declared.token.Token.TheVariants.{Word, Number, Quoted, Given}
use Rattle.sql_model.specs.Expressions.{leaf, negation, fold_opening, count_inside, count_opening, column_opening, word_opening, opening, inside_level, with_prefix, null_test, pair, operand_at, operand, joined, joined_within, goes_on, joins_more, within, reads_expr}
use Rattle.sql_model.specs.Columns.{column_after}
use Rattle.ldv_value.specs.Options.{◌>>=◌, only_if}
use Rattle.sql_model.specs.Grammar.{word, fold_word, Writes, IsName, IsConstant, IsColumn, IsExpr}
use Rattle.sql_model.specs.Reader.{starts, tail, after_word, name_in, reads_name, repeat}
use Rattle.sql_parse.proofs.Named.{name_taken}
use Rattle.sql_parse.proofs.Repeat.{after, repeat_none, repeat_suc}
use Rattle.sql_parse.proofs.ExpressionsDepth.{within_depth}
use Rattle.sql_parse.proofs.Within.{within_none, within_suc}
use Rattle.ldv_value.proofs.Options.{bind-some, only_if-some, if-some, same-some, tested-some}
use Rattle.ldv_value.proofs.Booleans.{and-parts}

pub text_is : (a b : List ℕ) → pointwise nat_eq a b ≡ true → a ≡ b
text_is a b h = (bytes_eq-Decides a b).0 h

pub starts_is : (w : List ℕ) (ts : List Token) → starts w ts ≡ true → ts ≡ Word w ∷ tail ts
starts_is w [] h = cc
starts_is w (Word v ∷ ts) h = ap (λ u. Word u ∷ ts) (text_is v w h)
starts_is w (Number z ∷ ts) h = cc
starts_is w (Quoted t ∷ ts) h = cc
starts_is w (Given v ∷ ts) h = cc

pub after_is : (w : List ℕ) (ts rest : List Token) → after_word w ts ≡ Some rest → ts ≡ Word w ∷ rest
after_is w ts rest h =
    let both : (starts w ts ≡ true) × (Some (tail ts) ≡ Some rest) = only_if-some (starts w ts) (Some (tail ts)) rest h in
    starts_is w ts both.0 ∙ ap (λ r. Word w ∷ r) (same-some _ _ both.1)

-- the tokens with which a form begins, and those with which it ends
abbrev pub begins : Prefix → List Token
begins Not = word "not" ∷ []
begins Minus = word "-" ∷ []
begins Bracket = word "(" ∷ []
begins (FoldOf f) = fold_word f ∷ word "(" ∷ []

abbrev pub form_level : Prefix → ℕ
form_level Not = 3
form_level Minus = 7
form_level Bracket = 8
form_level (FoldOf f) = 8

-- a form that begins with these tokens
abbrev pub Closes : Prefix → List Token → ParsedExpr → List Token → Type 0
Closes w inside d front = IsExpr (form_level w) d.depth (begins w ++ (inside ++ front)) d.expr × (d.level ≡ form_level w)

pub closed_sound : (w : Prefix) (d made : ParsedExpr) (inside ts rest : List Token) → inside_level w ≤ d.level → IsExpr d.level d.depth inside d.expr
    → with_prefix w d ts ≡ Some (made, rest) → (back : List Token) × (ts ≡ back ++ rest) × Closes w inside made back
closed_sound Not d made inside ts rest least is h =
    let same : (record { expr = expr.Not d.expr; depth = d.depth + 1; level = 3 }, ts) ≡ (made, rest) = same-some _ _ h in
    ([], ap (λ p. p.1) same, subst (λ (m : ParsedExpr). Closes Not inside m []) (ap (λ p. p.0) same) (subst (λ (l : List Token). IsExpr 3 (d.depth + 1) (word "not" ∷ l) (expr.Not d.expr)) (sym (append-nil inside)) (IsExpr.ANot d.level d.depth inside d.expr least is), refl))
closed_sound Minus d made inside ts rest least is h =
    let same : (record { expr = expr.Negate d.expr; depth = d.depth + 1; level = 7 }, ts) ≡ (made, rest) = same-some _ _ h in
    ([], ap (λ p. p.1) same, subst (λ (m : ParsedExpr). Closes Minus inside m []) (ap (λ p. p.0) same) (subst (λ (l : List Token). IsExpr 7 (d.depth + 1) (word "-" ∷ l) (expr.Negate d.expr)) (sym (append-nil inside)) (IsExpr.AMinus d.level d.depth inside d.expr least is), refl))
closed_sound Bracket d made inside ts rest least is h =
    let b : (x : List Token) × (after_word (codes ")") ts ≡ Some x) × (Some (record { expr = d.expr; depth = d.depth + 1; level = 8 }, x) ≡ Some (made, rest)) = bind-some (after_word (codes ")") ts) _ (made, rest) h in
    let same : (record { expr = d.expr; depth = d.depth + 1; level = 8 }, b.0) ≡ (made, rest) = same-some _ _ b.2 in
    (word ")" ∷ [], after_is (codes ")") ts b.0 b.1 ∙ ap (λ r. word ")" ∷ r) (ap (λ p. p.1) same), subst (λ (m : ParsedExpr). Closes Bracket inside m (word ")" ∷ [])) (ap (λ p. p.0) same) (IsExpr.InBrackets d.level d.depth inside d.expr is, refl))
closed_sound (FoldOf f) d made inside ts rest least is h =
    let b : (x : List Token) × (after_word (codes ")") ts ≡ Some x) × (Some (record { expr = expr.Aggregate f (Some d.expr); depth = d.depth + 1; level = 8 }, x) ≡ Some (made, rest)) = bind-some (after_word (codes ")") ts) _ (made, rest) h in
    let same : (record { expr = expr.Aggregate f (Some d.expr); depth = d.depth + 1; level = 8 }, b.0) ≡ (made, rest) = same-some _ _ b.2 in
    (word ")" ∷ [], after_is (codes ")") ts b.0 b.1 ∙ ap (λ r. word ")" ∷ r) (ap (λ p. p.1) same), subst (λ (m : ParsedExpr). Closes (FoldOf f) inside m (word ")" ∷ [])) (ap (λ p. p.0) same) (IsExpr.AFold f d.level d.depth inside d.expr is, refl))

-- ---- how an operand begins

abbrev pub Opened : ℕ → List Token → Opening × List Token → Type 0
Opened least ts (Leaf e, rest) = (front : List Token) × (ts ≡ front ++ rest) × IsExpr 8 1 front e
Opened least ts (Nested w, rest) = (ts ≡ begins w ++ rest) × (least ≤ form_level w)

leaf_sound : (least : ℕ) (t : Token) (v : Value) (ts : List Token) (p : Opening × List Token) → IsConstant t v → leaf (expr.Constant v) ts ≡ Some p → Opened least (t ∷ ts) p
leaf_sound least t v ts p is h = subst (Opened least (t ∷ ts)) (same-some _ _ h) (t ∷ [], refl, IsExpr.AConstant t v is)

around_sound : (least : ℕ) (w : Prefix) (whole ts : List Token) (p : Opening × List Token) → whole ≡ begins w ++ ts → least ≤ form_level w → Some (Nested w, ts) ≡ Some p → Opened least whole p
around_sound least w whole ts p is le h = subst (Opened least whole) (same-some _ _ h) (is, le)

not_sound : (least : ℕ) (ts : List Token) (p : Opening × List Token) → (negation least >>= λ o. Some (o, ts)) ≡ Some p → Opened least (word "not" ∷ ts) p
not_sound least ts p h =
    let b : (o : Opening) × (negation least ≡ Some o) × (Some (o, ts) ≡ Some p) = bind-some (negation least) (λ o. Some (o, ts)) p h in
    let c : (nat_le least 3 ≡ true) × (Some (Nested Not) ≡ Some b.0) = only_if-some (nat_le least 3) (Some (Nested Not)) b.0 b.1 in
    around_sound least Not (word "not" ∷ ts) ts p refl (leb-true least 3 c.0) (ap (λ o. Some (o, ts)) (same-some _ _ c.1) ∙ b.2)

fold_sound : (least : ℕ) (f : Fold) (ts : List Token) (p : Opening × List Token) → least ≤ 7 → fold_opening f ts ≡ Some p → Opened least (fold_word f ∷ ts) p
fold_sound least f ts p le h =
    let b : (x : List Token) × (after_word (codes "(") ts ≡ Some x) × (Some (Nested (FoldOf f), x) ≡ Some p) = bind-some (after_word (codes "(") ts) (λ x. Some (Nested (FoldOf f), x)) p h in
    around_sound least (FoldOf f) (fold_word f ∷ ts) b.0 p (ap (λ l. fold_word f ∷ l) (after_is (codes "(") ts b.0 b.1)) (omega (arith, le)) b.2

count_sound : (least : ℕ) (ts : List Token) (p : Opening × List Token) → least ≤ 7 → count_opening ts ≡ Some p → Opened least (word "count" ∷ ts) p
count_sound least ts p le h =
    let b : (x : List Token) × (after_word (codes "(") ts ≡ Some x) × (count_inside x ≡ Some p) = bind-some (after_word (codes "(") ts) count_inside p h in
    let begun : ts ≡ word "(" ∷ b.0 = after_is (codes "(") ts b.0 b.1 in
    elim (if-some (starts (codes "*") b.0) (after_word (codes ")") (tail b.0) >>= λ x. Some (Leaf (expr.Aggregate fold.Count None), x)) (Some (Nested (FoldOf fold.Count), b.0)) p b.2) [
      | inl star ↦
          let c : (x : List Token) × (after_word (codes ")") (tail b.0) ≡ Some x) × (Some (Leaf (expr.Aggregate fold.Count None), x) ≡ Some p) = bind-some (after_word (codes ")") (tail b.0)) (λ x. Some (Leaf (expr.Aggregate fold.Count None), x)) p star.1 in
          let all : b.0 ≡ word "*" ∷ word ")" ∷ c.0 = starts_is (codes "*") b.0 star.0 ∙ ap (λ l. word "*" ∷ l) (after_is (codes ")") (tail b.0) c.0 c.1) in
          subst (Opened least (word "count" ∷ ts)) (same-some _ _ c.2) (word "count" ∷ word "(" ∷ word "*" ∷ word ")" ∷ [], ap (λ l. word "count" ∷ l) (begun ∙ ap (λ l. word "(" ∷ l) all), IsExpr.CountAll)
      | inr more ↦ around_sound least (FoldOf fold.Count) (word "count" ∷ ts) b.0 p (ap (λ l. word "count" ∷ l) begun) (omega (arith, le)) more
    ]

column_sound : (n : List ℕ) (ts : List Token) (p : ColumnName × List Token) → IsName n → column_after n ts ≡ Some p → (front : List Token) × (Word n ∷ ts ≡ front ++ p.1) × IsColumn front p.0
column_sound n ts p named h =
    elim (if-some (starts (codes ".") ts) (reads_name (tail ts) >>= λ r. Some (record { table = Some n; name = r.0 }, r.1)) (Some (record { table = None; name = n }, ts)) p h) [
      | inl dot ↦
          let b : (r : List ℕ × List Token) × (reads_name (tail ts) ≡ Some r) × (Some (record { table = Some n; name = r.0 }, r.1) ≡ Some p) = bind-some (reads_name (tail ts)) (λ r. Some (record { table = Some n; name = r.0 }, r.1)) p dot.1 in
          let second : (tail ts ≡ Word b.0.0 ∷ b.0.1) × IsName b.0.0 = name_taken (tail ts) b.0.0 b.0.1 b.1 in
          subst (λ (q : ColumnName × List Token). (front : List Token) × (Word n ∷ ts ≡ front ++ q.1) × IsColumn front q.0) (same-some _ _ b.2)
          (Word n ∷ word "." ∷ Word b.0.0 ∷ [], ap (λ l. Word n ∷ l) (starts_is (codes ".") ts dot.0 ∙ ap (λ l. word "." ∷ l) second.0), inr (n, refl, refl, named, second.1))
      | inr alone ↦
          subst (λ (q : ColumnName × List Token). (front : List Token) × (Word n ∷ ts ≡ front ++ q.1) × IsColumn front q.0) (same-some _ _ alone) (Word n ∷ [], refl, inl (refl, refl, named))
    ]

at_word : (least : ℕ) (w v : List ℕ) (ts : List Token) (p : Opening × List Token) → pointwise nat_eq w v ≡ true → Opened least (Word v ∷ ts) p → Opened least (Word w ∷ ts) p
at_word least w v ts p is opened = subst (λ (u : List ℕ). Opened least (Word u ∷ ts) p) (sym (text_is w v is)) opened

column_opened : (least : ℕ) (w : List ℕ) (ts : List Token) (p : Opening × List Token) → column_opening w ts ≡ Some p → Opened least (Word w ∷ ts) p
column_opened least w ts p h =
    let b : (n : List ℕ) × (name_in w ≡ Some n) × ((column_after n ts >>= λ c. Some (Leaf (expr.Column c.0), c.1)) ≡ Some p) = bind-some (name_in w) (λ n. column_after n ts >>= λ c. Some (Leaf (expr.Column c.0), c.1)) p h in
    let named : (w ≡ b.0) × IsName b.0 = tested-some sql_name_test w b.0 b.1 in
    let d : (q : ColumnName × List Token) × (column_after b.0 ts ≡ Some q) × (Some (Leaf (expr.Column q.0), q.1) ≡ Some p) = bind-some (column_after b.0 ts) (λ c. Some (Leaf (expr.Column c.0), c.1)) p b.2 in
    let made : (front : List Token) × (Word b.0 ∷ ts ≡ front ++ d.0.1) × IsColumn front d.0.0 = column_sound b.0 ts d.0 named.1 d.1 in
    subst (Opened least (Word w ∷ ts)) (same-some _ _ d.2) (made.0, ap (λ u. Word u ∷ ts) named.0 ∙ made.1, IsExpr.AColumn made.0 d.0.0 made.2)

choose : {A G : Type 0} (b : Bool) (o q : Option A) (y : A) → (if b then o else q) ≡ Some y → (b ≡ true → o ≡ Some y → G) → (q ≡ Some y → G) → G
choose true o q y h f g = f refl h
choose false o q y h f g = g h

word_opened : (least : ℕ) (w : List ℕ) (ts : List Token) (p : Opening × List Token) → least ≤ 7 → word_opening least w ts ≡ Some p → Opened least (Word w ∷ ts) p
word_opened least w ts p le h =
    choose _ _ _ p h (λ is made. at_word least w (codes "not") ts p is (not_sound least ts p made)) (λ h1.
    choose _ _ _ p h1 (λ is made. at_word least w (codes "-") ts p is (around_sound least Minus (word "-" ∷ ts) ts p refl le made)) (λ h2.
    choose _ _ _ p h2 (λ is made. at_word least w (codes "(") ts p is (around_sound least Bracket (word "(" ∷ ts) ts p refl (omega (arith, le)) made)) (λ h3.
    choose _ _ _ p h3 (λ is made. at_word least w (codes "null") ts p is (leaf_sound least (word "null") value.Null ts p (refl, refl) made)) (λ h4.
    choose _ _ _ p h4 (λ is made. at_word least w (codes "count") ts p is (count_sound least ts p le made)) (λ h5.
    choose _ _ _ p h5 (λ is made. at_word least w (codes "sum") ts p is (fold_sound least fold.Sum ts p le made)) (λ h6.
    choose _ _ _ p h6 (λ is made. at_word least w (codes "min") ts p is (fold_sound least fold.Min ts p le made)) (λ h7.
    choose _ _ _ p h7 (λ is made. at_word least w (codes "max") ts p is (fold_sound least fold.Max ts p le made)) (λ h8.
    column_opened least w ts p h8))))))))

pub opening_sound : (least : ℕ) (ts : List Token) (p : Opening × List Token) → least ≤ 7 → opening least ts ≡ Some p → Opened least ts p
opening_sound least [] p le h = cc
opening_sound least (Word w ∷ ts) p le h = word_opened least w ts p le h
opening_sound least (Number z ∷ ts) p le h = leaf_sound least (Number z) (value.Int z) ts p refl h
opening_sound least (Quoted t ∷ ts) p le h = leaf_sound least (Quoted t) (value.Text t) ts p refl h
opening_sound least (Given v ∷ ts) p le h = leaf_sound least (Given v) v ts p refl h

-- ---- an operand

-- what is read as an expression of at least a level
pub record Reading (least : ℕ) (ts : List Token) (p : ParsedExpr × List Token) : Type 0 where
  pub front : List Token
  pub cut : ts ≡ front ++ p.1
  pub is : IsExpr p.0.level p.0.depth front p.0.expr
  pub level : least ≤ p.0.level

inside_bound : (w : Prefix) → inside_level w ≤ 7
inside_bound Not = omega arith
inside_bound Minus = omega arith
inside_bound Bracket = omega arith
inside_bound (FoldOf f) = omega arith

module _ (read : ℕ → List Token → Option (ParsedExpr × List Token)) (sound : (l : ℕ) (ts : List Token) (q : ParsedExpr × List Token) → l ≤ 7 → read l ts ≡ Some q → Reading l ts q) where
  operand_at_sound : (least : ℕ) (o : Opening) (ts0 ts : List Token) (q : ParsedExpr × List Token) → least ≤ 7 → Opened least ts0 (o, ts) → operand_at read o ts ≡ Some q → Reading least ts0 q
  operand_at_sound least (Leaf e) ts0 ts q le opened h =
      subst (Reading least ts0) (same-some _ _ h) (record { front = opened.0; cut = opened.1; is = opened.2; level = omega (arith, le) })
  operand_at_sound least (Nested w) ts0 ts q le opened h =
      let b : (r : ParsedExpr × List Token) × (read (inside_level w) ts ≡ Some r) × (with_prefix w r.0 r.1 ≡ Some q) = bind-some (read (inside_level w) ts) (λ r. with_prefix w r.0 r.1) q h in
      let inside : Reading (inside_level w) ts b.0 = sound (inside_level w) ts b.0 (inside_bound w) b.1 in
      let made : (back : List Token) × (b.0.1 ≡ back ++ q.1) × Closes w inside.front q.0 back = closed_sound w b.0.0 q.0 inside.front b.0.1 q.1 inside.level inside.is b.2 in
      record {
        front = begins w ++ (inside.front ++ made.0);
        cut = opened.0 ∙ ap (λ l. begins w ++ l) (inside.cut ∙ ap (λ l. inside.front ++ l) made.1 ∙ sym (append_assoc inside.front made.0 q.1)) ∙ sym (append_assoc (begins w) (inside.front ++ made.0) q.1);
        is = subst (λ (l : ℕ). IsExpr l q.0.depth (begins w ++ (inside.front ++ made.0)) q.0.expr) (sym made.2.1) made.2.0;
        level = subst (λ (l : ℕ). least ≤ l) (sym made.2.1) opened.1;
      }

  pub operand_sound : (least : ℕ) (ts : List Token) (q : ParsedExpr × List Token) → least ≤ 7 → operand read least ts ≡ Some q → Reading least ts q
  operand_sound least ts q le h =
      let b : (r : Opening × List Token) × (opening least ts ≡ Some r) × (operand_at read r.0 r.1 ≡ Some q) = bind-some (opening least ts) (λ r. operand_at read r.0 r.1) q h in
      operand_at_sound least b.0.0 ts b.0.1 q le (opening_sound least ts b.0 le b.1) b.2

-- ---- what follows an operand

abbrev pub InfixWrites : Infix → Token → Type 0
InfixWrites (Both op) t = Writes op t
InfixWrites IsNull t = t ≡ word "is"

comparison_sound : (w : List ℕ) (c : Cmp) → comparison_of w ≡ Some c → Writes (Compare c) (Word w)
comparison_sound w c h =
    choose _ _ _ c h (λ is made. subst (λ (k : Cmp). Writes (Compare k) (Word w)) (same-some _ _ made) (ap Word (text_is w (codes "=") is))) (λ h1.
    choose _ _ _ c h1 (λ is made. subst (λ (k : Cmp). Writes (Compare k) (Word w)) (same-some _ _ made) (inl (ap Word (text_is w (codes "<>") is)))) (λ h2.
    choose _ _ _ c h2 (λ is made. subst (λ (k : Cmp). Writes (Compare k) (Word w)) (same-some _ _ made) (inr (ap Word (text_is w (codes "!=") is)))) (λ h3.
    choose _ _ _ c h3 (λ is made. subst (λ (k : Cmp). Writes (Compare k) (Word w)) (same-some _ _ made) (ap Word (text_is w (codes "<") is))) (λ h4.
    choose _ _ _ c h4 (λ is made. subst (λ (k : Cmp). Writes (Compare k) (Word w)) (same-some _ _ made) (ap Word (text_is w (codes "<=") is))) (λ h5.
    choose _ _ _ c h5 (λ is made. subst (λ (k : Cmp). Writes (Compare k) (Word w)) (same-some _ _ made) (ap Word (text_is w (codes ">") is))) (λ h6.
    choose _ _ _ c h6 (λ is made. subst (λ (k : Cmp). Writes (Compare k) (Word w)) (same-some _ _ made) (ap Word (text_is w (codes ">=") is))) (λ h7.
    (let none : None ≡ Some c = h7 in cc))))))))

compared_sound : (w : List ℕ) (j : Infix) → comparison_infix w ≡ Some j → InfixWrites j (Word w)
compared_sound w j h =
    let b : (c : Cmp) × (comparison_of w ≡ Some c) × (Some (Both (Compare c)) ≡ Some j) = bind-some (comparison_of w) (λ c. Some (Both (Compare c))) j h in
    subst (λ (k : Infix). InfixWrites k (Word w)) (same-some _ _ b.2) (comparison_sound w b.0 b.1)

infix_in_sound : (w : List ℕ) (j : Infix) → infix_in w ≡ Some j → InfixWrites j (Word w)
infix_in_sound w j h =
    choose _ _ _ j h (λ is made. subst (λ (k : Infix). InfixWrites k (Word w)) (same-some _ _ made) (ap Word (text_is w (codes "or") is))) (λ h1.
    choose _ _ _ j h1 (λ is made. subst (λ (k : Infix). InfixWrites k (Word w)) (same-some _ _ made) (ap Word (text_is w (codes "and") is))) (λ h2.
    choose _ _ _ j h2 (λ is made. subst (λ (k : Infix). InfixWrites k (Word w)) (same-some _ _ made) (ap Word (text_is w (codes "is") is))) (λ h3.
    choose _ _ _ j h3 (λ is made. subst (λ (k : Infix). InfixWrites k (Word w)) (same-some _ _ made) (ap Word (text_is w (codes "+") is))) (λ h4.
    choose _ _ _ j h4 (λ is made. subst (λ (k : Infix). InfixWrites k (Word w)) (same-some _ _ made) (ap Word (text_is w (codes "-") is))) (λ h5.
    choose _ _ _ j h5 (λ is made. subst (λ (k : Infix). InfixWrites k (Word w)) (same-some _ _ made) (ap Word (text_is w (codes "*") is))) (λ h6.
    compared_sound w j h6))))))

pub infix_sound : (ts : List Token) (j : Infix) → infix_of ts ≡ Some j → (t : Token) × (ts ≡ t ∷ tail ts) × InfixWrites j t
infix_sound [] j h = cc
infix_sound (Word w ∷ ts) j h = (Word w, refl, infix_in_sound w j h)
infix_sound (Number z ∷ ts) j h = cc
infix_sound (Quoted t ∷ ts) j h = cc
infix_sound (Given v ∷ ts) j h = cc

-- what stands next joins an operand of this level
pub record Joins (least level : ℕ) (ts : List Token) (j : Infix) : Type 0 where
  pub sign : Token
  pub cut : ts ≡ sign ∷ tail ts
  pub writes : InfixWrites j sign
  pub least_holds : least ≤ level_of j
  pub left_holds : left_of j ≤ level

joins_sound : (least level : ℕ) (ts : List Token) (j : Infix) → joins least level ts ≡ Some j → Joins least level ts j
joins_sound least level ts j h =
    let b : (i : Infix) × (infix_of ts ≡ Some i) × (only_if (may_join least level i) (Some i) ≡ Some j) = bind-some (infix_of ts) (λ i. only_if (may_join least level i) (Some i)) j h in
    let c : (may_join least level b.0 ≡ true) × (Some b.0 ≡ Some j) = only_if-some (may_join least level b.0) (Some b.0) j b.2 in
    let s : (t : Token) × (ts ≡ t ∷ tail ts) × InfixWrites b.0 t = infix_sound ts b.0 b.1 in
    let m : (nat_le least (level_of b.0) ≡ true) × (nat_le (left_of b.0) level ≡ true) = and-parts _ _ c.0 in
    subst (Joins least level ts) (same-some _ _ c.1) (record { sign = s.0; cut = s.1; writes = s.2; least_holds = leb-true _ _ m.0; left_holds = leb-true _ _ m.1 })

right_bound : (op : Operator) → right_of op ≤ 7
right_bound Or = omega arith
right_bound And = omega arith
right_bound (Compare c) = omega arith
right_bound Add = omega arith
right_bound Subtract = omega arith
right_bound Multiply = omega arith

-- what an operand in front and a sign make of the rest
abbrev pub Joined : Infix → Token → List Token → List Token → ParsedExpr × List Token → Type 0
Joined j t front ts q = (back : List Token) × (ts ≡ back ++ q.1) × IsExpr q.0.level q.0.depth (front ++ t ∷ back) q.0.expr × (q.0.level ≡ level_of j)

null_sound : (d : ParsedExpr) (t : Token) (front ts : List Token) (q : ParsedExpr × List Token) → IsExpr d.level d.depth front d.expr → 5 ≤ d.level → t ≡ word "is" → null_test d ts ≡ Some q → Joined IsNull t front ts q
null_sound d t front ts q is left writes h = elim (cases_Bool (starts (codes "not") ts)) [
  | inl negated ↦
      let h1 : (after_word (codes "null") (tail ts) >>= λ rest. Some (record { expr = expr.IsNull d.expr true; depth = d.depth + 1; level = 4 }, rest)) ≡ Some q = rw negated at h in
      let b : (x : List Token) × (after_word (codes "null") (tail ts) ≡ Some x) × (Some (record { expr = expr.IsNull d.expr true; depth = d.depth + 1; level = 4 }, x) ≡ Some q) = bind-some (after_word (codes "null") (tail ts)) _ q h1 in
      subst (Joined IsNull t front ts) (same-some _ _ b.2) (
        word "not" ∷ word "null" ∷ [],
        starts_is (codes "not") ts negated ∙ ap (λ l. word "not" ∷ l) (after_is (codes "null") (tail ts) b.0 b.1),
        subst (λ (u : Token). IsExpr 4 (d.depth + 1) (front ++ u ∷ word "not" ∷ word "null" ∷ []) (expr.IsNull d.expr true)) (sym writes) (IsExpr.ANotNull d.level d.depth front d.expr left is),
        refl,
      )
  | inr plain ↦
      let h1 : (after_word (codes "null") ts >>= λ rest. Some (record { expr = expr.IsNull d.expr false; depth = d.depth + 1; level = 4 }, rest)) ≡ Some q = rw plain at h in
      let b : (x : List Token) × (after_word (codes "null") ts ≡ Some x) × (Some (record { expr = expr.IsNull d.expr false; depth = d.depth + 1; level = 4 }, x) ≡ Some q) = bind-some (after_word (codes "null") ts) _ q h1 in
      subst (Joined IsNull t front ts) (same-some _ _ b.2) (
        word "null" ∷ [],
        after_is (codes "null") ts b.0 b.1,
        subst (λ (u : Token). IsExpr 4 (d.depth + 1) (front ++ u ∷ word "null" ∷ []) (expr.IsNull d.expr false)) (sym writes) (IsExpr.ANull d.level d.depth front d.expr left is),
        refl,
      )
]

-- ---- a chain of operators

-- what an operand in front and the operators that follow it make of tokens
pub record Chain (least : ℕ) (front ts : List Token) (q : ParsedExpr × List Token) : Type 0 where
  pub back : List Token
  pub cut : ts ≡ back ++ q.1
  pub is : IsExpr q.0.level q.0.depth (front ++ back) q.0.expr
  pub level : least ≤ q.0.level

none_added : (least : ℕ) (d : ParsedExpr) (front ts : List Token) → IsExpr d.level d.depth front d.expr → least ≤ d.level → Chain least front ts (d, ts)
none_added least d front ts is level = record { back = []; cut = refl; is = subst (λ (l : List Token). IsExpr d.level d.depth l d.expr) (sym (append-nil front)) is; level = level }

module _ (read : ℕ → List Token → Option (ParsedExpr × List Token)) (sound : (l : ℕ) (ts : List Token) (q : ParsedExpr × List Token) → l ≤ 7 → read l ts ≡ Some q → Reading l ts q) where
  joined_sound : (j : Infix) (d : ParsedExpr) (t : Token) (front ts : List Token) (q : ParsedExpr × List Token) → IsExpr d.level d.depth front d.expr → left_of j ≤ d.level → InfixWrites j t
      → joined read j d ts ≡ Some q → Joined j t front ts q
  joined_sound (Both op) d t front ts q is left writes h =
      let b : (r : ParsedExpr × List Token) × (read (right_of op) ts ≡ Some r) × (Some (pair op d r.0, r.1) ≡ Some q) = bind-some (read (right_of op) ts) (λ r. Some (pair op d r.0, r.1)) q h in
      let right : Reading (right_of op) ts b.0 = sound (right_of op) ts b.0 (right_bound op) b.1 in
      subst (Joined (Both op) t front ts) (same-some _ _ b.2)
      (right.front, right.cut, IsExpr.APair op t d.level d.depth front d.expr b.0.0.level b.0.0.depth right.front b.0.0.expr writes left is right.level right.is, refl)
  joined_sound IsNull d t front ts q is left writes h = null_sound d t front ts q is left writes h

  goes_on_sound : (limit least : ℕ) (o : Option Infix) (d : ParsedExpr) (front ts : List Token) (r : (ParsedExpr × Bool) × List Token) → IsExpr d.level d.depth front d.expr → least ≤ d.level
      → joins least d.level ts ≡ o → goes_on read limit o d ts ≡ Some r → Chain least front ts (r.0.0, r.1)
  goes_on_sound limit least None d front ts r is level eq h =
      subst (λ (p : (ParsedExpr × Bool) × List Token). Chain least front ts (p.0.0, p.1)) (same-some _ _ h) (none_added least d front ts is level)
  goes_on_sound limit least (Some j) d front ts r is level eq h =
      let b : (q : ParsedExpr × List Token) × (joined_within read limit j d (tail ts) ≡ Some q) × (Some ((q.0, true), q.1) ≡ Some r) = bind-some (joined_within read limit j d (tail ts)) (λ q. Some ((q.0, true), q.1)) r h in
      let c : (nat_le d.depth limit ≡ true) × (joined read j d (tail ts) ≡ Some b.0) = only_if-some (nat_le d.depth limit) (joined read j d (tail ts)) b.0 b.1 in
      let s : Joins least d.level ts j = joins_sound least d.level ts j eq in
      let m : Joined j s.sign front (tail ts) b.0 = joined_sound j d s.sign front (tail ts) b.0 is s.left_holds s.writes c.1 in
      subst (λ (p : (ParsedExpr × Bool) × List Token). Chain least front ts (p.0.0, p.1)) (same-some _ _ b.2)
      (record { back = s.sign ∷ m.0; cut = s.cut ∙ ap (λ l. s.sign ∷ l) m.1; is = m.2; level = subst (λ (l : ℕ). least ≤ l) (sym m.3) s.least_holds })

  chain_sound : (limit least k : ℕ) (d : ParsedExpr) (front ts : List Token) (q : ParsedExpr × List Token) → IsExpr d.level d.depth front d.expr → least ≤ d.level
      → repeat (joins_more read limit least) k d ts ≡ Some q → Chain least front ts q
  chain_sound limit least zero d front ts q is level h =
      let none : None ≡ Some q = sym (repeat_none (joins_more read limit least) d ts) ∙ h in cc
  chain_sound limit least (suc k) d front ts q is level h =
      let h1 : after (joins_more read limit least) k (joins_more read limit least d ts) ≡ Some q = sym (repeat_suc (joins_more read limit least) k d ts) ∙ h in
      let b : (r : (ParsedExpr × Bool) × List Token) × (joins_more read limit least d ts ≡ Some r) × ((if r.0.1 then repeat (joins_more read limit least) k r.0.0 r.1 else Some (r.0.0, r.1)) ≡ Some q) = bind-some (joins_more read limit least d ts) (λ r. if r.0.1 then repeat (joins_more read limit least) k r.0.0 r.1 else Some (r.0.0, r.1)) q h1 in
      let one : Chain least front ts (b.0.0.0, b.0.1) = goes_on_sound limit least (joins least d.level ts) d front ts b.0 is level refl b.1 in
      choose b.0.0.1 (repeat (joins_more read limit least) k b.0.0.0 b.0.1) (Some (b.0.0.0, b.0.1)) q b.2
      (λ going made.
      let more : Chain least (front ++ one.back) b.0.1 q = chain_sound limit least k b.0.0.0 (front ++ one.back) b.0.1 q one.is one.level made in
      record {
        back = one.back ++ more.back;
        cut = one.cut ∙ ap (λ l. one.back ++ l) more.cut ∙ sym (append_assoc one.back more.back q.1);
        is = subst (λ (l : List Token). IsExpr q.0.level q.0.depth l q.0.expr) (append_assoc front one.back more.back) more.is;
        level = more.level;
      })
      (λ made. subst (Chain least front ts) (same-some _ _ made) one)

-- what is read within a depth is an expression of the grammar
pub within_sound : (n least : ℕ) (ts : List Token) (q : ParsedExpr × List Token) → least ≤ 7 → within n least ts ≡ Some q → Reading least ts q
within_sound zero least ts q le h = let none : None ≡ Some q = sym (within_none least ts) ∙ h in cc
within_sound (suc n) least ts q le h =
    let h1 : (operand (within n) least ts >>= λ r. repeat (joins_more (within n) n least) (suc n) r.0 r.1) ≡ Some q = sym (within_suc n least ts) ∙ h in
    let b : (r : ParsedExpr × List Token) × (operand (within n) least ts ≡ Some r) × (repeat (joins_more (within n) n least) (suc n) r.0 r.1 ≡ Some q) = bind-some (operand (within n) least ts) (λ r. repeat (joins_more (within n) n least) (suc n) r.0 r.1) q h1 in
    let first : Reading least ts b.0 = operand_sound (within n) (within_sound n) least ts b.0 le b.1 in
    let all : Chain least first.front b.0.1 q = chain_sound (within n) (within_sound n) n least (suc n) b.0.0 first.front b.0.1 q first.is first.level b.2 in
    record {
      front = first.front ++ all.back;
      cut = first.cut ∙ ap (λ l. first.front ++ l) all.cut ∙ sym (append_assoc first.front all.back q.1);
      is = all.is;
      level = all.level;
    }

pub expression_sound : (ts : List Token) (e : Expr) (rest : List Token) → reads_expr ts ≡ Some (e, rest)
    → (front : List Token) × (ts ≡ front ++ rest) × (level : ℕ) × (depth : ℕ) × (depth ≤ 64) × IsExpr level depth front e
expression_sound ts e rest h =
    let b : (r : ParsedExpr × List Token) × (within 64 1 ts ≡ Some r) × (Some (r.0.expr, r.1) ≡ Some (e, rest)) = bind-some (within 64 1 ts) (λ r. Some (r.0.expr, r.1)) (e, rest) h in
    let low : 1 ≤ 7 = omega arith in
    let all : Reading 1 ts b.0 = within_sound 64 1 ts b.0 low b.1 in
    subst (λ (p : Expr × List Token). (front : List Token) × (ts ≡ front ++ p.1) × (level : ℕ) × (depth : ℕ) × (depth ≤ 64) × IsExpr level depth front p.0) (same-some _ _ b.2)
    (all.front, all.cut, b.0.0.level, b.0.0.depth, within_depth 64 1 ts b.0 b.1, all.is)
