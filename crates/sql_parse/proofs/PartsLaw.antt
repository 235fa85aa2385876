-- Expressions, columns, lists and items: reading agrees with the grammar.
use Rattle.std.proofs.Common.{◌≡◌, ℕ, ◌≤◌, List, [], ◌∷◌, ◌++◌, length, refl, sym, ap, ◌∙◌, subst, not, Bool, true, false, Some, None, inl, inr, ◌⊎◌, arith, append_assoc}
use Rattle.std.specs.Prelude.{Option, ◌||◌, codes, nat_eq, is_none}
use Prim.Native.String.{String}
use Rattle.std.specs.Cmp.Lexicographic.{pointwise}
use Rattle.std.proofs.lemmas.Bool.{cases_Bool, false≢true}
use Rattle.std.proofs.lemmas.List.{length-append}
use Rattle.ldv_value.specs.declared.value.Value.{Value}
use Rattle.sql_model.specs.declared.expr.ColumnName.{ColumnName}
use Rattle.sql_model.specs.declared.expr.Expr.{Expr}
use Rattle.sql_model.specs.declared.expr.Fold.{Fold}
use Rattle.sql_model.specs.declared.expr.Fold.TheVariants as fold
use Rattle.sql_model.specs.declared.statement.Item.{Item}
use Rattle.sql_model.specs.SqlNames.{sql_name_test}
use Rattle.sql_model.specs.declared.token.Token.{Token}
use Rattle.sql_model.specs.declared.token.Token.TheVariants.{Word, Number, Quoted, Given}
use Rattle.sql_model.specs.Columns.{column_after, reads_column}
use Rattle.sql_model.specs.Expressions.{reads_expr}
use Rattle.ldv_value.specs.Options.{◌>>=◌}
use Rattle.sql_model.specs.Grammar.{word, fold_word, IsName, IsConstant, IsColumn, IsExpr}
use Rattle.sql_model.specs.GrammarOfStatements.{Then, After, Only, Optionally, IsCommaList, IsNameToken, IsExpression, IsColumnAt, IsItem, AreItems, AreColumns, IsTuple}
use Rattle.sql_model.specs.Operators.{infix_in, infix_of}
use Rattle.sql_model.specs.Parts.{list_of_parts, reads_tuple}
use Rattle.sql_model.specs.Queries.{reads_item, reads_items}
use Rattle.sql_model.specs.Reader.{starts, after_word}
use Rattle.sql_model.specs.Texts.{reads_columns}
use Rattle.sql_parse.proofs.ExpressionsBack.{goes_not_on, expression_back}
use Rattle.sql_parse.proofs.ExpressionsLaw.{expression_sound, text_is}
use Rattle.sql_parse.proofs.Follows.{among, among_all, all_words, ends_by, lacks, ends_lack, follows_after, follows_optional}
use Rattle.sql_parse.proofs.Laws.{Law, state_law, nothing_law, after_law, then_law, made_law, either_law, optional_law, name_law, named_law}
use Rattle.sql_parse.proofs.RepeatLaws.{separated_law}
use Rattle.ldv_value.proofs.Booleans.{or-left}
use Rattle.ldv_value.proofs.Options.{is_none-true}

-- ---- expressions

-- the word begins no operator
abbrev pub no_infix : List ℕ → Bool
no_infix w = is_none (infix_in w)

ends_infix : (ws : List (List ℕ)) (rest : List Token) → all_words no_infix ws ≡ true → ends_by ws rest ≡ true → infix_of rest ≡ None
ends_infix ws [] all h = refl
ends_infix ws (Word w ∷ ts) all h = is_none-true (infix_in w) (among_all no_infix ws w all h)
ends_infix ws (Number z ∷ ts) all h = absurd (false≢true h)
ends_infix ws (Quoted t ∷ ts) all h = absurd (false≢true h)
ends_infix ws (Given v ∷ ts) all h = absurd (false≢true h)

pub expr_law : (ws : List (List ℕ)) → all_words no_infix ws ≡ true → lacks (codes ".") ws ≡ true → Law IsExpression ws reads_expr
expr_law ws signs dots = record {
  sound = λ ts e rest h. let p = expression_sound ts e rest h in (p.0, p.1, (p.2, p.3, p.4, p.5));
  complete = λ front rest e form ends. expression_back form.0 form.1 front e rest form.3 form.2 (goes_not_on rest (ends_infix ws rest signs ends) (ends_lack (codes ".") ws rest dots ends));
}

-- the words with which an expression may begin, beside names
abbrev pub openers : List (List ℕ)
openers = codes "null" ∷ codes "count" ∷ codes "sum" ∷ codes "min" ∷ codes "max" ∷ codes "(" ∷ codes "-" ∷ codes "not" ∷ []

abbrev pub opens_expr : List ℕ → Bool
opens_expr w = sql_name_test w || among openers w

abbrev pub OpensExpr : Token → Type 0
OpensExpr (Word w) = opens_expr w ≡ true
OpensExpr (Number z) = Unit {0}
OpensExpr (Quoted t) = Unit {0}
OpensExpr (Given v) = Unit {0}

abbrev pub BeginsExpr : List Token → Type 0
BeginsExpr [] = ⊥
BeginsExpr (t ∷ ts) = OpensExpr t

opens_name : (x : List ℕ) → IsName x → OpensExpr (Word x)
opens_name x h = or-left (sql_name_test x) (among openers x) h

opens_constant : (t : Token) (v : Value) → IsConstant t v → OpensExpr t
opens_constant (Word w) v h = subst (λ (u : List ℕ). OpensExpr (Word u)) (sym h.0) refl
opens_constant (Number z) v h = tt
opens_constant (Quoted t) v h = tt
opens_constant (Given u) v h = tt

opens_fold : (f : Fold) → OpensExpr (fold_word f)
opens_fold fold.Count = refl
opens_fold fold.Sum = refl
opens_fold fold.Min = refl
opens_fold fold.Max = refl

opens_column : (ts : List Token) (c : ColumnName) → IsColumn ts c → BeginsExpr ts
opens_column ts c (inl (e, none, named)) = subst BeginsExpr (sym e) (opens_name c.name named)
opens_column ts c (inr (source, e, some, named, also)) = subst BeginsExpr (sym e) (opens_name source named)

begins_more : (front back : List Token) → BeginsExpr front → BeginsExpr (front ++ back)
begins_more [] back h = absurd h
begins_more (t ∷ front) back h = h

expr_begins : (level depth : ℕ) (ts : List Token) (e : Expr) → IsExpr level depth ts e → BeginsExpr ts
expr_begins _ _ _ _ (IsExpr.AConstant t v h) = opens_constant t v h
expr_begins _ _ _ _ (IsExpr.AColumn ts c h) = opens_column ts c h
expr_begins _ _ _ _ IsExpr.CountAll = refl
expr_begins _ _ _ _ (IsExpr.AFold f level depth ts e h) = opens_fold f
expr_begins _ _ _ _ (IsExpr.InBrackets level depth ts e h) = refl
expr_begins _ _ _ _ (IsExpr.AMinus level depth ts e least h) = refl
expr_begins _ _ _ _ (IsExpr.ANot level depth ts e least h) = refl
expr_begins _ _ _ _ (IsExpr.ANull level depth ts e least h) = begins_more ts (word "is" ∷ word "null" ∷ []) (expr_begins level depth ts e h)
expr_begins _ _ _ _ (IsExpr.ANotNull level depth ts e least h) = begins_more ts (word "is" ∷ word "not" ∷ word "null" ∷ []) (expr_begins level depth ts e h)
expr_begins _ _ _ _ (IsExpr.APair op t l m xs a k n ys b writes left h right i) = begins_more xs (t ∷ ys) (expr_begins l m xs a h)

word_apart : (w v : List ℕ) → opens_expr w ≡ true → opens_expr v ≡ false → pointwise nat_eq w v ≡ false
word_apart w v h not = elim (cases_Bool (pointwise nat_eq w v)) [
  | inl is ↦ absurd (false≢true (sym not ∙ ap opens_expr (sym (text_is w v is)) ∙ h))
  | inr other ↦ other
]

begins_apart : (v : List ℕ) (front rest : List Token) → opens_expr v ≡ false → BeginsExpr front → starts v (front ++ rest) ≡ false
begins_apart v [] rest not h = absurd h
begins_apart v (Word w ∷ front) rest not h = word_apart w v h not
begins_apart v (Number z ∷ front) rest not h = refl
begins_apart v (Quoted t ∷ front) rest not h = refl
begins_apart v (Given x ∷ front) rest not h = refl

-- an expression begins with no such word
pub expr_apart : (v : List ℕ) (e : Expr) (front rest : List Token) → opens_expr v ≡ false → IsExpression e front → starts v (front ++ rest) ≡ false
expr_apart v e front rest not (level, depth, shallow, is) = begins_apart v front rest not (expr_begins level depth front e is)

filled : (ts : List Token) → BeginsExpr ts → 1 ≤ length ts
filled [] h = absurd h
filled (t ∷ ts) h = omega arith

pub expr_filled : (e : Expr) (ts : List Token) → IsExpression e ts → 1 ≤ length ts
expr_filled e ts (level, depth, shallow, is) = filled ts (expr_begins level depth ts e is)

pub then_filled : {First Second : List Token → Type 0} (ts : List Token) → ((front : List Token) → First front → 1 ≤ length front) → Then First Second ts → 1 ≤ length ts
then_filled ts some (front, back, e, first, second) = omega (arith, ap length e, length-append front back, some front first)

pub named_filled : (x : List ℕ) (ts : List Token) → IsNameToken x ts → 1 ≤ length ts
named_filled x ts h = omega (arith, ap length h.0)

pub after_filled : {Form : List Token → Type 0} (s : String) (ts : List Token) → After s Form ts → 1 ≤ length ts
after_filled s ts (more, e, form) = omega (arith, ap length e)

-- ---- lists

abbrev pub comma : List ℕ
comma = codes ","

pub listed_law : {X : Type 0} {Form : X → List Token → Type 0} {read : List Token → Option (X × List Token)} (ws : List (List ℕ)) → Law Form (comma ∷ ws) read → ((x : X) (ts : List Token) → Form x ts → 1 ≤ length ts)
    → lacks comma ws ≡ true → all_words (among (comma ∷ ws)) ws ≡ true → Law (λ xs ts. IsCommaList Form xs ts) ws (λ ts. list_of_parts read ts)
listed_law ws law some lack less = separated_law "," ws law law some lack less refl

-- a form with a closing parenthesis after it
pub inside_law : {A X : Type 0} {Form : A → List Token → Type 0} {read : List Token → Option (A × List Token)} (ws : List (List ℕ)) (f : A → X) → Law Form (codes ")" ∷ []) read
    → Law (λ x ts. (a : A) × Then (Form a) (λ ts. After ")" (λ ts. (x ≡ f a) × (ts ≡ [])) ts) ts) ws (λ ts. read ts >>= λ r. after_word (codes ")") r.1 >>= λ rest. Some (f r.0, rest))
inside_law ws f law = then_law law (λ a. after_law ")" (nothing_law (f a) ws)) (λ a x. follows_after ")" ws (codes ")" ∷ []) refl)

only_close : {X : Type 0} (x y : X) (ts : List Token) → After ")" (λ ts. (x ≡ y) × (ts ≡ [])) ts → (x ≡ y) × Only ")" ts
only_close x y ts (more, e, (same, none)) = (same, e ∙ ap (λ (l : List Token). word ")" ∷ l) none)

pub exprs_law : (ws : List (List ℕ)) → all_words no_infix (comma ∷ ws) ≡ true → lacks (codes ".") (comma ∷ ws) ≡ true → lacks comma ws ≡ true → all_words (among (comma ∷ ws)) ws ≡ true
    → Law (λ es ts. IsCommaList IsExpression es ts) ws (λ ts. list_of_parts reads_expr ts)
exprs_law ws signs dots lack less = listed_law ws (expr_law (comma ∷ ws) signs dots) expr_filled lack less

tuple_to : (es : List Expr) (ts : List Token) → After "(" (λ ts. (a : List Expr) × Then (λ ts. IsCommaList IsExpression a ts) (λ ts. After ")" (λ ts. (es ≡ a) × (ts ≡ [])) ts) ts) ts → IsTuple es ts
tuple_to es ts (more, e, (a, (front, back, is, list, close))) =
    let p = only_close es a back close in
    (more, e, (front, back, is, subst (λ (l : List Expr). IsCommaList IsExpression l front) (sym p.0) list, p.1))

tuple_from : (es : List Expr) (ts : List Token) → IsTuple es ts → After "(" (λ ts. (a : List Expr) × Then (λ ts. IsCommaList IsExpression a ts) (λ ts. After ")" (λ ts. (es ≡ a) × (ts ≡ [])) ts) ts) ts
tuple_from es ts (more, e, (front, back, is, list, close)) = (more, e, (es, (front, back, is, list, ([], close, (refl, refl)))))

pub tuple_law : (ws : List (List ℕ)) → Law IsTuple ws reads_tuple
tuple_law ws =
    state_law (λ es ts. After "(" (λ ts. (a : List Expr) × Then (λ ts. IsCommaList IsExpression a ts) (λ ts. After ")" (λ ts. (es ≡ a) × (ts ≡ [])) ts) ts) ts) IsTuple ws reads_tuple
    (after_law "(" (inside_law ws (λ es. es) (exprs_law (codes ")" ∷ []) refl refl refl refl))) tuple_to tuple_from

-- the columns of an INSERT
abbrev ColumnsForm : Option (List (List ℕ)) → List Token → Type 0
ColumnsForm o ts = After "(" (λ ts. (a : List (List ℕ)) × Then (λ ts. IsCommaList IsNameToken a ts) (λ ts. After ")" (λ ts. (o ≡ Some a) × (ts ≡ [])) ts) ts) ts ⊎ ((o ≡ None) × (ts ≡ []))

columns_to : (o : Option (List (List ℕ))) (ts : List Token) → ColumnsForm o ts → AreColumns o ts
columns_to o ts (inl (more, e, (a, (front, back, is, list, close)))) =
    let p = only_close o (Some a) back close in
    subst (λ (q : Option (List (List ℕ))). AreColumns q ts) (sym p.0) (more, e, (front, back, is, list, p.1))
columns_to o ts (inr (is, e)) = subst (λ (q : Option (List (List ℕ))). AreColumns q ts) (sym is) e

columns_from : (o : Option (List (List ℕ))) (ts : List Token) → AreColumns o ts → ColumnsForm o ts
columns_from None ts e = inr (refl, e)
columns_from (Some a) ts (more, e, (front, back, is, list, close)) = inl (more, e, (a, (front, back, is, list, ([], close, (refl, refl)))))

pub columns_law : (ws : List (List ℕ)) → lacks (codes "(") ws ≡ true → Law AreColumns ws reads_columns
columns_law ws lack =
    state_law ColumnsForm AreColumns ws reads_columns
    (either_law "(" (inside_law ws (λ names. Some names) (listed_law (codes ")" ∷ []) (name_law (comma ∷ codes ")" ∷ [])) named_filled refl refl)) (nothing_law None ws)
    (λ o front rest form e. ap (λ (l : List Token). starts (codes "(") (l ++ rest)) form.1 ∙ ends_lack (codes "(") ws rest lack e))
    columns_to columns_from

-- ---- columns

abbrev AfterForm : List ℕ → ColumnName → List Token → Type 0
AfterForm n c ts = After "." (λ ts. (m : List ℕ) × (c ≡ record { table = Some n; name = m }) × IsNameToken m ts) ts ⊎ ((c ≡ record { table = None; name = n }) × (ts ≡ []))

after_column_law : (n : List ℕ) (ws : List (List ℕ)) → lacks (codes ".") ws ≡ true → Law (AfterForm n) ws (λ ts. column_after n ts)
after_column_law n ws lack =
    either_law "." (made_law (λ (m : List ℕ). record { table = Some n; name = m }) (name_law ws)) (nothing_law (record { table = None; name = n }) ws)
    (λ c front rest form e. ap (λ (l : List Token). starts (codes ".") (l ++ rest)) form.1 ∙ ends_lack (codes ".") ws rest lack e)

abbrev ColumnForm : ColumnName → List Token → Type 0
ColumnForm c ts = (n : List ℕ) × Then (IsNameToken n) (AfterForm n c) ts

column_to : (c : ColumnName) (ts : List Token) → ColumnForm c ts → IsColumnAt c ts
column_to c ts (n, (front, back, e, (is, named), inl (more, dot, (m, made, (only, also))))) =
    subst (λ (d : ColumnName). IsColumn ts d) (sym made)
    (inr (n, e ∙ ap (λ (l : List Token). l ++ back) is ∙ ap (λ (l : List Token). Word n ∷ l) (dot ∙ ap (λ (l : List Token). word "." ∷ l) only), refl, named, also))
column_to c ts (n, (front, back, e, (is, named), inr (made, none))) =
    subst (λ (d : ColumnName). IsColumn ts d) (sym made) (inl (e ∙ ap (λ (l : List Token). l ++ back) is ∙ ap (λ (l : List Token). Word n ∷ l) none, refl, named))

column_from : (c : ColumnName) (ts : List Token) → IsColumnAt c ts → ColumnForm c ts
column_from c ts (inl (e, none, named)) = (c.name, (Word c.name ∷ [], [], e, (refl, named), inr (ap (λ (t : Option (List ℕ)). record c { table = t }) none, refl)))
column_from c ts (inr (source, e, some, named, also)) =
    (source, (Word source ∷ [], word "." ∷ Word c.name ∷ [], e, (refl, named), inl (Word c.name ∷ [], refl, (c.name, ap (λ (t : Option (List ℕ)). record c { table = t }) some, (refl, also)))))

pub column_law : (ws : List (List ℕ)) → lacks (codes ".") ws ≡ true → Law IsColumnAt ws reads_column
column_law ws lack = state_law ColumnForm IsColumnAt ws reads_column (named_law (λ n. after_column_law n ws lack)) column_to column_from

pub column_filled : (c : ColumnName) (ts : List Token) → IsColumnAt c ts → 1 ≤ length ts
column_filled c ts (inl (e, none, named)) = omega (arith, ap length e)
column_filled c ts (inr (source, e, some, named, also)) = omega (arith, ap length e)

-- ---- items

abbrev ItemForm : Item → List Token → Type 0
ItemForm i ts = (e : Expr) × Then (IsExpression e) (λ ts. (n : Option (List ℕ)) × (i ≡ record { expr = e; name = n }) × Optionally "as" IsNameToken n ts) ts

item_to : (i : Item) (ts : List Token) → ItemForm i ts → IsItem i ts
item_to i ts (e, (front, back, is, expr, (n, made, alias))) = subst (λ (j : Item). IsItem j ts) (sym made) (front, back, is, expr, alias)

item_from : (i : Item) (ts : List Token) → IsItem i ts → ItemForm i ts
item_from i ts (front, back, is, expr, alias) = (i.expr, (front, back, is, expr, (i.name, refl, alias)))

pub item_law : Law IsItem (comma ∷ codes "from" ∷ []) reads_item
item_law =
    state_law ItemForm IsItem (comma ∷ codes "from" ∷ []) reads_item
    (then_law (expr_law (codes "as" ∷ comma ∷ codes "from" ∷ []) refl refl) (λ e. made_law (λ (n : Option (List ℕ)). record { expr = e; name = n }) (optional_law "as" (name_law (comma ∷ codes "from" ∷ [])) refl))
    (λ e i ts rest form h. follows_optional IsNameToken "as" (comma ∷ codes "from" ∷ []) (codes "as" ∷ comma ∷ codes "from" ∷ []) form.0 refl refl ts rest form.2 h))
    item_to item_from

item_filled : (i : Item) (ts : List Token) → IsItem i ts → 1 ≤ length ts
item_filled i ts h = then_filled ts (expr_filled i.expr) h

-- items begin with no such word
pub listed_apart : (v : List ℕ) (items : List Item) (front rest : List Token) → opens_expr v ≡ false → IsCommaList IsItem items front → starts v (front ++ rest) ≡ false
listed_apart v [] front rest not h = absurd h
listed_apart v (i ∷ items) front rest not (first, others, e, (expr, alias, is, form, name), more) =
    ap (λ (l : List Token). starts v (l ++ rest)) (e ∙ ap (λ (l : List Token). l ++ others) is ∙ append_assoc expr alias others)
    ∙ ap (starts v) (append_assoc expr (alias ++ others) rest) ∙ expr_apart v i.expr expr ((alias ++ others) ++ rest) not form

abbrev ItemsForm : Option (List Item) → List Token → Type 0
ItemsForm o ts = After "*" (λ ts. (o ≡ None) × (ts ≡ [])) ts ⊎ ((a : List Item) × (o ≡ Some a) × IsCommaList IsItem a ts)

items_to : (o : Option (List Item)) (ts : List Token) → ItemsForm o ts → AreItems o ts
items_to o ts (inl (more, e, (is, none))) = subst (λ (p : Option (List Item)). AreItems p ts) (sym is) (e ∙ ap (λ (l : List Token). word "*" ∷ l) none)
items_to o ts (inr (a, is, list)) = subst (λ (p : Option (List Item)). AreItems p ts) (sym is) list

items_from : (o : Option (List Item)) (ts : List Token) → AreItems o ts → ItemsForm o ts
items_from None ts e = inl ([], e, (refl, refl))
items_from (Some a) ts list = inr (a, refl, list)

pub items_law : Law AreItems (codes "from" ∷ []) reads_items
items_law =
    state_law ItemsForm AreItems (codes "from" ∷ []) reads_items
    (either_law "*" (nothing_law None (codes "from" ∷ [])) (made_law (λ (a : List Item). Some a) (listed_law (codes "from" ∷ []) item_law item_filled refl refl))
    (λ o front rest form e. listed_apart (codes "*") form.0 front rest refl form.2))
    items_to items_from

-- items, or `*`, begin with no such word
pub items_apart : (v : List ℕ) (o : Option (List Item)) (front rest : List Token) → opens_expr v ≡ false → pointwise nat_eq (codes "*") v ≡ false → AreItems o front → starts v (front ++ rest) ≡ false
items_apart v None front rest not star e = ap (λ (l : List Token). starts v (l ++ rest)) e ∙ star
items_apart v (Some a) front rest not star list = listed_apart v a front rest not list
