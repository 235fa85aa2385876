-- A text with other parameters is the same statement, with these in the places of the first ones.
use Rattle.std.proofs.Common.{◌≡◌, ℕ, ◌+◌, ◌≤◌, List, [], ◌∷◌, ◌++◌, length, refl, sym, ap, subst, ◌∙◌, Some, None, inl, inr, true, false}
use Rattle.std.specs.Prelude.{Option, Bool, ℤ, pos, map, max, option_to_list, IsUtf8, codes}
use Rattle.std.specs.List.{AllByRecursion}
use Rattle.std.proofs.lemmas.List.{map-append}
use Prim.Native.String.{String}
use Rattle.ldv_value.proofs.ItemLists.{all_append, all_front, all_back}
use Rattle.sql_template.specs.Filling.{fill_step, filled_expr, filled_exprs, filled_item, filled_items, filled_pick, filled_limit, filled_core, filled_query, filled_set, filled_insert, filled_update, filled_delete, filled_statement, KeepsLiterals}
use Rattle.sql_template.specs.Types.{Value, Null, Int, Text, Expr, Fold, Operator, Add, Subtract, Multiply, Compare, And, Or, Core, FromItem, Item, Order, OrderKey, Query, Set, Insert, Update, Delete, Statement, TheQuery, TheInsert, TheUpdate, TheDelete}
use Rattle.ldv_value.specs.declared.value.Cmp.TheVariants.{Eq, Ne, Lt, Le, Gt, Ge}
use Rattle.sql_model.proofs.Folds.{fold-Constant, fold-Column, fold-Negate, fold-Not, fold-Both, fold-IsNull, fold-Count, fold-Aggregate}
use Rattle.sql_model.specs.declared.expr.Expr.TheVariants as expr
use Rattle.sql_model.specs.declared.expr.ColumnName.{ColumnName}
use Rattle.sql_model.specs.declared.expr.Fold.TheVariants as fold
use Rattle.sql_model.specs.declared.statement.OrderKey.TheVariants.{Name, Place}
use Rattle.sql_model.specs.declared.token.Token.{Token}
use Rattle.sql_model.specs.declared.token.Token.TheVariants.{Word, Number, Quoted, Given}
use Rattle.sql_model.specs.Grammar.{word, fold_word, IsConstant, IsColumn, IsExpr, Writes}
use Rattle.sql_model.specs.GrammarOfStatements.{Then, After, Only, Flag, Optionally, IsRepetition, IsSeparatedBy, IsCommaList, IsNameToken, IsExpression, IsItem, AreItems, IsSecondName, IsSource, JoinedSource, IsConditioned, IsJoinedBy, IsJoined, source_of, conditions, AreSources, IsColumnAt, IsGroup, IsCoreEnd, IsCoreRest, IsCore, IsFirstCore, IsUnited, AreCores, IsKey, IsDirection, IsOrder, AreOrders, IsBound, IsQuery, AreColumns, IsTuple, IsInsert, IsSet, IsUpdate, IsDelete, IsStatement, IsEnd, IsWhole, IsGiven, Reads}
use Rattle.sql_model.specs.GrammarOfTokens.{digits_from, IsToken, Spells}
use Rattle.sql_model.specs.Levels.{operator_level}
use Rattle.sql_model.specs.Texts.{statement_of}
use Rattle.sql_parse.proofs.StatementsLaw.{reading_sound, reading_complete}

-- ---- tokens of a text

-- no parameter, and no number below 0
abbrev Plain : Token → Type 0
Plain (Word w) = Unit {0}
Plain (Number z) = (n : ℕ) × (z ≡ pos n)
Plain (Quoted t) = Unit {0}
Plain (Given v) = ⊥

abbrev Fair : Token → Type 0
Fair (Word w) = Unit {0}
Fair (Number z) = (n : ℕ) × (z ≡ pos n)
Fair (Quoted t) = Unit {0}
Fair (Given v) = Unit {0}

abbrev Plains : List Token → Type 0
Plains = AllByRecursion Plain

abbrev Fairs : List Token → Type 0
Fairs = AllByRecursion Fair

token_plain : (t : Token) (piece rest : List ℕ) → IsToken piece rest t → Plain t
token_plain (Word w) piece rest is = tt
token_plain (Number z) piece rest (digits, e, fits, ends) = (digits_from 0 piece, e)
token_plain (Quoted t) piece rest is = tt
token_plain (Given v) piece rest is = is

tokens_plain : (ts : List Token) (bytes : List ℕ) → Spells bytes ts → Plains ts
tokens_plain [] bytes h = tt
tokens_plain (t ∷ ts) bytes (front, piece, rest, e, blanks, is, more) = (token_plain t piece rest is, tokens_plain ts rest more)

plain_fair : (t : Token) → Plain t → Fair t
plain_fair (Word w) is = tt
plain_fair (Number z) is = is
plain_fair (Quoted t) is = tt
plain_fair (Given v) is = tt

given_fair : (params : List Value) (ts given : List Token) → Plains ts → IsGiven params ts given → Fairs given
given_fair params [] given plain (none, is) = subst Fairs (sym is) tt
given_fair params (t ∷ ts) given plain (inl (question, (v, more, rest, from, are, back))) =
    subst Fairs (sym are) (tt, given_fair more ts rest plain.1 back)
given_fair params (t ∷ ts) given plain (inr (other, (rest, are, back))) =
    subst Fairs (sym are) (plain_fair t plain.0, given_fair params ts rest plain.1 back)

cut_fair : (ts front back : List Token) → ts ≡ front ++ back → Fairs ts → Fairs front × Fairs back
cut_fair ts front back e all =
    let both : Fairs (front ++ back) = subst Fairs e all in
    (all_front Fair front back both, all_back Fair front back both)

rest_fair : (t : Token) (ts more : List Token) → ts ≡ t ∷ more → Fairs ts → Fairs more
rest_fair t ts more e all = let both : Fairs (t ∷ more) = subst Fairs e all in both.1

-- ---- tokens with other parameters

module _ (f : Value → Value) (keeps : KeepsLiterals f) where
  abbrev moved : Token → Token
  moved (Word w) = Word w
  moved (Number z) = Number z
  moved (Quoted t) = Quoted t
  moved (Given v) = Given (f v)

  abbrev all_moved : List Token → List Token
  all_moved = map moved

  plain_stays : (t : Token) → Plain t → moved t ≡ t
  plain_stays (Word w) is = refl
  plain_stays (Number z) is = refl
  plain_stays (Quoted t) is = refl
  plain_stays (Given v) is = absurd is

  given_moves : (params : List Value) (ts given : List Token) → Plains ts → IsGiven params ts given
      → IsGiven (map f params) ts (all_moved given)
  given_moves params [] given plain (none, is) = (ap (map f) none, ap all_moved is)
  given_moves params (t ∷ ts) given plain (inl (question, (v, more, rest, from, are, back))) =
      inl (question, (f v, map f more, all_moved rest, ap (map f) from, ap all_moved are, given_moves more ts rest plain.1 back))
  given_moves params (t ∷ ts) given plain (inr (other, (rest, are, back))) =
      inr (other, (all_moved rest, ap all_moved are ∙ ap (λ (u : Token). u ∷ all_moved rest) (plain_stays t plain.0), given_moves params ts rest plain.1 back))

  -- ---- expressions

  constant_moves : (t : Token) (v : Value) → Fair t → IsConstant t v → IsConstant (moved t) (f v)
  constant_moves (Word w) v fair is = (is.0, ap f is.1 ∙ keeps.null)
  constant_moves (Number z) v (n, e) is = ap f is ∙ ap (λ y. f (Int y)) e ∙ keeps.number n ∙ ap (λ y. Int y) (sym e)
  constant_moves (Quoted t) v fair is = ap f is ∙ keeps.text t
  constant_moves (Given u) v fair is = ap f is

  column_moves : (ts : List Token) (c : ColumnName) → IsColumn ts c → IsColumn (all_moved ts) c
  column_moves ts c (inl (e, none, is)) = inl (ap all_moved e, none, is)
  column_moves ts c (inr (source, e, some, named, is)) = inr (source, ap all_moved e, some, named, is)

  fold_stays : (g : Fold) → moved (fold_word g) ≡ fold_word g
  fold_stays fold.Count = refl
  fold_stays fold.Sum = refl
  fold_stays fold.Min = refl
  fold_stays fold.Max = refl

  writes_moves : (op : Operator) (t : Token) → Writes op t → Writes op (moved t)
  writes_moves Or t is = ap moved is
  writes_moves And t is = ap moved is
  writes_moves Add t is = ap moved is
  writes_moves Subtract t is = ap moved is
  writes_moves Multiply t is = ap moved is
  writes_moves (Compare Eq) t is = ap moved is
  writes_moves (Compare Ne) t (inl is) = inl (ap moved is)
  writes_moves (Compare Ne) t (inr is) = inr (ap moved is)
  writes_moves (Compare Lt) t is = ap moved is
  writes_moves (Compare Le) t is = ap moved is
  writes_moves (Compare Gt) t is = ap moved is
  writes_moves (Compare Ge) t is = ap moved is

  put : (level depth : ℕ) (ts us : List Token) (e g : Expr) → ts ≡ us → e ≡ g → IsExpr level depth us g → IsExpr level depth ts e
  put level depth ts us e g at is h =
      subst (λ (x : List Token). IsExpr level depth x e) (sym at) (subst (λ (x : Expr). IsExpr level depth us x) (sym is) h)

  closed : (xs : List Token) → all_moved (xs ++ word ")" ∷ []) ≡ all_moved xs ++ word ")" ∷ []
  closed xs = map-append moved xs (word ")" ∷ [])

  expr_moves : (level depth : ℕ) (ts : List Token) (e : Expr) → IsExpr level depth ts e → Fairs ts
      → IsExpr level depth (all_moved ts) (filled_expr f e)
  expr_moves level depth ts e (IsExpr.AConstant t v is) fair =
      put 8 1 (moved t ∷ []) (moved t ∷ []) (filled_expr f (expr.Constant v)) (expr.Constant (f v)) refl (fold-Constant (fill_step f) v)
      (IsExpr.AConstant (moved t) (f v) (constant_moves t v fair.0 is))
  expr_moves level depth ts e (IsExpr.AColumn cs c is) fair =
      put 8 1 (all_moved cs) (all_moved cs) (filled_expr f (expr.Column c)) (expr.Column c) refl (fold-Column (fill_step f) c)
      (IsExpr.AColumn (all_moved cs) c (column_moves cs c is))
  expr_moves level depth ts e IsExpr.CountAll fair =
      put 8 1 (word "count" ∷ word "(" ∷ word "*" ∷ word ")" ∷ []) (word "count" ∷ word "(" ∷ word "*" ∷ word ")" ∷ []) (filled_expr f (expr.Aggregate fold.Count None)) (expr.Aggregate fold.Count None) refl (fold-Count (fill_step f) fold.Count)
      IsExpr.CountAll
  expr_moves level depth ts e (IsExpr.AFold g l d xs a is) fair =
      put 8 (d + 1) (all_moved (fold_word g ∷ word "(" ∷ xs ++ word ")" ∷ [])) (fold_word g ∷ word "(" ∷ all_moved xs ++ word ")" ∷ [])
      (filled_expr f (expr.Aggregate g (Some a))) (expr.Aggregate g (Some (filled_expr f a)))
      (ap (λ (t : Token). t ∷ word "(" ∷ all_moved (xs ++ word ")" ∷ [])) (fold_stays g) ∙ ap (λ (us : List Token). fold_word g ∷ word "(" ∷ us) (closed xs))
      (fold-Aggregate (fill_step f) g a)
      (IsExpr.AFold g l d (all_moved xs) (filled_expr f a) (expr_moves l d xs a is (all_front Fair xs (word ")" ∷ []) fair.1.1)))
  expr_moves level depth ts e (IsExpr.InBrackets l d xs a is) fair =
      put 8 (d + 1) (all_moved (word "(" ∷ xs ++ word ")" ∷ [])) (word "(" ∷ all_moved xs ++ word ")" ∷ []) (filled_expr f a) (filled_expr f a)
      (ap (λ (us : List Token). word "(" ∷ us) (closed xs)) refl
      (IsExpr.InBrackets l d (all_moved xs) (filled_expr f a) (expr_moves l d xs a is (all_front Fair xs (word ")" ∷ []) fair.1)))
  expr_moves level depth ts e (IsExpr.AMinus l d xs a le is) fair =
      put 7 (d + 1) (word "-" ∷ all_moved xs) (word "-" ∷ all_moved xs) (filled_expr f (expr.Negate a)) (expr.Negate (filled_expr f a)) refl
      (fold-Negate (fill_step f) a)
      (IsExpr.AMinus l d (all_moved xs) (filled_expr f a) le (expr_moves l d xs a is fair.1))
  expr_moves level depth ts e (IsExpr.ANot l d xs a le is) fair =
      put 3 (d + 1) (word "not" ∷ all_moved xs) (word "not" ∷ all_moved xs) (filled_expr f (expr.Not a)) (expr.Not (filled_expr f a)) refl
      (fold-Not (fill_step f) a)
      (IsExpr.ANot l d (all_moved xs) (filled_expr f a) le (expr_moves l d xs a is fair.1))
  expr_moves level depth ts e (IsExpr.ANull l d xs a le is) fair =
      put 4 (d + 1) (all_moved (xs ++ word "is" ∷ word "null" ∷ [])) (all_moved xs ++ word "is" ∷ word "null" ∷ []) (filled_expr f (expr.IsNull a false)) (expr.IsNull (filled_expr f a) false)
      (map-append moved xs (word "is" ∷ word "null" ∷ [])) (fold-IsNull (fill_step f) a false)
      (IsExpr.ANull l d (all_moved xs) (filled_expr f a) le (expr_moves l d xs a is (all_front Fair xs (word "is" ∷ word "null" ∷ []) fair)))
  expr_moves level depth ts e (IsExpr.ANotNull l d xs a le is) fair =
      put 4 (d + 1) (all_moved (xs ++ word "is" ∷ word "not" ∷ word "null" ∷ [])) (all_moved xs ++ word "is" ∷ word "not" ∷ word "null" ∷ []) (filled_expr f (expr.IsNull a true)) (expr.IsNull (filled_expr f a) true)
      (map-append moved xs (word "is" ∷ word "not" ∷ word "null" ∷ [])) (fold-IsNull (fill_step f) a true)
      (IsExpr.ANotNull l d (all_moved xs) (filled_expr f a) le (expr_moves l d xs a is (all_front Fair xs (word "is" ∷ word "not" ∷ word "null" ∷ []) fair)))
  expr_moves level depth ts e (IsExpr.APair op t l m xs a k n ys b writes left left_is right right_is) fair =
      put (operator_level op) (max m n + 1) (all_moved (xs ++ t ∷ ys)) (all_moved xs ++ moved t ∷ all_moved ys) (filled_expr f (expr.Both op a b)) (expr.Both op (filled_expr f a) (filled_expr f b))
      (map-append moved xs (t ∷ ys)) (fold-Both (fill_step f) op a b)
      (IsExpr.APair op (moved t) l m (all_moved xs) (filled_expr f a) k n (all_moved ys) (filled_expr f b) (writes_moves op t writes)
      left (expr_moves l m xs a left_is (all_front Fair xs (t ∷ ys) fair))
      right (expr_moves k n ys b right_is (pair_back xs t ys fair)))
    where
      pair_back : (xs : List Token) (t : Token) (ys : List Token) → Fairs (xs ++ t ∷ ys) → Fairs ys
      pair_back xs t ys all = let both : Fairs (t ∷ ys) = all_back Fair xs (t ∷ ys) all in both.1

  -- ---- how forms are put together

  abbrev Moves : (List Token → Type 0) → (List Token → Type 0) → Type 0
  Moves Form Other = (ts : List Token) → Fairs ts → Form ts → Other (all_moved ts)

  then_moves : (First Second One Two : List Token → Type 0) → Moves First One → Moves Second Two → Moves (Then First Second) (Then One Two)
  then_moves First Second One Two begins goes ts fair (front, back, e, first, second) =
      let parts = cut_fair ts front back e fair in
      (all_moved front, all_moved back, ap all_moved e ∙ map-append moved front back, begins front parts.0 first, goes back parts.1 second)

  after_moves : (s : String) (Form Other : List Token → Type 0) → Moves Form Other → Moves (After s Form) (After s Other)
  after_moves s Form Other inside ts fair (more, e, form) =
      (all_moved more, ap all_moved e, inside more (rest_fair (word s) ts more e fair) form)

  only_moves : (s : String) → Moves (Only s) (Only s)
  only_moves s ts fair is = ap all_moved is

  flag_moves : (s : String) (b : Bool) → Moves (Flag s b) (Flag s b)
  flag_moves s true ts fair is = ap all_moved is
  flag_moves s false ts fair is = ap all_moved is

  name_moves : (name : List ℕ) → Moves (IsNameToken name) (IsNameToken name)
  name_moves name ts fair (e, is) = (ap all_moved e, is)

  alias_moves : (s : String) (o : Option (List ℕ)) → Moves (Optionally s IsNameToken o) (Optionally s IsNameToken o)
  alias_moves s None ts fair is = ap all_moved is
  alias_moves s (Some name) ts fair form = after_moves s (IsNameToken name) (IsNameToken name) (name_moves name) ts fair form

  expression_moves : (e : Expr) → Moves (IsExpression e) (IsExpression (filled_expr f e))
  expression_moves e ts fair (level, depth, within, is) = (level, depth, within, expr_moves level depth ts e is fair)

  pick_moves : (s : String) (o : Option Expr) → Moves (Optionally s IsExpression o) (Optionally s IsExpression (filled_pick f o))
  pick_moves s None ts fair is = ap all_moved is
  pick_moves s (Some e) ts fair form = after_moves s (IsExpression e) (IsExpression (filled_expr f e)) (expression_moves e) ts fair form

  module _ {A : Type 0} (m : A → A) where
    repeated_moves : (Form : A → List Token → Type 0) → ((x : A) → Moves (Form x) (Form (m x))) → (xs : List A)
        → Moves (IsRepetition Form xs) (IsRepetition Form (map m xs))
    repeated_moves Form each [] ts fair is = ap all_moved is
    repeated_moves Form each (x ∷ xs) ts fair form =
        then_moves (Form x) (IsRepetition Form xs) (Form (m x)) (IsRepetition Form (map m xs)) (each x) (repeated_moves Form each xs) ts fair form

    separated_moves : (s : String) (First Form : A → List Token → Type 0) → ((x : A) → Moves (First x) (First (m x)))
        → ((x : A) → Moves (Form x) (Form (m x))) → (xs : List A)
        → Moves (IsSeparatedBy s First Form xs) (IsSeparatedBy s First Form (map m xs))
    separated_moves s First Form begins each [] ts fair form = absurd form
    separated_moves s First Form begins each (x ∷ xs) ts fair form =
        then_moves (First x) (IsRepetition (λ y. After s (Form y)) xs) (First (m x)) (IsRepetition (λ y. After s (Form y)) (map m xs)) (begins x)
        (repeated_moves (λ y. After s (Form y)) (λ y. after_moves s (Form y) (Form (m y)) (each y)) xs) ts fair form

    listed_moves : (Form : A → List Token → Type 0) → ((x : A) → Moves (Form x) (Form (m x))) → (xs : List A)
        → Moves (IsCommaList Form xs) (IsCommaList Form (map m xs))
    listed_moves Form each xs = separated_moves "," Form Form each each xs

  -- lists without a constant
  repeated_stays : {A : Type 0} (Form : A → List Token → Type 0) → ((x : A) → Moves (Form x) (Form x)) → (xs : List A)
      → Moves (IsRepetition Form xs) (IsRepetition Form xs)
  repeated_stays Form each [] ts fair is = ap all_moved is
  repeated_stays Form each (x ∷ xs) ts fair form =
      then_moves (Form x) (IsRepetition Form xs) (Form x) (IsRepetition Form xs) (each x) (repeated_stays Form each xs) ts fair form

  listed_stays : {A : Type 0} (Form : A → List Token → Type 0) → ((x : A) → Moves (Form x) (Form x)) → (xs : List A)
      → Moves (IsCommaList Form xs) (IsCommaList Form xs)
  listed_stays Form each [] ts fair form = absurd form
  listed_stays Form each (x ∷ xs) ts fair form =
      then_moves (Form x) (IsRepetition (λ y. After "," (Form y)) xs) (Form x) (IsRepetition (λ y. After "," (Form y)) xs) (each x)
      (repeated_stays (λ y. After "," (Form y)) (λ y. after_moves "," (Form y) (Form y) (each y)) xs) ts fair form

  -- ---- cores

  item_moves : (item : Item) → Moves (IsItem item) (IsItem (filled_item f item))
  item_moves item = then_moves (IsExpression item.expr) (Optionally "as" IsNameToken item.name) (IsExpression (filled_expr f item.expr)) (Optionally "as" IsNameToken item.name)
      (expression_moves item.expr) (alias_moves "as" item.name)

  items_moves : (items : Option (List Item)) → Moves (AreItems items) (AreItems (filled_items f items))
  items_moves None ts fair is = ap all_moved is
  items_moves (Some items) ts fair form = listed_moves (filled_item f) IsItem item_moves items ts fair form

  second_moves : (source : FromItem) → Moves (IsSecondName source) (IsSecondName source)
  second_moves source ts fair (inl (none, is)) = inl (ap all_moved none, is)
  second_moves source ts fair (inr (inl form)) = inr (inl (name_moves source.name ts fair form))
  second_moves source ts fair (inr (inr form)) = inr (inr (after_moves "as" (IsNameToken source.name) (IsNameToken source.name) (name_moves source.name) ts fair form))

  source_moves : (source : FromItem) → Moves (IsSource source) (IsSource source)
  source_moves source = then_moves (IsNameToken source.table) (IsSecondName source) (IsNameToken source.table) (IsSecondName source) (name_moves source.table) (second_moves source)

  conditioned_moves : (source : FromItem) (pick : Expr) → Moves (IsConditioned source pick) (IsConditioned source (filled_expr f pick))
  conditioned_moves source pick = then_moves (IsSource source) (After "on" (IsExpression pick)) (IsSource source) (After "on" (IsExpression (filled_expr f pick)))
      (source_moves source) (after_moves "on" (IsExpression pick) (IsExpression (filled_expr f pick)) (expression_moves pick))

  abbrev filled_join : JoinedSource → JoinedSource
  filled_join joined = (joined.0, filled_pick f joined.1)

  joined_by_moves : (source : FromItem) (o : Option Expr) → Moves (IsJoinedBy source o) (IsJoinedBy source (filled_pick f o))
  joined_by_moves source None ts fair form = after_moves "," (IsSource source) (IsSource source) (source_moves source) ts fair form
  joined_by_moves source (Some pick) ts fair (inl form) =
      inl (after_moves "join" (IsConditioned source pick) (IsConditioned source (filled_expr f pick)) (conditioned_moves source pick) ts fair form)
  joined_by_moves source (Some pick) ts fair (inr form) =
      inr (after_moves "inner" (After "join" (IsConditioned source pick)) (After "join" (IsConditioned source (filled_expr f pick)))
      (after_moves "join" (IsConditioned source pick) (IsConditioned source (filled_expr f pick)) (conditioned_moves source pick)) ts fair form)

  joined_moves : (joined : JoinedSource) → Moves (IsJoined joined) (IsJoined (filled_join joined))
  joined_moves joined = joined_by_moves joined.0 joined.1

  sources_same : (more : List JoinedSource) → map source_of more ≡ map source_of (map filled_join more)
  sources_same [] = refl
  sources_same (joined ∷ more) = ap (λ (l : List FromItem). joined.0 ∷ l) (sources_same more)

  pick_listed : (o : Option Expr) → filled_exprs f (option_to_list o) ≡ option_to_list (filled_pick f o)
  pick_listed None = refl
  pick_listed (Some e) = refl

  conditions_filled : (more : List JoinedSource) → filled_exprs f (conditions more) ≡ conditions (map filled_join more)
  conditions_filled [] = refl
  conditions_filled (joined ∷ more) =
      map-append (filled_expr f) (option_to_list joined.1) (conditions more)
      ∙ ap (λ (l : List Expr). l ++ filled_exprs f (conditions more)) (pick_listed joined.1)
      ∙ ap (λ (l : List Expr). option_to_list (filled_pick f joined.1) ++ l) (conditions_filled more)

  sources_moves : (from : List FromItem) (picks : List Expr) → Moves (AreSources from picks) (AreSources from (filled_exprs f picks))
  sources_moves from picks ts fair (first, more, form, sources, are, within) = (
    first,
    map filled_join more,
    then_moves (IsSource first) (IsRepetition IsJoined more) (IsSource first) (IsRepetition IsJoined (map filled_join more)) (source_moves first) (repeated_moves filled_join IsJoined joined_moves more) ts fair form,
    sources ∙ ap (λ (l : List FromItem). first ∷ l) (sources_same more),
    ap (filled_exprs f) are ∙ conditions_filled more,
    within,
  )

  column_at_moves : (column : ColumnName) → Moves (IsColumnAt column) (IsColumnAt column)
  column_at_moves column ts fair is = column_moves ts column is

  group_moves : (group : List ColumnName) → Moves (IsGroup group) (IsGroup group)
  group_moves [] ts fair is = ap all_moved is
  group_moves (column ∷ columns) ts fair form =
      after_moves "group" (After "by" (IsCommaList IsColumnAt (column ∷ columns))) (After "by" (IsCommaList IsColumnAt (column ∷ columns)))
      (after_moves "by" (IsCommaList IsColumnAt (column ∷ columns)) (IsCommaList IsColumnAt (column ∷ columns)) (listed_stays IsColumnAt column_at_moves (column ∷ columns))) ts fair form

  end_moves : (core : Core) (pick : Option Expr) → Moves (IsCoreEnd core pick) (IsCoreEnd (filled_core f core) (filled_pick f pick))
  end_moves core pick = then_moves (Optionally "where" IsExpression pick) (Then (IsGroup core.group) (Optionally "having" IsExpression core.having))
      (Optionally "where" IsExpression (filled_pick f pick)) (Then (IsGroup core.group) (Optionally "having" IsExpression (filled_pick f core.having)))
      (pick_moves "where" pick)
      (then_moves (IsGroup core.group) (Optionally "having" IsExpression core.having) (IsGroup core.group) (Optionally "having" IsExpression (filled_pick f core.having)) (group_moves core.group) (pick_moves "having" core.having))

  rest_moves : (core : Core) → Moves (IsCoreRest core) (IsCoreRest (filled_core f core))
  rest_moves core ts fair (picks, pick, are, form) = (
    filled_exprs f picks,
    filled_pick f pick,
    ap (filled_exprs f) are ∙ map-append (filled_expr f) picks (option_to_list pick) ∙ ap (λ (l : List Expr). filled_exprs f picks ++ l) (pick_listed pick),
    then_moves (AreSources core.from picks) (IsCoreEnd core pick) (AreSources core.from (filled_exprs f picks)) (IsCoreEnd (filled_core f core) (filled_pick f pick))
        (sources_moves core.from picks) (end_moves core pick) ts fair form,
  )

  core_moves : (core : Core) → Moves (IsCore core) (IsCore (filled_core f core))
  core_moves core =
      after_moves "select" (Then (Flag "distinct" core.distinct) (Then (AreItems core.items) (After "from" (IsCoreRest core))))
      (Then (Flag "distinct" core.distinct) (Then (AreItems (filled_items f core.items)) (After "from" (IsCoreRest (filled_core f core)))))
      (then_moves (Flag "distinct" core.distinct) (Then (AreItems core.items) (After "from" (IsCoreRest core)))
      (Flag "distinct" core.distinct) (Then (AreItems (filled_items f core.items)) (After "from" (IsCoreRest (filled_core f core))))
      (flag_moves "distinct" core.distinct)
      (then_moves (AreItems core.items) (After "from" (IsCoreRest core)) (AreItems (filled_items f core.items)) (After "from" (IsCoreRest (filled_core f core)))
      (items_moves core.items) (after_moves "from" (IsCoreRest core) (IsCoreRest (filled_core f core)) (rest_moves core))))

  first_core_moves : (core : Core) → Moves (IsFirstCore core) (IsFirstCore (filled_core f core))
  first_core_moves core ts fair (first, form) = (first, core_moves core ts fair form)

  united_moves : (core : Core) → Moves (IsUnited core) (IsUnited (filled_core f core))
  united_moves core = then_moves (Flag "all" core.joined_all) (IsCore core) (Flag "all" core.joined_all) (IsCore (filled_core f core)) (flag_moves "all" core.joined_all) (core_moves core)

  -- ---- queries

  key_moves : (key : OrderKey) → Moves (IsKey key) (IsKey key)
  key_moves (Name name) ts fair form = name_moves name ts fair form
  key_moves (Place place) ts fair is = ap all_moved is

  direction_moves : (b : Bool) → Moves (IsDirection b) (IsDirection b)
  direction_moves true ts fair is = ap all_moved is
  direction_moves false ts fair (inl is) = inl (ap all_moved is)
  direction_moves false ts fair (inr is) = inr (ap all_moved is)

  order_moves : (order : Order) → Moves (IsOrder order) (IsOrder order)
  order_moves order = then_moves (IsKey order.key) (IsDirection order.descending) (IsKey order.key) (IsDirection order.descending) (key_moves order.key) (direction_moves order.descending)

  orders_moves : (orders : List Order) → Moves (AreOrders orders) (AreOrders orders)
  orders_moves [] ts fair is = ap all_moved is
  orders_moves (order ∷ orders) ts fair form =
      after_moves "order" (After "by" (IsCommaList IsOrder (order ∷ orders))) (After "by" (IsCommaList IsOrder (order ∷ orders)))
      (after_moves "by" (IsCommaList IsOrder (order ∷ orders)) (IsCommaList IsOrder (order ∷ orders)) (listed_stays IsOrder order_moves (order ∷ orders))) ts fair form

  bound_moves : (v : Value) → Moves (IsBound v) (IsBound (f v))
  bound_moves v ts fair (inl (z, e, is)) =
      let all : Fairs (Number z ∷ []) = subst Fairs e fair in
      inl (z, ap all_moved e, constant_moves (Number z) v all.0 is)
  bound_moves v ts fair (inr e) = inr (ap all_moved e)

  limit_moves : (o : Option Value) → Moves (Optionally "limit" IsBound o) (Optionally "limit" IsBound (filled_limit f o))
  limit_moves None ts fair is = ap all_moved is
  limit_moves (Some v) ts fair form = after_moves "limit" (IsBound v) (IsBound (f v)) (bound_moves v) ts fair form

  query_moves : (query : Query) → Moves (IsQuery query) (IsQuery (filled_query f query))
  query_moves query =
      then_moves (AreCores query.cores) (Then (AreOrders query.order) (Optionally "limit" IsBound query.limit))
      (AreCores (map (filled_core f) query.cores)) (Then (AreOrders query.order) (Optionally "limit" IsBound (filled_limit f query.limit)))
      (separated_moves (filled_core f) "union" IsFirstCore IsUnited first_core_moves united_moves query.cores)
      (then_moves (AreOrders query.order) (Optionally "limit" IsBound query.limit) (AreOrders query.order) (Optionally "limit" IsBound (filled_limit f query.limit)) (orders_moves query.order) (limit_moves query.limit))

  -- ---- changes

  columns_moves : (columns : Option (List (List ℕ))) → Moves (AreColumns columns) (AreColumns columns)
  columns_moves None ts fair is = ap all_moved is
  columns_moves (Some names) ts fair form =
      after_moves "(" (Then (IsCommaList IsNameToken names) (Only ")")) (Then (IsCommaList IsNameToken names) (Only ")"))
      (then_moves (IsCommaList IsNameToken names) (Only ")") (IsCommaList IsNameToken names) (Only ")") (listed_stays IsNameToken name_moves names) (only_moves ")")) ts fair form

  tuple_moves : (tuple : List Expr) → Moves (IsTuple tuple) (IsTuple (filled_exprs f tuple))
  tuple_moves tuple =
      after_moves "(" (Then (IsCommaList IsExpression tuple) (Only ")")) (Then (IsCommaList IsExpression (filled_exprs f tuple)) (Only ")"))
      (then_moves (IsCommaList IsExpression tuple) (Only ")") (IsCommaList IsExpression (filled_exprs f tuple)) (Only ")") (listed_moves (filled_expr f) IsExpression expression_moves tuple) (only_moves ")"))

  insert_moves : (insert : Insert) → Moves (IsInsert insert) (IsInsert (filled_insert f insert))
  insert_moves insert =
      let Rows : List Token → Type 0 = After "values" (IsCommaList IsTuple insert.rows) in
      let Filled : List Token → Type 0 = After "values" (IsCommaList IsTuple (map (filled_exprs f) insert.rows)) in
      after_moves "insert" (After "into" (Then (IsNameToken insert.table) (Then (AreColumns insert.columns) Rows)))
      (After "into" (Then (IsNameToken insert.table) (Then (AreColumns insert.columns) Filled)))
      (after_moves "into" (Then (IsNameToken insert.table) (Then (AreColumns insert.columns) Rows)) (Then (IsNameToken insert.table) (Then (AreColumns insert.columns) Filled))
      (then_moves (IsNameToken insert.table) (Then (AreColumns insert.columns) Rows) (IsNameToken insert.table) (Then (AreColumns insert.columns) Filled) (name_moves insert.table)
      (then_moves (AreColumns insert.columns) Rows (AreColumns insert.columns) Filled (columns_moves insert.columns)
      (after_moves "values" (IsCommaList IsTuple insert.rows) (IsCommaList IsTuple (map (filled_exprs f) insert.rows)) (listed_moves (filled_exprs f) IsTuple tuple_moves insert.rows)))))

  set_moves : (set : Set) → Moves (IsSet set) (IsSet (filled_set f set))
  set_moves set = then_moves (IsNameToken set.column) (After "=" (IsExpression set.expr)) (IsNameToken set.column) (After "=" (IsExpression (filled_expr f set.expr)))
      (name_moves set.column) (after_moves "=" (IsExpression set.expr) (IsExpression (filled_expr f set.expr)) (expression_moves set.expr))

  update_moves : (update : Update) → Moves (IsUpdate update) (IsUpdate (filled_update f update))
  update_moves update =
      let Last : List Token → Type 0 = Then (IsCommaList IsSet update.sets) (Optionally "where" IsExpression update.pick) in
      let Filled : List Token → Type 0 = Then (IsCommaList IsSet (map (filled_set f) update.sets)) (Optionally "where" IsExpression (filled_pick f update.pick)) in
      after_moves "update" (Then (IsNameToken update.table) (After "set" Last)) (Then (IsNameToken update.table) (After "set" Filled))
      (then_moves (IsNameToken update.table) (After "set" Last) (IsNameToken update.table) (After "set" Filled) (name_moves update.table)
      (after_moves "set" Last Filled
      (then_moves (IsCommaList IsSet update.sets) (Optionally "where" IsExpression update.pick) (IsCommaList IsSet (map (filled_set f) update.sets)) (Optionally "where" IsExpression (filled_pick f update.pick))
      (listed_moves (filled_set f) IsSet set_moves update.sets) (pick_moves "where" update.pick))))

  delete_moves : (delete : Delete) → Moves (IsDelete delete) (IsDelete (filled_delete f delete))
  delete_moves delete =
      let Last : List Token → Type 0 = Optionally "where" IsExpression delete.pick in
      let Filled : List Token → Type 0 = Optionally "where" IsExpression (filled_pick f delete.pick) in
      after_moves "delete" (After "from" (Then (IsNameToken delete.table) Last)) (After "from" (Then (IsNameToken delete.table) Filled))
      (after_moves "from" (Then (IsNameToken delete.table) Last) (Then (IsNameToken delete.table) Filled)
      (then_moves (IsNameToken delete.table) Last (IsNameToken delete.table) Filled (name_moves delete.table) (pick_moves "where" delete.pick)))

  -- ---- statements

  statement_moves : (s : Statement) → Moves (IsStatement s) (IsStatement (filled_statement f s))
  statement_moves (TheQuery query) ts fair form = query_moves query ts fair form
  statement_moves (TheInsert insert) ts fair form = insert_moves insert ts fair form
  statement_moves (TheUpdate update) ts fair form = update_moves update ts fair form
  statement_moves (TheDelete delete) ts fair form = delete_moves delete ts fair form

  close_moves : Moves IsEnd IsEnd
  close_moves ts fair (inl is) = inl (ap all_moved is)
  close_moves ts fair (inr is) = inr (ap all_moved is)

  whole_moves : (s : Statement) → Moves (IsWhole s) (IsWhole (filled_statement f s))
  whole_moves s = then_moves (IsStatement s) IsEnd (IsStatement (filled_statement f s)) IsEnd (statement_moves s) close_moves

  pub reads_moves : (text : List ℕ) (params : List Value) (s : Statement) → Reads text params s → Reads text (map f params) (filled_statement f s)
  reads_moves text params s (ts, given, spells, gives, whole) =
      let plain : Plains ts = tokens_plain ts text spells in
      (ts, all_moved given, spells, given_moves params ts given plain gives, whole_moves s given (given_fair params ts given plain gives) whole)

-- the statement of a text with other parameters is that of the first ones, with these put in
pub filled_is : (f : Value → Value) → KeepsLiterals f → (text : List ℕ) (params : List Value) (s : Statement) → IsUtf8 text
    → statement_of text params ≡ Some s → statement_of text (map f params) ≡ Some (filled_statement f s)
filled_is f keeps text params s utf8 is =
    reading_complete text (map f params) (filled_statement f s) utf8 (reads_moves f keeps text params s (reading_sound text params s is))
