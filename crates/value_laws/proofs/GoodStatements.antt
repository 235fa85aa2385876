-- A statement by the grammar is good if its tokens are.
use Rattle.std.proofs.Common.{◌≡◌, ℕ, ◌+◌, ◌<◌, ◌≤◌, ◌^◌, List, [], ◌∷◌, ◌++◌, length, refl, sym, ap, subst, ◌∙◌, Some, None, inl, inr, arith, true, false}
use Rattle.std.specs.Prelude.{Option, Bool, option_to_list, IsUtf8}
use Rattle.std.specs.List.{AllByRecursion}
use Prim.Native.String.{String}
use Rattle.ldv_value.specs.Limits.{text_limit, max_sources}
use Rattle.ldv_value.proofs.Lists.{length-append}
use Rattle.sql_laws.specs.Types.{Value, Expr, Fold, Operator, Core, FromItem, Item, Query, Set, Insert, Update, Delete, Statement, TheQuery, TheInsert, TheUpdate, TheDelete}
use Rattle.ldv_value.proofs.ItemLists.{all_append, all_front, all_back}
use Rattle.sql_model.proofs.Folds.{fold-Constant, fold-Column, fold-Negate, fold-Not, fold-Both, fold-IsNull, fold-Count, fold-Aggregate}
use Rattle.sql_model.specs.declared.expr.Expr.TheVariants as expr
use Rattle.sql_model.specs.declared.expr.ColumnName.{ColumnName}
use Rattle.sql_model.specs.declared.expr.Fold.TheVariants as fold
use Rattle.sql_model.specs.declared.token.Token.{Token}
use Rattle.sql_model.specs.declared.token.Token.TheVariants.{Word, Number, Quoted, Given}
use Rattle.sql_model.specs.Grammar.{word, fold_word, IsConstant, IsExpr}
use Rattle.sql_model.specs.GrammarOfStatements.{Then, After, Optionally, IsRepetition, IsSeparatedBy, IsCommaList, IsExpression, IsItem, AreItems, JoinedSource, IsConditioned, IsJoinedBy, IsJoined, conditions, AreSources, IsCoreEnd, IsCoreRest, IsCore, IsFirstCore, IsUnited, IsBound, IsQuery, IsTuple, IsInsert, IsSet, IsUpdate, IsDelete, IsStatement, Reads}
use Rattle.sql_model.specs.Texts.{statement_of}
use Rattle.sql_parse.proofs.StatementsLaw.{reading_sound}
use Rattle.value_laws.specs.Values.{GoodValue, GoodValues, constants_step, constants, GoodExpr, GoodExprs, GoodPick, GoodItem, GoodItems, GoodCore, GoodLimit, GoodQuery, GoodSet, GoodUpdate, GoodStatement}
use Rattle.value_laws.proofs.GoodTokens.{GoodToken, GoodTokens, tokens_good, tokens_few, given_good, given_few}

-- ---- expressions

made_good : (e : Expr) (values : List Value) → constants e ≡ values → GoodValues values → GoodExpr e
made_good e values is good = subst GoodValues (sym is) good

constant_good : (t : Token) (v : Value) → IsConstant t v → GoodToken t → GoodValue v
constant_good (Word w) v is good = subst GoodValue (sym is.1) (tt, refl)
constant_good (Number z) v is good = subst GoodValue (sym is) good
constant_good (Quoted t) v is good = subst GoodValue (sym is) good
constant_good (Given u) v is good = subst GoodValue (sym is) good

abbrev Fair : List Token → Expr → Type 0
Fair ts e = GoodTokens ts → GoodExpr e

fair_constant : (t : Token) (v : Value) → IsConstant t v → Fair (t ∷ []) (expr.Constant v)
fair_constant t v is good = made_good (expr.Constant v) (v ∷ []) (fold-Constant constants_step v) (constant_good t v is good.0, tt)

fair_column : (ts : List Token) (c : ColumnName) → Fair ts (expr.Column c)
fair_column ts c good = made_good (expr.Column c) [] (fold-Column constants_step c) tt

fair_count : (ts : List Token) → Fair ts (expr.Aggregate fold.Count None)
fair_count ts good = made_good (expr.Aggregate fold.Count None) [] (fold-Count constants_step fold.Count) tt

fair_fold : (f : Fold) (ts : List Token) (e : Expr) → Fair ts e → Fair (fold_word f ∷ word "(" ∷ ts ++ word ")" ∷ []) (expr.Aggregate f (Some e))
fair_fold f ts e inside good =
    made_good (expr.Aggregate f (Some e)) (constants e) (fold-Aggregate constants_step f e) (inside (all_front GoodToken ts (word ")" ∷ []) good.1.1))

fair_brackets : (ts : List Token) (e : Expr) → Fair ts e → Fair (word "(" ∷ ts ++ word ")" ∷ []) e
fair_brackets ts e inside good = inside (all_front GoodToken ts (word ")" ∷ []) good.1)

fair_minus : (t : Token) (ts : List Token) (e : Expr) → Fair ts e → Fair (t ∷ ts) (expr.Negate e)
fair_minus t ts e inside good = made_good (expr.Negate e) (constants e) (fold-Negate constants_step e) (inside good.1)

fair_not : (t : Token) (ts : List Token) (e : Expr) → Fair ts e → Fair (t ∷ ts) (expr.Not e)
fair_not t ts e inside good = made_good (expr.Not e) (constants e) (fold-Not constants_step e) (inside good.1)

fair_null : (ts more : List Token) (e : Expr) (negative : Bool) → Fair ts e → Fair (ts ++ more) (expr.IsNull e negative)
fair_null ts more e negative inside good =
    made_good (expr.IsNull e negative) (constants e) (fold-IsNull constants_step e negative) (inside (all_front GoodToken ts more good))

fair_pair : (op : Operator) (t : Token) (xs : List Token) (a : Expr) (ys : List Token) (b : Expr) → Fair xs a → Fair ys b → Fair (xs ++ t ∷ ys) (expr.Both op a b)
fair_pair op t xs a ys b left right good =
    let back : GoodTokens (t ∷ ys) = all_back GoodToken xs (t ∷ ys) good in
    made_good (expr.Both op a b) (constants a ++ constants b) (fold-Both constants_step op a b)
    (all_append GoodValue (constants a) (constants b) (left (all_front GoodToken xs (t ∷ ys) good)) (right back.1))

fair : (level depth : ℕ) (ts : List Token) (e : Expr) → IsExpr level depth ts e → Fair ts e
fair level depth ts e (IsExpr.AConstant t v is) = fair_constant t v is
fair level depth ts e (IsExpr.AColumn cs c is) = fair_column cs c
fair level depth ts e IsExpr.CountAll = fair_count (word "count" ∷ word "(" ∷ word "*" ∷ word ")" ∷ [])
fair level depth ts e (IsExpr.AFold f l d xs a is) = fair_fold f xs a (fair l d xs a is)
fair level depth ts e (IsExpr.InBrackets l d xs a is) = fair_brackets xs a (fair l d xs a is)
fair level depth ts e (IsExpr.AMinus l d xs a le is) = fair_minus (word "-") xs a (fair l d xs a is)
fair level depth ts e (IsExpr.ANot l d xs a le is) = fair_not (word "not") xs a (fair l d xs a is)
fair level depth ts e (IsExpr.ANull l d xs a le is) = fair_null xs (word "is" ∷ word "null" ∷ []) a false (fair l d xs a is)
fair level depth ts e (IsExpr.ANotNull l d xs a le is) = fair_null xs (word "is" ∷ word "not" ∷ word "null" ∷ []) a true (fair l d xs a is)
fair level depth ts e (IsExpr.APair op t l m xs a k n ys b writes left left_is right right_is) =
    fair_pair op t xs a ys b (fair l m xs a left_is) (fair k n ys b right_is)

-- ---- forms over good tokens that are few

abbrev Few : List Token → Type 0
Few ts = GoodTokens ts × (length ts ≤ text_limit)

-- tokens of such a form give this
abbrev Gives : (List Token → Type 0) → Type 0 → Type 0
Gives Form P = (ts : List Token) → Few ts → Form ts → P

cut_few : (ts front back : List Token) → ts ≡ front ++ back → Few ts → Few front × Few back
cut_few ts front back e (good, few) =
    let all : GoodTokens (front ++ back) = subst GoodTokens e good in
    let sum : length ts ≡ length front + length back = ap length e ∙ length-append front back in
    ((all_front GoodToken front back all, omega (arith, sum, few)), (all_back GoodToken front back all, omega (arith, sum, few)))

rest_few : (t : Token) (ts more : List Token) → ts ≡ t ∷ more → Few ts → Few more
rest_few t ts more e (good, few) =
    let all : GoodTokens (t ∷ more) = subst GoodTokens e good in
    (all.1, omega (arith, ap length e, few))

after_gives : (s : String) (Form : List Token → Type 0) (P : Type 0) → Gives Form P → Gives (After s Form) P
after_gives s Form P inside ts few (more, e, form) = inside more (rest_few (word s) ts more e few) form

second_gives : (First Second : List Token → Type 0) (P : Type 0) → Gives Second P → Gives (Then First Second) P
second_gives First Second P inside ts few (front, back, e, first, second) = inside back (cut_few ts front back e few).1 second

first_gives : (First Second : List Token → Type 0) (P : Type 0) → Gives First P → Gives (Then First Second) P
first_gives First Second P inside ts few (front, back, e, first, second) = inside front (cut_few ts front back e few).0 first

module _ {A : Type 0} (P : A → Type 0) where
  repeated_gives : (Form : A → List Token → Type 0) → ((x : A) → Gives (Form x) (P x)) → (xs : List A)
      → Gives (IsRepetition Form xs) (AllByRecursion P xs)
  repeated_gives Form each [] ts few form = tt
  repeated_gives Form each (x ∷ xs) ts few (front, back, e, first, more) =
      let parts = cut_few ts front back e few in
      (each x front parts.0 first, repeated_gives Form each xs back parts.1 more)

  separated_gives : (s : String) (First Form : A → List Token → Type 0) → ((x : A) → Gives (First x) (P x))
      → ((x : A) → Gives (Form x) (P x)) → (xs : List A) → Gives (IsSeparatedBy s First Form xs) (AllByRecursion P xs)
  separated_gives s First Form begins each [] ts few form = absurd form
  separated_gives s First Form begins each (x ∷ xs) ts few (front, back, e, first, more) =
      let parts = cut_few ts front back e few in
      (begins x front parts.0 first, repeated_gives (λ y. After s (Form y)) (λ y. after_gives s (Form y) (P y) (each y)) xs back parts.1 more)

  listed_gives : (Form : A → List Token → Type 0) → ((x : A) → Gives (Form x) (P x)) → (xs : List A)
      → Gives (IsCommaList Form xs) (AllByRecursion P xs)
  listed_gives Form each xs = separated_gives "," Form Form each each xs

-- there is a comma before each but the first
repeated_count : {A : Type 0} (s : String) (Form : A → List Token → Type 0) (xs : List A) (ts : List Token)
    → IsRepetition (λ y. After s (Form y)) xs ts → length xs ≤ length ts
repeated_count s Form [] ts form = omega arith
repeated_count s Form (x ∷ xs) ts (front, back, e, (inside, is, first), more) =
    omega (arith, repeated_count s Form xs back more, ap length e, length-append front back, ap length is)

listed_count : {A : Type 0} (Form : A → List Token → Type 0) (xs : List A) (ts : List Token) → IsCommaList Form xs ts
    → length xs ≤ length ts + 1
listed_count Form [] ts form = absurd form
listed_count Form (x ∷ xs) ts (front, back, e, first, more) =
    omega (arith, repeated_count "," Form xs back more, ap length e, length-append front back)

-- ---- expressions in them

expression_gives : (e : Expr) → Gives (IsExpression e) (GoodExpr e)
expression_gives e ts few (level, depth, within, is) = fair level depth ts e is few.0

pick_gives : (s : String) (o : Option Expr) → Gives (Optionally s IsExpression o) (GoodPick o)
pick_gives s None ts few form = tt
pick_gives s (Some e) ts few form = after_gives s (IsExpression e) (GoodExpr e) (expression_gives e) ts few form

item_gives : (item : Item) → Gives (IsItem item) (GoodItem item)
item_gives item ts few (front, back, e, is, name) = expression_gives item.expr front (cut_few ts front back e few).0 is

-- ---- cores

items_gives : (items : Option (List Item)) (ts : List Token) → Few ts → length ts + 2 ≤ text_limit → AreItems items ts → GoodItems items
items_gives None ts few short form = tt
items_gives (Some items) ts few short form =
    let count : length items ≤ length ts + 1 = listed_count IsItem items ts form in
    let fits : length items < 2 ^ 16 = omega (arith, count, short) in
    (fits, listed_gives GoodItem IsItem item_gives items ts few form)

conditioned_gives : (source : FromItem) (pick : Expr) → Gives (IsConditioned source pick) (GoodExpr pick)
conditioned_gives source pick ts few (front, back, e, is, on) =
    after_gives "on" (IsExpression pick) (GoodExpr pick) (expression_gives pick) back (cut_few ts front back e few).1 on

joined_by_gives : (source : FromItem) (o : Option Expr) → Gives (IsJoinedBy source o) (GoodPick o)
joined_by_gives source None ts few form = tt
joined_by_gives source (Some pick) ts few (inl form) =
    after_gives "join" (IsConditioned source pick) (GoodExpr pick) (conditioned_gives source pick) ts few form
joined_by_gives source (Some pick) ts few (inr form) =
    after_gives "inner" (After "join" (IsConditioned source pick)) (GoodExpr pick)
    (after_gives "join" (IsConditioned source pick) (GoodExpr pick) (conditioned_gives source pick)) ts few form

abbrev GoodJoined : JoinedSource → Type 0
GoodJoined joined = GoodPick joined.1

joined_gives : (joined : JoinedSource) → Gives (IsJoined joined) (GoodJoined joined)
joined_gives joined ts few form = joined_by_gives joined.0 joined.1 ts few form

option_good : (o : Option Expr) → GoodPick o → GoodExprs (option_to_list o)
option_good None good = tt
option_good (Some e) good = (good, tt)

conditions_good : (more : List JoinedSource) → AllByRecursion GoodJoined more → GoodExprs (conditions more)
conditions_good [] good = tt
conditions_good (joined ∷ more) good =
    all_append GoodExpr (option_to_list joined.1) (conditions more) (option_good joined.1 good.0) (conditions_good more good.1)

-- the conditions of the sources, and how many sources there are
sources_gives : (from : List FromItem) (picks : List Expr) → Gives (AreSources from picks) (GoodExprs picks × (length from ≤ max_sources))
sources_gives from picks ts few (first, more, (front, back, e, begins, repeated), sources, are, within) =
    let all : AllByRecursion GoodJoined more = repeated_gives GoodJoined IsJoined joined_gives more back (cut_few ts front back e few).1 repeated in
    (subst GoodExprs (sym are) (conditions_good more all), within)

end_gives : (core : Core) (pick : Option Expr) → Gives (IsCoreEnd core pick) (GoodPick pick × GoodPick core.having)
end_gives core pick ts few (front, back, e, is, (group, last, e2, are, having)) =
    let parts = cut_few ts front back e few in
    (pick_gives "where" pick front parts.0 is, pick_gives "having" core.having last (cut_few back group last e2 parts.1).1 having)

-- what stands after FROM
abbrev GoodEnd : Core → Type 0
GoodEnd core = GoodExprs core.picks × (length core.from ≤ max_sources) × GoodPick core.having

core_rest_gives : (core : Core) → Gives (IsCoreRest core) (GoodEnd core)
core_rest_gives core ts few (picks, pick, are, (front, back, e, sources, end)) =
    let parts = cut_few ts front back e few in
    let from = sources_gives core.from picks front parts.0 sources in
    let last = end_gives core pick back parts.1 end in
    (subst GoodExprs (sym are) (all_append GoodExpr picks (option_to_list pick) from.0 (option_good pick last.0)), from.1, last.1)

core_gives : (core : Core) → Gives (IsCore core) (GoodCore core)
core_gives core ts few (more, e, (flag, rest, e2, distinct, (front, back, e3, items, (last, e4, form)))) =
    let inside : Few more = rest_few (word "select") ts more e few in
    let behind : Few rest = (cut_few more flag rest e2 inside).1 in
    let parts = cut_few rest front back e3 behind in
    let end = core_rest_gives core last (rest_few (word "from") back last e4 parts.1) form in
    let short : length front + 2 ≤ text_limit =
    omega (arith, ap length e, ap length e2, length-append flag rest, ap length e3, length-append front back, ap length e4, few.1) in
    record {
      items = items_gives core.items front parts.0 short items;
      sources = end.1;
      picks = end.0;
      having = end.2;
    }

first_core_gives : (core : Core) → Gives (IsFirstCore core) (GoodCore core)
first_core_gives core ts few form = core_gives core ts few form.1

united_gives : (core : Core) → Gives (IsUnited core) (GoodCore core)
united_gives core ts few (front, back, e, flag, form) = core_gives core back (cut_few ts front back e few).1 form

-- ---- queries

bound_gives : (v : Value) → Gives (IsBound v) (GoodValue v)
bound_gives v ts few (inl (z, e, is)) =
    let all : GoodTokens (Number z ∷ []) = subst GoodTokens e few.0 in
    subst GoodValue (sym is) all.0
bound_gives v ts few (inr e) =
    let all : GoodTokens (Given v ∷ []) = subst GoodTokens e few.0 in
    all.0

limit_gives : (o : Option Value) → Gives (Optionally "limit" IsBound o) (GoodLimit o)
limit_gives None ts few form = tt
limit_gives (Some v) ts few form = after_gives "limit" (IsBound v) (GoodValue v) (bound_gives v) ts few form

query_gives : (query : Query) → Gives (IsQuery query) (GoodQuery query)
query_gives query ts few (front, back, e, cores, (orders, last, e2, order, limit)) =
    let parts = cut_few ts front back e few in
    record {
      cores = separated_gives GoodCore "union" IsFirstCore IsUnited first_core_gives united_gives query.cores front parts.0 cores;
      limit = limit_gives query.limit last (cut_few back orders last e2 parts.1).1 limit;
    }

-- ---- changes

tuple_gives : (tuple : List Expr) → Gives (IsTuple tuple) (GoodExprs tuple)
tuple_gives tuple ts few (more, e, (front, back, e2, list, closed)) =
    listed_gives GoodExpr IsExpression expression_gives tuple front (cut_few more front back e2 (rest_few (word "(") ts more e few)).0 list

insert_gives : (insert : Insert) → Gives (IsInsert insert) (AllByRecursion GoodExprs insert.rows)
insert_gives insert ts few (m1, e1, (m2, e2, (f3, b3, e3, named, (f4, b4, e4, columns, (m5, e5, list))))) =
    let t1 : Few m1 = rest_few (word "insert") ts m1 e1 few in
    let t2 : Few m2 = rest_few (word "into") m1 m2 e2 t1 in
    let t3 : Few b3 = (cut_few m2 f3 b3 e3 t2).1 in
    let t4 : Few b4 = (cut_few b3 f4 b4 e4 t3).1 in
    let t5 : Few m5 = rest_few (word "values") b4 m5 e5 t4 in
    listed_gives GoodExprs IsTuple tuple_gives insert.rows m5 t5 list

set_gives : (set : Set) → Gives (IsSet set) (GoodSet set)
set_gives set ts few (front, back, e, named, is) =
    after_gives "=" (IsExpression set.expr) (GoodExpr set.expr) (expression_gives set.expr) back (cut_few ts front back e few).1 is

update_gives : (update : Update) → Gives (IsUpdate update) (GoodUpdate update)
update_gives update ts few (m1, e1, (f2, b2, e2, named, (m3, e3, (f4, b4, e4, list, pick)))) =
    let t1 : Few m1 = rest_few (word "update") ts m1 e1 few in
    let t2 : Few b2 = (cut_few m1 f2 b2 e2 t1).1 in
    let t3 : Few m3 = rest_few (word "set") b2 m3 e3 t2 in
    let parts = cut_few m3 f4 b4 e4 t3 in
    record {
      sets = listed_gives GoodSet IsSet set_gives update.sets f4 parts.0 list;
      pick = pick_gives "where" update.pick b4 parts.1 pick;
    }

delete_gives : (delete : Delete) → Gives (IsDelete delete) (GoodPick delete.pick)
delete_gives delete ts few (m1, e1, (m2, e2, (f3, b3, e3, named, pick))) =
    let t1 : Few m1 = rest_few (word "delete") ts m1 e1 few in
    let t2 : Few m2 = rest_few (word "from") m1 m2 e2 t1 in
    pick_gives "where" delete.pick b3 (cut_few m2 f3 b3 e3 t2).1 pick

-- ---- statements

statement_gives : (s : Statement) → Gives (IsStatement s) (GoodStatement s)
statement_gives (TheQuery query) ts few form = query_gives query ts few form
statement_gives (TheInsert insert) ts few form = insert_gives insert ts few form
statement_gives (TheUpdate update) ts few form = update_gives update ts few form
statement_gives (TheDelete delete) ts few form = delete_gives delete ts few form

read_good : (text : List ℕ) (params : List Value) (s : Statement) → Reads text params s → IsUtf8 text → length text ≤ text_limit → GoodValues params
    → GoodStatement s
read_good text params s (ts, given, spells, placed, (front, back, e, form, end)) utf8 short values =
    let good : GoodTokens ts = tokens_good ts text utf8 spells in
    let few : length ts ≤ length text = tokens_few ts text spells in
    let less : length given ≤ length ts = given_few params ts given placed in
    let fits : length given ≤ text_limit = omega (arith, few, less, short) in
    statement_gives s front (cut_few given front back e (given_good params ts given values good placed, fits)).0 form

-- a text that isn't too long is a good statement with good parameters
pub statement_good : (text : List ℕ) (params : List Value) (s : Statement) → statement_of text params ≡ Some s → IsUtf8 text → length text ≤ text_limit
    → GoodValues params → GoodStatement s
statement_good text params s is utf8 short values = read_good text params s (reading_sound text params s is) utf8 short values
