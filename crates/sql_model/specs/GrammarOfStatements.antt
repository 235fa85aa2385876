-- The statements of SQL, as relations between trees and tokens, form by form. It says nothing about how
-- tokens are read.
use Rattle.std.specs.Prelude.{◌≡◌, ◌≢◌, ◌⊎◌, ℕ, ◌≤◌, ℤ, pos, List, [], ◌∷◌, ◌++◌, length, map, Bool, true}
use Rattle.std.specs.Prelude.{false, Option, Some, None, option_to_list}
use Rattle.ldv_value.specs.Limits.{max_depth, max_sources}
use Prim.Native.String.{String}
use Rattle.ldv_value.specs.declared.value.Value.{Value}
use Rattle.ldv_value.specs.declared.value.Value.TheVariants as value
use Rattle.sql_model.specs.declared.expr.ColumnName.{ColumnName}
use Rattle.sql_model.specs.declared.expr.Expr.{Expr}
use Rattle.sql_model.specs.declared.statement.Core.{Core}
use Rattle.sql_model.specs.declared.statement.Delete.{Delete}
use Rattle.sql_model.specs.declared.statement.FromItem.{FromItem}
use Rattle.sql_model.specs.declared.statement.Insert.{Insert}
use Rattle.sql_model.specs.declared.statement.Item.{Item}
use Rattle.sql_model.specs.declared.statement.Order.{Order}
use Rattle.sql_model.specs.declared.statement.OrderKey.{OrderKey}
use Rattle.sql_model.specs.declared.statement.OrderKey.TheVariants.{Name, Place}
use Rattle.sql_model.specs.declared.statement.Query.{Query}
use Rattle.sql_model.specs.declared.statement.Set.{Set}
use Rattle.sql_model.specs.declared.statement.Statement.{Statement}
use Rattle.sql_model.specs.declared.statement.Statement.TheVariants as statement
use Rattle.sql_model.specs.declared.statement.Update.{Update}
use Rattle.sql_model.specs.declared.token.Token.{Token}
use Rattle.sql_model.specs.declared.token.Token.TheVariants.{Word, Number, Given}
use Rattle.sql_model.specs.Grammar.{word, IsName, IsColumn, IsExpr}
use Rattle.sql_model.specs.GrammarOfTokens.{Spells}

-- HOW FORMS ARE PUT TOGETHER

-- a form, and then another one
abbrev pub Then : (List Token → Type 0) → (List Token → Type 0) → List Token → Type 0
Then First Second ts = (front : List Token) × (back : List Token) × (ts ≡ front ++ back) × First front
    × Second back

-- a word or symbol, and then a form
abbrev pub After : String → (List Token → Type 0) → List Token → Type 0
After s Form ts = (more : List Token) × (ts ≡ word s ∷ more) × Form more

-- a word or symbol alone
abbrev pub Only : String → List Token → Type 0
Only s ts = ts ≡ word s ∷ []

-- a word that stands there or doesn't
abbrev pub Flag : String → Bool → List Token → Type 0
Flag s true ts = Only s ts
Flag s false ts = ts ≡ []

-- a word with a form after it, or nothing
abbrev pub Optionally : {A : Type 0} → String → (A → List Token → Type 0) → Option A → List Token → Type 0
Optionally s Form (Some x) ts = After s (Form x) ts
Optionally s Form None ts = ts ≡ []

-- one form after another
abbrev pub IsRepetition : {A : Type 0} → (A → List Token → Type 0) → List A → List Token → Type 0
IsRepetition Form [] ts = ts ≡ []
IsRepetition Form (x ∷ xs) ts = Then (Form x) (IsRepetition Form xs) ts

-- a form, and any number of further ones, each after a word or symbol
abbrev pub IsSeparatedBy : {A : Type 0} → String
    → (A → List Token → Type 0) → (A → List Token → Type 0) → List A
    → List Token → Type 0
IsSeparatedBy s First Form [] ts = ⊥
IsSeparatedBy s First Form (x ∷ xs) ts = Then (First x) (IsRepetition (λ y. After s (Form y)) xs) ts

-- one form at least, and commas between
abbrev pub IsCommaList : {A : Type 0} → (A → List Token → Type 0) → List A → List Token → Type 0
IsCommaList Form xs ts = IsSeparatedBy "," Form Form xs ts

-- NAMES AND EXPRESSIONS

abbrev pub IsNameToken : List ℕ → List Token → Type 0
IsNameToken name ts = (ts ≡ Word name ∷ []) × IsName name

-- an expression has a depth of at most 64
abbrev pub IsExpression : Expr → List Token → Type 0
IsExpression e ts = (level : ℕ) × (depth : ℕ) × (depth ≤ max_depth) × IsExpr level depth ts e

-- CORES

abbrev pub IsItem : Item → List Token → Type 0
IsItem item ts = Then (IsExpression item.expr) (Optionally "as" IsNameToken item.name) ts

-- `*`, or items
abbrev pub AreItems : Option (List Item) → List Token → Type 0
AreItems None ts = Only "*" ts
AreItems (Some items) ts = IsCommaList IsItem items ts

-- the second name of a source, with AS or without; without one the source has its table's name
abbrev pub IsSecondName : FromItem → List Token → Type 0
IsSecondName source ts = ((ts ≡ []) × (source.name ≡ source.table)) ⊎ IsNameToken source.name ts
    ⊎ After "as" (IsNameToken source.name) ts

abbrev pub IsSource : FromItem → List Token → Type 0
IsSource source ts = Then (IsNameToken source.table) (IsSecondName source) ts

-- a further source, and its condition where it is joined by JOIN
abbrev pub JoinedSource : Type 0
JoinedSource = FromItem × Option Expr

abbrev pub IsConditioned : FromItem → Expr → List Token → Type 0
IsConditioned source pick ts = Then (IsSource source) (After "on" (IsExpression pick)) ts

abbrev pub IsJoinedBy : FromItem → Option Expr → List Token → Type 0
IsJoinedBy source None ts = After "," (IsSource source) ts
IsJoinedBy source (Some pick) ts = After "join" (IsConditioned source pick) ts
    ⊎ After "inner" (After "join" (IsConditioned source pick)) ts

abbrev pub IsJoined : JoinedSource → List Token → Type 0
IsJoined joined ts = IsJoinedBy joined.0 joined.1 ts

abbrev pub source_of : JoinedSource → FromItem
source_of joined = joined.0

-- the conditions after ON, in the order of the text
abbrev pub conditions : List JoinedSource → List Expr
conditions [] = []
conditions (joined ∷ more) = option_to_list joined.1 ++ conditions more

-- a core has at most max_sources sources
abbrev pub AreSources : List FromItem → List Expr → List Token → Type 0
AreSources from picks ts = (first : FromItem) × (more : List JoinedSource)
    × Then (IsSource first) (IsRepetition IsJoined more) ts
    × (from ≡ first ∷ map source_of more) × (picks ≡ conditions more) × (length from ≤ max_sources)

-- GROUP BY and columns, or nothing
abbrev pub IsColumnAt : ColumnName → List Token → Type 0
IsColumnAt column ts = IsColumn ts column

abbrev pub IsGroup : List ColumnName → List Token → Type 0
IsGroup [] ts = ts ≡ []
IsGroup (column ∷ columns) ts = After "group" (After "by" (IsCommaList IsColumnAt (column ∷ columns))) ts

-- What stands after the sources. The conditions of a core are those after ON and the one after WHERE.
abbrev pub IsCoreEnd : Core → Option Expr → List Token → Type 0
IsCoreEnd core pick ts =
    Then (Optionally "where" IsExpression pick) (Then (IsGroup core.group) (Optionally "having" IsExpression
    core.having)) ts

abbrev pub IsCoreRest : Core → List Token → Type 0
IsCoreRest core ts = (picks : List Expr) × (pick : Option Expr) × (core.picks ≡ picks ++ option_to_list pick)
    × Then (AreSources core.from picks) (IsCoreEnd core pick) ts

abbrev pub IsCore : Core → List Token → Type 0
IsCore core ts =
    After "select" (Then (Flag "distinct" core.distinct) (Then (AreItems core.items) (After "from"
    (IsCoreRest core)))) ts

-- QUERIES

-- the first core, and a further one after UNION
abbrev pub IsFirstCore : Core → List Token → Type 0
IsFirstCore core ts = (core.joined_all ≡ false) × IsCore core ts

abbrev pub IsUnited : Core → List Token → Type 0
IsUnited core ts = Then (Flag "all" core.joined_all) (IsCore core) ts

abbrev pub AreCores : List Core → List Token → Type 0
AreCores cores ts = IsSeparatedBy "union" IsFirstCore IsUnited cores ts

-- a name, or the number of a column of the answer
abbrev pub IsKey : OrderKey → List Token → Type 0
IsKey (Name name) ts = IsNameToken name ts
IsKey (Place place) ts = ts ≡ Number (pos place) ∷ []

abbrev pub IsDirection : Bool → List Token → Type 0
IsDirection true ts = Only "desc" ts
IsDirection false ts = (ts ≡ []) ⊎ Only "asc" ts

abbrev pub IsOrder : Order → List Token → Type 0
IsOrder order ts = Then (IsKey order.key) (IsDirection order.descending) ts

-- ORDER BY, or nothing
abbrev pub AreOrders : List Order → List Token → Type 0
AreOrders [] ts = ts ≡ []
AreOrders (order ∷ orders) ts = After "order" (After "by" (IsCommaList IsOrder (order ∷ orders))) ts

-- a number, or the value of a parameter
abbrev pub IsBound : Value → List Token → Type 0
IsBound v ts = ((z : ℤ) × (ts ≡ Number z ∷ []) × (v ≡ value.Int z)) ⊎ (ts ≡ Given v ∷ [])

abbrev pub IsQuery : Query → List Token → Type 0
IsQuery query ts =
    Then (AreCores query.cores) (Then (AreOrders query.order) (Optionally "limit" IsBound query.limit)) ts

-- CHANGES

-- the columns of an INSERT in parentheses, or nothing
abbrev pub AreColumns : Option (List (List ℕ)) → List Token → Type 0
AreColumns None ts = ts ≡ []
AreColumns (Some names) ts = After "(" (Then (IsCommaList IsNameToken names) (Only ")")) ts

abbrev pub IsTuple : List Expr → List Token → Type 0
IsTuple tuple ts = After "(" (Then (IsCommaList IsExpression tuple) (Only ")")) ts

abbrev pub IsInsert : Insert → List Token → Type 0
IsInsert insert ts =
    After "insert" (After "into"
    (Then (IsNameToken insert.table) (Then (AreColumns insert.columns) (After "values"
    (IsCommaList IsTuple insert.rows))))) ts

abbrev pub IsSet : Set → List Token → Type 0
IsSet set ts = Then (IsNameToken set.column) (After "=" (IsExpression set.expr)) ts

abbrev pub IsUpdate : Update → List Token → Type 0
IsUpdate update ts =
    After "update" (Then (IsNameToken update.table) (After "set" (Then (IsCommaList IsSet update.sets)
    (Optionally "where" IsExpression update.pick)))) ts

abbrev pub IsDelete : Delete → List Token → Type 0
IsDelete delete ts =
    After "delete" (After "from"
    (Then (IsNameToken delete.table) (Optionally "where" IsExpression delete.pick))) ts

-- STATEMENTS

abbrev pub IsStatement : Statement → List Token → Type 0
IsStatement (statement.Query query) ts = IsQuery query ts
IsStatement (statement.Insert insert) ts = IsInsert insert ts
IsStatement (statement.Update update) ts = IsUpdate update ts
IsStatement (statement.Delete delete) ts = IsDelete delete ts

-- a `;` may stand after a statement
abbrev pub IsEnd : List Token → Type 0
IsEnd ts = (ts ≡ []) ⊎ Only ";" ts

abbrev pub IsWhole : Statement → List Token → Type 0
IsWhole s ts = Then (IsStatement s) IsEnd ts

-- PARAMETERS

-- Tokens are these ones with the values of the parameters in the places of the `?`: the first parameter in
-- that of the first one, and so on, as many of both.
abbrev pub IsGiven : List Value → List Token → List Token → Type 0
IsGiven params [] given = (params ≡ []) × (given ≡ [])
IsGiven params (t ∷ ts) given =
    ((t ≡ word "?") × ((v : Value) × (more : List Value) × (rest : List Token) × (params ≡ v ∷ more)
    × (given ≡ Given v ∷ rest) × IsGiven more ts rest))
    ⊎ ((t ≢ word "?") × ((rest : List Token) × (given ≡ t ∷ rest) × IsGiven params ts rest))

-- TEXTS

-- A text with its parameters reads as a statement.
abbrev pub Reads : List ℕ → List Value → Statement → Type 0
Reads text params s = (ts : List Token) × (given : List Token) × Spells text ts × IsGiven params ts given
    × IsWhole s given
