-- Good values: NULL, a number of 64 bits, or a text of UTF-8 that isn't too long. Good statements, tables,
-- replies and entries have good values only.
use Rattle.std.specs.Prelude.{◌<◌, ◌≤◌, ◌^◌, List, [], ◌∷◌, ◌++◌, length, Option, Some, None, IsTrue}
use Rattle.std.specs.List.{AllByRecursion}
use Rattle.std.specs.Str.{IsUtf8}
use Rattle.ldv_value.specs.Limits.{max_columns, max_sources}
use Rattle.sql_model.specs.declared.expr.Expr.TheOpen as open_expr
use Rattle.sql_model.specs.declared.expr.Expr.TheFolds.{fold-Expr}
use Rattle.sql_model.specs.Tables.{is_short}
use Rattle.sql_laws.specs.Types.{Value, Expr, Expr-F, Core, Item, Query, Set, Update, Statement, TheQuery}
use Rattle.sql_laws.specs.Types.{TheInsert, TheUpdate, TheDelete, Foreign, Reply, Table, TableRow}
use Rattle.run_model.specs.declared.package.Entry.{Entry}
use Rattle.run_model.specs.TypedPackage.{TypedValue, TypedReply, TypedEntry}
use Rattle.run_model.specs.ValidPackage.{reply_rule, entry_rule}
use Rattle.package_codec.specs.Room.{reply_room, entry_room}

-- ---- values

abbrev pub GoodValue : Value → Type 0
GoodValue v = TypedValue v × IsTrue (is_short v)

abbrev pub GoodValues : List Value → Type 0
GoodValues = AllByRecursion GoodValue

-- ---- expressions

abbrev pub constants_step : Expr-F (List Value) → List Value
constants_step (open_expr.Constant v) = v ∷ []
constants_step (open_expr.Column c) = []
constants_step (open_expr.Negate values) = values
constants_step (open_expr.Not values) = values
constants_step (open_expr.Both op left right) = left ++ right
constants_step (open_expr.IsNull values negative) = values
constants_step (open_expr.Aggregate f None) = []
constants_step (open_expr.Aggregate f (Some values)) = values

-- the constants of an expression, left to right
abbrev pub constants : Expr → List Value
constants = fold-Expr (List Value) constants_step

abbrev pub GoodExpr : Expr → Type 0
GoodExpr e = GoodValues (constants e)

abbrev pub GoodExprs : List Expr → Type 0
GoodExprs = AllByRecursion GoodExpr

-- a condition that may be missing
abbrev pub GoodPick : Option Expr → Type 0
GoodPick None = Unit {0}
GoodPick (Some e) = GoodExpr e

-- ---- statements

abbrev pub GoodItem : Item → Type 0
GoodItem item = GoodExpr item.expr

-- as many as a row of a reply may have values; `*` is none
abbrev pub GoodItems : Option (List Item) → Type 0
GoodItems None = Unit {0}
GoodItems (Some items) = (length items < 2 ^ 16) × AllByRecursion GoodItem items

pub record GoodCore (core : Core) : Type 0 where
  pub items : GoodItems core.items
  pub sources : length core.from ≤ max_sources
  pub picks : GoodExprs core.picks
  pub having : GoodPick core.having

abbrev pub GoodLimit : Option Value → Type 0
GoodLimit None = Unit {0}
GoodLimit (Some v) = GoodValue v

pub record GoodQuery (query : Query) : Type 0 where
  pub cores : AllByRecursion GoodCore query.cores
  pub limit : GoodLimit query.limit

abbrev pub GoodSet : Set → Type 0
GoodSet set = GoodExpr set.expr

pub record GoodUpdate (update : Update) : Type 0 where
  pub sets : AllByRecursion GoodSet update.sets
  pub pick : GoodPick update.pick

-- each constant in it is good, and a core has neither too many items nor too many sources
abbrev pub GoodStatement : Statement → Type 0
GoodStatement (TheQuery query) = GoodQuery query
GoodStatement (TheInsert insert) = AllByRecursion GoodExprs insert.rows
GoodStatement (TheUpdate update) = GoodUpdate update
GoodStatement (TheDelete delete) = GoodPick delete.pick

-- ---- tables

abbrev pub GoodRow : TableRow → Type 0
GoodRow row = GoodValues row.values

abbrev pub GoodForeign : Foreign → Type 0
GoodForeign foreign = IsUtf8 foreign.parent × (length foreign.columns ≤ max_columns)

-- That each row has a value for each column, and `next` its bound, is what `is_database` says.
pub record GoodTable (table : Table) : Type 0 where
  pub name : IsUtf8 table.name
  pub columns : length table.schema.columns ≤ max_columns
  pub key : length table.schema.key ≤ max_columns
  pub foreign : AllByRecursion GoodForeign table.schema.foreign
  pub rows : AllByRecursion GoodRow table.rows

abbrev pub GoodTables : List Table → Type 0
GoodTables = AllByRecursion GoodTable

-- ---- replies and entries: what the types, the rules and the fields of packages ask of them

pub record GoodReply (reply : Reply) : Type 0 where
  pub typed : TypedReply reply
  pub ruled : IsTrue (reply_rule reply)
  pub room : IsTrue (reply_room reply)

pub record GoodEntry (entry : Entry) : Type 0 where
  pub typed : TypedEntry entry
  pub ruled : IsTrue (entry_rule entry)
  pub room : IsTrue (entry_room entry)
