-- A statement with other values in the places of its constants.
use Rattle.std.specs.Prelude.{ℕ, List, [], ◌∷◌, map, Option, Some, None, option_map, ◌≡◌, ℤ, pos}
use Rattle.sql_template.specs.Types.{Value, Null, Int, Text, Expr, Expr-F, Core, Item, Query, Set, Insert}
use Rattle.sql_template.specs.Types.{Update, Delete, Statement, TheQuery, TheInsert, TheUpdate, TheDelete}
use Rattle.sql_model.specs.declared.expr.Expr.TheVariants.{Constant, Column, Negate, Not, Both, IsNull, Aggregate}
use Rattle.sql_model.specs.declared.expr.Expr.TheOpen as open_expr
use Rattle.sql_model.specs.declared.expr.Expr.TheFolds.{fold-Expr}

abbrev pub fill_step : (Value → Value) → Expr-F Expr → Expr
fill_step f (open_expr.Constant v) = Constant (f v)
fill_step f (open_expr.Column c) = Column c
fill_step f (open_expr.Negate e) = Negate e
fill_step f (open_expr.Not e) = Not e
fill_step f (open_expr.Both op a b) = Both op a b
fill_step f (open_expr.IsNull e negative) = IsNull e negative
fill_step f (open_expr.Aggregate g None) = Aggregate g None
fill_step f (open_expr.Aggregate g (Some e)) = Aggregate g (Some e)

abbrev pub filled_expr : (Value → Value) → Expr → Expr
filled_expr f = fold-Expr Expr (fill_step f)

abbrev pub filled_exprs : (Value → Value) → List Expr → List Expr
filled_exprs f = map (filled_expr f)

abbrev pub filled_item : (Value → Value) → Item → Item
filled_item f item = record { expr = filled_expr f item.expr; name = item.name }

abbrev pub filled_items : (Value → Value) → Option (List Item) → Option (List Item)
filled_items f None = None
filled_items f (Some items) = Some (map (filled_item f) items)

abbrev pub filled_pick : (Value → Value) → Option Expr → Option Expr
filled_pick f None = None
filled_pick f (Some e) = Some (filled_expr f e)

abbrev pub filled_limit : (Value → Value) → Option Value → Option Value
filled_limit f None = None
filled_limit f (Some v) = Some (f v)

abbrev pub filled_core : (Value → Value) → Core → Core
filled_core f core = record {
  joined_all = core.joined_all;
  distinct = core.distinct;
  items = filled_items f core.items;
  from = core.from;
  picks = filled_exprs f core.picks;
  group = core.group;
  having = filled_pick f core.having;
}

abbrev pub filled_query : (Value → Value) → Query → Query
filled_query f query = record {
  cores = map (filled_core f) query.cores;
  order = query.order;
  limit = filled_limit f query.limit;
}

abbrev pub filled_set : (Value → Value) → Set → Set
filled_set f set = record { column = set.column; expr = filled_expr f set.expr }

abbrev pub filled_insert : (Value → Value) → Insert → Insert
filled_insert f insert =
    record { table = insert.table; columns = insert.columns; rows = map (filled_exprs f) insert.rows }

abbrev pub filled_update : (Value → Value) → Update → Update
filled_update f update =
    record { table = update.table; sets = map (filled_set f) update.sets; pick = filled_pick f update.pick }

abbrev pub filled_delete : (Value → Value) → Delete → Delete
filled_delete f delete = record { table = delete.table; pick = filled_pick f delete.pick }

abbrev pub filled_statement : (Value → Value) → Statement → Statement
filled_statement f (TheQuery query) = TheQuery (filled_query f query)
filled_statement f (TheInsert insert) = TheInsert (filled_insert f insert)
filled_statement f (TheUpdate update) = TheUpdate (filled_update f update)
filled_statement f (TheDelete delete) = TheDelete (filled_delete f delete)

-- a value that a text can write stays
pub record KeepsLiterals (f : Value → Value) : Type 0 where
  pub null : f Null ≡ Null
  pub number : (n : ℕ) → f (Int (pos n)) ≡ Int (pos n)
  pub text : (t : List ℕ) → f (Text t) ≡ Text t
