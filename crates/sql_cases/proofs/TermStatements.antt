-- Statements over terms, and the statements that they represent.
use Rattle.std.specs.Prelude.{ℕ, List, map, Bool, Option, option_map}
use Rattle.sql_cases.proofs.Types.{Value, ColumnName, Core, Delete, FromItem, Insert, Item, Order, Query, Set, Statement, Update}
use Rattle.sql_model.specs.declared.statement.Statement.TheVariants as statement
use Rattle.sql_cases.proofs.Terms.{Term, expr_of}

pub record TermItem : Type 0 where
  pub term : Term
  pub name : Option (List ℕ)

pub record TermCore : Type 0 where
  pub joined_all : Bool
  pub distinct : Bool
  pub items : Option (List TermItem)
  pub from : List FromItem
  pub picks : List Term
  pub group : List ColumnName
  pub having : Option Term

pub record TermQuery : Type 0 where
  pub cores : List TermCore
  pub order : List Order
  pub limit : Option Value

pub record TermInsert : Type 0 where
  pub table : List ℕ
  pub columns : Option (List (List ℕ))
  pub rows : List (List Term)

pub record TermSet : Type 0 where
  pub column : List ℕ
  pub term : Term

pub record TermUpdate : Type 0 where
  pub table : List ℕ
  pub sets : List TermSet
  pub pick : Option Term

pub record TermDelete : Type 0 where
  pub table : List ℕ
  pub pick : Option Term

pub data TermStatement : Type 0 where
  TheQuery : TermQuery → TermStatement
  TheInsert : TermInsert → TermStatement
  TheUpdate : TermUpdate → TermStatement
  TheDelete : TermDelete → TermStatement

-- ---- what they stand for

abbrev pub item_of : TermItem → Item
item_of item = record { expr = expr_of item.term; name = item.name }

abbrev pub core_of : TermCore → Core
core_of core = record {
  joined_all = core.joined_all;
  distinct = core.distinct;
  items = option_map (map item_of) core.items;
  from = core.from;
  picks = map expr_of core.picks;
  group = core.group;
  having = option_map expr_of core.having;
}

abbrev pub query_of : TermQuery → Query
query_of query = record { cores = map core_of query.cores; order = query.order; limit = query.limit }

abbrev pub insert_of : TermInsert → Insert
insert_of insert = record {
  table = insert.table;
  columns = insert.columns;
  rows = map (map expr_of) insert.rows;
}

abbrev pub set_of : TermSet → Set
set_of set = record { column = set.column; expr = expr_of set.term }

abbrev pub update_of : TermUpdate → Update
update_of update = record {
  table = update.table;
  sets = map set_of update.sets;
  pick = option_map expr_of update.pick;
}

abbrev pub delete_of : TermDelete → Delete
delete_of delete = record { table = delete.table; pick = option_map expr_of delete.pick }

abbrev pub statement_of : TermStatement → Statement
statement_of (TheQuery query) = statement.Query (query_of query)
statement_of (TheInsert insert) = statement.Insert (insert_of insert)
statement_of (TheUpdate update) = statement.Update (update_of update)
statement_of (TheDelete delete) = statement.Delete (delete_of delete)
