-- Tables and statements on which the definitions are tried.
use Rattle.std.specs.Prelude.{ℕ, List, [], ◌∷◌, Bool, true, false, Option, Some, None, pos, codes}
use Rattle.sql_model.specs.Types.{Cmp, Value, Null, Int, Text, ColumnName, Expr, Compare, Core, FromItem, Item, Statement, TheQuery, Column as TableColumn, Table, TableRow}
use Rattle.sql_model.specs.declared.expr.Expr.TheVariants.{Constant, Column, Both}

-- ---- the table t: k INT NOT NULL, g TEXT, v INT, key k

abbrev pub table_column : List ℕ → Bool → Bool → TableColumn
table_column name text not_null = record { name = name; text = text; not_null = not_null }

abbrev pub table_row : ℕ → Value → Value → Value → TableRow
table_row number k g v = record { number = number; values = k ∷ g ∷ v ∷ [] }

abbrev pub rows_of_t : List TableRow
rows_of_t =
    table_row 0 (Int (pos 1)) (Text (codes "a")) (Int (pos 10))
    ∷ table_row 1 (Int (pos 2)) (Text (codes "a")) (Int (pos 20))
    ∷ table_row 2 (Int (pos 3)) (Text (codes "b")) (Int (pos 5))
    ∷ table_row 3 (Int (pos 4)) (Text (codes "b")) Null
    ∷ table_row 4 (Int (pos 5)) (Text (codes "c")) (Int (pos 10))
    ∷ []

abbrev pub columns_of_t : List TableColumn
columns_of_t = table_column (codes "k") false true ∷ table_column (codes "g") true false ∷ table_column (codes "v") false false ∷ []

abbrev pub table_t : ℕ → Table
table_t next = record { name = codes "t"; schema = record { columns = columns_of_t; key = 0 ∷ []; foreign = [] }; rows = rows_of_t; next = next }

-- ---- parts of statements

abbrev pub column : List ℕ → Expr
column name = Column (record { table = None; name = name })

abbrev pub column_of : List ℕ → List ℕ → Expr
column_of table name = Column (record { table = Some table; name = name })

abbrev pub number : ℕ → Expr
number n = Constant (Int (pos n))

abbrev pub compared : Cmp → Expr → Expr → Expr
compared op a b = Both (Compare op) a b

abbrev pub unnamed : Expr → Item
unnamed expr = record { expr = expr; name = None }

abbrev pub source : List ℕ → List ℕ → FromItem
source table name = record { table = table; name = name }

abbrev pub core_of : List Item → List FromItem → List Expr → List ColumnName → Option Expr → Core
core_of items from picks group having = record { joined_all = false; distinct = false; items = Some items; from = from; picks = picks; group = group; having = having }

-- SELECT items FROM from [WHERE]
abbrev pub selected : List Item → List FromItem → List Expr → Core
selected items from picks = core_of items from picks [] None

abbrev pub query_of : List Core → Statement
query_of cores = TheQuery (record { cores = cores; order = []; limit = None })
