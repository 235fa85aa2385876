-- The world that the generator makes: ten customers, a number of their orders, and a script that reports the
-- orders of each customer.
use Rattle.std.specs.Prelude.{ℕ, ◌*◌, ◌%◌, pos, List, [], ◌∷◌, ◌++◌, map, codes, Bool, true, false}
use Rattle.std.specs.Fmt.{decimal}
use Rattle.std.specs.List.{flat_map, range_with_len}
use Rattle.ldv_value.specs.declared.file.File.{File}
use Rattle.ldv_value.specs.declared.value.Value.{Value}
use Rattle.ldv_value.specs.declared.value.Value.TheVariants.{Int, Text}
use Rattle.sql_model.specs.declared.table.Column.{Column}
use Rattle.sql_model.specs.declared.table.Schema.{Schema}
use Rattle.sql_model.specs.declared.table.Table.{Table}
use Rattle.sql_model.specs.declared.table.TableRow.{TableRow}
use Rattle.run_model.specs.declared.world.World.{World}
use Rattle.run_model.specs.OutcomeText.{line}

-- ---- the script

-- the sums of what each customer has ordered
abbrev pub sums_line : List ℕ
sums_line =
    codes "sql q \"SELECT c.name, SUM(o.amount) FROM orders o JOIN customers c ON o.customer = c.id "
    ++ codes "WHERE o.amount < 50 GROUP BY c.name\""

abbrev pub script_lines : List (List ℕ)
script_lines =
    sums_line
    ∷ codes "open f w \"report.txt\" else done"
    ∷ codes "next:"
    ∷ codes "fetch q n s else done"
    ∷ codes "write f n \" \" s"
    ∷ codes "goto next"
    ∷ codes "done:"
    ∷ codes "sql d \"DELETE FROM orders WHERE amount >= 90\""
    ∷ codes "sql c \"SELECT COUNT(*) FROM orders WHERE amount < 50\""
    ∷ codes "fetch c k else end"
    ∷ codes "print k"
    ∷ codes "end:"
    ∷ []

abbrev pub script_file : File
script_file = record { path = codes "main"; content = flat_map line script_lines }

-- ---- the tables: no column may be NULL, and the first is the key

abbrev pub needed_column : List ℕ → Bool → Column
needed_column name text = record { name = name; text = text; not_null = true }

abbrev pub keyed_by_first : List Column → Schema
keyed_by_first columns = record { columns = columns; key = 0 ∷ []; foreign = [] }

abbrev pub keyed_table : List ℕ → List Column → List TableRow → ℕ → Table
keyed_table name columns rows next =
    record { name = name; schema = keyed_by_first columns; rows = rows; next = next }

abbrev pub numbered_row : ℕ → List Value → TableRow
numbered_row number values = record { number = number; values = values }

abbrev pub customer_values : ℕ → List Value
customer_values i = Int (pos i) ∷ Text (codes "c" ++ decimal i) ∷ []

abbrev pub customer_row : ℕ → TableRow
customer_row i = numbered_row i (customer_values i)

abbrev pub customer_columns : List Column
customer_columns = needed_column (codes "id") false ∷ needed_column (codes "name") true ∷ []

abbrev pub customers : Table
customers = keyed_table (codes "customers") customer_columns (map customer_row (range_with_len 0 10)) 10

-- each customer orders in turn
abbrev pub order_values : ℕ → List Value
order_values i = Int (pos i) ∷ Int (pos (i % 10)) ∷ Int (pos (7 * i % 100)) ∷ []

abbrev pub order_row : ℕ → TableRow
order_row i = numbered_row i (order_values i)

abbrev pub order_columns : List Column
order_columns =
    needed_column (codes "id") false ∷ needed_column (codes "customer") false
    ∷ needed_column (codes "amount") false ∷ []

abbrev pub orders : ℕ → Table
orders n = keyed_table (codes "orders") order_columns (map order_row (range_with_len 0 n)) n

-- ---- the world

-- with a number of orders
abbrev pub generated_world : ℕ → World
generated_world n = record {
  start = codes "main" ∷ [];
  seed = 0;
  files = script_file ∷ [];
  tables = customers ∷ orders n ∷ [];
}
