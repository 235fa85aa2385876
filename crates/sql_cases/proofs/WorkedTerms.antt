-- Statements over the table t, written by terms, and the equations about them.
use Rattle.std.specs.Prelude.{◌≡◌, ℕ, ◌+◌, List, [], ◌∷◌, map, false, true, Option, Some, None, pos, codes}
use Rattle.sql_cases.proofs.Types.{Cmp, Value, Int, Text, ColumnName, Compare, Member, Rule, Reply, Rows, Refused, SqlRefusal, FromItem, Order, Table}
use Rattle.sql_model.specs.Needs.{NeededRow, need_of, needed_row, Versions, made_by}
use Rattle.sql_model.specs.Statements.{reply_of, after}
use Rattle.sql_cases.proofs.TermStatements.{TermItem, TermCore, TermQuery, TermSet, TermStatement, TheQuery, TheInsert, statement_of}
use Rattle.sql_cases.proofs.Terms.{Term, Constant, Column, Both}
use Rattle.sql_model.proofs.WorkedTables.{table_t, source}

-- ---- terms

abbrev pub unnamed_column : List ℕ → ColumnName
unnamed_column name = record { table = None; name = name }

abbrev pub column : List ℕ → Term
column name = Column (unnamed_column name)

-- the columns of t
abbrev pub k : Term
k = column (codes "k")

abbrev pub g_name : ColumnName
g_name = unnamed_column (codes "g")

abbrev pub g : Term
g = Column g_name

abbrev pub v : Term
v = column (codes "v")

abbrev pub column_of : List ℕ → List ℕ → Term
column_of table name = Column (record { table = Some table; name = name })

abbrev pub number : ℕ → Term
number n = Constant (Int (pos n))

abbrev pub text : List ℕ → Term
text bytes = Constant (Text bytes)

abbrev pub compared : Cmp → Term → Term → Term
compared op a b = Both (Compare op) a b

-- ---- queries

abbrev item : Term → TermItem
item term = record { term = term; name = None }

-- FROM t
abbrev pub t : List FromItem
t = source (codes "t") (codes "t") ∷ []

-- FROM t x, t y, or a JOIN of them
abbrev pub t_twice : List FromItem
t_twice = source (codes "t") (codes "x") ∷ source (codes "t") (codes "y") ∷ []

-- SELECT items FROM from [WHERE]
abbrev pub selected : List Term → List FromItem → List Term → TermCore
selected items from picks =
    record {
      joined_all = false;
      distinct = false;
      items = Some (map item items);
      from = from;
      picks =
          picks;
      group = [];
      having = None;
    }

abbrev pub distinct : TermCore → TermCore
distinct core = record core { distinct = true }

-- UNION ALL before it
abbrev pub joined_all : TermCore → TermCore
joined_all core = record core { joined_all = true }

-- GROUP BY .. [HAVING ..]
abbrev pub grouped : TermCore → List ColumnName → Option Term → TermCore
grouped core group having = record core { group = group; having = having }

abbrev pub ordered : TermCore → List Order → Option Value → TermQuery
ordered core order limit = record { cores = core ∷ []; order = order; limit = limit }

abbrev pub query : TermCore → TermQuery
query core = ordered core [] None

-- ---- changes

-- INSERT INTO t [(columns)] VALUES row, ..
abbrev pub insert : Option (List (List ℕ)) → List (List Term) → TermStatement
insert columns rows = TheInsert (record { table = codes "t"; columns = columns; rows = rows })

abbrev pub set : List ℕ → Term → TermSet
set column term = record { column = column; term = term }

-- ---- what is said of a statement

-- the row of the table t with this number, needed by this rule
abbrev pub needed : Rule → ℕ → NeededRow
needed rule row = needed_row rule (codes "t") row

-- over these tables the query answers these rows and needs those
abbrev pub Answers : TermQuery → List Table → List (List Value) → List NeededRow → Type 0
Answers q db rows needs = (reply_of (Some (statement_of (TheQuery q))) db ≡ Rows rows)
    × (need_of (Some (statement_of (TheQuery q))) db ≡ needs)

-- over the table t the query is refused, and needs no row
abbrev pub Refuses : TermQuery → SqlRefusal → Type 0
Refuses q refusal = (reply_of (Some (statement_of (TheQuery q))) (table_t 5 ∷ []) ≡ Refused refusal)
    × (need_of (Some (statement_of (TheQuery q))) (table_t 5 ∷ []) ≡ [])

-- the rows of t that were changed: a new one, and the next version of one
abbrev pub new : ℕ → Member
new row = record { table = codes "t"; row = row; version = 0 }

abbrev pub next : Versions → ℕ → Member
next versions row = record { table = codes "t"; row = row; version = versions (codes "t") row + 1 }

abbrev pub nothing : Versions → List Member
nothing versions = []

-- over this table the statement has this reply, needs these rows, leaves that table and makes those versions
abbrev pub Leaves : TermStatement → Table → Reply → List NeededRow → Table
    → (Versions → List Member) → Type 0
Leaves s table reply needs left made =
    (reply_of (Some (statement_of s)) (table ∷ []) ≡ reply)
    × (need_of (Some (statement_of s)) (table ∷ []) ≡ needs)
    × (after (Some (statement_of s)) (table ∷ []) ≡ left ∷ [])
    × ((versions : Versions) → made_by versions (Some (statement_of s)) (table ∷ []) ≡ made versions)
