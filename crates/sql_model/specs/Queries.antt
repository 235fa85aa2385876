-- The query at the front of tokens.
use Rattle.std.specs.Prelude.{ℕ, ℤ, pos, negsuc, List, [], ◌∷◌, ◌++◌, length, Bool, true, false}
use Rattle.std.specs.Prelude.{if◌then◌else◌, Option, Some, None, option_to_list, codes}
use Rattle.ldv_value.specs.Limits.{max_sources}
use Rattle.ldv_value.specs.declared.value.Value.{Value}
use Rattle.ldv_value.specs.declared.value.Value.TheVariants as value
use Rattle.sql_model.specs.declared.expr.ColumnName.{ColumnName}
use Rattle.sql_model.specs.declared.statement.Core.{Core}
use Rattle.sql_model.specs.declared.statement.FromItem.{FromItem}
use Rattle.sql_model.specs.declared.statement.Item.{Item}
use Rattle.sql_model.specs.declared.statement.Order.{Order}
use Rattle.sql_model.specs.declared.statement.OrderKey.{OrderKey}
use Rattle.sql_model.specs.declared.statement.OrderKey.TheVariants.{Name, Place}
use Rattle.sql_model.specs.declared.statement.Query.{Query}
use Rattle.sql_model.specs.SqlNames.{sql_name_test}
use Rattle.sql_model.specs.declared.reading.Sources.{Sources}
use Rattle.sql_model.specs.declared.token.Token.{Token}
use Rattle.sql_model.specs.declared.token.Token.TheVariants.{Word, Number, Quoted, Given}
use Rattle.sql_model.specs.Columns.{reads_column}
use Rattle.sql_model.specs.declared.expr.Expr.{Expr}
use Rattle.sql_model.specs.Expressions.{reads_expr}
use Rattle.ldv_value.specs.Options.{◌>>=◌}
use Rattle.sql_model.specs.Parts.{list_of_parts, reads_optional}
use Rattle.sql_model.specs.Reader.{starts, tail, tokens_past, after_word, reads_token, name_in, reads_name, repeat}

-- ITEMS

abbrev pub reads_alias : List Token → Option (Option (List ℕ) × List Token)
reads_alias ts = if starts (codes "as") ts then (reads_name (tail ts) >>= λ r. Some (Some r.0, r.1))
    else Some (None, ts)

abbrev pub reads_item : List Token → Option (Item × List Token)
reads_item ts = reads_expr ts >>= λ e. reads_alias e.1 >>= λ n. Some (record { expr = e.0; name = n.0 }, n.1)

-- `*`, or items
abbrev pub reads_items : List Token → Option (Option (List Item) × List Token)
reads_items ts = if starts (codes "*") ts then Some (None, tail ts)
    else (list_of_parts reads_item ts >>= λ r. Some (Some r.0, r.1))

-- SOURCES

abbrev pub is_name : Token → Bool
is_name (Word w) = sql_name_test w
is_name (Number z) = false
is_name (Quoted t) = false
is_name (Given v) = false

abbrev pub names : List Token → Bool
names [] = false
names (t ∷ ts) = is_name t

-- the second name of a source, or its table's
abbrev pub second_name : List ℕ → List Token → Option (List ℕ × List Token)
second_name table ts =
    if starts (codes "as") ts then reads_name (tail ts)
    else if names ts then reads_name ts
    else Some (table, ts)

abbrev pub reads_source : List Token → Option (FromItem × List Token)
reads_source ts = reads_name ts >>= λ t. second_name t.0 t.1
    >>= λ n. Some (record { table = t.0; name = n.0 }, n.1)

-- one more source, after a comma
abbrev pub plain_source : Sources → List Token → Option ((Sources × Bool) × List Token)
plain_source made ts =
    reads_source ts >>= λ s. Some ((record { from = made.from ++ s.0 ∷ []; picks = made.picks }, true), s.1)

-- one more source with its condition, after JOIN
abbrev pub joined_source : Sources → List Token → Option ((Sources × Bool) × List Token)
joined_source made ts = reads_source ts >>= λ s. after_word (codes "on") s.1 >>= λ rest. reads_expr rest
    >>= λ e.
    Some ((record { from = made.from ++ s.0 ∷ []; picks = made.picks ++ e.0 ∷ [] }, true), e.1)

abbrev pub another_source : Sources → List Token → Option ((Sources × Bool) × List Token)
another_source made ts =
    if starts (codes ",") ts then plain_source made (tail ts)
    else if starts (codes "join") ts then joined_source made (tail ts)
    else if starts (codes "inner") ts then (after_word (codes "join") (tail ts)
    >>= λ rest. joined_source made rest)
    else Some ((made, false), ts)

-- at most `most` sources
abbrev pub reads_sources : ℕ → List Token → Option (Sources × List Token)
reads_sources most ts =
    reads_source ts >>= λ s. repeat another_source most (record { from = s.0 ∷ []; picks = [] }) s.1

-- CORES

abbrev pub reads_group : List Token → Option (List ColumnName × List Token)
reads_group ts = if starts (codes "group") ts
    then (after_word (codes "by") (tail ts) >>= λ rest. list_of_parts reads_column rest) else Some ([], ts)

-- a core of its parts: the conditions are those after ON, and then the one after WHERE
abbrev pub core_with : Bool → Bool → Option (List Item) → Sources → Option Expr → List ColumnName
    → Option Expr → Core
core_with all distinct items sources pick group having = record {
  joined_all = all;
  distinct = distinct;
  items = items;
  from = sources.from;
  picks = sources.picks ++ option_to_list pick;
  group = group;
  having = having;
}

-- what follows the sources of a core
abbrev pub core_end : Bool → Bool → Option (List Item) → Sources → List Token → Option (Core × List Token)
core_end all distinct items sources ts =
    reads_optional (codes "where") ts >>= λ w. reads_group w.1 >>= λ g.
    reads_optional (codes "having") g.1
    >>= λ h. Some (core_with all distinct items sources w.0 g.0 h.0, h.1)

-- what follows SELECT and DISTINCT
abbrev pub core_rest : Bool → Bool → List Token → Option (Core × List Token)
core_rest all distinct ts =
    reads_items ts >>= λ i. after_word (codes "from") i.1 >>= λ rest. reads_sources max_sources rest
    >>= λ s. core_end all distinct i.0 s.0 s.1

abbrev pub reads_core : Bool → List Token → Option (Core × List Token)
reads_core all ts = after_word (codes "select") ts
    >>= λ rest. core_rest all (starts (codes "distinct") rest) (tokens_past (codes "distinct") rest)

-- one more core, after UNION
abbrev pub another_core : List Core → List Token → Option ((List Core × Bool) × List Token)
another_core made ts =
    if starts (codes "union") ts then (reads_core (starts (codes "all") (tail ts)) (tokens_past (codes "all")
    (tail ts)) >>= λ r. Some ((made ++ r.0 ∷ [], true), r.1))
    else Some ((made, false), ts)

abbrev pub reads_cores : List Token → Option (List Core × List Token)
reads_cores ts = reads_core false ts >>= λ r. repeat another_core (length ts) (r.0 ∷ []) r.1

-- ORDER BY AND LIMIT

abbrev pub place_of : ℤ → Option ℕ
place_of (pos n) = Some n
place_of (negsuc n) = None

abbrev pub key_of : Token → Option OrderKey
key_of (Word w) = name_in w >>= λ n. Some (Name n)
key_of (Number z) = place_of z >>= λ n. Some (Place n)
key_of (Quoted t) = None
key_of (Given v) = None

abbrev pub reads_key : List Token → Option (OrderKey × List Token)
reads_key ts = reads_token ts >>= λ t. key_of t.0 >>= λ k. Some (k, t.1)

-- what follows ASC or DESC
abbrev pub tokens_after_direction : List Token → List Token
tokens_after_direction ts = if starts (codes "asc") ts then tail ts else tokens_past (codes "desc") ts

abbrev pub reads_order : List Token → Option (Order × List Token)
reads_order ts =
    reads_key ts >>= λ k. Some
    (record { key = k.0; descending = starts (codes "desc") k.1 }, tokens_after_direction k.1)

abbrev pub reads_orders : List Token → Option (List Order × List Token)
reads_orders ts = if starts (codes "order") ts
    then (after_word (codes "by") (tail ts) >>= λ rest. list_of_parts reads_order rest) else Some ([], ts)

abbrev pub bound_of : Token → Option Value
bound_of (Word w) = None
bound_of (Number z) = Some (value.Int z)
bound_of (Quoted t) = None
bound_of (Given v) = Some v

abbrev pub reads_bound : List Token → Option (Option Value × List Token)
reads_bound ts = reads_token ts >>= λ t. bound_of t.0 >>= λ v. Some (Some v, t.1)

abbrev pub reads_limit : List Token → Option (Option Value × List Token)
reads_limit ts = if starts (codes "limit") ts then reads_bound (tail ts) else Some (None, ts)

abbrev pub reads_query : List Token → Option (Query × List Token)
reads_query ts = reads_cores ts >>= λ c. reads_orders c.1 >>= λ o. reads_limit o.1
    >>= λ l. Some (record { cores = c.0; order = o.0; limit = l.0 }, l.1)
