-- The first sort column of an answer, without the bytes of a text, beside the answer.
use Rattle.std.specs.Prelude.{List, [], ◌∷◌, Bool, false}
use Rattle.std.specs.declared.cmp.Ordering.{Ordering}
use Rattle.std.specs.Ordering.{ordering_then}
use Rattle.ldv_value.specs.Cells.{value_at}
use Rattle.ldv_value.specs.Order.{order}
use Rattle.lineage.specs.declared.answer.Answer.{Answer}
use Rattle.query_eval.specs.Finishing.{by_columns}
use Rattle.query_eval.specs.Types.{Value, Null, Int, Text}
use Rattle.query_eval.specs.declared.abbreviated.AbbreviatedKey.{AbbreviatedKey}
use Rattle.query_eval.specs.declared.abbreviated.AbbreviatedKey.TheVariants.{Null as NoValue, Int as Number}
use Rattle.query_eval.specs.declared.abbreviated.AbbreviatedKey.TheVariants.{Text as AnyText}
use Rattle.query_eval.specs.declared.abbreviated.KeyedAnswer.{KeyedAnswer}
use Rattle.query_eval.specs.declared.sort.SortColumn.{SortColumn}
use Rattle.sql_model.specs.QueryAnswer.{order_in_direction}

abbrev pub key_of_value : Value → AbbreviatedKey
key_of_value Null = NoValue
key_of_value (Int n) = Number n
key_of_value (Text t) = AnyText

-- a value that has the key
abbrev pub value_of_key : AbbreviatedKey → Value
value_of_key NoValue = Null
value_of_key (Number n) = Int n
value_of_key AnyText = Text []

abbrev pub key_of : List SortColumn → List Value → AbbreviatedKey
key_of [] values = NoValue
key_of (column ∷ columns) values = key_of_value (value_at values column.place)

abbrev pub with_key : List SortColumn → Answer → KeyedAnswer
with_key columns answer = record { key = key_of columns answer.values; answer = answer }

abbrev pub first_descends : List SortColumn → Bool
first_descends [] = false
first_descends (column ∷ columns) = column.descending

-- by the keys, and where these are the same by all columns
abbrev pub by_keys : List SortColumn → KeyedAnswer → KeyedAnswer → Ordering
by_keys columns a b =
    ordering_then
    (order_in_direction (first_descends columns) (order (value_of_key a.key) (value_of_key b.key)))
    (by_columns columns a.answer b.answer)
