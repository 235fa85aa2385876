-- The slots that a scan of a column selects.
use Rattle.std.specs.Prelude.{ℤ, Bool, true, false, not}
use Rattle.ldv_value.specs.Order.{test_of}
use Rattle.sql_model.specs.Meaning.{is_null, is_true}
use Rattle.table_store.specs.Types.{Cmp, Value, Int}

-- whether a value compares so to a constant; NULL doesn't
abbrev pub passes_test : Cmp → ℤ → Value → Bool
passes_test op constant value = is_true (test_of op value (Int constant))

-- whether a value is NULL, or, where that is asked, isn't
abbrev pub null_passes : Bool → Value → Bool
null_passes true value = is_null value
null_passes false value = not (is_null value)
