-- The order of rows of tables: by the name of the table, and then by the number of the row.
use Rattle.std.specs.Prelude.{ℕ, Bool, true, false, nat_lt}
use Rattle.std.specs.declared.cmp.Ordering.{Ordering}
use Rattle.std.specs.declared.cmp.Ordering.TheVariants.{Less, Equal, Greater}
use Rattle.std.specs.Ordering.{nat_cmp, ordering_then}
use Rattle.std.specs.Cmp.Lexicographic.{slice_cmp}
use Rattle.sql_model.specs.Types.{Member, Need}

abbrev pub row_after_table : Ordering → ℕ → ℕ → Bool
row_after_table Less m n = true
row_after_table Equal m n = nat_lt m n
row_after_table Greater m n = false

abbrev pub member_precedes : Member → Member → Bool
member_precedes a b = row_after_table (slice_cmp nat_cmp a.table b.table) a.row b.row

abbrev pub need_precedes : Need → Need → Bool
need_precedes a b = member_precedes a.member b.member

-- by the bytes of the table's name, then by the row's number
abbrev pub member_cmp : Member → Member → Ordering
member_cmp a b = ordering_then (slice_cmp nat_cmp a.table b.table) (nat_cmp a.row b.row)
