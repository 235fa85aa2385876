-- Sets of names and a map of reasons pick the same as the lists of a run.
use Rattle.std.proofs.Common.{◌≡◌, ℕ, List, [], ◌∷◌, refl, sym, ◌∙◌, Bool, true, false, inl, inr, ◌||◌}
use Rattle.std.specs.Prelude.{Option, map, filter, find, bytes_eq, option_map}
use Rattle.std.specs.List.{filter_map, cons_option, list_any}
use Rattle.std.proofs.lemmas.Bool.{cases_Bool}
use Rattle.std.proofs.lemmas.Slice.Eq.{bytes_eq-Decides}
use Rattle.sql_model.specs.Scope.{same_text}
use Rattle.run_model.specs.Slice.{Reason as SliceReason, packed_because}
use Rattle.run_model.specs.Packing.{row_because, table_because, tables_because}
use Rattle.package_join.specs.Types.{PackedRow, Table, TableRow}
use Rattle.joined_data.specs.declared.joined.JoinedRun.{JoinedRun}
use Rattle.joined_data.specs.declared.joined.Reason.{Reason}
use Rattle.joined_data.specs.Joined.{is_among, is_reason, packed_by, picked_row, picked_table}
use Rattle.package_join.specs.inner.Picked.{reason_for}

-- ---- names

other_way : (a b : List ℕ) → same_text a b ≡ bytes_eq b a
other_way a b = by (same_text a b) (bytes_eq b a) refl refl
  where
    by : (x y : Bool) → same_text a b ≡ x → bytes_eq b a ≡ y → x ≡ y
    by true true e f = refl
    by false false e f = refl
    by true false e f =
        let same : a ≡ b = (bytes_eq-Decides a b).0 e in
        sym ((bytes_eq-Decides b a).1 (sym same)) ∙ f
    by false true e f =
        let same : b ≡ a = (bytes_eq-Decides b a).0 f in
        sym e ∙ (bytes_eq-Decides a b).1 (sym same)

pub set_of_names : (q : List ℕ) (names : List (List ℕ)) → list_any (λ (name : List ℕ). same_text name q) names ≡ is_among q names
set_of_names q [] = refl
set_of_names q (name ∷ names) = λ i. other_way name q i || set_of_names q names i

-- ---- rows and their reasons

abbrev maybe_packed : TableRow → Option SliceReason → Option PackedRow
maybe_packed row reason = option_map (packed_because row) reason

row_as : (reasons : List Reason) (table : List ℕ) (row : TableRow)
    → option_map (packed_because row) (reason_for reasons table row.number) ≡ option_map (packed_by row) (find (is_reason table row.number) reasons)
row_as [] table row = refl
row_as (reason ∷ reasons) table row = elim (cases_Bool (is_reason table row.number reason)) [
  | inl hit ↦ rw hit refl
  | inr miss ↦ rw miss (row_as reasons table row)
]

rows_as : (run : JoinedRun) (table : List ℕ) (rows : List TableRow)
    → filter_map (row_because (reason_for run.reasons table)) rows ≡ filter_map (picked_row run table) rows
rows_as run table [] = refl
rows_as run table (row ∷ rows) = λ i. cons_option (row_as run.reasons table row i) (rows_as run table rows i)

table_as : (run : JoinedRun) (table : Table) → table_because (reason_for run.reasons) table ≡ picked_table run table
table_as run table = λ i. record { name = table.name; schema = table.schema; next = table.next; rows = rows_as run table.name table.rows i }

each_as : (run : JoinedRun) (tables : List Table) → map (table_because (reason_for run.reasons)) tables ≡ map (picked_table run) tables
each_as run [] = refl
each_as run (table ∷ tables) = λ i. table_as run table i ∷ each_as run tables i

pub tables_as_picked : (run : JoinedRun) (tables : List Table)
    → tables_because (reason_for run.reasons) (λ name. is_among name run.tables) tables
    ≡ map (picked_table run) (filter (λ (table : Table). is_among table.name run.tables) tables)
tables_as_picked run tables = each_as run (filter (λ (table : Table). is_among table.name run.tables) tables)
