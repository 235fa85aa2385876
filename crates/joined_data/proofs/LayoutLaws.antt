-- Tables, reasons and runs of a joined package: what is spelled is read, and what is read was spelled so.
use Rattle.std.proofs.Common.{◌≡◌, ℕ, ◌^◌, ◌<◌, Bool, true, List, [], ◌++◌, length, Some, refl, sym, ap, subst, arith, ◌&&◌}
use Rattle.std.specs.Prelude.{◌==◌}
use Rattle.std.specs.List.{list_all, AllByRecursion}
use Rattle.std.specs.Str.{IsUtf8}
use Rattle.std.specs.Int.{w16, w32, w64, to_be_bytes}
use Rattle.ldv_value.proofs.Booleans.{and-parts, and-from}
use Rattle.ldv_value.proofs.Options.{same-some}
use Rattle.sql_model.specs.declared.need.Rule.{Rule}
use Rattle.sql_model.specs.declared.table.Schema.{Schema}
use Rattle.package_codec.specs.Counts.{CountedList, CountedSchema}
use Rattle.package_codec.specs.Events.{names_spelling, names_at}
use Rattle.package_codec.specs.Fields.{DecodeResult, then_at, both_at, number_at, text_spelling, list_spelling, list_at, text_at}
use Rattle.package_codec.specs.Reading.{value_at, reason_at, cells_at, schema_at}
use Rattle.package_codec.specs.Room.{schema_room, fits_u16_count}
use Rattle.package_codec.specs.Runs.{CountedEventRun, runs_of, runs_spelling, runs_at, trace_room}
use Rattle.package_codec.specs.Spelling.{value_spelling, number_spelling, reason_spelling, cells_spelling, schema_spelling}
use Rattle.package_codec.specs.Typed.{IsU32, TypedValue, TypedValues, TypedEvent, TypedSchema}
use Rattle.package_codec.specs.declared.version.Version.TheVariants.{Two}
use Rattle.package_codec.proofs.Events.{names_law}
use Rattle.package_codec.proofs.Laws.{IsBytes, IsBytes-rest, IsField, just, always, list_all-always, restate, recount, made_law, then_law, struct_law}
use Rattle.package_codec.proofs.Numbers.{wide64, number_law, text_law, items_law, long_law, short_list_law}
use Rattle.package_codec.proofs.RunFields.{runs_law}
use Rattle.package_codec.proofs.Tables.{u32_law, reason_law, schema_fits, schema_law, so_many}
use Rattle.package_codec.proofs.Values.{value_law}
use Rattle.joined_data.specs.Types.{Event, Table, TableRow, Value}
use Rattle.joined_data.specs.declared.joined.JoinedRun.{JoinedRun}
use Rattle.joined_data.specs.declared.joined.Reason.{Reason}
use Rattle.joined_data.specs.Layout.{common_row_spelling, common_rows_spelling, common_table_spelling, named_reason_spelling, paths_spelling, bare_run_spelling, run_spelling, with_trace, common_row_at, common_rows_at, common_table_at, named_reason_at, paths_at, bare_run_at, run_at}
use Rattle.joined_data.specs.Rooms.{TypedCommonRow, TypedCommonTable, TypedReason, TypedTexts, TypedBareRun, TypedJoinedRun, common_row_room, common_table_room, common_tables_room, bare_run_room, joined_run_room, CountedCommonRow, CountedCommonTable, CountedReason, CountedTexts, CountedPaths, CountedBareRun, CountedJoinedRun}

-- ---- rows

abbrev RowParts : Type 0
RowParts = ℕ × List Value

abbrev row_parts_spelling : RowParts → List ℕ
row_parts_spelling p = number_spelling p.0 ++ cells_spelling p.1

common_row_law : (columns : ℕ) → IsField common_row_spelling TypedCommonRow (common_row_room columns) CountedCommonRow (common_row_at columns)
common_row_law columns = recount CountedCommonRow (restate common_row_spelling TypedCommonRow TypedCommonRow (λ r. so_many columns r.values) (common_row_room columns) (common_row_at columns)
    (struct_law row_parts_spelling (λ (p : RowParts). IsU32 p.0 × TypedValues p.1) (λ (p : RowParts). so_many columns p.1) (both_at (number_at w32) (cells_at columns))
    (λ (p : RowParts). record { number = p.0; values = p.1 }) (λ (r : TableRow). (r.number, r.values))
    (then_law number_spelling IsU32 always (number_at w32) cells_spelling TypedValues (λ a. so_many columns) (λ a. cells_at columns) u32_law (λ a. items_law value_spelling TypedValue always value_at value_law columns)) (λ r. refl) (λ p. refl))
    (λ r t h. (t, and-from (length r.values == columns) (list_all always r.values) h (list_all-always r.values)))
    (λ r t h. (t, (and-parts (length r.values == columns) (list_all always r.values) h).0)))
    (λ r n. (tt, n)) (λ r n. n.1)

row_filled : (r : TableRow) → 0 < length (common_row_spelling r)
row_filled r = omega arith

common_rows_law : (columns : ℕ) → IsField common_rows_spelling (AllByRecursion TypedCommonRow) (list_all (common_row_room columns)) (CountedList CountedCommonRow) (common_rows_at columns)
common_rows_law columns = long_law common_row_spelling TypedCommonRow (common_row_room columns) (common_row_at columns) (common_row_law columns) row_filled

-- ---- tables

abbrev TableEnd : Type 0
TableEnd = ℕ × List TableRow

abbrev TableTail : Type 0
TableTail = Schema × TableEnd

abbrev TableParts : Type 0
TableParts = List ℕ × TableTail

abbrev end_spelling : TableEnd → List ℕ
end_spelling p = to_be_bytes w32 p.0 ++ common_rows_spelling p.1

abbrev TypedEnd : TableEnd → Type 0
TypedEnd p = IsU32 p.0 × AllByRecursion TypedCommonRow p.1

abbrev CountedEnd : TableEnd → Type 0
CountedEnd p = Unit {0} × CountedList CountedCommonRow p.1

abbrev end_room : Schema → TableEnd → Bool
end_room s p = list_all (common_row_room (length s.columns)) p.1

abbrev end_at : Schema → List ℕ → DecodeResult TableEnd
end_at s = both_at (number_at w32) (common_rows_at (length s.columns))

end_law : (s : Schema) → IsField end_spelling TypedEnd (end_room s) CountedEnd (end_at s)
end_law s = then_law (to_be_bytes w32) IsU32 always (number_at w32) common_rows_spelling (AllByRecursion TypedCommonRow) (λ a. list_all (common_row_room (length s.columns))) (λ a. common_rows_at (length s.columns)) u32_law (λ a. common_rows_law (length s.columns))

abbrev tail_spelling : TableTail → List ℕ
tail_spelling p = schema_spelling Two p.0 ++ end_spelling p.1

abbrev TypedTail : TableTail → Type 0
TypedTail p = TypedSchema p.0 × TypedEnd p.1

abbrev CountedTail : TableTail → Type 0
CountedTail p = CountedSchema Two p.0 × CountedEnd p.1

abbrev tail_room : TableTail → Bool
tail_room p = schema_room p.0 && end_room p.0 p.1

abbrev tail_at : List ℕ → DecodeResult TableTail
tail_at = then_at (schema_at Two) end_at

-- version 2 has the foreign keys of each schema
schema_two : IsField (schema_spelling Two) TypedSchema schema_room (CountedSchema Two) (schema_at Two)
schema_two = restate (schema_spelling Two) TypedSchema TypedSchema (schema_fits Two) schema_room (schema_at Two) (schema_law Two)
    (λ s t h. (t, and-from (schema_room s) true h refl))
    (λ s t h. (t, (and-parts (schema_room s) true h).0))

tail_law : IsField tail_spelling TypedTail tail_room CountedTail tail_at
tail_law = then_law (schema_spelling Two) TypedSchema schema_room (schema_at Two) end_spelling TypedEnd end_room end_at schema_two end_law

common_table_law : IsField common_table_spelling TypedCommonTable common_table_room CountedCommonTable common_table_at
common_table_law = recount CountedCommonTable (struct_law (λ (p : TableParts). text_spelling p.0 ++ tail_spelling p.1) (λ (p : TableParts). IsUtf8 p.0 × TypedTail p.1) (λ (p : TableParts). tail_room p.1) (both_at text_at tail_at)
    (λ (p : TableParts). record { name = p.0; schema = p.1.0; next = p.1.1.0; rows = p.1.1.1 }) (λ (t : Table). (t.name, (t.schema, (t.next, t.rows))))
    (then_law text_spelling IsUtf8 always text_at tail_spelling TypedTail (λ a. tail_room) (λ a. tail_at) text_law (λ a. tail_law)) (λ t. refl) (λ p. refl))
    (λ t n. (n.0, (n.1.0, (tt, n.1.1)))) (λ t n. (n.0, (n.1.0, n.1.1.1)))

pub tables_law : IsField (list_spelling w16 common_table_spelling) (AllByRecursion TypedCommonTable) common_tables_room (AllByRecursion CountedCommonTable) (list_at w16 common_table_at)
tables_law = short_list_law common_table_spelling TypedCommonTable common_table_room common_table_at common_table_law

-- ---- what a run needs

abbrev ReasonParts : Type 0
ReasonParts = List ℕ × (ℕ × (ℕ × Rule))

reason_tail_law : IsField (λ (p : ℕ × (ℕ × Rule)). to_be_bytes w32 p.0 ++ reason_spelling p.1.0 p.1.1) (λ (p : ℕ × (ℕ × Rule)). IsU32 p.0 × (IsU32 p.1.0 × Unit {0})) always (λ (p : ℕ × (ℕ × Rule)). Unit {0} × Unit {0}) (both_at (number_at w32) reason_at)
reason_tail_law = then_law (to_be_bytes w32) IsU32 always (number_at w32) (λ (p : ℕ × Rule). reason_spelling p.0 p.1) (λ (p : ℕ × Rule). IsU32 p.0 × Unit {0}) (λ a. always) (λ a. reason_at) u32_law (λ a. reason_law)

named_reason_law : IsField named_reason_spelling TypedReason always CountedReason named_reason_at
named_reason_law = recount CountedReason (restate named_reason_spelling (λ (r : Reason). IsUtf8 r.table × (IsU32 r.row × (IsU32 r.statement × Unit {0}))) TypedReason always always named_reason_at
    (struct_law (λ (p : ReasonParts). text_spelling p.0 ++ (to_be_bytes w32 p.1.0 ++ reason_spelling p.1.1.0 p.1.1.1)) (λ (p : ReasonParts). IsUtf8 p.0 × (IsU32 p.1.0 × (IsU32 p.1.1.0 × Unit {0}))) always (both_at text_at (both_at (number_at w32) reason_at))
    (λ (p : ReasonParts). record { table = p.0; row = p.1.0; statement = p.1.1.0; rule = p.1.1.1 }) (λ (r : Reason). (r.table, (r.row, (r.statement, r.rule))))
    (then_law text_spelling IsUtf8 always text_at (λ (p : ℕ × (ℕ × Rule)). to_be_bytes w32 p.0 ++ reason_spelling p.1.0 p.1.1) (λ (p : ℕ × (ℕ × Rule)). IsU32 p.0 × (IsU32 p.1.0 × Unit {0})) (λ a. always) (λ a. both_at (number_at w32) reason_at) text_law (λ a. reason_tail_law))
    (λ r. refl) (λ p. refl))
    (λ r t h. ((t.0, (t.1.0, (t.1.1, tt))), h)) (λ r t h. ((t.0, (t.1.0, t.1.1.0)), h)))
    (λ r n. (n, (tt, tt))) (λ r n. n.0)

reason_filled : (r : Reason) → 0 < length (named_reason_spelling r)
reason_filled r = omega arith

reasons_law : IsField (list_spelling w32 named_reason_spelling) (AllByRecursion TypedReason) always (CountedList CountedReason) (list_at w32 named_reason_at)
reasons_law = restate (list_spelling w32 named_reason_spelling) (AllByRecursion TypedReason) (AllByRecursion TypedReason) (list_all always) always (list_at w32 named_reason_at) (long_law named_reason_spelling TypedReason always named_reason_at named_reason_law reason_filled)
    (λ rs t h. (t, list_all-always rs)) (λ rs t h. (t, refl))

text_filled : (text : List ℕ) → 0 < length (text_spelling text)
text_filled text = omega arith

paths_law : IsField paths_spelling TypedTexts always CountedPaths paths_at
paths_law = restate paths_spelling TypedTexts TypedTexts (list_all always) always paths_at (long_law text_spelling IsUtf8 always text_at text_law text_filled)
    (λ ps t h. (t, list_all-always ps)) (λ ps t h. (t, refl))

abbrev Texts : Type 0
Texts = List (List ℕ)

abbrev N3 : Type 0
N3 = Texts × List Reason

abbrev N2 : Type 0
N2 = Texts × N3

abbrev N1 : Type 0
N1 = Texts × N2

abbrev n3 : N3 → List ℕ
n3 p = names_spelling p.0 ++ list_spelling w32 named_reason_spelling p.1

abbrev n2 : N2 → List ℕ
n2 p = paths_spelling p.0 ++ n3 p.1

abbrev n1 : N1 → List ℕ
n1 p = paths_spelling p.0 ++ n2 p.1

abbrev m3 : N3 → Type 0
m3 p = TypedTexts p.0 × AllByRecursion TypedReason p.1

abbrev m2 : N2 → Type 0
m2 p = TypedTexts p.0 × m3 p.1

abbrev m1 : N1 → Type 0
m1 p = TypedTexts p.0 × m2 p.1

abbrev f3 : N3 → Bool
f3 p = fits_u16_count p.0 && true

abbrev f2 : N2 → Bool
f2 p = f3 p.1

abbrev f1 : N1 → Bool
f1 p = f2 p.1

abbrev c3 : N3 → Type 0
c3 p = CountedTexts p.0 × CountedList CountedReason p.1

abbrev c2 : N2 → Type 0
c2 p = CountedPaths p.0 × c3 p.1

abbrev c1 : N1 → Type 0
c1 p = CountedPaths p.0 × c2 p.1

abbrev r3 : List ℕ → DecodeResult N3
r3 = both_at names_at (list_at w32 named_reason_at)

abbrev r2 : List ℕ → DecodeResult N2
r2 = both_at paths_at r3

abbrev r1 : List ℕ → DecodeResult N1
r1 = both_at paths_at r2

l3 : IsField n3 m3 f3 c3 r3
l3 = then_law names_spelling TypedTexts fits_u16_count names_at (list_spelling w32 named_reason_spelling) (AllByRecursion TypedReason) (λ a. always) (λ a. list_at w32 named_reason_at) names_law (λ a. reasons_law)

l2 : IsField n2 m2 f2 c2 r2
l2 = then_law paths_spelling TypedTexts always paths_at n3 m3 (λ a. f3) (λ a. r3) paths_law (λ a. l3)

l1 : IsField n1 m1 f1 c1 r1
l1 = then_law paths_spelling TypedTexts always paths_at n2 m2 (λ a. f2) (λ a. r2) paths_law (λ a. l2)

-- ---- a run but its trace

abbrev B3 : Type 0
B3 = ℕ × N1

abbrev B2 : Type 0
B2 = ℕ × B3

abbrev B1 : Type 0
B1 = Texts × B2

abbrev b3 : B3 → List ℕ
b3 p = to_be_bytes w32 p.0 ++ n1 p.1

abbrev b2 : B2 → List ℕ
b2 p = to_be_bytes w64 p.0 ++ b3 p.1

abbrev b1 : B1 → List ℕ
b1 p = names_spelling p.0 ++ b2 p.1

abbrev t3 : B3 → Type 0
t3 p = IsU32 p.0 × m1 p.1

abbrev t2 : B2 → Type 0
t2 p = (p.0 < 2 ^ 64) × t3 p.1

abbrev t1 : B1 → Type 0
t1 p = TypedTexts p.0 × t2 p.1

abbrev g3 : B3 → Bool
g3 p = f1 p.1

abbrev g2 : B2 → Bool
g2 p = g3 p.1

abbrev g1 : B1 → Bool
g1 p = fits_u16_count p.0 && g2 p.1

abbrev d3 : B3 → Type 0
d3 p = Unit {0} × c1 p.1

abbrev d2 : B2 → Type 0
d2 p = Unit {0} × d3 p.1

abbrev d1 : B1 → Type 0
d1 p = CountedTexts p.0 × d2 p.1

abbrev q3 : List ℕ → DecodeResult B3
q3 = both_at (number_at w32) r1

abbrev q2 : List ℕ → DecodeResult B2
q2 = both_at (number_at w64) q3

abbrev q1 : List ℕ → DecodeResult B1
q1 = both_at names_at q2

k3 : IsField b3 t3 g3 d3 q3
k3 = then_law (to_be_bytes w32) IsU32 always (number_at w32) n1 m1 (λ a. f1) (λ a. r1) u32_law (λ a. l1)

k2 : IsField b2 t2 g2 d2 q2
k2 = then_law (to_be_bytes w64) (λ n. n < 2 ^ 64) always (number_at w64) b3 t3 (λ a. g3) (λ a. q3) (number_law w64 (2 ^ 64) wide64) (λ a. k3)

k1 : IsField b1 t1 g1 d1 q1
k1 = then_law names_spelling TypedTexts fits_u16_count names_at b2 t2 (λ a. g2) (λ a. q2) names_law (λ a. k2)

abbrev make_bare : B1 → JoinedRun
make_bare p = record {
  start = p.0;
  seed = p.1.0;
  steps = p.1.1.0;
  wholes = p.1.1.1.0;
  presents = p.1.1.1.1.0;
  tables = p.1.1.1.1.1.0;
  reasons = p.1.1.1.1.1.1;
  events = [];
}

abbrev back_bare : JoinedRun → B1
back_bare run = (run.start, (run.seed, (run.steps, (run.wholes, (run.presents, (run.tables, run.reasons))))))

-- a run without events
abbrev IsBareRun : JoinedRun → Type 0
IsBareRun run = TypedBareRun run × (run.events ≡ [])

abbrev long_bare_room : JoinedRun → Bool
long_bare_room run = g1 (back_bare run)

bare_made : (run : JoinedRun) → run.events ≡ [] → make_bare (back_bare run) ≡ run
bare_made run none = λ j. with_trace run (sym none j)

long_bare_law : IsField bare_run_spelling IsBareRun long_bare_room (λ run. d1 (back_bare run)) bare_run_at
long_bare_law = made_law b1 t1 g1 q1 IsBareRun long_bare_room (λ p. Some (make_bare p)) back_bare k1
    (λ run t h. (t.0, h, ap just (bare_made run t.1)))
    (λ a run t h e.
    let is : make_bare a ≡ run = same-some (make_bare a) run e in
    subst (λ (q : JoinedRun). (a ≡ back_bare q) × IsBareRun q × (long_bare_room q ≡ true)) is (refl, (t, refl), h))

bare_run_law : IsField bare_run_spelling IsBareRun bare_run_room CountedBareRun bare_run_at
bare_run_law = recount CountedBareRun (restate bare_run_spelling IsBareRun IsBareRun long_bare_room bare_run_room bare_run_at long_bare_law
    (λ run t h.
    let a = and-parts (fits_u16_count run.start) (fits_u16_count run.tables) h in
    (t, and-from (fits_u16_count run.start) (fits_u16_count run.tables && true) a.0 (and-from (fits_u16_count run.tables) true a.1 refl)))
    (λ run t h.
    let a = and-parts (fits_u16_count run.start) (fits_u16_count run.tables && true) h in
    (t, and-from (fits_u16_count run.start) (fits_u16_count run.tables) a.0 (and-parts (fits_u16_count run.tables) true a.1).0)))
    (λ run n. (n.0, (tt, (tt, n.1)))) (λ run n. (n.0, n.1.1.1))

-- ---- the trace behind it

abbrev Traced : Type 0
Traced = JoinedRun × List Event

abbrev apart : JoinedRun → Traced
apart run = (with_trace run [], run.events)

apart_again : (q : Traced) (run : JoinedRun) → q.0.events ≡ [] → with_trace q.0 q.1 ≡ run → q ≡ apart run
apart_again q run none is = subst (λ (r : JoinedRun). q ≡ apart r) is (λ j. (with_trace q.0 (none j), q.1))

abbrev CountedTrace : List Event → Type 0
CountedTrace es = CountedList CountedEventRun (runs_of es)

pub run_law : IsField run_spelling TypedJoinedRun joined_run_room CountedJoinedRun run_at
run_law = recount CountedJoinedRun (made_law (λ (q : Traced). bare_run_spelling q.0 ++ runs_spelling q.1) (λ (q : Traced). IsBareRun q.0 × AllByRecursion TypedEvent q.1) (λ (q : Traced). bare_run_room q.0 && trace_room q.1) (both_at bare_run_at runs_at)
    TypedJoinedRun joined_run_room (λ q. Some (with_trace q.0 q.1)) apart
    (then_law bare_run_spelling IsBareRun bare_run_room bare_run_at runs_spelling (AllByRecursion TypedEvent) (λ a. trace_room) (λ a. runs_at) bare_run_law (λ a. runs_law))
    (λ run t h. (((t.0, refl), t.1), h, refl))
    (λ q run t h e.
    let is : with_trace q.0 q.1 ≡ run = same-some (with_trace q.0 q.1) run e in (
      apart_again q run t.0.1 is,
      subst TypedJoinedRun is (t.0.0, t.1),
      subst (λ (r : JoinedRun). joined_run_room r ≡ true) is h,
    )))
    (λ run n. n) (λ run n. n)

-- what is left behind a run without its trace, and that it has no events
pub bare_run_took : (bytes : List ℕ) (run : JoinedRun) (rest : List ℕ) → IsBytes bytes → bare_run_at bytes ≡ Some (run, rest) → (run.events ≡ []) × IsBytes rest
bare_run_took bytes run rest h e =
    let k = bare_run_law.took bytes run rest h e in
    (k.is_typed.1, IsBytes-rest (bare_run_spelling run) rest (subst IsBytes k.parts h))
