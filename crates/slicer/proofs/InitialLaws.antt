-- The packed initial rows of a graph are the rows of the tables that the events need.
use Rattle.std.proofs.Common.{◌≡◌, ◌==◌, ℕ, List, [], ◌∷◌, Bool, true, false, not, ◌||◌, ◌&&◌, refl, sym, ap, ◌∙◌, inl, inr, eq-eqb}
use Rattle.std.specs.Prelude.{Option, Some, None, is_some}
use Rattle.std.specs.List.{list_any, filter_map, cons_option}
use Rattle.std.specs.Option.{option_map}
use Rattle.std.proofs.Math.Bool.{and-or_distrib_right}
use Rattle.std.proofs.lemmas.Bool.{cases_Bool}
use Rattle.std.proofs.lemmas.Bool.Decides.{Decides-eqb}
use Rattle.ldv_value.specs.Options.{only_if}
use Rattle.ldv_value.proofs.Booleans.{and-true, and-false, and-from, or-left, or-right}
use Rattle.ldv_value.proofs.SameBytes.{bytes_eq-itself, bytes_eq-true}
use Rattle.sql_model.specs.Scope.{same_text}
use Rattle.sql_model.specs.declared.need.Member.{Member}
use Rattle.sql_model.specs.declared.table.Table.{Table}
use Rattle.sql_model.specs.declared.table.TableRow.{TableRow}
use Rattle.run_model.specs.declared.event.Event.{Event}
use Rattle.run_model.specs.declared.package.PackedRow.{PackedRow}
use Rattle.run_model.specs.declared.package.PackedTable.{PackedTable}
use Rattle.run_model.specs.Slice.{Reason, first_reason, packed_because, rows_needed, packed_table, is_table_needed, tables_needed}
use Rattle.trace_graph.specs.Graph.{Parts, graph_of}
use Rattle.trace_graph.specs.VersionLaws.{VersionsLaw, MadeLaw}
use Rattle.slicer.specs.InitialRows.{ReadsInitialRows, is_row_of, at_first, is_seen, is_made, is_initial_node, is_packed}
use Rattle.run_model.specs.Packing.{row_because, table_because, tables_because}
use Rattle.slicer.specs.inner.Rows.{graph_reason, tables_from}

-- ---- what is packed

-- a row of the number is there
abbrev has_row_number : ℕ → List TableRow → Bool
has_row_number number rows = list_any (λ r. r.number == number) rows

abbrev has_packed_number : ℕ → List PackedRow → Bool
has_packed_number number rows = list_any (λ r. r.number == number) rows

one_packed : (number : ℕ) (row : TableRow) (o : Option Reason) (rest : List PackedRow)
    → has_packed_number number (cons_option (option_map (packed_because row) o) rest) ≡ (((row.number == number) && is_some o) || has_packed_number number rest)
one_packed number row None rest = ap (λ b. b || has_packed_number number rest) (sym (and-false (row.number == number)))
one_packed number row (Some why) rest = ap (λ b. b || has_packed_number number rest) (sym (and-true (row.number == number)))

packed_rows : (events : List Event) (table : List ℕ) (number : ℕ) (rows : List TableRow)
    → has_packed_number number (rows_needed events table rows) ≡ (has_row_number number rows && is_some (first_reason table number events))
packed_rows events table number [] = refl
packed_rows events table number (row ∷ rows) =
    let due : Bool = is_some (first_reason table number events) in
    one_packed number row (first_reason table row.number events) (rows_needed events table rows)
    ∙ (λ j. own j || packed_rows events table number rows j)
    ∙ sym (and-or_distrib_right (row.number == number) (has_row_number number rows) due)
  where
    own : ((row.number == number) && is_some (first_reason table row.number events)) ≡ ((row.number == number) && is_some (first_reason table number events))
    own = elim (cases_Bool (row.number == number)) [
      | inl hit ↦ ap (λ (n : ℕ). (row.number == number) && is_some (first_reason table n events)) ((Decides-eqb row.number number).0 hit)
      | inr miss ↦ rw miss refl
    ]

-- a statement needs the row, and names its table
abbrev is_due : List Event → List ℕ → ℕ → Bool
is_due events table number = is_table_needed events table && is_some (first_reason table number events)

abbrev has_in_table : List ℕ → ℕ → Table → Bool
has_in_table table number t = same_text t.name table && has_row_number number t.rows

abbrev has_packed : List ℕ → ℕ → PackedTable → Bool
has_packed table number t = same_text t.name table && has_packed_number number t.rows

own_table : (events : List Event) (table : List ℕ) (number : ℕ) (t : Table) → is_table_needed events t.name ≡ true
    → has_packed table number (packed_table events t) ≡ (has_in_table table number t && is_due events table number)
own_table events table number t named = elim (cases_Bool (same_text t.name table)) [
  | inl hit ↦
      let same : t.name ≡ table = bytes_eq-true t.name table hit in
      let needed : is_table_needed events table ≡ true = ap (is_table_needed events) (sym same) ∙ named in
      rw (hit, needed) (packed_rows events t.name number t.rows ∙ ap (λ (q : List ℕ). has_row_number number t.rows && is_some (first_reason q number events)) same)
  | inr miss ↦ rw miss refl
]

left_out : (events : List Event) (table : List ℕ) (number : ℕ) (t : Table) → is_table_needed events t.name ≡ false
    → false ≡ (has_in_table table number t && is_due events table number)
left_out events table number t unnamed = elim (cases_Bool (same_text t.name table)) [
  | inl hit ↦
      let same : t.name ≡ table = bytes_eq-true t.name table hit in
      let unneeded : is_table_needed events table ≡ false = ap (is_table_needed events) (sym same) ∙ unnamed in
      rw (hit, unneeded) (sym (and-false (has_row_number number t.rows)))
  | inr miss ↦ rw miss refl
]

-- a row is packed exactly where a table has it at first, and a statement needs it and names its table
pub packed_exactly : (events : List Event) (table : List ℕ) (number : ℕ) (tables : List Table)
    → list_any (has_packed table number) (tables_needed events tables) ≡ (is_row_of tables table number && is_due events table number)
packed_exactly events table number [] = refl
packed_exactly events table number (t ∷ ts) = elim (cases_Bool (is_table_needed events t.name)) [
  | inl named ↦
      rw named ((λ j. own_table events table number t named j || packed_exactly events table number ts j)
      ∙ sym (and-or_distrib_right (has_in_table table number t) (is_row_of ts table number) (is_due events table number)))
  | inr unnamed ↦
      rw unnamed (packed_exactly events table number ts
      ∙ (λ j. left_out events table number t unnamed j || (is_row_of ts table number && is_due events table number))
      ∙ sym (and-or_distrib_right (has_in_table table number t) (is_row_of ts table number) (is_due events table number)))
]

-- ---- other reasons for the rows of the tables

module _ (events : List Event) where
  rows_alike : (table : List ℕ) (reason : ℕ → Option Reason) (rows : List TableRow)
      → ((number : ℕ) → has_row_number number rows ≡ true → reason number ≡ first_reason table number events)
      → filter_map (row_because reason) rows ≡ rows_needed events table rows
  rows_alike table reason [] same = refl
  rows_alike table reason (row ∷ rows) same =
      let own : has_row_number row.number (row ∷ rows) ≡ true =
      or-left (row.number == row.number) (has_row_number row.number rows) (eq-eqb row.number row.number refl) in
      let rest = rows_alike table reason rows (λ number is. same number (or-right (row.number == number) (has_row_number number rows) is)) in
      (λ j. cons_option (option_map (packed_because row) (same row.number own j)) (rest j))

  pub tables_alike : (reason : List ℕ → ℕ → Option Reason) (tables : List Table)
      → ((table : List ℕ) (number : ℕ) → is_row_of tables table number ≡ true → reason table number ≡ first_reason table number events)
      → tables_because reason (is_table_needed events) tables ≡ tables_needed events tables
  tables_alike reason [] same = refl
  tables_alike reason (t ∷ ts) same =
      let rest = tables_alike reason ts (λ table number is. same table number (or-right (has_in_table table number t) (is_row_of ts table number) is)) in
      elim (cases_Bool (is_table_needed events t.name)) [
        | inl named ↦ rw named (λ j. own j ∷ rest j)
        | inr unnamed ↦ rw unnamed rest
      ]
    where
      there : (number : ℕ) → has_row_number number t.rows ≡ true → is_row_of (t ∷ ts) t.name number ≡ true
      there number is =
          or-left (has_in_table t.name number t) (is_row_of ts t.name number)
          (and-from (same_text t.name t.name) (has_row_number number t.rows) (bytes_eq-itself t.name) is)

      own : table_because reason t ≡ packed_table events t
      own = λ j. record {
        name = t.name;
        schema = t.schema;
        next = t.next;
        rows = rows_alike t.name (reason t.name) t.rows (λ number is. same t.name number (there number is)) j;
      }

-- ---- the graph of the events

module _ (events : List Event) (graph : Parts) (tables : List Table) (versions : VersionsLaw) (makes : MadeLaw)
    (of_events : graph ≡ graph_of events) (initial : ReadsInitialRows events tables) where
  node_seen : (table : List ℕ) (row : ℕ)
      → is_initial_node graph (at_first table row) ≡ (is_seen (at_first table row) events && not (is_made (at_first table row) events))
  node_seen table row =
      ap (λ (g : Parts). is_initial_node g (at_first table row)) of_events
      ∙ (λ j. versions events (at_first table row) j && not (makes events (at_first table row) j))

  -- of an initial row the graph tells whether a statement needs it
  row_seen : (table : List ℕ) (row : ℕ) → is_row_of tables table row ≡ true → is_initial_node graph (at_first table row) ≡ is_some (first_reason table row events)
  row_seen table row there =
      node_seen table row
      ∙ ap (λ b. is_seen (at_first table row) events && not b) (initial.unmade table row there)
      ∙ and-true (is_seen (at_first table row) events)
      ∙ sym (initial.at_first_seen table row there)

  -- the graph has no other rows that no statement made
  other_seen : (table : List ℕ) (row : ℕ) → is_row_of tables table row ≡ false → is_initial_node graph (at_first table row) ≡ false
  other_seen table row missing = node_seen table row ∙ elim (cases_Bool (is_seen (at_first table row) events)) [
    | inl seen ↦ let made : is_made (at_first table row) events ≡ true = initial.others_made table row missing seen in rw (seen, made) refl
    | inr unseen ↦ rw unseen refl
  ]

  kept : (o : Option Reason) → only_if (is_some o) o ≡ o
  kept None = refl
  kept (Some why) = refl

  pub tables_same : tables_from events graph tables ≡ tables_needed events tables
  tables_same =
      tables_alike events (graph_reason events graph) tables
      (λ table row there. ap (λ b. only_if b (first_reason table row events)) (row_seen table row there) ∙ kept (first_reason table row events))

  due_there : (table : List ℕ) (row : ℕ) → is_due events table row ≡ is_some (first_reason table row events)
  due_there table row = elim (cases_Bool (is_some (first_reason table row events))) [
    | inl some ↦ let named : is_table_needed events table ≡ true = initial.named table row some in rw (named, some) refl
    | inr none ↦ rw none (and-false (is_table_needed events table))
  ]

  first_packed : (table : List ℕ) (row : ℕ) → is_packed (tables_needed events tables) (at_first table row) ≡ is_initial_node graph (at_first table row)
  first_packed table row = packed_exactly events table row tables ∙ elim (cases_Bool (is_row_of tables table row)) [
    | inl there ↦ rw there (due_there table row ∙ sym (row_seen table row there))
    | inr missing ↦ rw missing (sym (other_seen table row missing))
  ]

  pub nodes_same : (version : Member) → is_packed (tables_needed events tables) version ≡ is_initial_node graph version
  nodes_same version = elim (cases_Bool (version.version == 0)) [
    | inl first ↦
        let zero_is : version.version ≡ 0 = (Decides-eqb version.version 0).0 first in
        let is : version ≡ at_first version.table version.row = λ j. record { table = version.table; row = version.row; version = zero_is j } in
        ap (is_packed (tables_needed events tables)) is ∙ first_packed version.table version.row ∙ sym (ap (is_initial_node graph) is)
    | inr later ↦ rw later refl
  ]
