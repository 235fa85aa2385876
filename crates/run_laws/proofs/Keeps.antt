-- A cut that removes nothing that events need, act by act.
use Rattle.std.proofs.Common.{◌≡◌, ℕ, List, [], ◌∷◌, ◌++◌, refl, ap, true, inl, inr}
use Rattle.std.specs.Prelude.{Option, Some, None, is_some, map, not}
use Rattle.std.specs.List.{list_any}
use Rattle.std.specs.Option.{option_or}
use Rattle.std.proofs.lemmas.Bool.{cases_Bool, eq-eqb}
use Rattle.ldv_value.proofs.Booleans.{or-left, or-right}
use Rattle.ldv_value.proofs.SameBytes.{bytes_eq-itself}
use Rattle.sql_model.specs.Needs.{Versions, NeededRow, read_of}
use Rattle.sql_model.specs.Scope.{same_text}
use Rattle.sql_laws.specs.QueryLaw.{KeepsNeeded as KeepsRows}
use Rattle.sql_laws.specs.StatementLaw.{keep_others}
use Rattle.run_laws.specs.Types.{Need, Table, Act, Asked, Event}
use Rattle.run_model.specs.Between.{Cut, KeepsFile, KeepsNeeded, is_initial, is_row_needed}
use Rattle.run_model.specs.Slice.{Reason, is_read, reason_in, act_reason, first_reason, asks_table, is_table_needed, file_need}

module _ (cut : Cut) where
  abbrev pub KeepsTables : List (List ℕ) → Type 0
  KeepsTables [] = Unit {0}
  KeepsTables (table ∷ tables) = (cut.table table ≡ true) × KeepsTables tables

  abbrev pub KeepsReads : List Need → Type 0
  KeepsReads [] = Unit {0}
  KeepsReads (need ∷ needs) = (cut.row need.member.table need.member.row ≡ true) × KeepsReads needs

  -- the tables and rows of a statement stay
  abbrev pub KeepsAct : Act → Type 0
  KeepsAct (Asked statement tables needs made) = KeepsTables tables × KeepsReads needs
  KeepsAct other = Unit {0}

  abbrev pub KeepsEvents : List Event → Type 0
  KeepsEvents [] = Unit {0}
  KeepsEvents (e ∷ es) = KeepsAct e.act × KeepsEvents es

  pub keeps_events_split : (xs ys : List Event) → KeepsEvents (xs ++ ys) → KeepsEvents xs × KeepsEvents ys
  keeps_events_split [] ys k = (tt, k)
  keeps_events_split (x ∷ xs) ys k = let more = keeps_events_split xs ys k.1 in ((k.0, more.0), more.1)

  pub rows_of_reads : (versions : Versions) (ns : List NeededRow) → KeepsReads (map (read_of versions) ns)
      → KeepsRows cut.row ns
  rows_of_reads versions [] k = tt
  rows_of_reads versions (n ∷ ns) k = (k.0, rows_of_reads versions ns k.1)

-- ---- a cut that keeps all rows but some of a database

-- only rows of these tables are cut
abbrev pub others_stay : Cut → List Table → Cut
others_stay cut tables = record { file = cut.file; table = cut.table; row = keep_others cut.row tables }

module _ (cut : Cut) (tables : List Table) where
  abbrev more : Cut
  more = others_stay cut tables

  reads_more : (needs : List Need) → KeepsReads cut needs → KeepsReads more needs
  reads_more [] k = tt
  reads_more (need ∷ needs) k =
      (or-left (cut.row need.member.table need.member.row) (not (is_initial tables need.member.table need.member.row)) k.0, reads_more needs k.1)

  act_more : (act : Act) → KeepsAct cut act → KeepsAct more act
  act_more (Asked statement names needs made) k = (names_more names k.0, reads_more needs k.1)
    where
      names_more : (names : List (List ℕ)) → KeepsTables cut names → KeepsTables more names
      names_more [] k = tt
      names_more (name ∷ names) k = (k.0, names_more names k.1)
  act_more other k = tt

  pub events_more : (es : List Event) → KeepsEvents cut es → KeepsEvents more es
  events_more [] k = tt
  events_more (e ∷ es) k = (act_more e.act k.0, events_more es k.1)

-- ---- all that is needed stays, also what the run made

pub record KeepsAll (cut : Cut) (events : List Event) : Type 0 where
  pub files : (path : List ℕ) → KeepsFile (file_need path events) (cut.file path)
  pub tables : (name : List ℕ) → is_table_needed events name ≡ true → cut.table name ≡ true
  pub rows : (name : List ℕ) (number : ℕ) → is_row_needed events name number ≡ true → cut.row name number ≡ true

pub others_keep : (cut : Cut) (tables : List Table) (events : List Event) → KeepsNeeded cut tables events
    → KeepsAll (others_stay cut tables) events
others_keep cut tables events keeps = record {
  files = keeps.files;
  tables = keeps.tables;
  rows = λ name number needed. elim (cases_Bool (is_initial tables name number)) [
    | inl first ↦ or-left (cut.row name number) (not (is_initial tables name number)) (keeps.rows name number first needed)
    | inr made ↦ or-right (cut.row name number) (not (is_initial tables name number)) (ap not made)
  ];
}

module _ (all : List Event) (cut : Cut) (keeps : KeepsAll cut all) where
  tables_part : (names : List (List ℕ))
      → ((name : List ℕ) → list_any (λ other. same_text other name) names ≡ true → is_table_needed all name ≡ true)
      → KeepsTables cut names
  tables_part [] among = tt
  tables_part (name ∷ names) among = (
    keeps.tables name (among name (or-left (same_text name name) (list_any (λ other. same_text other name) names) (bytes_eq-itself name))),
    tables_part names (λ other more. among other (or-right (same_text name other) (list_any (λ n. same_text n other) names) more)),
  )

  some_later : (statement : ℕ) (table : List ℕ) (row : ℕ) (need : Need) (needs : List Need)
      → is_some (reason_in statement table row needs) ≡ true
      → is_some (reason_in statement table row (need ∷ needs)) ≡ true
  some_later statement table row need needs found = elim (cases_Bool (is_read table row need)) [
    | inl hit ↦ rw hit refl
    | inr miss ↦ rw miss found
  ]

  reads_part : (statement : ℕ) (needs : List Need)
      → ((table : List ℕ) (row : ℕ) → is_some (reason_in statement table row needs) ≡ true → is_row_needed all table row ≡ true)
      → KeepsReads cut needs
  reads_part statement [] among = tt
  reads_part statement (need ∷ needs) among =
      let self : is_read need.member.table need.member.row need ≡ true = rw (bytes_eq-itself need.member.table, eq-eqb need.member.row need.member.row refl) refl in (
        keeps.rows need.member.table need.member.row (among need.member.table need.member.row (rw self refl)),
        reads_part statement needs (λ table row more. among table row (some_later statement table row need needs more)),
      )

  act_part : (act : Act) → ((table : List ℕ) → asks_table table act ≡ true → is_table_needed all table ≡ true)
      → ((table : List ℕ) (row : ℕ) → is_some (act_reason table row act) ≡ true → is_row_needed all table row ≡ true)
      → KeepsAct cut act
  act_part (Asked statement names needs made) tables_among rows_among = (tables_part names tables_among, reads_part statement needs rows_among)
  act_part other tables_among rows_among = tt

  first_some : (now later : Option Reason) → is_some now ≡ true → is_some (option_or now later) ≡ true
  first_some None later found = cc
  first_some (Some reason) later found = refl

  later_some : (now later : Option Reason) → is_some later ≡ true → is_some (option_or now later) ≡ true
  later_some None later found = found
  later_some (Some reason) later found = refl

  events_part : (es : List Event) → ((table : List ℕ) → is_table_needed es table ≡ true → is_table_needed all table ≡ true)
      → ((table : List ℕ) (row : ℕ) → is_row_needed es table row ≡ true → is_row_needed all table row ≡ true)
      → KeepsEvents cut es
  events_part [] tables_among rows_among = tt
  events_part (e ∷ es) tables_among rows_among = (
    act_part e.act
        (λ table here. tables_among table (or-left (asks_table table e.act) (is_table_needed es table) here))
        (λ table row here. rows_among table row (first_some (act_reason table row e.act) (first_reason table row es) here)),
    events_part es
        (λ table more. tables_among table (or-right (asks_table table e.act) (is_table_needed es table) more))
        (λ table row more. rows_among table row (later_some (act_reason table row e.act) (first_reason table row es) more)),
  )

  -- what each event needs stays
  pub keeps_events : KeepsEvents cut all
  keeps_events = events_part all (λ table more. more) (λ table row more. more)
