-- The statement that needs a row was asked.
use Rattle.std.proofs.Common.{◌≡◌, ℕ, ◌+◌, ◌<◌, ◌≤◌, List, [], ◌∷◌, refl, sym, ap, ◌∙◌, Bool, true, false, arith, inl, inr}
use Rattle.std.specs.Prelude.{Option, Some, None, map, filter, ◌&&◌, ◌==◌, nat_lt, nat_le}
use Rattle.std.specs.List.{list_all}
use Rattle.std.specs.Option.{option_or}
use Rattle.std.proofs.lemmas.Bool.{cases_Bool, lt-ltb, eqb-true}
use Rattle.ldv_value.proofs.Cases.{cases-option}
use Rattle.ldv_value.proofs.Booleans.{and-parts, and-from}
use Rattle.sql_model.specs.SqlNames.{sql_name_test}
use Rattle.replay_db.specs.Types.{Need, Table, TableRow, Act, Started, Asked, Event}
use Rattle.run_model.specs.Slice.{Reason, is_read, reason_in, act_reason, first_reason, rows_needed, is_table_needed, packed_table, tables_needed}
use Rattle.package_layout.specs.inner.Order.{rises, is_below, need_below, member_below}
use Rattle.package_codec.specs.inner.Trace.{act_rule, made_after, is_asked, asked_after, follows, at_start, starts_on, starts, trace_test, asked_among, asked_count}
use Rattle.package_layout.specs.Valid.{trace_rule, reasons_rule}

-- ---- statements are counted

asked_more : (asked : ℕ) (is : Bool) → asked ≤ asked_after asked is
asked_more asked true = omega arith
asked_more asked false = omega arith

asked_least : (asked : ℕ) (es : List Event) → asked ≤ asked_among asked es
asked_least asked [] = omega arith
asked_least asked (e ∷ es) = omega (arith, asked_more asked (is_asked e.act), asked_least (asked_after asked (is_asked e.act)) es)

module _ (table : List ℕ) (row : ℕ) where
  -- ---- the reason that an act gives

  reason_names : (statement : ℕ) (needs : List Need) (reason : Reason) → reason_in statement table row needs ≡ Some reason → reason.statement ≡ statement
  reason_names statement [] reason is = cc
  reason_names statement (need ∷ needs) reason is = elim (cases_Bool (is_read table row need)) [
    | inl hit ↦ let e : Some (record { statement = statement; rule = need.rule }) ≡ Some reason = rw hit at is in cc
    | inr miss ↦ reason_names statement needs reason (rw miss at is)
  ]

  act_gives : (made asked step : ℕ) (act : Act) (reason : Reason) → act_reason table row act ≡ Some reason → act_rule (record { made = made; asked = asked; step = step }) act ≡ true → (reason.statement ≡ asked) × (is_asked act ≡ true)
  act_gives made asked step (Asked statement tables reads written) reason is rule =
      let number : (statement == asked) ≡ true =
      (and-parts (statement == asked) (list_all sql_name_test tables)
      (and-parts ((statement == asked) && list_all sql_name_test tables) (rises is_below tables)
      (and-parts ((statement == asked) && list_all sql_name_test tables && rises is_below tables) (rises need_below reads)
      (and-parts ((statement == asked) && list_all sql_name_test tables && rises is_below tables && rises need_below reads) (rises member_below written) rule).0).0).0).0 in
      (reason_names statement reads reason is ∙ eqb-true statement asked number, refl)
  act_gives made asked step other reason is rule = absurd cc

  -- ---- the first reason of all

  reason_among : (steps made asked step : ℕ) (es : List Event) (reason : Reason) → follows steps (record { made = made; asked = asked; step = step }) es ≡ true → first_reason table row es ≡ Some reason → reason.statement < asked_among asked es
  reason_among steps made asked step [] reason trace is = absurd cc
  reason_among steps made asked step (e ∷ es) reason trace is =
      let rule = act_rule (record { made = made; asked = asked; step = step }) e.act in
      let front = nat_le step e.step && nat_le e.step steps && nat_lt e.process made in
      let rest = follows steps (record { made = made_after made e.act; asked = asked_after asked (is_asked e.act); step = e.step }) es in
      let both = and-parts (front && rule) rest trace in
      elim (cases-option (act_reason table row e.act)) [
        | inl none ↦
            let later : first_reason table row es ≡ Some reason = sym (ap (λ (o : Option Reason). option_or o (first_reason table row es)) none) ∙ is in
            reason_among steps (made_after made e.act) (asked_after asked (is_asked e.act)) e.step es reason both.1 later
        | inr here ↦
            let same : Some here.0 ≡ Some reason = sym (ap (λ (o : Option Reason). option_or o (first_reason table row es)) here.1) ∙ is in
            let found : act_reason table row e.act ≡ Some reason = here.1 ∙ same in
            let gives = act_gives made asked step e.act reason found (and-parts front rule both.0).1 in
            let more : asked_after asked (is_asked e.act) ≡ asked + 1 = ap (asked_after asked) gives.1 in
            omega (arith, gives.0, asked_least (asked_after asked (is_asked e.act)) es)
      ]

  -- the start of the run asks nothing
  start_quiet : (path : List ℕ) (act : Act) → starts_on path act ≡ true → (act_reason table row act ≡ None) × (is_asked act ≡ false)
  start_quiet path (Started started) h = (refl, refl)
  start_quiet path other h = absurd cc

  reason_of_test : (path : List ℕ) (steps : ℕ) (events : List Event) (reason : Reason) → trace_test path steps events ≡ true → first_reason table row events ≡ Some reason → reason.statement < asked_count events
  reason_of_test path steps [] reason trace is = absurd cc
  reason_of_test path steps (e ∷ es) reason trace is =
      let both = and-parts (starts path e) (follows steps at_start es) trace in
      let quiet = start_quiet path e.act (and-parts ((e.step == 0) && (e.process == 0)) (starts_on path e.act) both.0).1 in
      let later : first_reason table row es ≡ Some reason = sym (ap (λ (o : Option Reason). option_or o (first_reason table row es)) quiet.0) ∙ is in
      let count : asked_among (asked_after 0 (is_asked e.act)) es ≡ asked_among 0 es = ap (λ (b : Bool). asked_among (asked_after 0 b) es) quiet.1 in
      let below : reason.statement < asked_among 0 es = reason_among steps 1 0 1 es reason both.1 later in
      omega arith

  pub reason_asked : (start : List (List ℕ)) (steps : ℕ) (events : List Event) (reason : Reason) → trace_rule start steps events ≡ true → first_reason table row events ≡ Some reason → reason.statement < asked_count events
  reason_asked [] steps events reason trace is = absurd cc
  reason_asked (word ∷ words) steps events reason trace is = reason_of_test word steps events reason trace is

-- ---- the rows of a package

module _ (start : List (List ℕ)) (steps : ℕ) (events : List Event) (trace : trace_rule start steps events ≡ true) where
  rows_asked : (table : List ℕ) (rows : List TableRow) → list_all (λ row. nat_lt row.statement (asked_count events)) (rows_needed events table rows) ≡ true
  rows_asked table [] = refl
  rows_asked table (row ∷ rows) = elim (cases-option (first_reason table row.number events)) [
    | inl none ↦ rw none (rows_asked table rows)
    | inr found ↦
        let below : found.0.statement < asked_count events = reason_asked table row.number start steps events found.0 trace found.1 in
        let test : nat_lt found.0.statement (asked_count events) ≡ true = lt-ltb found.0.statement (asked_count events) below in
        rw found.1 (and-from (nat_lt found.0.statement (asked_count events)) (list_all (λ r. nat_lt r.statement (asked_count events)) (rows_needed events table rows)) test (rows_asked table rows))
  ]

  tables_asked : (tables : List Table) → reasons_rule (asked_count events) (map (packed_table events) tables) ≡ true
  tables_asked [] = refl
  tables_asked (t ∷ ts) =
      and-from (list_all (λ row. nat_lt row.statement (asked_count events)) (rows_needed events t.name t.rows)) (reasons_rule (asked_count events) (map (packed_table events) ts))
      (rows_asked t.name t.rows) (tables_asked ts)

  pub reasons_asked : (tables : List Table) → reasons_rule (asked_count events) (tables_needed events tables) ≡ true
  reasons_asked tables = tables_asked (filter (λ table. is_table_needed events table.name) tables)
